-- How deep the parts of a text lie in one another: procedures, types, statements, expressions, and factors behind NOT.
use Rattle.std.specs.Prelude.{ℕ, suc, ◌≤◌, List, length, Option, Some, None}
use Rattle.lil_text.specs.declared.token.Token.{Token}

-- None: parts lie as deep as they like. Some (n, late): a part that begins with more than `late` tokens left has at most n parts
-- around it, itself included; one that begins later is free.
abbrev pub Limit : Type 0
Limit = Option (ℕ × ℕ)

-- no part lies deeper than n
abbrev pub within : ℕ → Limit
within n = Some (n, 0)

-- A part may begin with these tokens under the first limit, and the parts in it are under the second.
pub data Inside : Limit → List Token → Limit → Type 0 where
  unlimited : {ts : List Token} → Inside None ts None
  one_less : {n late : ℕ} {ts : List Token} → Inside (Some (suc n, late)) ts (Some (n, late))
  after : {n late : ℕ} {ts : List Token} → length ts ≤ late → Inside (Some (n, late)) ts None
