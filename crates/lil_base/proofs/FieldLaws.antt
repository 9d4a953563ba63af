-- A number's bytes give it back.
use Rattle.std.proofs.Common.{◌≡◌, ℕ, List, ◌++◌, length, Some, refl, ap, arith}
use Rattle.std.proofs.lemmas.List.{drop_at}
use Rattle.lil_base.specs.Fields.{bytes16, field16}

-- what was put at the end is what stands there
pub last_field16 : (before : List ℕ) (v : ℕ) → field16 (before ++ bytes16 v) (length before) ≡ Some v
last_field16 before v = rw (drop_at before (bytes16 v) (length before) refl) (ap Some (omega arith))
