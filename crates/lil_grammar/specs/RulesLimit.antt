-- The limit of nesting: a part one level in, and the refusal of any part where no level is left.
use Rattle.std.proofs.Common.{◌≡◌, ◌⊎◌, ℕ, zero, suc, ◌≤◌, Bool, true, false, List, [], ◌∷◌, length, Some, None, refl, ap, ◌∙◌, inl, inr}
use Rattle.lil_text.specs.{declared.token.{Token.Token, TokenKind.TokenKind}, Nesting.{Limit, Inside, unlimited, one_less, after}}
use Rattle.lil_grammar.specs.{Steps.{Parser, first, place_of, at, either_by, refuse, too_deep, shallow}, Rules.{Late, IsFree, Relation, Answered, Rule, Begins}, RulesTokens.by_first}

-- at most n parts in one another
abbrev pub limit : ℕ → Late → Limit
limit n None = None
limit n (Some late) = Some (n, late)

pub inside_next : (n : ℕ) (late : Late) (ts : List Token) → Inside (limit (suc n) late) ts (limit n late)
inside_next n None ts = unlimited
inside_next n (Some late) ts = one_less

pub inside_free : (n : ℕ) (late : Late) (ts : List Token) → IsFree late (length ts) → Inside (limit n late) ts None
inside_free n None ts h = unlimited
inside_free n (Some late) ts h = after h

-- where a part may begin, and what then holds inside it
pub inside_next_is : (n : ℕ) (late : Late) (ts : List Token) (inner : Limit) → Inside (limit (suc n) late) ts inner → (inner ≡ limit n late) ⊎ (IsFree late (length ts) × (inner ≡ None))
inside_next_is n None ts inner unlimited = inl refl
inside_next_is n (Some late) ts inner one_less = inl refl
inside_next_is n (Some late) ts inner (after h) = inr (h, refl)

pub inside_zero_is : (late : Late) (ts : List Token) (inner : Limit) → Inside (limit zero late) ts inner → IsFree late (length ts) × (inner ≡ None)
inside_zero_is None ts inner unlimited = (tt, refl)
inside_zero_is (Some late) ts inner (after h) = (h, refl)

-- ---- no part may begin
module _ {A : Type 0} (test : TokenKind → Bool) (R : Relation A) (F : List Token → Type 0)
    (begins : (late : Late) (ts rest : List Token) (a : A) → R late ts rest a → at test ts ≡ true)
    (free : (late : ℕ) (ts rest : List Token) (a : A) → R (Some late) ts rest a → length ts ≤ late)
    (each : (t : Token) → test t.what ≡ true → Begins R [] (t ∷ [])) (some : Begins R [] []) where
  abbrev by_test : Bool → Parser A
  by_test = either_by too_deep refuse

  same_by : (b : Bool) (t : Token) (ts us : List Token) → by_test b (t ∷ ts) ≡ by_test b (t ∷ us)
  unfolding place_of
  same_by true t ts us = refl
  same_by false t ts us = refl

  again : (more ts : List Token) → first more ≡ first ts → shallow test more ≡ by_test (at test ts) ts
  unfolding at
  again = by_first (λ more ts. shallow test more ≡ by_test (at test ts) ts) refl (λ t more ts. same_by (test t.what) t more ts)

  answered_by : (ts : List Token) (b : Bool) → at test ts ≡ b → Answered (shallow test) R F ts (by_test b ts)
  unfolding at place_of
  answered_by [] true begun = absurd (cc)
  answered_by (t ∷ ts) true begun = record {
    front = [];
    rest = t ∷ ts;
    on = t ∷ [];
    cut = refl;
    again = λ more h. again more (t ∷ ts) h ∙ ap (λ b. by_test b (t ∷ ts)) begun;
    begins = each t begun;
    why = inr (record { token = t; tail = ts; one = refl; cut = refl; is = refl; keeps_none = λ more late rest a k f. free late (t ∷ more) rest a k });
  }
  answered_by ts false begun = record {
    front = [];
    rest = ts;
    on = [];
    cut = refl;
    again = λ more h. again more ts h ∙ ap (λ b. by_test b ts) begun;
    begins = some;
    why = inl (record { none = refl; is = refl; at_end = refl });
  }

  pub rule_shallow : Rule (shallow test) R F
  rule_shallow = record {
    answered = λ ts. answered_by ts (at test ts) refl;
    reaches = λ late ts rest a h f. inl (place_of ts, ap (λ b. by_test b ts) (begins late ts rest a h));
    some = some;
  }
