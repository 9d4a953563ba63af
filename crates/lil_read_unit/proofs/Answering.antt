-- What a reader of units answers, by what the reader of the whole text answered.
use Rattle.std.proofs.Common.{◌≡◌, ◌⊎◌, ℕ, List, [], ◌∷◌, ◌++◌, Option, None, Some, Result, Ok, Err, IfOk, IfErr, refl, subst, sym, ap, ◌∙◌, inl, inr}
use Rattle.lil_base.specs.{declared.fault.{Place.Place, SourceFault.SourceFault}, Faults.fault}
use Rattle.lil_text.specs.{declared.{token.Token.Token, stop.ReadStop.{ReadStop, TheVariants.{Fault, Memory}}}, Nesting.within}
use Rattle.lil_grammar.specs.{Steps.{Reads, at}, Places.StopsAt, Rules.ok_same}
use Rattle.lil_language.specs.{Grammar.{Derives, Ends, reading, text}, Sound.text_decided, Units.{deepest, token_count, IsUnit, IsRightUnit, HasUnitFault, wrong_ends, least}, declared.unit.Unit.Unit as Tree}
use Rattle.lil_language.specs.Laws as laws
use Rattle.lil_read_unit.specs.Settled.{ended, settled}
use Rattle.lil_read_unit.proofs.Soonest.{least_is, is_least, none_least}

-- anything may stand behind the end of a text
any_end : (n : ℕ) (ts : List Token) → Ends (text n) ts
unfolding text at
any_end n [] = refl
any_end n (t ∷ ts) = refl

no_place : (p : Place) (before after : List Place) → [] ≡ before ++ p ∷ after → ⊥
no_place p [] after e = absurd (cc)
no_place p (q ∷ before) after e = absurd (cc)

-- the reader's tokens and the weight are those of the text
pub whole : (ts us : List Token) (w : ℕ) (r : Result Tree ReadStop) (new : List Token) → us ≡ ts → w ≡ token_count ts → Reads (reading deepest (text w) us) r new → Reads (reading deepest (text (token_count ts)) ts) r new
whole ts us w r new e e' h = subst (λ w. Reads (reading deepest (text w) ts) r new) e' (subst (λ us. Reads (reading deepest (text w) us) r new) e h)

none_is : (u : Tree) → ended u (least None []) ≡ Ok u
unfolding least
none_is u = refl

module _ (ts : List Token) where
  abbrev n : ℕ
  n = token_count ts

  pub one : (u v : Tree) → IsRightUnit ts u → IsRightUnit ts v → u ≡ v
  one u v h k = (laws.unique (text n) (text_decided n) (within deepest) (within deepest) ts h.0.0 k.0.0 u v h.0.1 k.0.1 (any_end n h.0.0) (any_end n k.0.0)).0

  same_unit : (u v : Tree) → IsUnit ts u → IsUnit ts v → u ≡ v
  same_unit u v h k = (laws.unique (text n) (text_decided n) (within deepest) (within deepest) ts h.0 k.0 u v h.1 k.1 (any_end n h.0) (any_end n k.0)).0

  pub apart : (u : Tree) (f : SourceFault) → IsRightUnit ts u → HasUnitFault ts f → ⊥
  apart u f h (inl stops) = laws.never_both (text n) (text_decided n) deepest ts h.0.0 u f h.0.1 (any_end n h.0.0) stops
  apart u f h (inr k) = no_place k.2.0 k.2.1.before k.2.1.after (sym h.1 ∙ ap wrong_ends (same_unit u k.0 h.0 k.1) ∙ k.2.1.cut)

  pub whole_text : ((u : Tree) × IsRightUnit ts u) ⊎ ((f : SourceFault) × HasUnitFault ts f)
  whole_text = elim (laws.read_or_stopped (text n) (text_decided n) deepest ts) [ inl h ↦ by_ends h.0 h.1 h.2 | inr h ↦ inr (h.0, inl h.1) ]
    where
      by_least : (u : Tree) (rest : List Token) → Derives (text n) (within deepest) ts rest u → (o : Option Place) → least None (wrong_ends u) ≡ o → ((u : Tree) × IsRightUnit ts u) ⊎ ((f : SourceFault) × HasUnitFault ts f)
      by_least u rest h None e = inl (u, ((rest, h), none_least (wrong_ends u) e))
      by_least u rest h (Some p) e = inr (fault 11 p, inr (u, (rest, h), (p, least_is (wrong_ends u) p e, refl)))

      by_ends : (u : Tree) (rest : List Token) → Derives (text n) (within deepest) ts rest u → ((u : Tree) × IsRightUnit ts u) ⊎ ((f : SourceFault) × HasUnitFault ts f)
      by_ends u rest h = by_least u rest h (least None (wrong_ends u)) refl

  module _ (new : List Token) where
    found_by : (r : Result Tree ReadStop) → IfOk r (λ u. Derives (text n) (within deepest) ts new u) → IfOk (settled r) (λ u. IsRightUnit ts u)
    found_by (Ok u) h = by (least None (wrong_ends u)) refl
      where
        by : (o : Option Place) → least None (wrong_ends u) ≡ o → IfOk (ended u o) (λ u. IsRightUnit ts u)
        by None e = ((new, h), none_least (wrong_ends u) e)
        by (Some p) e = tt
    found_by (Err e) h = tt

    fault_by : (r : Result Tree ReadStop) → IfOk r (λ u. Derives (text n) (within deepest) ts new u) → IfErr r (λ e. StopsAt (Derives (text n)) deepest ts e) → (f : SourceFault) → settled r ≡ Err (Fault f) → HasUnitFault ts f
    fault_by (Ok u) h k f is = by (least None (wrong_ends u)) refl is
      where
        by : (o : Option Place) → least None (wrong_ends u) ≡ o → ended u o ≡ Err (Fault f) → HasUnitFault ts f
        by None e is = absurd (cc)
        by (Some p) e is = let same : f ≡ fault 11 p = cc in inr (u, (new, h), (p, least_is (wrong_ends u) p e, same))
    fault_by (Err (Fault g)) h k f is = let same : g ≡ f = cc in inl (subst (λ g. StopsAt (Derives (text n)) deepest ts (Fault g)) same k)
    fault_by (Err Memory) h k f is = absurd (cc)

    -- a unit that is there was read, or memory was refused
    read_by : (r : Result Tree ReadStop) (u : Tree) (rest : List Token) → Reads (Ok (u, rest)) r new → (r ≡ Ok u) ⊎ (r ≡ Err Memory)
    read_by (Ok v) u rest h = inl (ap (λ y. Ok y.0) (sym (ok_same h)))
    read_by (Err (Fault f)) u rest h = let e = h (λ e. absurd (cc)) in absurd (cc)
    read_by (Err Memory) u rest h = inr refl

    stopped_by : (r : Result Tree ReadStop) (f : SourceFault) → Reads (Err (Fault f)) r new → (r ≡ Err (Fault f)) ⊎ (r ≡ Err Memory)
    stopped_by (Ok v) f h = absurd (cc)
    stopped_by (Err (Fault g)) f h = let e = h (λ e. absurd (cc)) in let same : g ≡ f = cc in inl (ap (λ g. Err (Fault g)) same)
    stopped_by (Err Memory) f h = inr refl

    module _ (r : Result Tree ReadStop) (reads : Reads (reading deepest (text n) ts) r new) where
      pub found : IfOk (settled r) (λ u. IsRightUnit ts u)
      found = found_by r (laws.found (text n) (text_decided n) deepest ts new r reads)

      pub fault_is : (f : SourceFault) → settled r ≡ Err (Fault f) → HasUnitFault ts f
      fault_is = fault_by r (laws.found (text n) (text_decided n) deepest ts new r reads) (laws.stops (text n) (text_decided n) deepest ts new r reads)

      was_read : (u : Tree) → IsUnit ts u → (r ≡ Ok u) ⊎ (r ≡ Err Memory)
      was_read u h = read_by r u h.0 (laws.only (text n) (text_decided n) deepest ts new r reads u h.0 h.1 (any_end n h.0))

      pub only : (u : Tree) → IsRightUnit ts u → (settled r ≡ Ok u) ⊎ (settled r ≡ Err Memory)
      only u h = elim (was_read u h.0) [
        | inl e ↦ inl (ap settled e ∙ ap (λ ps. ended u (least None ps)) h.1 ∙ none_is u)
        | inr e ↦ inr (ap settled e)
      ]

      pub exact : (f : SourceFault) → HasUnitFault ts f → (settled r ≡ Err (Fault f)) ⊎ (settled r ≡ Err Memory)
      exact f (inl stops) = elim (stopped_by r f (laws.exactly (text n) (text_decided n) deepest ts new r reads (Err (Fault f)) stops)) [ inl e ↦ inl (ap settled e) | inr e ↦ inr (ap settled e) ]
      exact f (inr k) = elim (was_read k.0 k.1) [
        | inl e ↦ inl (ap settled e ∙ ap (ended k.0) (is_least (wrong_ends k.0) k.2.0 k.2.1) ∙ ap (λ f. Err (Fault f)) (sym k.2.2))
        | inr e ↦ inr (ap settled e)
      ]
