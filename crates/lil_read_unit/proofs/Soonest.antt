-- The least of some places, found one after the other.
use Rattle.std.proofs.Common.{◌≡◌, ◌⊎◌, ◌+◌, ◌<◌, ◌≤◌, nat_lt, subst, Bool, true, false, List, [], ◌∷◌, ◌++◌, None, Some, if◌then◌else◌, refl, sym, ap, ◌∙◌, inl, inr, arith}
use Rattle.std.proofs.lemmas.Bool.{ltb-true, ltb-false, lt-ltb}
use Rattle.lil_base.specs.declared.fault.Place.{Place}
use Rattle.lil_language.specs.Units.{AllFrom, IsLeast, sooner, least}

some_same : {p q : Place} → Some p ≡ Some q → q ≡ p
some_same e = cc

-- found before, or sooner among the others
abbrev Found : Place → List Place → Place → Type 0
Found q ps p = ((p ≡ q) × AllFrom q.offset ps) ⊎ (IsLeast ps p × (p.offset < q.offset))

with_first : {x p : Place} {ps : List Place} → p.offset < x.offset → IsLeast ps p → IsLeast (x ∷ ps) p
with_first {x} {p} less h = record { before = x ∷ h.before; after = h.after; cut = ap (λ ps. x ∷ ps) h.cut; earlier = (omega (arith, less), h.earlier); later = h.later }

step : (q x p : Place) (ps : List Place) (b : Bool) → nat_lt x.offset q.offset ≡ b → Found (if b then x else q) ps p → Found q (x ∷ ps) p
step q x p ps true is (inl h) = inr (record { before = []; after = ps; cut = ap (λ y. y ∷ ps) (sym h.0); earlier = tt; later = first h.0 h.1 }, below h.0)
  where
    first : {y : Place} → p ≡ y → AllFrom y.offset ps → AllFrom p.offset ps
    first e h = subst (λ (y : Place). AllFrom y.offset ps) (sym e) h

    below : p ≡ x → p.offset < q.offset
    below e = let less : x.offset < q.offset = ltb-true x.offset q.offset is in omega (arith, less, ap (λ (y : Place). y.offset) e)
step q x p ps true is (inr h) = let less : x.offset < q.offset = ltb-true x.offset q.offset is in inr (with_first h.1 h.0, omega (arith, less, h.1))
step q x p ps false is (inl h) = let less : q.offset ≤ x.offset = ltb-false x.offset q.offset is in inl (h.0, (less, h.1))
step q x p ps false is (inr h) = let less : q.offset ≤ x.offset = ltb-false x.offset q.offset is in inr (with_first (omega (arith, less, h.1)) h.0, h.1)

found : (q p : Place) (ps : List Place) → least (Some q) ps ≡ Some p → Found q ps p
unfolding least
found q p [] e = inl (some_same e, tt)
found q p (x ∷ ps) e = step q x p ps (nat_lt x.offset q.offset) refl (found (sooner (Some q) x) p ps e)

pub least_is : (ps : List Place) (p : Place) → least None ps ≡ Some p → IsLeast ps p
unfolding least
least_is [] p e = absurd (cc)
least_is (x ∷ ps) p e = elim (found x p ps e) [
  | inl h ↦ record { before = []; after = ps; cut = ap (λ y. y ∷ ps) (sym h.0); earlier = tt; later = subst (λ (y : Place). AllFrom y.offset ps) (sym h.0) h.1 }
  | inr h ↦ with_first h.1 h.0
]

pub some_least : (q : Place) (ps : List Place) → least (Some q) ps ≡ None → ⊥
unfolding least
some_least q [] e = absurd (cc)
some_least q (x ∷ ps) e = some_least (sooner (Some q) x) ps e

pub none_least : (ps : List Place) → least None ps ≡ None → ps ≡ []
unfolding least
none_least [] e = refl
none_least (x ∷ ps) e = absurd (some_least x ps e)

keeps_by : (q x : Place) (ps : List Place) → q.offset ≤ x.offset → (b : Bool) → nat_lt x.offset q.offset ≡ b → least (Some q) ps ≡ Some q → least (Some (if b then x else q)) ps ≡ Some q
keeps_by q x ps no_less true is h = let less : x.offset < q.offset = ltb-true x.offset q.offset is in absurd (omega (arith, less, no_less))
keeps_by q x ps no_less false is h = h

keeps : (q : Place) (ps : List Place) → AllFrom q.offset ps → least (Some q) ps ≡ Some q
unfolding least
keeps q [] h = refl
keeps q (x ∷ ps) h = keeps_by q x ps h.0 (nat_lt x.offset q.offset) refl (keeps q ps h.1)

either : (q x p : Place) (ps : List Place) (b : Bool) → least (Some x) ps ≡ Some p → least (Some q) ps ≡ Some p → least (Some (if b then x else q)) ps ≡ Some p
either q x p ps true h k = h
either q x p ps false h k = k

reached : (q p : Place) (before after : List Place) → p.offset < q.offset → AllFrom (p.offset + 1) before → AllFrom p.offset after → least (Some q) (before ++ p ∷ after) ≡ Some p
unfolding least
reached q p [] after less h k = ap (λ b. least (Some (if b then p else q)) after) (lt-ltb p.offset q.offset less) ∙ keeps p after k
reached q p (x ∷ before) after less h k =
    either q x p (before ++ p ∷ after) (nat_lt x.offset q.offset) (reached x p before after (omega (arith, h.0)) h.1 k) (reached q p before after less h.1 k)

least_of : (p : Place) (before after : List Place) → AllFrom (p.offset + 1) before → AllFrom p.offset after → least None (before ++ p ∷ after) ≡ Some p
unfolding least
least_of p [] after h k = keeps p after k
least_of p (x ∷ before) after h k = reached x p before after (omega (arith, h.0)) h.1 k

pub is_least : (ps : List Place) (p : Place) → IsLeast ps p → least None ps ≡ Some p
is_least ps p h = ap (least None) h.cut ∙ least_of p h.before h.after h.earlier h.later
