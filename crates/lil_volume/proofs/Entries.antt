-- Search in a list of names with their bytes.
use Rattle.std.proofs.Common.{◌≡◌, ℕ, ◌-◌, ◌≤◌, Bool, true, false, cond, List, [], ◌∷◌, length, get_or, take, drop, Some, refl, sym, ◌∙◌, ap, arith}
use Rattle.std.specs.{Ordering.{nat_cmp, eq_by_cmp}, Cmp.Lexicographic.slice_cmp, FinMap.find, Str.bytes_eq, Bool.Decides}
use Rattle.std.proofs.lemmas.{List.take_all, Map.Text.is_eq-slice_cmp, Slice.Eq.bytes_eq-Decides}

abbrev pub Named : Type 0
Named = List ℕ × List ℕ

when_held : (test : Bool) (P : Type 0) → Decides test P → P → test ≡ true
when_held test P decides p = decides.1 p

when_not : (test : Bool) (P : Type 0) → Decides test P → (P → ⊥) → test ≡ false
when_not true P decides n = absurd (n (decides.0 refl))
when_not false P decides n = refl

equal_names : (name other : List ℕ) → other ≡ name → eq_by_cmp (slice_cmp nat_cmp) name other ≡ true
equal_names name other is =
    is_eq-slice_cmp name other ∙ when_held (bytes_eq name other) (name ≡ other) (bytes_eq-Decides name other) (sym is)

other_names : (name other : List ℕ) → (other ≡ name → ⊥) → eq_by_cmp (slice_cmp nat_cmp) name other ≡ false
other_names name other differ =
    is_eq-slice_cmp name other ∙ when_not (bytes_eq name other) (name ≡ other) (bytes_eq-Decides name other) (λ is. differ (sym is))

-- the first entry has the name
pub at_first : (entries : List Named) (first : Named) (name : List ℕ) → 1 ≤ length entries → first ≡ get_or entries 0 first → first.0 ≡ name → Some first.1 ≡ find (slice_cmp nat_cmp) name entries
at_first [] first name some is same = absurd (omega arith)
at_first (entry ∷ rest) first name some is same =
    ap (λ (e : Named). Some e.1) is
    ∙ sym (ap (λ (here : Bool). cond here (Some entry.1) (find (slice_cmp nat_cmp) name rest)) (equal_names name entry.0 (ap (λ (e : Named). e.0) (sym is) ∙ same)))

-- the first entry has another name, and the search goes on behind it
pub behind_first : (entries : List Named) (first : Named) (name : List ℕ) → 1 ≤ length entries → first ≡ get_or entries 0 first → (first.0 ≡ name → ⊥) → find (slice_cmp nat_cmp) name (take (length entries - 1) (drop 1 entries)) ≡ find (slice_cmp nat_cmp) name entries
behind_first [] first name some is differ = absurd (omega arith)
behind_first (entry ∷ rest) first name some is differ =
    ap (λ (others : List Named). find (slice_cmp nat_cmp) name others) (take_all (length (entry ∷ rest) - 1) rest (omega arith))
    ∙ sym (ap (λ (here : Bool). cond here (Some entry.1) (find (slice_cmp nat_cmp) name rest)) (other_names name entry.0 (λ same. differ (ap (λ (e : Named). e.0) is ∙ same))))
