-- The procedure that runs at a place.
use Rattle.std.proofs.Common.{◌≡◌, ◌⊎◌, inl, inr, ℕ, zero, suc, ◌<◌, ◌≤◌, List, [], ◌∷◌, Option, Some, refl, sym, ap, subst, arith}
use Rattle.std.specs.Prelude.{slice_get}
use Rattle.std.proofs.lemmas.{Bool.cases_lt, Option.same_Some}
use Rattle.lil_mcode.specs.Calls.{IsRunning}

abbrev Procedures : Type 0
Procedures = List (ℕ × Option (List ℕ))

-- all begin behind a place, or one doesn't
abbrev Above : Procedures → ℕ → Type 0
Above ps place = (k e : ℕ) (n : Option (List ℕ)) → slice_get ps k ≡ Some (e, n) → place < e

pub record Below (ps : Procedures) (place : ℕ) : Type 0 where
  pub index : ℕ
  pub entry : ℕ
  pub name : Option (List ℕ)
  pub there : slice_get ps index ≡ Some (entry, name)
  pub low : entry ≤ place

decided : (ps : Procedures) (place : ℕ) → Above ps place ⊎ Below ps place
decided [] place = inl (λ k e n there. cc)
decided (p ∷ ps) place = by (cases_lt place p.0) (decided ps place)
  where
    above : place < p.0 → Above ps place → Above (p ∷ ps) place
    above here rest zero e n there =
        let same : p.0 ≡ e = ap (λ (x : ℕ × Option (List ℕ)). x.0) (same_Some p (e, n) there) in
        omega (arith, here, same)
    above here rest (suc k) e n there = rest k e n there

    by : (place < p.0) ⊎ (p.0 ≤ place) → Above ps place ⊎ Below ps place → Above (p ∷ ps) place ⊎ Below (p ∷ ps) place
    by (inr low) rest = inr (record { index = 0; entry = p.0; name = p.1; there = refl; low = low })
    by (inl here) (inl rest) = inl (above here rest)
    by (inl here) (inr b) = inr (record { index = suc b.index; entry = b.entry; name = b.name; there = b.there; low = b.low })

-- the procedure that runs is one of the table
pub runs_there : (ps : Procedures) (place q entry : ℕ) (name : Option (List ℕ)) → slice_get ps 0 ≡ Some (entry, name) → IsRunning ps place q → (x : ℕ × Option (List ℕ)) × (slice_get ps q ≡ Some x)
runs_there ps place q entry name first r = by (decided ps place)
  where
    by : Above ps place ⊎ Below ps place → (x : ℕ × Option (List ℕ)) × (slice_get ps q ≡ Some x)
    by (inl all) = ((entry, name), subst (λ (k : ℕ). slice_get ps k ≡ Some (entry, name)) (sym (r.none all)) first)
    by (inr b) = let f = r.some b.index b.entry b.name b.there b.low in ((f.0, f.1), f.2)
