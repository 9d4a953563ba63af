-- Bytes that are written where there are some.
use Rattle.std.proofs.Common.{◌≡◌, ℕ, zero, suc, ◌≤◌, List, [], ◌∷◌, length, refl, ap, arith}
use Rattle.std.specs.Prelude.{slice_set}

-- behind the end nothing is written
pub set_past : (xs : List ℕ) (at v : ℕ) → length xs ≤ at → slice_set xs at v ≡ xs
set_past [] at v h = refl
set_past (x ∷ xs) zero v h = absurd (omega arith)
set_past (x ∷ xs) (suc at) v h = ap (λ (ys : List ℕ). x ∷ ys) (set_past xs at v (omega arith))
