-- Numbers that digits say to a base.
use Rattle.std.proofs.Common.{ℕ, ◌+◌, ◌*◌, ◌≤◌, List, [], ◌∷◌, arith}
use Rattle.std.proofs.lemmas.Nat.{mul-le}
use Rattle.lil_text.specs.Lexical.{digit_value, value_behind}

-- a number doesn't fall as digits come behind it
pub grows : (base n : ℕ) (ds : List ℕ) → 1 ≤ base → n ≤ value_behind base n ds
grows base n [] some = omega arith
grows base n (d ∷ ds) some = omega (arith, mul-le 1 n base n some (omega arith), grows base (base * n + digit_value d) ds some)
