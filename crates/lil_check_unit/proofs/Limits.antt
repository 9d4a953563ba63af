-- Whether the data of a module are too long, from their words as far as they fit.
use Rattle.std.proofs.Common.{◌≡◌, ℕ, min, nat_lt, arith}
use Rattle.std.proofs.lemmas.Bool.Decides.{nat_tests}

pub too_long : (n : ℕ) → nat_lt 32000 (min n 4294967295) ≡ nat_lt 32000 n
too_long n = grind (arith, nat_tests)
