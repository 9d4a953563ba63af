-- What a quotient leaves.
use Rattle.std.proofs.Common.{◌≡◌, ℤ, int_rem, FitsSigned, to_z, of_z, arith}
use Rattle.std.specs.Int.{w32, w64}
use Rattle.std.proofs.lemmas.Int.{ints, quot-rem}
use Rattle.lil_base.specs.Words.{whole_rest}

pub wide : (z : ℤ) → FitsSigned w32 z → FitsSigned w64 z
wide z h = omega (arith, ints)

pub same_width : (x r : ℤ) → FitsSigned w32 x → r ≡ to_z w32 (of_z w32 x) → r ≡ x
same_width x r f e = omega (arith, ints)

pub rest_is : (a d : ℤ) → int_rem a d ≡ whole_rest a d
rest_is a d = let e = quot-rem a d in omega (arith, ints)
