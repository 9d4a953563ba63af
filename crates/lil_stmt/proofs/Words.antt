-- The words of the numbers of values.
use Rattle.std.proofs.Common.{◌≡◌, ℤ, pos, negsuc, ◌≤ℤ◌, true, arith}
use Rattle.std.proofs.lemmas.Int.{ints}
use Rattle.lil_base.specs.{Words.{Whole, Cardinal, Integer, in_type}, Laws.bounds}

-- the number of a value has a word of 16 bits
pub in_word : (t : Whole) (z : ℤ) → in_type t z ≡ true → (negsuc 32767 ≤ℤ z) × (z ≤ℤ pos 65535)
in_word Cardinal z h = let b = bounds (pos 0) z (pos 65535) h in (omega (arith, ints, b.0), b.1)
in_word Integer z h = let b = bounds (negsuc 32767) z (pos 32767) h in (b.0, omega (arith, ints, b.1))
