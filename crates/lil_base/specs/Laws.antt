-- What it says of a number to lie in a type, and what the results in that type are.
use Rattle.std.proofs.Common.{◌≡◌, ℕ, ◌≤◌, ℤ, pos, negsuc, ◌≤ℤ◌, true, Ok, Err, refl, arith}
use Rattle.std.proofs.lemmas.{Int.ints, Bool.{cond-true, Decides.nat_tests}}
use Rattle.lil_base.specs.{declared.fault.ArithFault.TheVariants.Overflow, Words.{Whole, Cardinal, Integer, between, in_type, kept, number_of, word_of}}

pub in_type_card : (n : ℕ) → n ≤ 65535 → in_type Cardinal (pos n) ≡ true
in_type_card n h = grind arith

-- a number in its type is its own result
pub kept_in : (t : Whole) (z : ℤ) → in_type t z ≡ true → kept t z ≡ Ok z
kept_in t z h = cond-true (in_type t z) (Ok z) (Err Overflow) h

-- a result is the number itself, and lies in the type
pub kept_ok : (t : Whole) (z v : ℤ) → kept t z ≡ Ok v → (z ≡ v) × (in_type t z ≡ true)
kept_ok t z v h = grind arith

-- a number in its type has a word, which says that number
pub number_of-word : (t : Whole) (z : ℤ) → in_type t z ≡ true → number_of t (word_of z) ≡ z
number_of-word Cardinal (pos n) h = refl
number_of-word Cardinal (negsuc n) h = cc
number_of-word Integer (pos n) h = grind (arith, nat_tests)
number_of-word Integer (negsuc n) h = grind (arith, nat_tests)

-- a number that lies in a range lies between its ends
pub bounds : (low z high : ℤ) → between low z high ≡ true → (low ≤ℤ z) × (z ≤ℤ high)
bounds low z high h = grind (arith, ints)

pub in_range : (low z high : ℤ) → low ≤ℤ z → z ≤ℤ high → between low z high ≡ true
in_range low z high a b = grind (arith, ints)
