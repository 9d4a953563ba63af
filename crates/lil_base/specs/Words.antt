-- Arithmetic in whole numbers: results are defined where they lie in the range of their type.
use Rattle.std.specs.Prelude.{ℕ, ◌-◌, ℤ, pos, negsuc, ◌+ℤ◌, ◌-ℤ◌, ◌*ℤ◌, neg_ℤ, nat_abs, int_div, nat_eq, Bool, false, not, ◌&&◌, int_lt, nat_lt, Result, Ok, Err, if◌then◌else◌}
use Rattle.lil_base.specs.declared.fault.ArithFault.{ArithFault, TheVariants.{Overflow, DivZero}}

-- the two types of whole numbers
pub data Whole : Type 0 where
  Cardinal : Whole
  Integer : Whole

abbrev pub least : Whole → ℤ
least Cardinal = pos 0
least Integer = negsuc 32767

abbrev pub greatest : Whole → ℤ
greatest Cardinal = pos 65535
greatest Integer = pos 32767

-- a number lies in a range, its ends included
abbrev pub between : ℤ → ℤ → ℤ → Bool
between low z high = not (int_lt z low) && not (int_lt high z)

abbrev pub in_type : Whole → ℤ → Bool
in_type t z = between (least t) z (greatest t)

-- a result that has to lie in its type
abbrev pub kept : Whole → ℤ → Result ℤ ArithFault
kept t z = if in_type t z then Ok z else Err Overflow

abbrev pub sum : Whole → ℤ → ℤ → Result ℤ ArithFault
sum t x y = kept t (x +ℤ y)

abbrev pub difference : Whole → ℤ → ℤ → Result ℤ ArithFault
difference t x y = kept t (x -ℤ y)

abbrev pub product : Whole → ℤ → ℤ → Result ℤ ArithFault
product t x y = kept t (x *ℤ y)

-- whether a divisor is zero
abbrev pub is_zero : ℤ → Bool
is_zero (pos n) = nat_eq n 0
is_zero (negsuc n) = false

-- the quotient in whole numbers, rounded toward zero
abbrev pub whole_quotient : ℤ → ℤ → ℤ
whole_quotient x y = int_div x y

-- what that quotient leaves, in whole numbers
abbrev pub whole_rest : ℤ → ℤ → ℤ
whole_rest x y = x -ℤ whole_quotient x y *ℤ y

abbrev pub quotient : Whole → ℤ → ℤ → Result ℤ ArithFault
quotient t x y = if is_zero y then Err DivZero else kept t (whole_quotient x y)

abbrev pub remainder : Whole → ℤ → ℤ → Result ℤ ArithFault
remainder t x y = if is_zero y then Err DivZero else kept t (whole_rest x y)

abbrev pub negation : Whole → ℤ → Result ℤ ArithFault
negation t x = kept t (neg_ℤ x)

abbrev pub absolute : Whole → ℤ → Result ℤ ArithFault
absolute t x = kept t (pos (nat_abs x))

-- an answer in natural numbers, as one in whole numbers
abbrev pub cardinal_result : Result ℕ ArithFault → Result ℤ ArithFault
cardinal_result (Ok n) = Ok (pos n)
cardinal_result (Err e) = Err e

-- the number that a word says
abbrev pub number_of : Whole → ℕ → ℤ
number_of Cardinal w = pos w
number_of Integer w = if nat_lt w 32768 then pos w else negsuc (65535 - w)

-- the word of a number from -32768 to 65535
abbrev pub word_of : ℤ → ℕ
word_of (pos n) = n
word_of (negsuc n) = 65535 - n
