-- What the operators and comparisons of the processor compute.
use Rattle.std.specs.Prelude.{ℕ, ℤ, Bool, List, ◌∷◌, Result, Ok, Err}
use Rattle.lil_base.specs.{Words.{Whole, Cardinal, Integer, sum, difference, product, quotient, remainder, word_of}, Sets.{union, minus, meet, apart, is_within}, Traps.arith_trap, declared.fault.ArithFault.ArithFault}
use Rattle.lil_mcode.specs.declared.{arithmetic.{Operator.{Operator, TheVariants.{Sum, Difference, Product, Quotient, Remainder}}, Comparison.{Comparison, TheVariants.{Equal, Unequal, LessCardinal, AtMostCardinal, LessInteger, AtMostInteger, Member, Within}}, Joining.{Joining, TheVariants.{Union, Minus, Meet, Apart}}}, machine.Event.Event}
use Rattle.lil_mcode.specs.{declared.machine.Event.TheVariants.{Went, Trap}, Table.{State, equal, unequal, less, at_most, is_member, going}}

abbrev pub operator_of : Operator → Whole → ℤ → ℤ → Result ℤ ArithFault
operator_of Sum = sum
operator_of Difference = difference
operator_of Product = product
operator_of Quotient = quotient
operator_of Remainder = remainder

abbrev pub comparison_of : Comparison → ℕ → ℕ → Bool
comparison_of Equal = equal
comparison_of Unequal = unequal
comparison_of LessCardinal = less Cardinal
comparison_of AtMostCardinal = at_most Cardinal
comparison_of LessInteger = less Integer
comparison_of AtMostInteger = at_most Integer
comparison_of Member = is_member
comparison_of Within = is_within

abbrev pub joined_by : Joining → ℕ → ℕ → ℕ
joined_by Union = union
joined_by Minus = minus
joined_by Meet = meet
joined_by Apart = apart

-- a result as the word that says it
abbrev pub word_result : Result ℤ ArithFault → Result ℕ ArithFault
word_result (Ok z) = Ok (word_of z)
word_result (Err e) = Err e

-- a word in place of the operands, or a trap
abbrev pub settled : State → ℕ → List ℕ → Result ℕ ArithFault → Event × State
settled s q rest (Ok w) = (Went, going s q (w ∷ rest))
settled s q rest (Err e) = (Trap (arith_trap e), s)
