-- What the rows have in common.
use Rattle.std.proofs.Common.{◌≡◌, ℕ, List, Result, Ok, Err, refl}
use Rattle.std.specs.Prelude.{ℤ}
use Rattle.lil_base.specs.declared.fault.ArithFault.{ArithFault}
use Rattle.lil_mcode.specs.{Table.{State, result_row}, Operators.{word_result, settled}}

pub result_settled : (s : State) (q : ℕ) (rest : List ℕ) (r : Result ℤ ArithFault) → result_row s q rest r ≡ settled s q rest (word_result r)
result_settled s q rest (Ok z) = refl
result_settled s q rest (Err e) = refl
