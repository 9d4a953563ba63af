-- Which values the operators take, and the numbers of a base's values.
use Rattle.std.proofs.Common.{◌≡◌, ℕ, Bool, true, refl}
use Rattle.std.specs.Prelude.{ℤ, false, if◌then◌else◌}
use Rattle.lil_base.specs.{Words.between, declared.operator.TwoOp.{TwoOp, TheVariants.{In, Or, And}}}
use Rattle.lil_resolved.specs.{Kinds.{Kind, OfTruth, least, greatest}, Resolved.{right_kind, is_relation}, Views.base_view, declared.resolved.RBase.RBase}
use Rattle.lil_resolved.specs.declared.resolved.RBase.TheVariants as b
use Rattle.lil_types.specs.Types.{integer, cardinal}
use Rattle.lil_resolved.specs.Sound as sound

abbrev pub is_truth : Kind → Bool
is_truth OfTruth = true
is_truth _ = false

-- AND and OR take truth values
abbrev pub takes_two : TwoOp → Kind → Bool
takes_two And k = is_truth k
takes_two Or k = is_truth k
takes_two op k = sound.takes_two op k

-- what the value of an operator is on operands of a base
abbrev pub result_base : TwoOp → RBase → RBase
result_base op k = if is_relation op then b.Truth else k

-- what the right operand is beside a left one of a base
abbrev pub right_base : TwoOp → RBase → RBase
right_base In k = b.Set
right_base _ k = k

-- the type of the numbers that INC and DEC of a variable compute with, and its base
abbrev pub counted : RBase → ℕ
counted b.Integer = integer
counted _ = cardinal

abbrev pub counted_base : RBase → RBase
counted_base b.Integer = b.Integer
counted_base _ = b.Cardinal

-- a number is one of a base's values
abbrev pub has_number : RBase → ℤ → Bool
has_number k z = between (least (base_view k)) z (greatest (base_view k))

-- ---- laws of operands
pub is_a_truth : (k : Kind) → is_truth k ≡ true → k ≡ OfTruth
is_a_truth OfTruth h = refl
is_a_truth _ h = cc

pub right_is : (op : TwoOp) (k : RBase) → base_view (right_base op k) ≡ right_kind op (base_view k)
right_is In k = refl
right_is _ k = refl
