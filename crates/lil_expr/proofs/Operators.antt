-- The instructions of operators.
use Rattle.std.proofs.Common.{◌≡◌, ◌≢◌, Bool, false, cond, refl, ap, ◌∙◌}
use Rattle.lil_base.specs.declared.operator.{OneOp.OneOp, TwoOp.{TwoOp, TheVariants.In}}
use Rattle.lil_base.specs.declared.operator.OneOp.TheVariants as one
use Rattle.lil_resolved.specs.{Kinds.{Kind, OfSet, is_set, compared_as}, Resolved.right_kind}
use Rattle.lil_table.specs.Rows.{one_code, number_code, set_code, two_code}

-- the kind chooses no code of these
pub one_same : (o : OneOp) (k j : Kind) → one_code o k ≡ one_code o j
one_same one.Plus k j = refl
one_same _ k j = refl

by_kind : (o : TwoOp) (k : Kind) → o ≢ In → two_code o k ≡ cond (is_set k) (set_code o) (number_code o (compared_as k))
by_kind In k other = absurd (other refl)
by_kind _ k other = refl

-- but for IN, the code of an operator on two numbers is chosen by the type as which their words are compared
pub two_by_numbers : (o : TwoOp) (k : Kind) → o ≢ In → is_set k ≡ false → two_code o k ≡ number_code o (compared_as k)
two_by_numbers o k other apart = by_kind o k other ∙ ap (λ (b : Bool). cond b (set_code o) (number_code o (compared_as k))) apart

pub two_by_sets : (o : TwoOp) → o ≢ In → two_code o OfSet ≡ set_code o
two_by_sets o other = by_kind o OfSet other

-- the right operand's kind chooses the same code
pub two_right : (o : TwoOp) (k : Kind) → two_code o (right_kind o k) ≡ two_code o k
two_right In k = refl
two_right _ k = refl
