use Rattle.lil_kernel.proofs.Digits.{Left}
use Rattle.lil_kernel.proofs.numbers.digits_backward.Given as goal

abbrev pub invariant-loop-rest : goal.invariant-loop-rest
invariant-loop-rest l = Left l.base l.fn.number l.text.items l.rest

abbrev pub decreases-loop-rest : goal.decreases-loop-rest
decreases-loop-rest l = l.rest
