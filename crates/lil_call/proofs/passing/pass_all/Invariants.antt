use Rattle.std.proofs.Common.{length}
use Rattle.lil_call.specs.Passing as spec
use Rattle.lil_call.proofs.Walks.{Ahead}
use Rattle.lil_call.proofs.passing.pass_all.Given as goal

abbrev pub invariant-loop-x : goal.invariant-loop-x
invariant-loop-x l = Ahead (spec.argument_step l.fn.t l.fn.resident l.fn.sort) l.fn.start l.fn.arguments l.fn.report l.s l.left l.report

abbrev pub decreases-loop-x : goal.decreases-loop-x
decreases-loop-x l = length l.left
