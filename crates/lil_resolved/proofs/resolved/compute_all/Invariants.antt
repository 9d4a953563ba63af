use Rattle.std.proofs.Common.{◌≡◌, drop}
use Rattle.lil_resolved.specs.Chains.{all_arithmetic}
use Rattle.lil_resolved.proofs.resolved.compute_all.Given as goal

-- what is left decides
abbrev pub invariant-loop-operation : goal.invariant-loop-operation
invariant-loop-operation l = all_arithmetic (drop l.operation-index l.operations) ≡ all_arithmetic l.operations
