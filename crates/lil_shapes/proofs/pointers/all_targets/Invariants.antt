use Rattle.std.proofs.Common.{◌≡◌}
use Rattle.lil_shapes.specs.Pointers as spec
use Rattle.lil_shapes.proofs.pointers.all_targets.Given as goal

abbrev pub invariant-loop-number : goal.invariant-loop-number
invariant-loop-number l = l.all ≡ spec.targets_below l.t l.number
