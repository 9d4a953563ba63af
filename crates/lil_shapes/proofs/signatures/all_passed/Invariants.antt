use Rattle.std.proofs.Common.{◌≡◌, map, take}
use Rattle.lil_shapes.specs.Signatures as spec
use Rattle.lil_shapes.proofs.signatures.all_passed.Given as goal

abbrev pub invariant-loop-one : goal.invariant-loop-one
invariant-loop-one l = l.all ≡ map spec.passed (take l.one-index l.of)
