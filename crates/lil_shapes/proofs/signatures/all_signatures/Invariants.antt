use Rattle.std.proofs.Common.{◌≡◌}
use Rattle.lil_shapes.specs.Signatures as spec
use Rattle.lil_shapes.proofs.signatures.all_signatures.Given as goal

abbrev pub invariant-loop-number : goal.invariant-loop-number
invariant-loop-number l = l.all ≡ spec.signatures_below l.t l.number
