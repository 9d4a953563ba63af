use Rattle.std.proofs.Common.{arith}
use Rattle.std.proofs.lemmas.Grind.{common_steps}
use Rattle.lil_labels.specs.Emitting.{ends_here}
use Rattle.lil_labels.proofs.buffer.CodeBuffer.here.Goals as goal

pub returns-clause-ends : goal.returns-clause-ends
returns-clause-ends c = ends_here _ _ _ (grind (arith, common_steps))
