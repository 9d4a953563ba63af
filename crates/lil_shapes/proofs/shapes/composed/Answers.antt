use Rattle.std.proofs.Common.{rules}
use Rattle.lil_shapes.proofs.shapes.composed.Goals as goal

pub returns-in_default : goal.returns-in_default
returns-in_default c = record { means = search rules; made = c.scalar.ensures.made c.args.before.now }
