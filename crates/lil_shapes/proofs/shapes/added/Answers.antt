use Rattle.std.proofs.Common.{rules}
use Rattle.lil_shapes.proofs.ShapeLaws.{shapes_more, shaped_more}
use Rattle.lil_shapes.proofs.shapes.added.Goals as goal

pub returns-clause-means : goal.returns-clause-means
returns-clause-means c = shapes_more c.args.before (record { shapes = c.push-2.new.self; sizes = c.push.new.self }) c.args.made (search rules)

pub returns-clause-shaped : goal.returns-clause-shaped
returns-clause-shaped c = shaped_more c.args.before (record { shapes = c.push-2.new.self; sizes = c.push.new.self }) c.args.made (search rules) c.requires.shaped c.requires.next (search rules)
