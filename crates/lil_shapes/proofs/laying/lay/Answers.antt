use Rattle.std.proofs.Common.{rules, arith}
use Rattle.lil_shapes.proofs.LayLaws.{laid_within}
use Rattle.lil_shapes.proofs.laying.lay.Goals as goal

pub returns : goal.returns
returns c = laid_within c.args.types.now c.args.of.now c.in-Some.laid (search rules) (omega (arith, c.if-laid-gt32000.false))
