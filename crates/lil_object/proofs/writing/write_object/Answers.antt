use Rattle.std.proofs.Common.{arith}
use Rattle.std.proofs.lemmas.Grind.{common_steps}
use Rattle.lil_format.specs.Format.{Fits, spelling}
use Rattle.lil_object.specs.Object.{object}
use Rattle.lil_object.proofs.Lists.{contents_spelled, contents_short}
use Rattle.lil_object.proofs.writing.write_object.Goals as goal

pub put_contents-requires : goal.put_contents-requires
unfolding object Fits
put_contents-requires c = contents_short c.args.object.now.head c.args.object.now.contents c.requires.1.1

pub returns : goal.returns
unfolding object Fits spelling
returns c = rw (contents_spelled c.args.object.now.head c.args.object.now.contents c.requires.1.1) (grind (arith, common_steps))
