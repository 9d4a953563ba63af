use Rattle.std.proofs.Common.{arith}
use Rattle.std.proofs.lemmas.Grind.{common_steps}
use Rattle.lil_book.proofs.Lists.{rests_spelled}
use Rattle.lil_book.proofs.writing.put_rests.Goals as goal

pub returns : goal.returns
returns c = rw (rests_spelled c.args.all.now) (grind (arith, common_steps))
