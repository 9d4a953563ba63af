use Rattle.std.proofs.Common.{arith}
use Rattle.std.proofs.lemmas.Grind.{common_steps}
use Rattle.lil_object.proofs.Lists.{imports_spelled}
use Rattle.lil_object.proofs.writing.put_imports.Goals as goal

pub returns : goal.returns
returns c = rw (imports_spelled c.args.all.now) (grind (arith, common_steps))
