use Rattle.std.proofs.Common.{rules}
use Rattle.lil_base.proofs.Files.{file_is_file}
use Rattle.lil_base.proofs.name.Name.file.Goals as goal

pub invariant_of-result : goal.invariant_of-result
invariant_of-result c = let t = file_is_file c.self.inside.text c.args.kind c.self.invariant in search rules
