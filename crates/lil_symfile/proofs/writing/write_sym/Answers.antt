use Rattle.lil_symfile.proofs.Spelled.{file_short}
use Rattle.lil_symfile.proofs.writing.write_sym.Goals as goal

pub file_bytes-requires : goal.file_bytes-requires
file_bytes-requires c = file_short c.args.file.now c.requires
