use Rattle.std.proofs.Common.{refl}
use Rattle.lil_format.specs.Format.{reads}
use Rattle.lil_symfile.specs.Symbol.{symbol_file}
use Rattle.lil_symfile.proofs.reading.file.Goals as goal

pub returns : goal.returns
returns c = c.to_end.ensures c.args.bytes.now (reads symbol_file c.args.bytes.now) refl (rw c.new-source.ensures at c.symbol_file-read.ensures)
