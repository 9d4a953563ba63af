use Rattle.std.proofs.Common.{arith}
use Rattle.lil_volume.proofs.Known.{under_limit}
use Rattle.lil_volume.proofs.folder.read_whole.Goals as goal

pub returns-else-len-gt-MOST_BYTES-clause-whole : goal.returns-else-len-gt-MOST_BYTES-clause-whole
returns-else-len-gt-MOST_BYTES-clause-whole g c =
    under_limit g.F.Read.remaining c.take-limited.result.inner c.args.file c.take-limited.result.limit _ c.new-bytes.result.items c.read_to_end.new.buf.items c.of_vec-bytes.result c.take-limited.ensures.limit c.take-limited.ensures.inner c.new-bytes.ensures.items c.of_vec-bytes.ensures c.in-Ok.ensures.bytes (omega arith)
