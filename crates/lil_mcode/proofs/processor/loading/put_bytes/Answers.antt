use Rattle.std.proofs.Common.{◌≡◌, ◌+◌, ◌-◌, length, arith}
use Rattle.lil_frames.specs.WordLaws.{put_mid-spliced}
use Rattle.lil_mcode.proofs.processor.loading.put_bytes.Goals as goal

pub returns : goal.returns
returns c =
    let at = c.args.at in
    let code = c.args.code.now in
    let n : length code ≡ at + length code - at = omega arith in
    rw c.copy_from_slice.ensures.after (put_mid-spliced at (at + length code - at) c.args.store.now code n)
