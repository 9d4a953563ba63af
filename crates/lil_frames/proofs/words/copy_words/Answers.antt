use Rattle.std.proofs.Common.{◌≡◌, ◌+◌, ◌-◌, length, arith}
use Rattle.lil_frames.specs.WordLaws.{put_mid-spliced}
use Rattle.lil_frames.proofs.words.copy_words.Goals as goal

pub returns : goal.returns
returns c =
    let at = c.args.at in
    let words = c.args.words.now in
    let n : length words ≡ at + length words - at = omega arith in
    rw c.copy_from_slice.ensures.after (put_mid-spliced at (at + length words - at) c.args.store.now words n)
