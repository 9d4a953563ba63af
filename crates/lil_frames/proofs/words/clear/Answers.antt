use Rattle.std.proofs.Common.{◌≡◌, ◌-◌, length, take, drop, ap, ◌∙◌, arith, length-take, length-drop}
use Rattle.lil_frames.specs.{Words.zeros, WordLaws.{length-zeros, put_mid-spliced}}
use Rattle.lil_frames.proofs.words.clear.Goals as goal

pub returns : goal.returns
unfolding zeros
returns c =
    let store = c.args.store.now in
    let from = c.args.from in
    let to = c.args.to in
    let n : length (take (to - from) (drop from store)) ≡ to - from = simp (length-take, length-drop) (omega arith) in
    let e : c.fill.new.self ≡ zeros (to - from) = c.fill.ensures.after (λ y h. h) ∙ ap zeros n in
    rw e (put_mid-spliced from (to - from) store (zeros (to - from)) (length-zeros (to - from)))
