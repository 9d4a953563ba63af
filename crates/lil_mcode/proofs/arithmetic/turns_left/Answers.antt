use Rattle.std.proofs.Common.{◌≡◌, neg_ℤ, sym, ap, ◌∙◌}
use Rattle.lil_mcode.specs.Control.{loop_type, turns, turns_up, after_first}
use Rattle.lil_mcode.proofs.WordLaws.{turns_down, negative_step, wide}
use Rattle.lil_mcode.proofs.arithmetic.turns_left.Goals as goal

pub returns-then-by-lt0 : goal.returns-then-by-lt0
returns-then-by-lt0 c =
    let from = c.bound-from.result in
    let to = c.bound-to.result in
    let k = c.integer.result in
    let step = negative_step c.args.by k c.from-by.result c.ranges.by.fits c.integer.ensures c.from-by.ensures c.if-by-lt0.true in
    let down : turns from to k ≡ turns_up to from (neg_ℤ k) = turns_down from to k step.0 in
    let type = loop_type c.args.kind in
    let low = wide type c.args.from from c.ranges.from.fits c.bound-from.ensures.value in
    let high = wide type c.args.to to c.ranges.to.fits c.bound-to.ensures.value in
    let up : c.left_up.result ≡ after_first (turns_up to from (neg_ℤ k)) = rw (low, high, step.1) at c.left_up.ensures in
    let back : c.left_up.result ≡ after_first (turns from to k) = up ∙ sym (ap after_first down) in
    rw (c.bound-from.ensures.value, c.bound-to.ensures.value, c.integer.ensures) at back
