use Rattle.std.proofs.Common.{◌≡◌, length, List, ℕ, drop, sym, subst, ap, arith}
use Rattle.lil_labels.specs.{declared.buffer.Fixup.Fixup, Drafts.{Draft, AreFixed, AreWithin, written, settled_word}, Fixing.fixed_lie, Settling.written_long}
use Rattle.lil_labels.proofs.buffer.CodeBuffer.settle.Goals as goal

pub put_numbers-requires : goal.put_numbers-requires
put_numbers-requires c =
    let d = c.args.self.now in
    let word = settled_word d.places in
    let code = c.loop-jump.code.items in
    let rest = drop c.loop-jump.jump-index d.jumps in
    let same : length (written word code rest) ≡ length (written word d.bytes d.jumps) = ap (λ (bs : List ℕ). length bs) c.loop-jump.invariant.same in
    let bytes : length c.self.inside.bytes ≡ length d.bytes = ap (λ (d : Draft). length d.bytes) c.self.view_is in
    let long : length c.self.inside.bytes ≡ length code = omega (arith, same, bytes, written_long word code rest, written_long word d.bytes d.jumps) in
    let fs = c.self.inside.fixups.items in
    subst (λ (fs : List Fixup). AreWithin (length code) fs) (sym c.as_slice-2.ensures.value) (fixed_lie 0 (length code) fs (subst (λ (n : ℕ). AreFixed 0 n fs) long c.self.invariant.fixed))
