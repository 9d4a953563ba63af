use Rattle.std.proofs.Common.{length, sym, subst, ap, arith}
use Rattle.lil_labels.specs.{Drafts.{Draft, AreFixed}, Fixing.fixed_within}
use Rattle.lil_labels.proofs.buffer.CodeBuffer.fixups.Goals as goal

pub overflow_cast-fixup : goal.overflow_cast-fixup
overflow_cast-fixup c =
    let all = c.deref-fixup-items.result.now in
    let n = length c.self.inside.bytes in
    omega (arith, fixed_within 0 n all c.loop-fixup.fixup-index (record { at = 0; number = 0 }) (subst (AreFixed 0 n) (sym c.deref-fixup-items.ensures.value) c.self.invariant.fixed) c.loop-fixup-test.true, c.requires, ap (λ (d : Draft). length d.bytes) c.self.view_is)
