use Rattle.std.proofs.Common.{length, ap, arith}
use Rattle.lil_labels.specs.{Drafts.Draft, Settling.sound_one}
use Rattle.lil_labels.proofs.buffer.CodeBuffer.note.Goals as goal

pub invariant_of-self-2 : goal.invariant_of-self-2
invariant_of-self-2 c = sound_one _ _ _ _ _ _ (omega (arith, c.len-at.ensures, c.requires, ap (λ (d : Draft). length d.bytes) c.self.view_is)) c.in_ok-push.ensures.items c.self.invariant
