use Rattle.std.proofs.Common.{◌++◌, ap, ◌∙◌}
use Rattle.lil_asm.specs.Bytes.{bytes_of}
use Rattle.lil_labels.specs.{Settling.sound_more, Emitting.with_ok}
use Rattle.lil_labels.proofs.Adding.{jump_emits}
use Rattle.lil_labels.proofs.buffer.CodeBuffer.jump.Goals as goal

pub invariant_of-self : goal.invariant_of-self
invariant_of-self c = sound_more _ _ _ _ _ c.encode.ensures.grows c.self.invariant

pub invariant_of-self-2 : goal.invariant_of-self-2
invariant_of-self-2 c = sound_more _ _ _ _ _ c.encode.ensures.grows c.self.invariant

pub returns : goal.returns
returns c =
    with_ok c.note.result
    (jump_emits _ _ _ _ _ _ _ _ c.self.view_is c.self.invariant c.args.aim _ c.args.label (c.in_ok-encode.ensures.bytes ∙ ap (λ i. c.self.inside.bytes ++ bytes_of i) c.unaimed.ensures))
    c.note.ensures
