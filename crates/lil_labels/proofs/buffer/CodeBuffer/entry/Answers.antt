use Rattle.std.proofs.Common.{◌++◌, refl}
use Rattle.lil_base.specs.Fields.{bytes16}
use Rattle.lil_asm.specs.Standing.{entry_stands}
use Rattle.lil_labels.specs.{Drafts.Entering, Settling.sound_more, Emitting.with_ok}
use Rattle.lil_labels.proofs.Adding.{noted_emits}
use Rattle.lil_labels.proofs.buffer.CodeBuffer.entry.Goals as goal

pub invariant_of-self : goal.invariant_of-self
invariant_of-self c = sound_more _ _ _ _ _ c.encode_entry.ensures.grows c.self.invariant

pub invariant_of-self-2 : goal.invariant_of-self-2
invariant_of-self-2 c = sound_more _ _ _ _ _ c.encode_entry.ensures.grows c.self.invariant

pub returns : goal.returns
returns c =
    with_ok c.note.result
    (λ notes. noted_emits _ _ _ _ _ _ _ _ c.self.view_is c.self.invariant (bytes16 c.args.low ++ bytes16 c.args.high) _ c.args.label (Entering c.args.low c.args.high c.args.label) c.in_ok-encode_entry.ensures.bytes notes
    (λ x has. record { entry = entry_stands x.code _ c.args.low c.args.high (x.word c.args.label) has; behind = refl }))
    c.note.ensures
