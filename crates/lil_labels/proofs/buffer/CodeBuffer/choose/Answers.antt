use Rattle.std.proofs.Common.{◌∷◌, refl}
use Rattle.lil_base.specs.Fields.{bytes16}
use Rattle.lil_asm.specs.Standing.{cas_decodes}
use Rattle.lil_labels.specs.{Drafts.Choosing, Settling.sound_more, Emitting.with_ok}
use Rattle.lil_labels.proofs.Adding.{noted_emits}
use Rattle.lil_labels.proofs.buffer.CodeBuffer.choose.Goals as goal

pub invariant_of-self : goal.invariant_of-self
invariant_of-self c = sound_more _ _ _ _ _ c.encode.ensures.grows c.self.invariant

pub invariant_of-self-2 : goal.invariant_of-self-2
invariant_of-self-2 c = sound_more _ _ _ _ _ c.encode.ensures.grows c.self.invariant

pub returns : goal.returns
returns c =
    with_ok c.note.result
    (λ notes. noted_emits _ _ _ _ _ _ _ _ c.self.view_is c.self.invariant (0x76 ∷ bytes16 c.args.count) _ c.args.label (Choosing c.args.count c.args.label) c.in_ok-encode.ensures.bytes notes
    (λ x has. record { behind = refl; at = cas_decodes c.args.count (x.word c.args.label) x.code _ has }))
    c.note.ensures
