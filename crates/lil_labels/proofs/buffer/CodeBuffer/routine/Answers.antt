use Rattle.std.proofs.Common.{◌≡◌, ℕ, ◌+◌, ◌++◌, length, List, refl, sym, ap, ◌∙◌, subst, arith, length-append}
use Rattle.lil_asm.specs.{Bytes.bytes_of, declared.instr.Instr.TheVariants.Liw}
use Rattle.lil_labels.specs.{declared.buffer.Fixup.Fixup, Drafts.IsSound, Settling.{sound_more, sound_fixed}}
use Rattle.lil_labels.proofs.Adding.{routine_emits}
use Rattle.lil_labels.proofs.buffer.CodeBuffer.routine.Goals as goal

-- LIW has three bytes
three_more : (old new : List ℕ) (w : ℕ) → new ≡ old ++ bytes_of (Liw w) → length new ≡ length old + 3
three_more old new w is = omega (arith, ap (λ (bs : List ℕ). length bs) is, length-append old (bytes_of (Liw w)))

pub invariant_of-self : goal.invariant_of-self
invariant_of-self c = sound_more _ _ _ _ _ c.encode.ensures.grows c.self.invariant

pub invariant_of-self-in_err-push : goal.invariant_of-self-in_err-push
invariant_of-self-in_err-push c =
    let d = c.self.inside in
    subst (λ (fs : List Fixup). IsSound (length c.encode.new.code) d.places.items d.jumps.items fs) (sym c.in_err-push.ensures.items) (sound_more _ _ _ _ _ c.encode.ensures.grows c.self.invariant)

pub invariant_of-self-2 : goal.invariant_of-self-2
invariant_of-self-2 c =
    let long = three_more c.self.inside.bytes c.encode.new.code c.from.result c.in_ok-encode.ensures.bytes in
    sound_fixed (length c.self.inside.bytes) _ _ _ _ _ _ (omega (arith, c.len-at.ensures, long)) (omega (arith, c.len-at.ensures, long)) refl c.in_ok-push.ensures.items c.self.invariant

pub returns : goal.returns
returns c =
    let bytes = c.self.inside.bytes in
    let is : c.encode.new.code ≡ bytes ++ bytes_of (Liw c.args.procedure) = c.in_ok-encode.ensures.bytes ∙ ap (λ (w : ℕ). bytes ++ bytes_of (Liw w)) c.from.ensures in
    let long = three_more bytes c.encode.new.code c.args.procedure is in
    routine_emits _ _ _ _ _ _ _ _ c.self.view_is c.self.invariant c.args.procedure _ _ (omega arith) is (omega (arith, c.len-at.ensures, long)) refl c.in_ok-push.ensures.items
