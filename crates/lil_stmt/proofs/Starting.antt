-- The code that brings the start of a FOR to its limit's type.
use Rattle.std.proofs.Common.{◌≡◌, ℕ, Bool, true, false, [], ◌∷◌, sym, subst}
use Rattle.lil_asm.specs.declared.instr.Instr.TheVariants.{Liw, Dup, Drp, Swp, Rgc, Lsi, Jmp, Jpf}
use Rattle.lil_labels.specs.{Drafts.{Draft, Emits, Nothing, Doing, DoingAll, Makes, Ends}, Emitting.{emits_then, emits_as, emits_here, emits_fresh}}
use Rattle.lil_stmt.specs.Generating.{Aligning, Leaving}

pub trap_emitted : (same turns : Bool) (end : ℕ) (a b : Draft) → same ≡ false → turns ≡ true → Emits a b (DoingAll (Swp ∷ Rgc 0 32767 ∷ Swp ∷ [])) → Emits a b (Aligning same turns end)
trap_emitted same turns end a b apart way t =
    subst (λ (same : Bool). Emits a b (Aligning same turns end)) (sym apart)
    (subst (λ (turns : Bool). Emits a b (Aligning false turns end)) (sym way) (emits_as a b _ (Aligning false true end) (λ x t r ended. t) t))

pub leave_emitted : (other end : ℕ) (a b c d e f g h : Draft) → Emits a b (DoingAll (Swp ∷ Dup ∷ Liw 0 ∷ Lsi ∷ [])) → Emits b c Nothing → Makes b c other → Emits c d (Doing (λ w. Jpf (w other)))
    → Emits d e (DoingAll (Drp ∷ Drp ∷ [])) → Emits e f (Doing (λ w. Jmp (w end))) → Ends f g other → Emits g h (Doing (λ w. Swp)) → Emits a h (Leaving end)
leave_emitted other end a b c d e f g h look new makes jump drop leave put back =
    emits_as a h _ (Leaving end)
    (λ x t r ended.
    search (t.0.0.0, rw t.0.1 at t.0.0.1.0, t.0.0.1.1.0, rw ended at t.0.0.1.1.1, t.1))
    (emits_then a g h _ _
    (emits_here a f g _ other (emits_then a b f _ _ look (emits_fresh b c f _ new (emits_then c d f _ _ jump (emits_then d e f _ _ drop leave)))) (λ k h. makes.apart k (look.keeps k h)) put)
    back)
