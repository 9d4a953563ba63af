-- The code of strings for arrays by value.
use Rattle.std.proofs.Common.{◌≡◌, ◌≢◌, ℕ, zero, suc, ◌-◌, ◌%◌, Bool, List, [], ◌∷◌, length, refl, sym, subst, arith}
use Rattle.lil_resolved.specs.{Resolved.Spelled, Sizes.words_of}
use Rattle.lil_asm.specs.declared.instr.Instr.TheVariants.{Lag, Liw, Psh, Psm, Sbc, Jor}
use Rattle.lil_table.specs.Rows.{IsAt, ZerosAt}
use Rattle.lil_labels.specs.{Drafts.{Draft, Adds, Emits, Saying, Doing, DoingAll, Marking}, Emitting.{emits_then, emits_as, emits_mark}}
use Rattle.lil_expr.specs.{Strings.emits_end, Calling.{Argued, Zeroed}}

pub zeros_emitted : (n turn : ℕ) (a b c d e : Draft) → n ≢ 0 → Emits a b (Doing (λ w. Liw n)) → Emits b c (Marking turn)
    → Emits c d (DoingAll (Liw 0 ∷ Psh ∷ Liw 1 ∷ Sbc ∷ [])) → Emits d e (Doing (λ w. Jor (w turn))) → Emits a e (Zeroed n)
zeros_emitted zero turn a b c d e some load mark by back = absurd (some refl)
zeros_emitted (suc z) turn a b c d e some load mark by back =
    emits_as a e _ (Zeroed (suc z))
    (λ x t. record {
      turn = length b.bytes;
      end = length d.bytes;
      load = t.0;
      by = t.1.1.0;
      back = subst (λ (w : ℕ). IsAt x.code (length d.bytes) (Jor w) (length e.bytes)) t.1.0 t.1.1.1;
    })
    (emits_then a b e _ _ load (emits_mark b c e turn _ mark (emits_then c d e _ _ by back)))

pub spelled_argued : (cs : List ℕ) (count offset characters zeros : ℕ) (a b c d : Draft) → characters ≡ length cs % 65536 → zeros ≡ count - characters
    → Adds (words_of cs) a b (Saying cs offset) → Emits b c (DoingAll (Lag offset ∷ Psm characters ∷ []))
    → Emits c d (Zeroed zeros) → (calls : Bool) → Adds (words_of cs) a d (Argued calls (Spelled cs count))
spelled_argued cs count offset characters zeros a b c d is rest text push fill calls =
    emits_as a d _ (Argued calls (Spelled cs count))
    (λ x t n sound low.
    let lies = t.0.1 sound.0 in
    let short : characters ≡ length cs = omega (arith, is, lies.inside, x.room) in
    let left : zeros ≡ count - length cs = omega (arith, rest, short) in
    let moves = t.1.0 in
    record {
      offset = offset;
      start = moves.0;
      last = length c.bytes;
      room = omega (arith, low);
      fits = sound.1;
      low = sound.2;
      text = lies;
      address = subst (λ (p : ℕ). IsAt x.code p (Lag offset) moves.0) (sym t.0.0) moves.1;
      push = subst (λ (q : ℕ). IsAt x.code moves.0 (Psm (length cs)) q) moves.2.2
          (subst (λ (w : ℕ). IsAt x.code moves.0 (Psm w) moves.2.0) short moves.2.1);
      fill = subst (λ (z : ℕ). ZerosAt x.layout x.code z (length c.bytes) (length d.bytes)) left t.1.1;
    })
    (emits_end a b d _ _ text (emits_then b c d _ _ push fill))
