-- Bytes that are added to a draft.
use Rattle.std.proofs.Common.{◌≡◌, ℕ, ◌+◌, ◌*◌, ◌/◌, ◌%◌, ◌<◌, ◌≤◌, List, [], ◌∷◌, ◌++◌, length, Option, Some, refl, sym, ap, ◌∙◌, subst, arith, length-append, append-nil}
use Rattle.std.specs.Prelude.{slice_get}
use Rattle.std.proofs.lemmas.Option.{slice_get_within}
use Rattle.lil_base.specs.Fields.{bytes16}
use Rattle.lil_asm.specs.{declared.instr.Instr.{Instr, TheVariants.{Liw, Jmp, Jpf, Jan, Jor, Fri, Frn}}, Bytes.{bytes_of, Sayable}, Standing.{HasBytes, appended_has, decodes}}
use Rattle.lil_resolved.specs.Kinds.{procedure_word}
use Rattle.lil_labels.specs.{declared.buffer.{Jump.Jump, Fixup.Fixup, Aim.Aim}, Entries.get_front, Tables.Tables, Drafts.{Draft, AreFixed, IsSound, written, numbered, code_of, Final, Meaning, Emits, Doing, Naming, Notes, aimed}, Fixing.{numbered_before, numbered_last}, Settling.{written_long, written_before, written_last, code_long}}
use Rattle.lil_labels.specs.declared.buffer.Aim.TheVariants as aim

has_kept : (bytes code final : List ℕ) (p : ℕ) → HasBytes code p bytes → ((j b : ℕ) → p ≤ j → slice_get code j ≡ Some b → slice_get final j ≡ Some b) → HasBytes final p bytes
has_kept [] code final p h same = tt
has_kept (x ∷ bytes) code final p h same = (same p x (omega arith) h.0, has_kept bytes code final (p + 1) h.1 (λ j b low at. same j b (omega (arith, low)) at))

-- bytes more, whose meaning is known wherever they stand
emits_bytes : (old new : Draft) (more : (word numbers : ℕ → ℕ) → List ℕ) (T : Meaning) → new.tables ≡ old.tables → new.strings ≡ old.strings → new.places ≡ old.places
    → ((word numbers : ℕ → ℕ) → code_of new word numbers ≡ code_of old word numbers ++ more word numbers)
    → ((x : Final) → HasBytes x.code (length old.bytes) (more x.word x.layout.numbers) → T x (length old.bytes) (length old.bytes + length (more x.word x.layout.numbers))) → Emits old new T
emits_bytes old new more T tables strings same added f = record {
  grows = omega (arith, longer (λ l. 0) (λ n. 0));
  same = tables;
  strings = strings ∙ sym (append-nil old.strings);
  keeps = λ l h. ap (λ (ps : List (Option ℕ)). slice_get ps l) same ∙ h;
  made = omega (arith, ap (λ (ps : List (Option ℕ)). length ps) same);
  back = λ x fits. record {
    same = fits.same ∙ tables;
    more = fits.more;
    strings = fits.strings ∙ ap (λ (ws : List ℕ). ws ++ fits.more) strings;
    bytes = λ j b low at.
        let code = code_of old x.word x.layout.numbers in
        fits.bytes j b low (ap (λ (c : List ℕ). slice_get c j) (added x.word x.layout.numbers) ∙ get_front code (more x.word x.layout.numbers) j (slice_get_within code j b at) ∙ at);
    long = omega (arith, fits.long, longer x.word x.layout.numbers);
    placed = λ l q h. fits.placed l q (ap (λ (ps : List (Option ℕ)). slice_get ps l) same ∙ h);
  };
  meant = λ x fits low.
      let code = code_of old x.word x.layout.numbers in
      let all = more x.word x.layout.numbers in
      let long = code_long old x.word x.layout.numbers in
      let has = has_kept all (code ++ all) x.code (length code) (appended_has all code) (λ j b above at. fits.bytes j b (omega (arith, low, long, above)) (ap (λ (c : List ℕ). slice_get c j) (added x.word x.layout.numbers) ∙ at)) in
      subst (λ (q : ℕ). T x (length old.bytes) q) (longer x.word x.layout.numbers) (f x (subst (λ (p : ℕ). HasBytes x.code p all) long has));
}
  where
    longer : (word numbers : ℕ → ℕ) → length old.bytes + length (more word numbers) ≡ length new.bytes
    longer word numbers = omega (arith, ap length (added word numbers), length-append (code_of old word numbers) (more word numbers), code_long old word numbers, code_long new word numbers)

module _ (tables : Tables) (strings bytes new : List ℕ) (places : List (Option ℕ)) (js : List Jump) (fs : List Fixup) (old : Draft) (view : record { tables = tables; strings = strings; bytes = bytes; places = places; jumps = js; fixups = fs } ≡ old)
    (sound : IsSound (length bytes) places js fs) where
  abbrev first : Draft
  first = record { tables = tables; strings = strings; bytes = bytes; places = places; jumps = js; fixups = fs }

  abbrev second : Draft
  second = record { tables = tables; strings = strings; bytes = new; places = places; jumps = js; fixups = fs }

  -- fixups lie in the bytes before
  fixed_in : (word : ℕ → ℕ) → AreFixed 0 (length (written word bytes js)) fs
  fixed_in word = subst (λ (n : ℕ). AreFixed 0 n fs) (sym (written_long word bytes js)) sound.fixed

  behind : (word numbers : ℕ → ℕ) (more : List ℕ) → numbered numbers (written word bytes js ++ more) fs ≡ code_of first word numbers ++ more
  behind word numbers more = numbered_before numbers 0 (written word bytes js) more fs (fixed_in word)

  pub put_emits : (i : Instr) → Sayable i → new ≡ bytes ++ bytes_of i → Emits old second (Doing (λ word. i))
  put_emits i say e =
      subst (λ (d : Draft). Emits d second (Doing (λ word. i))) view
      (emits_bytes first second (λ word numbers. bytes_of i) (Doing (λ word. i)) refl refl refl
      (λ word numbers. ap (λ (b : List ℕ). numbered numbers b fs) (ap (λ (b : List ℕ). written word b js) e ∙ written_before word bytes (bytes_of i) js sound.inside) ∙ behind word numbers (bytes_of i))
      (λ x has. decodes i x.code (length bytes) say has))

  -- bytes more, the last two of which are a label's
  pub noted_emits : (front : List ℕ) (last : Draft) (label : ℕ) (T : Meaning) → new ≡ bytes ++ (front ++ 0 ∷ 0 ∷ []) → Notes second last label
      → ((x : Final) → HasBytes x.code (length bytes) (front ++ bytes16 (x.word label)) → T x (length bytes) (length bytes + length (front ++ bytes16 (x.word label)))) → Emits old last T
  noted_emits front last label T e notes =
      let j : Jump = record { label = label; at = notes.at } in
      let is : notes.at + 2 ≡ length (bytes ++ (front ++ 0 ∷ 0 ∷ [])) = notes.is ∙ ap length e in
      subst (λ (d : Draft). ((x : Final) → HasBytes x.code (length bytes) (front ++ bytes16 (x.word label)) → T x (length bytes) (length bytes + length (front ++ bytes16 (x.word label)))) → Emits d last T) view
      (emits_bytes first last (λ word numbers. front ++ bytes16 (word label)) T notes.tables notes.strings notes.places
      (λ word numbers.
      let all : written word last.bytes last.jumps ≡ written word bytes js ++ (front ++ bytes16 (word label)) =
      ap (λ (c : List ℕ). written word c last.jumps) (notes.bytes ∙ e) ∙ ap (written word (bytes ++ (front ++ 0 ∷ 0 ∷ []))) notes.jumps ∙ written_last word bytes front 0 0 js j sound.inside is in
      ap (numbered numbers (written word last.bytes last.jumps)) notes.fixups ∙ ap (λ (c : List ℕ). numbered numbers c fs) all ∙ behind word numbers (front ++ bytes16 (word label))))

  -- a procedure of the module as a value, whose second byte is a fixup
  pub routine_emits : (i : ℕ) (f : Fixup) (all : List Fixup) → i < 256 → new ≡ bytes ++ bytes_of (Liw i) → f.at + 2 ≡ length new → f.number ≡ 0 → all ≡ fs ++ f ∷ [] → Emits old (record second { fixups = all }) (Naming i)
  routine_emits i f all small e at own is =
      let last = record second { fixups = all } in
      let word_of : (n : ℕ) → bytes16 (procedure_word n i) ≡ n ∷ i % 256 ∷ [] = λ n.
      let high : (256 * n + i) / 256 ≡ n = omega (arith, small) in
      let low : (256 * n + i) % 256 ≡ i % 256 = omega (arith, small) in
      ap (λ (b : ℕ). b ∷ (256 * n + i) % 256 ∷ []) high ∙ ap (λ (b : ℕ). n ∷ b ∷ []) low in
      subst (λ (d : Draft). Emits d last (Naming i)) view
      (emits_bytes first last (λ word numbers. bytes_of (Liw (procedure_word (numbers 0) i))) (Naming i) refl refl refl
      (λ word numbers.
      let n = numbers f.number in
      let front = written word bytes js in
      let behind_front : f.at ≡ length front + 1 = omega (arith, at, ap length e, length-append bytes (bytes_of (Liw i)), written_long word bytes js) in
      ap (λ (c : List ℕ). numbered numbers c all) (ap (λ (b : List ℕ). written word b js) e ∙ written_before word bytes (bytes_of (Liw i)) js sound.inside)
      ∙ ap (numbered numbers (front ++ bytes_of (Liw i))) is
      ∙ numbered_last numbers front 0x01 (i / 256) (i % 256 ∷ []) fs f (fixed_in word) behind_front
      ∙ ap (λ (c : ℕ). code_of first word numbers ++ 0x01 ∷ numbers c ∷ i % 256 ∷ []) own
      ∙ ap (λ (bs : List ℕ). code_of first word numbers ++ 0x01 ∷ bs) (sym (word_of (numbers 0))))
      (λ x has. decodes (Liw (procedure_word (x.layout.numbers 0) i)) x.code (length bytes) tt has))

  pub jump_emits : (i : Aim) (last : Draft) (label : ℕ) → new ≡ bytes ++ bytes_of (aimed i 0) → Notes second last label → Emits old last (Doing (λ word. aimed i (word label)))
  jump_emits aim.Always last label e notes = noted_emits (0x70 ∷ []) last label _ e notes (λ x has. decodes (Jmp (x.word label)) x.code (length bytes) tt has)
  jump_emits aim.IfFalse last label e notes = noted_emits (0x71 ∷ []) last label _ e notes (λ x has. decodes (Jpf (x.word label)) x.code (length bytes) tt has)
  jump_emits aim.And last label e notes = noted_emits (0x72 ∷ []) last label _ e notes (λ x has. decodes (Jan (x.word label)) x.code (length bytes) tt has)
  jump_emits aim.Or last label e notes = noted_emits (0x73 ∷ []) last label _ e notes (λ x has. decodes (Jor (x.word label)) x.code (length bytes) tt has)
  jump_emits (aim.Enter o s) last label e notes = noted_emits (0x77 ∷ (bytes16 o ++ s ∷ [])) last label _ e notes (λ x has. decodes (Fri o s (x.word label)) x.code (length bytes) tt has)
  jump_emits (aim.Turn o) last label e notes = noted_emits (0x78 ∷ bytes16 o) last label _ e notes (λ x has. decodes (Frn o (x.word label)) x.code (length bytes) tt has)
