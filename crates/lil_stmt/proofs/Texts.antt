-- The code of strings that go to arrays.
use Rattle.std.proofs.Common.{◌≡◌, ℕ, ◌-◌, ◌%◌, min, List, [], ◌∷◌, ◌++◌, length, map, Option, Some, None, refl, sym, ap, ◌∙◌, subst, arith}
use Rattle.std.specs.Prelude.{slice_get}
use Rattle.lil_resolved.specs.{declared.shapes.RShape.RShape, Kinds.{OfCharacter, Shape, Absent, Word, Row, words, is_there, shape_at, fields_of, count_of}, Resolved.{Designator, Text}, Views.{number_of, shape_with, shapes_of, AreMeasured}, Sizes.words_of}
use Rattle.lil_resolved.specs.declared.shapes.RShape.TheVariants as r
use Rattle.lil_asm.specs.declared.instr.Instr.{Instr, TheVariants.{Lag, Mvz}}
use Rattle.lil_table.specs.Rows.{IsAt}
use Rattle.lil_labels.specs.{Entries.{entry, absent, small_at}, Tables.{Tables, elements_in, elements_by}, Drafts.{Draft, Final, Adds, Emits, Saying, DoingAll}, Emitting.{emits_then, emits_as, emits_tied}}
use Rattle.lil_expr.specs.{Strings.emits_end, Generating.Addressed}
use Rattle.lil_stmt.specs.Generating.{Stated}

-- ---- arrays of the tables
no_row : (ss : List Shape) (n : ℕ) (u : Shape) → fields_of ss ≡ Row n u → ⊥
no_row [] n u e = cc
no_row (s ∷ ss) n u e = cc

counted_entry : (early : List Shape) (t : RShape) (n : ℕ) (u : Shape) → shape_with early t ≡ Row n u → (elements_in t).count ≡ n
counted_entry early r.Absent n u e = absurd (cc)
counted_entry early (r.Word k) n u e = absurd (cc)
counted_entry early (r.Fields fs) n u e = absurd (no_row (map (shape_at early) (map number_of fs)) n u e)
counted_entry early (r.Elements es) n u e = ap count_of e

counted : (ts : List RShape) (m n : ℕ) (u : Shape) → AreMeasured [] ts → shape_at (shapes_of ts) m ≡ Row n u → (elements_by (slice_get ts m)).count ≡ n
counted ts m n u h e = by (slice_get ts m) refl
  where
    by : (o : Option RShape) → slice_get ts m ≡ o → (elements_by o).count ≡ n
    by None is = let no : Absent ≡ Row n u = sym (absent ts m is) ∙ e in absurd (cc)
    by (Some t) is = let found = entry ts m t h is in counted_entry found.early t n u (sym found.is ∙ e)

-- ---- strings that go to arrays
text_at : (d : Designator) (cs : List ℕ) (m offset characters zeros n : ℕ) (exit : Option ℕ) (x : Final) (p start behind last q end : ℕ) → characters ≡ length cs % 65536 → zeros ≡ min ((elements_by (slice_get x.tables.shapes m)).count - characters) 65535
    → Addressed d m x p start → Saying cs offset x start behind → IsAt x.code behind (Lag offset) last → IsAt x.code last (Mvz characters zeros) end → end ≡ q → Stated n exit (Text d cs) x p q
text_at d cs m offset characters zeros n exit x p start behind last q end long filled address text source move ends many taken sound room =
    let at = address sound.place (ap is_there sound.shape) in
    let rows = at.shape ∙ sound.shape in
    let count = counted x.tables.shapes m sound.count (Word OfCharacter) x.described.measured rows in
    let small = small_at x.tables.shapes m x.described.measured in
    let lies = text.1 sound.text in
    let short : characters ≡ length cs = omega (arith, long, lies.inside, x.room) in
    let left : zeros ≡ sound.count - length cs = omega (arith, filled, count, short, small, ap words rows) in
    record {
      found = at.found;
      start = start;
      last = last;
      count = sound.count;
      offset = offset;
      rows = sound.shape;
      fits = sound.fits;
      shallow = omega (arith, sound.shallow);
      text = lies;
      here = at.place;
      address = at.address;
      source = subst (λ (p : ℕ). IsAt x.code p (Lag offset) last) (sym text.0) source;
      by = subst (λ (q : ℕ). IsAt x.code last (Mvz (length cs) (sound.count - length cs)) q) ends
          (subst (λ (i : Instr). IsAt x.code last i end) (ap (λ (n : ℕ). Mvz n zeros) short ∙ ap (Mvz (length cs)) left) move);
    }

pub text_emitted : {us : List ℕ} (d : Designator) (cs : List ℕ) (m offset characters zeros n : ℕ) (exit : Option ℕ) (c0 c1 c2 c3 : Draft) → characters ≡ length cs % 65536 → zeros ≡ min ((elements_by (slice_get c2.tables.shapes m)).count - characters) 65535
    → Adds us c0 c1 (Addressed d m) → Adds (words_of cs) c1 c2 (Saying cs offset) → Emits c2 c3 (DoingAll (Lag offset ∷ Mvz characters zeros ∷ [])) → Adds (us ++ words_of cs) c0 c3 (Stated n exit (Text d cs))
text_emitted d cs m offset characters zeros n exit c0 c1 c2 c3 long filled place text move =
    emits_as c0 c3 _ (Stated n exit (Text d cs))
    (λ x t.
    let moves = t.1.1.0 in
    let filled_now = filled ∙ ap (λ (ts : Tables). min ((elements_by (slice_get ts.shapes m)).count - characters) 65535) (sym t.1.1.1) in
    text_at d cs m offset characters zeros n exit x _ _ _ moves.0 _ moves.2.0 long filled_now t.0 t.1.0 moves.1 moves.2.1 moves.2.2)
    (emits_then c0 c1 c3 _ _ place (emits_end c1 c2 c3 _ _ text (emits_tied c2 c3 _ move)))
