-- The code of what open arrays that are parameters have.
use Rattle.std.proofs.Common.{◌≡◌, ℕ, ◌+◌, Bool, min, [], ◌∷◌, length, Option, Some, refl, sym, ap, ◌∙◌, subst, arith}
use Rattle.lil_base.specs.Words.{Cardinal}
use Rattle.lil_resolved.specs.{declared.shapes.RField.RField, Kinds.{OfWhole, Shape, Opened, along, words, shape_by, shape_at}, Resolved.{OfLevel, Along, High, OfOpened, Expression}, Plain.{by_opening, parameter_variable}, Sizes.expression_strings, Sound.IsSoundOpened, Views.{AreMeasured, shapes_of}}
use Rattle.lil_asm.specs.declared.instr.Instr.{Instr, TheVariants.Ixo}
use Rattle.lil_table.specs.Rows.{framed, IsAt, InstrsAt, Access, InData, InFrame, OnTop, Behind, load_code, frame_code, second_code, OpenedRow}
use Rattle.lil_labels.specs.{Entries.small_at, Tables.{Tables, declared_at, variable_by}, Drafts.{Draft, Final, Adds, Emits, Doing, DoingAll}, Emitting.{emits_then, emits_as, emits_tied}}
use Rattle.lil_expr.specs.{Strings.emits_end, Generating.{Value, Tested, Found}, Calling.Argued, Variables.standing}

abbrev frame_word : Access → ℕ
frame_word (InData o) = o
frame_word (InFrame n o) = o
frame_word OnTop = 0
frame_word (Behind o) = o

-- the offset of the second word, up to 65,535, is that of the instruction
pub next_word : (n o : ℕ) → frame_code n (min (o + 1) 65535) ≡ frame_code n (o + 1)
next_word n o = let same : framed (min (o + 1) 65535) ≡ framed (o + 1) = omega arith in ap (λ (w : ℕ). load_code (InFrame n w)) same

-- what the tables have of one is what its row says
record IsOpened (x : Final) (n v : ℕ) (f : RField) : Type 0 where
  row : OpenedRow x.layout n v
  shape : shape_at (shapes_of x.tables.shapes) f.shape ≡ row.element
  first : frame_code n f.offset ≡ frame_code n row.offset
  second : (m : ℕ) → framed m ≡ framed (f.offset + 1) → frame_code n m ≡ frame_code n (row.offset + 1)

opened : (x : Final) (n v : ℕ) (f : RField) (ts : Tables) → x.tables ≡ ts → f ≡ variable_by (declared_at ts (OfLevel n v)) → IsSoundOpened x.layout.scope n v → IsOpened x n v f
opened x n v f ts tied is sound =
    let s = standing x (OfLevel n v) (Opened sound.0 sound.1) (parameter_variable x.layout.scope n v (Opened sound.0 sound.1) sound.2) in
    let same : f ≡ variable_by (Some s.variable) = is ∙ ap (λ (ts : Tables). variable_by (declared_at ts (OfLevel n v))) (sym tied) ∙ ap variable_by s.there in
    let lies : framed f.offset ≡ framed s.offset = ap (λ (f : RField). framed f.offset) same ∙ ap frame_word s.access in
    record {
      row = record { offset = s.offset; copied = sound.0; element = sound.1; at = s.at; typed = sound.2; there = sound.3 };
      shape = ap (λ (f : RField). shape_at (shapes_of x.tables.shapes) f.shape) same ∙ by_opening x.tables.shapes s.variable sound.0 sound.1 s.shape;
      first = ap (λ (o : ℕ). load_code (InFrame n o)) lies;
      second = λ m next. ap (λ (o : ℕ). load_code (InFrame n o)) (omega (arith, next, lies));
    }

-- ---- an element
pub along_found : (n v w : ℕ) (e : Expression) (f : RField) (c0 c1 c2 c3 : Draft) → f ≡ variable_by (declared_at c0.tables (OfLevel n v)) → (AreMeasured [] c2.tables.shapes → w ≡ words (shape_at (shapes_of c2.tables.shapes) f.shape))
    → Emits c0 c1 (DoingAll (frame_code n f.offset ∷ frame_code n (f.offset + 1) ∷ [])) → Adds (expression_strings e) c1 c2 (Tested (OfWhole Cardinal) e) → Emits c2 c3 (Doing (λ word. Ixo w))
    → Adds (expression_strings e) c0 c3 (Found (Along n v e) OnTop f.shape)
along_found n v w e f c0 c1 c2 c3 is wide load tested by =
    emits_as c0 c3 _ (Found (Along n v e) OnTop f.shape)
    (λ x t sound there.
    let o = opened x n v f c0.tables t.1 is sound.0 in
    let value = t.0.1.0 sound.2 in
    let first = subst (λ (i : Instr). InstrsAt x.code (i ∷ frame_code n (f.offset + 1) ∷ []) (length c0.bytes) (length c1.bytes)) o.first t.0.0 in
    let both = subst (λ (i : Instr). InstrsAt x.code (frame_code n o.row.offset ∷ i ∷ []) (length c0.bytes) (length c1.bytes)) (o.second (f.offset + 1) refl) first in
    let same : w ≡ words o.row.element = subst (λ (ts : Tables). AreMeasured [] ts.shapes → w ≡ words (shape_at (shapes_of ts.shapes) f.shape)) (sym t.0.1.1.1) wide x.described.measured ∙ ap words o.shape in
    let lies = o.shape ∙ ap (λ (s : Option Shape). along (shape_by s)) (sym o.row.typed) in
    record {
      place = record {
        opened = o.row;
        start = length c1.bytes;
        middle = value.middle;
        tested = length c2.bytes;
        takes = sound.1;
        load = both;
        value = value.value;
        test = value.test;
        by = subst (λ (w : ℕ). IsAt x.code (length c2.bytes) (Ixo w) (length c3.bytes)) same t.0.1.1.0;
      };
      access = refl;
      shape = lies;
      within = omega (arith, ap words lies, small_at x.tables.shapes f.shape x.described.measured);
    })
    (emits_tied c0 c3 _ (emits_then c0 c1 c3 _ _ load (emits_end c1 c2 c3 _ _ tested (emits_tied c2 c3 _ by))))

-- ---- HIGH
pub high_emitted : (n v m : ℕ) (f : RField) (a b : Draft) → f ≡ variable_by (declared_at a.tables (OfLevel n v)) → m ≡ min (f.offset + 1) 65535 → Emits a b (Doing (λ word. frame_code n m)) → Emits a b (Value (High n v))
high_emitted n v m f a b is next load =
    emits_as a b _ (Value (High n v))
    (λ x t sound.
    let o = opened x n v f a.tables t.1 is sound in
    record { opened = o.row; load = subst (λ (i : Instr). IsAt x.code (length a.bytes) i (length b.bytes)) (o.second m (omega (arith, next))) t.0 })
    (emits_tied a b _ load)

-- ---- one that is handed on
pub handed_on_argued : (calls : Bool) (n v m : ℕ) (f : RField) (a b c : Draft) → f ≡ variable_by (declared_at a.tables (OfLevel n v)) → m ≡ min (f.offset + 1) 65535 → Emits a b (Doing (λ word. frame_code n f.offset)) → Emits b c (DoingAll (second_code calls (frame_code n m)))
    → (copied : Bool) → Emits a c (Argued calls (OfOpened copied n v))
handed_on_argued calls n v m f a b c is next first second copied =
    emits_as a c _ (Argued calls (OfOpened copied n v))
    (λ x t i sound low.
    let o = opened x n v f a.tables t.1 is sound in
    record {
      start = length b.bytes;
      room = omega (arith, low);
      opened = o.row;
      first = subst (λ (i : Instr). IsAt x.code (length a.bytes) i (length b.bytes)) o.first t.0.0;
      by = subst (λ (i : Instr). InstrsAt x.code (second_code calls i) (length b.bytes) (length c.bytes)) (o.second m (omega (arith, next))) t.0.1;
    })
    (emits_tied a c _ (emits_then a b c _ _ first second))
