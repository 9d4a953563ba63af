-- The code of statements that begin with the address of a place.
use Rattle.std.proofs.Common.{◌≡◌, ℕ, Bool, List, [], ◌∷◌, ◌++◌, length, Option, sym, ap, ◌∙◌, subst, arith}
use Rattle.std.specs.Prelude.{slice_get}
use Rattle.lil_resolved.specs.{Kinds.{Kind, OfWhole, words, is_there, shape_at}, Resolved.{Designator, Expression, Copy, Member, New, Allocate, shape_of}, Views.{shapes_of, AreMeasured}}
use Rattle.lil_base.specs.Words.{Cardinal}
use Rattle.lil_asm.specs.declared.instr.Instr.{Instr, TheVariants.{Liw, Mov, Alc}}
use Rattle.lil_table.specs.Rows.{IsAt, InstrsAt, member_code, allocate_code}
use Rattle.lil_labels.specs.{Drafts.{Draft, Adds, Emits, Doing, DoingAll}, Emitting.{emits_then, emits_as, emits_tied}, Tables.{Tables, target_by}}
use Rattle.lil_expr.specs.{Strings.emits_end, Generating.{Addressed, Stored}, Variables.pointed}
use Rattle.lil_stmt.specs.Generating.{Stated}
use Rattle.lil_stmt.proofs.Storing.{stored}

pub copy_emitted : {us vs : List ℕ} (d from : Designator) (m j w n : ℕ) (exit : Option ℕ) (c0 c1 c2 c3 : Draft) → (AreMeasured [] c2.tables.shapes → w ≡ words (shape_at (shapes_of c2.tables.shapes) m))
    → Adds us c0 c1 (Addressed d m) → Adds vs c1 c2 (Addressed from j) → Emits c2 c3 (Doing (λ word. Mov w)) → Adds (us ++ vs) c0 c3 (Stated n exit (Copy d from))
copy_emitted d from m j w n exit c0 c1 c2 c3 long place source move =
    emits_as c0 c3 _ (Stated n exit (Copy d from))
    (λ x t many taken sound room.
    let at = t.0 sound.place sound.there in
    let its = t.1.0 sound.source (ap is_there sound.same ∙ sound.there) in
    let tied = subst (λ (ts : Tables). AreMeasured [] ts.shapes → w ≡ words (shape_at (shapes_of ts.shapes) m)) (sym t.1.1.1) long in
    let moved : w ≡ words (shape_of x.layout.scope d) = tied x.described.measured ∙ ap words at.shape in
    record {
      found = at.found;
      start = length c1.bytes;
      middle = its.found;
      last = length c2.bytes;
      same = sound.same;
      there = sound.there;
      shallow = omega (arith, sound.shallow);
      source_shallow = omega (arith, sound.source_shallow);
      here = at.place;
      address = at.address;
      source = its.place;
      source_address = its.address;
      by = subst (λ (w : ℕ). IsAt x.code (length c2.bytes) (Mov w) (length c3.bytes)) moved t.1.1.0;
    })
    (emits_then c0 c1 c3 _ _ place (emits_end c1 c2 c3 _ _ source (emits_tied c2 c3 _ move)))

pub member_emitted : {us vs : List ℕ} (out : Bool) (d : Designator) (k : Kind) (e : Expression) (i : Instr) (m n : ℕ) (exit : Option ℕ) (c0 c1 c2 c3 : Draft) → i ≡ member_code out
    → Adds us c0 c1 (Addressed d m) → Adds vs c1 c2 (Stored e k) → Emits c2 c3 (Doing (λ word. i)) → Adds (us ++ vs) c0 c3 (Stated n exit (Member out d k e))
member_emitted out d k e i m n exit c0 c1 c2 c3 is place value join =
    emits_as c0 c3 _ (Stated n exit (Member out d k e))
    (λ x t many taken sound room.
    let at = t.0 sound.0.place (ap is_there sound.0.scalar.shape) in
    record {
      found = at.found;
      start = length c1.bytes;
      middle = length c2.bytes;
      set = sound.0.scalar.shape;
      element = sound.1;
      takes = sound.2.takes;
      shallow = omega (arith, sound.0.shallow);
      here = at.place;
      address = at.address;
      value = t.1.0 1 (stored x.layout.scope e k sound.2) (omega arith);
      by = subst (λ (i : Instr). IsAt x.code (length c2.bytes) i (length c3.bytes)) is t.1.1;
    })
    (emits_then c0 c1 c3 _ _ place (emits_end c1 c2 c3 _ _ value join))

pub new_emitted : {us : List ℕ} (d : Designator) (pointer w m n : ℕ) (exit : Option ℕ) (c0 c1 c2 : Draft) → (AreMeasured [] c1.tables.shapes → w ≡ words (shape_at (shapes_of c1.tables.shapes) (target_by (slice_get c1.tables.targets pointer))))
    → Adds us c0 c1 (Addressed d m) → Emits c1 c2 (DoingAll (Liw w ∷ Alc ∷ [])) → Adds us c0 c2 (Stated n exit (New d pointer))
new_emitted d pointer w m n exit c0 c1 c2 long place takes =
    emits_as c0 c2 _ (Stated n exit (New d pointer))
    (λ x t many taken sound room.
    let at = t.0 sound.place (ap is_there sound.shape) in
    let tied = subst (λ (ts : Tables). AreMeasured [] ts.shapes → w ≡ words (shape_at (shapes_of ts.shapes) (target_by (slice_get ts.targets pointer)))) (sym t.1.1) long in
    let object : w ≡ words (shape_at x.layout.scope.targets pointer) = tied x.described.measured ∙ ap words (pointed x pointer sound.there) in
    record {
      found = at.found;
      start = length c1.bytes;
      typed = sound.shape;
      there = sound.there;
      shallow = omega (arith, sound.shallow);
      here = at.place;
      address = at.address;
      by = subst (λ (w : ℕ). InstrsAt x.code (Liw w ∷ Alc ∷ []) (length c1.bytes) (length c2.bytes)) object t.1.0;
    })
    (emits_end c0 c1 c2 _ _ place (emits_tied c1 c2 _ takes))

pub allocate_emitted : {us vs : List ℕ} (back : Bool) (d : Designator) (e : Expression) (m n : ℕ) (exit : Option ℕ) (c0 c1 c2 c3 : Draft)
    → Adds us c0 c1 (Addressed d m) → Adds vs c1 c2 (Stored e (OfWhole Cardinal)) → Emits c2 c3 (DoingAll (allocate_code back)) → Adds (us ++ vs) c0 c3 (Stated n exit (Allocate back d e))
allocate_emitted back d e m n exit c0 c1 c2 c3 place value by =
    emits_as c0 c3 _ (Stated n exit (Allocate back d e))
    (λ x t many taken sound room.
    let at = t.0 sound.0.place (ap is_there sound.0.scalar.shape) in
    record {
      found = at.found;
      start = length c1.bytes;
      middle = length c2.bytes;
      typed = sound.0.scalar.shape;
      takes = sound.1.takes;
      shallow = omega (arith, sound.0.shallow);
      here = at.place;
      address = at.address;
      value = t.1.0 1 (stored x.layout.scope e (OfWhole Cardinal) sound.1) (omega arith);
      by = t.1.1;
    })
    (emits_then c0 c1 c3 _ _ place (emits_end c1 c2 c3 _ _ value by))
