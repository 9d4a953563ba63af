-- Where the variables of a final code lie, the records of the WITHs around, and what pointers point to.
use Rattle.std.proofs.Common.{◌≡◌, ℕ, true, List, Option, Some, None, refl, sym, ap, ◌∙◌, subst, arith}
use Rattle.std.specs.Prelude.{slice_get, option_and_then, ◌+◌, ◌≤◌, min, [], map, zero, suc}
use Rattle.std.specs.Option.{option_map}
use Rattle.std.proofs.lemmas.Option.{none-some, same_Some, slice_get-map, slice_get_within, get_or_from_slice_get}
use Rattle.lil_resolved.specs.{declared.resolved.{RDeclared.RDeclared, RHeading.RHeading}, Kinds.{Kind, Outline, Shape, Word, words, is_there, shape_by, shape_at, procedure_by, locals_of, locals_at, offsets_from}, Resolved.{Named, OfModule, OfLevel, variable_at}, Sound.IsSoundVariable, Views.{IsMeasuredHeading, locals_of as locals_with, offset_of, shape_declared, shapes_of}}
use Rattle.lil_table.specs.Rows.{KnownRow, InFrame, offset_at, access_at}
use Rattle.lil_labels.specs.{declared.buffer.HeldRecord.HeldRecord, Tables.{chain_of, heading_out, locals_in, outline_with, declared_at, variable_by, target_by, word_held, shape_held}, Entries.small_declared, Drafts.Final}
use Rattle.lil_expr.specs.Accesses.{words_in}

-- what a mapped item was made of
mapped : {A B : Type 0} (f : A → B) (o : Option A) (b : B) → option_map f o ≡ Some b → (a : A) × (o ≡ Some a) × (f a ≡ b)
mapped f None b h = absurd (none-some b h)
mapped f (Some a) b h = (a, refl, same_Some (f a) b h)

-- the variable of a shape that stands in the tables
pub record Standing (x : Final) (v : Named) (t : Shape) : Type 0 where
  pub variable : RDeclared
  pub there : declared_at x.tables v ≡ Some variable
  pub shape : shape_declared x.tables.shapes variable ≡ t
  pub within : words_in (access_at v variable.offset) + words t ≤ 32000
  pub offset : ℕ
  pub at : offset_at x.layout v ≡ Some offset
  pub access : access_at v variable.offset ≡ access_at v offset

-- the heading of the procedure so many levels out, whose variables these are
record Heads (x : Final) (n : ℕ) : Type 0 where
  heading : RHeading
  there : heading_out x.tables.procedures x.tables.own n ≡ Some heading
  locals : locals_at x.layout.scope n ≡ locals_with x.tables.shapes heading
  measured : IsMeasuredHeading x.tables.shapes heading

heads : (x : Final) (n v : ℕ) (t : Shape) → slice_get (locals_at x.layout.scope n) v ≡ Some t → Heads x n
heads x n v t h = by_chain (slice_get (chain_of x.tables.procedures x.tables.own) n) refl
  where
    hs : List RHeading
    hs = x.tables.procedures

    of : RHeading → Outline
    of = outline_with x.tables.shapes

    same : locals_at x.layout.scope n ≡ locals_of (option_and_then (procedure_by (map of hs)) (slice_get (chain_of hs x.tables.own) n))
    same = ap (λ (os : List Outline). locals_of (option_and_then (procedure_by os) (slice_get x.layout.scope.chain n))) x.described.procedures
        ∙ ap (λ (c : List ℕ). locals_of (option_and_then (procedure_by (map of hs)) (slice_get c n))) x.described.chain

    by_heading : (i : ℕ) (o : Option RHeading) → slice_get hs i ≡ o → slice_get (chain_of hs x.tables.own) n ≡ Some (suc i) → Heads x n
    by_heading i None e c =
        let none : locals_at x.layout.scope n ≡ [] = same ∙ ap (λ (q : Option ℕ). locals_of (option_and_then (procedure_by (map of hs)) q)) c
        ∙ ap locals_of (slice_get-map of hs i ∙ ap (option_map of) e) in
        absurd (none-some t (ap (λ (ts : List Shape). slice_get ts v) (sym none) ∙ h))
    by_heading i (Some a) e c = record {
      heading = a;
      there = ap (λ (q : Option ℕ). option_and_then (procedure_by hs) q) c ∙ e;
      locals = same ∙ ap (λ (q : Option ℕ). locals_of (option_and_then (procedure_by (map of hs)) q)) c ∙ ap locals_of (slice_get-map of hs i ∙ ap (option_map of) e);
      measured = subst (IsMeasuredHeading x.tables.shapes) (get_or_from_slice_get hs i a a e) (x.described.each i a (slice_get_within hs i a e));
    }

    by_number : (p : ℕ) → slice_get (chain_of hs x.tables.own) n ≡ Some p → Heads x n
    by_number zero c =
        let none : locals_at x.layout.scope n ≡ [] = same ∙ ap (λ (q : Option ℕ). locals_of (option_and_then (procedure_by (map of hs)) q)) c in
        absurd (none-some t (ap (λ (ts : List Shape). slice_get ts v) (sym none) ∙ h))
    by_number (suc i) c = by_heading i (slice_get hs i) refl c

    by_chain : (o : Option ℕ) → slice_get (chain_of hs x.tables.own) n ≡ o → Heads x n
    by_chain None c =
        let none : locals_at x.layout.scope n ≡ [] = same ∙ ap (λ (q : Option ℕ). locals_of (option_and_then (procedure_by (map of hs)) q)) c in
        absurd (none-some t (ap (λ (ts : List Shape). slice_get ts v) (sym none) ∙ h))
    by_chain (Some p) c = by_number p c

pub standing : (x : Final) (v : Named) (t : Shape) → variable_at x.layout.scope v ≡ Some t → Standing x v t
standing x (OfModule v) t h =
    let vs = x.tables.variables in
    let of = shape_declared x.tables.shapes in
    let found = mapped of (slice_get vs v) t (sym (slice_get-map of vs v) ∙ ap (λ (ts : List Shape). slice_get ts v) (sym x.described.shapes) ∙ h) in
    record {
      variable = found.0;
      there = found.1;
      shape = found.2;
      within = omega (arith, x.described.within v found.0 found.1, ap words found.2);
      offset = found.0.offset;
      at = ap (λ (os : List ℕ). slice_get os v) x.described.offsets ∙ slice_get-map offset_of vs v ∙ ap (option_map offset_of) found.1;
      access = refl;
    }
standing x (OfLevel n v) t h =
    let a = heads x n v t h in
    let vs = a.heading.locals in
    let of = shape_declared x.tables.shapes in
    let os = offsets_from 4 (locals_at x.layout.scope n) in
    let found = mapped of (slice_get vs v) t (sym (slice_get-map of vs v) ∙ ap (λ (ts : List Shape). slice_get ts v) (sym a.locals) ∙ h) in
    let cut = mapped (min 65535) (slice_get os v) found.0.offset
    (sym (slice_get-map (min 65535) os v) ∙ ap (λ (ts : List Shape). slice_get (map (min 65535) (offsets_from 4 ts)) v) a.locals
    ∙ ap (λ (ns : List ℕ). slice_get ns v) (sym a.measured.offsets) ∙ slice_get-map offset_of vs v ∙ ap (option_map offset_of) found.1) in
    record {
      variable = found.0;
      there = ap (λ (o : Option RHeading). slice_get (locals_in o) v) a.there ∙ found.1;
      shape = found.2;
      within = omega (arith, small_declared x.tables.shapes found.0 x.described.measured, ap words found.2);
      offset = cut.0;
      at = cut.1;
      access = ap (InFrame n) (omega (arith, cut.2));
    }

-- the record of a WITH around that stands in the tables
pub record Kept (x : Final) (w : ℕ) (t : Shape) : Type 0 where
  pub held : HeldRecord
  pub there : slice_get x.tables.held w ≡ Some held
  pub shape : shape_held x.tables.shapes held ≡ t
  pub word : slice_get x.layout.held w ≡ Some held.word

pub kept : (x : Final) (w : ℕ) (t : Shape) → slice_get x.layout.scope.held w ≡ Some t → Kept x w t
kept x w t h =
    let hs = x.tables.held in
    let of = shape_held x.tables.shapes in
    let found = mapped of (slice_get hs w) t (sym (slice_get-map of hs w) ∙ ap (λ (ts : List Shape). slice_get ts w) (sym x.described.held_shapes) ∙ h) in
    record {
      held = found.0;
      there = found.1;
      shape = found.2;
      word = ap (λ (ws : List ℕ). slice_get ws w) x.described.held ∙ slice_get-map word_held hs w ∙ ap (option_map word_held) found.1;
    }

-- what a pointer points to stands in the tables
pub pointed : (x : Final) (n : ℕ) → is_there (shape_at x.layout.scope.targets n) ≡ true → shape_at (shapes_of x.tables.shapes) (target_by (slice_get x.tables.targets n)) ≡ shape_at x.layout.scope.targets n
pointed x n there =
    let ts = x.tables.targets in
    let of = shape_at (shapes_of x.tables.shapes) in
    let is : shape_at x.layout.scope.targets n ≡ shape_by (option_map of (slice_get ts n)) = ap (λ (ts : List Shape). shape_at ts n) x.described.targets ∙ ap shape_by (slice_get-map of ts n) in
    by of (slice_get ts n) (ap is_there (sym is) ∙ there) ∙ sym is
  where
    by : (of : ℕ → Shape) (o : Option ℕ) → is_there (shape_by (option_map of o)) ≡ true → of (target_by o) ≡ shape_by (option_map of o)
    by of None h = absurd (cc)
    by of (Some m) h = refl

abbrev pub known_row : (x : Final) (v : Named) (k : Kind) → IsSoundVariable x.layout.scope v k → KnownRow x.layout v k
known_row x v k sound = record {
  offset = (standing x v (Word k) sound.known).offset;
  at = (standing x v (Word k) sound.known).at;
  typed = sound.known;
  base = sound.base;
}

-- how code has it
pub known_access : (x : Final) (v : Named) (k : Kind) (sound : IsSoundVariable x.layout.scope v k) → access_at v (variable_by (declared_at x.tables v)).offset ≡ access_at v (known_row x v k sound).offset
known_access x v k sound =
    let s = standing x v (Word k) sound.known in
    ap (λ (o : Option RDeclared). access_at v (variable_by o).offset) s.there ∙ s.access
