-- What stands in the tables of a module: shapes by their numbers, their parts and their elements.
use Rattle.std.proofs.Common.{◌≡◌, ℕ, zero, suc, ◌+◌, ◌*◌, ◌<◌, ◌≤◌, Bool, true, false, if◌then◌else◌, List, [], ◌∷◌, map, length, Option, Some, None, refl, sym, ap, ◌∙◌, subst, arith}
use Rattle.std.specs.Prelude.{slice_get, nat_lt}
use Rattle.std.proofs.lemmas.{Bool.ltb-true, Nat.mul-le}
use Rattle.lil_resolved.specs.{declared.shapes.{RField.RField, RElements.RElements, RShape.RShape}, Kinds.{Shape, Absent, Address, Opened, Join, Row, words, is_there, part_at, offset, shape_at, fields_of, element_of, count_of}, Views.{number_of, shape_with, shapes_of, AreMeasuredFields, IsMeasuredShape, AreMeasured}}
use Rattle.lil_resolved.specs.declared.shapes.RShape.TheVariants as r
use Rattle.lil_labels.specs.{Entries.{entry, absent}, Tables.{field_by, part_in, part_by, elements_in, elements_by}}

-- ---- shapes
pub whole_there : (t : Shape) (i : ℕ) → is_there (part_at t (i ∷ [])) ≡ true → is_there t ≡ true
whole_there Absent i h = h
whole_there (Address to) i h = h
whole_there (Opened copied u) i h = h
whole_there _ i h = refl

pub array_there : (t : Shape) → is_there (element_of t) ≡ true → is_there t ≡ true
array_there Absent h = h
array_there (Address to) h = h
array_there (Opened copied u) h = h
array_there _ h = refl

pub row_is : (t : Shape) (n : ℕ) → is_there (element_of t) ≡ true → count_of t ≡ n → t ≡ Row n (element_of t)
row_is (Row m u) n h e = ap (λ (m : ℕ). Row m u) e
row_is _ n h e = absurd (cc)

in_row : (b : Bool) (n i : ℕ) (t : Shape) → nat_lt i n ≡ b → is_there (if b then t else Absent) ≡ true → (i * words t + 0) + words (if b then t else Absent) ≤ n * words t
in_row true n i t e h =
    let below = ltb-true i n e in
    omega (arith, mul-le (i + 1) (words t) n (words t) (omega arith) (omega arith))
in_row false n i t e h = absurd (cc)

-- a part lies in its shape
pub part_within : (t : Shape) (i : ℕ) → is_there (part_at t (i ∷ [])) ≡ true → offset t (i ∷ []) + words (part_at t (i ∷ [])) ≤ words t
part_within (Join a b) zero h = omega arith
part_within (Join a b) (suc i) h = omega (arith, part_within b i h)
part_within (Row n t) i h = in_row (nat_lt i n) n i t refl h
part_within _ i h = absurd (cc)

-- ---- parts
record FieldIs (before : List Shape) (n : ℕ) (t : Shape) (i : ℕ) (f : RField) : Type 0 where
  known : f.shape < length before
  shape : shape_at before f.shape ≡ part_at t (i ∷ [])
  lies : f.offset ≡ n + offset t (i ∷ [])

field_is : (before : List Shape) (n : ℕ) (fs : List RField) (i : ℕ) → AreMeasuredFields before n fs → is_there (part_at (fields_of (map (shape_at before) (map number_of fs))) (i ∷ [])) ≡ true
    → FieldIs before n (fields_of (map (shape_at before) (map number_of fs))) i (field_by (slice_get fs i))
field_is before n [] i h there = absurd (cc)
field_is before n (f ∷ fs) zero h there = record { known = h.1; shape = refl; lies = omega (arith, h.0) }
field_is before n (f ∷ fs) (suc i) h there =
    let rest = field_is before (n + words (shape_at before f.shape)) fs i h.2 there in
    record { known = rest.known; shape = rest.shape; lies = omega (arith, rest.lies) }

-- a part of a shape, as the tables say it
pub record PartIs (table : List Shape) (t : Shape) (i : ℕ) (f : RField) : Type 0 where
  pub shape : shape_at table f.shape ≡ part_at t (i ∷ [])
  pub lies : f.offset ≡ offset t (i ∷ [])

element_part : (table early : List Shape) (e : RElements) (i : ℕ) (b : Bool) → nat_lt i e.count ≡ b → IsMeasuredShape early (r.Elements e) → words (shape_with early (r.Elements e)) ≤ 32000
    → ((m : ℕ) → m < length early → shape_at table m ≡ shape_at early m) → is_there (if b then shape_at early e.shape else Absent) ≡ true → PartIs table (shape_with early (r.Elements e)) i (part_in (r.Elements e) i)
element_part table early e i true is measured small kept there =
    let w = words (shape_at early e.shape) in
    let below = ltb-true i e.count is in
    let product : i * e.words ≡ i * w = ap (λ (w : ℕ). i * w) measured.0 in
    let all : (i + 1) * w ≤ e.count * w = mul-le (i + 1) w e.count w (omega arith) (omega arith) in
    record {
      shape = kept e.shape measured.1 ∙ ap (λ (b : Bool). if b then shape_at early e.shape else Absent) (sym is);
      lies = omega (arith, product, all, small);
    }
element_part table early e i false is measured small kept there = absurd (cc)

part_of_entry : (table early : List Shape) (t : RShape) (i : ℕ) → IsMeasuredShape early t → words (shape_with early t) ≤ 32000 → ((m : ℕ) → m < length early → shape_at table m ≡ shape_at early m)
    → is_there (part_at (shape_with early t) (i ∷ [])) ≡ true → PartIs table (shape_with early t) i (part_in t i)
part_of_entry table early r.Absent i measured small kept there = absurd (cc)
part_of_entry table early (r.Word k) i measured small kept there = absurd (cc)
part_of_entry table early (r.Fields fs) i measured small kept there =
    let f = field_is early 0 fs i measured there in
    record { shape = kept _ f.known ∙ f.shape; lies = omega (arith, f.lies) }
part_of_entry table early (r.Elements e) i measured small kept there = element_part table early e i (nat_lt i e.count) refl measured small kept there

abbrev has_part : ℕ → Shape → Bool
has_part i t = is_there (part_at t (i ∷ []))

pub part_is : (ts : List RShape) (n i : ℕ) → AreMeasured [] ts → is_there (part_at (shape_at (shapes_of ts) n) (i ∷ [])) ≡ true → PartIs (shapes_of ts) (shape_at (shapes_of ts) n) i (part_by (slice_get ts n) i)
part_is ts n i h there = by (slice_get ts n) refl
  where
    by : (o : Option RShape) → slice_get ts n ≡ o → PartIs (shapes_of ts) (shape_at (shapes_of ts) n) i (part_by o i)
    by None e = let no : false ≡ true = ap (has_part i) (sym (absent ts n e)) ∙ there in absurd (cc)
    by (Some t) e =
        let found = entry ts n t h e in
        subst (λ (s : Shape). PartIs (shapes_of ts) s i (part_in t i)) (sym found.is) (part_of_entry (shapes_of ts) found.early t i found.measured found.small found.kept (ap (has_part i) (sym found.is) ∙ there))

-- ---- elements
-- the elements of a shape, as the tables say them
pub record ElementsAre (table : List Shape) (t : Shape) (e : RElements) : Type 0 where
  pub shape : shape_at table e.shape ≡ element_of t
  pub sized : e.words ≡ words (element_of t)

no_elements : (ss : List Shape) → is_there (element_of (fields_of ss)) ≡ false
no_elements [] = refl
no_elements (s ∷ ss) = refl

elements_of_entry : (table early : List Shape) (t : RShape) → IsMeasuredShape early t → ((m : ℕ) → m < length early → shape_at table m ≡ shape_at early m) → is_there (element_of (shape_with early t)) ≡ true
    → ElementsAre table (shape_with early t) (elements_in t)
elements_of_entry table early r.Absent measured kept there = absurd (cc)
elements_of_entry table early (r.Word k) measured kept there = absurd (cc)
elements_of_entry table early (r.Fields fs) measured kept there = let no : false ≡ true = sym (no_elements (map (shape_at early) (map number_of fs))) ∙ there in absurd (cc)
elements_of_entry table early (r.Elements e) measured kept there = record { shape = kept e.shape measured.1; sized = measured.0 }

abbrev has_elements : Shape → Bool
has_elements t = is_there (element_of t)

pub elements_are : (ts : List RShape) (n : ℕ) → AreMeasured [] ts → is_there (element_of (shape_at (shapes_of ts) n)) ≡ true → ElementsAre (shapes_of ts) (shape_at (shapes_of ts) n) (elements_by (slice_get ts n))
elements_are ts n h there = by (slice_get ts n) refl
  where
    by : (o : Option RShape) → slice_get ts n ≡ o → ElementsAre (shapes_of ts) (shape_at (shapes_of ts) n) (elements_by o)
    by None e = let no : false ≡ true = ap has_elements (sym (absent ts n e)) ∙ there in absurd (cc)
    by (Some t) e =
        let found = entry ts n t h e in
        subst (λ (s : Shape). ElementsAre (shapes_of ts) s (elements_in t)) (sym found.is) (elements_of_entry (shapes_of ts) found.early t found.measured found.kept (ap has_elements (sym found.is) ∙ there))
