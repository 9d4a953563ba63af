-- How many words the shapes of a table take.
use Rattle.std.proofs.Common.{◌≡◌, ◌≢◌, ℕ, ◌+◌, ◌-◌, ◌*◌, ◌<◌, ◌≤◌, Bool, true, false, if◌then◌else◌, List, [], ◌∷◌, map, length, Option, Some, None, refl, sym, ap, ◌∙◌, subst, arith}
use Rattle.std.specs.Prelude.{slice_get, nat_lt}
use Rattle.std.proofs.lemmas.{Bool.{ltb-true, lt-ltb}, Option.{none-some, same_Some}}
use Rattle.lil_resolved.specs.{declared.shapes.{RField.RField, RShape.RShape}, Kinds.{Shape, words, shape_at, fields_of}, Views.{number_of, shape_with, shapes_of, AreMeasuredFields, IsMeasuredShape, AreMeasured}}
use Rattle.lil_resolved.specs.declared.shapes.RShape.TheVariants as r
use Rattle.lil_labels.specs.{Entries.{entry, absent}, Tables.{last_in, last_by, below, plain_words, plain_words_by}}

-- ---- the last field
-- all words are those before a field and its own
record EndsWith (before : List Shape) (all : ℕ) (f : RField) : Type 0 where
  known : f.shape < length before
  words : all ≡ f.offset + words (shape_at before f.shape)

record HasEnd (before : List Shape) (all : ℕ) (o : Option RField) : Type 0 where
  field : RField
  is : o ≡ Some field
  ends : EndsWith before all field

fields_end : (before : List Shape) (n : ℕ) (f : RField) (fs : List RField) → AreMeasuredFields before n (f ∷ fs) → HasEnd before (n + words (fields_of (map (shape_at before) (map number_of (f ∷ fs))))) (slice_get (f ∷ fs) (length fs))
fields_end before n f [] h = record { field = f; is = refl; ends = record { known = h.1; words = omega (arith, h.0) } }
fields_end before n f (g ∷ fs) h =
    let rest = fields_end before (n + words (shape_at before f.shape)) g fs h.2 in
    record { field = rest.field; is = rest.is; ends = record { known = rest.ends.known; words = omega (arith, rest.ends.words) } }

last_end : (early : List Shape) (f : RField) (fs : List RField) → IsMeasuredShape early (r.Fields (f ∷ fs)) → HasEnd early (words (shape_with early (r.Fields (f ∷ fs)))) (last_in (r.Fields (f ∷ fs)))
last_end early f fs measured =
    let less : length (f ∷ fs) - 1 ≡ length fs = omega arith in
    let end = fields_end early 0 f fs measured in
    record { field = end.field; is = ap (slice_get (f ∷ fs)) less ∙ end.is; ends = record { known = end.ends.known; words = omega (arith, end.ends.words) } }

ends_with : (early : List Shape) (t : RShape) (f : RField) → IsMeasuredShape early t → last_in t ≡ Some f → EndsWith early (words (shape_with early t)) f
ends_with early r.Absent f measured e = absurd (none-some f e)
ends_with early (r.Word k) f measured e = absurd (none-some f e)
ends_with early (r.Fields []) f measured e = absurd (none-some f e)
ends_with early (r.Fields (g ∷ fs)) f measured e =
    let end = last_end early g fs measured in
    subst (EndsWith early (words (shape_with early (r.Fields (g ∷ fs))))) (same_Some end.field f (sym end.is ∙ e)) end.ends
ends_with early (r.Elements a) f measured e = absurd (none-some f e)

is_below : (n : ℕ) (o : Option RField) (f : RField) → below n o ≡ Some f → (o ≡ Some f) × (f.shape < n)
is_below n None f e = absurd (none-some f e)
is_below n (Some g) f e = by (nat_lt g.shape n) refl e
  where
    by : (b : Bool) → nat_lt g.shape n ≡ b → (if b then Some g else None) ≡ Some f → (Some g ≡ Some f) × (f.shape < n)
    by true lesser e = let same = same_Some g f e in (e, subst (λ (f : RField). f.shape < n) same (ltb-true g.shape n lesser))
    by false lesser e = absurd (none-some f e)

pub lesser_shape : (n : ℕ) (o : Option RField) (f : RField) → below n o ≡ Some f → f.shape < n
lesser_shape n o f e = (is_below n o f e).1

module _ (ts : List RShape) (n : ℕ) (measured : AreMeasured [] ts) where
  -- the words before the last field come before those of the field
  pub last_words : (f : RField) → below n (last_by (slice_get ts n)) ≡ Some f → words (shape_at (shapes_of ts) n) ≡ f.offset + words (shape_at (shapes_of ts) f.shape)
  last_words f e = by (slice_get ts n) refl (is_below n (last_by (slice_get ts n)) f e).0
    where
      by : (o : Option RShape) → slice_get ts n ≡ o → last_by o ≡ Some f → words (shape_at (shapes_of ts) n) ≡ f.offset + words (shape_at (shapes_of ts) f.shape)
      by None is last = absurd (none-some f last)
      by (Some t) is last =
          let found = entry ts n t measured is in
          let end = ends_with found.early t f found.measured last in
          omega (arith, ap words found.is, end.words, ap words (found.kept f.shape end.known))

-- ---- shapes without fields
plain_entry : (early : List Shape) (n : ℕ) (t : RShape) → length early ≤ n → IsMeasuredShape early t → words (shape_with early t) ≤ 32000 → ((f : RField) → below n (last_in t) ≢ Some f) → plain_words t ≡ words (shape_with early t)
plain_entry early n r.Absent known measured small none = refl
plain_entry early n (r.Word k) known measured small none = refl
plain_entry early n (r.Fields []) known measured small none = refl
plain_entry early n (r.Fields (f ∷ fs)) known measured small none =
    let end = last_end early f fs measured in
    let lesser = lt-ltb end.field.shape n (omega (arith, end.ends.known, known)) in
    absurd (none end.field (ap (below n) end.is ∙ ap (λ (b : Bool). if b then Some end.field else None) lesser))
plain_entry early n (r.Elements e) known measured small none =
    let product : e.count * e.words ≡ e.count * words (shape_at early e.shape) = ap (λ (w : ℕ). e.count * w) measured.0 in
    omega (arith, product, small)

module _ (ts : List RShape) (n : ℕ) (measured : AreMeasured [] ts) where
  pub all_plain : ((f : RField) → below n (last_by (slice_get ts n)) ≢ Some f) → plain_words_by (slice_get ts n) ≡ words (shape_at (shapes_of ts) n)
  all_plain none = by (slice_get ts n) refl none
    where
      by : (o : Option RShape) → slice_get ts n ≡ o → ((f : RField) → below n (last_by o) ≢ Some f) → plain_words_by o ≡ words (shape_at (shapes_of ts) n)
      by None is none = sym (ap words (absent ts n is))
      by (Some t) is none = let found = entry ts n t measured is in plain_entry found.early n t found.known found.measured found.small none ∙ sym (ap words found.is)
