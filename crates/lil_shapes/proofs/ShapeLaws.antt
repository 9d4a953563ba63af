-- Shapes one behind another: their words, one more at the end, and the shapes of records and of all types that are made.
use Rattle.std.proofs.Common.{◌≡◌, ℕ, zero, suc, ◌+◌, ◌<◌, ◌≤◌, nat_le, List, [], ◌∷◌, ◌++◌, length, map, take, drop, get_or, slice_get, Option, None, Some, inl, inr, refl, sym, ap, subst, ◌∙◌, add-one, arith}
use Rattle.std.specs.Option.{option_map}
use Rattle.std.proofs.{lemmas.{Bool.{cond-false, cases_lt, Decides.nat_tests}, List.{map-append, map_push}, Option.{same_Some, slice_get_within, slice_get-map}}, Math.Seq.split_at}
use Rattle.lil_types.specs.{Types.Table, declared.table.Field.Field}
use Rattle.lil_resolved.specs.{Plain.{IsPlain, plain_at}, Kinds.{Shape, Absent, Word, Blank, Join, Row, Address, Opened, words, all_words, offsets_from, shape_by, shape_at, fields_of}, Views.{number_of, shape_with, shapes_behind, shapes_of, AreMeasuredFields, IsMeasuredShape, AreMeasured}, declared.shapes.{RField.RField, RShape.RShape}}
use Rattle.lil_resolved.specs.declared.shapes.RShape.TheVariants as r
use Rattle.lil_shapes.specs.{declared.shapes.{Made.Made, Shaped.Shaped}, Measured.{size_of, words_by, behind, shapes_in, shape_made, IsShaped, IsMade}, Shaping.{all_some, within, field_shape, shape, with_next, shapes_below, shapes}, ListLaws.{some_append, some_more}}

-- ---- words
words_append : (ts us : List Shape) → all_words (ts ++ us) ≡ all_words ts + all_words us
words_append [] us = omega arith
words_append (t ∷ ts) us = omega (arith, words_append ts us)

pub words_more : (ts : List Shape) (s : Shape) → all_words (ts ++ s ∷ []) ≡ all_words ts + words s
words_more ts s = omega (arith, words_append ts (s ∷ []))

fields_words : (ts : List Shape) → words (fields_of ts) ≡ all_words ts
fields_words [] = refl
fields_words (t ∷ ts) = ap (λ n. words t + n) (fields_words ts)

fields_size : (ts : List Shape) → size_of (fields_of ts) ≡ Some (all_words ts)
fields_size [] = refl
fields_size (t ∷ ts) = ap Some (fields_words (t ∷ ts))

pub offsets_more : (n : ℕ) (ts : List Shape) (s : Shape) → offsets_from n (ts ++ s ∷ []) ≡ offsets_from n ts ++ (n + all_words ts) ∷ []
offsets_more n [] s = let e : n ≡ n + 0 = omega arith in ap (λ k. k ∷ []) e
offsets_more n (t ∷ ts) s =
    let e : (n + words t) + all_words ts ≡ n + (words t + all_words ts) = omega arith in
    ap (λ rest. n ∷ rest) (offsets_more (n + words t) ts s ∙ ap (λ k. offsets_from (n + words t) ts ++ k ∷ []) e)

-- what comes behind some words
pub behind_some : (n w e : ℕ) → Some e ≡ behind n w → (e ≡ n + w) × (n + w ≤ 32000)
behind_some n w e h = grind (arith, nat_tests)

pub behind_none : (n w : ℕ) → None ≡ behind n w → 32000 < n + w
behind_none n w h = grind (arith, nat_tests)

-- too many words so far are too many
pub too_much : {X : Type 0} (F : X → Option Shape) (xs : List X) (i : ℕ) (x : X) (before : List Shape) (s : Shape)
    → i < length xs → x ≡ get_or xs i x → all_some (map F (take i xs)) ≡ Some before → F x ≡ Some s → 32000 < all_words before + words s → within (all_some (map F xs)) ≡ None
too_much F xs i x before s h is so_far here over =
    ap (λ ys. within (all_some (map F ys))) (split_at xs i x h ∙ ap (λ y. take i xs ++ y ∷ drop (suc i) xs) (sym is))
    ∙ ap (λ os. within (all_some os)) (map-append F (take i xs) (x ∷ drop (suc i) xs))
    ∙ ap within (some_append (map F (take i xs)) (F x ∷ map F (drop (suc i) xs)) before so_far)
    ∙ ap (λ o. within (option_map (λ more. before ++ more) (all_some (o ∷ map F (drop (suc i) xs))))) here
    ∙ all_over (all_some (map F (drop (suc i) xs)))
  where
    all_over : (o : Option (List Shape)) → within (option_map (λ more. before ++ more) (option_map (λ rest. s ∷ rest) o)) ≡ None
    all_over None = refl
    all_over (Some rest) =
        let more : 32000 < all_words (before ++ s ∷ rest) = omega (arith, words_append before (s ∷ rest)) in
        cond-false (nat_le (all_words (before ++ s ∷ rest)) 32000) (Some (before ++ s ∷ rest)) None (grind (arith, nat_tests))

-- ---- the words of a type by its number
-- a type with words has a shape among these
pub part_known : (ts : List Shape) (n w : ℕ) → Some w ≡ option_map words (slice_get ts n) → (slice_get ts n ≡ Some (shape_at ts n)) × (w ≡ words (shape_at ts n)) × (n < length ts)
part_known ts n w h = by (slice_get ts n) refl h
  where
    by : (o : Option Shape) → slice_get ts n ≡ o → Some w ≡ option_map words o → (slice_get ts n ≡ Some (shape_at ts n)) × (w ≡ words (shape_at ts n)) × (n < length ts)
    by None is h = absurd (cc)
    by (Some t) is h = (is ∙ ap (λ o. Some (shape_by o)) (sym is), same_Some w (words t) h ∙ ap (λ o. words (shape_by o)) (sym is), slice_get_within ts n t is)

pub part_none : (ts : List Shape) (n : ℕ) → None ≡ option_map words (slice_get ts n) → slice_get ts n ≡ None
part_none ts n h = by (slice_get ts n) h
  where
    by : (o : Option Shape) → None ≡ option_map words o → o ≡ None
    by None h = refl
    by (Some t) h = absurd (cc)

-- ---- records
abbrev pub shapes_found : List Shape → List RField → List Shape
shapes_found ts fs = map (shape_at ts) (map number_of fs)

found_more : (ts : List Shape) (fs : List RField) (f : RField) → shapes_found ts (fs ++ f ∷ []) ≡ shapes_found ts fs ++ shape_at ts f.shape ∷ []
found_more ts fs f = ap (map (shape_at ts)) (map_push number_of fs f) ∙ map_push (shape_at ts) (map number_of fs) (number_of f)

measured_fields : (ts : List Shape) (n : ℕ) (fs : List RField) (f : RField) → AreMeasuredFields ts n fs → f.offset ≡ n + all_words (shapes_found ts fs) → f.shape < length ts → AreMeasuredFields ts n (fs ++ f ∷ [])
measured_fields ts n [] f all at lesser = (omega arith, lesser, tt)
measured_fields ts n (g ∷ fs) f all at lesser = (all.0, all.1, measured_fields ts (n + words (shape_at ts g.shape)) fs f all.2 (omega arith) lesser)

-- fields that are found lie one behind another
pub record AreFound (ts : List Shape) (xs : List Field) (fs : List RField) (n : ℕ) : Type 0 where
  pub shapes : all_some (map (field_shape ts) xs) ≡ Some (shapes_found ts fs)
  pub measured : AreMeasuredFields ts 0 fs
  pub words : n ≡ all_words (shapes_found ts fs)
  pub few : n ≤ 32000

module _ (ts : List Shape) (xs : List Field) (i : ℕ) (x : Field) (fs : List RField) (n w : ℕ) (inside : i < length xs) (at : x ≡ get_or xs i x) (h : AreFound ts (take i xs) fs n)
    (known : Some w ≡ option_map words (slice_get ts x.sort)) where
  pub field_over : None ≡ behind n w → within (all_some (map (field_shape ts) xs)) ≡ None
  field_over none =
      let part = part_known ts x.sort w known in
      let over : 32000 < all_words (shapes_found ts fs) + words (shape_at ts x.sort) = subst (λ w. 32000 < all_words (shapes_found ts fs) + w) part.1 (subst (λ n. 32000 < n + w) h.words (behind_none n w none)) in
      too_much (field_shape ts) xs i x (shapes_found ts fs) (shape_at ts x.sort) inside at h.shapes part.0 over

  pub field_found : (new : List RField) (f : RField) (e : ℕ) → new ≡ fs ++ f ∷ [] → f.offset ≡ n → f.shape ≡ x.sort → Some e ≡ behind n w → AreFound ts (take (i + 1) xs) new e
  field_found new f e is offset sort next =
      let part = part_known ts x.sort w known in
      let end = behind_some n w e next in
      let here : shape_at ts x.sort ≡ shape_at ts f.shape = ap (shape_at ts) (sym sort) in
      let more : shapes_found ts new ≡ shapes_found ts fs ++ shape_at ts f.shape ∷ [] = ap (shapes_found ts) is ∙ found_more ts fs f in
      let last : w ≡ words (shape_at ts f.shape) = part.1 ∙ ap words here in
      record {
        shapes = some_more (field_shape ts) xs i x (shape_at ts f.shape) (shapes_found ts fs) inside at (part.0 ∙ ap Some here) h.shapes ∙ ap Some (sym more);
        measured = subst (AreMeasuredFields ts 0) (sym is) (measured_fields ts 0 fs f h.measured (omega (arith, offset, h.words)) (subst (λ n. n < length ts) (sym sort) part.2));
        words = end.0 ∙ (λ j. h.words j + last j) ∙ sym (ap all_words more ∙ words_more (shapes_found ts fs) (shape_at ts f.shape));
        few = omega (arith, end.0, end.1);
      }

pub fields_made : (s : Shaped) (xs : List Field) (fs : List RField) (n : ℕ) → AreFound (shapes_in s) xs fs n → (x : Made) → x.shape ≡ r.Fields fs → x.size ≡ Some n → IsMade s x
fields_made s xs fs n h x shape size =
    let found = shapes_found (shapes_in s) fs in
    record {
      measured = subst (IsMeasuredShape (shapes_in s)) (sym shape) h.measured;
      few = subst (λ y. words (shape_with (shapes_in s) y) ≤ 32000) (sym shape) (omega (arith, fields_words found, h.words, h.few));
      size = size ∙ ap Some h.words ∙ sym (ap (λ y. size_of (shape_with (shapes_in s) y)) shape ∙ fields_size found);
    }

-- ---- all types
behind_more : (before : List Shape) (ss : List RShape) (y : RShape) → shapes_behind before (ss ++ y ∷ []) ≡ shapes_behind before ss ++ shape_with (shapes_behind before ss) y ∷ []
behind_more before [] y = refl
behind_more before (z ∷ ss) y = behind_more (before ++ shape_with before z ∷ []) ss y

measured_more : (before : List Shape) (ss : List RShape) (y : RShape) → AreMeasured before ss → IsMeasuredShape (shapes_behind before ss) y → words (shape_with (shapes_behind before ss) y) ≤ 32000 → AreMeasured before (ss ++ y ∷ [])
measured_more before [] y all h few = (h, few, tt)
measured_more before (z ∷ ss) y all h few = (all.0, all.1, measured_more (before ++ shape_with before z ∷ []) ss y all.2 h few)

module _ (s new : Shaped) (x : Made) (shapes : new.shapes ≡ s.shapes ++ x.shape ∷ []) where
  pub shapes_more : shapes_in new ≡ shapes_in s ++ shape_made s x ∷ []
  shapes_more = ap shapes_of shapes ∙ behind_more [] s.shapes x.shape

  pub shaped_more : IsShaped s → IsMade s x → new.sizes ≡ s.sizes ++ x.size ∷ [] → IsShaped new
  shaped_more h made sizes = record {
    measured = subst (AreMeasured []) (sym shapes) (measured_more [] s.shapes x.shape h.measured made.measured made.few);
    sizes = sizes ∙ (λ j. h.sizes j ++ made.size j ∷ []) ∙ sym (ap (map size_of) shapes_more ∙ map_push size_of (shapes_in s) (shape_made s x));
  }

pub none_shaped : (t : Table) (s : Shaped) → s.shapes ≡ [] → s.sizes ≡ [] → (shapes_below t 0 ≡ Some (shapes_in s)) × IsShaped s
unfolding shapes_below
none_shaped t s none sizes =
    (ap (λ ss. Some (shapes_of ss)) (sym none), record { measured = subst (AreMeasured []) (sym none) tt; sizes = sizes ∙ ap (λ ss. map size_of (shapes_of ss)) (sym none) })

pub shapes_next : (t : Table) (n : ℕ) (before after : List Shape) (s : Shape) → shapes_below t n ≡ Some before → Some s ≡ shape t before n → after ≡ before ++ s ∷ [] → shapes_below t (n + 1) ≡ Some after
unfolding shapes_below
shapes_next t n before after s h is made = ap (shapes_below t) (add-one n) ∙ ap (with_next t n) h ∙ ap (option_map (λ s. before ++ s ∷ [])) (sym is) ∙ ap Some (sym made)

shapes_stop : (t : Table) (n : ℕ) (before : List Shape) → shapes_below t n ≡ Some before → None ≡ shape t before n → shapes_below t (suc n) ≡ None
unfolding shapes_below
shapes_stop t n before h none = ap (with_next t n) h ∙ ap (option_map (λ s. before ++ s ∷ [])) (sym none)

none_on : (t : Table) (n k : ℕ) → n ≤ k → shapes_below t n ≡ None → shapes_below t k ≡ None
unfolding shapes_below
none_on t n zero h none = let e : zero ≡ n = omega arith in ap (shapes_below t) e ∙ none
none_on t n (suc k) h none = elim (cases_lt k n) [
  | inl e ↦ let f : suc k ≡ n = omega arith in ap (shapes_below t) f ∙ none
  | inr e ↦ ap (with_next t k) (none_on t n k e none)
]

-- where a type has no shape, a module has none
pub no_shapes : (t : Table) (n : ℕ) (before : List Shape) → n < 16 + length t → shapes_below t n ≡ Some before → None ≡ shape t before n → None ≡ shapes t
no_shapes t n before h so_far none = sym (none_on t (suc n) (16 + length t) (omega arith) (shapes_stop t n before so_far none))

-- ---- the words of a shape that is none of an address
sized : (s : Shape) → IsPlain s → words_by (size_of s) ≡ words s
sized Absent h = refl
sized (Word k) h = refl
sized Blank h = refl
sized (Join a b) h = refl
sized (Row n t) h = refl
sized (Address t) h = absurd ((h t).0 refl)
sized (Opened copied t) h = absurd ((h t).1 copied refl)

pub words_sized : (ts : List RShape) (n : ℕ) (size : Option ℕ) → slice_get (map size_of (shapes_of ts)) n ≡ Some size → Some (words_by size) ≡ option_map words (slice_get (shapes_of ts) n)
words_sized ts n size e = by (slice_get (shapes_of ts) n) (plain_at ts n) (sym (slice_get-map size_of (shapes_of ts) n) ∙ e)
  where
    by : (o : Option Shape) → IsPlain (shape_by o) → option_map size_of o ≡ Some size → Some (words_by size) ≡ option_map words o
    by None plain e = absurd (cc)
    by (Some s) plain e = ap Some (ap words_by (sym (same_Some (size_of s) size e)) ∙ sized s plain)
