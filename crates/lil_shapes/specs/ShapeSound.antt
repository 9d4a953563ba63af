-- What lies at the parts of a type, by the shapes of all types.
use Rattle.std.proofs.Common.{◌≡◌, ℕ, zero, suc, ◌+◌, ◌*◌, ◌<◌, nat_le, List, [], ◌∷◌, ◌++◌, length, map, slice_get, true, Option, None, Some, ◌⊎◌, inl, inr, refl, sym, ap, subst, ◌∙◌, add-one, arith, true≢false}
use Rattle.std.specs.Option.{option_map}
use Rattle.std.proofs.lemmas.{Bool.cases_lt, List.length_push, Option.{none-some, same_Some, cond_some}}
use Rattle.lil_types.specs.{Types.{Table, entry, base}, declared.table.{Field.Field, TypeForm.{TypeForm, TheVariants.{Array, Record}}, TypeEntry.TypeEntry}}
use Rattle.lil_resolved.specs.{Kinds.{numbers, Shape, Word, Row, words, is_there, all_words, part_at, fields_of, element_of, count_of}, Views.kind_view, declared.resolved.{RBase.RBase, RKind.RKind}}
use Rattle.lil_shapes.specs.{declared.composites.ArrayParts.ArrayParts, Bases.{base_at, kind_form, kind_over, kind_at, field_sort, field_in, field_by, field_at, array_in, array_by, array_at, is_composite, composite_by, composite_at}, Shaping.{all_some, within, there, row, field_shape, shape_in, shape_by, shape, with_next, shapes_below}, ListLaws.some_at}

-- ---- lists
pub at_end : {A : Type 0} (xs : List A) (y x : A) (i : ℕ) → slice_get (xs ++ y ∷ []) i ≡ Some x → (slice_get xs i ≡ Some x) ⊎ ((i ≡ length xs) × (y ≡ x))
at_end [] y x zero h = inr (refl, same_Some y x h)
at_end [] y x (suc i) h = absurd (none-some x h)
at_end (z ∷ xs) y x zero h = inl h
at_end (z ∷ xs) y x (suc i) h = elim (at_end xs y x i h) [
  | inl e ↦ inl e
  | inr e ↦ inr (ap suc e.0, e.1)
]

pub earlier : {A : Type 0} (xs ys : List A) (i : ℕ) (x : A) → slice_get xs i ≡ Some x → slice_get (xs ++ ys) i ≡ Some x
earlier [] ys i x h = absurd (none-some x h)
earlier (z ∷ xs) ys zero x h = h
earlier (z ∷ xs) ys (suc i) x h = earlier xs ys i x h

pub mapped : {A B : Type 0} (f : A → B) (o : Option A) (y : B) → option_map f o ≡ Some y → (x : A) × (o ≡ Some x) × (f x ≡ y)
mapped f None y h = absurd (none-some y h)
mapped f (Some x) y h = (x, refl, same_Some (f x) y h)

-- values that are all there have a first one
pub record HasFirst {A : Type 0} (o : Option A) (os : List (Option A)) (xs : List A) : Type 0 where
  pub value : A
  pub rest : List A
  pub is : o ≡ Some value
  pub others : all_some os ≡ Some rest
  pub all : xs ≡ value ∷ rest

pub first_some : {A : Type 0} (o : Option A) (os : List (Option A)) (xs : List A) → all_some (o ∷ os) ≡ Some xs → HasFirst o os xs
first_some None os xs h = absurd (none-some xs h)
first_some (Some a) os xs h = let rest = mapped (λ rest. a ∷ rest) (all_some os) xs h in record { value = a; rest = rest.0; is = refl; others = rest.1; all = sym rest.2 }

last_at : {A : Type 0} (xs : List A) (y : A) → slice_get (xs ++ y ∷ []) (length xs) ≡ Some y
last_at [] y = refl
last_at (x ∷ xs) y = last_at xs y

-- lists of one more value each, by numbers
module _ {A : Type 0} (f : ℕ → A) (below : ℕ → List A) (none : below zero ≡ []) (more : (k : ℕ) → below (suc k) ≡ below k ++ f k ∷ []) where
  below_length : (k : ℕ) → length (below k) ≡ k
  below_length zero = ap length none
  below_length (suc k) = ap length (more k) ∙ length_push (below k) (f k) ∙ ap (λ n. n + 1) (below_length k) ∙ add-one k

  pub at_below : (k n : ℕ) → n < k → slice_get (below k) n ≡ Some (f n)
  at_below zero n h = absurd (omega arith)
  at_below (suc k) n h = elim (cases_lt n k) [
    | inl e ↦ ap (λ xs. slice_get xs n) (more k) ∙ earlier (below k) (f k ∷ []) n (f n) (at_below k n e)
    | inr e ↦
        let is : n ≡ k = omega arith in
        ap (λ xs. slice_get xs n) (more k) ∙ ap (slice_get (below k ++ f k ∷ [])) (is ∙ sym (below_length k)) ∙ last_at (below k) (f k) ∙ ap (λ i. Some (f i)) (sym is)
  ]

-- ---- the types before a type
-- a type has a shape by those before it, which are among these
pub record HasShape (t : Table) (ts : List Shape) (n : ℕ) (s : Shape) : Type 0 where
  pub before : List Shape
  pub is : shape t before n ≡ Some s
  pub parts : (i : ℕ) (x : Shape) → slice_get before i ≡ Some x → slice_get ts i ≡ Some x

abbrev pub AllShaped : Table → ℕ → List Shape → Type 0
AllShaped t k ts = (length ts ≡ k) × ((n : ℕ) (s : Shape) → slice_get ts n ≡ Some s → HasShape t ts n s)

shaped_more : (t : Table) (k : ℕ) (before : List Shape) (y : Shape) → AllShaped t k before → shape t before k ≡ Some y → AllShaped t (suc k) (before ++ y ∷ [])
shaped_more t k before y h is = (
  length_push before y ∙ ap (λ n. n + 1) h.0 ∙ add-one k,
  λ n s at. elim (at_end before y s n at) [
    | inl e ↦ let d = h.1 n s e in record { before = d.before; is = d.is; parts = λ i x j. earlier before (y ∷ []) i x (d.parts i x j) }
    | inr e ↦ record { before = before; is = ap (shape t before) (e.0 ∙ h.0) ∙ is ∙ ap Some e.1; parts = λ i x j. earlier before (y ∷ []) i x j }
  ],
)

pub all_shaped : (t : Table) (k : ℕ) (ts : List Shape) → shapes_below t k ≡ Some ts → AllShaped t k ts
unfolding shapes_below
all_shaped t zero ts h = subst (AllShaped t zero) (same_Some [] ts h) (refl, λ n s at. absurd (none-some s at))
all_shaped t (suc k) ts h = by (shapes_below t k) refl h (all_shaped t k)
  where
    with_one : (before : List Shape) (o : Option Shape) → shape t before k ≡ o → option_map (λ s. before ++ s ∷ []) o ≡ Some ts → AllShaped t k before → AllShaped t (suc k) ts
    with_one before None is h all = absurd (none-some ts h)
    with_one before (Some y) is h all = subst (AllShaped t (suc k)) (same_Some (before ++ y ∷ []) ts h) (shaped_more t k before y all is)

    by : (o : Option (List Shape)) → shapes_below t k ≡ o → with_next t k o ≡ Some ts → ((before : List Shape) → shapes_below t k ≡ Some before → AllShaped t k before) → AllShaped t (suc k) ts
    by None there h others = absurd (none-some ts h)
    by (Some before) there h others = with_one before (shape t before k) refl h (others before there)

-- ---- the parts of a shape
pub there_is : (o : Option Shape) (s : Shape) → there o ≡ Some s → (o ≡ Some s) × (is_there s ≡ true)
there_is None s h = absurd (none-some s h)
there_is (Some x) s h = let c = cond_some (is_there x) x s h in (ap Some c.1, ap is_there (sym c.1) ∙ c.0)

pub within_is : (o : Option (List Shape)) (ts : List Shape) → within o ≡ Some ts → o ≡ Some ts
within_is None ts h = absurd (none-some ts h)
within_is (Some ys) ts h = ap Some (cond_some (nat_le (all_words ys) 32000) ys ts h).1

fields_there : (ts : List Shape) → is_there (fields_of ts) ≡ true
fields_there [] = refl
fields_there (t ∷ ts) = refl

field_part : (ts : List Shape) (i : ℕ) (y : Shape) → slice_get ts i ≡ Some y → y ≡ part_at (fields_of ts) (i ∷ [])
field_part [] i y h = absurd (none-some y h)
field_part (t ∷ ts) zero y h = sym (same_Some t y h)
field_part (t ∷ ts) (suc i) y h = field_part ts i y h

module _ (t : Table) (before : List Shape) (s : Shape) where
  -- ---- records
  record_part : (xs : List Field) (i f : ℕ) → option_map fields_of (within (all_some (map (field_shape before) xs))) ≡ Some s → option_map field_sort (slice_get xs i) ≡ Some f
      → slice_get before f ≡ Some (part_at s (i ∷ []))
  record_part xs i f h at =
      let of = mapped fields_of (within (all_some (map (field_shape before) xs))) s h in
      let x = mapped field_sort (slice_get xs i) f at in
      let one = some_at (field_shape before) xs of.0 i x.0 (within_is (all_some (map (field_shape before) xs)) of.0 of.1) x.1 in
      ap (slice_get before) (sym x.2) ∙ one.1 ∙ ap Some (field_part of.0 i one.0 one.2 ∙ ap (λ s. part_at s (i ∷ [])) of.2)

  field_form : (k : RBase) (form : TypeForm) (i f : ℕ) → shape_in t before (kind_form k form) form ≡ Some s → field_in i form ≡ Some f → slice_get before f ≡ Some (part_at s (i ∷ []))
  field_form k (Record xs) i f h at = record_part xs i f h at
  field_form k _ i f h at = absurd (none-some f at)

  plain_field : (form : TypeForm) (i f : ℕ) → shape_in t before None form ≡ Some s → field_in i form ≡ Some f → slice_get before f ≡ Some (part_at s (i ∷ []))
  plain_field (Record xs) i f h at = record_part xs i f h at
  plain_field _ i f h at = absurd (none-some f at)

  field_entry : (b : Option RBase) (e : Option TypeEntry) (i f : ℕ) → shape_by t before (kind_over b e) e ≡ Some s → field_by i e ≡ Some f → slice_get before f ≡ Some (part_at s (i ∷ []))
  field_entry b None i f h at = absurd (none-some f at)
  field_entry None (Some e) i f h at = plain_field e.form i f h at
  field_entry (Some k) (Some e) i f h at = field_form k e.form i f h at

  -- ---- arrays
  abbrev IsRow : ArrayParts → RKind → Type 0
  IsRow parts k = (slice_get before parts.element ≡ Some (element_of s)) × (count_of s ≡ numbers (kind_view k))

  row_part : (k : RKind) (n : ℕ) (o : Option Shape) → slice_get before n ≡ o → row (Some k) o ≡ Some s → (slice_get before n ≡ Some (element_of s)) × (count_of s ≡ numbers (kind_view k))
  row_part k n None there h = absurd (none-some s h)
  row_part k n (Some y) there h =
      let is = (cond_some (nat_le (numbers (kind_view k) * words y) 32000) (Row (numbers (kind_view k)) y) s h).1 in
      (there ∙ ap (λ s. Some (element_of s)) is, sym (ap count_of is))

  array_part : (i e : ℕ) (parts : ArrayParts) (k : RKind) → row (kind_at t i) (slice_get before e) ≡ Some s → Some (record { index = i; element = e }) ≡ Some parts → kind_at t parts.index ≡ Some k → IsRow parts k
  array_part i e parts k h at kind =
      let is : record { index = i; element = e } ≡ parts = same_Some (record { index = i; element = e }) parts at in
      let here : kind_at t i ≡ Some k = ap (λ (p : ArrayParts). kind_at t p.index) is ∙ kind in
      subst (λ p. IsRow p k) is (row_part k e (slice_get before e) refl (ap (λ k. row k (slice_get before e)) (sym here) ∙ h))

  array_form : (b : RBase) (form : TypeForm) (parts : ArrayParts) (k : RKind) → shape_in t before (kind_form b form) form ≡ Some s → array_in form ≡ Some parts → kind_at t parts.index ≡ Some k → IsRow parts k
  array_form b (Array i e) parts k h at kind = array_part i e parts k h at kind
  array_form b _ parts k h at kind = absurd (none-some parts at)

  plain_array : (form : TypeForm) (parts : ArrayParts) (k : RKind) → shape_in t before None form ≡ Some s → array_in form ≡ Some parts → kind_at t parts.index ≡ Some k → IsRow parts k
  plain_array (Array i e) parts k h at kind = array_part i e parts k h at kind
  plain_array _ parts k h at kind = absurd (none-some parts at)

  array_entry : (b : Option RBase) (e : Option TypeEntry) (parts : ArrayParts) (k : RKind) → shape_by t before (kind_over b e) e ≡ Some s → array_by e ≡ Some parts → kind_at t parts.index ≡ Some k → IsRow parts k
  array_entry b None parts k h at kind = absurd (none-some parts at)
  array_entry None (Some e) parts k h at kind = plain_array e.form parts k h at kind
  array_entry (Some b) (Some e) parts k h at kind = array_form b e.form parts k h at kind

  -- ---- arrays and records are there
  row_there : (k : Option RKind) (o : Option Shape) → row k o ≡ Some s → is_there s ≡ true
  row_there (Some k) (Some y) h = sym (ap is_there (cond_some (nat_le (numbers (kind_view k) * words y) 32000) (Row (numbers (kind_view k)) y) s h).1)
  row_there _ _ h = absurd (none-some s h)

  record_there : (xs : List Field) → option_map fields_of (within (all_some (map (field_shape before) xs))) ≡ Some s → is_there s ≡ true
  record_there xs h =
      let of = mapped fields_of (within (all_some (map (field_shape before) xs))) s h in
      sym (ap is_there of.2) ∙ fields_there of.0

  form_there : (k : Option RKind) (form : TypeForm) → shape_in t before k form ≡ Some s → is_composite form ≡ true → is_there s ≡ true
  form_there (Some k) form h at = sym (ap is_there (same_Some (Word (kind_view k)) s h))
  form_there None (Array i e) h at = row_there (kind_at t i) (slice_get before e) h
  form_there None (Record xs) h at = record_there xs h
  form_there None _ h at = absurd (true≢false (sym at))

  entry_there : (k : Option RKind) (e : Option TypeEntry) → shape_by t before k e ≡ Some s → composite_by e ≡ true → is_there s ≡ true
  entry_there k None h at = absurd (true≢false (sym at))
  entry_there k (Some e) h at = form_there k e.form h at

  -- ---- types of a kind
  word_entry : (k : RKind) (e : Option TypeEntry) → shape_by t before (Some k) e ≡ Some s → s ≡ Word (kind_view k)
  word_entry k None h = sym (same_Some (Word (kind_view k)) s h)
  word_entry k (Some e) h = sym (same_Some (Word (kind_view k)) s h)

module _ (t : Table) (ts : List Shape) (n : ℕ) (s : Shape) (h : HasShape t ts n s) where
  pub field_shaped : (i f : ℕ) → field_at t n i ≡ Some f → slice_get ts f ≡ Some (part_at s (i ∷ []))
  field_shaped i f at = h.parts f (part_at s (i ∷ [])) (field_entry t h.before s (base_at t (base t n)) (entry t n) i f h.is at)

  pub element_shaped : (parts : ArrayParts) (k : RKind) → array_at t n ≡ Some parts → kind_at t parts.index ≡ Some k → (slice_get ts parts.element ≡ Some (element_of s)) × (count_of s ≡ numbers (kind_view k))
  element_shaped parts k at kind =
      let is = array_entry t h.before s (base_at t (base t n)) (entry t n) parts k h.is at kind in
      (h.parts parts.element (element_of s) is.0, is.1)

  pub composite_shaped : composite_at t n ≡ true → is_there s ≡ true
  composite_shaped at = entry_there t h.before s (kind_at t n) (entry t n) h.is at

  pub word_shaped : (k : RKind) → kind_at t n ≡ Some k → s ≡ Word (kind_view k)
  word_shaped k kind = word_entry t h.before s k (entry t n) (ap (λ k. shape_by t h.before k (entry t n)) (sym kind) ∙ h.is)
