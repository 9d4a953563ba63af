-- Each type of a table that is told and measured has a shape, of at most as many words as the table says.
use Rattle.std.proofs.Common.{◌≡◌, ℕ, zero, suc, ◌+◌, ◌*◌, ◌≤◌, ◌<◌, Bool, true, false, ◌||◌, List, [], ◌∷◌, ◌++◌, length, map, get_or, slice_get, sum_by, Option, Some, None, if◌then◌else◌, inl, inr, refl, sym, ap, subst, ◌∙◌, arith, true≢false}
use Rattle.std.specs.Prelude.{ℤ, pos, negsuc, ◌+ℤ◌, ◌-ℤ◌, ◌-◌, nat_lt, nat_le, is_some}
use Rattle.std.specs.Option.{option_map}
use Rattle.std.proofs.lemmas.{Bool.{cases_lt, Decides.nat_tests}, List.Sums.sum_by-cons, Nat.mul-le, Option.{none-some, same_Some, slice_get_within, slice_get-get_or}}
use Rattle.lil_types.specs.{Types.{Table, entry, known, sum_of, fields_words, values}, declared.table.{Facts.Facts, Field.Field, TypeEntry.TypeEntry, TypeForm.{TypeForm, TheVariants.{Array, Record}}}}
use Rattle.lil_types.specs.Types as types
use Rattle.lil_resolved.specs.{Kinds.{numbers, least, greatest, Shape, Absent, Word, Row, words, is_there, all_words, fields_of}, Views.kind_view, declared.resolved.{RBase.RBase, RKind.RKind}}
use Rattle.lil_resolved.specs.Kinds as kinds
use Rattle.lil_shapes.specs.{Bases.{standard, base_by, base_at, kind_form, kind_over, kind_at, is_composite, composite_by, composite_at}, ListLaws.AllFine, Pointers.lies_at, ShapeSound.{HasShape, at_end, all_shaped, composite_shaped, word_shaped}}
use Rattle.lil_shapes.specs.Shaping.{all_some, within, scalar, row, field_shape, shape_in, shape_by, shape, with_next, shapes_below, shapes}
use Rattle.lil_right_type.specs.{Types.{IsTold, own_base, known_ordinal, entry_known, no_entry}, Words.{FormMeasured, AreMeasured}}

-- ---- lists of shapes
pub fine_all : {A : Type 0} (P Q : A → Type 0) → ((a : A) → P a → Q a) → (xs : List A) → AllFine P xs → AllFine Q xs
fine_all P Q each [] h = tt
fine_all P Q each (x ∷ xs) h = (each x h.0, fine_all P Q each xs h.1)

pub within_so : (ss : List Shape) (o : Option (List Shape)) → o ≡ Some ss → all_words ss ≤ 32000 → within o ≡ Some ss
within_so ss o is few =
    let fits : nat_le (all_words ss) 32000 ≡ true = grind (arith, nat_tests) in
    ap within is ∙ ap (λ c. if c then Some ss else None) fits

-- something is there, and takes at most so many words
abbrev pub Fits : ℕ → Option Shape → Type 0
Fits n o = (s : Shape) × (o ≡ Some s) × (words s ≤ n)

module _ {X : Type 0} (F : X → Option Shape) (size : X → ℕ) where
  pub all_there : (xs : List X) → AllFine (λ x. Fits (size x) (F x)) xs → (ss : List Shape) × (all_some (map F xs) ≡ Some ss) × (all_words ss ≤ sum_by size xs)
  all_there [] h = ([], refl, omega arith)
  all_there (x ∷ xs) h =
      let rest = all_there xs h.1 in
      (h.0.0 ∷ rest.0, ap (λ o. all_some (o ∷ map F xs)) h.0.1 ∙ ap (option_map (λ ss. h.0.0 ∷ ss)) rest.1, omega (arith, sum_by-cons size x xs, h.0.2, rest.2))

fields_take : (ss : List Shape) → words (fields_of ss) ≡ all_words ss
fields_take [] = refl
fields_take (s ∷ ss) = ap (λ n. words s + n) (fields_take ss)

fields_sum : (t : Table) (xs : List Field) (n : ℕ) → fields_words t xs ≡ Some n → sum_by (λ (x : Field). types.words t x.sort) xs ≡ n
fields_sum t [] n h = same_Some 0 n h
fields_sum t (x ∷ xs) n h = by (known t x.sort) refl (fields_words t xs) refl h (fields_sum t xs)
  where
    by : (o : Option Facts) → known t x.sort ≡ o → (r : Option ℕ) → fields_words t xs ≡ r → sum_of o r ≡ Some n → ((m : ℕ) → fields_words t xs ≡ Some m → sum_by (λ (x : Field). types.words t x.sort) xs ≡ m)
        → sum_by (λ (x : Field). types.words t x.sort) (x ∷ xs) ≡ n
    by (Some f) is (Some m) rest e others = omega (arith, sum_by-cons (λ (x : Field). types.words t x.sort) x xs, ap types.words_by is, others m rest, same_Some (f.words + m) n e)
    by _ is _ rest e others = absurd (none-some n e)

-- ---- numbers
same_nat : (z : ℤ) → kinds.nat_of z ≡ types.nat_of z
same_nat (pos n) = refl
same_nat (negsuc n) = refl

standard_words : (n : ℕ) → n < 8 → types.words_by (types.standard n) ≡ 1
standard_words n h = grind (arith, nat_tests)

no_words : (n : ℕ) → 8 ≤ n → standard n ≡ None
no_words n h = grind (arith, nat_tests)

-- ---- forms
scalar_fits : (k : Option RKind) → words (scalar k) ≤ 1
scalar_fits None = omega arith
scalar_fits (Some k) = omega arith

scalar_form : (t : Table) (before : List Shape) (k : Option RKind) (form : TypeForm) → is_composite form ≡ false → Fits 1 (shape_in t before k form)
scalar_form t before (Some k) form h = (Word (kind_view k), refl, omega arith)
scalar_form t before None (Array i e) h = absurd (true≢false h)
scalar_form t before None (Record xs) h = absurd (true≢false h)
scalar_form t before None _ h = (Absent, refl, omega arith)

composite_kind : (b : Option RBase) (e : TypeEntry) → is_composite e.form ≡ true → kind_over b (Some e) ≡ None
composite_kind None e h = refl
composite_kind (Some k) e h = in_form e.form h
  where
    in_form : (form : TypeForm) → is_composite form ≡ true → kind_form k form ≡ None
    in_form (Array i e) h = refl
    in_form (Record xs) h = refl
    in_form _ h = absurd (true≢false (sym h))

-- ---- the shapes of all types
-- each takes at most as many words as the table says of its type
abbrev pub AreSized : Table → List Shape → Type 0
AreSized t ss = (n : ℕ) (x : Shape) → slice_get ss n ≡ Some x → words x ≤ types.words t n

module _ (t : Table) (told : IsTold t) where
  no_kind : (n : ℕ) → 8 ≤ n → entry t n ≡ None → kind_at t n ≡ None
  no_kind n high is = ap (λ b. kind_over b (entry t n)) (ap (base_at t) (own_base t told n is) ∙ ap (base_by n) is ∙ no_words n high)

  module _ (measured : AreMeasured t) (before : List Shape) (n : ℕ) (long : length before ≡ n) (sized : AreSized t before) where
    part_there : (m : ℕ) → m < n → Fits (types.words t m) (slice_get before m)
    part_there m h =
        let at : slice_get before m ≡ Some (get_or before m Absent) = slice_get-get_or before m Absent (omega (arith, long)) in
        (get_or before m Absent, at, sized m (get_or before m Absent) at)

    row_there : (i e : ℕ) (f : Facts) → FormMeasured t n f (Array i e) → f.words ≤ 32000 → Fits f.words (row (kind_at t i) (slice_get before e))
    row_there i e f m few =
        let o = known_ordinal t told i m.1.0 m.1.1 in
        let s = part_there e m.0 in
        let count : numbers (kind_view o.kind) ≡ values m.1.0 = (λ j. kinds.nat_of ((o.greatest j -ℤ o.least j) +ℤ pos 1)) ∙ same_nat ((m.1.0.high -ℤ m.1.0.low) +ℤ pos 1) in
        let all : numbers (kind_view o.kind) * words s.0 ≤ f.words = omega (arith, mul-le (numbers (kind_view o.kind)) (words s.0) (values m.1.0) (types.words t e) (omega (arith, count)) s.2, m.1.2) in
        let fits : nat_le (numbers (kind_view o.kind) * words s.0) 32000 ≡ true = grind (arith, nat_tests) in
        (Row (numbers (kind_view o.kind)) s.0, (λ j. row (o.at j) (s.1 j)) ∙ ap (λ c. if c then Some (Row (numbers (kind_view o.kind)) s.0) else None) fits, all)

    record_there : (xs : List Field) (f : Facts) → FormMeasured t n f (Record xs) → f.words ≤ 32000 → Fits f.words (option_map fields_of (within (all_some (map (field_shape before) xs))))
    record_there xs f m few =
        let ss = all_there (field_shape before) (λ (x : Field). types.words t x.sort) xs (fine_all (λ (x : Field). x.sort < n) (λ (x : Field). Fits (types.words t x.sort) (slice_get before x.sort)) (λ (x : Field) h. part_there x.sort h) xs m.0) in
        let all : all_words ss.0 ≤ f.words = omega (arith, ss.2, fields_sum t xs f.words m.1) in
        (fields_of ss.0, ap (option_map fields_of) (within_so ss.0 (all_some (map (field_shape before) xs)) ss.1 (omega arith)), omega (arith, fields_take ss.0))

    next_there : Fits (types.words t n) (shape t before n)
    next_there = by (entry t n) refl
      where
        known_fits : (e : TypeEntry) (o : Option Shape) → entry t n ≡ Some e → shape t before n ≡ o → Fits e.facts.words o → Fits (types.words t n) (shape t before n)
        known_fits e o is same h = (h.0, same ∙ h.1, subst (λ m. words h.0 ≤ m) (sym (ap types.words_by (entry_known t n e is))) h.2)

        one_word : (e : TypeEntry) → entry t n ≡ Some e → is_composite e.form ≡ false → e.facts.words ≡ 1 → Fits (types.words t n) (shape t before n)
        one_word e is plain one = known_fits e _ is (ap (shape_by t before (kind_at t n)) is) (subst (λ m. Fits m (shape_in t before (kind_at t n) e.form)) (sym one) (scalar_form t before (kind_at t n) e.form plain))

        parts : (e : TypeEntry) (form : TypeForm) → entry t n ≡ Some e → e.form ≡ form → is_composite form ≡ true → Fits e.facts.words (shape_in t before None form) → Fits (types.words t n) (shape t before n)
        parts e form is same composite h =
            let kind : kind_at t n ≡ None = ap (kind_over (base_at t (types.base t n))) is ∙ composite_kind (base_at t (types.base t n)) e (ap is_composite same ∙ composite) in
            known_fits e (shape_in t before None form) is (ap (λ k. shape_by t before k (entry t n)) kind ∙ ap (shape_by t before None) is ∙ ap (shape_in t before None) same) h

        by_form : (e : TypeEntry) (form : TypeForm) → entry t n ≡ Some e → e.form ≡ form → FormMeasured t n e.facts form → e.facts.words ≤ 32000 → Fits (types.words t n) (shape t before n)
        by_form e (Array i of) is same m few = parts e (Array i of) is same refl (row_there i of e.facts m few)
        by_form e (Record xs) is same m few = parts e (Record xs) is same refl (record_there xs e.facts m few)
        by_form e _ is same m few = one_word e is (ap is_composite same) m

        by : (o : Option TypeEntry) → entry t n ≡ o → Fits (types.words t n) (shape t before n)
        by (Some e) is = let m = measured n e is in by_form e e.form is refl m.0 m.1
        by None is =
            let told_words : types.words t n ≡ types.words_by (types.standard n) = ap types.words_by (no_entry t n is) in
            let there : shape t before n ≡ Some (scalar (kind_at t n)) = ap (shape_by t before (kind_at t n)) is in
            elim (cases_lt n 8) [
              | inl low ↦ (scalar (kind_at t n), there, omega (arith, scalar_fits (kind_at t n), told_words, standard_words n low))
              | inr high ↦ (Absent, there ∙ ap (λ k. Some (scalar k)) (no_kind n high is), omega arith)
            ]

  module _ (measured : AreMeasured t) where
    below_there : (k : ℕ) → (ss : List Shape) × (shapes_below t k ≡ Some ss) × AreSized t ss
    unfolding shapes_below
    below_there zero = ([], refl, λ n x at. absurd (none-some x at))
    below_there (suc k) =
        let b = below_there k in
        let long : length b.0 ≡ k = (all_shaped t k b.0 b.1).0 in
        let y = next_there measured b.0 k long b.2 in (
          b.0 ++ y.0 ∷ [],
          ap (with_next t k) b.1 ∙ ap (option_map (λ s. b.0 ++ s ∷ [])) y.1,
          λ n x at. elim (at_end b.0 y.0 x n at) [
            | inl e ↦ b.2 n x e
            | inr e ↦ subst (λ m. words x ≤ types.words t m) (sym (e.0 ∙ long)) (subst (λ s. words s ≤ types.words t k) e.1 y.2)
          ],
        )

    pub shapes_there : (ss : List Shape) × (shapes t ≡ Some ss) × AreSized t ss
    shapes_there = below_there (16 + length t)

  -- ---- types in whose variables something lies
  lies_within : (n : ℕ) → lies_at t n ≡ true → n < 16 + length t
  lies_within n lies = by (entry t n) refl
    where
      entered : (e : TypeEntry) (low : Bool) → nat_lt n 16 ≡ low → (if low then None else slice_get t (n - 16)) ≡ Some e → n < 16 + length t
      entered e true low h = absurd (none-some e h)
      entered e false low h = let at : n - 16 < length t = slice_get_within t (n - 16) e h in grind (arith, nat_tests)

      by : (o : Option TypeEntry) → entry t n ≡ o → n < 16 + length t
      by (Some e) is = entered e (nat_lt n 16) refl is
      by None is = elim (cases_lt n 16) [
        | inl low ↦ omega arith
        | inr high ↦ absurd (true≢false (sym lies ∙ (λ j. is_some (no_kind n (omega arith) is j) || composite_by (is j))))
      ]

  module _ (ss : List Shape) (all : shapes t ≡ Some ss) where
    pub lies_there : (n : ℕ) (x : Shape) → lies_at t n ≡ true → slice_get ss n ≡ Some x → is_there x ≡ true
    lies_there n x lies at = by (kind_at t n) refl lies
      where
        shaped : HasShape t ss n x
        shaped = (all_shaped t (16 + length t) ss all).1 n x at

        by : (o : Option RKind) → kind_at t n ≡ o → (is_some o || composite_at t n) ≡ true → is_there x ≡ true
        by None is e = composite_shaped t ss n x shaped e
        by (Some k) is e = ap is_there (word_shaped t ss n x shaped k is)

    pub lies_shape : (n : ℕ) → lies_at t n ≡ true → (x : Shape) × (slice_get ss n ≡ Some x) × (is_there x ≡ true)
    lies_shape n lies =
        let at : slice_get ss n ≡ Some (get_or ss n Absent) = slice_get-get_or ss n Absent (omega (arith, (all_shaped t (16 + length t) ss all).0, lies_within n lies)) in
        (get_or ss n Absent, at, lies_there n (get_or ss n Absent) lies at)
