-- Subranges in which no test finds a fault: they have a form, and their numbers are those of their base.
use Rattle.std.proofs.Common.{◌≡◌, ℕ, zero, suc, ◌<◌, ◌≤◌, Bool, true, false, not, ◌&&◌, List, [], ◌∷◌, Option, Some, None, if◌then◌else◌, refl, sym, ap, subst, ◌∙◌, arith, true≢false, ◌⊎◌, inl, inr}
use Rattle.std.specs.Prelude.{◌==◌, ℤ, pos, negsuc, ◌≤ℤ◌, int_lt, is_some}
use Rattle.std.proofs.lemmas.{Int.ints, Option.{none-some, same_Some}, Bool.{and_parts, Decides.nat_tests}}
use Rattle.lil_base.specs.{declared.fault.Place.Place, Laws.bounds, Words.{between, number_of, Integer}}
use Rattle.lil_types.specs.{Types.{Table, entry, base, integer, cardinal, char}, Folding.fits, declared.table.{Facts.Facts, Origin.Origin, Span.Span, TypeEntry.TypeEntry, TypeForm.TypeForm}}
use Rattle.lil_types.specs.Types as types
use Rattle.lil_types.specs.declared.table.TypeForm.TheVariants as form
use Rattle.lil_report.specs.Told.{Row}
use Rattle.lil_scope.specs.declared.thing.Kind.{Kind}
use Rattle.lil_scope.specs.declared.thing.Kind.TheVariants as k
use Rattle.lil_declared.specs.declared.declared.RVar.{RVar}
use Rattle.lil_forms.specs.Properties.{Property, Reach}
use Rattle.lil_kinds.specs.{Forms.{span_in, span_of}, Kinds.{is_constant, word_number, number, suits, compatible}, declared.found.Found.Found}
use Rattle.lil_kinds.specs.Kinds as kinds
use Rattle.lil_resolved.specs.{Kinds.{is_ordinal, least, greatest}, Views.base_view, declared.resolved.{RBase.RBase, RNamed.RNamed}}
use Rattle.lil_resolved.specs.declared.resolved.RBase.TheVariants as b
use Rattle.lil_shapes.specs.{BaseLaws.{same_sort, if_some}, Bases.{base_by, base_form, base_at}, Operators.has_number}
use Rattle.lil_shapes.specs.Bases as shapes
use Rattle.lil_check_type.specs.{declared.{bounds.Bound.Bound, named.NamedType.{NamedType, TheVariants.{Absent, Given, Faulty}}}, Nodes.{clear, node}, Bounds.{bound_of, type_below, range_base, alike, goes_down, is_empty, span_by, span_between, bound_right, range_by, range_form, range_over, range_node}}
use Rattle.lil_check_type.specs.Labels as labels
use Rattle.lil_right_type.specs.{Right.{Clear, Right, IsThere, is_so}, Types.{HasSpan, FormTold, IsTold, IsOrdinal, own_base, entry_base, entry_known, no_entry, known_ordinal, span_is}, Parts.base_itself, Found.{is_scalar, KindTold, IsFound}}
use Rattle.lil_right_sort.specs.Growth.{some_is, PartsTold}

-- the numbers of a type are those of a base
abbrev pub HasBase : Table → ℕ → Type 0
HasBase t n = (k : RBase) × (base_at t (base t n) ≡ Some k) × (is_ordinal (base_view k) ≡ true)

-- numbers of a base, from the lower to the higher one
pub record Numbered (k : RBase) (s : Span) : Type 0 where
  pub low : has_number k s.low ≡ true
  pub high : has_number k s.high ≡ true
  pub ordered : s.low ≤ℤ s.high

-- the base that a subrange names
abbrev pub NamedTold : Table → NamedType → Type 0
NamedTold t Absent = Unit {0}
NamedTold t (Given n) = HasSpan t n
NamedTold t Faulty = ⊥

-- ---- nodes that have no value where a test finds a fault
is_clear : (rs : List Row) → Clear rs → clear rs ≡ true
is_clear [] h = refl
is_clear (r ∷ rs) h = λ i. not (h.0 i) && is_clear rs h.1 i

pub node_right : {A : Type 0} (P : A → Type 0) (rs : List Row) (o : Option A) → (Clear rs → IsThere P o) → Right (IsThere P) (node rs o)
node_right P rs o h clear = subst (λ c. IsThere P (if c then o else None)) (sym (is_clear rs clear)) (h clear)

module _ {A : Type 0} (P : A → Type 0) where
  there : (o : Option A) (x : A) → o ≡ Some x → P x → IsThere P o
  there o x is h = subst (IsThere P) (sym is) h

standard_span : (n : ℕ) (k : RBase) → shapes.standard n ≡ Some k → is_ordinal (base_view k) ≡ true → (u : Span) × (span_in (types.standard n) ≡ Some u)
standard_span n k is h = by n (low n k is h)
  where
    low : (n : ℕ) (k : RBase) → shapes.standard n ≡ Some k → is_ordinal (base_view k) ≡ true → n < 4
    low n k is h = grind (arith, nat_tests)

    by : (n : ℕ) → n < 4 → (u : Span) × (span_in (types.standard n) ≡ Some u)
    by zero h = (_, refl)
    by (suc zero) h = (_, refl)
    by (suc (suc zero)) h = (_, refl)
    by (suc (suc (suc zero))) h = (_, refl)
    by (suc (suc (suc (suc n)))) h = absurd (omega arith)

-- a whole constant fits INTEGER, or CARDINAL
fits_is : (n : ℕ) (v : ℤ) → fits n v ≡ true → ((n ≡ integer) × (v ≤ℤ pos 32767)) ⊎ ((n ≡ cardinal) × (pos 0 ≤ℤ v))
fits_is n v h = grind (arith, nat_tests, ints)

module _ (t : Table) (told : IsTold t) where
  pub span_base : (n : ℕ) → HasSpan t n → HasBase t n
  span_base n h = let o : IsOrdinal t n h.0 = known_ordinal t told n h.0 h.1 in (o.kind.base, o.base, o.ordinal)

  -- a type below which there is an ordinal base is ordinal
  pub base_span : (n : ℕ) → HasBase t n → HasSpan t n
  base_span n h = by (entry t n) refl
    where
      own : (o : Origin) (f : Facts) (form : TypeForm) → entry t n ≡ Some (record { origin = o; form = form; facts = f }) → f.base ≡ n → base_form n form ≡ Some h.0
      own o f form is base = sym (ap (base_by n) is) ∙ sym (ap (base_at t) (entry_base t told n _ is ∙ base)) ∙ h.1

      not_ordinal : (k : RBase) → is_ordinal (base_view k) ≡ false → Some k ≡ Some h.0 → ⊥
      not_ordinal k other is = true≢false (sym h.2 ∙ ap (λ k. is_ordinal (base_view k)) (sym (same_Some k h.0 is)) ∙ other)

      in_form : (o : Origin) (f : Facts) (form : TypeForm) → entry t n ≡ Some (record { origin = o; form = form; facts = f }) → FormTold t n f form → HasSpan t n
      in_form o f (form.Enumeration xs) is j = (_, ap span_in (entry_known t n _ is) ∙ ap (λ (f : Facts). f.span) j.0)
      in_form o f (form.Subrange m s) is j = (s, ap span_in (entry_known t n _ is) ∙ j.0)
      in_form o f (form.SetOf m) is j = absurd (not_ordinal b.Set refl (own o f _ is j.0))
      in_form o f (form.Pointer m) is j = absurd (not_ordinal (b.Pointer n) refl (own o f _ is j.0))
      in_form o f (form.Procedure ps r) is j = absurd (not_ordinal (b.Procedure n) refl (own o f _ is j.0))
      in_form o f (form.Opaque x) is j = absurd j
      in_form o f form is j = absurd (none-some h.0 (own o f form is j.0))

      by : (o : Option TypeEntry) → entry t n ≡ o → HasSpan t n
      by None is =
          let s = standard_span n h.0 (sym (ap (base_by n) is) ∙ sym (ap (base_at t) (own_base t told n is)) ∙ h.1) h.2 in
          (s.0, ap span_in (no_entry t n is) ∙ s.1)
      by (Some e) is = in_form e.origin e.facts e.form is (told n e is)

  -- the base itself too
  under_base : (n : ℕ) → HasBase t n → HasBase t (base t n)
  under_base n h = (h.0, ap (base_at t) (base_itself t told (base t n) h.0 h.1).0 ∙ h.1, h.2)

  spanned : (n : ℕ) → is_some (span_of t n) ≡ true → HasSpan t n
  spanned n h = let s = some_is (span_of t n) h in (s.0, sym (span_is t told n) ∙ s.1)

  -- ---- constants that go together with a type
  -- the type below is the one below that type, or both are whole
  abbrev Beside : ℕ → Kind → Type 0
  Beside n a = (m : ℕ) × (type_below t a ≡ Some m) × ((m ≡ base t n) ⊎ ((m < 2) × (base t n < 2)))

  fits_whole : (n : ℕ) (v : ℤ) → fits n v ≡ true → n < 2
  fits_whole n v h = omega (arith, fits_is n v h)

  beside : (n : ℕ) (a : Kind) → is_constant a ≡ true → suits t n a ≡ true → Beside n a
  unfolding is_constant suits
  beside n (k.Whole (pos v)) c h = (cardinal, refl, inr (omega arith, fits_whole (base t n) (pos v) h))
  beside n (k.Whole (negsuc v)) c h = (integer, refl, inr (omega arith, fits_whole (base t n) (negsuc v) h))
  beside n (k.Scalar s w) c h = (base t s, refl, inl (sym (same_sort (base t n) (base t s) h)))
  beside n (k.Chars x) c h = (char, refl, inl (sym (same_sort (base t n) char (and_parts (x.length == 1) (base t n == char) h).1)))
  beside n _ c h = absurd (true≢false (sym c))

  -- it has a number, which is one of the base's
  number_is : (n : ℕ) (a : Kind) → KindTold t a → is_constant a ≡ true → suits t n a ≡ true → (of : HasBase t n) → (z : ℤ) × (number t a ≡ Some z) × (has_number of.0 z ≡ true)
  unfolding is_constant suits number
  number_is n (k.Whole v) told_kind c h of = (v, refl, whole (base t n) v h told_kind of.0 of.1)
    where
      whole : (n : ℕ) (v : ℤ) → fits n v ≡ true → between (negsuc 32767) v (pos 65535) ≡ true → (k : RBase) → base_at t n ≡ Some k → has_number k v ≡ true
      whole n v fit within k is = elim (fits_is n v fit) [
        | inl low ↦ subst (λ k. has_number k v ≡ true) (same_Some b.Integer k (sym (ap (base_at t) low.0) ∙ is)) (signed v ends.0 low.1)
        | inr high ↦ subst (λ k. has_number k v ≡ true) (same_Some b.Cardinal k (sym (ap (base_at t) high.0) ∙ is)) (natural v ends.1 high.1)
      ]
        where
          ends : (negsuc 32767 ≤ℤ v) × (v ≤ℤ pos 65535)
          ends = bounds (negsuc 32767) v (pos 65535) within

          signed : (v : ℤ) → negsuc 32767 ≤ℤ v → v ≤ℤ pos 32767 → has_number b.Integer v ≡ true
          signed v from to = grind (arith, ints)

          natural : (v : ℤ) → v ≤ℤ pos 65535 → pos 0 ≤ℤ v → has_number b.Cardinal v ≡ true
          natural v to from = grind (arith, ints)
  number_is n (k.Scalar s w) told_kind c h of =
      let same : told_kind.0 ≡ of.0 = same_Some told_kind.0 of.0 (sym told_kind.1 ∙ ap (base_at t) (sym (same_sort (base t n) (base t s) h)) ∙ of.1) in
      let span : HasSpan t s = base_span s (told_kind.0, told_kind.1, ap (λ k. is_ordinal (base_view k)) same ∙ of.2) in (
        pos w,
        ap (λ o. if is_some o then Some (word_number t s w) else None) (span_is t told s ∙ span.1) ∙ ap (λ c. Some (if c then number_of Integer w else pos w)) (unsigned (base t s == integer) refl),
        subst (λ k. has_number k (pos w) ≡ true) same told_kind.3,
      )
    where
      unsigned : (c : Bool) → (base t s == integer) ≡ c → (base t s == integer) ≡ false
      unsigned true is = absurd (true≢false (sym told_kind.2 ∙ ap is_scalar (sym (same_Some b.Integer told_kind.0 (sym (ap (base_at t) (same_sort (base t s) integer is)) ∙ told_kind.1)))))
      unsigned false is = is
  number_is n (k.Chars x) told_kind c h of =
      let parts = and_parts (x.length == 1) (base t n == char) h in (
        pos x.first,
        ap (λ c. if c then Some (pos x.first) else None) parts.0,
        subst (λ k. has_number k (pos x.first) ≡ true) (same_Some b.Character of.0 (sym (ap (base_at t) (same_sort (base t n) char parts.1)) ∙ of.1)) (code x.first told_kind),
      )
    where
      code : (c : ℕ) → c ≤ 255 → has_number b.Character (pos c) ≡ true
      code c h = grind (arith, nat_tests, ints)
  number_is n _ told_kind c h of = absurd (true≢false (sym c))

  -- ---- both bounds
  alike_is : (n : ℕ) (a c : Kind) → Beside n a → Beside n c → alike (type_below t a) (type_below t c) ≡ true
  alike_is n a c h j = (λ i. alike (h.1 i) (j.1 i)) ∙ elim h.2 [
    | inl one ↦ elim j.2 [ inl other ↦ same h.0 j.0 (one ∙ sym other) | inr other ↦ let low : h.0 < 2 = omega (arith, one, other.1) in whole h.0 j.0 low other.0 ]
    | inr one ↦ elim j.2 [ inl other ↦ let low : j.0 < 2 = omega (arith, other, one.1) in whole h.0 j.0 one.0 low | inr other ↦ whole h.0 j.0 one.0 other.0 ]
  ]
    where
      same : (m n : ℕ) → m ≡ n → alike (Some m) (Some n) ≡ true
      same m n is = grind (arith, nat_tests)

      whole : (m n : ℕ) → m < 2 → n < 2 → alike (Some m) (Some n) ≡ true
      whole m n h j = grind (arith, nat_tests)

  -- all values between two that don't go down
  pub between_is : (n : ℕ) (a c : Kind) (of : HasBase t n) → KindTold t a → KindTold t c → is_constant a ≡ true → suits t n a ≡ true → is_constant c ≡ true → suits t n c ≡ true → is_empty t a c ≡ false
      → (s : Span) × (span_between t a c ≡ Some s) × Numbered of.0 s
  between_is n a c of first last constant_first suits_first constant_last suits_last some =
      let low = number_is n a first constant_first suits_first of in
      let high = number_is n c last constant_last suits_last of in
      let both : alike (type_below t a) (type_below t c) ≡ true = alike_is n a c (beside n a constant_first suits_first) (beside n c constant_last suits_last) in
      let up : int_lt high.0 low.0 ≡ false = sym (λ i. both i && goes_down (low.1 i) (high.1 i)) ∙ some in (
        types.span low.0 high.0,
        (λ i. if both i then span_by (low.1 i) (high.1 i) else None) ∙ ap (λ c. if c then None else Some (types.span low.0 high.0)) up,
        record { low = low.2; high = high.2; ordered = ordered low.0 high.0 up },
      )
    where
      ordered : (x y : ℤ) → int_lt y x ≡ false → x ≤ℤ y
      ordered x y h = omega (arith, ints)

  range_law : (p : Place) (named : NamedType) (of : Option ℕ) (a c : Bound) → ((n : ℕ) → of ≡ Some n → HasBase t n) → KindTold t a.kind → KindTold t c.kind → Right (IsThere (PartsTold t)) (range_over t p named of a c)
  unfolding compatible
  range_law p named None a c under first last clear = absurd (true≢false clear.0)
  range_law p named (Some n) a c under first last clear =
      let suits_first : suits t n a.kind ≡ true = is_so (suits t n a.kind) clear.0 in
      let suits_last : suits t n c.kind ≡ true = is_so (suits t n c.kind) clear.1.1.1.0 in
      let constant_first : is_constant a.kind ≡ true = is_so (is_constant a.kind) clear.1.0 in
      let constant_last : is_constant c.kind ≡ true = is_so (is_constant c.kind) clear.1.1.1.1.0 in
      let of : HasBase t n = under n refl in
      let span = between_is n a.kind c.kind of first last constant_first suits_first constant_last suits_last clear.1.1.1.1.1.1.0 in
      let right_first : bound_right t named (Some n) a.kind ≡ true = λ i. not (clear.0 i) && (constant_first i && not (clear.1.1.0 i)) in
      let right_last : bound_right t named (Some n) c.kind ≡ true = λ i. not (clear.1.1.1.0 i) && (constant_last i && not (clear.1.1.1.1.1.0 i)) in
      let low_ends = bounds (least (base_view of.0)) span.0.low (greatest (base_view of.0)) span.2.low in
      let high_ends = bounds (least (base_view of.0)) span.0.high (greatest (base_view of.0)) span.2.high in
      let based = under_base n of in
      there (PartsTold t) (range_form t named (Some n) a.kind c.kind) (form.Subrange n span.0)
      ((λ i. if right_first i && right_last i then range_by (Some n) (span_between t a.kind c.kind) else None) ∙ ap (range_by (Some n)) span.1)
      (record { base = of.0; is = of.1; ordinal = of.2; least = low_ends.0; ordered = span.2.ordered; greatest = high_ends.1 })

  -- ---- labels that go together with a type
  module _ (us : List Span) (n : ℕ) (of : HasBase t n) where
    pub one_right : (a : Bound) → KindTold t a.kind → Right (IsThere (Numbered of.0)) (labels.one_node t (Some n) us (Some a))
    unfolding labels.one_node compatible
    one_right a told_kind = node_right (Numbered of.0) (labels.one_rows t (Some n) us a) (span_between t a.kind a.kind) (λ clear.
        let fits : suits t n a.kind ≡ true = is_so (suits t n a.kind) clear.0 in
        let constant : is_constant a.kind ≡ true = is_so (is_constant a.kind) clear.1.0 in
        let span = between_is n a.kind a.kind of told_kind told_kind constant fits constant fits (one_some a.kind) in
        there (Numbered of.0) (span_between t a.kind a.kind) span.0 span.1 span.2)
      where
        not_below : (z : ℤ) → int_lt z z ≡ false
        not_below z = grind (arith, ints)

        same_number : (o : Option ℤ) → goes_down o o ≡ false
        same_number None = refl
        same_number (Some z) = not_below z

        and_false : (c d : Bool) → d ≡ false → (c && d) ≡ false
        and_false c d h = grind arith

        one_some : (a : Kind) → is_empty t a a ≡ false
        one_some a = and_false (alike (type_below t a) (type_below t a)) (goes_down (number t a) (number t a)) (same_number (number t a))

    pub several_right : (a c : Bound) → KindTold t a.kind → KindTold t c.kind → Right (IsThere (Numbered of.0)) (labels.range_node t (Some n) us (Some a) (Some c))
    unfolding labels.range_node compatible
    several_right a c first last = node_right (Numbered of.0) (labels.range_rows t (Some n) us a c) (span_between t a.kind c.kind) (λ clear.
        let span = between_is n a.kind c.kind of first last (is_so (is_constant a.kind) clear.1.0) (is_so (suits t n a.kind) clear.0) (is_so (is_constant c.kind) clear.1.1.1.0) (is_so (suits t n c.kind) clear.1.1.0) clear.1.1.1.1.1.0 in
        there (Numbered of.0) (span_between t a.kind c.kind) span.0 span.1 span.2)

  -- ---- the base of the first bound
  span_under : (s n : ℕ) → (if is_some (span_of t s) then Some (base t s) else None) ≡ Some n → HasBase t n
  span_under s n h =
      let parts = if_some (is_some (span_of t s)) (Some (base t s)) n h in
      subst (HasBase t) (same_Some (base t s) n parts.1) (under_base s (span_base s (spanned s parts.0)))

  first_base : (a : Kind) → KindTold t a → (n : ℕ) → range_base t Absent a ≡ Some n → HasBase t n
  unfolding kinds.is_ordinal
  first_base (k.Whole (pos v)) h n is = subst (HasBase t) (same_Some cardinal n is) (b.Cardinal, refl, refl)
  first_base (k.Whole (negsuc v)) h n is = subst (HasBase t) (same_Some integer n is) (b.Integer, refl, refl)
  first_base (k.Scalar s w) h n is = span_under s n is
  first_base (k.Chars x) h n is = subst (HasBase t) (same_Some char n (if_some (x.length == 1) (Some char) n is).1) (b.Character, refl, refl)
  first_base (k.Of s) h n is = span_under s n is
  first_base k.Nil h n is = absurd (none-some n is)
  first_base (k.Open s) h n is = absurd (none-some n is)
  first_base (k.Routine s) h n is = absurd (none-some n is)

  abbrev asked : Found → Bound
  asked a = record { kind = a.kind; first = a.first }

  pub range_right : {vs : RNamed → Option RVar} {around : List ℕ} {R : Reach} (P : Property t vs around R) (p : Place) (named : NamedType) (a c : Option Found) → NamedTold t named → IsThere (IsFound P) a → IsThere (IsFound P) c → Right (IsThere (PartsTold t)) (range_node t p named (bound_of a) (bound_of c))
  range_right P p Faulty a c h first last = absurd h
  range_right P p Absent None c h first last = absurd first
  range_right P p Absent (Some a) None h first last = absurd last
  range_right P p Absent (Some a) (Some c) h first last = range_law p Absent (range_base t Absent a.kind) (asked a) (asked c) (first_base a.kind first.kind) first.kind last.kind
  range_right P p (Given n) None c h first last = absurd first
  range_right P p (Given n) (Some a) None h first last = absurd last
  range_right P p (Given n) (Some a) (Some c) h first last = range_law p (Given n) (Some n) (asked a) (asked c) (λ m is. subst (HasBase t) (same_Some n m is) (span_base n h)) first.kind last.kind
