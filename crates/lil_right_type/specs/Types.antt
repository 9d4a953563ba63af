-- Tables of types that are told: what is known of each type agrees with its values, and something lies in each of its parts.
use Rattle.std.proofs.Common.{◌≡◌, ◌⊎◌, ℕ, zero, suc, ◌≤◌, ◌<◌, Bool, true, false, List, length, slice_get, Option, Some, None, if◌then◌else◌, refl, sym, ap, subst, ◌∙◌, arith}
use Rattle.std.specs.Prelude.{ℤ, pos, ◌≤ℤ◌, ◌-ℤ◌, ◌-◌, ◌==◌, nat_lt, nat_le, min}
use Rattle.std.proofs.lemmas.{Int.ints, Option.{none-some, same_Some}, Bool.Decides.nat_tests}
use Rattle.lil_types.specs.{Types.{Table, entry, known, facts_in, enumeration_facts, other_of, meant_by, meant, base, is_whole, span, bit_set, address, process, cardinal}, declared.table.{Facts.Facts, Field.Field, Parameter.Parameter, Span.Span, TypeEntry.TypeEntry, TypeForm.{TypeForm, TheVariants.{Enumeration, Subrange, Array, Record, SetOf, Pointer, Procedure, Opaque}}}}
use Rattle.lil_types.specs.Types as types
use Rattle.lil_kinds.specs.Forms.{span_in, span_of}
use Rattle.lil_resolved.specs.{Kinds.{is_ordinal, least, greatest, larger, lesser}, Views.{base_view, kind_view}, declared.resolved.{RBase.RBase, RKind.RKind}}
use Rattle.lil_resolved.specs.Kinds as Kinds
use Rattle.lil_resolved.specs.declared.resolved.RBase.TheVariants as b
use Rattle.lil_shapes.specs.{BaseLaws.same_sort, Bases.{plain, range_of, base_by, base_form, base_at, kind_form, kind_by, kind_over, kind_at}, ListLaws.AllFine, Pointers.lies_at}

-- a type has a base whose values are compared by their numbers, and these are among them
pub record HasNumbers (t : Table) (n : ℕ) (u : Span) : Type 0 where
  pub base : RBase
  pub is : base_at t n ≡ Some base
  pub ordinal : is_ordinal (base_view base) ≡ true
  pub least : least (base_view base) ≤ℤ u.low
  pub ordered : u.low ≤ℤ u.high
  pub greatest : u.high ≤ℤ greatest (base_view base)

-- a type is ordinal
abbrev pub HasSpan : Table → ℕ → Type 0
HasSpan t n = (u : Span) × (span_in (known t n) ≡ Some u)

-- something lies in what is handed over, or in each element of an open array. Those of PROCESS have no variables: nothing is handed over for them
abbrev pub PassedTold : Table → Parameter → Type 0
PassedTold t p = (lies_at t p.sort ≡ true) ⊎ (p.sort ≡ process)

-- values of the type of a result have a kind
abbrev pub ResultTold : Table → Option ℕ → Type 0
ResultTold t None = Unit {0}
ResultTold t (Some r) = (k : RKind) × (kind_at t r ≡ Some k)

-- what is known of a type agrees with how it is built. No type of a program that runs is opaque
abbrev pub FormTold : Table → ℕ → Facts → TypeForm → Type 0
FormTold t n f (Enumeration xs) = (f ≡ enumeration_facts n (length xs)) × (1 ≤ length xs) × (length xs ≤ 65535)
FormTold t n f (Subrange m s) = (f.span ≡ Some s) × HasNumbers t f.base s
FormTold t n f (Array i e) = (f.base ≡ n) × (f.span ≡ None) × HasSpan t i × (lies_at t e ≡ true)
FormTold t n f (Record xs) = (f.base ≡ n) × (f.span ≡ None) × AllFine (λ (x : Field). lies_at t x.sort ≡ true) xs
FormTold t n f (SetOf m) = (f.base ≡ n) × (f.span ≡ None) × ((u : Span) × (span_in (known t m) ≡ Some u) × (pos 0 ≤ℤ u.low) × (u.high ≤ℤ pos 15))
FormTold t n f (Pointer m) = (f.base ≡ n) × (f.span ≡ None) × (lies_at t m ≡ true)
FormTold t n f (Procedure ps r) = (f.base ≡ n) × (f.span ≡ None) × AllFine (PassedTold t) ps × ResultTold t r
FormTold t n f (Opaque o) = ⊥

abbrev pub IsTold : Table → Type 0
IsTold t = (n : ℕ) (e : TypeEntry) → entry t n ≡ Some e → FormTold t n e.facts e.form

-- an ordinal type has a kind, whose values have the type's numbers
pub record IsOrdinal (t : Table) (n : ℕ) (u : Span) : Type 0 where
  pub kind : RKind
  pub at : kind_at t n ≡ Some kind
  pub base : base_at t (base t n) ≡ Some kind.base
  pub ordinal : is_ordinal (base_view kind.base) ≡ true
  pub least : least (kind_view kind) ≡ u.low
  pub greatest : greatest (kind_view kind) ≡ u.high
  pub ordered : u.low ≤ℤ u.high
  pub from : Kinds.least (base_view kind.base) ≤ℤ u.low
  pub to : u.high ≤ℤ Kinds.greatest (base_view kind.base)

larger_is : (x y : ℤ) → y ≤ℤ x → larger x y ≡ x
larger_is x y h = grind (arith, ints)

lesser_is : (x y : ℤ) → x ≤ℤ y → lesser x y ≡ x
lesser_is x y h = grind (arith, ints)

last_number : (n : ℕ) → 1 ≤ n → n ≤ 65535 → pos (n - 1) ≡ pos (min n 65536) -ℤ pos 1
last_number n h j = grind (arith, ints)

facts_none : (o : Option Facts) → facts_in o None ≡ o
facts_none None = refl
facts_none (Some f) = refl

-- ---- the standard types
module _ (P : ℕ → Option Facts → Type 0) (n : ℕ) where
  one_of : (k : ℕ) (f : Facts) (o : Option Facts) (c : Bool) → (n == k) ≡ c → P k (Some f) → P n o → P n (if c then Some f else o)
  one_of k f o true is h j = subst (λ m. P m (Some f)) (sym (same_sort n k is)) h
  one_of k f o false is h j = j

  below : (o : Option Facts) (c : Bool) → P n (Some (types.facts n 1 None)) → P n None → P n (if c then Some (types.facts n 1 None) else None)
  below o true h j = h
  below o false h j = j

  -- what is true of each of them
  standard_are : P 0 (types.standard 0) → P 1 (types.standard 1) → P 2 (types.standard 2) → P 3 (types.standard 3) → P n (Some (types.facts n 1 None)) → P n None → P n (types.standard n)
  standard_are at_0 at_1 at_2 at_3 some none =
      one_of 0 _ _ (n == 0) refl at_0 (one_of 1 _ _ (n == 1) refl at_1 (one_of 2 _ _ (n == 2) refl at_2 (one_of 3 _ _ (n == 3) refl at_3 (below None (nat_lt n 8) some none))))

pub entry_high : (t : Table) (n : ℕ) (e : TypeEntry) → entry t n ≡ Some e → types.standard n ≡ None
entry_high t n e h = by (nat_lt n 16) refl h
  where
    by : (low : Bool) → nat_lt n 16 ≡ low → (if low then None else slice_get t (n - 16)) ≡ Some e → types.standard n ≡ None
    by true low h = absurd (none-some e h)
    by false low h = grind (arith, nat_tests)

pub entry_known : (t : Table) (n : ℕ) (e : TypeEntry) → entry t n ≡ Some e → known t n ≡ Some e.facts
entry_known t n e is = λ j. facts_in (entry_high t n e is j) (is j)

pub no_entry : (t : Table) (n : ℕ) → entry t n ≡ None → known t n ≡ types.standard n
no_entry t n is = ap (facts_in (types.standard n)) is ∙ facts_none (types.standard n)

pub standard_whole : (t : Table) (n : ℕ) → n < 2 → known t n ≡ types.standard n → HasSpan t n
standard_whole t zero h is = (_, ap span_in is)
standard_whole t (suc zero) h is = (_, ap span_in is)
standard_whole t (suc (suc n)) h is = absurd (omega arith)

module _ (t : Table) (told : IsTold t) where
  -- ---- each type means itself, and has the base that is known
  pub meant_is : (n : ℕ) → meant t n ≡ n
  meant_is n = by (entry t n) refl
    where
      by_form : (f : Facts) (form : TypeForm) → FormTold t n f form → other_of n form ≡ n
      by_form f (Opaque o) h = absurd h
      by_form f _ h = refl

      by : (o : Option TypeEntry) → entry t n ≡ o → meant t n ≡ n
      by None is = ap (meant_by n) is
      by (Some e) is = ap (meant_by n) is ∙ by_form e.facts e.form (told n e is)

  base_is : (n : ℕ) → base t n ≡ types.base_by n (known t n)
  base_is n = ap (λ m. types.base_by m (known t m)) (meant_is n)

  pub entry_base : (n : ℕ) (e : TypeEntry) → entry t n ≡ Some e → base t n ≡ e.facts.base
  entry_base n e is = base_is n ∙ ap (types.base_by n) (entry_known t n e is)

  pub own_base : (n : ℕ) → entry t n ≡ None → base t n ≡ n
  own_base n is = base_is n ∙ ap (types.base_by n) (no_entry t n is) ∙ standard_are (λ n o. types.base_by n o ≡ n) n refl refl refl refl refl refl

  -- ---- ordinal types
  standard_ordinal : (n : ℕ) → (u : Span) → span_in (types.standard n) ≡ Some u → IsOrdinal t n u
  standard_ordinal n = standard_are (λ n o. (u : Span) → span_in o ≡ Some u → IsOrdinal t n u) n
      (λ u h. subst (IsOrdinal t 0) (same_Some _ u h) (record { kind = plain b.Integer; at = refl; base = refl; ordinal = refl; least = refl; greatest = refl; ordered = omega (arith, ints); from = omega (arith, ints); to = omega (arith, ints) }))
      (λ u h. subst (IsOrdinal t 1) (same_Some _ u h) (record { kind = plain b.Cardinal; at = refl; base = refl; ordinal = refl; least = refl; greatest = refl; ordered = omega (arith, ints); from = omega (arith, ints); to = omega (arith, ints) }))
      (λ u h. subst (IsOrdinal t 2) (same_Some _ u h) (record { kind = plain b.Truth; at = refl; base = refl; ordinal = refl; least = refl; greatest = refl; ordered = omega (arith, ints); from = omega (arith, ints); to = omega (arith, ints) }))
      (λ u h. subst (IsOrdinal t 3) (same_Some _ u h) (record { kind = plain b.Character; at = refl; base = refl; ordinal = refl; least = refl; greatest = refl; ordered = omega (arith, ints); from = omega (arith, ints); to = omega (arith, ints) }))
      (λ u h. absurd (none-some u h))
      (λ u h. absurd (none-some u h))

  -- by its entry
  pub kind_is : (n : ℕ) (e : TypeEntry) (k : RBase) (j : RKind) → entry t n ≡ Some e → base_at t (base t n) ≡ Some k → kind_form k e.form ≡ Some j → kind_at t n ≡ Some j
  kind_is n e k j is base form = ap (λ o. kind_over o (entry t n)) base ∙ ap (kind_by k) is ∙ form

  enumeration_base : (n : ℕ) (e : TypeEntry) (xs : List (List ℕ)) → entry t n ≡ Some e → e.form ≡ Enumeration xs → length xs ≤ 65535 → e.facts.base ≡ n → base_at t (base t n) ≡ Some (b.Enumeration (length xs))
  enumeration_base n e xs is form few own =
      let fits : nat_le (length xs) 65535 ≡ true = grind (arith, nat_tests) in
      ap (base_at t) (entry_base n e is ∙ own) ∙ ap (base_by n) is ∙ ap (base_form n) form ∙ ap (λ c. if c then Some (b.Enumeration (length xs)) else None) fits

  entry_ordinal : (n : ℕ) (e : TypeEntry) (u : Span) → entry t n ≡ Some e → e.facts.span ≡ Some u → IsOrdinal t n u
  entry_ordinal n e u is of = by e.form refl (told n e is)
    where
      other : e.facts.span ≡ None → IsOrdinal t n u
      other none = absurd (none-some u (sym none ∙ of))

      by : (form : TypeForm) → e.form ≡ form → FormTold t n e.facts form → IsOrdinal t n u
      by (Enumeration xs) form h =
          let base : base_at t (base t n) ≡ Some (b.Enumeration (length xs)) = enumeration_base n e xs is form h.2 (ap (λ (f : Facts). f.base) h.0) in
          let same : span (pos 0) (pos (min (length xs) 65536) -ℤ pos 1) ≡ u = same_Some _ u (sym (ap (λ (f : Facts). f.span) h.0) ∙ of) in
          subst (IsOrdinal t n) same (record {
            kind = plain (b.Enumeration (length xs));
            at = kind_is n e (b.Enumeration (length xs)) (plain (b.Enumeration (length xs))) is base (ap (kind_form (b.Enumeration (length xs))) form);
            base = base;
            ordinal = grind (arith, nat_tests);
            least = refl;
            greatest = last_number (length xs) h.1 h.2;
            ordered = omega (arith, ints);
            from = omega (arith, ints);
            to = subst (λ z. (pos (min (length xs) 65536) -ℤ pos 1) ≤ℤ z) (sym (last_number (length xs) h.1 h.2)) (omega (arith, ints));
          })
      by (Subrange m s) form h =
          let same : s ≡ u = same_Some s u (sym h.0 ∙ of) in
          let base : base_at t (base t n) ≡ Some h.1.base = ap (base_at t) (entry_base n e is) ∙ h.1.is in
          let kind : RKind = record { base = h.1.base; range = Some (range_of s) } in
          subst (IsOrdinal t n) same (record {
            kind = kind;
            at = kind_is n e h.1.base kind is base (ap (kind_form h.1.base) form);
            base = base;
            ordinal = h.1.ordinal;
            least = larger_is s.low (least (base_view h.1.base)) h.1.least;
            greatest = lesser_is s.high (greatest (base_view h.1.base)) h.1.greatest;
            ordered = h.1.ordered;
            from = h.1.least;
            to = h.1.greatest;
          })
      by (Array i el) form h = other h.1
      by (Record xs) form h = other h.1
      by (SetOf m) form h = other h.1
      by (Pointer m) form h = other h.1
      by (Procedure ps r) form h = other h.1
      by (Opaque o) form h = absurd h

  pub known_ordinal : (n : ℕ) (u : Span) → span_in (known t n) ≡ Some u → IsOrdinal t n u
  known_ordinal n u h = by (entry t n) refl
    where
      by : (o : Option TypeEntry) → entry t n ≡ o → IsOrdinal t n u
      by None is = standard_ordinal n u (sym (ap span_in (no_entry t n is)) ∙ h)
      by (Some e) is = entry_ordinal n e u is (sym (ap span_in (entry_known t n e is)) ∙ h)

  pub span_is : (n : ℕ) → span_of t n ≡ span_in (known t n)
  unfolding span_of
  span_is n = ap (λ m. span_in (known t m)) (meant_is n)

  pub ordinal_is : (n : ℕ) (u : Span) → span_of t n ≡ Some u → IsOrdinal t n u
  ordinal_is n u h = known_ordinal n u (sym (span_is n) ∙ h)
