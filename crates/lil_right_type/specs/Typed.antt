-- Told values as operands: what goes with a type has an expression of the type's base.
use Rattle.std.proofs.Common.{◌≡◌, ℕ, ◌+◌, ◌<◌, ◌≤◌, Bool, true, false, not, ◌&&◌, ◌||◌, List, Option, Some, None, if◌then◌else◌, refl, sym, ap, subst, ◌∙◌, arith, true≢false, ◌⊎◌, inl, inr}
use Rattle.std.specs.Prelude.{ℤ, pos, negsuc, ◌≤ℤ◌, ◌==◌, int_lt, nat_lt}
use Rattle.std.proofs.lemmas.{Int.ints, Option.{none-some, same_Some}, Bool.Decides.nat_tests}
use Rattle.lil_base.specs.{Laws.{bounds, in_range}, Words.{between, Cardinal, Integer}}
use Rattle.lil_base.specs.Words as Words
use Rattle.lil_types.specs.{Types.{Table, entry, base, integer, cardinal, char, is_whole}, Folding.fits, declared.table.{Span.Span, TypeEntry.TypeEntry, TypeForm.{TypeForm, TheVariants.{Enumeration, Subrange, Array, Record, SetOf, Pointer, Procedure, Opaque}}}}
use Rattle.lil_declared.specs.declared.declared.RVar.{RVar}
use Rattle.lil_scope.specs.declared.thing.Kind.{Kind}
use Rattle.lil_scope.specs.declared.thing.Kind.TheVariants as k
use Rattle.lil_kinds.specs.Forms as Forms
use Rattle.lil_kinds.specs.{Forms.{span_of, array_parts}, Kinds.{suits, compatible, passes, assignable, outside, misses, holds, holds_by, number_beside, number}, declared.found.{Form.Form, Found.Found}}
use Rattle.lil_kinds.specs.declared.forms.ArrayParts as checked
use Rattle.lil_kinds.specs.declared.found.Form.TheVariants as form
use Rattle.lil_resolved.specs.Bases as Bases
use Rattle.lil_resolved.specs.{Bases.own_base, Kinds.{is_base, is_ordinal, takes_value, stores_value, base_of, alike, same_pointer, same_procedures}, Resolved.kind_of, Sizes.{depth}, Views.{base_view, kind_view, ranged_view, expression_of, constant_is, taken_is, routine_is}, declared.resolved.{RBase.RBase, RExpr.RExpr, RKind.RKind, RNamed.RNamed, RRange.RRange}}
use Rattle.lil_resolved.specs.Kinds as kinds
use Rattle.lil_resolved.specs.declared.resolved.RBase.TheVariants as b
use Rattle.lil_resolved.specs.declared.resolved.RExpr.TheVariants as e
use Rattle.lil_shapes.specs.{BaseLaws.{same_sort, base_words, kind_base}, Bases.{plain, base_at, kind_at, kind_form, kind_over}, Operators.has_number}
use Rattle.lil_forms.specs.{Scopes.{both_left, both_right}, Properties.{Property, Reach, value_kind}, Values.{constant, taken_as, own, routine_by, typed_by, typed}}
use Rattle.lil_right_type.specs.{Found.{is_scalar, HasWord, KindTold, GoesWith, IsFound}, Parts.{has_kind, no_kind, array_is, conforms_is, whole_is}, Right.IsThere, Types.{IsTold, FormTold, IsOrdinal, HasSpan, known_ordinal, span_is, entry_known}}

module _ {t : Table} {vs : RNamed → Option RVar} {around : List ℕ} {R : Reach} (P : Property t vs around R) where
  -- an expression of a base with the property, whose code takes at most a word more than so many
  abbrev pub Yields : RBase → ℕ → RExpr → Type 0
  Yields b d x = (value_kind x ≡ base_view b) × (depth (expression_of x) ≤ d + 1) × P.value x

  -- one that a variable of a kind takes, and one that may be stored there: a pointer too
  abbrev pub Suits : RKind → ℕ → RExpr → Type 0
  Suits j d x = (takes_value (kind_view j) (value_kind x) ≡ true) × (depth (expression_of x) ≤ d + 1) × P.value x

  abbrev pub Stores : RKind → ℕ → RExpr → Type 0
  Stores j d x = (stores_value (kind_view j) (value_kind x) ≡ true) × (depth (expression_of x) ≤ d + 1) × P.value x

-- ---- tests
pub either : (a c : Bool) → (a || c) ≡ true → (a ≡ true) ⊎ (c ≡ true)
either true c h = inl refl
either false c h = inr h

pub kept_if : {A : Type 0} (P : A → Type 0) (c : Bool) (x : A) → c ≡ true → P x → IsThere P (if c then Some x else None)
kept_if P c x is h = subst (λ c. IsThere P (if c then Some x else None)) (sym is) h

pub mapped : {A : Type 0} (P Q : A → Type 0) (o : Option A) → ((x : A) → P x → Q x) → IsThere P o → IsThere Q o
mapped P Q None f h = h
mapped P Q (Some x) f h = f x h

-- ---- constants
zero_number : (k : RBase) → has_number k (pos 0) ≡ true
zero_number (b.Enumeration n) = in_range (pos 0) (pos 0) (kinds.greatest (base_view (b.Enumeration n))) (omega (arith, ints)) (omega (arith, ints))
zero_number _ = refl

module _ {t : Table} {vs : RNamed → Option RVar} {around : List ℕ} {R : Reach} (P : Property t vs around R) where
  pub constant_yields : (k : RBase) (z : ℤ) (d : ℕ) → has_number k z ≡ true → Yields P k d (e.Constant k z)
  constant_yields k z d h = (ap kind_of (constant_is k z), subst (λ a. depth a ≤ d + 1) (sym (constant_is k z)) (omega arith), P.constant k z h)

  pub base_yields : (o : Option RBase) (k : RBase) (z : ℤ) (d : ℕ) → o ≡ Some k → has_number k z ≡ true → IsThere (Yields P k d) (constant o z)
  base_yields o k z d is h = subst (λ o. IsThere (Yields P k d) (constant o z)) (sym is) (constant_yields k z d h)

byte : (n : ℕ) → n < 255 → nat_lt n 255 ≡ true
byte n h = grind (arith, nat_tests)

pub is_character_number : (c : ℕ) → c ≤ 255 → has_number b.Character (pos c) ≡ true
is_character_number c h = in_range (pos 0) (pos c) (pos 255) (omega (arith, ints)) (omega (arith, ints))

at_most : (z m : ℤ) → not (int_lt m z) ≡ true → z ≤ℤ m
at_most z m h = grind (arith, ints)

at_least : (z m : ℤ) → not (int_lt z m) ≡ true → m ≤ℤ z
at_least z m h = grind (arith, ints)

pub below_two : (n : ℕ) → nat_lt n 2 ≡ true → (n ≡ integer) ⊎ (n ≡ cardinal)
below_two n h = by (n == 0) (n == 1) refl refl
  where
    by : (c d : Bool) → (n == 0) ≡ c → (n == 1) ≡ d → (n ≡ integer) ⊎ (n ≡ cardinal)
    by true d e f = inl (same_sort n 0 e)
    by false true e f = inr (same_sort n 1 f)
    by false false e f = absurd (grind (arith, nat_tests, h, e, f))

-- ---- kinds that take values of their own base
-- where it is neither a pointer's nor a procedure's
takes_own : (k : RBase) → is_ordinal (base_view k) ≡ true → alike (base_view k) (base_view k) ≡ true
takes_own b.Cardinal h = refl
takes_own b.Integer h = refl
takes_own b.Truth h = refl
takes_own b.Character h = refl
takes_own (b.Enumeration n) h = let same : (n == n) ≡ true = grind (arith, nat_tests) in λ i. same i && h i
takes_own b.Set h = refl
takes_own (b.Pointer n) h = cc
takes_own b.Address h = cc
takes_own (b.Procedure n) h = cc

stores_plain : (k : RBase) → is_base (base_view k) ≡ true → stores_value (base_view k) (base_view k) ≡ true
stores_plain b.Cardinal h = refl
stores_plain b.Integer h = refl
stores_plain b.Truth h = refl
stores_plain b.Character h = refl
stores_plain (b.Enumeration n) h = let same : (n == n) ≡ true = grind (arith, nat_tests) in λ i. (same i && h i) || false
stores_plain b.Set h = refl
stores_plain (b.Pointer n) h = grind (arith, nat_tests)
stores_plain b.Address h = refl
stores_plain (b.Procedure n) h = grind (arith, nat_tests)

pub takes_base : (j : RKind) → is_ordinal (base_view j.base) ≡ true → takes_value (kind_view j) (base_view j.base) ≡ true
takes_base j h = ap (λ k. alike k (base_view j.base)) (own_base j) ∙ takes_own j.base h

or_right : (a c : Bool) → a ≡ true → (a || c) ≡ true
or_right true c h = refl
or_right false c h = cc

module _ {t : Table} {vs : RNamed → Option RVar} {around : List ℕ} {R : Reach} (P : Property t vs around R) where
  -- a value of the base of a kind is taken there
  pub yields_suits : (j : RKind) (d : ℕ) (o : Option RExpr) → is_ordinal (base_view j.base) ≡ true → IsThere (Yields P j.base d) o → IsThere (Suits P j d) o
  yields_suits j d o h = mapped (Yields P j.base d) (Suits P j d) o (λ x y. (ap (takes_value (kind_view j)) y.0 ∙ takes_base j h, y.1, y.2))

  -- what is stored where neither a pointer nor a procedure lies is taken there
  pub stores_suits : (j : RKind) (d : ℕ) (o : Option RExpr) → is_ordinal (base_view j.base) ≡ true → IsThere (Stores P j d) o → IsThere (Suits P j d) o
  stores_suits j d o h = mapped (Stores P j d) (Suits P j d) o (λ x y. (taken j.base j.range (value_kind x) h y.0, y.1, y.2))
    where
      taken : (k : RBase) (r : Option RRange) (v : kinds.Kind) → is_ordinal (base_view k) ≡ true → stores_value (ranged_view (base_view k) r) v ≡ true → takes_value (ranged_view (base_view k) r) v ≡ true
      taken k r v ord is = elim (either (takes_value (ranged_view (base_view k) r) v) (other (ranged_view (base_view k) r)) is) [
        | inl e ↦ e
        | inr e ↦ absurd (true≢false (sym e ∙ none k r ord))
      ]
        where
          other : kinds.Kind → Bool
          other j = same_pointer j v || same_procedures j v

          none : (k : RBase) (r : Option RRange) → is_ordinal (base_view k) ≡ true → other (ranged_view (base_view k) r) ≡ false
          none k (Some r) h = refl
          none b.Cardinal None h = refl
          none b.Integer None h = refl
          none b.Truth None h = refl
          none b.Character None h = refl
          none (b.Enumeration n) None h = refl
          none b.Set None h = refl
          none (b.Pointer n) None h = cc
          none b.Address None h = cc
          none (b.Procedure n) None h = cc

module _ (t : Table) (told : IsTold t) where
  -- ---- a kind with a range is one of numbers
  ranged : (n : ℕ) (j : RKind) → kind_at t n ≡ Some j → (j.range ≡ None) ⊎ (is_ordinal (base_view j.base) ≡ true)
  ranged n j h = by (base_at t (base t n)) refl (entry t n) refl h
    where
      Ranged : RKind → Type 0
      Ranged j = (j.range ≡ None) ⊎ (is_ordinal (base_view j.base) ≡ true)

      in_form : (k : RBase) (e : TypeEntry) (form : TypeForm) → base_at t (base t n) ≡ Some k → entry t n ≡ Some e → FormTold t n e.facts form → kind_form k form ≡ Some j → Ranged j
      in_form k e (Enumeration xs) is at f of = subst Ranged (same_Some _ j of) (inl refl)
      in_form k e (Subrange m s) is at f of =
          let o : IsOrdinal t n s = known_ordinal t told n s (ap Forms.span_in (entry_known t n e at) ∙ f.0) in
          let same : o.kind ≡ j = same_Some o.kind j (sym o.at ∙ h) in
          inr (subst (λ (j : RKind). is_ordinal (base_view j.base) ≡ true) same o.ordinal)
      in_form k e (Array i m) is at f of = absurd (none-some j of)
      in_form k e (Record xs) is at f of = absurd (none-some j of)
      in_form k e (SetOf m) is at f of = subst Ranged (same_Some _ j of) (inl refl)
      in_form k e (Pointer m) is at f of = subst Ranged (same_Some _ j of) (inl refl)
      in_form k e (Procedure ps r) is at f of = subst Ranged (same_Some _ j of) (inl refl)
      in_form k e (Opaque o) is at f of = absurd f

      by : (o : Option RBase) → base_at t (base t n) ≡ o → (p : Option TypeEntry) → entry t n ≡ p → kind_over o p ≡ Some j → Ranged j
      by None is p at of = absurd (none-some j of)
      by (Some k) is None at of = subst Ranged (same_Some _ j of) (inl refl)
      by (Some k) is (Some e) at of = in_form k e e.form is at (told n e at) of

  stores_base : (n : ℕ) (j : RKind) → kind_at t n ≡ Some j → stores_value (kind_view j) (base_view j.base) ≡ true
  stores_base n j h = elim (ranged n j h) [
    | inl e ↦ ap (λ r. stores_value (ranged_view (base_view j.base) r) (base_view j.base)) e ∙ stores_plain j.base (base_words t (base t n) j.base (kind_base t n j h))
    | inr e ↦ or_right (takes_value (kind_view j) (base_view j.base)) _ (takes_base j e)
  ]

  -- ---- whole numbers
  pub fits_number : (n : ℕ) (k : RBase) (z : ℤ) → base_at t n ≡ Some k → between (negsuc 32767) z (pos 65535) ≡ true → fits n z ≡ true → has_number k z ≡ true
  fits_number n k z is within h = elim (either (n == integer && not (int_lt (pos 32767) z)) (n == cardinal && not (int_lt z (pos 0))) h) [
    | inl e ↦
        subst (λ k. has_number k z ≡ true) (same_Some b.Integer k (sym (ap (base_at t) (same_sort n integer (both_left (n == integer) _ e))) ∙ is))
        (in_range (negsuc 32767) z (pos 32767) (bounds (negsuc 32767) z (pos 65535) within).0 (at_most z (pos 32767) (both_right (n == integer) _ e)))
    | inr e ↦
        subst (λ k. has_number k z ≡ true) (same_Some b.Cardinal k (sym (ap (base_at t) (same_sort n cardinal (both_left (n == cardinal) _ e))) ∙ is))
        (in_range (pos 0) z (pos 65535) (at_least z (pos 0) (both_right (n == cardinal) _ e)) (bounds (negsuc 32767) z (pos 65535) within).1)
  ]

  not_outside : (o : Option Span) (u : Span) (z : ℤ) → o ≡ Some u → outside o (Some z) ≡ false → (u.low ≤ℤ z) × (z ≤ℤ u.high)
  not_outside None u z is h = absurd (none-some u is)
  not_outside (Some v) u z is h = subst (λ (u : Span). (u.low ≤ℤ z) × (z ≤ℤ u.high)) (same_Some v u is) (bounds v.low z v.high (inside (between v.low z v.high) h))
    where
      inside : (c : Bool) → not c ≡ false → c ≡ true
      inside true h = refl
      inside false h = cc

  no_array : (s : ℕ) (j : RKind) (n : ℕ) → kind_at t s ≡ Some j → holds t s n ≡ true → ⊥
  unfolding holds
  no_array s j n at h = by (array_parts t s) refl h
    where
      by : (o : Option checked.ArrayParts) → array_parts t s ≡ o → holds_by t o n ≡ true → ⊥
      by None is h = cc
      by (Some p) is h =
          let a = array_is t told s p is in
          let none = no_kind t told s a.composite in
          none-some j.base (sym none.1 ∙ sym (ap (base_at t) none.0) ∙ kind_base t s j at)

  pub whole_scalar : (r w : ℕ) → is_whole t r ≡ true → HasWord t r w → ⊥
  whole_scalar r w low h = elim (below_two (base t r) low) [
    | inl e ↦ other b.Integer refl (sym (ap (base_at t) e) ∙ h.1)
    | inr e ↦ other b.Cardinal refl (sym (ap (base_at t) e) ∙ h.1)
  ]
    where
      other : (c : RBase) → is_scalar c ≡ false → Some c ≡ Some h.0 → ⊥
      other c none same = true≢false (sym h.2 ∙ ap is_scalar (sym (same_Some c h.0 same)) ∙ none)

  pub whole_base : (n : ℕ) (k : RBase) → nat_lt n 2 ≡ true → base_at t n ≡ Some k → (w : Words.Whole) × (base_view k ≡ kinds.OfWhole w)
  whole_base n k low is = elim (below_two n low) [
    | inl e ↦ (Integer, sym (ap base_view (same_Some b.Integer k (sym (ap (base_at t) e) ∙ is))))
    | inr e ↦ (Cardinal, sym (ap base_view (same_Some b.Cardinal k (sym (ap (base_at t) e) ∙ is))))
  ]

  both_whole : (j : RKind) (w v : Words.Whole) (k : kinds.Kind) → base_view j.base ≡ kinds.OfWhole w → k ≡ kinds.OfWhole v → stores_value (kind_view j) k ≡ true
  both_whole j w v k is of = or_right (takes_value (kind_view j) k) _ (ap (λ i. alike i k) (own_base j ∙ is) ∙ ap (alike (kinds.OfWhole w)) of)

module _ {t : Table} {vs : RNamed → Option RVar} {around : List ℕ} {R : Reach} (P : Property t vs around R) (told : IsTold t) where
  -- ---- values of types
  pub own_yields : (r : ℕ) (g : RBase) (d : ℕ) (f : Form) → base_at t (base t r) ≡ Some g → GoesWith P d (k.Of r) f → IsThere (Yields P g d) (own t f)
  own_yields r g d form.Nothing is h = h
  own_yields r g d (form.Text cs) is h = h
  own_yields r g d (form.Located p) is h =
      let j = has_kind t told r g is in
      let at : kind_at t p.sort ≡ Some j.0 = ap (kind_at t) h.sort ∙ j.1 in
      subst (λ o. IsThere (Yields P g d) (taken_as p o)) (sym at)
      (ap kind_of (taken_is p.place j.0) ∙ Bases.own_base j.0 ∙ ap base_view j.2, subst (λ a. depth a ≤ d + 1) (sym (taken_is p.place j.0)) h.deep, P.taken p j.0 at h.good)
  own_yields r g d (form.Open a) is h = absurd h
  own_yields r g d (form.Value x) is h =
      let j = has_kind t told r g is in
      (h.kind ∙ ap (λ (j : RKind). base_view j.base) (same_Some h.as_kind j.0 (sym h.at ∙ j.1)) ∙ ap base_view j.2, h.deep, h.good)
  own_yields r g d (form.Routine n) is h = absurd h

  -- what is compatible with a type that has a base is a value of this base
  pub kind_yields : (s : ℕ) (g : RBase) (d : ℕ) (kind : Kind) (f : Form) → base_at t (base t s) ≡ Some g → KindTold t kind → GoesWith P d kind f → suits t s kind ≡ true → IsThere (Yields P g d) (typed_by t s kind f)
  unfolding suits
  kind_yields s g d (k.Whole z) f is fine goes h = base_yields P (base_at t (base t s)) g z d is (fits_number t told (base t s) g z is fine h)
  kind_yields s g d (k.Scalar r w) f is fine goes h =
      let same : base t s ≡ base t r = same_sort (base t s) (base t r) h in
      let one : fine.0 ≡ g = same_Some fine.0 g (sym fine.1 ∙ sym (ap (base_at t) same) ∙ is) in
      subst (λ g. IsThere (Yields P g d) (constant (base_at t (base t r)) (pos w))) one (base_yields P (base_at t (base t r)) fine.0 (pos w) d fine.1 fine.3)
  kind_yields s g d (k.Chars c) f is fine goes h =
      let same : base t s ≡ char = same_sort (base t s) char (both_right (c.length == 1) _ h) in
      subst (λ g. Yields P g d (e.Constant b.Character (pos c.first))) (same_Some b.Character g (sym (ap (base_at t) same) ∙ is)) (constant_yields P b.Character (pos c.first) d (is_character_number c.first fine))
  kind_yields s g d k.Nil f is fine goes h = base_yields P (base_at t (base t s)) g (pos 0) d is (zero_number g)
  kind_yields s g d (k.Of r) f is fine goes h = own_yields r g d f (sym (ap (base_at t) (same_sort (base t s) (base t r) h)) ∙ is) goes
  kind_yields s g d (k.Open r) f is fine goes h = cc
  kind_yields s g d (k.Routine r) f is fine goes h = cc

  pub suits_yields : (s : ℕ) (g : RBase) (a : Found) → base_at t (base t s) ≡ Some g → IsFound P a → suits t s a.kind ≡ true → IsThere (Yields P g a.depth) (typed t s a)
  unfolding typed
  suits_yields s g a is h so = kind_yields s g a.depth a.kind a.form is h.kind h.form so

  -- ---- what is assignable to a type that has a kind is stored there
  passed_stores : (s : ℕ) (j : RKind) (d : ℕ) (kind : Kind) (f : Form) → kind_at t s ≡ Some j → KindTold t kind → GoesWith P d kind f → passes t s kind ≡ true → misses t s kind ≡ false → IsThere (Stores P j d) (typed_by t s kind f)
  unfolding passes misses number_beside number
  passed_stores s j d (k.Whole z) f at fine goes h out =
      let span : HasSpan t s = whole_is t told s h in
      let o : IsOrdinal t s span.0 = known_ordinal t told s span.0 span.1 in
      let within = not_outside t told (span_of t s) span.0 z (span_is t told s ∙ span.1) out in
      let num : has_number o.kind.base z ≡ true = in_range _ z _ (omega (arith, ints, o.from, within.0)) (omega (arith, ints, o.to, within.1)) in
      let same : o.kind ≡ j = same_Some o.kind j (sym o.at ∙ at) in
      stored same (base_yields P (base_at t (base t s)) o.kind.base z d o.base num)
    where
      stored : {i : RKind} → i ≡ j → IsThere (Yields P i.base d) (typed_by t s (k.Whole z) f) → IsThere (Stores P j d) (typed_by t s (k.Whole z) f)
      stored {i} same y = mapped (Yields P i.base d) (Stores P j d) _ (λ x y. (ap (stores_value (kind_view j)) (y.0 ∙ ap (λ (i : RKind). base_view i.base) same) ∙ stores_base t told s j at, y.1, y.2)) y
  passed_stores s j d (k.Scalar r w) f at fine goes h out = absurd (whole_scalar t told r w (both_right (is_whole t s) (is_whole t r) h) fine)
  passed_stores s j d (k.Chars c) f at fine goes h out = absurd (no_array t told s j c.length at h)
  passed_stores s j d k.Nil f at fine goes h out = cc
  passed_stores s j d (k.Of r) f at fine goes h out =
      let low = both_right (is_whole t s) (is_whole t r) h in
      let span : HasSpan t r = whole_is t told r low in
      let o : IsOrdinal t r span.0 = known_ordinal t told r span.0 span.1 in
      let mine = whole_base t told (base t s) j.base (both_left (is_whole t s) (is_whole t r) h) (kind_base t s j at) in
      let other = whole_base t told (base t r) o.kind.base low o.base in
      mapped (Yields P o.kind.base d) (Stores P j d) (own t f) (λ x y. (both_whole t told j mine.0 other.0 (value_kind x) mine.1 (y.0 ∙ other.1), y.1, y.2)) (own_yields r o.kind.base d f o.base goes)
  passed_stores s j d (k.Open r) f at fine goes h out = cc
  passed_stores s j d (k.Routine r) (form.Routine n) at fine goes h out =
      let c = conforms_is t told r s h in
      let same : plain (b.Procedure s) ≡ j = same_Some _ j (sym c.0.kind ∙ at) in
      subst (λ m. IsThere (Stores P j d) (routine_by m n)) (sym c.0.own)
      (kept_if (Stores P j d) (nat_lt n 255) (e.Routine (n + 1) s) (byte n goes.low)
      (subst (λ j. Stores P j d (e.Routine (n + 1) s)) same (
        ap (stores_value (kinds.OfProcedure s)) (ap kind_of (routine_is (n + 1) s)) ∙ stores_plain (b.Procedure s) refl,
        subst (λ a. depth a ≤ d + 1) (sym (routine_is (n + 1) s)) (omega arith),
        P.routine r n s goes.reached c.0.base c.1 c.2,
      )))
  passed_stores s j d (k.Routine r) _ at fine goes h out = absurd goes

  pub assignable_stores : (s : ℕ) (j : RKind) (a : Found) → kind_at t s ≡ Some j → IsFound P a → assignable t s a.kind ≡ true → misses t s a.kind ≡ false → IsThere (Stores P j a.depth) (typed t s a)
  unfolding typed assignable compatible
  assignable_stores s j a at h so out = elim (either (suits t s a.kind) (passes t s a.kind) so) [
    | inl e ↦ mapped (Yields P j.base a.depth) (Stores P j a.depth) (typed t s a) (λ x y. (ap (stores_value (kind_view j)) y.0 ∙ stores_base t told s j at, y.1, y.2)) (suits_yields s j.base a (kind_base t s j at) h e)
    | inr e ↦ passed_stores s j a.depth a.kind a.form at h.kind h.form e out
  ]
