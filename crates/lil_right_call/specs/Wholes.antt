-- What is assignable to an array or a record, which have no base: a variable of the same type, or a string that fits in.
use Rattle.std.proofs.Common.{◌≡◌, ℕ, ◌≤◌, true, ◌⊎◌, inl, inr, List, Option, Some, None, refl, sym, ap, subst, ◌∙◌, arith}
use Rattle.std.specs.Prelude.{ℤ, pos, negsuc, ◌+ℤ◌, ◌-ℤ◌, ◌*◌, ◌&&◌, ◌==◌, nat_le, is_some}
use Rattle.std.specs.Option.{option_map}
use Rattle.std.proofs.lemmas.{Option.{none-some, same_Some}, Bool.Decides.nat_tests}
use Rattle.lil_types.specs.{Types.{Table, entry, known, integer, cardinal, char, address, base, is_whole, values, words}, declared.table.{Facts.Facts, Span.Span, TypeEntry.TypeEntry, TypeForm.{TypeForm, TheVariants.Array}}}
use Rattle.lil_types.specs.Types as types
use Rattle.lil_declared.specs.declared.declared.RVar.{RVar}
use Rattle.lil_resolved.specs.Kinds as kinds
use Rattle.lil_resolved.specs.declared.resolved.{RBase.RBase, RKind.RKind, RNamed.RNamed}
use Rattle.lil_resolved.specs.declared.resolved.RBase.TheVariants as b
use Rattle.lil_shapes.specs.{BaseLaws.{same_sort, kind_base}, Bases.{base_at, kind_at, array_in, array_by, array_at, composite_at, numbers_of, elements_in, elements_at}, Pointers.lies_at}
use Rattle.lil_shapes.specs.declared.composites.ArrayParts as shaped
use Rattle.lil_scope.specs.declared.thing.{Chars.Chars, Kind.Kind}
use Rattle.lil_scope.specs.declared.thing.Kind.TheVariants as k
use Rattle.lil_kinds.specs.{Forms.{array_parts, span_in}, Kinds.{suits, passes, compatible, assignable, has_room, holds, holds_by}, declared.{forms.ArrayParts.ArrayParts, found.{Form.Form, Located.Located}}}
use Rattle.lil_kinds.specs.declared.found.Form.TheVariants as form
use Rattle.lil_forms.specs.{Properties.{Property, Reach}, Scopes.{both_left, both_right}}
use Rattle.lil_right_type.specs.{Found.{KindTold, LiesAt, GoesWith, TextTold}, Parts.{no_kind, array_is, has_nil_is, conforms_is, whole_is, or_of}, Typed.either, Types.{IsTold, HasSpan, own_base, known_ordinal, span_is}, Words.{FormMeasured, AreMeasured}}

-- ---- strings
same_count : (z : ℤ) → kinds.nat_of z ≡ types.nat_of z
same_count (pos n) = refl
same_count (negsuc n) = refl

times_one : (n : ℕ) → n * 1 ≡ n
times_one n = omega arith

-- an array that holds so many characters has as many of them
pub record HasCharacters (t : Table) (s n : ℕ) : Type 0 where
  pub parts : shaped.ArrayParts
  pub array : array_at t s ≡ Some parts
  pub element : parts.element ≡ char
  pub span : Span
  pub known : span_in (known t parts.index) ≡ Some span
  pub count : ℕ
  pub many : elements_at t s ≡ Some count
  pub each : count ≡ values span
  pub fits : n ≤ count

pub characters_are : (t : Table) → IsTold t → (s n : ℕ) → holds t s n ≡ true → HasCharacters t s n
unfolding holds
characters_are t told s n h = by (array_parts t s) refl h
  where
    by : (o : Option ArrayParts) → array_parts t s ≡ o → holds_by t o n ≡ true → HasCharacters t s n
    by None is h = cc
    by (Some p) is h =
        let a = array_is t told s p is in
        let o = known_ordinal t told p.index a.span.0 a.span.1 in
        let room : nat_le n (values a.span.0) ≡ true = sym (ap (λ o. has_room o n) (span_is t told p.index ∙ a.span.1)) ∙ both_right (p.element == char) _ h in
        let many : numbers_of o.kind ≡ values a.span.0 = (λ i. kinds.nat_of ((o.greatest i -ℤ o.least i) +ℤ pos 1)) ∙ same_count ((a.span.0.high -ℤ a.span.0.low) +ℤ pos 1) in
        record {
          parts = record { index = p.index; element = p.element };
          array = a.at;
          element = same_sort p.element char (both_left (p.element == char) _ h);
          span = a.span.0;
          known = a.span.1;
          count = numbers_of o.kind;
          many = ap (elements_in t) a.at ∙ ap (option_map numbers_of) o.at;
          each = many;
          fits = grind (arith, nat_tests, many, room);
        }

-- it has a word for each
pub characters_few : (t : Table) → AreMeasured t → (s n : ℕ) (a : HasCharacters t s n) → a.count ≤ 65535
characters_few t measured s n a = by (entry t s) refl (a.array)
  where
    in_form : (f : Facts) (form : TypeForm) → array_in form ≡ Some a.parts → FormMeasured t s f form → f.words ≤ 32000 → a.count ≤ 65535
    in_form f (Array i m) at h few =
        let parts = same_Some _ a.parts at in
        let one : words t m ≡ 1 = ap (λ (p : shaped.ArrayParts). words t p.element) parts ∙ ap (words t) a.element in
        let same : h.1.0 ≡ a.span = same_Some h.1.0 a.span (sym h.1.1 ∙ ap (λ (p : shaped.ArrayParts). span_in (known t p.index)) parts ∙ a.known) in
        let all : f.words ≡ values a.span = h.1.2 ∙ (λ j. values (same j) * one j) ∙ times_one (values a.span) in
        omega (arith, few, all, a.each)
    in_form f _ at h few = absurd (none-some a.parts at)

    by : (o : Option TypeEntry) → entry t s ≡ o → array_by o ≡ Some a.parts → a.count ≤ 65535
    by None is at = absurd (none-some a.parts at)
    by (Some e) is at = let m = measured s e is in in_form e.facts e.form at m.0 m.1

module _ {t : Table} {vs : RNamed → Option RVar} {around : List ℕ} {R : Reach} (P : Property t vs around R) (told : IsTold t) (s : ℕ) (none : (base t s ≡ s) × (base_at t s ≡ None)) where
  no_base : (k : RBase) → base_at t (base t s) ≡ Some k → ⊥
  no_base k is = none-some k (sym none.1 ∙ sym (ap (base_at t) none.0) ∙ is)

  other_base : (n : ℕ) (k : RBase) → base_at t n ≡ Some k → (base t s == n) ≡ true → ⊥
  other_base n k is same = no_base k (ap (base_at t) (same_sort (base t s) n same) ∙ is)

  no_whole : is_whole t s ≡ true → ⊥
  no_whole low = let span : HasSpan t s = whole_is t told s low in let o = known_ordinal t told s span.0 span.1 in no_base o.kind.base o.base

  -- what lies in a variable of the same base is of the same type
  same_type : (r : ℕ) → lies_at t r ≡ true → (base t s == base t r) ≡ true → r ≡ s
  same_type r lies same = by (kind_at t r) refl
    where
      by : (o : Option RKind) → kind_at t r ≡ o → r ≡ s
      by None empty = sym (no_kind t told r (or_of (is_some (kind_at t r)) (composite_at t r) lies (ap is_some empty))).0 ∙ sym (same_sort (base t s) (base t r) same) ∙ none.0
      by (Some j) at = absurd (other_base (base t r) j.base (kind_base t r j at) same)

  pub record IsWhole (d : ℕ) (f : Form) : Type 0 where
    pub at : Located
    pub is : f ≡ form.Located at
    pub lies : LiesAt P s d at
    pub filled : lies_at t s ≡ true

  pub record IsSpelled (kind : Kind) (f : Form) : Type 0 where
    pub characters : Chars
    pub text : List ℕ
    pub its : kind ≡ k.Chars characters
    pub is : f ≡ form.Text text
    pub fits : holds t s characters.length ≡ true
    pub holds_it : TextTold characters text

  suited : (d : ℕ) (kind : Kind) (f : Form) → KindTold t kind → GoesWith P d kind f → suits t s kind ≡ true → IsWhole d f
  unfolding suits
  suited d (k.Whole z) f fine goes so = elim (either (base t s == integer && _) (base t s == cardinal && _) so) [
    | inl e ↦ absurd (other_base integer b.Integer refl (both_left (base t s == integer) _ e))
    | inr e ↦ absurd (other_base cardinal b.Cardinal refl (both_left (base t s == cardinal) _ e))
  ]
  suited d (k.Scalar r w) f fine goes so = absurd (other_base (base t r) fine.0 fine.1 so)
  suited d (k.Chars c) f fine goes so = absurd (other_base char b.Character refl (both_right (c.length == 1) _ so))
  suited d k.Nil f fine goes so = elim (has_nil_is t told s so) [
    | inl e ↦ absurd (no_base (b.Pointer s) (ap (base_at t) e.1.own ∙ e.1.base))
    | inr e ↦ absurd (no_base b.Address (ap (λ n. base_at t (base t n)) e ∙ ap (base_at t) (own_base t told address refl)))
  ]
  suited d (k.Of r) (form.Located q) fine goes so = record { at = q; is = refl; lies = subst (λ n. LiesAt P n d q) (same_type r fine so) goes; filled = subst (λ n. lies_at t n ≡ true) (same_type r fine so) fine }
  suited d (k.Of r) (form.Value x) fine goes so = absurd (other_base (base t r) goes.as_kind.base (kind_base t r goes.as_kind goes.at) so)
  suited d (k.Of r) _ fine goes so = absurd goes
  suited d (k.Open r) f fine goes so = cc
  suited d (k.Routine r) f fine goes so = cc

  passed : (d : ℕ) (kind : Kind) (f : Form) → KindTold t kind → GoesWith P d kind f → passes t s kind ≡ true → IsSpelled kind f
  unfolding passes
  passed d (k.Whole z) f fine goes so = absurd (no_whole so)
  passed d (k.Scalar r w) f fine goes so = absurd (no_whole (both_left (is_whole t s) _ so))
  passed d (k.Chars c) (form.Text cs) fine goes so = record { characters = c; text = cs; its = refl; is = refl; fits = so; holds_it = goes }
  passed d (k.Chars c) _ fine goes so = absurd goes
  passed d k.Nil f fine goes so = cc
  passed d (k.Of r) f fine goes so = absurd (no_whole (both_left (is_whole t s) _ so))
  passed d (k.Open r) f fine goes so = cc
  passed d (k.Routine r) f fine goes so = let c = conforms_is t told r s so in absurd (no_base (b.Procedure s) (ap (base_at t) c.0.own ∙ c.0.base))

  pub whole_or_spelled : (d : ℕ) (kind : Kind) (f : Form) → KindTold t kind → GoesWith P d kind f → assignable t s kind ≡ true → IsWhole d f ⊎ IsSpelled kind f
  unfolding assignable compatible
  whole_or_spelled d kind f fine goes so = elim (either (suits t s kind) (passes t s kind) so) [ inl e ↦ inl (suited d kind f fine goes e) | inr e ↦ inr (passed d kind f fine goes e) ]
