-- The parts of told types: elements, fields, targets and members, as the check finds them and as values have them.
use Rattle.std.proofs.Common.{◌≡◌, ℕ, zero, suc, ◌+◌, ◌<◌, Bool, true, false, not, ◌||◌, List, [], ◌∷◌, slice_get, Option, Some, None, if◌then◌else◌, refl, sym, ap, subst, ◌∙◌, arith, true≢false, ◌⊎◌, inl, inr}
use Rattle.std.specs.Prelude.{ℤ, pos, ◌≤ℤ◌, ◌==◌, ◌&&◌, int_lt, is_some}
use Rattle.std.specs.Option.{option_map}
use Rattle.std.proofs.lemmas.{Int.ints, Option.{none-some, same_Some}, Bool.Decides.nat_tests}
use Rattle.lil_types.specs.{Types.{Table, entry, known, meant, base, is_whole, bit_set, proc, address, cardinal, integer, boolean, char}, Fields.{same_name, field_from}, declared.{table.{Facts.Facts, Field.Field, Parameter.Parameter, TypeEntry.TypeEntry, TypeForm.{TypeForm, TheVariants.{Enumeration, Subrange, Array, Record, SetOf, Pointer, Procedure, Opaque}}}, fields.FieldAt.FieldAt}}
use Rattle.lil_types.specs.Types as types
use Rattle.lil_kinds.specs.{Forms.{span_in, form_in, shape, of_form, is_form, array_of, array_parts, field_of, field, is_record_form, is_record, target_of, target, is_opaque_form, is_opaque, has_nil, set_of, set_base, is_routine_form, is_routine, parameters_in, parameters, result_of, result}, Kinds.{same_parameter, same_parameters, same_result, conforms}}
use Rattle.lil_kinds.specs.declared.forms.ArrayParts as checked
use Rattle.lil_resolved.specs.{Kinds.{is_ordinal, is_element, least, greatest}, Views.{base_view, kind_view}, declared.resolved.{RBase.RBase, RKind.RKind}}
use Rattle.lil_resolved.specs.declared.resolved.RBase.TheVariants as b
use Rattle.lil_shapes.specs.{BaseLaws.same_sort, declared.members.Members.Members, Bases.{plain, base_by, base_form, base_at, kind_form, kind_by, kind_over, kind_at, composite_at, composite_by, array_by, array_at, field_by, field_at, field_sort, bits, members_with, members_by, members_at}, ListLaws.AllFine, Pointers.{lies_at, pointed, pointed_by}}
use Rattle.lil_forms.specs.Scopes.{both_left, both_right}
use Rattle.lil_right_type.specs.Types.{FormTold, IsTold, PassedTold, ResultTold, IsOrdinal, HasSpan, meant_is, entry_base, own_base, known_ordinal, kind_is, entry_high, entry_known, no_entry, standard_whole}

-- ---- a part of a form that is there
formed : {A : Type 0} (part : TypeForm → Option A) (o : Option TypeEntry) (x : A) → of_form part (form_in o) ≡ Some x → (e : TypeEntry) × (o ≡ Some e) × (part e.form ≡ Some x)
formed part None x h = absurd (none-some x h)
formed part (Some e) x h = (e, refl, h)

is_formed : (test : TypeForm → Bool) (o : Option TypeEntry) → is_form test (form_in o) ≡ true → (e : TypeEntry) × (o ≡ Some e) × (test e.form ≡ true)
is_formed test None h = absurd (true≢false (sym h))
is_formed test (Some e) h = (e, refl, h)

pub or_of : (a c : Bool) → (a || c) ≡ true → a ≡ false → c ≡ true
or_of true c h none = absurd (true≢false none)
or_of false c h none = h

-- ---- the element among all that are fine
pub fine_at : {A : Type 0} (IsFine : A → Type 0) (xs : List A) (i : ℕ) (x : A) → AllFine IsFine xs → slice_get xs i ≡ Some x → IsFine x
fine_at IsFine [] i x all is = absurd (none-some x is)
fine_at IsFine (y ∷ xs) zero x all is = subst IsFine (same_Some y x is) all.0
fine_at IsFine (y ∷ xs) (suc i) x all is = fine_at IsFine xs i x all.1 is

-- an array: what its indexes and its elements are
pub record IsArray (t : Table) (n : ℕ) (p : checked.ArrayParts) : Type 0 where
  pub at : array_at t n ≡ Some (record { index = p.index; element = p.element })
  pub span : HasSpan t p.index
  pub element : lies_at t p.element ≡ true
  pub composite : composite_at t n ≡ true
  pub own : base t n ≡ n

pub record IsRecord (t : Table) (n : ℕ) : Type 0 where
  pub composite : composite_at t n ≡ true
  pub own : base t n ≡ n

-- a pointer to what is of a type
pub record IsPointer (t : Table) (n m : ℕ) : Type 0 where
  pub own : base t n ≡ n
  pub pointed : pointed t n ≡ Some m
  pub target : lies_at t m ≡ true
  pub kind : kind_at t n ≡ Some (plain (b.Pointer n))
  pub base : base_at t n ≡ Some (b.Pointer n)

-- a set of what is of a type
pub record IsSet (t : Table) (n m : ℕ) : Type 0 where
  pub own : base t n ≡ n
  pub members : Members
  pub at : members_at t n ≡ Some members
  pub sort : members.sort ≡ base t m
  pub base : base_at t (base t m) ≡ Some members.kind.base
  pub ordinal : is_ordinal (base_view members.kind.base) ≡ true
  pub element : is_element (kind_view members.kind) ≡ true
  pub kind : kind_at t n ≡ Some (plain b.Set)
  pub set : base_at t n ≡ Some b.Set

-- a procedure type: what its procedures are handed, and what they return
pub record IsRoutine (t : Table) (n : ℕ) : Type 0 where
  pub own : base t n ≡ n
  pub kind : kind_at t n ≡ Some (plain (b.Procedure n))
  pub base : base_at t n ≡ Some (b.Procedure n)
  pub passed : AllFine (PassedTold t) (parameters t n)
  pub returned : ResultTold t (result t n)

few_members : (low high : ℤ) → pos 0 ≤ℤ low → high ≤ℤ pos 15 → (not (int_lt low (pos 0)) ≡ true) × (not (int_lt (pos 15) high) ≡ true)
few_members low high h j = (grind (arith, ints), grind (arith, ints))

module _ (t : Table) (told : IsTold t) where
  -- ---- what a type is built of
  shape_is : (n : ℕ) → shape t n ≡ form_in (entry t n)
  unfolding shape
  shape_is n = ap (λ m. form_in (entry t m)) (meant_is t told n)

  -- ---- bases
  -- a base is its own, and has no range
  pub base_itself : (n : ℕ) (k : RBase) → base_at t n ≡ Some k → (base t n ≡ n) × (kind_at t n ≡ Some (plain k))
  base_itself n k h = by (entry t n) refl
    where
      Own : Type 0
      Own = (base t n ≡ n) × (kind_at t n ≡ Some (plain k))

      in_form : (e : TypeEntry) (form : TypeForm) → entry t n ≡ Some e → e.form ≡ form → FormTold t n e.facts form → base_form n form ≡ Some k → (e.facts.base ≡ n) × (kind_form k form ≡ Some (plain k))
      in_form e (Enumeration xs) is same j at = (ap (λ (f : Facts). f.base) j.0, refl)
      in_form e (Subrange m s) is same j at = absurd (none-some k at)
      in_form e (Array i m) is same j at = absurd (none-some k at)
      in_form e (Record xs) is same j at = absurd (none-some k at)
      in_form e (SetOf m) is same j at = (j.0, refl)
      in_form e (Pointer m) is same j at = (j.0, refl)
      in_form e (Procedure ps r) is same j at = (j.0, refl)
      in_form e (Opaque o) is same j at = absurd j

      by : (o : Option TypeEntry) → entry t n ≡ o → Own
      by None is =
          let own : base t n ≡ n = own_base t told n is in
          (own, ap (λ m. kind_over (base_at t m) (entry t n)) own ∙ ap (λ o. kind_over o (entry t n)) h ∙ ap (kind_by k) is)
      by (Some e) is =
          let j = in_form e e.form is refl (told n e is) (sym (ap (base_by n) is) ∙ h) in
          let own : base t n ≡ n = entry_base t told n e is ∙ j.0 in
          (own, kind_is t told n e k (plain k) is (ap (base_at t) own ∙ h) j.1)

  -- a type below which there is a base has a kind
  pub has_kind : (n : ℕ) (k : RBase) → base_at t (base t n) ≡ Some k → (j : RKind) × (kind_at t n ≡ Some j) × (j.base ≡ k)
  has_kind n k h = by (entry t n) refl
    where
      Kind : Type 0
      Kind = (j : RKind) × (kind_at t n ≡ Some j) × (j.base ≡ k)

      no_form : (e : TypeEntry) → entry t n ≡ Some e → e.facts.base ≡ n → base_form n e.form ≡ None → Kind
      no_form e is own none = absurd (none-some k (sym none ∙ sym (ap (base_by n) is) ∙ sym (ap (base_at t) (entry_base t told n e is ∙ own)) ∙ h))

      in_form : (e : TypeEntry) (form : TypeForm) → entry t n ≡ Some e → e.form ≡ form → FormTold t n e.facts form → Kind
      in_form e (Enumeration xs) is same j = (plain k, kind_is t told n e k (plain k) is h (ap (kind_form k) same), refl)
      in_form e (Subrange m s) is same j = (_, kind_is t told n e k _ is h (ap (kind_form k) same), refl)
      in_form e (Array i m) is same j = no_form e is j.0 (ap (base_form n) same)
      in_form e (Record xs) is same j = no_form e is j.0 (ap (base_form n) same)
      in_form e (SetOf m) is same j = (plain k, kind_is t told n e k (plain k) is h (ap (kind_form k) same), refl)
      in_form e (Pointer m) is same j = (plain k, kind_is t told n e k (plain k) is h (ap (kind_form k) same), refl)
      in_form e (Procedure ps r) is same j = (plain k, kind_is t told n e k (plain k) is h (ap (kind_form k) same), refl)
      in_form e (Opaque o) is same j = absurd j

      by : (o : Option TypeEntry) → entry t n ≡ o → Kind
      by None is = (plain k, ap (λ o. kind_over o (entry t n)) h ∙ ap (kind_by k) is, refl)
      by (Some e) is = in_form e e.form is refl (told n e is)

  -- an array or a record has none
  pub no_kind : (n : ℕ) → composite_at t n ≡ true → (base t n ≡ n) × (base_at t n ≡ None)
  no_kind n h = by (entry t n) refl
    where
      in_form : (e : TypeEntry) (form : TypeForm) → FormTold t n e.facts form → composite_by (Some (record e { form = form })) ≡ true → (e.facts.base ≡ n) × (base_form n form ≡ None)
      in_form e (Array i m) j is = (j.0, refl)
      in_form e (Record xs) j is = (j.0, refl)
      in_form e _ j is = absurd (true≢false (sym is))

      by : (o : Option TypeEntry) → entry t n ≡ o → (base t n ≡ n) × (base_at t n ≡ None)
      by None is = absurd (true≢false (sym h ∙ ap composite_by is))
      by (Some e) is =
          let j = in_form e e.form (told n e is) (sym (ap composite_by is) ∙ h) in
          (entry_base t told n e is ∙ j.0, ap (base_by n) is ∙ j.1)

  -- ---- arrays
  pub array_is : (n : ℕ) (p : checked.ArrayParts) → array_parts t n ≡ Some p → IsArray t n p
  unfolding array_parts
  array_is n p h =
      let found = formed array_of (entry t n) p (sym (ap (of_form array_of) (shape_is n)) ∙ h) in
      by found.0 found.0.form found.1 refl (told n found.0 found.1) found.2
    where
      by : (e : TypeEntry) (form : TypeForm) → entry t n ≡ Some e → e.form ≡ form → FormTold t n e.facts form → array_of form ≡ Some p → IsArray t n p
      by e (Array i m) is same j of =
          let part : record { index = i; element = m } ≡ p = same_Some _ p of in
          subst (IsArray t n) part (record {
            at = ap array_by is ∙ ap (λ form. array_by (Some (record e { form = form }))) same;
            span = j.2;
            element = j.3;
            composite = ap composite_by is ∙ ap (λ form. composite_by (Some (record e { form = form }))) same;
            own = entry_base t told n e is ∙ j.0;
          })
      by e _ is same j of = absurd (none-some p of)

  -- ---- records
  pub record_is : (n : ℕ) → is_record t n ≡ true → IsRecord t n
  unfolding is_record
  record_is n h =
      let found = is_formed is_record_form (entry t n) (sym (ap (is_form is_record_form) (shape_is n)) ∙ h) in
      by found.0 found.0.form found.1 refl (told n found.0 found.1) found.2
    where
      by : (e : TypeEntry) (form : TypeForm) → entry t n ≡ Some e → e.form ≡ form → FormTold t n e.facts form → is_record_form form ≡ true → IsRecord t n
      by e (Record xs) is same j of = record {
        composite = ap composite_by is ∙ ap (λ form. composite_by (Some (record e { form = form }))) same;
        own = entry_base t told n e is ∙ j.0;
      }
      by e _ is same j of = absurd (true≢false (sym of))

  -- a field that is found from a number on is the one of this number
  found_from : (k : ℕ) (xs : List Field) (name : List ℕ) (f : FieldAt) → field_from k xs name ≡ Some f → (i : ℕ) × (f.number ≡ k + i) × (x : Field) × (slice_get xs i ≡ Some x) × (x.sort ≡ f.sort)
  found_from k [] name f h = absurd (none-some f h)
  found_from k (x ∷ xs) name f h = by (same_name x.name name) h (λ j. found_from (k + 1) xs name f j)
    where
      Found : Type 0
      Found = (i : ℕ) × (f.number ≡ k + i) × (y : Field) × (slice_get (x ∷ xs) i ≡ Some y) × (y.sort ≡ f.sort)

      Later : Type 0
      Later = (i : ℕ) × (f.number ≡ k + 1 + i) × (y : Field) × (slice_get xs i ≡ Some y) × (y.sort ≡ f.sort)

      by : (c : Bool) → (if c then Some (record { number = k; sort = x.sort }) else field_from (k + 1) xs name) ≡ Some f → (field_from (k + 1) xs name ≡ Some f → Later) → Found
      by true j later = let same : record { number = k; sort = x.sort } ≡ f = same_Some _ f j in (0, sym (ap (λ (g : FieldAt). g.number) same) ∙ omega arith, x, refl, ap (λ (g : FieldAt). g.sort) same)
      by false j later = let l = later j in (suc l.0, l.1 ∙ omega arith, l.2, l.3, l.4)

  -- it is there, and something lies in it
  pub field_is : (n : ℕ) (name : List ℕ) (f : FieldAt) → field t n name ≡ Some f → (field_at t n f.number ≡ Some f.sort) × (lies_at t f.sort ≡ true)
  unfolding field
  field_is n name f h =
      let found = formed (field_of name) (entry t n) f (sym (ap (of_form (field_of name)) (shape_is n)) ∙ h) in
      by found.0 found.0.form found.1 refl (told n found.0 found.1) found.2
    where
      by : (e : TypeEntry) (form : TypeForm) → entry t n ≡ Some e → e.form ≡ form → FormTold t n e.facts form → field_of name form ≡ Some f → (field_at t n f.number ≡ Some f.sort) × (lies_at t f.sort ≡ true)
      by e (Record xs) is same j of =
          let l = found_from 0 xs name f of in
          let number : f.number ≡ l.0 = l.1 ∙ omega arith in
          (ap (field_by f.number) is ∙ ap (λ form. field_by f.number (Some (record e { form = form }))) same ∙ ap (λ i. option_map field_sort (slice_get xs i)) number ∙ ap (option_map field_sort) l.3 ∙ ap Some l.4, subst (λ s. lies_at t s ≡ true) l.4 (fine_at _ xs l.0 l.2 j.2 l.3))
      by e _ is same j of = absurd (none-some f of)

  -- ---- pointers
  pub target_is : (n m : ℕ) → target t n ≡ Some m → IsPointer t n m
  unfolding target
  target_is n m h =
      let found = formed target_of (entry t n) m (sym (ap (of_form target_of) (shape_is n)) ∙ h) in
      by found.0 found.0.form found.1 refl (told n found.0 found.1) found.2
    where
      by : (e : TypeEntry) (form : TypeForm) → entry t n ≡ Some e → e.form ≡ form → FormTold t n e.facts form → target_of form ≡ Some m → IsPointer t n m
      by e (Pointer to) is same j of =
          let base : base_at t n ≡ Some (b.Pointer n) = ap (base_by n) is ∙ ap (base_form n) same in
          record {
            pointed = ap pointed_by is ∙ ap (λ form. pointed_by (Some (record e { form = form }))) same ∙ of;
            target = subst (λ m. lies_at t m ≡ true) (same_Some to m of) j.2;
            kind = (base_itself n (b.Pointer n) base).1;
            base = base;
            own = (base_itself n (b.Pointer n) base).0;
          }
      by e _ is same j of = absurd (none-some m of)

  pub never_opaque : (n : ℕ) → is_opaque t n ≡ false
  unfolding is_opaque
  never_opaque n = ap (is_form is_opaque_form) (shape_is n) ∙ by (entry t n) refl
    where
      in_form : (f : Facts) (form : TypeForm) → FormTold t n f form → is_opaque_form form ≡ false
      in_form f (Opaque o) h = absurd h
      in_form f _ h = refl

      by : (o : Option TypeEntry) → entry t n ≡ o → is_form is_opaque_form (form_in o) ≡ false
      by None is = refl
      by (Some e) is = in_form e.facts e.form (told n e is)

  -- a type that has NIL is a pointer type, or ADDRESS
  pub has_nil_is : (n : ℕ) → has_nil t n ≡ true → ((m : ℕ) × IsPointer t n m) ⊎ (n ≡ address)
  unfolding has_nil
  has_nil_is n h = elim (meant t n == address) as (λ c. (meant t n == address) ≡ c → ((m : ℕ) × IsPointer t n m) ⊎ (n ≡ address)) [
    | true ↦ λ is. inr (sym (meant_is t told n) ∙ same_sort (meant t n) address is)
    | false ↦ λ is. by (target t n) refl (or_of (is_some (target t n)) (is_opaque t n) (or_of (meant t n == address) _ h is))
  ] refl
    where
      by : (o : Option ℕ) → target t n ≡ o → (is_some (target t n) ≡ false → is_opaque t n ≡ true) → ((m : ℕ) × IsPointer t n m) ⊎ (n ≡ address)
      by (Some m) is j = inl (m, target_is n m is)
      by None is j = absurd (true≢false (sym (j (ap is_some is)) ∙ never_opaque n))

  -- ---- sets
  pub set_is : (n m : ℕ) → set_base t n ≡ Some m → IsSet t n m
  unfolding set_base
  set_is n m h = at (n == bit_set) refl
    where
      bits_are : n ≡ bit_set → cardinal ≡ m → IsSet t n m
      bits_are is to = subst (λ n. IsSet t n m) (sym is) (subst (IsSet t bit_set) to (record {
        members = members_with cardinal bits;
        at = refl;
        sort = refl;
        base = refl;
        ordinal = refl;
        element = refl;
        kind = refl;
        set = refl;
        own = refl;
      }))

      by : (e : TypeEntry) (form : TypeForm) → (n == bit_set) ≡ false → entry t n ≡ Some e → e.form ≡ form → FormTold t n e.facts form → set_of form ≡ Some m → IsSet t n m
      by e (SetOf of) other is same j to =
          let o : IsOrdinal t of j.2.0 = known_ordinal t told of j.2.0 j.2.1 in
          let set : base_at t n ≡ Some b.Set = ap (base_by n) is ∙ ap (base_form n) same in
          let few = few_members (least (kind_view o.kind)) (greatest (kind_view o.kind)) (subst (λ z. pos 0 ≤ℤ z) (sym o.least) j.2.2) (subst (λ z. z ≤ℤ pos 15) (sym o.greatest) j.2.3) in
          subst (IsSet t n) (same_Some of m to) (record {
            members = members_with (base t of) o.kind;
            at = ap (λ c. if c then Some (members_with cardinal bits) else members_by t (entry t n)) other ∙ ap (members_by t) is ∙ ap (λ form. members_by t (Some (record e { form = form }))) same ∙ ap (option_map (members_with (base t of))) o.at;
            sort = refl;
            base = o.base;
            ordinal = o.ordinal;
            element = λ i. few.0 i && few.1 i;
            kind = (base_itself n b.Set set).1;
            set = set;
            own = (base_itself n b.Set set).0;
          })
      by e _ other is same j to = absurd (none-some m to)

      at : (c : Bool) → (n == bit_set) ≡ c → IsSet t n m
      at true is = bits_are (same_sort n bit_set is) (same_Some cardinal m (sym (ap (λ k. if k == bit_set then Some cardinal else of_form set_of (shape t n)) (meant_is t told n) ∙ ap (λ c. if c then Some cardinal else of_form set_of (shape t n)) is) ∙ h))
      at false is =
          let found = formed set_of (entry t n) m (sym (ap (λ k. if k == bit_set then Some cardinal else of_form set_of (shape t n)) (meant_is t told n) ∙ ap (λ c. if c then Some cardinal else of_form set_of (shape t n)) is ∙ ap (of_form set_of) (shape_is n)) ∙ h) in
          by found.0 found.0.form is found.1 refl (told n found.0 found.1) found.2

  -- ---- procedure types
  pub routine_is : (n : ℕ) → is_routine t n ≡ true → IsRoutine t n
  unfolding is_routine parameters result
  routine_is n h = at (n == proc) refl
    where
      by : (e : TypeEntry) (form : TypeForm) → entry t n ≡ Some e → e.form ≡ form → FormTold t n e.facts form → is_routine_form form ≡ true → IsRoutine t n
      by e (Procedure ps r) is same j of =
          let base : base_at t n ≡ Some (b.Procedure n) = ap (base_by n) is ∙ ap (base_form n) same in
          let form : shape t n ≡ Some (Procedure ps r) = shape_is n ∙ ap form_in is ∙ ap Some same in
          record {
            own = (base_itself n (b.Procedure n) base).0;
            kind = (base_itself n (b.Procedure n) base).1;
            base = base;
            passed = subst (λ o. AllFine (PassedTold t) (parameters_in o)) (sym form) j.2;
            returned = subst (λ o. ResultTold t (of_form result_of o)) (sym form) j.3;
          }
      by e _ is same j of = absurd (true≢false (sym of))

      proc_is : IsRoutine t proc
      proc_is =
          let form : shape t proc ≡ None = shape_is proc in
          record {
            own = own_base t told proc refl;
            kind = (base_itself proc (b.Procedure proc) refl).1;
            base = refl;
            passed = subst (λ o. AllFine (PassedTold t) (parameters_in o)) (sym form) tt;
            returned = subst (λ o. ResultTold t (of_form result_of o)) (sym form) tt;
          }

      at : (c : Bool) → (n == proc) ≡ c → IsRoutine t n
      at true is = subst (IsRoutine t) (sym (same_sort n proc is)) proc_is
      at false is =
          let found = is_formed is_routine_form (entry t n) (sym (ap (is_form is_routine_form) (shape_is n)) ∙ or_of (meant t n == proc) _ h (ap (λ m. m == proc) (meant_is t told n) ∙ is)) in
          by found.0 found.0.form found.1 refl (told n found.0 found.1) found.2

  -- ---- procedures that are values of a procedure type
  pub same_types : (m n : ℕ) → types.same t m n ≡ true → m ≡ n
  same_types m n h = sym (meant_is t told m) ∙ same_sort (meant t m) (meant t n) h ∙ meant_is t told n

  parameter_of : (by_place opened : Bool) (sort : ℕ) → Parameter
  parameter_of by_place opened sort = record { by_place = by_place; open_array = opened; sort = sort }

  parameter_same : (a b c d : Bool) (m n : ℕ) → same_parameter t (parameter_of a c m) (parameter_of b d n) ≡ true → parameter_of a c m ≡ parameter_of b d n
  unfolding parameter_of
  parameter_same true true true true m n h = ap (parameter_of true true) (same_types m n h)
  parameter_same true true false false m n h = ap (parameter_of true false) (same_types m n h)
  parameter_same false false true true m n h = ap (parameter_of false true) (same_types m n h)
  parameter_same false false false false m n h = ap (parameter_of false false) (same_types m n h)
  parameter_same _ _ _ _ m n h = absurd (true≢false (sym h))

  parameters_same : (ps qs : List Parameter) → same_parameters t ps qs ≡ true → ps ≡ qs
  unfolding parameter_of
  parameters_same [] [] h = refl
  parameters_same [] (q ∷ qs) h = absurd (true≢false (sym h))
  parameters_same (p ∷ ps) [] h = absurd (true≢false (sym h))
  parameters_same (p ∷ ps) (q ∷ qs) h =
      let first : p ≡ q = parameter_same p.by_place q.by_place p.open_array q.open_array p.sort q.sort (both_left (same_parameter t p q) (same_parameters t ps qs) h) in
      let rest : ps ≡ qs = parameters_same ps qs (both_right (same_parameter t p q) (same_parameters t ps qs) h) in
      λ i. first i ∷ rest i

  results_same : (r s : Option ℕ) → same_result t r s ≡ true → r ≡ s
  results_same None None h = refl
  results_same (Some m) (Some n) h = ap Some (same_types m n h)
  results_same None (Some n) h = absurd (true≢false (sym h))
  results_same (Some m) None h = absurd (true≢false (sym h))

  pub conforms_is : (s n : ℕ) → conforms t s n ≡ true → IsRoutine t n × (parameters t s ≡ parameters t n) × (result t s ≡ result t n)
  unfolding conforms
  conforms_is s n h =
      let to = both_right (is_routine t s) _ h in
      let alike = both_right (is_routine t n) _ to in
      (routine_is n (both_left (is_routine t n) _ to), parameters_same (parameters t s) (parameters t n) (both_left (same_parameters t (parameters t s) (parameters t n)) _ alike), results_same (result t s) (result t n) (both_right (same_parameters t (parameters t s) (parameters t n)) _ alike))

  -- ---- whole types
  -- those below which INTEGER or CARDINAL lies have numbers
  pub whole_is : (n : ℕ) → is_whole t n ≡ true → HasSpan t n
  whole_is n h = by (entry t n) refl
    where
      low : base t n < 2
      low = grind (arith, nat_tests, h)

      high : (e : TypeEntry) → entry t n ≡ Some e → e.facts.base ≡ n → HasSpan t n
      high e is own = absurd (few (base t n) n low (entry_base t told n e is ∙ own) (entry_high t n e is))
        where
          few : (k n : ℕ) → k < 2 → k ≡ n → types.standard n ≡ None → ⊥
          few k n lt same none = grind (arith, nat_tests)

      in_form : (e : TypeEntry) (form : TypeForm) → entry t n ≡ Some e → FormTold t n e.facts form → HasSpan t n
      in_form e (Enumeration xs) is j = high e is (ap (λ (f : Facts). f.base) j.0)
      in_form e (Subrange m s) is j = (s, ap span_in (entry_known t n e is) ∙ j.0)
      in_form e (Array i m) is j = high e is j.0
      in_form e (Record xs) is j = high e is j.0
      in_form e (SetOf m) is j = high e is j.0
      in_form e (Pointer m) is j = high e is j.0
      in_form e (Procedure ps r) is j = high e is j.0
      in_form e (Opaque o) is j = absurd j

      by : (o : Option TypeEntry) → entry t n ≡ o → HasSpan t n
      by None is = standard_whole t n (subst (λ k. k < 2) (own_base t told n is) low) (no_entry t n is)
      by (Some e) is = in_form e e.form is (told n e is)
