-- Tables of types that grow: what is told of the types before stays, and a next type is told where its parts are.
use Rattle.std.proofs.Common.{◌≡◌, ℕ, suc, zero, ◌<◌, ◌≤◌, Bool, true, ◌||◌, List, [], ◌∷◌, ◌++◌, length, slice_get, Option, Some, None, if◌then◌else◌, refl, sym, ap, subst, ◌∙◌, arith, true≢false, ◌⊎◌, inl, inr}
use Rattle.std.specs.Prelude.{◌*◌, pos, ◌≤ℤ◌, is_some}
use Rattle.std.proofs.lemmas.{Option.{none-some, same_Some, slice_get_within}, Bool.Decides.nat_tests}
use Rattle.lil_types.specs.{Types.{Table, entry, known, facts_in, meant, meant_by, base, words, words_by, values, fields_words, sum_of, record_facts, array_facts, facts_of}, Adding.{next, next_facts, fitting, with_facts, number_by, added, added_number}, declared.table.{Facts.Facts, Field.Field, Origin.Origin, Parameter.Parameter, Span.Span}}
use Rattle.lil_types.specs.declared.table.{TypeEntry.TypeEntry, TypeForm.{TypeForm, TheVariants.{Enumeration, Subrange, Array, Record, SetOf, Pointer, Procedure, Opaque}}}
use Rattle.lil_types.specs.Types as types
use Rattle.lil_types.specs.Adding as adding
use Rattle.lil_declared.specs.declared.declared.{RProc.RProc, RVar.RVar}
use Rattle.lil_resolved.specs.declared.resolved.{RBase.RBase, RKind.RKind}
use Rattle.lil_resolved.specs.declared.resolved.RBase.TheVariants as b
use Rattle.lil_scope.specs.{declared.{env.{Env.Env, Wait.Wait}, thing.{Entry.Entry, Kind.Kind, Thing.Thing}}, Names.{bound_at, with_blocks, with_block, locals_in}}
use Rattle.lil_scope.specs.declared.thing.Kind.TheVariants as k
use Rattle.lil_scope.specs.declared.thing.Thing.TheVariants as thing
use Rattle.lil_kinds.specs.{Forms.{form_in, shape, span_in, of_form, parameters, parameters_of, parameters_in, result, result_of}}
use Rattle.lil_shapes.specs.{BaseLaws.kind_base, Bases.{plain, base_by, base_form, base_at, kind_over, kind_at, is_composite, composite_at, composite_by}, ListLaws.AllFine, Pointers.lies_at, ShapeSound.{at_end, earlier}}
use Rattle.lil_forms.specs.Scopes.{fine_more}
use Rattle.lil_right_type.specs.{Homes.{Longer, AllLonger, IsPlain, Allowed, homed_bound, homed_begun, homed_more}, Types.{HasNumbers, HasSpan, PassedTold, FormTold, IsTold, IsOrdinal, meant_is, own_base, known_ordinal, entry_known}, Words.{FormMeasured, AreMeasured}, Parts.base_itself, Found.{KindTold, ParameterTold, ResultTold, HeadingTold, AreHeaded, IsSigned, signature, ThingTold, EnvTold}}
use Rattle.lil_right_value.specs.Names.{Told, bound_at_is}
pub use Rattle.lil_right_type.specs.{Right.all_then, Homes.last_there}

-- ---- what is true of all elements
module _ {A : Type 0} (P Q R : A → Type 0) where
  pub all_with : ((x : A) → P x → Q x → R x) → (xs : List A) → AllFine P xs → AllFine Q xs → AllFine R xs
  all_with f [] h j = tt
  all_with f (x ∷ xs) h j = (f x h.0 j.0, all_with f xs h.1 j.1)

module _ {A : Type 0} (P : A → Type 0) where
  pub fine_at : (xs : List A) (n : ℕ) (x : A) → AllFine P xs → slice_get xs n ≡ Some x → P x
  fine_at [] n x h is = absurd (none-some x is)
  fine_at (y ∷ xs) zero x h is = subst P (same_Some y x is) h.0
  fine_at (y ∷ xs) (suc n) x h is = fine_at xs n x h.1 is

pub some_is : {A : Type 0} (o : Option A) → is_some o ≡ true → (a : A) × (o ≡ Some a)
some_is None h = absurd (true≢false (sym h))
some_is (Some a) h = (a, refl)

-- ---- each enumeration has numbers for its constants
abbrev pub Few : Table → Type 0
Few t = (n : ℕ) (e : TypeEntry) (xs : List (List ℕ)) → entry t n ≡ Some e → e.form ≡ Enumeration xs → length xs ≤ 65535

-- ---- each type of the first table is the same in the second
abbrev pub Grown : Table → Table → Type 0
Grown t u = (n : ℕ) (e : TypeEntry) → entry t n ≡ Some e → entry u n ≡ Some e

pub grown_same : (t : Table) → Grown t t
grown_same t n e is = is

pub grown_more : (t u v : Table) → Grown t u → Grown u v → Grown t v
grown_more t u v h j n e is = j n e (h n e is)

pub few_before : (t u : Table) → Grown t u → Few u → Few t
few_before t u h few n e xs is = few n e xs (h n e is)

-- ---- numbers below the next one: those of standard types, and of the table's
pub entry_below : (t : Table) (n : ℕ) (e : TypeEntry) → entry t n ≡ Some e → n < next t
entry_below t n e is = grind (arith, nat_tests, slice_get_within)

pub known_below : (t : Table) (n : ℕ) (f : Facts) → known t n ≡ Some f → n < next t
known_below t n f h = grind (arith, nat_tests, slice_get_within)

base_below : (t : Table) (n : ℕ) (k : RBase) → base_at t n ≡ Some k → n < next t
base_below t n k h = grind (arith, nat_tests, slice_get_within)

composite_below : (t : Table) (n : ℕ) → composite_at t n ≡ true → n < next t
composite_below t n h = grind (arith, nat_tests, slice_get_within)

pub past_end : {A : Type 0} (xs : List A) (i : ℕ) → slice_get xs i ≡ None → length xs ≤ i
past_end [] i h = omega arith
past_end (x ∷ xs) zero h = absurd (none-some x (sym h))
past_end (x ∷ xs) (suc i) h = let past : length xs ≤ i = past_end xs i h in omega arith

-- ---- something lies in what has a kind, and in arrays and records
either : {A : Type 0} {B : Type 0} (o : Option A) (c : Bool) → (is_some o || c) ≡ true → ((a : A) → o ≡ Some a → B) → (c ≡ true → B) → B
either None c h some other = other h
either (Some a) c h some other = some a refl

kind_lies : (u : Table) (n : ℕ) (j : RKind) → kind_at u n ≡ Some j → lies_at u n ≡ true
kind_lies u n j is = ap (λ o. is_some o || composite_at u n) is

composite_lies : (u : Table) (n : ℕ) → composite_at u n ≡ true → lies_at u n ≡ true
composite_lies u n is = ap (λ c. is_some (kind_at u n) || c) is ∙ or_true (is_some (kind_at u n))
  where
    or_true : (c : Bool) → (c || true) ≡ true
    or_true c = grind arith

module _ (t : Table) (told : IsTold t) where
  -- below a type that has a base, or in which something lies
  under_below : (n : ℕ) (k : RBase) → base_at t (base t n) ≡ Some k → n < next t
  under_below n k h = grind (arith, own_base t told n, entry_below t n, base_below t n k)

  lies_below : (n : ℕ) → lies_at t n ≡ true → n < next t
  lies_below n h = either (kind_at t n) (composite_at t n) h (λ j is. under_below n j.base (kind_base t n j is)) (composite_below t n)

-- the type of a procedure is in the table
abbrev pub IsIn : Table → Thing → Type 0
IsIn t (thing.Procedure x) = x.sort < next t
IsIn t (thing.Resident x s) = s < next t
IsIn t _ = Unit {0}

-- ---- a table in which the types of another are kept: each is the same, or it is a pointer type and points to another
abbrev pub Turned : ℕ → Option TypeEntry → Option TypeEntry → Type 0
Turned to o u = (u ≡ o) ⊎ ((e : TypeEntry) × (a : ℕ) × (o ≡ Some e) × (e.form ≡ Pointer a) × (u ≡ Some (record e { form = Pointer to })))

pub record Kept (to : ℕ) (t u : Table) : Type 0 where
  pub below : (n : ℕ) → n < next t → n < next u
  pub at : (n : ℕ) → n < next t → Turned to (entry t n) (entry u n)

pub grown_kept : (t u : Table) → Grown t u → Kept 0 t u
grown_kept t u grown = record { below = below; at = λ n h. inl (same n h) }
  where
    same : (n : ℕ) → n < next t → entry u n ≡ entry t n
    same n h = grind (arith, nat_tests, past_end)

    below : (n : ℕ) → n < next t → n < next u
    below n h = grind (arith, nat_tests, past_end, slice_get_within, same n h)

module _ {to : ℕ} (t u : Table) (told : IsTold t) (kept : Kept to t u) where
  -- what is asked of a type, but of what its pointers point to
  same : {X : Type 0} (F : Option TypeEntry → X) → ((e : TypeEntry) (a : ℕ) → e.form ≡ Pointer a → F (Some (record e { form = Pointer to })) ≡ F (Some e)) → (n : ℕ) → n < next t → F (entry u n) ≡ F (entry t n)
  same F blind n h = by (kept.at n h)
    where
      by : Turned to (entry t n) (entry u n) → F (entry u n) ≡ F (entry t n)
      by (inl is) = ap F is
      by (inr is) = ap F is.4 ∙ blind is.0 is.1 is.3 ∙ sym (ap F is.2)

  same_known : (n : ℕ) → n < next t → known u n ≡ known t n
  same_known n = same (facts_in (types.standard n)) (λ e a form. grind arith) n

  known_stays : (n : ℕ) (f : Facts) → known t n ≡ Some f → known u n ≡ Some f
  known_stays n f h = same_known n (known_below t n f h) ∙ h

  span_stays : (n : ℕ) (s : Span) → span_in (known t n) ≡ Some s → span_in (known u n) ≡ Some s
  span_stays n s h = grind (arith, known_stays n)

  same_meant : (n : ℕ) → n < next t → meant u n ≡ n
  same_meant n h = same (meant_by n) (λ e a form. sym (ap (types.other_of n) form)) n h ∙ meant_is t told n

  same_base : (n : ℕ) → n < next t → base u n ≡ base t n
  same_base n h =
      ap (λ m. types.base_by m (known u m)) (same_meant n h)
      ∙ ap (types.base_by n) (same_known n h)
      ∙ sym (ap (λ m. types.base_by m (known t m)) (meant_is t told n))

  base_stays : (n : ℕ) (k : RBase) → base_at t n ≡ Some k → base_at u n ≡ Some k
  base_stays n k h = same (base_by n) (λ e a form. sym (ap (base_form n) form)) n (base_below t n k h) ∙ h

  under_stays : (n : ℕ) (k : RBase) → base_at t (base t n) ≡ Some k → base_at u (base u n) ≡ Some k
  under_stays n k h = ap (base_at u) (same_base n (under_below t told n k h)) ∙ base_stays (base t n) k h

  kind_stays : (n : ℕ) (j : RKind) → kind_at t n ≡ Some j → kind_at u n ≡ Some j
  kind_stays n j h =
      let under : base_at t (base t n) ≡ Some j.base = kind_base t n j h in
      ap (λ o. kind_over o (entry u n)) (under_stays n j.base under ∙ sym under)
      ∙ same (kind_over (base_at t (base t n))) (λ e a form. grind arith) n (under_below t told n j.base under)
      ∙ h

  composite_stays : (n : ℕ) → composite_at t n ≡ true → composite_at u n ≡ true
  composite_stays n h = same composite_by (λ e a form. sym (ap is_composite form)) n (composite_below t n h) ∙ h

  pub lies_stays : (n : ℕ) → lies_at t n ≡ true → lies_at u n ≡ true
  lies_stays n h = either (kind_at t n) (composite_at t n) h (λ j is. kind_lies u n j (kind_stays n j is)) (λ is. composite_lies u n (composite_stays n is))

  -- ---- parameters and results
  pub parameter_stays : (p : Parameter) → ParameterTold t p → ParameterTold u p
  parameter_stays p h = lies_stays p.sort h

  passed_stays : (p : Parameter) → PassedTold t p → PassedTold u p
  passed_stays p (inl h) = inl (lies_stays p.sort h)
  passed_stays p (inr h) = inr h

  pub result_stays : (r : Option ℕ) → ResultTold t r → ResultTold u r
  result_stays None h = tt
  result_stays (Some r) h = (h.0, kind_stays r h.0 h.1)

  -- ---- the types
  pub has_span_stays : (n : ℕ) → HasSpan t n → HasSpan u n
  has_span_stays n h = (h.0, span_stays n h.0 h.1)

  pub form_stays : (n : ℕ) (f : Facts) (form : TypeForm) → FormTold t n f form → FormTold u n f form
  form_stays n f (Subrange m s) h = (h.0, record { base = h.1.base; is = base_stays f.base h.1.base h.1.is; ordinal = h.1.ordinal; least = h.1.least; ordered = h.1.ordered; greatest = h.1.greatest })
  form_stays n f (Array i e) h = (h.0, h.1, has_span_stays i h.2, lies_stays e h.3)
  form_stays n f (Record xs) h = (h.0, h.1, all_then _ _ (λ (x : Field). lies_stays x.sort) xs h.2)
  form_stays n f (SetOf m) h = (h.0, h.1, (h.2.0, span_stays m h.2.0 h.2.1, h.2.2, h.2.3))
  form_stays n f (Pointer m) h = (h.0, h.1, lies_stays m h.2)
  form_stays n f (Procedure ps r) h = (h.0, h.1, all_then (PassedTold t) (PassedTold u) passed_stays ps h.2, result_stays r h.3)
  form_stays n f _ h = h

  same_fields : (n : ℕ) → n ≤ next t → (xs : List Field) → AllFine (λ (x : Field). x.sort < n) xs → fields_words u xs ≡ fields_words t xs
  same_fields n h [] all = refl
  same_fields n h (x ∷ xs) all =
      let below : x.sort < next t = omega (arith, all.0) in
      λ i. sum_of (same_known x.sort below i) (same_fields n h xs all.1 i)

  pub measured_stays : (n : ℕ) (f : Facts) (form : TypeForm) → n ≤ next t → FormMeasured t n f form → FormMeasured u n f form
  measured_stays n f (Array i e) h m = (m.0, (m.1.0, span_stays i m.1.0 m.1.1, m.1.2 ∙ ap (λ o. values m.1.0 * words_by o) (sym (same_known e (omega (arith, m.0))))))
  measured_stays n f (Record xs) h m = (m.0, same_fields n h xs m.0 ∙ m.1)
  measured_stays n f _ h m = m

  -- ---- names
  kind_told_stays : (k : Kind) → KindTold t k → KindTold u k
  kind_told_stays (k.Scalar s w) h = (h.0, under_stays s h.0 h.1, h.2, h.3)
  kind_told_stays (k.Of s) h = lies_stays s h
  kind_told_stays (k.Open s) h = lies_stays s h
  kind_told_stays _ h = h

  same_heading : {A : Type 0} (part : Option TypeForm → A) → ((e : TypeEntry) (a : ℕ) → e.form ≡ Pointer a → part (Some (Pointer to)) ≡ part (Some e.form)) → (n : ℕ) → n < next t → part (shape u n) ≡ part (shape t n)
  unfolding shape
  same_heading part blind n h =
      ap (λ m. part (form_in (entry u m))) (same_meant n h)
      ∙ same (λ o. part (form_in o)) blind n h
      ∙ sym (ap (λ m. part (form_in (entry t m))) (meant_is t told n))

  pub same_signature : (s : ℕ) → s < next t → (parameters u s ≡ parameters t s) × (result u s ≡ result t s)
  unfolding parameters result
  same_signature s here = (same_heading parameters_in (λ e a form. sym (ap parameters_of form)) s here, same_heading (of_form result_of) (λ e a form. sym (ap result_of form)) s here)

  pub heading_stays : (s : ℕ) → s < next t → HeadingTold t s → HeadingTold u s
  heading_stays s here h =
      let same = same_signature s here in
      (subst (AllFine (ParameterTold u)) (sym same.0) (all_then (ParameterTold t) (ParameterTold u) parameter_stays (parameters t s) h.0), subst (ResultTold u) (sym same.1) (result_stays (result t s) h.1))

  signed_stays : (s : ℕ) (o : Option (List Parameter)) → s < next t → IsSigned t s o → IsSigned u s o
  signed_stays s None here h = h
  signed_stays s (Some ps) here h = let same = same_signature s here in (same.0 ∙ h.0, same.1 ∙ h.1)

  -- as more texts are declared too
  module _ (texts more : List (List ℕ)) (kept_texts : Longer texts more) where
    thing_stays : (x : Thing) → IsIn t x → ThingTold t texts x → ThingTold u more x
    thing_stays (thing.Constant k) here h = (kind_told_stays k h.0, h.1)
    thing_stays (thing.Named n c) here h = (h.0, (h.1.0, kept_texts n h.1.0 h.1.1, h.1.2))
    thing_stays (thing.Variable v) here h = lies_stays v.sort h
    thing_stays (thing.Type s) here h = λ so. lies_stays s (h so)
    thing_stays (thing.Procedure x) here h = heading_stays x.sort here h
    thing_stays (thing.Resident x s) here h = signed_stays s (signature x) here h
    thing_stays _ here h = h

  in_stays : (x : Thing) → IsIn t x → IsIn u x
  in_stays (thing.Procedure x) h = kept.below x.sort h
  in_stays (thing.Resident x s) h = kept.below s h
  in_stays _ h = tt

-- ---- a next type
-- the parts of a form are told, so that a type of this form is
abbrev pub PartsTold : Table → TypeForm → Type 0
PartsTold t (Enumeration xs) = 1 ≤ length xs
PartsTold t (Subrange m s) = HasNumbers t (base t m) s
PartsTold t (Array i e) = HasSpan t i × (lies_at t e ≡ true)
PartsTold t (Record xs) = AllFine (λ (x : Field). lies_at t x.sort ≡ true) xs
PartsTold t (SetOf m) = (u : Span) × (span_in (known t m) ≡ Some u) × (pos 0 ≤ℤ u.low) × (u.high ≤ℤ pos 15)
PartsTold t (Pointer m) = lies_at t m ≡ true
PartsTold t (Procedure ps r) = AllFine (PassedTold t) ps × ResultTold t r
PartsTold t (Opaque o) = ⊥

-- as many constants as there are numbers for
abbrev pub IsFew : TypeForm → Type 0
IsFew (Enumeration xs) = length xs ≤ 65535
IsFew _ = Unit {0}

next_is : (room : Bool) (o : Option Facts) (f : Facts) → (if room then fitting o else None) ≡ Some f → (o ≡ Some f) × (f.words ≤ 32000)
next_is room o f h = grind (arith, nat_tests)

-- the facts of a form that has some
facts_are : (n words : ℕ) (s : Option Span) (f : Facts) → Some (types.facts n words s) ≡ Some f → (f.base ≡ n) × (f.words ≡ words) × (f.span ≡ s)
facts_are n words s f is = grind arith

subrange_is : (n : ℕ) (o : Option Facts) (s : Span) (f : Facts) → types.subrange_facts o s ≡ Some f → (f.base ≡ types.base_by n o) × (f.words ≡ 1) × (f.span ≡ Some s)
subrange_is n o s f is = grind arith

array_is : (n : ℕ) (o p : Option Facts) (s : Span) (f : Facts) → span_in o ≡ Some s → array_facts n o p ≡ Some f → (f.base ≡ n) × (f.words ≡ values s * words_by p) × (f.span ≡ None)
array_is n o p s f span is = grind arith

record_is : (n : ℕ) (o : Option ℕ) (f : Facts) → record_facts n o ≡ Some f → (f.base ≡ n) × (o ≡ Some f.words) × (f.span ≡ None)
record_is n o f is = grind arith

module _ (t : Table) (told : IsTold t) where
  new_is : (form : TypeForm) (f : Facts) → facts_of t (next t) form ≡ Some f → IsFew form → PartsTold t form → FormTold t (next t) f form × FormMeasured t (next t) f form
  new_is (Enumeration xs) f is few h = ((sym (same_Some _ f is), h, few), (facts_are (next t) 1 _ f is).1)
  new_is (Subrange m s) f is few h =
      let a = subrange_is m (known t m) s f is in
      ((a.2, subst (λ n. HasNumbers t n s) (ap (λ n. types.base_by n (known t n)) (meant_is t told m) ∙ sym a.0) h), a.1)
  new_is (Array i e) f is few h =
      let a = array_is (next t) (known t i) (known t e) h.0.0 f h.0.1 is in
      ((a.0, a.2, h.0, h.1), (lies_below t told e h.1, (h.0.0, h.0.1, a.1)))
  new_is (Record xs) f is few h =
      let a = record_is (next t) (fields_words t xs) f is in
      ((a.0, a.2, h), (all_then _ _ (λ (x : Field). lies_below t told x.sort) xs h, a.1))
  new_is (SetOf m) f is few h = let a = facts_are (next t) 1 None f is in ((a.0, a.2, h), a.1)
  new_is (Pointer m) f is few h = let a = facts_are (next t) 1 None f is in ((a.0, a.2, h), a.1)
  new_is (Procedure ps r) f is few h = let a = facts_are (next t) 1 None f is in ((a.0, a.2, h.0, h.1), a.1)
  new_is (Opaque o) f is few h = absurd h

-- ---- the table with it
module _ (t : Table) (x : TypeEntry) where
  appended : Grown t (t ++ x ∷ [])
  appended n e h = grind (arith, nat_tests, earlier)

  last_entry : entry (t ++ x ∷ []) (next t) ≡ Some x
  last_entry = grind (arith, nat_tests, last_there t x)

  -- an entry is one of before, or the last
  which_entry : (n : ℕ) (e : TypeEntry) → entry (t ++ x ∷ []) n ≡ Some e → (entry t n ≡ Some e) ⊎ ((n ≡ next t) × (x ≡ e))
  which_entry n e h = grind (arith, nat_tests, at_end)

  each_entry : (P : ℕ → TypeEntry → Type 0) → ((n : ℕ) (e : TypeEntry) → entry t n ≡ Some e → P n e) → P (next t) x → (n : ℕ) (e : TypeEntry) → entry (t ++ x ∷ []) n ≡ Some e → P n e
  each_entry P before last n e h = elim (which_entry n e h) [ inl is ↦ before n e is | inr is ↦ subst (P n) is.1 (subst (λ n. P n x) (sym is.0) last) ]

pub added_grown : (t : Table) (o : Origin) (form : TypeForm) → Grown t (added t o form)
added_grown t o form = by (next_facts t form)
  where
    by : (of : Option Facts) → Grown t (with_facts t o form of)
    by None = grown_same t
    by (Some f) = appended t (record { origin = o; form = form; facts = f })

module _ (t : Table) (told : IsTold t) where
  pub span_lies : (n : ℕ) → HasSpan t n → lies_at t n ≡ true
  span_lies n h = let o : IsOrdinal t n h.0 = known_ordinal t told n h.0 h.1 in kind_lies t n o.kind o.at

  -- a type of the table
  entry_lies : (n : ℕ) (o : Origin) (f : Facts) (form : TypeForm) → entry t n ≡ Some (record { origin = o; form = form; facts = f }) → lies_at t n ≡ true
  entry_lies n o f (Enumeration xs) is = span_lies n (_, ap span_in (entry_known t n _ is) ∙ ap (λ (f : Facts). f.span) (told n _ is).0)
  entry_lies n o f (Subrange m s) is = span_lies n (s, ap span_in (entry_known t n _ is) ∙ (told n _ is).0)
  entry_lies n o f (Array i m) is = composite_lies t n (ap composite_by is)
  entry_lies n o f (Record xs) is = composite_lies t n (ap composite_by is)
  entry_lies n o f (SetOf m) is = kind_lies t n (plain b.Set) (base_itself t told n b.Set (ap (base_by n) is)).1
  entry_lies n o f (Pointer m) is = kind_lies t n (plain (b.Pointer n)) (base_itself t told n (b.Pointer n) (ap (base_by n) is)).1
  entry_lies n o f (Procedure ps r) is = kind_lies t n (plain (b.Procedure n)) (base_itself t told n (b.Procedure n) (ap (base_by n) is)).1
  entry_lies n o f (Opaque x) is = absurd (told n _ is)

  pub entry_shape : (n : ℕ) (e : TypeEntry) → entry t n ≡ Some e → shape t n ≡ Some e.form
  unfolding shape
  entry_shape n e is = ap (λ m. form_in (entry t m)) (meant_is t told n) ∙ ap form_in is

module _ (t : Table) (o : Origin) (form : TypeForm) where
  -- the type of a number that is given
  pub added_entry : (n : ℕ) → added_number t form ≡ Some n → (f : Facts) × (entry (added t o form) n ≡ Some (record { origin = o; form = form; facts = f }))
  added_entry n = by (next_facts t form)
    where
      by : (of : Option Facts) → number_by t of ≡ Some n → (f : Facts) × (entry (with_facts t o form of) n ≡ Some (record { origin = o; form = form; facts = f }))
      by None h = absurd (none-some n h)
      by (Some f) h = let x : TypeEntry = record { origin = o; form = form; facts = f } in (f, ap (entry (t ++ x ∷ [])) (sym (same_Some (next t) n h)) ∙ last_entry t x)

  module _ (told : IsTold t) (measured : AreMeasured t) (parts : PartsTold t form) where
    -- the table with it is told
    pub added_told : Few (added t o form) → IsTold (added t o form) × AreMeasured (added t o form)
    added_told = by (next_facts t form) refl
      where
        is_few : (form : TypeForm) (f : Facts) → Few (with_facts t o form (Some f)) → IsFew form
        is_few (Enumeration xs) f few = few (next t) _ xs (last_entry t _) refl
        is_few _ f few = tt

        by : (of : Option Facts) → next_facts t form ≡ of → Few (with_facts t o form of) → IsTold (with_facts t o form of) × AreMeasured (with_facts t o form of)
        by None is few = (told, measured)
        by (Some f) is few =
            let x : TypeEntry = record { origin = o; form = form; facts = f } in
            let u : Table = t ++ x ∷ [] in
            let kept : Kept 0 t u = grown_kept t u (appended t x) in
            let facts = next_is (adding.has_room t) (facts_of t (next t) form) f is in
            let new = new_is t told form f facts.0 (is_few form f few) parts in (
              each_entry t x (λ n e. FormTold u n e.facts e.form) (λ n e is. form_stays t u told kept n e.facts e.form (told n e is)) (form_stays t u told kept (next t) f form new.0),
              each_entry t x (λ n e. FormMeasured u n e.facts e.form × (e.facts.words ≤ 32000))
                  (λ n e is. let below : n < next t = entry_below t n e is in (measured_stays t u told kept n e.facts e.form (omega arith) (measured n e is).0, (measured n e is).1))
                  (measured_stays t u told kept (next t) f form (omega arith) new.1, facts.1),
            )

    pub added_lies : Few (added t o form) → (n : ℕ) → added_number t form ≡ Some n → lies_at (added t o form) n ≡ true
    added_lies few n is = let e = added_entry n is in entry_lies (added t o form) (added_told few).0 n o e.0 form e.1

-- procedure types, by their shape
pub shape_parameters : (t : Table) (n : ℕ) (ps : List Parameter) (r : Option ℕ) → shape t n ≡ Some (Procedure ps r) → (parameters t n ≡ ps) × (result t n ≡ r)
unfolding parameters result
shape_parameters t n ps r is = (ap parameters_in is, ap (of_form result_of) is)

-- ---- what is declared
abbrev AreIn : Env → Type 0
AreIn e = AllFine (AllFine (λ (x : List ℕ × Entry). IsIn e.types x.1.thing)) e.scopes.blocks

-- something lies in variables, where they lead to, or in each element of an open array
abbrev pub AllLie : Table → List RVar → Type 0
AllLie t vs = AllFine (λ (v : RVar). lies_at t v.sort ≡ true) vs

-- those of the module, which has no parameters
abbrev pub PlainLie : Table → List RVar → Type 0
PlainLie t vs = AllFine (λ (v : RVar). (lies_at t v.sort ≡ true) × IsPlain v.mode) vs

-- and those of each procedure
abbrev pub Lie : Table → List RVar → List (List RVar) → Type 0
Lie t vs ls = PlainLie t vs × AllFine (AllLie t) ls

-- the type of a procedure is told
abbrev pub HasHeading : Table → RProc → Type 0
HasHeading t q = (q.sort < next t) × HeadingTold t q.sort

-- the first variables of a procedure are those for its parameters
abbrev pub AllHeaded : Table → List RProc → List (List RVar) → Type 0
AllHeaded t ps ls = (n : ℕ) (q : RProc) → slice_get ps n ≡ Some q → AreHeaded (parameters t q.sort) (locals_in ls n)

pub record Declared (e : Env) : Type 0 where
  pub told : EnvTold e
  pub residents : AreIn e
  pub variables : Lie e.types e.variables e.locals
  pub headings : AllFine (HasHeading e.types) e.procedures
  pub headed : AllHeaded e.types e.procedures e.locals

-- a thing that may be bound there, in a block
abbrev pub IsThing : Env → ℕ → Thing → Type 0
IsThing e k x = ThingTold e.types e.texts x × (IsIn e.types x × Allowed (length e.scopes.blocks) e.procedures e.variables e.locals k x)

module _ (e : Env) (h : Declared e) where
  pub declared_kept : {to : ℕ} (u : Table) → Kept to e.types u → IsTold u → AreMeasured u → Declared (record e { types = u })
  declared_kept u kept told measured = record {
    told = record { types = told; words = measured; names = all_with _ _ _ (λ b. all_with _ _ _ (λ (x : List ℕ × Entry). same_things x.1.thing) b) e.scopes.blocks h.residents h.told.names; homed = h.told.homed; stands = h.told.stands };
    residents = all_then _ _ (λ b. all_then _ _ (λ (x : List ℕ × Entry). in_stays e.types u h.told.types kept x.1.thing) b) e.scopes.blocks h.residents;
    variables = (plain_lie e.variables h.variables.0, all_then _ _ they_lie e.locals h.variables.1);
    headings = all_then (HasHeading e.types) (HasHeading u) (λ (q : RProc) j. (kept.below q.sort j.0, heading_stays e.types u h.told.types kept q.sort j.0 j.1)) e.procedures h.headings;
    headed = λ n q is. subst (λ (ps : List Parameter). AreHeaded ps (locals_in e.locals n)) (sym (same_signature e.types u h.told.types kept q.sort (fine_at (HasHeading e.types) e.procedures n q h.headings is).0).0) (h.headed n q is);
  }
    where
      same_things : (x : Thing) → IsIn e.types x → ThingTold e.types e.texts x → ThingTold u e.texts x
      same_things = thing_stays e.types u h.told.types kept e.texts e.texts (λ i cs is. is)

      they_lie : (vs : List RVar) → AllLie e.types vs → AllLie u vs
      they_lie = all_then _ _ (λ (v : RVar) j. lies_stays e.types u h.told.types kept v.sort j)

      plain_lie : (vs : List RVar) → PlainLie e.types vs → PlainLie u vs
      plain_lie = all_then _ _ (λ (v : RVar) j. (lies_stays e.types u h.told.types kept v.sort j.0, j.1))

  pub declared_added : (o : Origin) (form : TypeForm) → PartsTold e.types form → Few (added e.types o form) → Declared (record e { types = added e.types o form })
  declared_added o form parts few =
      let told = added_told e.types o form h.told.types h.told.words parts few in
      declared_kept (added e.types o form) (grown_kept e.types _ (added_grown e.types o form)) told.0 told.1

  -- the pointers that wait and the names of types that come don't matter, nor do WITHs
  pub declared_waits : (ws : List Wait) (ns : List (List ℕ)) → Declared (record e { waits = ws; coming = ns })
  declared_waits ws ns = record {
    told = record { types = h.told.types; words = h.told.words; names = h.told.names; homed = h.told.homed; stands = h.told.stands };
    residents = h.residents;
    variables = h.variables;
    headings = h.headings;
    headed = h.headed;
  }

  -- a name more in a block, and a block more, without names
  pub bound_declared : (k : ℕ) (n : List ℕ) (x : Entry) → IsThing e k x.thing → Declared (with_blocks e (bound_at e.scopes.blocks k n x))
  bound_declared k n x j = record {
    told = record {
      types = h.told.types;
      words = h.told.words;
      names = bound_at_is (Told e) e.scopes.blocks k n x h.told.names j.0;
      homed = homed_bound e.scopes.blocks e.procedures e.variables e.locals k n x h.told.homed j.1.1;
      stands = h.told.stands;
    };
    residents = bound_at_is (IsIn e.types) e.scopes.blocks k n x h.residents j.1.0;
    variables = h.variables;
    headings = h.headings;
    headed = h.headed;
  }

  pub begun_declared : Declared (with_block e)
  begun_declared = record {
    told = record {
      types = h.told.types;
      words = h.told.words;
      names = fine_more _ e.scopes.blocks [] h.told.names tt;
      homed = homed_begun e.scopes.blocks e.procedures e.variables e.locals h.told.homed;
      stands = h.told.stands;
    };
    residents = fine_more _ e.scopes.blocks [] h.residents tt;
    variables = h.variables;
    headings = h.headings;
    headed = h.headed;
  }

  -- more variables, behind those before
  pub variables_declared : (vs : List RVar) (ls : List (List RVar)) → Longer e.variables vs → AllLonger e.locals ls → length ls ≡ length e.locals → Lie e.types vs ls → AllHeaded e.types e.procedures ls → Declared (record e { variables = vs; locals = ls })
  variables_declared vs ls more locals many all headed = record {
    told = record {
      types = h.told.types;
      words = h.told.words;
      names = h.told.names;
      homed = homed_more e.scopes.blocks e.procedures e.variables vs e.locals ls h.told.homed more locals many;
      stands = h.told.stands;
    };
    residents = h.residents;
    variables = all;
    headings = h.headings;
    headed = headed;
  }

  -- more texts, likewise
  pub texts_declared : (texts : List (List ℕ)) → Longer e.texts texts → Declared (record e { texts = texts })
  texts_declared texts more = record {
    told = record {
      types = h.told.types;
      words = h.told.words;
      names = all_with _ _ _ (λ b. all_with _ _ _ (λ (x : List ℕ × Entry). same_things x.1.thing) b) e.scopes.blocks h.residents h.told.names;
      homed = h.told.homed;
      stands = h.told.stands;
    };
    residents = h.residents;
    variables = h.variables;
    headings = h.headings;
    headed = h.headed;
  }
    where
      same_things : (x : Thing) → IsIn e.types x → ThingTold e.types e.texts x → ThingTold e.types texts x
      same_things = thing_stays e.types e.types h.told.types (grown_kept e.types e.types (grown_same e.types)) e.texts texts more
