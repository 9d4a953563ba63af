-- What calls are handed: each argument is there and sound, as its parameter says.
use Rattle.std.proofs.Common.{◌≡◌, ℕ, suc, ◌+◌, ◌≤◌, Bool, true, false, not, ◌||◌, List, slice_get, Option, Some, None, if◌then◌else◌, refl, sym, ap, subst, ◌∙◌, arith, true≢false, inl, inr}
use Rattle.std.specs.Prelude.{ℤ, pos, negsuc, ◌≤ℤ◌, ◌+ℤ◌, ◌-ℤ◌, ◌==◌, ◌&&◌, nat_le, is_some}
use Rattle.std.specs.Option.{option_map}
use Rattle.std.proofs.lemmas.{Int.ints, Option.none-some, Bool.Decides.nat_tests}
use Rattle.lil_types.specs.{Types.{Table, char, address, process, base, same}, declared.table.{Parameter.Parameter, Span.Span}}
use Rattle.lil_declared.specs.declared.declared.RVar.{RVar}
use Rattle.lil_resolved.specs.Kinds as kinds
use Rattle.lil_resolved.specs.{Kinds.{Shape, Word, Row, Opened, OfCharacter, Scope, OfPointer, Workspaces, nat_of, is_there, element_of, along, shape_by}, Resolved.{Argument, OfArray, OfText, OfOpened, shape_of}, Sizes.depth, Sound.{parameter_of, IsServed, IsSoundArgument, IsSoundStored, IsSoundTarget, IsSoundValue, IsSoundWhole}, Views.{argument_of, of_array_is, of_text_is, of_opened_is, base_view, kind_view, expression_of, place_of}, declared.resolved.{RArgument.RArgument, RBase.RBase, RExpr.RExpr, RKind.RKind, RNamed.RNamed, RPlace.RPlace}}
use Rattle.lil_resolved.specs.declared.resolved.RArgument.TheVariants as given
use Rattle.lil_resolved.specs.declared.resolved.RBase.TheVariants as b
use Rattle.lil_shapes.specs.{BaseLaws.{same_sort, kind_base}, Pointers.lies_at, Bases.{plain, base_at, kind_at, array_at, composite_at, numbers_of, elements_in, elements_at}, ShapeSound.word_shaped}
use Rattle.lil_shapes.specs.declared.composites.ArrayParts as shaped
use Rattle.lil_scope.specs.declared.thing.Kind.{Kind}
use Rattle.lil_scope.specs.declared.thing.Kind.TheVariants as k
use Rattle.lil_kinds.specs.{Forms.array_parts, Kinds.assignable, declared.{forms.ArrayParts.ArrayParts, found.{Form.Form, Found.Found, Located.Located}}}
use Rattle.lil_kinds.specs.declared.found.Form.TheVariants as form
use Rattle.lil_forms.specs.{Places.located_in, Properties.{Property, Reach, IsHanded, IsArrayFor, IsTextFor, IsOpenFor, value_kind}, Scopes.{Fits, both_left, both_right, has_shape}, Soundness.{soundness, characters_lie, opens_soundly}, Statements.{opening, last_of, array_as, open_given, spelled_as, value_as, value_by, place_given, whole_given, argument_given}, Values.typed}
use Rattle.lil_call.specs.Passing.{has_elements, is_array_of, is_of, is_open, is_text, is_variable, is_wrong_value, is_wrong_place, is_outside}
use Rattle.lil_right_type.specs.{Found.{LiesAt, GoesWith, KindTold, IsFound, ParameterTold, value, place}, Parts.{IsArray, no_kind, array_is, same_types}, Right.{IsThere, is_so}, Sound.stored_sound, Typed.{Suits, Stores, either, assignable_stores, stores_suits}, Types.{IsTold, PassedTold, IsOrdinal, own_base, known_ordinal}, Words.AreMeasured}
use Rattle.lil_right_call.specs.{Functions.number_bounds, Places.{IsVariable, place_is, target_sound}, Wholes.{characters_are, characters_few, IsSpelled, whole_or_spelled}}

-- what the tests of an argument leave
pub record IsTaken (t : Table) (p : Parameter) (x : Found) : Type 0 where
  pub value : is_wrong_value t p x.kind ≡ false
  pub place : is_wrong_place t p x.standing x.kind ≡ false
  pub inside : is_outside t p x.kind ≡ false

abbrev pub opened : Bool → ℕ → Parameter
opened c s = record { by_place = c; open_array = true; sort = s }

pub there_is : {A : Type 0} (P : A → Type 0) (o : Option A) → IsThere P o → (a : A) × (o ≡ Some a) × P a
there_is P None h = absurd h
there_is P (Some a) h = (a, refl, h)

-- what is no string isn't taken as one
no_text : (c d : Bool) → (not c && (d && false)) ≡ true → ⊥
no_text true d h = cc
no_text false true h = cc
no_text false false h = cc

-- a number of elements leaves a last one
has_last : (z : ℤ) → pos 0 ≤ℤ z → z ≤ℤ pos 65535 → (n : ℕ) × (nat_of (z +ℤ pos 1) ≡ suc n) × (n ≤ 65535)
has_last (negsuc n) low high = absurd (omega (arith, ints))
has_last (pos n) low high = let more : n + 1 ≡ suc n = omega arith in (n, more, omega (arith, ints, high))

-- the numbers of an ordinal type do
last_number : (t : Table) (n : ℕ) (u : Span) → IsOrdinal t n u → (k : ℕ) × (nat_of ((u.high -ℤ u.low) +ℤ pos 1) ≡ suc k) × (k ≤ 65535)
last_number t n u o = has_last (u.high -ℤ u.low) (omega (arith, ints, o.ordered)) (omega (arith, ints, o.from, o.to, (number_bounds o.kind.base o.ordinal).2))

-- and so do the elements of an array
record HasLast (t : Table) (s : ℕ) : Type 0 where
  high : ℕ
  count : elements_at t s ≡ Some (suc high)
  few : high ≤ 65535

last_there : (t : Table) → IsTold t → (s : ℕ) (p : ArrayParts) → array_parts t s ≡ Some p → HasLast t s
last_there t told s p at =
    let a : IsArray t s p = array_is t told s p at in
    let o : IsOrdinal t p.index a.span.0 = known_ordinal t told p.index a.span.0 a.span.1 in
    let last = last_number t p.index a.span.0 o in
    record {
      high = last.0;
      count = ap (elements_in t) a.at ∙ ap (option_map numbers_of) o.at ∙ (λ i. Some (nat_of ((o.greatest i -ℤ o.least i) +ℤ pos 1))) ∙ ap Some last.1;
      few = last.2;
    }

-- ---- arguments for the parameters of procedures
module _ {t : Table} {vs : RNamed → Option RVar} {around : List ℕ} {R : Reach} (P : Property t vs around R) (told : IsTold t) (x : Found) (h : IsFound P x) where
  pub place_there : (s : ℕ) → IsTaken t (place s) x → (v : IsVariable P x) × (v.at.sort ≡ s) × (argument_given t (place s) x ≡ Some (given.Place v.at.place))
  place_there s taken =
      let so = is_so (is_variable x.standing && is_of t s x.kind) taken.place in
      let v : IsVariable P x = place_is P x (is_of t s) (λ n. refl) h (both_left (is_variable x.standing) _ so) (both_right (is_variable x.standing) _ so) in
      let same : v.sort ≡ s = same_types t told v.sort s (sym (ap (is_of t s) v.kind) ∙ both_right (is_variable x.standing) _ so) in
      (v, v.same ∙ same, ap (λ f. place_given (located_in f)) v.form)

  assigned : (s : ℕ) → IsTaken t (value s) x → assignable t s x.kind ≡ true
  assigned s taken = both_right (not (is_open x.kind)) _ (is_so _ taken.value)

  pub stored_given : (s : ℕ) (j : RKind) → kind_at t s ≡ Some j → IsTaken t (value s) x → (y : RExpr) × (argument_given t (value s) x ≡ Some (given.Value j y)) × Stores P j x.depth y
  stored_given s j at taken =
      let y = there_is (Stores P j x.depth) (typed t s x) (assignable_stores P told s j x at h (assigned s taken) taken.inside) in
      (y.0, ap (λ o. value_by t s o x) at ∙ ap (value_as j) y.1, y.2)

  abbrev pub IsArgument : Parameter → Type 0
  IsArgument p = (a : RArgument) × (argument_given t p x ≡ Some a) × IsHanded t P.place P.array P.value p a

  -- an array or a record by value
  whole_of : (s : ℕ) → kind_at t s ≡ None → composite_at t s ≡ true → (f : Form) → x.form ≡ f → argument_given t (value s) x ≡ whole_given t s f
  whole_of s plain composite f is = ap (λ o. value_by t s o x) plain ∙ ap (λ c. if c then whole_given t s x.form else None) composite ∙ ap (whole_given t s) is

  value_argument : (s : ℕ) (j : RKind) → kind_at t s ≡ Some j → IsTaken t (value s) x → IsArgument (value s)
  value_argument s j at taken =
      let y = stored_given s j at taken in
      (given.Value j y.0, y.1, inl (record { kind = j; value = y.0; is = refl; by_value = refl; closed = refl; at = at; stores = y.2.0; shallow = omega (arith, h.few, y.2.1); good = y.2.2 }))

  -- a string for an array of characters, which are no more than words
  spelled_argument : AreMeasured t → (s : ℕ) (none : (base t s ≡ s) × (base_at t s ≡ None)) → kind_at t s ≡ None → composite_at t s ≡ true → IsSpelled P told s none x.kind x.form → IsArgument (value s)
  spelled_argument measured s none plain composite v =
      let a = characters_are t told s v.characters.length v.fits in
      let few : a.count ≤ 65535 = characters_few t measured s v.characters.length a in
      let fit : nat_le a.count 65535 ≡ true = grind (arith, nat_tests, few) in (
        given.Spelled v.text a.count,
        whole_of s plain composite (form.Text v.text) v.is ∙ ap (spelled_as v.text) a.many ∙ ap (λ c. if c then Some (given.Spelled v.text a.count) else None) fit,
        inr (inr (inr (inr (inr (inr (record {
          text = v.text;
          count = a.count;
          is = refl;
          by_value = refl;
          closed = refl;
          parts = a.parts;
          array = a.array;
          element = a.element;
          many = a.many;
          holds = subst (λ n. n ≤ a.count) (sym v.holds_it.0) a.fits;
          few = few;
          told = v.holds_it.1;
        })))))),
      )

  whole_argument : AreMeasured t → (s : ℕ) → kind_at t s ≡ None → lies_at t s ≡ true → IsTaken t (value s) x → IsArgument (value s)
  whole_argument measured s plain alive taken =
      let composite : composite_at t s ≡ true = ap (λ o. is_some o || composite_at t s) (sym plain) ∙ alive in
      let none = no_kind t told s composite in
      elim (whole_or_spelled P told s none x.depth x.kind x.form h.kind h.form (assigned s taken)) [
        | inl v ↦ (
          given.All v.at.place,
          whole_of s plain composite (form.Located v.at) v.is,
          inr (inr (inl (record { at = v.at; is = refl; by_value = refl; closed = refl; sort = v.lies.sort; shallow = omega (arith, h.few, v.lies.deep); good = v.lies.good }))),
        )
        | inr v ↦ spelled_argument measured s none plain composite v
      ]

  place_argument : (s : ℕ) → IsTaken t (place s) x → IsArgument (place s)
  place_argument s taken =
      let v = place_there s taken in
      (given.Place v.0.at.place, v.2, inr (inl (record { at = v.0.at; is = refl; by_place = refl; closed = refl; sort = v.1; shallow = v.0.deep; good = v.0.good })))

  by_value : AreMeasured t → (s : ℕ) → lies_at t s ≡ true → IsTaken t (value s) x → IsArgument (value s)
  by_value measured s alive taken = by (kind_at t s) refl
    where
      by : (o : Option RKind) → kind_at t s ≡ o → IsArgument (value s)
      by None plain = whole_argument measured s plain alive taken
      by (Some j) at = value_argument s j at taken

  -- ---- open arrays
  -- an array of elements of a type
  array_argument : (c : Bool) (s n : ℕ) (p : ArrayParts) (q : Located) → x.form ≡ form.Located q → LiesAt P n x.depth q → array_parts t n ≡ Some p → same t p.element s ≡ true → IsArgument (opened c s)
  array_argument c s n p q is lies at of =
      let parts : shaped.ArrayParts = record { index = p.index; element = p.element } in
      let last = last_there t told n p at in
      let count : elements_at t q.sort ≡ Some (suc last.high) = ap (elements_at t) lies.sort ∙ last.count in
      let fit : nat_le last.high 65535 ≡ true = grind (arith, nat_tests, last.few) in (
        given.Array (opening c) q.place last.high,
        ap (open_given t (opening c)) is ∙ ap (λ n. array_as (opening c) q (last_of n)) count ∙ ap (λ b. array_as (opening c) q (if b then Some last.high else None)) fit,
        inr (inr (inr (inl (record {
          at = q;
          high = last.high;
          is = refl;
          opens = refl;
          parts = parts;
          array = ap (array_at t) lies.sort ∙ (array_is t told n p at).at;
          element = same_types t told p.element s of;
          count = count;
          few = last.few;
          shallow = omega (arith, h.few, lies.deep);
          good = lies.good;
        })))),
      )

  -- that, another open array, or by value a string
  open_by : (c : Bool) (s : ℕ) (a : Kind) (f : Form) → x.form ≡ f → GoesWith P x.depth a f → (is_array_of t s a || (not c && (s == char && is_text a))) ≡ true → IsArgument (opened c s)
  open_by c s (k.Of n) f is goes so = by (array_parts t n) refl f is goes (elim (either (has_elements t s (array_parts t n)) _ so) [ inl e ↦ e | inr e ↦ absurd (no_text c (s == char) e) ])
    where
      by : (o : Option ArrayParts) → array_parts t n ≡ o → (f : Form) → x.form ≡ f → GoesWith P x.depth (k.Of n) f → has_elements t s (array_parts t n) ≡ true → IsArgument (opened c s)
      by None at f is goes so = absurd (true≢false (sym so ∙ ap (has_elements t s) at))
      by (Some p) at (form.Located q) is goes so = array_argument c s n p q is goes at (sym (ap (has_elements t s) at) ∙ so)
      by (Some p) at (form.Value y) is goes so =
          let none = no_kind t told n (array_is t told n p at).composite in
          absurd (none-some goes.as_kind.base (sym none.1 ∙ sym (ap (base_at t) none.0) ∙ kind_base t n goes.as_kind goes.at))
      by (Some p) at _ is goes so = absurd goes
  open_by true s (k.Chars d) f is goes so = cc
  open_by false s (k.Chars d) (form.Text cs) is goes so = (
    given.Text cs,
    ap (open_given t (opening false)) is,
    inr (inr (inr (inr (inl (record { text = cs; is = refl; by_value = refl; opens = refl; sort = same_sort s char (both_left (s == char) true so); told = goes.1 }))))),
  )
  open_by false s (k.Chars d) _ is goes so = absurd goes
  open_by c s (k.Open n) (form.Open o) is goes so =
      let of : n ≡ s = elim (either (same t n s) _ so) [ inl e ↦ same_types t told n s e | inr e ↦ absurd (no_text c (s == char) e) ] in
      (given.Opened (opening c) o.levels o.number, ap (open_given t (opening c)) is, inr (inr (inr (inr (inr (inl (record { at = o; is = refl; opens = refl; sort = goes.sort ∙ of; good = goes.good })))))))
  open_by c s (k.Open n) _ is goes so = absurd goes
  open_by c s _ f is goes so = absurd (no_text c (s == char) so)

  pub open_argument : (s : ℕ) → IsTaken t (opened false s) x → IsArgument (opened false s)
  open_argument s taken = open_by false s x.kind x.form refl h.form (is_so _ taken.value)

  open_place : (s : ℕ) → IsTaken t (opened true s) x → IsArgument (opened true s)
  open_place s taken =
      let so = is_so (is_variable x.standing && is_array_of t s x.kind) taken.place in
      open_by true s x.kind x.form refl h.form (ap (λ c. c || false) (both_right (is_variable x.standing) (is_array_of t s x.kind) so))

  pub argument_there : AreMeasured t → (p : Parameter) → ParameterTold t p → IsTaken t p x → IsArgument p
  argument_there measured p lies taken = by p.by_place p.open_array refl refl
    where
      one : (q : Parameter) → p ≡ q → (IsTaken t q x → IsArgument q) → IsArgument p
      one q same f = subst IsArgument (sym same) (f (subst (λ (q : Parameter). IsTaken t q x) same taken))

      by : (c o : Bool) → p.by_place ≡ c → p.open_array ≡ o → IsArgument p
      by true false is opens = one (place p.sort) (λ i. record { by_place = is i; open_array = opens i; sort = p.sort }) (place_argument p.sort)
      by false false is opens = one (value p.sort) (λ i. record { by_place = is i; open_array = opens i; sort = p.sort }) (by_value measured p.sort lies)
      by true true is opens = one (opened true p.sort) (λ i. record { by_place = is i; open_array = opens i; sort = p.sort }) (open_place p.sort)
      by false true is opens = one (opened false p.sort) (λ i. record { by_place = is i; open_array = opens i; sort = p.sort }) (open_argument p.sort)

  -- ---- nothing is handed over for a PROCESS
  process_assigned : assignable t process x.kind ≡ true → ⊥
  process_assigned so = elim (whole_or_spelled P told process (own_base t told process refl, refl) x.depth x.kind x.form h.kind h.form so) [
    | inl v ↦ true≢false (sym v.filled)
    | inr v ↦ none-some _ (characters_are t told process v.characters.length v.fits).array
  ]

  process_elements : (a : Kind) → KindTold t a → is_array_of t process a ≡ true → ⊥
  process_elements (k.Of n) fine so = by (array_parts t n) refl so
    where
      by : (o : Option ArrayParts) → array_parts t n ≡ o → has_elements t process o ≡ true → ⊥
      by None at so = cc
      by (Some p) at so = true≢false (sym (ap (lies_at t) (sym (same_types t told p.element process so)) ∙ (array_is t told n p at).element))
  process_elements (k.Open n) fine so = true≢false (sym (ap (lies_at t) (sym (same_types t told n process so)) ∙ fine))
  process_elements _ fine so = cc

  no_process : (c o : Bool) → IsTaken t (record { by_place = c; open_array = o; sort = process }) x → ⊥
  no_process true false taken =
      let v = place_there process taken in
      true≢false (sym (ap (lies_at t) (sym (sym v.0.same ∙ v.1)) ∙ subst (KindTold t) v.0.kind h.kind))
  no_process false false taken = process_assigned (assigned process taken)
  no_process true true taken = process_elements x.kind h.kind (both_right (is_variable x.standing) (is_array_of t process x.kind) (is_so (is_variable x.standing && is_array_of t process x.kind) taken.place))
  no_process false true taken = process_elements x.kind h.kind (elim (either (is_array_of t process x.kind) false (is_so _ taken.value)) [ inl e ↦ e | inr e ↦ absurd (true≢false (sym e)) ])

  pub passed_lies : (p : Parameter) → PassedTold t p → IsTaken t p x → ParameterTold t p
  passed_lies p (inl lies) taken = lies
  passed_lies p (inr is) taken = absurd (no_process p.by_place p.open_array (subst (λ n. IsTaken t (record { by_place = p.by_place; open_array = p.open_array; sort = n }) x) is taken))

-- ---- what resident procedures are handed
module _ {t : Table} {vs : RNamed → Option RVar} {around : List ℕ} {R : Reach} {ts : Scope} (fits : Fits t vs around R ts) where
  abbrev P : Property t vs around R
  P = soundness fits

  -- ---- values that stand alone
  pub alone : (k : kinds.Kind) (d : ℕ) (x : RExpr) → d ≤ 12 → value_kind x ≡ k → depth (expression_of x) ≤ d + 1 → P.value x → IsSoundWhole ts (expression_of x) k
  alone k d x few is deep good = record { kind = is; shallow = omega (arith, few, deep); sound = good }

  pub suited : (j : RKind) (d : ℕ) (x : RExpr) → d ≤ 12 → Suits P j d x → IsSoundValue ts (expression_of x) (kind_view j)
  suited j d x few h = record { takes = h.0; whole = alone (value_kind x) d x few refl h.1 h.2 }

  module _ (told : IsTold t) where
    -- ---- strings
    abbrev IsString : RArgument → Type 0
    IsString a = (parameter_of ts (argument_of a) ≡ Opened true (Word OfCharacter)) × IsSoundArgument ts (argument_of a) × IsServed (argument_of a)

    string_as : (a : RArgument) (y : Argument) → argument_of a ≡ y → parameter_of ts y ≡ Opened true (Word OfCharacter) → IsSoundArgument ts y → IsServed y → IsString a
    string_as a y is shape good served = (ap (parameter_of ts) is ∙ shape, subst (IsSoundArgument ts) (sym is) good, subst IsServed (sym is) served)

    -- an array of characters, a string, and an open array
    array_string : (a : RArgument) → IsArrayFor t P.place P.array P.value (opened false char) a → IsString a
    array_string a h =
        let d = place_of h.at.place in
        let row : shape_of ts d ≡ Row (suc h.high) (Word OfCharacter) = characters_lie fits h.at h.parts (suc h.high) h.good h.array h.element h.count in
        let word : element_of (shape_of ts d) ≡ Word OfCharacter = ap element_of row in
        string_as a (OfArray true d h.high) (ap argument_of h.is ∙ of_array_is (opening false) h.at.place h.high) (ap (Opened true) word)
        (row ∙ ap (Row (suc h.high)) (sym word), ap is_there word, h.few, h.shallow, h.good.good) tt

    text_string : (a : RArgument) → IsTextFor t P.place P.array P.value (opened false char) a → IsString a
    text_string a h = string_as a (OfText h.text) (ap argument_of h.is ∙ of_text_is h.text) refl h.told tt

    open_string : (a : RArgument) → IsOpenFor t P.place P.array P.value (opened false char) a → IsString a
    open_string a h =
        let q = h.at in
        let word : h.good.shape ≡ Word OfCharacter = word_shaped t fits.shapes char h.good.shape (has_shape fits char h.good.shape (ap (slice_get fits.shapes) (sym h.sort) ∙ h.good.element)) (plain b.Character) refl in
        string_as a (OfOpened true q.levels q.number) (ap argument_of h.is ∙ of_opened_is (opening false) q.levels q.number) (ap (λ (o : Option Shape). Opened true (along (shape_by o))) h.good.at ∙ ap (Opened true) word)
        (opens_soundly fits q h.good) tt

    -- what is handed over for an open array of characters
    string_handed : (a : RArgument) → IsHanded t P.place P.array P.value (opened false char) a → IsString a
    string_handed a (inl h) = absurd (true≢false h.closed)
    string_handed a (inr (inl h)) = absurd (true≢false h.closed)
    string_handed a (inr (inr (inl h))) = absurd (true≢false h.closed)
    string_handed a (inr (inr (inr (inl h)))) = array_string a h
    string_handed a (inr (inr (inr (inr (inl h))))) = text_string a h
    string_handed a (inr (inr (inr (inr (inr (inl h)))))) = open_string a h
    string_handed a (inr (inr (inr (inr (inr (inr h)))))) = absurd (true≢false h.closed)

    module _ (x : Found) (h : IsFound P x) where
      pub string_there : IsTaken t (opened false char) x → (a : RArgument) × (argument_given t (opened false char) x ≡ Some a) × IsString a
      string_there taken = let a = open_argument P told x h char taken in (a.0, a.1, string_handed a.0 a.2)

      -- ---- values
      pub value_there : (s : ℕ) (k : RBase) → kind_at t s ≡ Some (plain k) → kinds.is_ordinal (base_view k) ≡ true → IsTaken t (value s) x
          → (y : RExpr) × (argument_given t (value s) x ≡ Some (given.Value (plain k) y)) × IsSoundValue ts (expression_of y) (base_view k)
      value_there s k at of taken =
          let y = there_is (Suits P (plain k) x.depth) (typed t s x) (stores_suits P (plain k) x.depth (typed t s x) of (assignable_stores P told s (plain k) x at h (both_right (not (is_open x.kind)) _ (is_so _ taken.value)) taken.inside)) in
          (y.0, ap (λ o. value_by t s o x) at ∙ ap (value_as (plain k)) y.1, suited (plain k) x.depth y.0 h.few y.2)

      -- one that may be stored where one of a kind is wanted
      pub stored_there : (s : ℕ) (j : RKind) → kind_at t s ≡ Some j → IsTaken t (value s) x → (y : RExpr) × (argument_given t (value s) x ≡ Some (given.Value j y)) × IsSoundStored ts (expression_of y) (kind_view j)
      stored_there s j at taken = let y = stored_given P told x h s j at taken in (y.0, y.1, stored_sound fits x.depth h.few j y.0 y.2)

      -- ---- places
      pub address_there : IsTaken t (place address) x → (q : RPlace) × (argument_given t (place address) x ≡ Some (given.Place q)) × IsSoundTarget ts (place_of q) (OfPointer Workspaces)
      address_there taken = let v = place_there P told x h address taken in (v.0.at.place, v.2, target_sound fits x v.0 (plain b.Address) (ap (kind_at t) (sym v.0.same ∙ v.1)))
