-- Standard procedures of told arguments: they are sound statements.
use Rattle.std.proofs.Common.{◌≡◌, ℕ, suc, ◌≤◌, Bool, true, false, not, List, [], ◌∷◌, length, Option, Some, None, IfSome, if◌then◌else◌, refl, sym, ap, subst, ◌∙◌, arith, true≢false, inl, inr}
use Rattle.std.specs.Prelude.{pos, ◌==◌, ◌&&◌, ◌||◌, max, is_none}
use Rattle.std.proofs.lemmas.{Option.same_Some, Bool.{not-true, or_parts, Decides.nat_tests}}
use Rattle.lil_base.specs.declared.fault.Place.{Place}
use Rattle.lil_types.specs.{Types.{Table, integer, cardinal, base}, declared.table.Span.Span}
use Rattle.lil_declared.specs.declared.{declared.RVar.RVar, standard.Standard.Standard}
use Rattle.lil_declared.specs.declared.standard.Standard.TheVariants as standard
use Rattle.lil_report.specs.Told.{Row}
use Rattle.lil_resolved.specs.Kinds as kinds
use Rattle.lil_resolved.specs.{Bases.own_base, Kinds.{OfWhole, Scope, compared_as, is_pointer, is_procedure, is_there, shape_at, stores_value}, Resolved.shape_of, Views.{base_view, place_of, assign_is, change_is, member_changed_is, new_is, halt_is}}
use Rattle.lil_resolved.specs.declared.resolved.{Direction.{Direction, TheVariants.{Up, Down}}, Membership.{Membership, TheVariants.{Joins, Leaves}}, RBase.RBase, RExpr.RExpr, RNamed.RNamed, RStmt.RStmt}
use Rattle.lil_resolved.specs.declared.resolved.RBase.TheVariants as b
use Rattle.lil_resolved.specs.declared.resolved.RStmt.TheVariants as s
use Rattle.lil_shapes.specs.{BaseLaws.same_sort, Bases.{plain, base_at}, ListLaws.AllFine, Operators.{counted, counted_base, has_number}, Pointers.{target_of, target_with}, TargetSound.{PointsTo, all_known, target_known}, declared.{members.Members.Members, pointers.Target.Target}}
use Rattle.lil_scope.specs.declared.thing.Kind.{Kind}
use Rattle.lil_scope.specs.declared.thing.Kind.TheVariants as k
use Rattle.lil_kinds.specs.{Forms.{span_of, target}, Kinds.{is_ordinal, suits, compatible}, declared.found.Found.Found}
use Rattle.lil_forms.specs.{Properties.{Property, Reach}, Scopes.Fits, Soundness.soundness, StatementSound.{StatementSound, made_sound}, Values.{constant, routine_in, typed, typed_by}}
use Rattle.lil_forms.specs.Places.{located_in}
use Rattle.lil_forms.specs.Statements.{changed_by, changed_with, changed, changed_at, changed_by_one, turned_by, turned_in, turned_at, turned, created_as, created_at, created, disposed_at, disposed}
use Rattle.lil_call.specs.{declared.call.Argument.Argument, Passing.is_variable}
use Rattle.lil_call.specs.Procedures.{is_function, takes_count, standard_node, no_value, base_of_set, is_of_wrong_type, is_no_pointer, variable_node, counted_in, is_no_element, is_wrong_operand, operand_node, deep_node, done_if, variable_statement, operand_statement, no_argument, with_variable, with_operand, by_one, by_two, by_all, procedure_if, procedure_mean}
use Rattle.lil_call.specs.declared.call.Argument.TheVariants as argument
use Rattle.lil_right_type.specs.{Found.IsFound, Parts.{IsPointer, IsSet, base_itself, never_opaque, target_is, set_is}, Right.{Right, IsThere, is_so, after_right}, Typed.{Yields, Suits, constant_yields, suits_yields, yields_suits}, Types.{IsTold, IsOrdinal, ordinal_is}}
use Rattle.lil_right_call.specs.{Functions.{whole_at, some_there, same_again, IsCalled, standard_right}, Given.{there_is, alone, suited}, Places.{IsVariable, variable_is, cell_of, cell_is, target_sound}, Told.ArgumentTold}

-- where a test finds no lack, something is there
some_of : {A : Type 0} (o : Option A) (c : Bool) → (is_none o && not c) ≡ false → c ≡ false → (a : A) × (o ≡ Some a)
some_of None c h none = absurd (true≢false (sym (λ i. not (none i)) ∙ h))
some_of (Some a) c h none = (a, refl)

-- ---- the numbers that INC and DEC compute with
-- their type has a base, which is that of the variable's words, and 1 is one of them
counts : (t : Table) (k : RBase) → (base_at t (base t (counted k)) ≡ Some (counted_base k)) × (base_view (counted_base k) ≡ OfWhole (compared_as (base_view k))) × (has_number (counted_base k) (pos 1) ≡ true)
counts t b.Integer = (refl, refl, refl)
counts t _ = (refl, refl, refl)

counted_is : (t : Table) (n : ℕ) (k : RBase) → base_at t n ≡ Some k → counted k ≡ (if n == integer then integer else cardinal)
counted_is t n k is = by (n == integer) refl k is
  where
    by : (c : Bool) → (n == integer) ≡ c → (k : RBase) → base_at t n ≡ Some k → counted k ≡ (if c then integer else cardinal)
    by true e k is = ap counted (sym (same_Some b.Integer k (ap (base_at t) (sym (same_sort n integer e)) ∙ is)))
    by false e b.Integer is = absurd (grind (arith, nat_tests, e, whole_at t n b.Integer is refl))
    by false e _ is = refl

-- they are no pointers and no procedures
no_reference : (k : kinds.Kind) → kinds.is_ordinal k ≡ true → not (is_pointer k || is_procedure k) ≡ true
no_reference (kinds.OfPointer to) h = h
no_reference (kinds.OfProcedure n) h = h
no_reference _ h = refl

-- a value of a base is one of a type with this base
typed_base : (t : Table) (n : ℕ) (a : Found) → base t (base t n) ≡ base t n → typed t (base t n) a ≡ typed t n a
unfolding typed
typed_base t n a own = by a.kind
  where
    by : (c : Kind) → typed_by t (base t n) c a.form ≡ typed_by t n c a.form
    by (k.Whole z) = ap (λ m. constant (base_at t m) z) own
    by k.Nil = ap (λ m. constant (base_at t m) (pos 0)) own
    by (k.Routine r) = ap (λ m. routine_in m a.form) own
    by _ = refl

-- what the tests of a variable, of the operand beside it, and of their number leave
record Changes (t : Table) (of : Standard) (x : Found) (c : Bool) : Type 0 where
  so : c ≡ true
  type : is_of_wrong_type t of x.kind ≡ false
  variable : is_variable x.standing ≡ true
  pointer : is_no_pointer t of x.kind ≡ false

abbrev Takes : Table → Standard → Kind → Found → Bool → Type 0
Takes t of v y c = (c ≡ true) × (is_wrong_operand t of v y.kind ≡ false)

module _ {t : Table} {vs : RNamed → Option RVar} {around : List ℕ} {R : Reach} {ts : Scope} (fits : Fits t vs around R ts) (told : IsTold t) (looping : Bool) where
  abbrev P : Property t vs around R
  P = soundness fits

  abbrev IsDone : Option RStmt → Type 0
  IsDone o = IsThere (StatementSound ts looping) o

  -- ---- a variable
  module _ (x : Found) (v : IsVariable P x) where
    -- one that is compared by its number
    counter : is_ordinal t x.kind ≡ true → (u : Span) × IsOrdinal t v.sort u
    unfolding is_ordinal
    counter h = let u = some_there (span_of t v.sort) (sym (ap (is_ordinal t) v.kind) ∙ h) in (u.0, ordinal_is t told v.sort u.0 u.1)

    change_sound : (way : Direction) (u : Span) (o : IsOrdinal t v.sort u) (d : ℕ) (z : RExpr) → d ≤ 12 → Yields P (counted_base o.kind.base) d z → StatementSound ts looping (s.Change way v.at.place o.kind z)
    change_sound way u o d z few h = made_sound ts looping _ _ (change_is way v.at.place o.kind z) (
      target_sound fits x v o.kind o.at,
      ap (λ k. not (is_pointer k || is_procedure k)) (own_base o.kind) ∙ no_reference (base_view o.kind.base) o.ordinal,
      alone fits _ d z few (h.0 ∙ (counts t o.kind.base).1 ∙ ap (λ k. OfWhole (compared_as k)) (sym (own_base o.kind))) h.1 h.2,
    )

    changed_by_one_done : (way : Direction) → is_ordinal t x.kind ≡ true → IsDone (changed_by_one t way (located_in x.form))
    unfolding changed_by_one
    changed_by_one_done way h =
        let o = counter h in
        subst (λ c. IsDone (changed_at way c)) (sym (cell_is P x v o.1.kind o.1.at))
        (change_sound way o.0 o.1 12 _ (omega arith) (constant_yields P (counted_base o.1.kind.base) (pos 1) 12 (counts t o.1.kind.base).2))

    changed_done : (way : Direction) (y : Found) → IsFound P y → is_ordinal t x.kind ≡ true → compatible t (k.Of (counted_in t x.kind)) y.kind ≡ true → IsDone (changed t way (located_in x.form) y)
    unfolding changed compatible
    changed_done way y j h so =
        let o = counter h in
        let n = counted o.1.kind.base in
        let g = counted_base o.1.kind.base in
        let type : counted_in t x.kind ≡ n = ap (counted_in t) v.kind ∙ sym (counted_is t (base t v.sort) o.1.kind.base o.1.base) in
        let z = there_is (Yields P g y.depth) (typed t n y) (suits_yields P told n g y (counts t o.1.kind.base).0 j (subst (λ n. suits t n y.kind ≡ true) type so)) in
        subst IsDone (sym (ap (λ c. changed_with t way c y) (cell_is P x v o.1.kind o.1.at) ∙ ap (changed_by way (cell_of P x v o.1.kind)) z.1)) (change_sound way o.0 o.1 y.depth z.0 j.few z.2)

    turned_done : (way : Membership) (y : Found) → IsFound P y → is_none (base_of_set t x.kind) ≡ false → is_no_element t (base_of_set t x.kind) y.kind ≡ false → IsDone (turned t way (located_in x.form) y)
    unfolding turned compatible
    turned_done way y j some fit =
        let m = some_of (base_of_set t x.kind) false (λ i. some i && true) refl in
        by m.0 (set_is t told v.sort m.0 (sym (ap (base_of_set t) v.kind) ∙ m.1)) (is_so _ (sym (ap (λ o. is_no_element t o y.kind) m.1) ∙ fit))
      where
        by : (m : ℕ) → IsSet t v.sort m → suits t m y.kind ≡ true → IsDone (turned t way (located_in x.form) y)
        by m set so =
            let ms : Members = set.members in
            let yields : IsThere (Yields P ms.kind.base y.depth) (typed t ms.sort y) =
            subst (IsThere (Yields P ms.kind.base y.depth)) (sym (ap (λ n. typed t n y) set.sort ∙ typed_base t m y (base_itself t told (base t m) ms.kind.base set.base).0)) (suits_yields P told m ms.kind.base y set.base j so) in
            let z = there_is (Suits P ms.kind y.depth) (typed t ms.sort y) (yields_suits P ms.kind y.depth (typed t ms.sort y) set.ordinal yields) in
            subst IsDone (sym (ap (λ c. turned_at t way c y) (cell_is P x v (plain b.Set) set.kind) ∙ ap (λ o. turned_in t way o (cell_of P x v (plain b.Set)) y) set.at ∙ ap (turned_by way ms (cell_of P x v (plain b.Set))) z.1))
            (made_sound ts looping _ _ (member_changed_is way v.at.place ms.kind z.0) (target_sound fits x v (plain b.Set) set.kind, set.element, suited fits ms.kind y.depth z.0 j.few z.2))

    -- a pointer
    pointer : is_no_pointer t standard.New x.kind ≡ false → (m : ℕ) × IsPointer t v.sort m
    pointer h = let m = some_of (target t v.sort) _ (sym (ap (is_no_pointer t standard.New) v.kind) ∙ h) (never_opaque t told v.sort) in (m.0, target_is t told v.sort m.0 m.1)

    created_done : (m : ℕ) → IsPointer t v.sort m → IsDone (created t (located_in x.form))
    unfolding created
    created_done m p =
        let cell = target_sound fits x v (plain (b.Pointer v.sort)) p.kind in
        let to : Target = record { pointer = v.sort; sort = m } in
        let at : target_of t (base_view (b.Pointer v.sort)) ≡ Some to = ap (target_with t v.sort) p.pointed ∙ ap (λ l. if l then Some to else None) p.target in
        let lies : PointsTo t fits.shapes (shape_of ts (place_of v.at.place)) to =
        subst (λ o. IfSome o (PointsTo t fits.shapes (shape_of ts (place_of v.at.place)))) at (target_known t fits.shapes (all_known t fits.shapes fits.types) (base_view (b.Pointer v.sort)) _ cell.scalar.shape) in
        subst IsDone (sym (ap (created_at t) (cell_is P x v (plain (b.Pointer v.sort)) p.kind) ∙ ap (created_as (cell_of P x v (plain (b.Pointer v.sort)))) at))
        (made_sound ts looping _ _ (new_is v.at.place v.sort) (record { shape = lies.word; there = ap (λ ts. is_there (shape_at ts v.sort)) fits.targets ∙ lies.there; place = cell.place; shallow = cell.shallow }))

    disposed_done : (m : ℕ) → IsPointer t v.sort m → IsDone (disposed t (located_in x.form))
    unfolding disposed
    disposed_done m p =
        let j = b.Pointer v.sort in
        let nil = constant_yields P j (pos 0) 12 refl in
        subst (λ c. IsDone (disposed_at c)) (sym (cell_is P x v (plain j) p.kind)) (made_sound ts looping _ _ (assign_is v.at.place (plain j) _) (
          target_sound fits x v (plain j) p.kind,
          record { stores = ap (stores_value (base_view j)) nil.0 ∙ (λ i. same_again v.sort i || false); whole = alone fits _ 12 _ (omega arith) refl nil.1 nil.2 },
        ))

  -- ---- calls
  abbrev IsRight : Option RStmt × List Row → Type 0
  IsRight m = Right (IsThere (StatementSound ts looping)) m

  done : (c : Bool) (o : Option RStmt) → c ≡ true → IsDone o → IsDone (done_if c o)
  done c o is h = subst (λ c. IsDone (done_if c o)) (sym is) h

  deep_right : (p : Place) (n : ℕ) → Right (λ c. c ≡ true) (deep_node p n)
  unfolding deep_node
  deep_right p n clear = λ i. not (clear.0 i)

  variable_right : (of : Standard) (x : Found) → Right (Changes t of x) (variable_node t of x)
  unfolding variable_node
  variable_right of x clear =
      let variable = is_so (is_variable x.standing) clear.1.0 in
      record { so = λ i. not (clear.0 i) && (variable i && (not (clear.1.1.0 i) && not (clear.1.1.1.0 i))); type = clear.0; variable = variable; pointer = clear.1.1.0 }

  operand_right : (of : Standard) (v : Kind) (y : Found) → Right (Takes t of v y) (operand_node t of v y)
  unfolding operand_node
  operand_right of v y clear = (λ i. not (clear.0 i) && not (clear.1.0 i), clear.0)

  -- the tests leave no open array
  variable_of : (of : Standard) (x : Found) (n : ℕ) (c : Bool) → is_function of ≡ false → takes_count of (suc n) ≡ true → IsFound P x → Changes t of x c → IsVariable P x
  unfolding is_ordinal
  variable_of of x n c no_function count h changes = elim (variable_is P x h changes.variable) [
    | inl v ↦ v
    | inr o ↦ absurd (refused of o.sort no_function count (sym (ap (is_of_wrong_type t of) o.kind) ∙ changes.type) (sym (ap (is_no_pointer t of) o.kind) ∙ changes.pointer))
  ]
    where
      refused : (of : Standard) (s : ℕ) → is_function of ≡ false → takes_count of (suc n) ≡ true → is_of_wrong_type t of (k.Open s) ≡ false → is_no_pointer t of (k.Open s) ≡ false → ⊥
      refused standard.Inc s no_function count type pointer = true≢false type
      refused standard.Dec s no_function count type pointer = true≢false type
      refused standard.Incl s no_function count type pointer = true≢false type
      refused standard.Excl s no_function count type pointer = true≢false type
      refused standard.New s no_function count type pointer = true≢false pointer
      refused standard.Dispose s no_function count type pointer = true≢false pointer
      refused _ s no_function count type pointer = grind (arith, nat_tests, no_function, count)

  variable_done : (of : Standard) (x : Found) (c : Bool) → is_function of ≡ false → takes_count of 1 ≡ true → IsVariable P x → Changes t of x c → IsDone (variable_statement t of (located_in x.form))
  variable_done standard.Inc x c no_function count v h = changed_by_one_done x v Up (is_so _ (or_parts _ false h.type).0)
  variable_done standard.Dec x c no_function count v h = changed_by_one_done x v Down (is_so _ (or_parts _ false h.type).0)
  variable_done standard.New x c no_function count v h = let p = pointer x v h.pointer in created_done x v p.0 p.1
  variable_done standard.Dispose x c no_function count v h = let p = pointer x v h.pointer in disposed_done x v p.0 p.1
  variable_done _ x c no_function count v h = cc

  operand_done : (of : Standard) (x y : Found) (n : ℕ) (c d : Bool) → is_function of ≡ false → takes_count of (suc (suc n)) ≡ true → IsVariable P x → IsFound P y → Changes t of x c → Takes t of x.kind y d → IsDone (operand_statement t of (located_in x.form) y)
  operand_done standard.Inc x y n c d no_function count v j h g = changed_done x v Up y j (is_so _ (or_parts _ false h.type).0) (is_so _ (or_parts _ false g.1).0)
  operand_done standard.Dec x y n c d no_function count v j h g = changed_done x v Down y j (is_so _ (or_parts _ false h.type).0) (is_so _ (or_parts _ false g.1).0)
  operand_done standard.Incl x y n c d no_function count v j h g = turned_done x v Joins y j h.type g.1
  operand_done standard.Excl x y n c d no_function count v j h g = turned_done x v Leaves y j h.type g.1
  operand_done _ x y n c d no_function count v j h g = absurd (grind (arith, nat_tests, no_function, count))

  module _ (p : Place) (of : Standard) (no_function : is_function of ≡ false) where
    with_variable_right : (x : Found) → takes_count of 1 ≡ true → IsFound P x → IsRight (with_variable t p of x)
    with_variable_right x count h =
        after_right (Changes t of x) IsDone (variable_node t of x) _ (variable_right of x) (λ a i.
        after_right (λ c. c ≡ true) IsDone (deep_node p x.depth) _ (deep_right p x.depth) (λ b j clear.
        done (a && b) _ (λ n. i.so n && j n) (variable_done of x a no_function count (variable_of of x 0 a no_function count h i) i)))

    with_operand_right : (x y : Found) (n : ℕ) → takes_count of (suc (suc n)) ≡ true → IsFound P x → IsFound P y → IsRight (with_operand t p of x y)
    with_operand_right x y n count h g =
        after_right (Changes t of x) IsDone (variable_node t of x) _ (variable_right of x) (λ a i.
        after_right (Takes t of x.kind y) IsDone (operand_node t of x.kind y) _ (operand_right of x.kind y) (λ b j.
        after_right (λ c. c ≡ true) IsDone (deep_node p (max x.depth y.depth)) _ (deep_right p (max x.depth y.depth)) (λ c l clear.
        done (a && (b && c)) _ (λ n. i.so n && (j.0 n && l n)) (operand_done of x y n a b no_function count (variable_of of x (suc n) a no_function count h i) g i j))))

    by_one_right : (a : Argument) → takes_count of 1 ≡ true → ArgumentTold P a → IsRight (by_one t p of a)
    unfolding no_value
    by_one_right (argument.Value None) count h = absurd h
    by_one_right (argument.Value (Some x)) count h = with_variable_right x count h
    by_one_right (argument.Type at n) count h = λ clear. absurd (true≢false clear.0)

    by_two_right : (a c : Argument) (n : ℕ) → takes_count of (suc (suc n)) ≡ true → ArgumentTold P a → ArgumentTold P c → IsRight (by_two t p of a c)
    unfolding no_value
    by_two_right (argument.Value None) c n count h j = absurd h
    by_two_right (argument.Value (Some x)) (argument.Value None) n count h j = absurd j
    by_two_right (argument.Value (Some x)) (argument.Value (Some y)) n count h j = with_operand_right x y n count h j
    by_two_right (argument.Value (Some x)) (argument.Type at m) n count h j = λ clear. absurd (true≢false clear.0)
    by_two_right (argument.Type at m) c n count h j = λ clear. absurd (true≢false clear.0)

    by_all_right : (xs : List Argument) → takes_count of (length xs) ≡ true → AllFine (ArgumentTold P) xs → IsRight (by_all t p of xs)
    by_all_right [] count h = λ clear. halted of no_function count
      where
        halted : (of : Standard) → is_function of ≡ false → takes_count of 0 ≡ true → IsDone (no_argument of)
        halted standard.Halt h j = made_sound ts looping _ _ halt_is tt
        halted _ h j = cc
    by_all_right (x ∷ []) count h = by_one_right x count h.0
    by_all_right (x ∷ y ∷ ys) count h = by_two_right x y (length ys) count h.0 h.1.0

  pub procedure_right : (p : Place) (of : Standard) (xs : List Argument) → AllFine (ArgumentTold P) xs → IsRight (procedure_mean t p of xs)
  procedure_right p of xs h =
      after_right (IsCalled false of xs) IsDone (standard_node p false of (length xs)) (procedure_if t p of xs) (standard_right p false of xs) (λ c j.
      subst (λ c. IsRight (procedure_if t p of xs c)) (sym j.0) (by_all_right p of (not-true (is_function of) j.2) xs j.1 h))
