-- Calls of told arguments have values, and are sound statements.
use Rattle.std.proofs.Common.{◌≡◌, ℕ, suc, ◌+◌, ◌<◌, ◌≤◌, max, Bool, true, false, not, List, [], ◌∷◌, ◌++◌, append-nil, append_assoc, length, slice_get, Option, Some, None, if◌then◌else◌, refl, sym, ap, subst, ◌∙◌, arith, true≢false}
use Rattle.std.specs.Prelude.{◌==◌, ◌&&◌, ◌||◌, nat_lt, is_some}
use Rattle.std.proofs.lemmas.{Bool.{and_left, and_right, Decides.nat_tests}, List.length_push}
use Rattle.lil_base.specs.{Lists.joined, declared.fault.Place.Place}
use Rattle.lil_base.specs.declared.request.Request as requests
use Rattle.lil_base.specs.declared.request.Request.TheVariants as q
use Rattle.lil_types.specs.{Types.{Table, integer, cardinal, char, address}, declared.table.Parameter.Parameter}
use Rattle.lil_declared.specs.declared.{declared.RVar.RVar, standard.Resident.Resident}
use Rattle.lil_declared.specs.declared.standard.Resident.TheVariants as resident
use Rattle.lil_resolved.specs.{Bases.own_base, Kinds.{Word, Scope, parameters_of, procedure_by}, Resolved.kind_of, Sizes.depth, Sound.{request_parameters, parameter_of, parameters_given, IsServed, AreServed, IsSoundArgument, AreSoundArguments, IsSoundCallee, IsSoundStored}, Views.{argument_of, arguments_of, base_view, expression_of, by_value_is, invoke_is, invoke_value_is, allocate_is, request_is, call_is, call_value_is}}
use Rattle.lil_resolved.specs.declared.resolved.{Allocation.{Allocation, TheVariants.{Takes, GivesBack}}, RArgument.{RArgument, TheViews.{out-roll-RArgument}}, RBase.RBase, RExpr.RExpr, RKind.RKind, RNamed.RNamed, RPlace.RPlace, RStmt.RStmt}
use Rattle.lil_resolved.specs.declared.resolved.RArgument.TheOpen as layer
use Rattle.lil_resolved.specs.declared.resolved.RExpr.TheVariants as expr
use Rattle.lil_resolved.specs.declared.resolved.RArgument.TheVariants as given
use Rattle.lil_resolved.specs.declared.resolved.RBase.TheVariants as b
use Rattle.lil_resolved.specs.declared.resolved.RStmt.TheVariants as statement
use Rattle.lil_shapes.specs.{BaseLaws.same_sort, Bases.{plain, base_at, kind_at, composite_at}, ListLaws.AllFine}
use Rattle.lil_scope.specs.Built.{resident_built}
use Rattle.lil_report.specs.Told.{Row, after}
use Rattle.lil_scope.specs.declared.thing.Kind.TheVariants as kind
use Rattle.lil_kinds.specs.{Forms.{is_routine, arity, parameter, parameters, result}, declared.found.Found.Found}
use Rattle.lil_forms.specs.{Properties.{Property, Reach, AreHanded, value_kind}, Scopes.{Fits, both_left, both_right}, Soundness.{soundness, all_passed, callee_sound}, StatementSound.{StatementSound, made_sound}, Statements.{argument_given, nothing_handed, handed_over, request, place_of_layer, place_in, value_of_layer, value_in, allocated, allocation, called}, Values.{value_form, returned}}
use Rattle.lil_call.specs.{declared.{call.{Argument.Argument, Callee.Callee}, passing.Passed.Passed, routines.{Invoked.Invoked, Target.Target}}, Calls.{is_callable, heading_node, depth_node, is_resident, passed_if, routine_mean, own_value, invoked_value, value_by, call_found, routine_value, own_call, called_value, call_statement, routine_statement, no_call, of_procedure, of_variable, of_resident, value_of, statement_of, call_node, statement_node}}
use Rattle.lil_call.specs.declared.routines.Target.TheVariants as target
use Rattle.lil_call.specs.Procedures.{agrees}
use Rattle.lil_call.specs.Passing.{all_have_values, nothing_passed, raised, with_argument, argument_node, argument_by, argument_step, arguments_mean}
use Rattle.lil_call.specs.declared.call.Argument.TheVariants as argument
use Rattle.lil_call.specs.declared.call.Callee.TheVariants as callee
use Rattle.lil_right_type.specs.{Found.{GoesWith, IsFound, ParameterTold, ResultTold, HeadingTold, IsSigned, value, place, signature}, Parts.{IsRoutine, routine_is}, Right.{Right, IsThere, is_so, after_right}, Typed.{Yields, kept_if}, Types.{IsTold, PassedTold}, Words.AreMeasured}
use Rattle.lil_right_call.specs.{Functions.function_right, Given.{IsTaken, string_there, value_there, stored_there, address_there, argument_there, passed_lies}, Procedures.procedure_right, Told.{ArgumentTold, CalleeTold}}

-- ---- resident procedures
-- the parameters of one that is built are told
abbrev signed : Option (List Parameter) → List Parameter
signed None = []
signed (Some ps) = ps

resident_signed : (t : Table) (s : ℕ) (r : Resident) → resident_built r ≡ true → IsSigned t s (signature r) → (parameters t s ≡ signed (signature r)) × (result t s ≡ None)
resident_signed t s resident.Write is h = h
resident_signed t s resident.WriteString is h = h
resident_signed t s resident.WriteLn is h = h
resident_signed t s resident.WriteCard is h = h
resident_signed t s resident.WriteInt is h = h
resident_signed t s resident.WriteOct is h = h
resident_signed t s resident.WriteHex is h = h
resident_signed t s resident.Allocate is h = h
resident_signed t s resident.Deallocate is h = h
resident_signed t s _ is h = cc

module _ {t : Table} {vs : RNamed → Option RVar} {around : List ℕ} {R : Reach} (P : Property t vs around R) (told : IsTold t) where
  -- ---- arguments
  -- arguments that are handed over to parameters, one after another
  abbrev Hands : List Parameter → Option (List RArgument) → Option (List RArgument) → Type 0
  Hands [] h g = g ≡ h
  Hands (p ∷ ps) h g = (x : Found) × (given : IsFound P x) × (taken : IsTaken t p x) × Hands ps (handed_over t p h x) g

  -- a state whose parameter is the next of those that are left
  abbrev AreNext : ℕ → ℕ → List Parameter → Type 0
  AreNext sort n ps = (i : ℕ) → parameter t sort (n + i) ≡ slice_get ps i

  abbrev IsPassed : Bool → Parameter → Passed → Passed → Type 0
  IsPassed resident p s e = (x : Found) × (given : IsFound P x) × (taken : IsTaken t p x) × (e ≡ with_argument t resident p s x) × (e.is_right ≡ true)

  step_right : (resident : Bool) (sort : ℕ) (p : Parameter) (s : Passed) (x : Argument) → parameter t sort (length s.parameters) ≡ Some p → s.is_right ≡ true → ArgumentTold P x → Right (IsPassed resident p s) (argument_step t resident sort s x)
  unfolding argument_step argument_node
  step_right resident sort p s (argument.Value None) is so h = absurd h
  step_right resident sort p s (argument.Value (Some x)) is so h = subst (λ o. Right (IsPassed resident p s) (argument_by t resident o s x)) (sym is) (λ clear. (
    x,
    h,
    record { value = clear.0; place = clear.1.0; inside = clear.1.1.0 },
    refl,
    λ i. so i && (not (clear.0 i) && (not (clear.1.0 i) && not (clear.1.1.0 i))),
  ))
  step_right resident sort p s (argument.Type at n) is so h = λ clear. absurd (true≢false clear.0)

  abbrev AllPassed : List Parameter → Option (List RArgument) → Passed → Type 0
  AllPassed ps h e = (e.is_right ≡ true) × (1 ≤ e.depth) × Hands ps h e.handed

  arguments_right : (resident : Bool) (sort : ℕ) (ps : List Parameter) (s : Passed) (xs : List Argument) → AreNext sort (length s.parameters) ps → length ps ≡ length xs → s.is_right ≡ true → 1 ≤ s.depth → AllFine (ArgumentTold P) xs → Right (AllPassed ps s.handed) (arguments_mean t resident sort s xs)
  arguments_right resident sort [] s [] next count so some all = λ clear. (so, some, refl)
  arguments_right resident sort (p ∷ ps) s (x ∷ xs) next count so some all =
      after_right (IsPassed resident p s) (AllPassed (p ∷ ps) s.handed) (argument_step t resident sort s x) (λ e. arguments_mean t resident sort e xs) (step_right resident sort p s x (ap (parameter t sort) (omega arith) ∙ next 0) so all.0) (λ e g clear.
      let more : length e.parameters ≡ length s.parameters + 1 = ap (λ (e : Passed). length e.parameters) g.3 ∙ length_push s.parameters p in
      let depth : e.depth ≡ max s.depth (raised s.words g.0.depth) = ap (λ (e : Passed). e.depth) g.3 in
      let rest = arguments_right resident sort ps e xs (λ i. ap (parameter t sort) (omega (arith, more)) ∙ next (suc i)) (omega (arith, count)) g.4 (omega (arith, depth, some)) all.1 clear in
      (rest.0, rest.1, (g.0, g.1, g.2, subst (λ h. Hands ps h (arguments_mean t resident sort e xs).0.handed) (ap (λ (e : Passed). e.handed) g.3) rest.2)))
  arguments_right resident sort _ s _ next count so some all = absurd (omega (arith, count))

  -- a call that may be made, with what it is handed, and the depth of its code
  record IsReady (wanted : Bool) (sort : ℕ) (ps : List Parameter) (e : Passed) : Type 0 where
    callable : is_callable t wanted sort ≡ true
    hands : Hands ps nothing_handed e.handed
    some : 1 ≤ e.depth
    few : e.depth ≤ 12

  have_values : (xs : List Argument) → AllFine (ArgumentTold P) xs → all_have_values xs ≡ true
  have_values [] h = refl
  have_values (argument.Value (Some x) ∷ xs) h = have_values xs h.1
  have_values (argument.Type p (Some s) ∷ xs) h = have_values xs h.1
  have_values (_ ∷ xs) h = absurd h.0

  -- ---- calls of procedures
  module _ (p : Place) where
    heading_right : (wanted : Bool) (sort count : ℕ) → Right (λ c. (c ≡ true) × (is_callable t wanted sort ≡ true) × (arity t sort ≡ count)) (heading_node t p wanted sort count)
    unfolding heading_node
    heading_right wanted sort count clear =
        let callable = is_so (is_callable t wanted sort) clear.1.0 in
        let counted : (arity t sort == count) ≡ true = is_so _ (sym (ap (λ c. c && not (arity t sort == count)) (both_left (is_routine t sort) _ callable)) ∙ clear.0) in
        ((λ i. callable i && counted i), callable, same_sort (arity t sort) count counted)

    -- what is no procedure, or a function as a statement
    uncalled : {A : Type 0} (Q : A → Type 0) (wanted : Bool) (v : Invoked) (xs : List Argument) (f : Option Passed → A × List Row) → is_callable t wanted v.sort ≡ false → Right Q (after (routine_mean t p wanted v xs) f)
    uncalled Q wanted v xs f none =
        after_right (λ o. ⊥) Q _ f (after_right (λ c. ⊥) (λ o. ⊥) _ (passed_if t p v xs) (λ clear. true≢false (sym (heading_right wanted v.sort (length xs) clear).1 ∙ none)) (λ c h. absurd h)) (λ o h. absurd h)

    shallow : (n : ℕ) → nat_lt 12 n ≡ false → n ≤ 12
    shallow n h = grind (arith, nat_tests, h)

    passed_right : (wanted : Bool) (v : Invoked) (ps : List Parameter) (xs : List Argument) → parameters t v.sort ≡ ps → AllFine (ArgumentTold P) xs → Right (IsThere (IsReady wanted v.sort ps)) (routine_mean t p wanted v xs)
    unfolding parameter arity depth_node
    passed_right wanted v ps xs is all =
        after_right (λ c. (c ≡ true) × (is_callable t wanted v.sort ≡ true) × (arity t v.sort ≡ length xs)) (IsThere (IsReady wanted v.sort ps)) _ (passed_if t p v xs) (heading_right wanted v.sort (length xs)) (λ c h.
        subst (λ c. Right (IsThere (IsReady wanted v.sort ps)) (passed_if t p v xs c)) (sym h.0) (
        after_right (AllPassed ps nothing_handed) (IsThere (IsReady wanted v.sort ps)) _ (depth_node p)
        (arguments_right (is_resident v.target) v.sort ps (nothing_passed v.depth) xs (λ i. ap (slice_get (parameters t v.sort)) (omega arith) ∙ ap (λ ps. slice_get ps i) is) (sym (ap length is) ∙ h.2) refl (omega arith) all)
        (λ e g clear. kept_if (IsReady wanted v.sort ps) _ e (λ i. g.0 i && not (clear.0 i)) (record { callable = h.1; hands = g.2; some = g.1; few = shallow e.depth clear.0 }))))

  -- ---- calls of procedures of the text
  -- what is handed over to parameters, behind what was before
  record AreGiven (ps : List Parameter) (before : List RArgument) (h : Option (List RArgument)) : Type 0 where
    added : List RArgument
    is : h ≡ Some (before ++ added)
    handed : AreHanded t P.place P.array P.value ps added

  -- something lies in parameters for which something is handed over
  parameters_lie : (ps : List Parameter) (h g : Option (List RArgument)) → AllFine (PassedTold t) ps → Hands ps h g → AllFine (ParameterTold t) ps
  parameters_lie [] h g of all = tt
  parameters_lie (p ∷ ps) h g of all = (passed_lies P told all.0 all.1 p of.0 all.2, parameters_lie ps _ g of.1 all.3)

  handed_one : (p : Parameter) (before : List RArgument) (x : Found) (a : RArgument) → argument_given t p x ≡ Some a → handed_over t p (Some before) x ≡ Some (before ++ a ∷ [])
  unfolding handed_over
  handed_one p before x a is = ap (joined (Some before)) is

  given_there : AreMeasured t → (ps : List Parameter) (before : List RArgument) (h : Option (List RArgument)) → AllFine (ParameterTold t) ps → Hands ps (Some before) h → AreGiven ps before h
  given_there measured [] before h of all = record { added = []; is = all ∙ ap Some (sym (append-nil before)); handed = tt }
  given_there measured (p ∷ ps) before h of all =
      let a = argument_there P told all.0 all.1 measured p of.0 all.2 in
      let rest = given_there measured ps (before ++ a.0 ∷ []) h of.1 (subst (λ o. Hands ps o h) (handed_one p before all.0 a.0 a.1) all.3) in
      record { added = a.0 ∷ rest.added; is = rest.is ∙ ap Some (append_assoc before (a.0 ∷ []) rest.added); handed = (a.2, rest.handed) }

  -- what is called is no procedure, or it is the value of a procedure type
  called_or : (s d : ℕ) (o : Option RExpr) (Q : Option RExpr → Type 0) → CalleeTold P (callee.Variable s d o) → (is_routine t s ≡ false → Q o) → ((x : RExpr) → IsRoutine t s → Yields P (b.Procedure s) d x → Q (Some x)) → Q o
  called_or s d o Q h other called = by (is_routine t s) refl
    where
      valued : IsRoutine t s → (o : Option RExpr) → IsThere (Yields P (b.Procedure s) d) o → ((x : RExpr) → Yields P (b.Procedure s) d x → Q (Some x)) → Q o
      valued routine None h f = absurd h
      valued routine (Some x) h f = f x h

      by : (c : Bool) → is_routine t s ≡ c → Q o
      by false none = other none
      by true is = let routine = routine_is t told s is in valued routine o (h.1 (b.Procedure s) (ap (base_at t) routine.own ∙ routine.base)) (λ x y. called x routine y)

  both_bytes : (n levels : ℕ) → n < 255 → levels < 256 → (nat_lt n 255 && nat_lt levels 256) ≡ true
  both_bytes n levels low few = grind (arith, nat_tests, low, few)

  module _ (measured : AreMeasured t) (p : Place) where
    -- ---- functions
    -- what a call gives that has this value
    value_found : (of : Target) (r : ℕ) (k : RKind) (e : Passed) (y : RExpr) → kind_at t r ≡ Some k → value_by of (kind_at t r) e.handed ≡ Some y → value_kind y ≡ base_view k.base → depth (expression_of y) ≡ 1 → P.value y → 1 ≤ e.depth → e.depth ≤ 12
        → IsThere (IsFound P) (call_found t p of (Some r) (Some e))
    value_found of r k e y at its same deep good some few = record {
      kind = ap (λ o. is_some o || composite_at t r) at;
      form = subst (λ o. GoesWith P e.depth (kind.Of r) (value_form o)) (sym its) (record { as_kind = k; at = at; kind = same; deep = omega (arith, deep); good = good });
      place = tt;
      some = some;
      few = few;
    }

    -- one that may be called, if its type has a result
    function_called : (v : Invoked) (xs : List Argument) → ResultTold t (result t v.sort) → AllFine (ArgumentTold P) xs
        → ((r : ℕ) (k : RKind) (e : Passed) → result t v.sort ≡ Some r → kind_at t r ≡ Some k → IsReady true v.sort (parameters t v.sort) e → IsThere (IsFound P) (call_found t p v.target (Some r) (Some e)))
        → Right (IsThere (IsFound P)) (routine_value t p v xs)
    function_called v xs told_so all gives = by (result t v.sort) refl told_so
      where
        by : (o : Option ℕ) → result t v.sort ≡ o → ResultTold t o → Right (IsThere (IsFound P)) (routine_value t p v xs)
        by None none h = uncalled p (IsThere (IsFound P)) true v xs _ (and_right (is_routine t v.sort) _ (ap is_some none))
        by (Some r) returns h =
            after_right (IsThere (IsReady true v.sort (parameters t v.sort))) (IsThere (IsFound P)) (routine_mean t p true v xs) _ (passed_right p true v (parameters t v.sort) xs refl all) found
          where
            found : (o : Option Passed) → IsThere (IsReady true v.sort (parameters t v.sort)) o → Right (IsThere (IsFound P)) (call_found t p v.target (result t v.sort) o, [])
            found None j clear = absurd j
            found (Some e) j clear = subst (λ o. IsThere (IsFound P) (call_found t p v.target o (Some e))) (sym returns) (gives r h.0 e returns h.1 j)

    -- ---- functions of the text
    own_right : (s n levels : ℕ) (xs : List Argument) → HeadingTold t s → R s n levels → n < 255 → levels < 256 → AllFine (ArgumentTold P) xs → Right (IsThere (IsFound P)) (routine_value t p (of_procedure s n levels) xs)
    own_right s n levels xs told_so reached low few all = function_called (of_procedure s n levels) xs told_so.1 all (λ r k e returns at ready.
        let g = given_there measured (parameters t s) [] e.handed told_so.0 ready.hands in
        let its : own_value n levels (kind_at t r) e.handed ≡ Some (expr.Invoke (n + 1) levels k g.added) =
        (λ i. own_value n levels (at i) (g.is i)) ∙ ap (λ c. if c then Some (expr.Invoke (n + 1) levels k g.added) else None) (both_bytes n levels low few) in
        let is = invoke_is (n + 1) levels k g.added in
        value_found (target.Own n levels) r k e (expr.Invoke (n + 1) levels k g.added) at its (ap kind_of is ∙ own_base k) (ap depth is) (P.invoke s n levels r k g.added reached returns at g.handed) ready.some ready.few)

    -- ---- functions that are values
    value_invoked : (s d : ℕ) (x : RExpr) (xs : List Argument) → d ≤ 12 → IsRoutine t s → Yields P (b.Procedure s) d x → AllFine (ArgumentTold P) xs → Right (IsThere (IsFound P)) (routine_value t p (of_variable s d (Some x)) xs)
    value_invoked s d x xs shallow routine y all = function_called (of_variable s d (Some x)) xs routine.returned all (λ r k e returns at ready.
        let lie = parameters_lie (parameters t s) nothing_handed e.handed routine.passed ready.hands in
        let g = given_there measured (parameters t s) [] e.handed lie ready.hands in
        let is = invoke_value_is x k g.added in
        value_found (target.Value (Some x)) r k e (expr.InvokeValue x k g.added) at (λ i. invoked_value (Some x) (at i) (g.is i)) (ap kind_of is ∙ own_base k) (ap depth is)
        (P.invoke_value s r k x g.added routine.base lie returns at y.0 (omega (arith, shallow, y.1)) y.2 g.handed) ready.some ready.few)

    variable_invoked : (s d : ℕ) (o : Option RExpr) (xs : List Argument) → CalleeTold P (callee.Variable s d o) → AllFine (ArgumentTold P) xs → Right (IsThere (IsFound P)) (routine_value t p (of_variable s d o) xs)
    variable_invoked s d o xs h all = called_or s d o (λ o. Right (IsThere (IsFound P)) (routine_value t p (of_variable s d o) xs)) h
        (λ none. uncalled p (IsThere (IsFound P)) true (of_variable s d o) xs _ (and_left (is_routine t s) _ none))
        (λ x routine y. value_invoked s d x xs h.0 routine y all)

    -- ---- calls that have values
    value_right : (c : Callee) (xs : List Argument) → CalleeTold P c → AllFine (ArgumentTold P) xs → Right (IsThere (IsFound P)) (value_of t p c xs)
    unfolding no_call
    value_right (callee.Procedure s n levels) xs h all = own_right s n levels xs h.0 h.1 h.2 h.3 all
    value_right (callee.Variable s d o) xs h all = variable_invoked s d o xs h all
    value_right (callee.Resident r s) xs h all = uncalled p (IsThere (IsFound P)) true (of_resident r s) xs _ (and_right (is_routine t s) _ (ap is_some (resident_signed t s r h.1 h.0).1))
    value_right (callee.Standard of) xs h all = function_right P told p of xs all
    value_right callee.Other xs h all = λ clear. absurd (true≢false clear.0)

    pub call_node_right : (c : Option Callee) (xs : List Argument) → IsThere (CalleeTold P) c → AllFine (ArgumentTold P) xs → Right (IsThere (IsFound P)) (call_node t p c xs)
    unfolding call_node
    call_node_right None xs h all = absurd h
    call_node_right (Some c) xs h all = subst (λ b. Right (IsThere (IsFound P)) (if b then value_of t p c xs else (None, []))) (sym (have_values xs all)) (value_right c xs h all)

-- ---- calls that are statements
module _ {t : Table} {vs : RNamed → Option RVar} {around : List ℕ} {R : Reach} {ts : Scope} (fits : Fits t vs around R ts) (told : IsTold t) (measured : AreMeasured t) (looping : Bool) where
  abbrev P : Property t vs around R
  P = soundness fits

  abbrev IsDone : Option RStmt → Type 0
  IsDone o = IsThere (StatementSound ts looping) o

  -- arguments that are all there, of which a statement is made
  abbrev IsMade : (Option (List RArgument) → Option RStmt) → Option (List RArgument) → Type 0
  IsMade f h = (xs : List RArgument) × (h ≡ Some xs) × IsDone (f (Some xs))

  along : (f : Option (List RArgument) → Option RStmt) (h : Option (List RArgument)) → IsMade f h → IsDone (f h)
  along f h made = subst (λ h. IsDone (f h)) (sym made.1) made.2

  requested_there : (r : requests.Request) (xs : List RArgument) → request_parameters r ≡ parameters_given ts (arguments_of xs) → AreSoundArguments ts (arguments_of xs) → AreServed (arguments_of xs) → IsDone (request (Some r) xs)
  requested_there r xs same all served = made_sound ts looping _ _ (request_is r xs) ((record { takes = same; sound = all }, served))

  -- values for parameters of kinds
  value_sound : (k : RBase) (x : RExpr) → IsSoundStored ts (expression_of x) (base_view k) → (parameter_of ts (argument_of (given.Value (plain k) x)) ≡ Word (base_view k)) × IsSoundArgument ts (argument_of (given.Value (plain k) x)) × IsServed (argument_of (given.Value (plain k) x))
  value_sound k x h =
      let is = by_value_is (plain k) x in
      (ap (parameter_of ts) is, subst (IsSoundArgument ts) (sym is) (h.stores, h.whole.shallow, h.whole.sound), subst IsServed (sym is) tt)

  -- the number to be written, and its width
  number_given : (r : requests.Request) (s : ℕ) (k : RBase) → kind_at t s ≡ Some (plain k) → request_parameters r ≡ Word (base_view k) ∷ Word (base_view b.Cardinal) ∷ []
      → (h : Option (List RArgument)) → Hands P told (value s ∷ value cardinal ∷ []) nothing_handed h → (xs : List RArgument) × (h ≡ Some xs) × IsDone (request (Some r) xs)
  unfolding handed_over
  number_given r s k at same h all =
      let x = stored_there fits told all.0 all.1 s (plain k) at all.2 in
      let y = stored_there fits told all.3.0 all.3.1 cardinal (plain b.Cardinal) refl all.3.2 in
      let xs : List RArgument = given.Value (plain k) x.0 ∷ given.Value (plain b.Cardinal) y.0 ∷ [] in
      let v = value_sound k x.0 x.2 in
      let w = value_sound b.Cardinal y.0 y.2 in
      (xs, all.3.3 ∙ (λ i. joined (joined (Some []) (x.1 i)) (y.1 i)), requested_there r xs (same ∙ (λ i. sym v.0 i ∷ sym w.0 i ∷ [])) (v.1, (w.1, tt)) (v.2, (w.2, tt)))

  -- what an argument is
  its_place : (q : RPlace) → place_in (given.Place q) ≡ Some q
  its_place q = ap place_in (sym (given.rolls-Place q)) ∙ ap place_of_layer (out-roll-RArgument (layer.Place q))

  its_value : (j : RKind) (y : RExpr) → value_in (given.Value j y) ≡ Some y
  its_value j y = ap value_in (sym (given.rolls-Value j y)) ∙ ap value_of_layer (out-roll-RArgument (layer.Value j y))

  allocation_given : (way : Allocation) (h : Option (List RArgument)) → Hands P told (place address ∷ value cardinal ∷ []) nothing_handed h → (xs : List RArgument) × (h ≡ Some xs) × IsDone (allocation way xs)
  unfolding handed_over
  allocation_given way h all =
      let c = address_there fits told all.0 all.1 all.2 in
      let y = value_there fits told all.3.0 all.3.1 cardinal b.Cardinal refl refl all.3.2 in
      (given.Place c.0 ∷ given.Value (plain b.Cardinal) y.0 ∷ [], all.3.3 ∙ (λ i. joined (joined (Some []) (c.1 i)) (y.1 i)), subst IsDone (sym ((λ i. allocated way (its_place c.0 i) (its_value (plain b.Cardinal) y.0 i)))) (made_sound ts looping _ _ (allocate_is way c.0 y.0) (c.2, y.2)))

  resident_called : (r : Resident) (h : Option (List RArgument)) → resident_built r ≡ true → Hands P told (signed (signature r)) nothing_handed h → IsDone (called r h)
  unfolding called handed_over
  resident_called resident.Write h is all =
      let x = stored_there fits told all.0 all.1 char (plain b.Character) refl all.2 in
      let xs : List RArgument = given.Value (plain b.Character) x.0 ∷ [] in
      let v = value_sound b.Character x.0 x.2 in
      along (called resident.Write) h (xs, all.3 ∙ ap (joined (Some [])) x.1, requested_there q.Write xs (λ i. sym v.0 i ∷ []) (v.1, tt) (v.2, tt))
  resident_called resident.WriteString h is all =
      let x = string_there fits told all.0 all.1 all.2 in
      along (called resident.WriteString) h (x.0 ∷ [], all.3 ∙ ap (joined (Some [])) x.1, requested_there q.WriteString (x.0 ∷ []) (λ i. sym x.2.0 i ∷ []) (x.2.1, tt) (x.2.2, tt))
  resident_called resident.WriteLn h is all = along (called resident.WriteLn) h ([], all, requested_there q.WriteLn [] refl tt tt)
  resident_called resident.WriteCard h is all = along (called resident.WriteCard) h (number_given q.WriteCard cardinal b.Cardinal refl refl h all)
  resident_called resident.WriteInt h is all = along (called resident.WriteInt) h (number_given q.WriteInt integer b.Integer refl refl h all)
  resident_called resident.WriteOct h is all = along (called resident.WriteOct) h (number_given q.WriteOct cardinal b.Cardinal refl refl h all)
  resident_called resident.WriteHex h is all = along (called resident.WriteHex) h (number_given q.WriteHex cardinal b.Cardinal refl refl h all)
  resident_called resident.Allocate h is all = along (called resident.Allocate) h (allocation_given Takes h all)
  resident_called resident.Deallocate h is all = along (called resident.Deallocate) h (allocation_given GivesBack h all)
  resident_called _ h is all = cc

  -- ---- calls of proper procedures of the text
  no_result : (o : Option ℕ) → agrees false (is_some o) ≡ true → o ≡ None
  no_result None h = refl
  no_result (Some r) h = absurd (true≢false (sym h))

  own_called : (s n levels : ℕ) (e : Passed) → AllFine (ParameterTold t) (parameters t s) → R s n levels → n < 255 → levels < 256 → IsReady P told false s (parameters t s) e → IsDone (own_call n levels e.handed)
  own_called s n levels e of reached low few ready =
      let g = given_there P told measured (parameters t s) [] e.handed of ready.hands in
      let c = fits.calls s n levels reached in
      let all = all_passed fits (parameters t s) g.added (parameters_of (procedure_by ts.procedures (n + 1))) (c.takes fits.shapes fits.types) g.handed in
      let none = no_result (result t s) (both_right (is_routine t s) _ ready.callable) in
      along (own_call n levels) e.handed (
        g.added,
        g.is,
        subst (λ c. IsDone (if c then Some (statement.Call (n + 1) levels g.added) else None)) (sym (both_bytes P told n levels low few))
            (made_sound ts looping _ _ (call_is (n + 1) levels g.added) (c.may, c.returns ∙ ap (returned t) none, record { takes = all.takes; sound = all.sound })),
      )

  -- ---- calls of proper procedures that are values
  value_called : (s d : ℕ) (x : RExpr) (e : Passed) → d ≤ 12 → IsRoutine t s → Yields P (b.Procedure s) d x → IsReady P told false s (parameters t s) e → IsDone (called_value (Some x) e.handed)
  value_called s d x e shallow routine y ready =
      let lie = parameters_lie P told (parameters t s) nothing_handed e.handed routine.passed ready.hands in
      let g = given_there P told measured (parameters t s) [] e.handed lie ready.hands in
      let c = callee_sound fits s x g.added routine.base lie y.0 (omega (arith, shallow, y.1)) g.handed in
      let none = no_result (result t s) (both_right (is_routine t s) _ ready.callable) in
      along (called_value (Some x)) e.handed (g.added, g.is, made_sound ts looping _ _ (call_value_is x g.added) (subst (λ r. IsSoundCallee ts (expression_of x) (parameters_given ts (arguments_of g.added)) (returned t r)) none c.0, y.2, c.1))

  variable_called : (p : Place) (s d : ℕ) (o : Option RExpr) (xs : List Argument) → CalleeTold P (callee.Variable s d o) → AllFine (ArgumentTold P) xs → Right (IsThere (StatementSound ts looping)) (routine_statement t p (of_variable s d o) xs)
  variable_called p s d o xs h all = called_or P told s d o (λ o. Right (IsThere (StatementSound ts looping)) (routine_statement t p (of_variable s d o) xs)) h
      (λ none. uncalled P told p IsDone false (of_variable s d o) xs _ (and_left (is_routine t s) _ none))
      (λ x routine y. after_right (IsThere (IsReady P told false s (parameters t s))) IsDone (routine_mean t p false (of_variable s d (Some x)) xs) _ (passed_right P told p false (of_variable s d (Some x)) (parameters t s) xs refl all) (by x routine y))
    where
      by : (x : RExpr) → IsRoutine t s → Yields P (b.Procedure s) d x → (o : Option Passed) → IsThere (IsReady P told false s (parameters t s)) o → Right IsDone (call_statement (of_variable s d (Some x)) o, [])
      by x routine y None j = absurd j
      by x routine y (Some e) j = λ clear. value_called s d x e h.0 routine y j

  statement_right : (p : Place) (c : Callee) (xs : List Argument) → CalleeTold P c → AllFine (ArgumentTold P) xs → Right (IsThere (StatementSound ts looping)) (statement_of t p c xs)
  unfolding no_call
  statement_right p (callee.Procedure s n levels) xs h all =
      after_right (IsThere (IsReady P told false s (parameters t s))) IsDone (routine_mean t p false (of_procedure s n levels) xs) _ (passed_right P told p false (of_procedure s n levels) (parameters t s) xs refl all) by
    where
      by : (o : Option Passed) → IsThere (IsReady P told false s (parameters t s)) o → Right IsDone (call_statement (of_procedure s n levels) o, [])
      by None j = absurd j
      by (Some e) j = λ clear. own_called s n levels e h.0.0 h.1 h.2 h.3 j
  statement_right p (callee.Variable s d o) xs h all = variable_called p s d o xs h all
  statement_right p (callee.Resident r s) xs h all =
      after_right (IsThere (IsReady P told false s (signed (signature r)))) IsDone (routine_mean t p false (of_resident r s) xs) _ (passed_right P told p false (of_resident r s) (signed (signature r)) xs (resident_signed t s r h.1 h.0).0 all) by
    where
      by : (o : Option Passed) → IsThere (IsReady P told false s (signed (signature r))) o → Right IsDone (call_statement (of_resident r s) o, [])
      by None j = absurd j
      by (Some e) j = λ clear. resident_called r e.handed h.1 j.hands
  statement_right p (callee.Standard of) xs h all = procedure_right fits told looping p of xs all
  statement_right p callee.Other xs h all = λ clear. absurd (true≢false clear.0)

  pub statement_node_right : (p : Place) (c : Option Callee) (xs : List Argument) → IsThere (CalleeTold P) c → AllFine (ArgumentTold P) xs → Right (IsThere (StatementSound ts looping)) (statement_node t p c xs)
  unfolding statement_node
  statement_node_right p None xs h all = absurd h
  statement_node_right p (Some c) xs h all = subst (λ b. Right IsDone (if b then statement_of t p c xs else (None, []))) (sym (have_values P told xs all)) (statement_right p c xs h all)
