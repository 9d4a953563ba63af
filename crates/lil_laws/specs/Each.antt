-- One step of the source, from any matched state.
use Rattle.std.proofs.Common.{◌≡◌, ℕ, ◌+◌, true, false, List, [], ◌∷◌, refl, sym, ◌⊎◌, ⊎_elim, arith}
use Rattle.std.specs.Prelude.{ℤ}
use Rattle.lil_resolved.specs.{Kinds.{Kind, Scalar, within}, Resolved.{Named, Designator, Variable, Handed, Along, Held, Field, Element, Follow, Expression, Constant, Taken, One, Two, Short, Apply, With, WithSpan, Invoke, High, Routine, InvokeValue, Assign, Copy, Text, Inside, Change, Member, New, Allocate, Request, If, Case, While, Repeat, Loop, Exit, Halt, Return, Answer, Call, CallValue, For, Statements, Arguments, NoMore, Also}}
use Rattle.lil_meaning.specs.Items.{Place, Scalars, Places, Wholes, Opens, Texts, Hole, Get, Part, IndexBy, IndexAt, AlongAt, Pointed, SetTo, StoreAt, CopyTo, CopyFrom, TextTo, NewAt, AllocateBy, AllocateAt, ChangeBy, ChangeAt, OneOf, LeftOf, RightOf, ShortOf, ApplyTo, WithMember, MemberOf, WithMembers, MembersFrom, MembersTo, MemberBy, MemberAt, Requested, Called, Datum, Calling, Callee, Spelling, Pass, PassPlace, PassAll, Returning, PassArray, Choose, Turn, Again, Pick, Hold, StartOf, LimitOf, Task, Do, Passing, Until, Looping, Turns, Holding, End, Item, Value, Evaluate, PlaceOf, Fill, Perform, Source}
use Rattle.lil_mcode.specs.Table.{State, going}
use Rattle.lil_match.specs.{Homes.{word_for, Refers}, Goes.{Shared, Goes}, Waits.{Setting, frame_of, Mode, Quiet, ValueOf, AtPlace, Around, Reach, AfterJumps, BeginWaits, NextWaits, ItemWaits, PendingWaits, SpellingWaits, RowsOf, Rows, Ahead, Designates, Waiting}, Steps.jumped}
use Rattle.lil_laws_place.specs.{Elements.{variable_goes, handed_goes, held_goes, field_goes, element_goes, follow_goes, pointed_goes, part_goes, index_by_goes, index_at_goes}, Opens.{along_goes, along_at_goes, high_goes}}
use Rattle.lil_laws_expr.specs.{Expressions.{constant_goes, routine_goes, taken_goes, one_goes, two_goes, short_begins, apply_goes, get_goes, one_of_goes, left_goes, right_goes, short_of_goes, apply_of_goes}, Sets.{with_goes, with_span_goes, with_member_goes, member_of_goes, with_members_goes, members_from_goes, members_to_goes}}
use Rattle.lil_laws_stmt.specs.{Tasks.{copy_goes, copy_to_goes, copy_from_goes, assign_goes, set_goes, store_goes}, Requests.{request_goes, passing_goes, pass_goes, pass_array_goes, serve_goes}, Strings.{text_goes, text_to_goes}, News.{new_goes, new_at_goes}, Withs.{inside_goes, hold_goes, holding_goes}}
use Rattle.lil_laws_stmt.specs.{Control.{if_goes, choose_goes, while_goes, turn_goes, repeat_goes, until_goes, again_goes, loop_goes, looping_goes}, Changes.{change_goes, change_by_goes, change_at_goes}, Exits.exit_goes, Calls.{call_goes, invoke_goes}, Arguments.{argument_goes, given_goes, given_place_goes, given_all_goes, given_array_goes}, Values.{calling_goes, call_value_goes, invoke_value_goes}, Spelled.{spelling_goes}, Enters.enter_goes, Members.{member_goes, member_by_goes, member_at_goes}, Ends.{halt_goes, return_goes, end_goes, returning_goes, answer_goes, ended_goes}}
use Rattle.lil_laws_stmt.specs.{Allocations.{allocate_goes, allocate_by_goes, allocate_at_goes, deallocate_at_goes}, Cases.{case_goes, pick_goes}, Fors.{for_goes, start_goes, limit_goes, next_goes}, Begins.begin_goes}

value_quiet : (k : Kind) → ValueOf k ≡ Quiet → ⊥
value_quiet k e = cc

place_quiet : (d : Designator) → AtPlace d ≡ Quiet → ⊥
place_quiet d e = cc

value_place : (k : Kind) (d : Designator) → ValueOf k ≡ AtPlace d → ⊥
value_place k d e = cc

module _ (ctx : Setting) where
  open ctx use {library, table, home as h}
  open frame_of ctx use {own, piece, number}

  module _ (s : Source) (k : List Item) (m : State) (c : ℕ) (a : Around) (shared : Shared ctx s m) where
    -- a value goes into a hole
    scalar_step : (v : Scalar) (o : Hole) (kind : Kind) → within kind v ≡ true → Refers h kind v → (below : List ℕ) → m.stack ≡ word_for h v ∷ below
        → ItemWaits ctx (Fill o) k (RowsOf k) (ValueOf kind) m.place below c a → Goes ctx s (Value (Scalars v) ∷ Fill o ∷ k) m (c + 32)
    scalar_step v (IndexAt place j) kind fits refers below is r = index_at_goes ctx s k m c a shared place j v kind fits below is r
    scalar_step v (AlongAt place high) kind fits refers below is r = along_at_goes ctx s k m c a shared place high v kind fits below is r
    scalar_step v (StoreAt place j) kind fits refers below is r = store_goes ctx s k m c a shared place j v kind fits refers below is r
    scalar_step v (ChangeAt down place j) kind fits refers below is r = change_at_goes ctx s k m c a shared down place j v kind fits below is r
    scalar_step v (OneOf o j) kind fits refers below is r = one_of_goes ctx s k m c a shared o j v kind fits below is r
    scalar_step v (LeftOf o j f) kind fits refers below is r = left_goes ctx s k m c a shared o j f v kind fits refers below is r
    scalar_step v (RightOf o j u) kind fits refers below is r = right_goes ctx s k m c a shared o j u v kind fits refers below is r
    scalar_step v (ShortOf d f) kind fits refers below is r = short_of_goes ctx s k m c a shared d f v kind fits below is r
    scalar_step v (ApplyTo f) kind fits refers below is r = apply_of_goes ctx s k m c a shared f v kind fits below is r
    scalar_step v (WithMember j f) kind fits refers below is r = with_member_goes ctx s k m c a shared v kind fits below is j f r
    scalar_step v (MemberOf u j) kind fits refers below is r = member_of_goes ctx s k m c a shared v kind fits below is u j r
    scalar_step v (WithMembers j f g) kind fits refers below is r = with_members_goes ctx s k m c a shared v kind fits below is j f g r
    scalar_step v (MembersFrom u j f) kind fits refers below is r = members_from_goes ctx s k m c a shared v kind fits below is u j f r
    scalar_step v (MembersTo u j low) kind fits refers below is r = members_to_goes ctx s k m c a shared v kind fits below is u j low r
    scalar_step v (MemberAt out place j) kind fits refers below is r = member_at_goes ctx s k m c a shared out place j v kind fits below is r
    scalar_step v (AllocateAt false place) kind fits refers below is r = allocate_at_goes ctx s k m c a shared place v kind fits below is r
    scalar_step v (AllocateAt true place) kind fits refers below is r = deallocate_at_goes ctx s k m c a shared place v kind fits below is r
    scalar_step v (Pass (Requested q) j done left) kind fits refers below is r = pass_goes ctx s k m c a shared q j done left v kind fits below is r
    scalar_step v (Pass (Called x) j done left) kind fits refers below is r = given_goes ctx s k m c a shared x j done left v kind fits refers below is r
    scalar_step v (PassPlace (Called x) done left) kind fits refers below is r = absurd (value_place kind r.of r.mode)
    scalar_step v (PassAll (Called x) done left) kind fits refers below is r = absurd (value_place kind r.of r.mode)
    scalar_step v (PassArray (Called x) high done left) kind fits refers below is r = absurd (value_place kind r.of r.mode)
    scalar_step v (Calling given) kind fits refers below is r = calling_goes ctx s k m c a shared given v kind fits refers below is r
    scalar_step v (Returning to) kind fits refers below is r = returning_goes ctx s k m c a shared to v kind fits refers below is r
    scalar_step v (Choose first second) kind fits refers below is r = choose_goes ctx s k m c a shared first second v kind fits below is r
    scalar_step v (Turn e body) kind fits refers below is r = turn_goes ctx s k m c a shared e body v kind fits below is r
    scalar_step v (Again body e) kind fits refers below is r = again_goes ctx s k m c a shared body e v kind fits below is r
    scalar_step v (Pick arms) kind fits refers below is r = pick_goes ctx s k m c a shared arms v kind fits below is r
    scalar_step v (StartOf x j b step body) kind fits refers below is r = start_goes ctx s k m c a shared x j b step body v kind fits below is r
    scalar_step v (LimitOf x j u step body) kind fits refers below is r = limit_goes ctx s k m c a shared x j u step body v kind fits below is r
    scalar_step v o kind fits refers below is r = absurd r.part

    -- a place goes into a hole
    place_step : (place : Place) (o : Hole) (d : Designator) (below : List ℕ) → Designates ctx d place m.stack below
        → ItemWaits ctx (Fill o) k (RowsOf k) (AtPlace d) m.place below c a → Goes ctx s (Value (Places place) ∷ Fill o ∷ k) m (c + 32)
    place_step place Get d below has r = get_goes ctx s k m c a shared place d below has r
    place_step place (Part i) d below has r = part_goes ctx s k m c a shared place i d below has r
    place_step place (IndexBy j e) d below has r = index_by_goes ctx s k m c a shared place j e d below has r
    place_step place (SetTo j e) d below has r = set_goes ctx s k m c a shared j e place d below has r
    place_step place (CopyTo from) d below has r = copy_to_goes ctx s k m c a shared from place d below has r
    place_step place (CopyFrom to) d below has r = copy_from_goes ctx s k m c a shared to place d below has r
    place_step place Pointed d below has r = pointed_goes ctx s k m c a shared place d below has r
    place_step place (NewAt n) d below has r = new_at_goes ctx s k m c a shared n place d below has r
    place_step place (AllocateBy back e) d below has r = allocate_by_goes ctx s k m c a shared back e place d below has r
    place_step place (TextTo cs) d below has r = text_to_goes ctx s k m c a shared cs place d below has r
    place_step place (PassArray (Requested q) high done left) d below has r = pass_array_goes ctx s k m c a shared q high done left place d below has r
    place_step place (PassPlace (Called x) done left) d below has r = given_place_goes ctx s k m c a shared x done left place d below has r
    place_step place (PassAll (Called x) done left) d below has r = given_all_goes ctx s k m c a shared x done left place d below has r
    place_step place (PassArray (Called x) high done left) d below has r = given_array_goes ctx s k m c a shared x high done left place d below has r
    place_step place (Pass (Called x) j done left) d below has r = absurd (value_place r.from d (sym r.mode))
    place_step place (Calling given) d below has r = absurd (value_place r.kind d (sym r.mode))
    place_step place (Hold body) d below has r = hold_goes ctx s k m c a shared body place d below has r
    place_step place (MemberBy out j e) d below has r = member_by_goes ctx s k m c a shared out j e place d below has r
    place_step place (ChangeBy down j e) d below has r = change_by_goes ctx s k m c a shared down j e place d below has r
    place_step place o d below has r = absurd r.part

    designator_step : (d : Designator) → Waiting ctx (PlaceOf d) (Rows ctx k) Quiet m.place m.stack c a → Goes ctx s (PlaceOf d ∷ k) m (c + 32)
    designator_step (Variable x) r = variable_goes ctx s k m c a shared x r
    designator_step (Handed n x) r = handed_goes ctx s k m c a shared n x r
    designator_step (Along n x e) r = along_goes ctx s k m c a shared n x e r
    designator_step (Held w) r = held_goes ctx s k m c a shared w r
    designator_step (Field d i) r = field_goes ctx s k m c a shared d i r
    designator_step (Element d kind e) r = element_goes ctx s k m c a shared d kind e r
    designator_step (Follow d n) r = follow_goes ctx s k m c a shared d n r

    expression_step : (e : Expression) → Waiting ctx (Evaluate e) (Rows ctx k) Quiet m.place m.stack c a → Goes ctx s (Evaluate e ∷ k) m (c + 32)
    expression_step (Constant kind v) r = constant_goes ctx s k m c a shared kind v r
    expression_step (Taken d kind) r = taken_goes ctx s k m c a shared d kind r
    expression_step (One o kind e) r = one_goes ctx s k m c a shared o kind e r
    expression_step (Two o kind e f) r = two_goes ctx s k m c a shared o kind e f r
    expression_step (Short d e f) r = short_begins ctx s k m c a shared d e f r
    expression_step (Apply f e) r = apply_goes ctx s k m c a shared f e r
    expression_step (With e kind f) r = with_goes ctx s k m c a shared e kind f r
    expression_step (WithSpan e kind f g) r = with_span_goes ctx s k m c a shared e kind f g r
    expression_step (Invoke x n kind given) r = invoke_goes ctx s k m c a shared x n kind given r
    expression_step (High n x) r = high_goes ctx s k m c a shared n x r
    expression_step (Routine x n) r = routine_goes ctx s k m c a shared x n r
    expression_step (InvokeValue e kind given) r = invoke_value_goes ctx s k m c a shared e kind given r

    task_step : (t : Task) → ItemWaits ctx (Perform t) k (RowsOf k) Quiet m.place m.stack c a → Goes ctx s (Perform t ∷ k) m (c + 32)
    task_step (Do (Assign d kind e)) r = assign_goes ctx s k m c a shared d kind e r
    task_step (Do (Copy d from)) r = copy_goes ctx s k m c a shared d from r
    task_step (Do (Text d cs)) r = text_goes ctx s k m c a shared d cs r
    task_step (Do (New d n)) r = new_goes ctx s k m c a shared d n r
    task_step (Do (Allocate back d e)) r = allocate_goes ctx s k m c a shared back d e r
    task_step (Do (Inside d body)) r = inside_goes ctx s k m c a shared d body r
    task_step (Do (Change down d kind e)) r = change_goes ctx s k m c a shared down d kind e r
    task_step (Do (Member out d kind e)) r = member_goes ctx s k m c a shared out d kind e r
    task_step (Do (Request q given)) r = request_goes ctx s k m c a shared q given r
    task_step (Do (If e first second)) r = if_goes ctx s k m c a shared e first second r
    task_step (Do (Case e arms)) r = case_goes ctx s k m c a shared e arms r
    task_step (Do (While e body)) r = while_goes ctx s k m c a shared e body r
    task_step (Do (Repeat body e)) r = repeat_goes ctx s k m c a shared body e r
    task_step (Do (Loop body)) r = loop_goes ctx s k m c a shared body r
    task_step (Do Exit) r = exit_goes ctx s k m c a shared r
    task_step (Do Halt) r = halt_goes ctx s k m c a shared r
    task_step (Do Return) r = return_goes ctx s k m c a shared r
    task_step (Do (Answer kind e)) r = answer_goes ctx s k m c a shared kind e r
    task_step (Do (Call x n given)) r = call_goes ctx s k m c a shared x n given r
    task_step (Do (CallValue e given)) r = call_value_goes ctx s k m c a shared e given r
    task_step (Do (For x kind e f step body)) r = for_goes ctx s k m c a shared x kind e f step body r
    task_step (Passing (Requested q) done NoMore) r = serve_goes ctx s k m c a shared q done r
    task_step (Passing (Requested q) done (Also x left)) r = passing_goes ctx s k m c a shared q done x left r
    task_step (Passing (Called x) done left) r = absurd r.part
    task_step (Spelling q cs todo done left) r = absurd r.part
    task_step (Until body e) r = until_goes ctx s k m c a shared body e r
    task_step (Looping body) r = looping_goes ctx s k m c a shared body r
    task_step (Turns x kind z step left body) r =
        ⊎_elim (λ r. begin_goes ctx s k m c a shared x kind z step left body r) (λ r. next_goes ctx s k m c a shared x kind z step left body r) r
    task_step (Holding place) r = holding_goes ctx s k m c a shared place r
    task_step (End n) r = end_goes ctx s k m c a shared n r

  -- an item into which no value comes
  no_turns : (x : Named) (kind : Kind) (z step : ℤ) (left : ℕ) (body : Statements) (rest : Reach) (t : Mode) (p : ℕ) (stack : List ℕ) (c : ℕ) (a : Around) → (t ≡ Quiet → ⊥)
      → BeginWaits ctx x kind z step left body rest t p stack c a ⊎ NextWaits ctx x kind z step left body rest t p stack c a → ⊥
  no_turns x kind z step left body rest t p stack c a apart r = ⊎_elim (λ (b : BeginWaits ctx x kind z step left body rest t p stack c a). apart b.quiet) (λ (n : NextWaits ctx x kind z step left body rest t p stack c a). apart n.quiet) r

  no_task : (t : Task) (k : List Item) (mode : Mode) (p : ℕ) (stack : List ℕ) (c : ℕ) (a : Around) → (mode ≡ Quiet → ⊥) → ItemWaits ctx (Perform t) k (RowsOf k) mode p stack c a → ⊥
  no_task (Turns x kind z step left body) k mode p stack c a apart r = no_turns x kind z step left body (Rows ctx k) mode p stack c a apart r
  no_task (Looping body) k mode p stack c a apart r = apart r.quiet
  no_task (Holding place) k mode p stack c a apart r = apart r.quiet
  no_task (End n) k mode p stack c a apart r = apart r.quiet
  no_task t k Quiet p stack c a apart r = apart refl
  no_task t k mode p stack c a apart r = r.part

  module _ (s : Source) (m : State) (c : ℕ) (a : Around) (shared : Shared ctx s m) where
    -- what goes from where the jumps lead
    from_there : (k : List Item) (row : Reach) (t : Mode) (stack : List ℕ) (r : AfterJumps piece row t m.place stack c a)
        → Goes ctx s k (going m r.start m.stack) (r.later + 32) → Goes ctx s k m (c + 32)
    from_there k row t stack r goes = jumped ctx s k r.jumps m r.start (c + 32) (r.later + 32) shared.program r.way goes (omega (arith, r.count))

  value_row : (s : Source) (m : State) (c : ℕ) (a : Around) → Shared ctx s m → (v : Scalar) (i : Item) (k : List Item)
      → Waiting ctx (Value (Scalars v)) (Rows ctx (i ∷ k)) Quiet m.place m.stack c a → Goes ctx s (Value (Scalars v) ∷ i ∷ k) m (c + 32)
  value_row s m c a shared v (Fill o) k r =
      from_there s m c a shared (Value (Scalars v) ∷ Fill o ∷ k) (ItemWaits ctx (Fill o) k (RowsOf k)) (ValueOf r.part.kind) r.part.below r.then
      (scalar_step s k (going m r.then.start m.stack) r.then.later a shared v o r.part.kind r.part.fits r.part.refers r.part.below r.part.is r.then.there)
  value_row s m c a shared v (Perform t) k r = absurd (no_task t k (ValueOf r.part.kind) _ _ _ _ (value_quiet r.part.kind) r.then.there)
  value_row s m c a shared v i k r = absurd r.then.there.part

  place_row : (s : Source) (m : State) (c : ℕ) (a : Around) → Shared ctx s m → (place : Place) (i : Item) (k : List Item)
      → Waiting ctx (Value (Places place)) (Rows ctx (i ∷ k)) Quiet m.place m.stack c a → Goes ctx s (Value (Places place) ∷ i ∷ k) m (c + 32)
  place_row s m c a shared place (Fill o) k r =
      from_there s m c a shared (Value (Places place) ∷ Fill o ∷ k) (ItemWaits ctx (Fill o) k (RowsOf k)) (AtPlace r.part.of) r.part.below r.then
      (place_step s k (going m r.then.start m.stack) r.then.later a shared place o r.part.of r.part.below r.part.has r.then.there)
  place_row s m c a shared place (Perform t) k r = absurd (no_task t k (AtPlace r.part.of) _ _ _ _ (place_quiet r.part.of) r.then.there)
  place_row s m c a shared place i k r = absurd r.then.there.part

  -- an item at whose code the machine is
  item_step : (s : Source) (m : State) (c : ℕ) (a : Around) → Shared ctx s m → (i : Item) (k : List Item)
      → ItemWaits ctx i k (RowsOf k) Quiet m.place m.stack c a → Goes ctx s (i ∷ k) m (c + 32)
  item_step s m c a shared (Value (Scalars v)) (i ∷ k) r = value_row s m c a shared v i k r
  item_step s m c a shared (Value (Places p)) (i ∷ k) r = place_row s m c a shared p i k r
  item_step s m c a shared (Value (Wholes u)) k r = absurd r.part
  item_step s m c a shared (Value (Opens p n)) k r = absurd r.part
  item_step s m c a shared (Value (Texts cs)) k r = absurd r.part
  item_step s m c a shared (Evaluate e) k r = expression_step s k m c a shared e r
  item_step s m c a shared (PlaceOf d) k r = designator_step s k m c a shared d r
  item_step s m c a shared (Fill (Pass (Called x) j done left)) k r = absurd (value_quiet r.from (sym r.mode))
  item_step s m c a shared (Fill (PassPlace (Called x) done left)) k r = absurd (place_quiet r.of (sym r.mode))
  item_step s m c a shared (Fill (PassAll (Called x) done left)) k r = absurd (place_quiet r.of (sym r.mode))
  item_step s m c a shared (Fill (PassArray (Called x) high done left)) k r = absurd (place_quiet r.of (sym r.mode))
  item_step s m c a shared (Fill (Calling given)) k r = absurd (value_quiet r.kind (sym r.mode))
  item_step s m c a shared (Fill o) k r = absurd r.part
  item_step s m c a shared (Perform t) k r = task_step s k m c a shared t r
  item_step s m c a shared _ _ r = absurd r.then

  -- a call whose next argument is at hand, or which has them all
  pending_step : (s : Source) (m : State) (c : ℕ) (a : Around) → Shared ctx s m → (x : Callee) (done : List Datum) (left : Arguments) (k : List Item)
      → PendingWaits ctx x done left (RowsOf k) Quiet m.place m.stack c a → Goes ctx s (Perform (Passing (Called x) done left) ∷ k) m (c + 32)
  pending_step s m c a shared x done NoMore k r = enter_goes ctx s k m c a shared x done r
  pending_step s m c a shared x done (Also y left) k r = argument_goes ctx s k m c a shared x done y left r

  -- THE STEP
  pub each_step : (s : Source) (m : State) (c : ℕ) (a : Around) → Shared ctx s m → (k : List Item)
      → Ahead ctx k Quiet m.place m.stack c a → Goes ctx s k m (c + 32)
  each_step s m c a shared [] r = ended_goes ctx s m c a shared r
  each_step s m c a shared (Perform (Passing (Called x) done left) ∷ k) r =
      from_there s m c a shared (Perform (Passing (Called x) done left) ∷ k) (PendingWaits ctx x done left (RowsOf k)) Quiet m.stack r
      (pending_step s (going m r.start m.stack) r.later a shared x done left k r.there)
  each_step s m c a shared (Perform (Spelling (Called x) cs todo done left) ∷ k) r =
      from_there s m c a shared (Perform (Spelling (Called x) cs todo done left) ∷ k) (SpellingWaits ctx x cs todo done left (RowsOf k)) Quiet m.stack r
      (spelling_goes ctx s k (going m r.start m.stack) r.later a shared x cs todo done left r.there)
  each_step s m c a shared (i ∷ k) r =
      from_there s m c a shared (i ∷ k) (ItemWaits ctx i k (RowsOf k)) Quiet m.stack r
      (item_step s (going m r.start m.stack) r.later a shared i k r.there)
