-- All arguments of a call are there: the call, and the words of the frame.
use Rattle.std.proofs.Common.{◌≡◌, ℕ, zero, suc, ◌+◌, ◌-◌, ◌*◌, ◌<◌, ◌≤◌, ◌⊎◌, inl, inr, Bool, true, false, eqb, eqb-true, drop, take, Option, Some, None, List, [], ◌∷◌, ◌++◌, length, length-drop, get_or, set, map, cond, drop-cons, refl, sym, ap, ◌∙◌, subst, ⊎_elim, arith, eq-eqb}
use Rattle.std.specs.{Prelude.{nat_lt, slice_get, slice_index, ◌/◌, ◌%◌, option_map, option_and_then, ◌==◌, ◌&&◌, ◌||◌}, List.list_any}
use Rattle.std.proofs.lemmas.{Bool.{lt-ltb, le-ltb, le-leb, ltb-true, cases_lt, and_from}, Option.{same_Some, slice_get_within, slice_get-map}, List.{length_push, append-nil, take-append-drop, length-take-le, get_or-take, get_or-drop}}
use Rattle.lil_base.specs.declared.fault.LimitKind.TheVariants as limit
use Rattle.lil_resolved.specs.{Kinds.{result_of, result_here, MayCall, Declared, Outline, Kind, Scalar, procedure_word, Shape, Absent, Row, Address, Opened, Word, is_there, part_at, all_words, words as part_words, OfCharacter, Character, within as in_kind, base_of, shape_at, offset as part_offset, offsets_from, locals_of, parameters_of}, Resolved.{NoMore, Procedure, Statements, Empty, Then, Resolved, procedure_by, outline_of}, Sizes.frame_words, Plain.parameter_variable}
use Rattle.lil_meaning.specs.{Items.{Root, Global, Local, Object, Place, Slot, Along, Cells, Scalars, Places, Wholes, Opens, Texts, begun, Datum, Callee, ByNumber, OfValue, callee_number, callee_levels, callee_owner, Called, Passing, with_locals, loaded_at, End, Item, Perform, Activation, Going, Source, doing}, Need.{HasCalls, frame_of, copies_of, copy_words, copies_words, locals_by, cost, unless_body, with_callers, chain}, Steps.{procedure_result, next, current, owner_of, procedure_of, procedures_of, procedure_name, its_name, outer_of, level_out, declaring, entered, called_by, slot_of, slots_by}}
use Rattle.lil_asm.specs.{declared.instr.Instr.{Instr, TheVariants.{Cll, Clf, Ent, Cpy}}, Stretches.stretch}
use Rattle.lil_mcode.specs.Table.{array_row, copied_row, longer_row, Module, State, stack_of, module_at, mstep, its_entry, entry_in, call_row, value_call_row, called_row, enter_row}
use Rattle.lil_frames.specs.Words.{spliced, moved, zeros, cleared}
use Rattle.lil_table.specs.Rows.{leave_code, Layout, IsAt, InstrsAt, text_words, copies_code, framed, exactly, BodyAt, loop_place}
use Rattle.lil_match.specs.{Goes.{OwnWords, Stands, IsPiece, IsHeap, IsUnborn, HasLocals, HasHanded, OpenedIn, HasOpened, IsFree, EachHanded, EachLocal, Chained, Grows, Linked, Entered, IsProgram, IsKnown, Shared, IsShort, Lands, Goes}, Running.{running, advanced}, Parts.{yes, no, part_fits, word_long, part_append, offset_append as part_offset_append}, Homes.{Of, Own, Fixed, Home, Ours, ours_fixed, address, shape_there, place_inside, text_character, Refers, Extends, IsWord, is_word_kept, lives, extends_self, Mem, Stays, Turns, mem_turned}, Splices.{spliced_length, spliced_before, spliced_there, spliced_after, zeros_length, zeros_word, block_alone}}
use Rattle.lil_match.specs.{Waits.{Resumed, AreSaved, saved_words, result_in, resumed_mode, resumed_stack, RestoresAt, Quiet, Around, outside, own_words, locals_in, parameters_in, top_of, is_of, sees, with_frames, Frame, Stack, frames_of, Setting, renewed, pushing, IsLink, HasValue, call_code, GivenText, AllGiven, PendingWaits, RowsOf, Rows, Ahead}, Known.{sees_more, own_seen, known_kept, each_known, each_comes, each_local, seen_within}, Kept.{saved_kept, EachAbove, place_lives, sees_pushed, each_handed, first_words, stack_above, stands_kept, chained_kept, copies_below, loops_fit, rows_renewed}, Laid.known_part}
use Rattle.lil_match.specs.{Costs.{saved_low, cost_of, known_costs, each_costs, items_cost, top_low}, Climbs.{Climbs, climbs, first_own}, Steps.{closed, advances, at_step, at_once, rows_ahead, goes_more, goes_after, goes_full, goes_one_grown}, Orders.instr_within}
use Rattle.lil_laws_stmt.specs.{Locals.{shape_none, none_there, born, IsOther, base_other, shape_other, base_there, shape_there as born_shape, owner_other, owner_there, owner_handed, mem_born, mem_entered, fresh_local}, Painting.{painted, painted_there, painted_beside, Side, Before, Between, Behind', side}, Control.body_rows}
use Rattle.lil_laws_stmt.specs.{Calls.{Found, found, frame_known}, Given.{slots_here, slice_more, offsets_more, slots_more, copies_same, IsPlain, IsCopied, given_form, handed_word, opened_words, given_low, given_cells}, Copies.{Copying, copies_none, copies_skip, copies_more}, Strings.string_low, Pushes.{with_pushed, known_repushed, links_repushed, locals_repushed, handed_repushed}}

-- ---- lists of activations
last_there : (xs : List Activation) (a : Activation) → slice_get (xs ++ a ∷ []) (length xs) ≡ Some a
last_there [] a = refl
last_there (x ∷ xs) a = last_there xs a

none_activation : (a : Activation) → None ≡ Some a → ⊥
none_activation a e = cc

others_there : (xs ys : List Activation) → Grows (xs ++ ys) xs
others_there [] ys i a e = absurd (none_activation a e)
others_there (x ∷ xs) ys zero a e = e
others_there (x ∷ xs) ys (suc i) a e = others_there xs ys i a e

-- ---- procedures
none_procedure : (q : Procedure) → None ≡ Some q → ⊥
none_procedure q e = cc

none_more : (y : ℕ) → 0 + y ≡ y
none_more y = omega arith

-- a procedure's number isn't that of the body
pub record Numbered (p : ℕ) : Type 0 where
  pub before : ℕ
  pub is : p ≡ suc before

numbered : (ps : List Procedure) (p : ℕ) (q : Procedure) → procedure_by ps p ≡ Some q → Numbered p
numbered ps zero q e = absurd (none_procedure q e)
numbered ps (suc p) q e = record { before = p; is = refl }

outlined : (ps : List Procedure) (p : ℕ) (q : Procedure) → procedure_by ps p ≡ Some q → procedure_by (map outline_of ps) p ≡ Some (outline_of q)
outlined ps zero q e = absurd (none_procedure q e)
outlined ps (suc p) q e = slice_get-map outline_of ps p ∙ ap (option_map outline_of) e

name_known : (o : Option Resolved) (p : ℕ) (q : Procedure) → procedure_by (procedures_of o) p ≡ Some q → procedure_name o p ≡ Some q.name
name_known o zero q e = absurd (none_procedure q e)
name_known None (suc p) q e = absurd (none_procedure q e)
name_known (Some m) (suc p) q e = ap (option_map its_name) e

doing_chain : (library : List Resolved) (loaded : List ℕ) (acts : List Activation) (b : Statements) (k : List Item) → chain library loaded acts (doing b k) ≡ chain library loaded acts k
doing_chain library loaded acts Empty k = refl
doing_chain library loaded acts (Then s ss) k = let rest = doing_chain library loaded acts ss k in omega (arith, rest)

-- ---- the instruction of a call
-- a value has the numbers of its module and its procedure
pub value_parts : (j p : ℕ) → p < 256 → (procedure_word j p / 256 ≡ j) × (procedure_word j p % 256 ≡ p)
value_parts j p less = (omega (arith, less), omega (arith, less))

callee_row : (ctx : Setting) (m : State) → IsProgram ctx m.modules m.running m.marked → (q : Callee) (w end : ℕ) → IsAt ctx.stack.frame.piece m.place (call_code q w) end → callee_owner m.running q ≡ m.running
    → HasValue q (slice_index m.store (m.top - w - 1)) → mstep m ≡ call_row m.running (callee_number q) w end m
callee_row ctx m program (ByNumber p n) w end at here value = at_step ctx m program (Cll p w) end at
callee_row ctx m program (OfValue j p) w end at here value =
    let parts = value_parts j p value.1 in
    at_step ctx m program (Clf w) end at
    ∙ ap (λ (v : ℕ). value_call_row w end m v) value.0
    ∙ ap (λ (z : ℕ × ℕ). call_row z.0 z.1 w end m) (ap (λ (i : ℕ). (i, procedure_word j p % 256)) (parts.0 ∙ here) ∙ ap (λ (i : ℕ). (m.running, i)) parts.1)

-- what is known around the arguments of a call that are all there, behind what was saved for it
pub record Complete (before : Setting) (k : List Item) (q : Callee) (shapes : List Shape) (done : List Datum) (p c : ℕ) (a : Around) : Type 0 where
  pub may : MayCall before.stack.frame.layout.scope (callee_number q) (callee_levels q)
  pub here : callee_owner before.stack.frame.number q ≡ before.stack.frame.number
  pub takes : parameters_of (procedure_by before.stack.frame.layout.scope.procedures (callee_number q)) ≡ shapes
  pub link : IsLink before.stack.frame.display (callee_levels q) (before.home.shadow (top_of before.stack.frame))
  pub value : HasValue q (before.home.shadow (top_of before.stack.frame + 3))
  pub given : AllGiven (pushing before (4 + all_words shapes)) shapes done (top_of before.stack.frame + 4)
  pub end : ℕ
  pub call : IsAt before.stack.frame.piece p (call_code q (framed (all_words shapes))) end
  pub resumed : Resumed
  pub returns : result_of (procedure_by before.stack.frame.layout.scope.procedures (callee_number q)) ≡ result_in resumed
  pub under : ℕ
  pub pushed : before.stack.frame.pushed ≡ saved_words resumed + under
  pub saved : AreSaved before.home.shadow resumed (before.stack.frame.at + (before.stack.frame.layout.frame + under))
  pub after : ℕ
  pub restore : RestoresAt before.stack.frame.piece resumed end after
  pub within : after < length before.stack.frame.piece
  pub then : Rows (with_pushed before under) k (resumed_mode resumed) after (resumed_stack resumed) c a

module _ (before : Setting) (shapes : List Shape) (done : List Datum) (s : Source) (k : List Item) (m : State) (c : ℕ) (a : Around) (shared : Shared (pushing before (4 + all_words shapes)) s m) (q : Callee) (w : Complete before k q shapes done m.place c a) (empty : m.stack ≡ []) where
  abbrev proc : ℕ
  proc = callee_number q

  abbrev levels : ℕ
  levels = callee_levels q

  abbrev ctx : Setting
  ctx = pushing before (4 + all_words shapes)

  abbrev h : Home
  h = before.home

  abbrev f : Frame
  f = before.stack.frame

  abbrev gs : List Frame
  gs = before.stack.callers

  abbrev items : List Item
  items = Perform (Passing (Called q) done NoMore) ∷ k

  abbrev now : Source
  now = record s { items = Perform (Passing (Called q) done NoMore) ∷ k; phase = Going }

  -- the frame that calls, without what is pushed
  known : IsKnown before.library before.loaded before.table before.activations before.home before.stack.frame
  known = known_repushed f ((4 + all_words shapes) + f.pushed) f.pushed before.library before.loaded before.table before.activations before.home shared.standing.known

  close : current k ≡ before.stack.frame.activation
  close = closed (with_pushed before w.under) k _ _ _ _ _ w.then

  copies_low : before.stack.frame.copied ≤ w.under
  copies_low = copies_below k (with_pushed before w.under) _ _ _ _ _ w.then

  -- what is called, on both sides
  abbrev what : Found (procedures_of (loaded_at before.library before.loaded before.stack.frame.number)) proc w.may.its
  what = found (procedures_of (loaded_at before.library before.loaded before.stack.frame.number)) proc w.may.its (ap (λ (xs : List Outline). procedure_by xs proc) (sym known.procedures) ∙ w.may.known)

  abbrev its : Procedure
  its = what.its

  declared : Declared before.stack.frame.layout.scope.chain levels its.around
  declared = subst (λ (o : Outline). Declared before.stack.frame.layout.scope.chain levels o.around) (sym what.same) w.may.declared

  abbrev size : ℕ
  size = frame_words its.locals its.body

  code : Entered before.stack.frame.own before.stack.frame.layout proc its
  code = known.codes proc its what.there

  owner_is : callee_owner (owner_of (slice_get s.activations (current k))) q ≡ before.stack.frame.number
  owner_is = ap (λ (i : ℕ). callee_owner i q) (let e : owner_of (slice_get s.activations (current k)) ≡ before.stack.frame.number = cc (close, shared.activations_are, known.owner) in e) ∙ w.here

  abbrev new : Activation
  new = called_by s.activations (callee_owner (owner_of (slice_get s.activations (current k))) q) (current k) q done its

  abbrev all : List Activation
  all = before.activations ++ called_by s.activations (callee_owner (owner_of (slice_get s.activations (current k))) q) (current k) q done its ∷ []

  abbrev entering : Source
  entering = record s {
    activations = s.activations ++ called_by s.activations (callee_owner (owner_of (slice_get s.activations (current k))) q) (current k) q done its ∷ [];
    cells = with_locals s.cells (length s.activations) done its.locals;
    items = doing its.body (Perform (End (length s.activations)) ∷ k);
    phase = Going;
  }

  listed : procedure_by (procedures_of (loaded_at before.library before.loaded before.stack.frame.number)) proc ≡ Some its
  listed = what.there

  becomes : next before.library now ≡ entering
  becomes =
      ap (λ (o : Option Procedure). entered o (called_by s.activations (callee_owner (owner_of (slice_get s.activations (current k))) q) (current k) q done) done k now) (
      ap (λ (i : ℕ). procedure_by (procedures_of (loaded_at before.library s.loaded i)) proc) owner_is
      ∙ ap (λ (ns : List ℕ). procedure_by (procedures_of (loaded_at before.library ns before.stack.frame.number)) proc) shared.loaded_are
      ∙ listed
      )

  grows : Grows all before.activations
  grows = others_there before.activations (new ∷ [])

  runs : slice_get all (length s.activations) ≡ Some new
  runs = ap (λ (z : List Activation). slice_get all (length z)) shared.activations_are ∙ last_there before.activations new

  -- what it returns, as those who call know it
  its_result : result_of (procedure_by before.stack.frame.layout.scope.procedures proc) ≡ its.result
  its_result = ap result_of w.may.known ∙ ap (λ (o : Outline). o.result) (sym what.same)

  -- as its own layout says
  result_inside : result_here code.inner.scope ≡ its.result
  result_inside =
      ap (λ (ps : List ℕ). result_of (option_and_then (procedure_by code.inner.scope.procedures) (slice_get ps 0))) code.chain
      ∙ ap (λ (y : Layout). result_of (procedure_by y.scope.procedures proc)) code.part
      ∙ its_result

  number : Numbered proc
  number = numbered (procedures_of (loaded_at before.library before.loaded before.stack.frame.number)) proc its what.there

  -- its variables are the parameters, and those behind them
  parameters_are : take its.parameters its.locals ≡ shapes
  parameters_are = ap (λ (o : Outline). take o.parameters o.locals) what.same ∙ sym (ap parameters_of w.may.known) ∙ w.takes

  abbrev others : List Shape
  others = drop its.parameters its.locals

  split : shapes ++ drop its.parameters its.locals ≡ its.locals
  split = ap (λ (ts : List Shape). ts ++ drop its.parameters its.locals) (sym parameters_are) ∙ take-append-drop its.parameters its.locals

  words_of : (ts us : List Shape) → all_words (ts ++ us) ≡ all_words ts + all_words us
  words_of [] us = omega arith
  words_of (t ∷ ts) us = omega (arith, words_of ts us)

  all_long : all_words its.locals ≡ all_words shapes + all_words others
  all_long = sym (ap all_words split) ∙ words_of shapes others

  -- ---- where all stands
  abbrev first : ℕ
  first = top_of before.stack.frame

  taller : OwnWords before.home.owner ctx.stack.frame m.top
  taller = first_words h.owner before.stack.base m.top ctx.stack.frame before.stack.callers shared.standing.stands

  top_is : m.top ≡ top_of before.stack.frame + (4 + all_words shapes)
  top_is = omega (arith, taller.top_is)

  words : OwnWords before.home.owner before.stack.frame (top_of before.stack.frame)
  words = record {
    mark = taller.mark;
    top_is = refl;
    own = λ i free less. taller.own i free (omega (arith, less, top_is));
    mine = λ i less. taller.mine i (omega (arith, less, top_is));
  }

  stands : (us : List Frame) → Stands before.home.owner before.stack.base m.top ctx.stack.frame us → Stands before.home.owner before.stack.base (top_of before.stack.frame) before.stack.frame us
  stands [] y = (words, y.1)
  stands (u ∷ us) y = (words, y.1)

  stands_here : Stands before.home.owner before.stack.base (top_of before.stack.frame) before.stack.frame before.stack.callers
  stands_here = stands before.stack.callers shared.standing.stands

  links_here : Chained before.home.shadow before.activations before.stack.frame before.stack.callers
  links_here = links_repushed f ((4 + all_words shapes) + f.pushed) f.pushed before.home.shadow before.activations before.stack.callers shared.standing.links

  locals_here : EachLocal before.activations before.home (frames_of before.stack)
  locals_here = locals_repushed f ((4 + all_words shapes) + f.pushed) f.pushed before.activations before.home (before.stack.callers ++ before.stack.bodies) shared.standing.locals

  handed_here : EachHanded before.activations before.home (before.stack.frame ∷ before.stack.callers) before.stack.bodies
  handed_here = handed_repushed f ((4 + all_words shapes) + f.pushed) f.pushed before.activations before.home before.stack.callers before.stack.bodies shared.standing.handed

  above : (before.stack.base ≤ before.stack.frame.at) × EachAbove (before.stack.base + 4) (frames_of before.stack)
  above = stack_above ctx (stack_of m) shared.standing

  loops : loop_place a.taken ≤ before.stack.frame.layout.frame
  loops = loops_fit k (with_pushed before w.under) _ w.after _ c a words.mark w.then

  -- the words of the copies
  abbrev total : ℕ
  total = copies_words its.locals (slots_by (length s.activations) 0 done its.locals)

  copies_are : copies_of (loaded_at before.library before.loaded before.stack.frame.number) proc new.slots ≡ total
  copies_are = ap (λ (o : Option Procedure). copies_words (locals_by o) (slots_by (length s.activations) 0 done its.locals)) listed

  -- ---- the new frame
  -- the frames from the one on in which the procedure was declared
  abbrev outward : ℕ → List ℕ
  outward zero = []
  outward (suc i) = drop i before.stack.frame.display

  abbrev frame : Frame
  frame = record {
    activation = length s.activations;
    number = before.stack.frame.number;
    procedure = proc;
    own = before.stack.frame.own;
    entry = code.entry;
    after = code.after;
    piece = stretch code.entry code.after before.stack.frame.own.code;
    layout = code.inner;
    at = top_of before.stack.frame;
    pushed = total;
    copied = total;
    display = top_of before.stack.frame ∷ outward levels;
    back = w.end;
  }

  piece_is : IsPiece frame
  piece_is = record { is = refl; within = code.within }

  -- it is the procedure's
  outline_is : option_and_then (procedure_by code.inner.scope.procedures) (slice_get code.inner.scope.chain 0) ≡ Some (outline_of its)
  outline_is =
      ap (λ (ns : List ℕ). option_and_then (procedure_by code.inner.scope.procedures) (slice_get ns 0)) code.chain
      ∙ ap (λ (ps : List Outline). procedure_by ps proc) (ap (λ (l : Layout). l.scope.procedures) code.part ∙ known.procedures)
      ∙ outlined (procedures_of (loaded_at before.library before.loaded before.stack.frame.number)) proc its what.there

  locals_are : locals_in frame ≡ its.locals
  locals_are = ap locals_of outline_is

  parameters_here : parameters_in frame ≡ shapes
  parameters_here = ap parameters_of outline_is ∙ parameters_are

  words_are : own_words frame ≡ all_words its.locals
  words_are = ap all_words locals_are

  -- ---- the machine
  abbrev called : State
  called = record m { place = code.entry; frame = top_of before.stack.frame; store = spliced m.store (top_of before.stack.frame + 1) (m.frame ∷ w.end ∷ m.running ∷ []) }

  abbrev inside : State
  inside = record m { place = code.code.begun; frame = top_of before.stack.frame; top = top_of before.stack.frame + frame_words its.locals its.body; store = cleared called.store m.top (top_of before.stack.frame + frame_words its.locals its.body) }

  entry_is : entry_in (module_at m.modules m.running) proc ≡ Some code.entry
  entry_is =
      ap (λ (o : Option Module). entry_in o proc)
      (ap (λ (ms : List Module). module_at ms m.running) shared.program.table_is ∙ ap (module_at before.table) shared.program.running_is ∙ shared.program.known)
      ∙ ap (option_map its_entry) code.there

  few : framed (all_words shapes) ≡ all_words shapes
  few = omega (arith, top_is, shared.standing.low, shared.standing.high)

  -- the word of a value that is called stands in the mark
  value_there : HasValue q (slice_index m.store (m.top - framed (all_words shapes) - 1))
  value_there =
      let at : m.top - framed (all_words shapes) - 1 ≡ before.stack.frame.at + (before.stack.frame.layout.frame + (before.stack.frame.pushed + 3)) = omega (arith, few, top_is) in
      let own : h.owner (before.stack.frame.at + (before.stack.frame.layout.frame + (before.stack.frame.pushed + 3))) ≡ Own =
      taller.own (before.stack.frame.layout.frame + (before.stack.frame.pushed + 3)) (inr (omega (arith, words.mark), inr (omega (arith, copies_low, w.pushed)))) (omega (arith, top_is)) in
      subst (HasValue q) (sym (ap (slice_index m.store) at ∙ shared.mem.kept _ own ∙ ap h.shadow (let e : before.stack.frame.at + (before.stack.frame.layout.frame + (before.stack.frame.pushed + 3)) ≡ top_of before.stack.frame + 3 = omega arith in e))) w.value

  calls : advanced (running m s.world) ≡ running called s.world
  calls = advances m s.world _ (
      callee_row ctx m shared.program q (framed (all_words shapes)) w.end w.call (ap (λ (i : ℕ). callee_owner i q) shared.program.running_is ∙ w.here ∙ sym shared.program.running_is) value_there
      ∙ ap (λ (n : ℕ). call_row m.running proc n w.end m) few
      ∙ yes _ _ _ (and_from _ _ (le-leb (m.frame + 8 + all_words shapes) m.top (omega (arith, shared.standing.frame_is, words.mark, top_is))) (eq-eqb (length m.stack) 0 (ap length empty)))
      ∙ ap (called_row m.running (m.top - all_words shapes - 4) w.end m) entry_is
      ∙ ap (λ (at : ℕ). called_row m.running at w.end m (Some code.entry)) (let e : m.top - all_words shapes - 4 ≡ top_of before.stack.frame = omega (arith, top_is) in e)
      )

  enters : mstep called ≡ enter_row (framed (frame_words its.locals its.body)) code.code.begun called
  enters = at_step (with_frames ctx frame [] []) called (record { table_is = shared.program.table_is; known = shared.program.known; piece = piece_is; running_is = shared.program.running_is; marked_is = shared.program.marked_is }) (Ent (framed (frame_words its.locals its.body))) code.code.begun code.code.enter

  -- the arguments lie in the frame
  holds_given : m.top ≤ top_of before.stack.frame + frame_words its.locals its.body
  holds_given = omega (arith, top_is, all_long)

  -- ---- without room
  -- what the next state needs
  calls_cost : frame_words its.locals its.body + total + cost_of (before.stack.frame ∷ before.stack.callers) ≤ chain before.library s.loaded entering.activations entering.items
  calls_cost = omega (arith, same, under, w.pushed, saved_low before.home.shadow w.resumed _ w.saved)
    where
      same : chain before.library s.loaded entering.activations entering.items ≡ (frame_words its.locals its.body + total + 17) + chain before.library before.loaded all k
      same =
          doing_chain before.library s.loaded entering.activations its.body (Perform (End (length s.activations)) ∷ k)
          ∙ ap (λ (z : List Activation). chain before.library s.loaded (z ++ new ∷ []) (Perform (End (length s.activations)) ∷ k)) shared.activations_are
          ∙ ap (λ (ns : List ℕ). chain before.library ns all (Perform (End (length s.activations)) ∷ k)) shared.loaded_are
          ∙ ap (λ (o : Option Activation). cost before.library before.loaded o + with_callers o (chain before.library before.loaded all k)) runs
          ∙ ap (λ (p : ℕ). cost before.library before.loaded (Some new) + unless_body p (chain before.library before.loaded all k)) number.is
          ∙ ap (λ (i : ℕ). (frame_of (loaded_at before.library before.loaded i) proc + copies_of (loaded_at before.library before.loaded i) proc new.slots + 17) + chain before.library before.loaded all k) owner_is
          ∙ ap (λ (n : ℕ). (frame_of (loaded_at before.library before.loaded before.stack.frame.number) proc + n + 17) + chain before.library before.loaded all k) copies_are
          ∙ ap (λ (w : ℕ). (w + total + 17) + chain before.library before.loaded all k) (frame_known (loaded_at before.library before.loaded before.stack.frame.number) proc its listed)

      under : cost_of ((with_pushed before w.under).stack.frame ∷ before.stack.callers) ≤ chain before.library before.loaded all k
      under =
          items_cost (renewed (with_pushed before w.under) all before.home before.stack.limit) k _ w.after _ c a
          (rows_renewed k (with_pushed before w.under) all before.home before.stack.limit (before.stack.base + 4) (above.1.0, above.1.1) _ w.after _ c a
          (record { pushed = λ i less. refl; shadow = λ i from below. refl; base = λ r e l. refl; shape = λ r e l. refl; listed = refl; workspaces = extends_self before.home.workspaces })
          w.then) (
            known_costs before.library before.loaded before.table all before.home (record f { pushed = w.under }) (known_repushed f f.pushed w.under before.library before.loaded before.table all before.home (known_kept before.library before.loaded before.table before.activations all grows before.home before.home (λ r e. refl) (λ r e. refl) refl (λ i e. (e, refl)) before.stack.frame known)),
            each_costs before.library before.loaded before.table all before.home before.stack.callers (each_known before.library before.loaded before.table before.activations all grows before.home before.home (λ r e. refl) (λ r e. refl) refl (λ i e. (e, refl)) before.stack.callers shared.standing.callers),
          )

  short : (n : ℕ) → n ≤ total → m.limit < top_of before.stack.frame + frame_words its.locals its.body + n → IsShort before.library before.stack.base (next before.library now)
  short n few less = subst (IsShort before.library before.stack.base) (sym becomes) (record {
    less = omega (arith, calls_cost, less, few, shared.heap.rest, shared.standing.limit_is, top_low h.owner before.stack.base first f gs stands_here);
  })

  more : HasCalls before.library (next before.library now)
  more = subst (HasCalls before.library) (sym becomes) (inl (
      let one = slice_get_within before.activations before.stack.frame.activation known.its known.runs in
      let all_more = slice_get_within (s.activations ++ new ∷ []) (length s.activations) new (last_there s.activations new) in
      omega (arith, one, all_more, ap length shared.activations_are)
      ))

  -- ---- with room
  module _ (room : top_of before.stack.frame + frame_words its.locals its.body ≤ before.stack.limit) where
    abbrev lo : ℕ
    lo = top_of before.stack.frame

    abbrev hi : ℕ
    hi = top_of before.stack.frame + frame_words its.locals its.body

    abbrev second : List ℕ
    second = m.frame ∷ w.end ∷ m.running ∷ []

    abbrev blank : List ℕ
    blank = zeros (top_of before.stack.frame + frame_words its.locals its.body - m.top)

    blank_long : length (zeros (top_of before.stack.frame + frame_words its.locals its.body - m.top)) ≡ top_of before.stack.frame + frame_words its.locals its.body - m.top
    blank_long = zeros_length (top_of before.stack.frame + frame_words its.locals its.body - m.top)

    low : top_of before.stack.frame + frame_words its.locals its.body ≤ 65535
    low = omega (arith, room, shared.standing.high)

    second_room : top_of before.stack.frame + 1 + length second ≤ length m.store
    second_room = omega (arith, shared.mem.long, low)

    second_long : length called.store ≡ 65536
    second_long = spliced_length m.store (top_of before.stack.frame + 1) second second_room ∙ shared.mem.long

    third_room : m.top + length blank ≤ length called.store
    third_room = omega (arith, second_long, low, blank_long, holds_given)

    long : length inside.store ≡ 65536
    long = spliced_length called.store m.top blank third_room ∙ second_long

    stays : (i : ℕ) → (i < top_of before.stack.frame) ⊎ (top_of before.stack.frame + frame_words its.locals its.body ≤ i) → get_or inside.store i 0 ≡ get_or m.store i 0
    stays i (inl z) =
        spliced_before called.store m.top blank i third_room (omega (arith, z, top_is))
        ∙ spliced_before m.store (top_of before.stack.frame + 1) second i second_room (omega (arith, z))
    stays i (inr z) =
        spliced_after called.store m.top blank i third_room (omega (arith, z, blank_long, holds_given))
        ∙ spliced_after m.store (top_of before.stack.frame + 1) second i second_room (omega (arith, z))

    -- the mark's first word and the arguments are what was pushed
    link_there : get_or inside.store (top_of before.stack.frame) 0 ≡ get_or m.store (top_of before.stack.frame) 0
    link_there =
        spliced_before called.store m.top blank (top_of before.stack.frame) third_room (omega (arith, top_is))
        ∙ spliced_before m.store (top_of before.stack.frame + 1) second (top_of before.stack.frame) second_room (omega arith)

    mark_there : (i : ℕ) → i < 3 → get_or inside.store (top_of before.stack.frame + 1 + i) 0 ≡ get_or second i 0
    mark_there i less =
        spliced_before called.store m.top blank (top_of before.stack.frame + 1 + i) third_room (omega (arith, less, top_is))
        ∙ spliced_there m.store (top_of before.stack.frame + 1) second i second_room (omega (arith, less))

    was_pushed : (i : ℕ) → i < 4 + all_words shapes → h.owner (top_of before.stack.frame + i) ≡ Own
    was_pushed i less =
        ap h.owner (let e : top_of before.stack.frame + i ≡ before.stack.frame.at + (before.stack.frame.layout.frame + (before.stack.frame.pushed + i)) = omega arith in e)
        ∙ taller.own (before.stack.frame.layout.frame + (before.stack.frame.pushed + i)) (inr (omega (arith, words.mark), inr (omega (arith, w.pushed, copies_low)))) (omega (arith, less, top_is))

    pushed_there : (i : ℕ) → i < 4 + all_words shapes → get_or m.store (top_of before.stack.frame + i) 0 ≡ h.shadow (top_of before.stack.frame + i)
    pushed_there i less = shared.mem.kept (top_of before.stack.frame + i) (was_pushed i less)

    given_there : (i : ℕ) → i < all_words shapes → get_or inside.store (top_of before.stack.frame + 4 + i) 0 ≡ h.shadow (top_of before.stack.frame + 4 + i)
    given_there i less =
        spliced_before called.store m.top blank (top_of before.stack.frame + 4 + i) third_room (omega (arith, less, top_is))
        ∙ spliced_after m.store (top_of before.stack.frame + 1) second (top_of before.stack.frame + 4 + i) second_room (omega arith)
        ∙ ap (λ (j : ℕ). get_or m.store j 0) (let e : top_of before.stack.frame + 4 + i ≡ top_of before.stack.frame + (4 + i) = omega arith in e)
        ∙ pushed_there (4 + i) (omega (arith, less))
        ∙ ap h.shadow (let e : top_of before.stack.frame + (4 + i) ≡ top_of before.stack.frame + 4 + i = omega arith in e)

    zero_there : (i : ℕ) → m.top ≤ i → i < top_of before.stack.frame + frame_words its.locals its.body → get_or inside.store i 0 ≡ 0
    zero_there i from below =
        let n : ℕ = i - m.top in
        ap (λ (j : ℕ). get_or inside.store j 0) (let e : i ≡ m.top + (i - m.top) = omega (arith, from) in e)
        ∙ spliced_there called.store m.top blank n third_room (omega (arith, blank_long, from, below))
        ∙ zeros_word (top_of before.stack.frame + frame_words its.locals its.body - m.top) n (omega (arith, from, below))

    -- the frame's words are the machine's own, before its variables live
    abbrev mid : Home
    mid = record (before.home) {
      owner = painted before.home.owner (top_of before.stack.frame) (top_of before.stack.frame + frame_words its.locals its.body) (λ i. Own);
      shadow = painted before.home.shadow (top_of before.stack.frame) (top_of before.stack.frame + frame_words its.locals its.body) (λ i. get_or inside.store i 0);
    }

    abbrev Beside : ℕ → Type 0
    Beside i = (i < top_of before.stack.frame) ⊎ ((top_of before.stack.frame ≤ i) × (top_of before.stack.frame + frame_words its.locals its.body ≤ i))

    mid_own : (i : ℕ) → top_of before.stack.frame ≤ i → i < top_of before.stack.frame + frame_words its.locals its.body → mid.owner i ≡ Own
    mid_own i from below = painted_there before.home.owner lo hi (λ j. Own) i from below

    mid_beside : (i : ℕ) → Beside i → mid.owner i ≡ before.home.owner i
    mid_beside i o = painted_beside before.home.owner lo hi (λ j. Own) i o

    shadow_there : (i : ℕ) → top_of before.stack.frame ≤ i → i < top_of before.stack.frame + frame_words its.locals its.body → mid.shadow i ≡ get_or inside.store i 0
    shadow_there i from below = painted_there before.home.shadow lo hi (λ j. get_or inside.store j 0) i from below

    shadow_beside : (i : ℕ) → Beside i → mid.shadow i ≡ before.home.shadow i
    shadow_beside i o = painted_beside before.home.shadow lo hi (λ j. get_or inside.store j 0) i o

    was_ours : (i : ℕ) → top_of before.stack.frame ≤ i → i < top_of before.stack.frame + frame_words its.locals its.body → Ours (before.home.owner i)
    was_ours i from below =
        ⊎_elim (λ (z : i < m.top).
        inl (ap h.owner (let e : i ≡ top_of before.stack.frame + (i - top_of before.stack.frame) = omega (arith, from) in e) ∙ was_pushed (i - top_of before.stack.frame) (omega (arith, from, z, top_is))))
        (λ (z : m.top ≤ i). inr (before.stack.base, shared.standing.room i z (omega (arith, below, room)))) (cases_lt i m.top)

    each : (i : ℕ) → Stays h mid m.store inside.store i ⊎ Turns h mid inside.store i
    each i = by (side lo hi i)
      where
        by : Side lo hi i → Stays h mid m.store inside.store i ⊎ Turns h mid inside.store i
        by (Before z) = inl (record { owner = mid_beside i (inl z); shadow = shadow_beside i (inl z); word = stays i (inl z) })
        by (Between z y) = inr (record { before = was_ours i z y; after = inl (mid_own i z y); word = λ own. sym (shadow_there i z y) })
        by (Behind' z y) = inl (record { owner = mid_beside i (inr (z, y)); shadow = shadow_beside i (inr (z, y)); word = stays i (inr y) })

    -- and then they do
    abbrev x : Home
    x = born (length s.activations) 0 (top_of before.stack.frame + 4) its.locals mid

    unborn_yet : (y : ℕ) → before.home.shape (Local (length s.activations) y) ≡ Absent
    unborn_yet y = shared.unborn (length s.activations) y (omega (arith, ap length shared.activations_are))

    cell_there : (y o : ℕ) (t : Shape) (q : List ℕ) (j : Kind) → slice_get (offsets_from 4 its.locals) y ≡ Some o → slice_get its.locals y ≡ Some t → is_there t ≡ true → part_at t q ≡ Word j
        → IsWord mid j (with_locals s.cells (length s.activations) done its.locals (Local (length s.activations) (0 + y)) q) (get_or inside.store (top_of before.stack.frame + o + part_offset t q) 0)
    cell_there y o t q j at typed there is =
        let word = given_cells ctx s.cells inside.store (top_of before.stack.frame) shapes done others 4 w.given given_there
        (λ i from below. zero_there i (omega (arith, from, top_is)) (omega (arith, below, all_long)))
        y o t q j (ap (λ (ts : List Shape). slice_get (offsets_from 4 ts) y) split ∙ at) (ap (λ (ts : List Shape). slice_get ts y) split ∙ typed) there is in
        let cell = ap (λ (z : ℕ). with_locals s.cells (length s.activations) done its.locals (Local (length s.activations) z) q) (none_more y) ∙ fresh_local s.cells (length s.activations) done its.locals y t q typed in
        is_word_kept h mid (λ o e. refl) (λ o e. refl) refl (extends_self h.workspaces) j (with_locals s.cells (length s.activations) done its.locals (Local (length s.activations) (0 + y)) q) (get_or inside.store (top_of before.stack.frame + o + part_offset t q) 0)
        (subst (λ (v : Scalar). IsWord h j v (get_or inside.store (top_of before.stack.frame + o + part_offset t q) 0)) (sym cell) word)

    mem : Mem x (with_locals s.cells (length s.activations) done its.locals) inside.store
    mem =
        mem_born (length s.activations) 0 (top_of before.stack.frame + 4) (top_of before.stack.frame) 4 its.locals mid (with_locals s.cells (length s.activations) done its.locals) inside.store refl
        (mem_entered mid s.cells inside.store (length s.activations) done its.locals
        (mem_turned h m.store inside.store mid.owner mid.shadow h.workspaces each s.cells shared.mem (extends_self h.workspaces) (long ∙ sym shared.mem.long))
        unborn_yet)
        (λ y le. unborn_yet y)
        (λ i from below. mid_own i (omega (arith, from)) (omega (arith, below)))
        cell_there
        (omega (arith, low))

    -- what lives isn't one of them
    other_root : (r : Root) → lives before.home r ≡ true → IsOther (length s.activations) 0 r
    other_root (Global i j) e y le = refl
    other_root (Object o) e y le = refl
    other_root (Local b j) e y le = by (eqb (length s.activations) b) refl
      where
        by : (c : Bool) → eqb (length s.activations) b ≡ c → (c && eqb y j) ≡ false
        by true same = absurd (let gone : false ≡ true = ap is_there (sym (ap (λ (a : ℕ). before.home.shape (Local a j)) (sym (eqb-true (length s.activations) b same)) ∙ unborn_yet j)) ∙ e in cc)
        by false same = refl

    base_kept : (r : Root) → lives before.home r ≡ true → x.base r ≡ before.home.base r
    base_kept r e = base_other (length s.activations) 0 (top_of before.stack.frame + 4) its.locals before.home.base r (other_root r e)

    shape_kept : (r : Root) → lives before.home r ≡ true → x.shape r ≡ before.home.shape r
    shape_kept r e = shape_other (length s.activations) 0 its.locals before.home.shape r (other_root r e)

    -- the owners of the frame's words
    owner_own : (i : ℕ) → top_of before.stack.frame ≤ i → (i < top_of before.stack.frame + 4) ⊎ (top_of before.stack.frame + 4 + all_words its.locals ≤ i) → i < top_of before.stack.frame + frame_words its.locals its.body → x.owner i ≡ Own
    owner_own i from free below = owner_other (length s.activations) 0 (top_of before.stack.frame + 4) its.locals mid.owner i free ∙ mid_own i from below

    owner_mine : (i : ℕ) → top_of before.stack.frame ≤ i → i < top_of before.stack.frame + frame_words its.locals its.body → (x.owner i ≡ Own) ⊎ ((y : ℕ) × (x.owner i ≡ Of (Local (length s.activations) y)))
    owner_mine i from below = by (side (top_of before.stack.frame + 4) (top_of before.stack.frame + 4 + all_words its.locals) i)
      where
        by : Side (top_of before.stack.frame + 4) (top_of before.stack.frame + 4 + all_words its.locals) i → (x.owner i ≡ Own) ⊎ ((y : ℕ) × (x.owner i ≡ Of (Local (length s.activations) y)))
        by (Before z) = inl (owner_own i from (inl z) below)
        by (Between z y) = ⊎_elim (λ same. inl (same ∙ mid_own i from below)) (λ one. inr one) (owner_there (length s.activations) 0 (top_of before.stack.frame + 4) its.locals mid.owner i z y)
        by (Behind' z y) = inl (owner_own i from (inr y) below)

    owner_beside : (i : ℕ) → Beside i → x.owner i ≡ before.home.owner i
    owner_beside i o =
        owner_other (length s.activations) 0 (top_of before.stack.frame + 4) its.locals mid.owner i
        (⊎_elim (λ (z : i < top_of before.stack.frame). inl (omega (arith, z))) (λ (z : (top_of before.stack.frame ≤ i) × (top_of before.stack.frame + frame_words its.locals its.body ≤ i)). inr (omega (arith, z.1))) o) ∙ mid_beside i o

    fixed_kept : (i : ℕ) → before.home.owner i ≡ Fixed → (x.owner i ≡ Fixed) × (x.shadow i ≡ before.home.shadow i)
    fixed_kept i is = by (side lo hi i)
      where
        by : Side lo hi i → (x.owner i ≡ Fixed) × (x.shadow i ≡ before.home.shadow i)
        by (Before z) = (owner_beside i (inl z) ∙ is, shadow_beside i (inl z))
        by (Between z y) = absurd (ours_fixed (before.home.owner i) (was_ours i z y) is)
        by (Behind' z y) = (owner_beside i (inr (z, y)) ∙ is, shadow_beside i (inr (z, y)))

    unborn : IsUnborn x.shape all
    unborn b j past =
        shape_other (length s.activations) 0 its.locals before.home.shape (Local b j) (λ y le. by y (eqb (length s.activations) b) refl)
        ∙ shared.unborn b j (omega (arith, past, length_push before.activations new))
      where
        by : (y : ℕ) (c : Bool) → eqb (length s.activations) b ≡ c → (c && eqb y j) ≡ false
        by y true same = absurd (omega (arith, eqb-true (length s.activations) b same, past, length_push before.activations new, ap length shared.activations_are))
        by y false same = refl

    exact : framed (frame_words its.locals its.body) ≡ frame_words its.locals its.body
    exact = omega (arith, low)

    enters_it : advanced (running called s.world) ≡ running inside s.world
    enters_it = advances called s.world _ (
        enters
        ∙ ap (λ (n : ℕ). enter_row n code.code.begun called) exact
        ∙ no _ _ _ (le-ltb (top_of before.stack.frame + frame_words its.locals its.body) m.top holds_given)
        ∙ no _ _ _ (le-ltb m.limit (top_of before.stack.frame + frame_words its.locals its.body) (omega (arith, room, shared.standing.limit_is)))
        )

    -- so are open arrays, those that are copied as their copies
    given_word : (o : ℕ) → 4 ≤ o → o < 4 + all_words shapes → x.shadow (top_of before.stack.frame + o) ≡ h.shadow (top_of before.stack.frame + o)
    given_word o from below =
        shadow_there (top_of before.stack.frame + o) (omega arith) (omega (arith, below, all_long))
        ∙ ap (λ (j : ℕ). get_or inside.store j 0) (let e : top_of before.stack.frame + o ≡ top_of before.stack.frame + 4 + (o - 4) = omega (arith, from) in e)
        ∙ given_there (o - 4) (omega (arith, from, below))
        ∙ ap h.shadow (let e : top_of before.stack.frame + 4 + (o - 4) ≡ top_of before.stack.frame + o = omega (arith, from) in e)

    -- the words of one that is a parameter are the machine's own
    opened_own : (y o : ℕ) (copied : Bool) (t : Shape) → slice_get (offsets_from 4 its.locals) y ≡ Some o → slice_get its.locals y ≡ Some (Opened copied t) → (i : ℕ) → o ≤ i → i < o + 2 → i < frame_words its.locals its.body → x.owner (top_of before.stack.frame + i) ≡ Own
    opened_own y o copied t at typed i from below less =
        owner_handed (length s.activations) 0 (top_of before.stack.frame + 4) (top_of before.stack.frame) 4 its.locals mid.owner refl y o (Opened copied t) at typed refl i from below ∙ mid_own (top_of before.stack.frame + i) (omega arith) (omega (arith, less))

    -- ---- with copies
    abbrev cells : Cells
    cells = with_locals s.cells (length s.activations) done its.locals

    abbrev Copied : ℕ → ℕ → ℕ → Home → List ℕ → Type 0
    Copied y o top z store = Copying x (with_locals s.cells (length s.activations) done its.locals) (length s.activations) (top_of before.stack.frame) (top_of before.stack.frame + frame_words its.locals its.body) its.locals new.slots y o top z store

    -- what lives stays
    alive : (q : Root) → lives before.home q ≡ true → lives x q ≡ true
    alive (Global i j) e = refl
    alive (Local b j) e = ap is_there (shape_kept (Local b j) e) ∙ e
    alive (Object o) e = ap is_there (shape_kept (Object o) e) ∙ e

    module _ (y0 o top : ℕ) (z : Home) (store : List ℕ) (r : Copied y0 o top z store) where
      base_copied : (q : Root) → lives before.home q ≡ true → z.base q ≡ before.home.base q
      base_copied q e = r.base q (alive q e) ∙ base_kept q e

      shape_copied : (q : Root) → lives before.home q ≡ true → z.shape q ≡ before.home.shape q
      shape_copied q e = r.shape q (alive q e) ∙ shape_kept q e

      module _ (roomy : top ≤ before.stack.limit) (reach : o ≤ frame_words its.locals its.body) where
        ours_copied : (i : ℕ) → top_of before.stack.frame ≤ i → i < top → Ours (before.home.owner i)
        ours_copied i from below =
            ⊎_elim (λ (less : i < top_of before.stack.frame + frame_words its.locals its.body). was_ours i from less)
            (λ (more : top_of before.stack.frame + frame_words its.locals its.body ≤ i). inr (before.stack.base, shared.standing.room i (omega (arith, more, holds_given)) (omega (arith, below, roomy)))) (cases_lt i (top_of before.stack.frame + frame_words its.locals its.body))

        owner_copied : (i : ℕ) → (i < top_of before.stack.frame) ⊎ ((top_of before.stack.frame ≤ i) × (top ≤ i)) → z.owner i ≡ before.home.owner i
        owner_copied i (inl l) = r.frame_owner i (omega (arith, l)) ∙ owner_beside i (inl l)
        owner_copied i (inr g) = r.rest_owner i g.1 ∙ owner_beside i (inr (g.0, omega (arith, g.1, r.above)))

        shadow_copied : (i : ℕ) → Beside i → z.shadow i ≡ before.home.shadow i
        shadow_copied i (inl l) = r.other_shadow i (inl (omega (arith, l))) ∙ shadow_beside i (inl l)
        shadow_copied i (inr g) = r.other_shadow i (inr (omega (arith, g.1, reach))) ∙ shadow_beside i (inr g)

        fixed_copied : (i : ℕ) → before.home.owner i ≡ Fixed → (z.owner i ≡ Fixed) × (z.shadow i ≡ before.home.shadow i)
        fixed_copied i is = by (side lo top i)
          where
            by : Side lo top i → (z.owner i ≡ Fixed) × (z.shadow i ≡ before.home.shadow i)
            by (Before l) = (owner_copied i (inl l) ∙ is, shadow_copied i (inl l))
            by (Between l g) = absurd (ours_fixed (before.home.owner i) (ours_copied i l g) is)
            by (Behind' l g) = (owner_copied i (inr (l, g)) ∙ is, shadow_copied i (inr (l, omega (arith, g, r.above))))

    module _ (top : ℕ) (z : Home) (store : List ℕ) (r : Copied (length shapes) (4 + all_words shapes) top z store) (top_total : top ≡ top_of before.stack.frame + frame_words its.locals its.body + total) (fits : top ≤ before.stack.limit) where
      base_z : (q : Root) → lives before.home q ≡ true → z.base q ≡ before.home.base q
      base_z = base_copied (length shapes) (4 + all_words shapes) top z store r

      shape_z : (q : Root) → lives before.home q ≡ true → z.shape q ≡ before.home.shape q
      shape_z = shape_copied (length shapes) (4 + all_words shapes) top z store r

      below_parameters : 4 + all_words shapes ≤ frame_words its.locals its.body
      below_parameters = omega (arith, all_long)

      own_z : (i : ℕ) → top_of before.stack.frame ≤ i → (i < top_of before.stack.frame + 4) ⊎ (top_of before.stack.frame + 4 + all_words its.locals ≤ i) → i < top_of before.stack.frame + frame_words its.locals its.body → z.owner i ≡ Own
      own_z i from free below = r.frame_owner i below ∙ owner_own i from free below

      mine_z : (i : ℕ) → top_of before.stack.frame ≤ i → i < top → (z.owner i ≡ Own) ⊎ ((y : ℕ) × (z.owner i ≡ Of (Local (length s.activations) y)))
      mine_z i from below =
          ⊎_elim (λ (less : i < top_of before.stack.frame + frame_words its.locals its.body). ⊎_elim (λ own. inl (r.frame_owner i less ∙ own)) (λ one. inr (one.0, r.frame_owner i less ∙ one.1)) (owner_mine i from less))
          (λ (more : top_of before.stack.frame + frame_words its.locals its.body ≤ i). inr (r.copies_owner i more below)) (cases_lt i (top_of before.stack.frame + frame_words its.locals its.body))

      owner_z : (i : ℕ) → (i < top_of before.stack.frame) ⊎ ((top_of before.stack.frame ≤ i) × (top ≤ i)) → z.owner i ≡ before.home.owner i
      owner_z = owner_copied (length shapes) (4 + all_words shapes) top z store r fits below_parameters

      shadow_z : (i : ℕ) → Beside i → z.shadow i ≡ before.home.shadow i
      shadow_z = shadow_copied (length shapes) (4 + all_words shapes) top z store r fits below_parameters

      mark_z : (i : ℕ) → top_of before.stack.frame ≤ i → i < top_of before.stack.frame + 4 → z.shadow i ≡ get_or inside.store i 0
      mark_z i from below = r.other_shadow i (inl below) ∙ shadow_there i from (omega (arith, below, below_parameters))

      fixed_z : (i : ℕ) → before.home.owner i ≡ Fixed → (z.owner i ≡ Fixed) × (z.shadow i ≡ before.home.shadow i)
      fixed_z = fixed_copied (length shapes) (4 + all_words shapes) top z store r fits below_parameters

      extends_z : Extends z.workspaces before.home.workspaces
      extends_z = subst (λ (ws : List ℕ). Extends ws before.home.workspaces) (sym r.workspaces) (extends_self before.home.workspaces)

      heap : IsHeap z.base z.shape z.workspaces s.objects s.workspaces before.stack.limit
      heap = subst (λ (ws : List ℕ). IsHeap z.base z.shape ws s.objects s.workspaces before.stack.limit) (sym r.workspaces) (record {
        born = λ o. object_shape o ∙ shared.heap.born o;
        above = λ o there. let here = ap is_there (sym (object_shape o)) ∙ there in omega (arith, base_z (Object o) here, shared.heap.above o here);
        apart = λ o p one two same.
            let here = ap is_there (sym (object_shape o)) ∙ one in
            let other = ap is_there (sym (object_shape p)) ∙ two in
            shared.heap.apart o p here other (sym (base_z (Object o) here) ∙ same ∙ base_z (Object p) other);
        known = shared.heap.known;
        clear = shared.heap.clear;
        distinct = shared.heap.distinct;
        rest = shared.heap.rest;
      })
        where
          object_shape : (o : ℕ) → z.shape (Object o) ≡ before.home.shape (Object o)
          object_shape o = r.other_shape (Object o) refl ∙ shape_other (length s.activations) 0 its.locals before.home.shape (Object o) (λ y le. refl)

      unborn_z : IsUnborn z.shape all
      unborn_z b j past = r.other_shape (Local b j) (by (length s.activations == b) refl) ∙ unborn b j past
        where
          by : (c : Bool) → (length s.activations == b) ≡ c → c ≡ false
          by true same = absurd (omega (arith, eqb-true (length s.activations) b same, past, length_push before.activations new, ap length shared.activations_are))
          by false same = refl

      abbrev done_state : State
      done_state = record inside { place = code.code.start; top = top; store = store }

      stands_own : (i : ℕ) → IsFree frame i → top_of before.stack.frame + i < top → z.owner (top_of before.stack.frame + i) ≡ Own
      stands_own i (inl l) less = own_z (top_of before.stack.frame + i) (omega arith) (inl (omega (arith, l))) (omega (arith, l, below_parameters))
      stands_own i (inr (g, inl l)) less = own_z (top_of before.stack.frame + i) (omega arith) (inr (omega (arith, g, words_are))) (omega (arith, l, code.frame))
      stands_own i (inr (g, inr past)) less = absurd (omega (arith, past, less, code.frame, top_total))

      abbrev stack : Stack
      stack = record (before.stack) { frame = frame; callers = before.stack.frame ∷ before.stack.callers }

      abbrev within : Setting
      within = record before { activations = all; home = z; stack = stack }

      new_known : IsKnown before.library before.loaded before.table all z frame
      new_known =
          let kept = known_kept before.library before.loaded before.table before.activations before.activations (λ i b e. e) h z (λ n y. base_z (Global n y) refl) (λ n y. shape_z (Global n y) refl) r.listed fixed_z before.stack.frame known in
          known_part before.library before.loaded before.table before.activations all z before.stack.frame code.inner (length s.activations) proc code.entry code.after (stretch code.entry code.after before.stack.frame.own.code) (top_of before.stack.frame) total total (top_of before.stack.frame ∷ outward levels) w.end code.part new runs (ap owner_of runs ∙ owner_is) (ap procedure_of runs)
          (record { there = code.there ∙ ap (λ (n : Option (List ℕ)). Some (code.entry, n)) (sym (name_known (loaded_at before.library before.loaded before.stack.frame.number) proc its listed)); apart = code.apart })
          piece_is
          (code.frame ∙ sym (frame_known (loaded_at before.library before.loaded before.stack.frame.number) proc its listed)) copies_are (result_inside ∙ sym (ap procedure_result listed)) kept

      -- its first word says where the frame of the activation around it begins
      linked : (n : ℕ) → levels ≡ n → Declared before.stack.frame.layout.scope.chain n its.around
          → Linked z.shadow all (length s.activations) before.stack.frame.number (top_of before.stack.frame) (top_of before.stack.frame ∷ outward levels) (proc ∷ its.around) (before.stack.frame ∷ before.stack.callers)
      linked zero e d = subst (λ (es : List ℕ). Linked z.shadow all (length s.activations) before.stack.frame.number (top_of before.stack.frame) (top_of before.stack.frame ∷ outward levels) (proc ∷ es) (before.stack.frame ∷ before.stack.callers)) (sym d) (ap (λ (n : ℕ). top_of before.stack.frame ∷ outward n) e)
      linked (suc i) e d =
          let one = drop-cons before.stack.frame.layout.scope.chain i 0 d.0 in
          let up : Climbs before.activations m.store before.stack.frame before.stack.callers i =
          climbs h.shadow before.activations m.store f gs links_here
          (λ g among. shared.mem.kept g.at (first_own h.owner before.stack.base first f gs stands_here g among)) i d.0 in
          let link : slice_get before.stack.frame.display i ≡ Some (h.shadow (top_of before.stack.frame)) = subst (λ (n : ℕ). IsLink before.stack.frame.display n (h.shadow (top_of before.stack.frame))) e w.link in
          subst (λ (es : List ℕ). Linked z.shadow all (length s.activations) before.stack.frame.number (top_of before.stack.frame) (top_of before.stack.frame ∷ outward levels) (proc ∷ es) (before.stack.frame ∷ before.stack.callers)) (sym (d.1 ∙ one))
          (record {
            to = up.to;
            among = up.among;
            outer = ap outer_of runs
                ∙ ap (declaring s.activations (current k)) e
                ∙ ap (λ (b : ℕ). level_out s.activations b i) close
                ∙ ap (λ (z : List Activation). level_out z before.stack.frame.activation i) shared.activations_are
                ∙ up.level;
            owner = up.owner;
            display = ap (λ (n : ℕ). top_of before.stack.frame ∷ outward n) e ∙ ap (λ (ds : List ℕ). top_of before.stack.frame ∷ ds) up.display;
            chain = up.chain ∙ one;
            word = mark_z (top_of before.stack.frame) (omega arith) (omega arith)
                ∙ link_there
                ∙ ap (λ (i : ℕ). get_or m.store i 0) (let e : top_of before.stack.frame ≡ top_of before.stack.frame + 0 = omega arith in e)
                ∙ pushed_there 0 (omega arith)
                ∙ ap h.shadow (let e : top_of before.stack.frame + 0 ≡ top_of before.stack.frame = omega arith in e)
                ∙ same_Some (h.shadow (top_of before.stack.frame)) up.to.at (sym link ∙ up.shown);
          })

      born_is : (y : ℕ) (t : Shape) → slice_get its.locals y ≡ Some t → is_there t ≡ true → x.shape (Local (length s.activations) y) ≡ t
      born_is y t typed there = ap (λ (j : ℕ). x.shape (Local (length s.activations) j)) (sym (none_more y)) ∙ born_shape (length s.activations) 0 its.locals before.home.shape y t typed there

      new_locals : HasLocals all z frame
      new_locals = record {
        its = new;
        runs = runs;
        variables = λ y offset t at typed there.
            let at_here = ap (λ (ts : List Shape). slice_get (offsets_from 4 ts) y) (sym locals_are) ∙ at in
            let typed_here = ap (λ (ts : List Shape). slice_get ts y) (sym locals_are) ∙ typed in (
              ap (λ (ts : List Shape). slice_get (slots_by (length s.activations) 0 done ts) y) (sym split) ∙ slots_here ctx (length s.activations) 0 shapes done others (top_of before.stack.frame + 4) y t w.given (ap (λ (ts : List Shape). slice_get ts y) split ∙ typed_here) there,
              r.shape (Local (length s.activations) y) (ap is_there (born_is y t typed_here there) ∙ there) ∙ born_is y t typed_here there,
              r.base (Local (length s.activations) y) (ap is_there (born_is y t typed_here there) ∙ there) ∙ ap (λ (j : ℕ). x.base (Local (length s.activations) j)) (sym (none_more y)) ∙ base_there (length s.activations) 0 (top_of before.stack.frame + 4) (top_of before.stack.frame) 4 its.locals before.home.base refl y offset at_here,
            );
      }

      -- what was handed in lies where the words say
      new_handed : HasHanded all z frame (before.stack.frame ∷ (before.stack.callers ++ before.stack.bodies))
      new_handed y o t at typed there =
          let at_here = ap (λ (ts : List Shape). slice_get (offsets_from 4 ts) y) (sym locals_are) ∙ at in
          let typed_here : slice_get its.locals y ≡ Some (Address t) = ap (λ (ts : List Shape). slice_get ts y) (sym locals_are) ∙ parameter_variable code.inner.scope 0 y (Address t) typed in
          let typed_given = ap (λ (ts : List Shape). slice_get ts y) (sym parameters_here) ∙ typed in
          let at_given = ap (λ (ts : List Shape). slice_get (offsets_from 4 ts) y) split ∙ at_here in
          let one = handed_word ctx (length s.activations) 0 shapes done others (top_of before.stack.frame) 4 y o t w.given at_given typed_given in
          let lies = given_low ctx shapes others 4 y o (Address t) at_given typed_given in
          let place = one.place in
          let seen : sees (frames_of before.stack) place.root ≡ true = sym (sees_pushed before.stack.frame ((4 + all_words shapes) + before.stack.frame.pushed) (before.stack.callers ++ before.stack.bodies) place.root) ∙ one.seen in
          let alive_here = place_lives before.home place t one.living one.there in
          let same = shape_z place.root alive_here in
          let moved : address before.home place ≡ address z place = omega (arith, base_z place.root alive_here, ap (λ (z : Shape). part_offset z place.path) same) in
          let inside_it : top_of before.stack.frame + o < top_of before.stack.frame + frame_words its.locals its.body = omega (arith, lies.1, all_long) in
          record {
            its = new;
            runs = runs;
            place = place;
            slot = ap (λ (ts : List Shape). slice_get (slots_by (length s.activations) 0 done ts) y) (sym split) ∙ one.slot;
            seen = seen;
            living = ap (λ (z : Shape). part_at z place.path) same ∙ one.living;
            own = r.frame_owner (top_of before.stack.frame + o) inside_it
                ∙ owner_handed (length s.activations) 0 (top_of before.stack.frame + 4) (top_of before.stack.frame) 4 its.locals mid.owner refl y o (Address t) at_here typed_here refl o (omega arith) (omega arith) ∙ mid_own (top_of before.stack.frame + o) (omega arith) inside_it;
            word = r.stays y o (Address t) (slice_get_within shapes y (Address t) typed_given) at_here typed_here refl o (omega arith) (omega arith)
                ∙ given_word o lies.0 (omega (arith, lies.1))
                ∙ one.word
                ∙ moved;
          }

      -- so are open arrays, those that are copied as their copies
      new_opened : HasOpened all z frame (before.stack.frame ∷ (before.stack.callers ++ before.stack.bodies))
      new_opened y o copied t at typed there = by copied refl
        where
          at_here : slice_get (offsets_from 4 its.locals) y ≡ Some o
          at_here = ap (λ (ts : List Shape). slice_get (offsets_from 4 ts) y) (sym locals_are) ∙ at

          typed_here : slice_get its.locals y ≡ Some (Opened copied t)
          typed_here = ap (λ (ts : List Shape). slice_get ts y) (sym locals_are) ∙ parameter_variable code.inner.scope 0 y (Opened copied t) typed

          typed_given : slice_get shapes y ≡ Some (Opened copied t)
          typed_given = ap (λ (ts : List Shape). slice_get ts y) (sym parameters_here) ∙ typed

          at_given : slice_get (offsets_from 4 (shapes ++ others)) y ≡ Some o
          at_given = ap (λ (ts : List Shape). slice_get (offsets_from 4 ts) y) split ∙ at_here

          lies : (4 ≤ o) × (o + 2 ≤ 4 + all_words shapes)
          lies = given_low ctx shapes others 4 y o (Opened copied t) at_given typed_given

          small : y < length shapes
          small = slice_get_within shapes y (Opened copied t) typed_given

          own : (i : ℕ) → o ≤ i → i < o + 2 → z.owner (top_of before.stack.frame + i) ≡ Own
          own i from below = r.frame_owner (top_of before.stack.frame + i) (omega (arith, below, lies.1, below_parameters)) ∙ opened_own y o copied t at_here typed_here i from below (omega (arith, below, lies.1, below_parameters))

          by : (b : Bool) → copied ≡ b → OpenedIn all z frame (before.stack.frame ∷ (before.stack.callers ++ before.stack.bodies)) y o t
          by false is =
              let lent_here : slice_get its.locals y ≡ Some (Opened false t) = typed_here ∙ ap (λ (b : Bool). Some (Opened b t)) is in
              let one = opened_words ctx (length s.activations) 0 shapes done others (top_of before.stack.frame) 4 y o t w.given at_given (typed_given ∙ ap (λ (b : Bool). Some (Opened b t)) is) in
              let place = one.place in
              let seen : sees (frames_of before.stack) place.root ≡ true = sym (sees_pushed before.stack.frame ((4 + all_words shapes) + before.stack.frame.pushed) (before.stack.callers ++ before.stack.bodies) place.root) ∙ one.seen in
              let alive_here = place_lives before.home place (Row (suc one.high) t) one.living refl in
              let same = shape_z place.root alive_here in
              let moved : address before.home place ≡ address z place = omega (arith, base_z place.root alive_here, ap (λ (u : Shape). part_offset u place.path) same) in
              let stays : (i : ℕ) → o ≤ i → i < o + 2 → z.shadow (top_of before.stack.frame + i) ≡ h.shadow (top_of before.stack.frame + i) = λ i from below. r.stays y o (Opened false t) small at_here lent_here refl i from below ∙ given_word i (omega (arith, from, lies.0)) (omega (arith, below, lies.1)) in
              record {
                its = new;
                runs = runs;
                place = place;
                high = one.high;
                slot = ap (λ (ts : List Shape). slice_get (slots_by (length s.activations) 0 done ts) y) (sym split) ∙ one.slot;
                seen = sees_more frame (frames_of before.stack) place.root seen;
                living = ap (λ (u : Shape). part_at u place.path) same ∙ one.living;
                low = one.low;
                own = own o (omega arith) (omega arith);
                own_high = own (o + 1) (omega arith) (omega arith);
                word = stays o (omega arith) (omega arith) ∙ one.word ∙ moved;
                word_high = stays (o + 1) (omega arith) (omega arith) ∙ ap h.shadow (let e : top_of before.stack.frame + (o + 1) ≡ top_of before.stack.frame + o + 1 = omega arith in e) ∙ one.word_high;
              }
          by true is =
              let one = r.copies y o t small at_here (typed_here ∙ ap (λ (b : Bool). Some (Opened b t)) is) in
              record {
                its = new;
                runs = runs;
                place = record { root = Local (length s.activations) y; path = [] };
                high = one.high;
                slot = one.slot;
                seen = own_seen frame (frames_of before.stack) y;
                living = one.living;
                low = one.low;
                own = own o (omega arith) (omega arith);
                own_high = own (o + 1) (omega arith) (omega arith);
                word = one.word ∙ (let e : z.base (Local (length s.activations) y) ≡ z.base (Local (length s.activations) y) + 0 = omega arith in e);
                word_high = one.word_high;
              }

      not_seen : (b : Bool) → list_any (is_of (length s.activations)) (frames_of before.stack) ≡ b → b ≡ false
      not_seen false e = refl
      not_seen true e = absurd (omega (arith, seen_within before.activations before.home (frames_of before.stack) locals_here (length s.activations) e, ap length shared.activations_are))

      came : (b : ℕ) (c : Bool) → (length s.activations == b) ≡ c → (c || list_any (is_of b) (frames_of before.stack)) ≡ true → (list_any (is_of b) (frames_of ctx.stack) ≡ true) ⊎ (length before.activations ≤ b)
      came b true e seen = inr (omega (arith, eqb-true (length s.activations) b e, ap length shared.activations_are))
      came b false e seen = inl seen

      below_same : (i : ℕ) → i < top_of before.stack.frame → z.owner i ≡ before.home.owner i
      below_same i l = owner_z i (inl l)

      left : Rows (renewed (with_pushed before w.under) all z before.stack.limit) k (resumed_mode w.resumed) w.after (resumed_stack w.resumed) c a
      left =
          rows_renewed k (with_pushed before w.under) all z before.stack.limit (before.stack.base + 4) (above.1.0, above.1.1) _ w.after _ c a
          (record {
            pushed = λ i less. shadow_z (before.stack.frame.at + (before.stack.frame.layout.frame + i)) (inl (omega (arith, less, w.pushed)));
            shadow = λ i from below. shadow_z i (inl (omega (arith, below, loops)));
            base = λ r seen e. base_z r e;
            shape = λ r seen e. shape_z r e;
            listed = r.listed;
            workspaces = extends_z;
          })
          w.then

      goes_in : (from : State) → advanced (running from s.world) ≡ running done_state s.world → Goes ctx s items from (c + 1)
      goes_in from step =
          let g = shared.standing in
          goes_one_grown ctx s items from all z stack (c + 1) c (running done_state s.world) step
          (subst (λ (t : Source). Lands within t.phase t (running done_state s.world) c) (sym becomes)
          (record {
            machine = done_state;
            is = refl;
            met = record {
              shared = record {
                mem = r.mem;
                heap = heap;
                unborn = unborn_z;
                program = record { table_is = shared.program.table_is; known = shared.program.known; piece = piece_is; running_is = shared.program.running_is; marked_is = shared.program.marked_is };
                standing = record {
                  frame_is = refl;
                  base_is = g.base_is;
                  limit_is = g.limit_is;
                  bodies_are = g.bodies_are;
                  known = new_known;
                  callers = (
                    known_kept before.library before.loaded before.table before.activations all grows h z (λ n y. base_z (Global n y) refl) (λ n y. shape_z (Global n y) refl) r.listed fixed_z before.stack.frame known,
                    each_known before.library before.loaded before.table before.activations all grows h z (λ n y. base_z (Global n y) refl) (λ n y. shape_z (Global n y) refl) r.listed fixed_z before.stack.callers g.callers,
                  );
                  comes = each_comes before.library before.loaded before.table before.activations all grows h z (λ n y. base_z (Global n y) refl) (λ n y. shape_z (Global n y) refl) r.listed fixed_z before.stack.base before.stack.bodies g.comes;
                  stands = (
                    record {
                      mark = omega (arith, code.frame, words_are);
                      top_is = omega (arith, code.frame, top_total);
                      own = λ i free l. stands_own i free l;
                      mine = λ i l. mine_z (top_of before.stack.frame + i) (omega arith) l;
                    },
                    stands_kept h.owner z.owner before.stack.base first f gs (λ i from below. below_same i below) stands_here,
                  );
                  links = (
                    subst (λ (es : List ℕ). Linked z.shadow all (length s.activations) before.stack.frame.number (top_of before.stack.frame) (top_of before.stack.frame ∷ outward levels) es (before.stack.frame ∷ before.stack.callers)) (sym code.chain) (linked levels refl declared),
                    chained_kept h.shadow z.shadow before.activations all grows h.owner before.stack.base first f gs stands_here (λ i from below. shadow_z i (inl (omega (arith, below, words.mark)))) links_here,
                  );
                  locals = (new_locals, not_seen (list_any (is_of (length s.activations)) (frames_of before.stack)) refl, each_local before.activations all grows h z (frames_of before.stack) (λ r seen. base_z r) (λ r seen. shape_z r) locals_here);
                  handed = (
                    new_handed,
                    new_opened,
                    each_handed before.activations all grows h z before.stack.bodies before.stack.base first f gs stands_here
                        (λ i from below. (below_same i (omega (arith, below, words.mark)), shadow_z i (inl (omega (arith, below, words.mark))))) (λ r seen. base_z r) (λ r seen. shape_z r) handed_here,
                  );
                  room = λ i from below. owner_z i (inr (omega (arith, from, r.above), from)) ∙ g.room i (omega (arith, from, holds_given, r.above)) below;
                  based = g.based;
                  low = fits;
                  high = g.high;
                };
                activations_are = ap (λ (z : List Activation). z ++ new ∷ []) shared.activations_are;
                loaded_are = shared.loaded_are;
                levels = shared.levels;
                parked_are = shared.parked_are;
                kept_are = shared.kept_are;
              };
              around = outside frame;
              ahead = subst (λ (z : List ℕ). Ahead within entering.items Quiet code.code.start z c (outside frame)) (sym empty)
                  (rows_ahead within entering.items code.code.start [] c (outside frame)
                  (body_rows within its.body (Perform (End (length s.activations)) ∷ k) code.code.start code.code.end c (outside frame) (subst (λ (n : ℕ). BodyAt (record (code.inner) { target = exactly }) (stretch code.entry code.after before.stack.frame.own.code) n None its.body code.code.start code.code.end) (sym words_are) code.code.body) (instr_within (stretch code.entry code.after before.stack.frame.own.code) code.code.end (leave_code its.result) code.after code.code.leave)
                  (at_once within _ Quiet code.code.end [] c (outside frame)
                  (record {
                    quiet = refl;
                    empty = refl;
                    activation = refl;
                    alone = refl;
                    free = code.free;
                    idle = refl;
                    end = code.after;
                    leave = subst (λ (r : Option Kind). IsAt (stretch code.entry code.after before.stack.frame.own.code) code.code.end (leave_code r) code.after) (sym result_inside) code.code.leave;
                    behind = record {
                      before = number.before;
                      called = number.is;
                      resumed = w.resumed;
                      returns = result_inside ∙ sym its_result ∙ w.returns;
                      under_saved = w.under;
                      pushed_is = w.pushed;
                      saved = saved_kept h.shadow z.shadow w.resumed (before.stack.frame.at + (before.stack.frame.layout.frame + w.under)) (λ i less. shadow_z _ (inl (omega (arith, less, w.pushed)))) w.saved;
                      after = w.after;
                      restore = w.restore;
                      within = w.within;
                      outer = a;
                      under = omega (arith, loops);
                      mark = omega (arith, words.mark);
                      pushed = omega arith;
                      frame = mark_z (top_of before.stack.frame + 1) (omega arith) (omega arith) ∙ ap (λ (i : ℕ). get_or inside.store i 0) (let e : top_of before.stack.frame + 1 ≡ top_of before.stack.frame + 1 + 0 = omega arith in e) ∙ mark_there 0 (omega arith) ∙ g.frame_is;
                      place = mark_z (top_of before.stack.frame + 2) (omega arith) (omega arith) ∙ ap (λ (i : ℕ). get_or inside.store i 0) (let e : top_of before.stack.frame + 2 ≡ top_of before.stack.frame + 1 + 1 = omega arith in e) ∙ mark_there 1 (omega arith);
                      module' = mark_z (top_of before.stack.frame + 3) (omega arith) (omega arith) ∙ ap (λ (i : ℕ). get_or inside.store i 0) (let e : top_of before.stack.frame + 3 ≡ top_of before.stack.frame + 1 + 2 = omega arith in e) ∙ mark_there 2 (omega arith) ∙ shared.program.running_is;
                      then = left;
                    };
                  }))));
            };
          }))
          (record {
            owner = λ i o. owner_z i (⊎_elim (λ (z : i < before.stack.base). inl (omega (arith, z, above.0))) (λ (z : before.stack.limit ≤ i). inr (omega (arith, z, room), omega (arith, z, fits))) o);
            shadow = λ i o. shadow_z i (⊎_elim (λ (z : i < before.stack.base). inl (omega (arith, z, above.0))) (λ (z : before.stack.limit ≤ i). inr (omega (arith, z, room), omega (arith, z, room))) o);
            base = λ r away e. base_z r e;
            shape = λ r away e. shape_z r e;
            listed = r.listed;
            workspaces = extends_z;
            fixed = fixed_z;
          })
          (record { base = refl; limit = omega arith; frames = λ b seen. came b (length s.activations == b) refl seen })
          grows
          (omega arith)

    -- ---- the copies, one behind the other
    abbrev piece : List ℕ
    piece = stretch code.entry code.after before.stack.frame.own.code

    -- the parameters from one on
    record Aligned (ts : List Shape) (ds : List Datum) (y0 o : ℕ) : Type 0 where
      shape : (y : ℕ) (t : Shape) → slice_get ts y ≡ Some t → slice_get its.locals (y0 + y) ≡ Some t
      offset : (y off : ℕ) → slice_get (offsets_from o ts) y ≡ Some off → slice_get (offsets_from 4 its.locals) (y0 + y) ≡ Some off
      datum : (y : ℕ) (d : Datum) → slice_get ds y ≡ Some d → slice_get done (y0 + y) ≡ Some d
      slot : (y : ℕ) (v : Slot) → slice_get (slots_by (length s.activations) y0 ds ts) y ≡ Some v → slice_get new.slots (y0 + y) ≡ Some v

    next_one : (y0 y : ℕ) → y0 + suc y ≡ suc y0 + y
    next_one y0 y = omega arith

    aligned_next : (t : Shape) (ts : List Shape) (d : Datum) (ds : List Datum) (y0 o : ℕ) → Aligned (t ∷ ts) (d ∷ ds) y0 o → Aligned ts ds (suc y0) (o + part_words t)
    aligned_next t ts d ds y0 o r = record {
      shape = λ y u e. subst (λ (i : ℕ). slice_get its.locals i ≡ Some u) (next_one y0 y) (r.shape (suc y) u e);
      offset = λ y off e. subst (λ (i : ℕ). slice_get (offsets_from 4 its.locals) i ≡ Some off) (next_one y0 y) (r.offset (suc y) off e);
      datum = λ y v e. subst (λ (i : ℕ). slice_get done i ≡ Some v) (next_one y0 y) (r.datum (suc y) v e);
      slot = λ y v e. subst (λ (i : ℕ). slice_get new.slots i ≡ Some v) (next_one y0 y) (r.slot (suc y) v e);
    }

    record Left (ts : List Shape) (ds : List Datum) (y0 o top : ℕ) (z : Home) (store : List ℕ) (p : ℕ) (from : State) : Type 0 where
      given : AllGiven ctx ts ds (top_of before.stack.frame + o)
      aligned : Aligned ts ds y0 o
      codes : InstrsAt piece (copies_code o ts) p code.code.start
      so_far : Copied y0 o top z store
      whole : top + copies_words ts (slots_by (length s.activations) y0 ds ts) ≡ top_of before.stack.frame + frame_words its.locals its.body + total
      count : y0 + length ts ≡ length shapes
      reach : o + all_words ts ≡ 4 + all_words shapes
      roomy : top ≤ before.stack.limit
      step : advanced (running from s.world) ≡ running (record inside { place = p; top = top; store = store }) s.world

    -- what lies where one of them is copied from
    record CopiedFrom (y0 o : ℕ) (z : Home) (store : List ℕ) (to : Shape) (d : Datum) : Type 0 where
      high : ℕ
      small : high ≤ 65535
      from : ℕ
      low : from + part_words (Row (suc high) to) ≤ 65535
      word : h.shadow (top_of before.stack.frame + o) ≡ from
      word_high : h.shadow (top_of before.stack.frame + o + 1) ≡ high
      slot : slot_of (record { root = Local (length s.activations) y0; path = [] }) (Opened true to) d ≡ Along (record { root = Local (length s.activations) y0; path = [] }) high
      puts : (q : List ℕ) (j : Kind) → part_at (Row (suc high) to) q ≡ Word j → IsWord z j (begun s.cells (Some d) (Opened true to) q) (get_or store (from + part_offset (Row (suc high) to) q) 0)

    same_place : (y : ℕ) → y + 0 ≡ y
    same_place y = omega arith

    -- one copy, where the machine has come to
    module _ (to : Shape) (ts : List Shape) (d : Datum) (ds : List Datum) (y0 o top : ℕ) (z : Home) (store : List ℕ) (p : ℕ) (from : State) (r : Left (Opened true to ∷ ts) (d ∷ ds) y0 o top z store p from) (v : CopiedFrom y0 o z store to d)
        (rest : (q : ℕ) (z2 : Home) (store2 : List ℕ) (from2 : State) → Left ts ds (suc y0) (o + 2) (top + part_words (Row (suc v.high) to)) z2 store2 q from2 → Goes ctx s items from2 (length (copies_code (o + 2) ts) + (c + 1))) where
      abbrev row : Shape
      row = Row (suc v.high) to

      abbrev n : ℕ
      n = part_words (Row (suc v.high) to)

      abbrev ws : List ℕ
      ws = moved store v.from (part_words (Row (suc v.high) to)) 0

      abbrev cur : State
      cur = record inside { place = p; top = top; store = store }

      typed : slice_get its.locals y0 ≡ Some (Opened true to)
      typed = subst (λ (i : ℕ). slice_get its.locals i ≡ Some (Opened true to)) (same_place y0) (r.aligned.shape 0 (Opened true to) refl)

      at : slice_get (offsets_from 4 its.locals) y0 ≡ Some o
      at = subst (λ (i : ℕ). slice_get (offsets_from 4 its.locals) i ≡ Some o) (same_place y0) (r.aligned.offset 0 o refl)

      datum : slice_get done y0 ≡ Some d
      datum = subst (λ (i : ℕ). slice_get done i ≡ Some d) (same_place y0) (r.aligned.datum 0 d refl)

      slot_here : slice_get new.slots y0 ≡ Some (Along (record { root = Local (length s.activations) y0; path = [] }) v.high)
      slot_here = subst (λ (i : ℕ). slice_get new.slots i ≡ Some (Along (record { root = Local (length s.activations) y0; path = [] }) v.high)) (same_place y0) (r.aligned.slot 0 (Along (record { root = Local (length s.activations) y0; path = [] }) v.high) (ap Some v.slot))

      ends : o + 2 ≤ 4 + all_words shapes
      ends = omega (arith, r.reach)

      framed_room : o + 2 ≤ frame_words its.locals its.body
      framed_room = omega (arith, ends, all_long)

      own_at : (i : ℕ) → o ≤ i → i < o + 2 → x.owner (top_of before.stack.frame + i) ≡ Own
      own_at i start below = opened_own y0 o true to at typed i start below (omega (arith, below, framed_room))

      shade_at : (i : ℕ) → o ≤ i → i < o + 2 → x.shadow (top_of before.stack.frame + i) ≡ h.shadow (top_of before.stack.frame + i)
      shade_at i start below = given_word i (omega (arith, start, r.so_far.begins)) (omega (arith, below, ends))

      read_at : (i : ℕ) → o ≤ i → i < o + 2 → get_or store (top_of before.stack.frame + i) 0 ≡ h.shadow (top_of before.stack.frame + i)
      read_at i start below =
          r.so_far.mem.kept (top_of before.stack.frame + i) (r.so_far.frame_owner (top_of before.stack.frame + i) (omega (arith, below, framed_room)) ∙ own_at i start below)
          ∙ r.so_far.other_shadow (top_of before.stack.frame + i) (inr (omega (arith, start)))
          ∙ shade_at i start below

      high_at : h.shadow (top_of before.stack.frame + (o + 1)) ≡ v.high
      high_at = ap h.shadow (let e : top_of before.stack.frame + (o + 1) ≡ top_of before.stack.frame + o + 1 = omega arith in e) ∙ v.word_high

      read_high : get_or store (top_of before.stack.frame + o + 1) 0 ≡ v.high
      read_high = ap (λ (i : ℕ). get_or store i 0) (let e : top_of before.stack.frame + o + 1 ≡ top_of before.stack.frame + (o + 1) = omega arith in e) ∙ read_at (o + 1) (omega arith) (omega arith) ∙ high_at

      exact_o : framed o ≡ o
      exact_o = omega (arith, framed_room, low)

      times : (v.high + 1) * part_words to ≡ part_words (Row (suc v.high) to)
      times = ap (λ (i : ℕ). i * part_words to) (let e : v.high + 1 ≡ suc v.high = omega arith in e)

      store_long : length store ≡ 65536
      store_long = r.so_far.mem.long

      ws_are : ws ≡ take n (drop v.from store)
      ws_are = block_alone store v.from n

      ws_long : length ws ≡ part_words (Row (suc v.high) to)
      ws_long = ap length ws_are ∙ length-take-le n (drop v.from store) (omega (arith, length-drop v.from store, store_long, v.low))

      copies : mstep cur ≡ longer_row (part_words (Row (suc v.high) to)) (set (spliced store top ws) (top_of before.stack.frame + o) top) r.codes.0 m.stack cur
      copies =
          at_step (with_frames ctx frame [] []) cur (record { table_is = shared.program.table_is; known = shared.program.known; piece = piece_is; running_is = shared.program.running_is; marked_is = shared.program.marked_is }) (Cpy (framed o) (part_words to)) r.codes.0 r.codes.1
          ∙ ap (λ (i : ℕ). array_row (top_of before.stack.frame + i) (part_words to) r.codes.0 cur) exact_o
          ∙ yes _ _ _ (lt-ltb (top_of before.stack.frame + o + 1) 65536 (omega (arith, framed_room, low)))
          ∙ ap (λ (i : ℕ). copied_row (top_of before.stack.frame + o) ((i + 1) * part_words to) r.codes.0 cur (get_or store (top_of before.stack.frame + o) 0)) read_high
          ∙ ap (λ (i : ℕ). copied_row (top_of before.stack.frame + o) i r.codes.0 cur (get_or store (top_of before.stack.frame + o) 0)) times
          ∙ ap (λ (i : ℕ). copied_row (top_of before.stack.frame + o) n r.codes.0 cur i) (read_at o (omega arith) (omega arith) ∙ v.word)
          ∙ yes _ _ _ (le-leb (v.from + n) 65536 (omega (arith, v.low)))

      slots_sum : n ≡ copy_words (slot_of (record { root = Local (length s.activations) y0; path = [] }) (Opened true to) d) (Opened true to)
      slots_sum = sym (ap (λ (l : Slot). copy_words l (Opened true to)) v.slot)

      whole_next : top + n + copies_words ts (slots_by (length s.activations) (suc y0) ds ts) ≡ top_of before.stack.frame + frame_words its.locals its.body + total
      whole_next = omega (arith, r.whole, slots_sum)

      full : m.limit < top + n → Goes ctx s items from (length (copies_code o (Opened true to ∷ ts)) + (c + 1))
      full less =
          goes_after ctx s items from cur (length (copies_code o (Opened true to ∷ ts)) + (c + 1)) (c + 1) r.step
          (goes_full ctx s items cur (c + 1) limit.Stack (copies ∙ yes _ _ _ (lt-ltb m.limit (top + n) less))
          (short total (omega arith) (omega (arith, less, whole_next)), more) (omega arith))
          (omega arith)

      copy : top + n ≤ m.limit → Goes ctx s items from (length (copies_code o (Opened true to ∷ ts)) + (c + 1))
      copy some =
          let so_far = r.so_far in
          let room_here : top + n ≤ 65535 = omega (arith, some, shared.standing.limit_is, shared.standing.high) in
          let next_so_far = copies_more x cells (length s.activations) (top_of before.stack.frame) (top_of before.stack.frame + frame_words its.locals its.body) its.locals new.slots y0 o top z store to v.high ws so_far at typed slot_here v.small ws_long room_here
          (λ i start below. inr (before.stack.base, owner_beside i (inr (omega (arith, start, so_far.above), omega (arith, start, so_far.above))) ∙ shared.standing.room i (omega (arith, start, so_far.above, holds_given)) (omega (arith, below, some, shared.standing.limit_is))))
          (omega (arith, framed_room)) (own_at o (omega arith) (omega arith)) (shade_at (o + 1) (omega arith) (omega arith) ∙ high_at)
          (λ q j is.
          let small_offset : part_offset row q < n = omega (arith, part_fits row q (ap is_there is), word_long (part_at row q) j is) in
          let cell = fresh_local s.cells (length s.activations) done its.locals y0 (Opened true to) q typed ∙ ap (λ (e : Option Datum). begun s.cells e (Opened true to) q) datum in
          let there : get_or store (v.from + part_offset row q) 0 ≡ get_or ws (part_offset row q) 0 = sym (ap (λ (xs : List ℕ). get_or xs (part_offset row q) 0) ws_are ∙ get_or-take n (drop v.from store) (part_offset row q) 0 small_offset ∙ get_or-drop v.from store (part_offset row q) 0) in
          subst (λ (u : Scalar). IsWord z j u (get_or ws (part_offset row q) 0)) (sym cell) (subst (IsWord z j (begun s.cells (Some d) (Opened true to) q)) there (v.puts q j is))) in
          goes_after ctx s items from cur (length (copies_code o (Opened true to ∷ ts)) + (c + 1)) (length (copies_code (o + 2) ts) + (c + 1)) r.step
          (rest r.codes.0 _ _ cur
          (record {
            given = subst (AllGiven ctx ts ds) (let e : top_of before.stack.frame + o + 2 ≡ top_of before.stack.frame + (o + 2) = omega arith in e) r.given.1;
            aligned = aligned_next (Opened true to) ts d ds y0 o r.aligned;
            codes = r.codes.2;
            so_far = next_so_far;
            whole = whole_next;
            count = omega (arith, r.count);
            reach = omega (arith, r.reach);
            roomy = omega (arith, some, shared.standing.limit_is);
            step = advances cur s.world _ (copies ∙ no _ _ _ (le-ltb m.limit (top + n) some));
          }))
          (omega arith)

      copied_on : Goes ctx s items from (length (copies_code o (Opened true to ∷ ts)) + (c + 1))
      copied_on = ⊎_elim (λ less. full less) (λ (some : top + n ≤ m.limit). copy some) (cases_lt m.limit (top + n))

    -- the cells of a root that lives are what they were
    cells_kept : (q : Root) (path : List ℕ) → lives before.home q ≡ true → cells q path ≡ s.cells q path
    cells_kept (Global i j) path e = refl
    cells_kept (Object o) path e = refl
    cells_kept (Local b j) path e = by (b == length s.activations) refl
      where
        by : (i : Bool) → (b == length s.activations) ≡ i → cond i (begun s.cells (slice_get done j) (shape_at its.locals j) path) (s.cells (Local b j) path) ≡ s.cells (Local b j) path
        by true same = absurd (let gone : false ≡ true = ap is_there (sym (ap (λ (a : ℕ). before.home.shape (Local a j)) (eqb-true b (length s.activations) same) ∙ unborn_yet j)) ∙ e in cc)
        by false same = refl

    -- an array
    array_source : (place : Place) (high y0 o top : ℕ) (z : Home) (store : List ℕ) (to : Shape) → Copied y0 o top z store → shape_there h place ≡ Row (suc high) to → high ≤ 65535 → h.shadow (top_of before.stack.frame + o) ≡ address h place → h.shadow (top_of before.stack.frame + o + 1) ≡ high
        → CopiedFrom y0 o z store to (Opens place high)
    array_source place high y0 o top z store to r living small word word_high =
        let alive_here = place_lives h place (Row (suc high) to) living refl in
        let shape_z : z.shape place.root ≡ h.shape place.root = shape_copied y0 o top z store r place.root alive_here in
        let base_z : z.base place.root ≡ h.base place.root = base_copied y0 o top z store r place.root alive_here in
        record {
          high = high;
          small = small;
          from = address h place;
          low = omega (arith, place_inside h s.cells m.store place shared.mem (ap is_there living), ap part_words living);
          word = word;
          word_high = word_high;
          slot = refl;
          puts = λ q j is.
              let there : is_there (part_at (h.shape place.root) place.path) ≡ true = ap is_there living in
              let typed : part_at (h.shape place.root) (place.path ++ q) ≡ Word j = part_append (h.shape place.root) place.path q there ∙ ap (λ (u : Shape). part_at u q) living ∙ is in
              let old = r.mem.holds place.root (place.path ++ q) j (ap (λ (u : Shape). part_at u (place.path ++ q)) shape_z ∙ typed) in
              let at : z.base place.root + part_offset (z.shape place.root) (place.path ++ q) ≡ address h place + part_offset (Row (suc high) to) q =
              omega (arith, base_z, ap (λ (u : Shape). part_offset u (place.path ++ q)) shape_z, part_offset_append (h.shape place.root) place.path q there, ap (λ (u : Shape). part_offset u q) living) in
              subst (λ (i : ℕ). IsWord z j (s.cells place.root (place.path ++ q)) (get_or store i 0)) at (subst (λ (u : Scalar). IsWord z j u (get_or store (z.base place.root + part_offset (z.shape place.root) (place.path ++ q)) 0)) (cells_kept place.root (place.path ++ q) alive_here) old);
        }

    -- a string
    text_source : (cs : List ℕ) (y0 o top : ℕ) (z : Home) (store : List ℕ) → Copied y0 o top z store → top ≤ before.stack.limit → o ≤ frame_words its.locals its.body → GivenText ctx (Opened true (Word OfCharacter)) cs (top_of before.stack.frame + o) → CopiedFrom y0 o z store (Word OfCharacter) (Texts cs)
    text_source cs y0 o top z store r roomy reach g =
        let low_text = string_low ctx s m shared cs g.offset g.text in
        let long : part_words (Row (suc (text_words cs - 1)) (Word OfCharacter)) ≡ text_words cs = omega arith in
        record {
          high = text_words cs - 1;
          small = omega (arith, low_text);
          from = before.stack.frame.own.base + g.offset;
          low = omega (arith, low_text, long);
          word = g.word;
          word_high = g.word_high;
          slot = ap (Along (record { root = Local (length s.activations) y0; path = [] })) (text_last cs);
          puts = λ q j is. characters q j is;
        }
      where
        text_last : (cs : List ℕ) → length cs - 1 ≡ text_words cs - 1
        text_last cs = omega arith

        letter : (i : ℕ) → i < text_words cs → get_or store (before.stack.frame.own.base + g.offset + i) 0 ≡ get_or cs i 0
        letter i less =
            let at : before.stack.frame.own.base + g.offset + i ≡ before.stack.frame.own.base + (before.stack.frame.layout.words + (g.text.at + i)) = omega (arith, g.text.is) in
            let word = known.strings (g.text.at + i) (omega (arith, less, g.text.inside)) in
            let later = fixed_copied y0 o top z store r roomy reach (before.stack.frame.own.base + (before.stack.frame.layout.words + (g.text.at + i))) word.0 in
            ap (λ (a : ℕ). get_or store a 0) at ∙ r.mem.fixed (before.stack.frame.own.base + (before.stack.frame.layout.words + (g.text.at + i))) later.0 ∙ later.1 ∙ word.1 ∙ g.text.words i less

        element : (i : ℕ) (q : List ℕ) (j : Kind) → cond (nat_lt i (suc (text_words cs - 1))) (part_at (Word OfCharacter) q) Absent ≡ Word j → (i < suc (text_words cs - 1)) × (part_at (Word OfCharacter) q ≡ Word j)
        element i q j e = pick (nat_lt i (suc (text_words cs - 1))) refl e
          where
            pick : (b : Bool) → nat_lt i (suc (text_words cs - 1)) ≡ b → cond b (part_at (Word OfCharacter) q) Absent ≡ Word j → (i < suc (text_words cs - 1)) × (part_at (Word OfCharacter) q ≡ Word j)
            pick true less e = (ltb-true i (suc (text_words cs - 1)) less, e)
            pick false less e = absurd (none_there [] j e)

        characters : (q : List ℕ) (j : Kind) → part_at (Row (suc (text_words cs - 1)) (Word OfCharacter)) q ≡ Word j → IsWord z j (begun s.cells (Some (Texts cs)) (Opened true (Word OfCharacter)) q) (get_or store (before.stack.frame.own.base + g.offset + part_offset (Row (suc (text_words cs - 1)) (Word OfCharacter)) q) 0)
        characters [] j e = cc
        characters (i ∷ []) j e =
            let one = element i [] j e in
            let kind : OfCharacter ≡ j = cc (one.1) in
            let at : before.stack.frame.own.base + g.offset + part_offset (Row (suc (text_words cs - 1)) (Word OfCharacter)) (i ∷ []) ≡ before.stack.frame.own.base + g.offset + i = omega arith in
            record {
              word = ap (λ (a : ℕ). get_or store a 0) at ∙ letter i (omega (arith, one.0));
              fits = ap (λ (u : Kind). in_kind (base_of u) (Character (get_or cs i 0))) (sym kind) ∙ text_character cs i g.text.text;
              refers = subst (λ (u : Kind). Refers z u (Character (get_or cs i 0))) kind tt;
            }
        characters (i ∷ i' ∷ q) j e = absurd (none_there [] j (element i (i' ∷ q) j e).1)

    -- all of them, and then the statements
    copying : (ts : List Shape) (ds : List Datum) (y0 o top : ℕ) (z : Home) (store : List ℕ) (p : ℕ) (from : State) → Left ts ds y0 o top z store p from → Goes ctx s items from (length (copies_code o ts) + (c + 1))
    copying [] [] y0 o top z store p from r =
        let ready : Copied (length shapes) (4 + all_words shapes) top z store =
        subst (λ (i : ℕ). Copied i (4 + all_words shapes) top z store) (let e : y0 ≡ length shapes = omega (arith, r.count) in e) (subst (λ (i : ℕ). Copied y0 i top z store) (let e : o ≡ 4 + all_words shapes = omega (arith, r.reach) in e) r.so_far) in
        goes_more ctx s items from (c + 1) (length (copies_code o []) + (c + 1))
        (goes_in top z store ready (omega (arith, r.whole)) r.roomy from (r.step ∙ ap (λ (q : ℕ). running (record inside { place = q; top = top; store = store }) s.world) r.codes))
        (omega arith)
    copying (t ∷ ts) (d ∷ ds) y0 o top z store p from r =
        ⊎_elim (λ plain. skip plain (λ left. copying ts ds (suc y0) (o + part_words t) top z store p from left)) (λ one. copied d one r (λ q z2 store2 from2 n left. copying ts ds (suc y0) (o + 2) (top + n) z2 store2 q from2 left)) (given_form ctx (record { root = Local (length s.activations) y0; path = [] }) t d (top_of before.stack.frame + o) r.given.0)
      where
        skip : IsPlain ctx (record { root = Local (length s.activations) y0; path = [] }) t d → (Left ts ds (suc y0) (o + part_words t) top z store p from → Goes ctx s items from (length (copies_code (o + part_words t) ts) + (c + 1))) → Goes ctx s items from (length (copies_code o (t ∷ ts)) + (c + 1))
        skip plain rest =
            let same : copies_code o (t ∷ ts) ≡ copies_code (o + part_words t) ts = ap (λ (is : List Instr). is ++ copies_code (o + part_words t) ts) (plain.code o) in
            subst (λ (is : List Instr). Goes ctx s items from (length is + (c + 1))) (sym same)
            (rest (record {
              given = subst (AllGiven ctx ts ds) (let e : top_of before.stack.frame + o + part_words t ≡ top_of before.stack.frame + (o + part_words t) = omega arith in e) r.given.1;
              aligned = aligned_next t ts d ds y0 o r.aligned;
              codes = subst (λ (is : List Instr). InstrsAt piece is p code.code.start) same r.codes;
              so_far = copies_skip x cells (length s.activations) lo hi its.locals new.slots y0 o top z store t r.so_far
                  (subst (λ (i : ℕ). slice_get (offsets_from 4 its.locals) i ≡ Some o) (same_place y0) (r.aligned.offset 0 o refl))
                  (subst (λ (i : ℕ). slice_get its.locals i ≡ Some t) (same_place y0) (r.aligned.shape 0 t refl)) (plain.code 4);
              whole = omega (arith, r.whole, plain.short);
              count = omega (arith, r.count);
              reach = omega (arith, r.reach);
              roomy = r.roomy;
              step = r.step;
            }))

        copied : (e : Datum) → IsCopied ctx t e (top_of before.stack.frame + o) → Left (t ∷ ts) (e ∷ ds) y0 o top z store p from → ((q : ℕ) (z2 : Home) (store2 : List ℕ) (from2 : State) (n : ℕ) → Left ts ds (suc y0) (o + 2) (top + n) z2 store2 q from2 → Goes ctx s items from2 (length (copies_code (o + 2) ts) + (c + 1)))
            → Goes ctx s items from (length (copies_code o (t ∷ ts)) + (c + 1))
        copied (Scalars v) one left rest = absurd one
        copied (Places place) one left rest = absurd one
        copied (Wholes u) one left rest = absurd one
        copied (Opens place high) one left rest =
            subst (λ (u : Shape). Goes ctx s items from (length (copies_code o (u ∷ ts)) + (c + 1))) (sym one.is)
            (copied_on one.to ts (Opens place high) ds y0 o top z store p from (subst (λ (u : Shape). Left (u ∷ ts) (Opens place high ∷ ds) y0 o top z store p from) one.is left)
            (array_source place high y0 o top z store one.to left.so_far one.living one.low one.word one.word_high) (λ q z2 store2 from2 more. rest q z2 store2 from2 _ more))
        copied (Texts cs) one left rest =
            subst (λ (u : Shape). Goes ctx s items from (length (copies_code o (u ∷ ts)) + (c + 1))) (sym one.is)
            (copied_on (Word OfCharacter) ts (Texts cs) ds y0 o top z store p from (subst (λ (u : Shape). Left (u ∷ ts) (Texts cs ∷ ds) y0 o top z store p from) one.is left)
            (text_source cs y0 o top z store left.so_far left.roomy (omega (arith, left.reach, all_long)) (subst (λ (u : Shape). GivenText ctx u cs (top_of before.stack.frame + o)) one.is one)) (λ q z2 store2 from2 more. rest q z2 store2 from2 _ more))
    copying ts ds y0 o top z store p from r = absurd r.given

    all_copied : Goes ctx s items called (length (copies_code 4 shapes) + (c + 1))
    all_copied =
        copying shapes done 0 4 hi x inside.store code.code.begun called (record {
          given = w.given;
          aligned = record {
            shape = λ y t e. subst (λ (i : ℕ). slice_get its.locals i ≡ Some t) (sym (none_more y)) (ap (λ (ts : List Shape). slice_get ts y) (sym split) ∙ slice_more ctx shapes others y t e);
            offset = λ y off e. subst (λ (i : ℕ). slice_get (offsets_from 4 its.locals) i ≡ Some off) (sym (none_more y)) (ap (λ (ts : List Shape). slice_get (offsets_from 4 ts) y) (sym split) ∙ offsets_more ctx 4 shapes others y off e);
            datum = λ y v e. subst (λ (i : ℕ). slice_get done i ≡ Some v) (sym (none_more y)) e;
            slot = λ y v e. subst (λ (i : ℕ). slice_get new.slots i ≡ Some v) (sym (none_more y)) (ap (λ (ts : List Shape). slice_get (slots_by (length s.activations) 0 done ts) y) (sym split) ∙ slots_more ctx (length s.activations) 0 shapes done others (top_of before.stack.frame + 4) y v w.given e);
          };
          codes = subst (λ (ts : List Shape). InstrsAt piece (copies_code 4 ts) code.code.begun code.code.start) parameters_are code.code.copies;
          so_far = copies_none x cells (length s.activations) lo hi its.locals new.slots inside.store mem (λ y t typed. ap (λ (j : ℕ). x.shape (Local (length s.activations) j)) (sym (none_more y)) ∙ shape_none (length s.activations) 0 its.locals before.home.shape y (Opened true t) typed refl);
          whole = omega (arith, ap (λ (ts : List Shape). copies_words ts (slots_by (length s.activations) 0 done ts)) (sym split), copies_same ctx (length s.activations) 0 shapes done others (top_of before.stack.frame + 4) w.given);
          count = omega arith;
          reach = refl;
          roomy = room;
          step = enters_it;
        })

  complete_goes : Goes ctx s (Perform (Passing (Called q) done NoMore) ∷ k) m (length (copies_code 4 shapes) + c + 32)
  complete_goes =
      goes_after ctx s items m called (length (copies_code 4 shapes) + c + 32) (length (copies_code 4 shapes) + (c + 1)) calls
      (⊎_elim (λ (less : m.limit < top_of before.stack.frame + frame_words its.locals its.body).
      goes_full ctx s items called (length (copies_code 4 shapes) + (c + 1)) limit.Stack
      (enters
      ∙ no _ _ _ (le-ltb (top_of before.stack.frame + framed (frame_words its.locals its.body)) m.top (omega (arith, holds_given, shared.standing.low, shared.standing.high)))
      ∙ yes _ _ _ (lt-ltb m.limit (top_of before.stack.frame + framed (frame_words its.locals its.body)) (omega (arith, less, words.mark, shared.standing.limit_is, shared.standing.high))))
      (short 0 (omega arith) (omega (arith, less)), more) (omega arith))
      (λ (fits : top_of before.stack.frame + frame_words its.locals its.body ≤ m.limit). all_copied (omega (arith, fits, shared.standing.limit_is)))
      (cases_lt m.limit (top_of before.stack.frame + frame_words its.locals its.body)))
      (omega arith)

-- THE law of a call: the procedure begins, or its frame finds no room
pub enter_goes : (ctx : Setting) (s : Source) (k : List Item) (m : State) (c : ℕ) (a : Around) → Shared ctx s m → (q : Callee) (done : List Datum) → PendingWaits ctx q done NoMore (RowsOf k) Quiet m.place m.stack c a
    → Goes ctx s (Perform (Passing (Called q) done NoMore) ∷ k) m (c + 32)
enter_goes ctx s k m c a shared q done row =
    let w = row.pending in
    let saved : ℕ = saved_words w.resumed in
    let before : Setting = pushing w.before saved in
    let is : ctx ≡ pushing before (4 + all_words w.shapes) = w.is ∙ ap (with_pushed w.before) (let e : saved + (4 + all_words w.shapes) + w.before.stack.frame.pushed ≡ 4 + all_words w.shapes + (saved + w.before.stack.frame.pushed) = omega arith in e) in
    let first : top_of w.before.stack.frame + saved ≡ top_of before.stack.frame = omega arith in
    let here = subst (λ (p : ℕ). IsAt ctx.stack.frame.piece p (call_code q (framed (all_words w.shapes))) w.end) (sym w.arguments)
    (subst (λ (n : ℕ). IsAt ctx.stack.frame.piece w.middle (call_code q (framed n)) w.end) (let e : all_words w.shapes + (0 + 0) ≡ all_words w.shapes = omega arith in e) w.call) in
    subst (λ (y : Setting). Goes y s (Perform (Passing (Called q) done NoMore) ∷ k) m (c + 32)) (sym is)
    (goes_more (pushing before (4 + all_words w.shapes)) s (Perform (Passing (Called q) done NoMore) ∷ k) m (length (copies_code 4 w.shapes) + w.later + 32) (c + 32) (complete_goes before w.shapes done s k m w.later w.outer (subst (λ (y : Setting). Shared y s m) is shared) q
    (record {
      may = subst (λ (y : Setting). MayCall y.stack.frame.layout.scope (callee_number q) (callee_levels q)) is w.may;
      here = subst (λ (y : Setting). callee_owner y.stack.frame.number q ≡ y.stack.frame.number) is w.here;
      takes = subst (λ (y : Setting). parameters_of (procedure_by y.stack.frame.layout.scope.procedures (callee_number q)) ≡ w.shapes) is (w.takes ∙ append-nil w.shapes);
      link = subst (λ (y : Setting). IsLink y.stack.frame.display (callee_levels q) (y.home.shadow (top_of before.stack.frame))) is (subst (λ (i : ℕ). IsLink ctx.stack.frame.display (callee_levels q) (ctx.home.shadow i)) first w.link);
      value = subst (λ (y : Setting). HasValue q (y.home.shadow (top_of before.stack.frame + 3))) is (subst (λ (i : ℕ). HasValue q (ctx.home.shadow (i + 3))) first w.value);
      given = subst (λ (y : Setting). AllGiven y w.shapes done (top_of before.stack.frame + 4)) is (subst (λ (i : ℕ). AllGiven ctx w.shapes done (i + 4)) first w.given);
      end = w.end;
      call = subst (λ (y : Setting). IsAt y.stack.frame.piece m.place (call_code q (framed (all_words w.shapes))) w.end) is here;
      resumed = w.resumed;
      returns = subst (λ (y : Setting). result_of (procedure_by y.stack.frame.layout.scope.procedures (callee_number q)) ≡ result_in w.resumed) is w.returns;
      under = w.before.stack.frame.pushed;
      pushed = refl;
      saved = subst (λ (y : Setting). AreSaved y.home.shadow w.resumed (w.before.stack.frame.at + (w.before.stack.frame.layout.frame + w.before.stack.frame.pushed))) is w.saved;
      after = w.after;
      restore = subst (λ (y : Setting). RestoresAt y.stack.frame.piece w.resumed w.end w.after) is w.restore;
      within = subst (λ (y : Setting). w.after < length y.stack.frame.piece) is w.within;
      then = w.then;
    })
    row.empty) (omega (arith, w.count)))
