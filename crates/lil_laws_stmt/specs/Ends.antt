-- The ends of procedures and bodies, RETURN and HALT.
use Rattle.lil_resolved.specs.Kinds.{Kind, Scalar, within, all_words, result_here}
use Rattle.std.proofs.Common.{◌≡◌, ℕ, suc, ◌+◌, ◌<◌, ◌≤◌, Bool, true, if◌then◌else◌, Option, Some, None, List, [], ◌∷◌, map, length, ⊎_elim, refl, sym, ap, ◌∙◌, subst, arith, eq-eqb}
use Rattle.std.proofs.lemmas.{Bool.{cases_lt}, Option.{none-some, same_Some}}
use Rattle.std.specs.Prelude.{slice_get}
use Rattle.lil_base.specs.declared.fault.TrapKind.TheVariants as trap
use Rattle.lil_resolved.specs.{Kinds.Shape, Resolved.{Arguments, Expression, Answer, Halt, Return}}
use Rattle.lil_meaning.specs.{World.{World, closing, all_closed}, Closings.{all_none, all_some}, Items.{Scalars, Value, Returning, loaded_at, Activation, Datum, Callee, Called, Pass, PassPlace, PassAll, PassArray, Calling, Do, Turns, Holding, End, Item, Fill, Perform, Level, Going, Closing, Ended, Source}, Steps.{trapped, with_items, end_reached, activation_result, result_by, owner_of, procedure_of, next, returned, left_by, over}}
use Rattle.lil_asm.specs.declared.instr.Instr.TheVariants.{Rtn, Trp}
use Rattle.lil_mcode.specs.{declared.machine.Event.TheVariants.LevelEnded, Table.{Kept, State, going, end_row}}
use Rattle.lil_table.specs.Rows.{IsAt, leave_code, loop_place}
use Rattle.lil_match.specs.{Homes.{Refers, word_for}, Orders.instr_within, Goes.{Stands, number_of, Shared, Lands, Goes}, Running.{Finished, Run, running, advanced}, Parts.yes, Waits.{ValueOf, ItemWaits, Resumed, AStatement, AValue, result_in, stutter, Mode, Quiet, Around, outside, Frame, Setting, inside_with, pushing, Pending, saved_words, with_frames, RowsOf, Rows, Ahead, Behind, EndWaits, EndedWaits, Waiting}, Steps.{operand_goes, closed, advances, at_step, lands_on, goes_more, goes_none, goes_one_within}}
use Rattle.lil_laws_place.specs.Codes.{trap_goes, stored_tested}
use Rattle.lil_laws_stmt.specs.{Returns.{goes_back, goes_back_with}, Tasks.value_within, Bodies.{goes_next, goes_short}}

returned_less : (k : List Item) → stutter (returned k) ≤ stutter k
returned_less [] = omega arith
returned_less (Perform (End a) ∷ k) = omega arith
returned_less (i ∷ k) = omega (arith, returned_less k)

module _ (ctx : Setting) where
  pub halt_goes : (s : Source) (k : List Item) (m : State) (c : ℕ) (a : Around) → Shared ctx s m → Waiting ctx (Perform (Do Halt)) (Rows ctx k) Quiet m.place m.stack c a
      → Goes ctx s (Perform (Do Halt) ∷ k) m (c + 32)
  halt_goes s k m c a shared row =
      trap_goes ctx s (Perform (Do Halt) ∷ k) m shared m.place m.stack trap.Halted (c + 32) (Trp 9) row.part.end row.part.here (closed ctx k _ _ _ _ _ row.then) refl
      (at_step ctx m shared.program (Trp 9) row.part.end row.part.here)
      (omega arith)

  -- the running frame, which returns nothing, ends at an RTN, by what is behind its end
  leave_goes : (s : Source) (first k : List Item) (becomes : next ctx.library (record s { items = first; phase = Going }) ≡ record s { items = k; phase = Going }) → stutter k < stutter first → (m : State) (c : ℕ) → Shared ctx s m
      → result_here ctx.stack.frame.layout.scope ≡ None → (end : ℕ) → IsAt ctx.stack.frame.piece m.place Rtn end → m.stack ≡ [] → Behind ctx k (RowsOf k) c ctx.stack.callers ctx.stack.bodies → Goes ctx s first m (c + 32)
  leave_goes s first k becomes falls m c shared none end leave empty behind = by ctx.stack.callers ctx.stack.bodies shared behind
    where
      a_statement : (r : Resumed) → result_here ctx.stack.frame.layout.scope ≡ result_in r → r ≡ AStatement
      a_statement AStatement is = refl
      a_statement (AValue kind saved) is = absurd (none-some kind (sym none ∙ is))

      by : (gs bs : List Frame) → Shared (with_frames ctx ctx.stack.frame gs bs) s m → Behind (with_frames ctx ctx.stack.frame gs bs) k (RowsOf k) c gs bs
          → Goes (with_frames ctx ctx.stack.frame gs bs) s first m (c + 32)
      by (g ∷ gs) bs there back = goes_back ctx ctx.stack.frame g gs bs s m there first k c end leave back becomes empty (a_statement back.resumed back.returns)
      by [] (b ∷ bs) there begins =
          ⊎_elim (λ (less : ctx.stack.limit < b.at + b.layout.frame). goes_short ctx ctx.stack.frame b bs s m there first k becomes c end leave begins less)
          (λ (room : b.at + b.layout.frame ≤ ctx.stack.limit). goes_next ctx ctx.stack.frame b bs s m there first k becomes c end leave begins room)
          (cases_lt ctx.stack.limit (b.at + b.layout.frame))
      by [] [] there last =
          let x : Setting = with_frames ctx ctx.stack.frame [] [] in
          goes_none x s first m 32 c
          (subst (λ (y : Source). Lands x y.phase y (running m s.world) c) (sym becomes)
          (lands_on x s m there k m.place m.stack c (outside ctx.stack.frame)
          (subst (λ (z : List Item). Ahead x z Quiet m.place m.stack c (outside ctx.stack.frame)) (sym last.0)
          (record { empty = empty; callers = refl; bodies = refl; end = end; leave = leave }))))
          (subst (λ (y : Source). stutter y.items < stutter first) (sym becomes) falls)

  -- what the activation of the running frame returns
  result_is : (s : Source) (m : State) → Shared ctx s m → (n : ℕ) → n ≡ ctx.stack.frame.activation → activation_result ctx.library s.loaded (slice_get s.activations n) ≡ result_here ctx.stack.frame.layout.scope
  result_is s m shared n is =
      let k = shared.standing.known in
      let owner : k.its.owner ≡ ctx.stack.frame.number = sym (ap owner_of k.runs) ∙ k.owner in
      let called : k.its.procedure ≡ ctx.stack.frame.procedure = sym (ap procedure_of k.runs) ∙ k.called in
      ap (λ (i : ℕ). activation_result ctx.library s.loaded (slice_get s.activations i)) is
      ∙ ap (λ (l : List ℕ). activation_result ctx.library l (slice_get s.activations ctx.stack.frame.activation)) shared.loaded_are
      ∙ ap (λ (acts : List Activation). activation_result ctx.library ctx.loaded (slice_get acts ctx.stack.frame.activation)) shared.activations_are
      ∙ ap (activation_result ctx.library ctx.loaded) k.runs
      ∙ ap (λ (i : ℕ). result_by (loaded_at ctx.library ctx.loaded i) k.its.procedure) owner
      ∙ ap (λ (i : ℕ). result_by (loaded_at ctx.library ctx.loaded ctx.stack.frame.number) i) called
      ∙ sym k.returns

  -- the end of the running frame is at hand: that of a function is a trap
  pub end_goes : (s : Source) (k : List Item) (m : State) (c : ℕ) (a : Around) → Shared ctx s m → (n : ℕ) → EndWaits ctx n k (RowsOf k) Quiet m.place m.stack c a → Goes ctx s (Perform (End n) ∷ k) m (c + 32)
  end_goes s k m c a shared n row = by (result_here ctx.stack.frame.layout.scope) refl
    where
      ends : (r : Option Kind) → result_here ctx.stack.frame.layout.scope ≡ r → next ctx.library (record s { items = Perform (End n) ∷ k; phase = Going }) ≡ end_reached ctx.library r k (record s { items = Perform (End n) ∷ k; phase = Going })
      ends r is = ap (λ (r : Option Kind). end_reached ctx.library r k (record s { items = Perform (End n) ∷ k; phase = Going })) (result_is s m shared n row.activation ∙ is)

      by : (r : Option Kind) → result_here ctx.stack.frame.layout.scope ≡ r → Goes ctx s (Perform (End n) ∷ k) m (c + 32)
      by None is =
          leave_goes s (Perform (End n) ∷ k) k (ends None is) (omega arith) m c shared is row.end
          (subst (λ (r : Option Kind). IsAt ctx.stack.frame.piece m.place (leave_code r) row.end) is row.leave) row.empty row.behind
      by (Some kind) is =
          let at = subst (λ (r : Option Kind). IsAt ctx.stack.frame.piece m.place (leave_code r) row.end) is row.leave in
          trap_goes ctx s (Perform (End n) ∷ k) m shared m.place m.stack trap.Function (c + 32) (Trp 8) row.end at row.activation (ends (Some kind) is)
          (at_step ctx m shared.program (Trp 8) row.end at)
          (omega arith)

  -- nothing is left
  pub ended_goes : (s : Source) (m : State) (c : ℕ) (a : Around) → Shared ctx s m → EndedWaits ctx Quiet m.place m.stack c a → Goes ctx s [] m (c + 32)
  ended_goes s m c a shared row =
      by (closing 1 s.world) refl
    where
      lowest : (gs : List Frame) → gs ≡ [] → Stands ctx.home.owner ctx.stack.base m.top ctx.stack.frame gs → ctx.stack.frame.at ≡ ctx.stack.base
      lowest [] e s = s.1
      lowest (g ∷ gs) e s = absurd (let clash : g ∷ gs ≡ [] = e in cc)

      now : Source
      now = record s { items = []; phase = Going }

      run : Run
      run = record { machine = m; world = all_closed 1 s.world; finish = Finished }

      leaves : advanced (running m s.world) ≡ run
      leaves =
          advances m s.world (LevelEnded, m) (
          at_step ctx m shared.program Rtn row.end row.leave
          ∙ yes _ _ _ (eq-eqb m.frame m.base (shared.standing.frame_is ∙ lowest ctx.stack.callers row.callers shared.standing.stands ∙ sym shared.standing.base_is))
          ∙ ap (end_row m) (shared.standing.bodies_are ∙ ap (map number_of) row.bodies)
          )
          ∙ ap (λ (below : List Kept). let r : Run = record { machine = m; world = all_closed (suc (length below)) s.world; finish = Finished } in r) shared.levels.none_below

      first_level : next ctx.library now ≡ left_by None (closing 1 s.world) now
      first_level = ap (λ (l : List Level). left_by None (closing (suc (length l)) s.world) now) shared.levels.none

      ends : (t : Source) → next ctx.library now ≡ t → Lands ctx t.phase t run 0 → Goes ctx s [] m (c + 32)
      ends t is lands = goes_one_within ctx s [] m (c + 32) 0 run leaves (subst (λ (t : Source). Lands ctx t.phase t run 0) (sym is) lands) (omega arith)

      by : (o : Option World) → closing 1 s.world ≡ o → Goes ctx s [] m (c + 32)
      by (Some w) e =
          ends (record now { world = w; phase = Closing None }) (first_level ∙ ap (λ (o : Option World). left_by None o now) e)
          (record { finish = refl; first = shared.levels.none; world = all_some 1 s.world w e })
      by None e =
          ends (record now { phase = Ended }) (first_level ∙ ap (λ (o : Option World). left_by None o now) e ∙ ap (λ (l : List Level). over l None now) shared.levels.none)
          (record { finish = refl; world = all_none 1 s.world e })

-- what the end of the running frame leads to, where these items are behind it, with at most so many jumps owed
pub record Returns (ctx : Setting) (rest : List Item) (c : ℕ) : Type 0 where
  pub later : ℕ
  pub less : later ≤ c
  pub behind : Behind ctx rest (RowsOf rest) later ctx.stack.callers ctx.stack.bodies

-- jumps before
sooner : (ctx : Setting) (rest : List Item) (c later : ℕ) → later ≤ c → Returns ctx rest later → Returns ctx rest c
sooner ctx rest c later le r = record { later = r.later; less = omega (arith, le, r.less); behind = r.behind }

-- it is the same inside of a WITH
behind_inside : (before : Setting) (t : Shape) (n : ℕ) (k : List Item) (c : ℕ) (gs bs : List Frame) → Behind before k (RowsOf k) c gs bs → Behind (inside_with before t n) k (RowsOf k) c gs bs
behind_inside before t n k c (g ∷ gs) bs b = record { before = b.before; called = b.called; resumed = b.resumed; returns = b.returns; under_saved = b.under_saved; pushed_is = b.pushed_is; saved = b.saved; after = b.after; restore = b.restore; within = b.within; outer = b.outer; under = b.under; mark = b.mark; pushed = b.pushed; frame = b.frame; place = b.place; module' = b.module'; then = b.then }
behind_inside before t n k c [] (b ∷ bs) x = record { body = x.body; low = x.low; plain = x.plain; bare = x.bare; idle = x.idle; start = x.start; enter = x.enter; then = x.then }
behind_inside before t n k c [] [] last = last

returns_inside : (ctx before : Setting) (t : Shape) (n : ℕ) (rest : List Item) (c : ℕ) → ctx ≡ inside_with before t n → Returns before rest c → Returns ctx rest c
returns_inside ctx before t n rest c is r =
    subst (λ (y : Setting). Returns y rest c) (sym is)
    (record { later = r.later; less = r.less; behind = behind_inside before t n rest r.later before.stack.callers before.stack.bodies r.behind })

-- and during a call's arguments
behind_pushed : (before : Setting) (n : ℕ) (k : List Item) (c : ℕ) (gs bs : List Frame) → Behind before k (RowsOf k) c gs bs → Behind (pushing before n) k (RowsOf k) c gs bs
behind_pushed before n k c (g ∷ gs) bs b = record { before = b.before; called = b.called; resumed = b.resumed; returns = b.returns; under_saved = b.under_saved; pushed_is = b.pushed_is; saved = b.saved; after = b.after; restore = b.restore; within = b.within; outer = b.outer; under = b.under; mark = b.mark; pushed = b.pushed; frame = b.frame; place = b.place; module' = b.module'; then = b.then }
behind_pushed before n k c [] (b ∷ bs) x = record { body = x.body; low = x.low; plain = x.plain; bare = x.bare; idle = x.idle; start = x.start; enter = x.enter; then = x.then }
behind_pushed before n k c [] [] last = last

returns_pending : (ctx : Setting) (q : Callee) (done : List Datum) (next : List Shape) (left : Arguments) (k : List Item) (p c : ℕ) (a : Around) → Pending ctx q done next left (RowsOf k) p c a
    → ((y : Setting) (t : Mode) (p : ℕ) (stack : List ℕ) (c : ℕ) (a : Around) → Rows y k t p stack c a → Returns y (returned k) c) → Returns ctx (returned k) c
returns_pending ctx q done next left k p c a w rest =
    let r = rest w.before _ w.after _ w.later w.outer w.then in
    subst (λ (y : Setting). Returns y (returned k) c) (sym w.is)
    (record { later = r.later; less = omega (arith, r.less, w.count); behind = behind_pushed w.before (saved_words w.resumed + (4 + all_words w.shapes)) (returned k) r.later w.before.stack.callers w.before.stack.bodies r.behind })

-- from the row of any items
returns : (ctx : Setting) (k : List Item) (t : Mode) (p : ℕ) (stack : List ℕ) (c : ℕ) (a : Around) → Rows ctx k t p stack c a → Returns ctx (returned k) c
returns ctx [] t p stack c a r = absurd r
returns ctx (Perform (Turns x kind z step left body) ∷ k) t p stack c a r =
    sooner ctx (returned k) c r.later (omega (arith, r.count)) (⊎_elim (λ b. returns ctx k _ _ _ _ _ b.then) (λ n. returns ctx k _ _ _ _ _ n.then) r.there)
returns ctx (Perform (Holding place) ∷ k) t p stack c a r =
    let w = r.there in
    sooner ctx (returned k) c r.later (omega (arith, r.count))
    (returns_inside ctx w.before w.shape (loop_place w.outer.taken) (returned k) r.later w.is (returns w.before k _ _ _ _ _ w.then))
returns ctx (Perform (End n) ∷ k) t p stack c a r = record { later = r.later; less = omega (arith, r.count); behind = r.there.behind }
returns ctx (Fill (Pass (Called q) kind done left) ∷ k) t p stack c a r =
    sooner ctx (returned k) c r.later (omega (arith, r.count)) (returns_pending ctx q done _ left k _ r.later a r.there.pending (λ y t p stack c a. returns y k t p stack c a))
returns ctx (Fill (PassPlace (Called q) done left) ∷ k) t p stack c a r =
    sooner ctx (returned k) c r.later (omega (arith, r.count)) (returns_pending ctx q done _ left k _ r.later a r.there.pending (λ y t p stack c a. returns y k t p stack c a))
returns ctx (Fill (PassAll (Called q) done left) ∷ k) t p stack c a r =
    sooner ctx (returned k) c r.later (omega (arith, r.count)) (returns_pending ctx q done _ left k _ r.later a r.there.pending (λ y t p stack c a. returns y k t p stack c a))
returns ctx (Fill (PassArray (Called q) high done left) ∷ k) t p stack c a r =
    sooner ctx (returned k) c r.later (omega (arith, r.count)) (returns_pending ctx q done _ left k _ r.later a r.there.pending (λ y t p stack c a. returns y k t p stack c a))
returns ctx (Fill (Calling given) ∷ k) t p stack c a r =
    let w = r.there in
    let inner = returns w.before k _ w.after _ _ w.outer w.then in
    sooner ctx (returned k) c r.later (omega (arith, r.count))
    (subst (λ (y : Setting). Returns y (returned k) r.later) (sym w.is)
    (record { later = inner.later; less = inner.less; behind = behind_pushed w.before (saved_words w.resumed) (returned k) inner.later w.before.stack.callers w.before.stack.bodies inner.behind }))
returns ctx (i ∷ k) t p stack c a r = sooner ctx (returned k) c r.later (omega (arith, r.count)) (returns ctx k _ _ _ _ _ r.there.then)

-- RETURN is an end: its own RTN is the frame's, and what is left is behind the first end
pub return_goes : (ctx : Setting) (s : Source) (k : List Item) (m : State) (c : ℕ) (a : Around) → Shared ctx s m → Waiting ctx (Perform (Do Return)) (Rows ctx k) Quiet m.place m.stack c a
    → Goes ctx s (Perform (Do Return) ∷ k) m (c + 32)
return_goes ctx s k m c a shared row =
    let r = returns ctx k _ _ _ _ _ row.then in
    goes_more ctx s (Perform (Do Return) ∷ k) m (r.later + 32) (c + 32)
    (leave_goes ctx s (Perform (Do Return) ∷ k) (returned k) refl (omega (arith, returned_less k)) m r.later shared row.part.here.0 row.part.end row.part.here.1 row.part.empty r.behind)
    (omega (arith, r.less))

-- ---- the value of a function
-- whoever goes on with it
value_of : (to : Kind) (r : Resumed) → Some to ≡ result_in r → (saved : List ℕ) × (r ≡ AValue to saved)
value_of to AStatement e = absurd (none-some to (sym e))
value_of to (AValue j saved) e = (saved, ap (λ (z : Kind). AValue z saved) (sym (same_Some to j e)))

module _ (ctx : Setting) (s : Source) (k : List Item) (m : State) (c : ℕ) (a : Around) (shared : Shared ctx s m) (to : Kind) (v : Scalar) (kind : Kind) (fits : within kind v ≡ true) (refers : Refers ctx.home kind v) (below : List ℕ) (is : m.stack ≡ word_for ctx.home v ∷ below)
    (row : ItemWaits ctx (Fill (Returning to)) k (RowsOf k) (ValueOf kind) m.place below c a) where
  abbrev value : List Item
  value = Value (Scalars v) ∷ Fill (Returning to) ∷ k

  no_body : ctx.stack.frame.procedure ≡ 0 → ⊥
  no_body body = none-some to (sym (ap (result_by (loaded_at ctx.library ctx.loaded ctx.stack.frame.number)) body) ∙ sym shared.standing.known.returns ∙ row.part.result)

  left_with : (later : ℕ) → within to v ≡ true → Refers ctx.home to v → Behind ctx (returned k) (RowsOf (returned k)) later ctx.stack.callers ctx.stack.bodies → Goes ctx s value (going m row.part.tested m.stack) (later + 31)
  left_with later fit refer behind = by ctx.stack.callers ctx.stack.bodies shared behind
    where
      by : (gs bs : List Frame) → Shared (with_frames ctx ctx.stack.frame gs bs) s m → Behind (with_frames ctx ctx.stack.frame gs bs) (returned k) (RowsOf (returned k)) later gs bs
          → Goes (with_frames ctx ctx.stack.frame gs bs) s value (going m row.part.tested m.stack) (later + 31)
      by (g ∷ gs) bs there back =
          let r = value_of to back.resumed (sym row.part.result ∙ back.returns) in
          goes_back_with ctx ctx.stack.frame g gs bs s (going m row.part.tested m.stack) there value (returned k) later row.part.end row.part.leave back (word_for ctx.home v) to r.0 r.1 (is ∙ ap (λ (z : List ℕ). word_for ctx.home v ∷ z) row.part.empty) v fit refer refl
          (ap (λ (b : Bool). if b then with_items (record s { items = value; phase = Going }) (Value (Scalars v) ∷ returned k) else trapped ctx.library (record s { items = value; phase = Going }) trap.Range) fit)
      by [] (b ∷ bs) there begins = absurd (no_body begins.body)
      by [] [] there last = absurd (no_body last.1)

  pub returning_goes : Goes ctx s (Value (Scalars v) ∷ Fill (Returning to) ∷ k) m (c + 32)
  returning_goes =
      let r = returns ctx k _ _ _ _ _ row.then in
      stored_tested ctx s value m shared m.place m.stack to kind v row.part.stores fits refers below is row.part.tested (c + 32) (c + 31) row.part.test (closed ctx k _ _ _ _ _ row.then)
      (λ out. ap (λ (b : Bool). if b then with_items (record s { items = value; phase = Going }) (Value (Scalars v) ∷ returned k) else trapped ctx.library (record s { items = value; phase = Going }) trap.Range) out)
      (λ fit refer. goes_more ctx s value (going m row.part.tested m.stack) (r.later + 31) (c + 31) (left_with r.later fit refer r.behind) (omega (arith, r.less)))
      (omega arith)

-- RETURN of a value: it is evaluated first
pub answer_goes : (ctx : Setting) (s : Source) (k : List Item) (m : State) (c : ℕ) (a : Around) → Shared ctx s m → (to : Kind) (e : Expression) → Waiting ctx (Perform (Do (Answer to e))) (Rows ctx k) Quiet m.place m.stack c a
    → Goes ctx s (Perform (Do (Answer to e)) ∷ k) m (c + 32)
answer_goes ctx s k m c a shared to e row =
    let here = row.part.here in
    let value = here.value in
    operand_goes ctx s k m c a shared (Perform (Do (Answer to e)) ∷ k) e (Returning to) refl (omega arith) value.middle value.value.value
    (omega (arith, ap length row.part.empty, value.value.shallow))
    (value_within ctx 0 e to m.place here.middle value (instr_within ctx.stack.frame.piece here.middle Rtn row.part.end here.leave))
    (record { part = record { empty = row.part.empty; stores = value.stores; result = here.result; tested = here.middle; test = value.test; end = row.part.end; leave = here.leave; within = row.part.within }; then = row.then })
