-- Calls of procedures: a mark, and then the arguments.
use Rattle.lil_table.specs.Rows.{given_words}
use Rattle.lil_resolved.specs.Kinds.{words}
use Rattle.lil_mcode.specs.Table.{longer_row}
use Rattle.lil_meaning.specs.Need.{IsCalling, next_called}
use Rattle.lil_resolved.specs.Kinds.{MayCall}
use Rattle.std.proofs.Common.{◌≡◌, ℕ, zero, suc, ◌+◌, ◌<◌, ◌≤◌, inl, inr, true, Option, None, Some, List, [], ◌∷◌, ◌++◌, length, get_or, map, take, reverse, refl, sym, ap, ◌∙◌, subst, ⊎_elim, arith}
use Rattle.std.specs.Prelude.{slice_get}
use Rattle.std.proofs.lemmas.List.{length-append, length-reverse}
use Rattle.std.proofs.lemmas.{Bool.{lt-ltb, le-ltb, cases_lt}, Option.{none-some, same_Some}}
use Rattle.lil_base.specs.declared.fault.LimitKind.TheVariants as limit
use Rattle.lil_resolved.specs.{Kinds.{base_of, Declared, Outline, Kind, Shape, all_words, parameters_of, result_of, procedure_by}, Resolved.{Procedure, Argument, Arguments, Also, Invoke, Call, Resolved, outline_of}, Sizes.{frame_words}, Sound.{parameter_of, parameters_given}}
use Rattle.lil_meaning.specs.{Items.{Evaluate, loaded_at, Datum, Callee, ByNumber, callee_number, callee_levels, callee_owner, Called, Do, Passing, Item, Perform, Activation, Going, Source, heap_words}, Need.{HasCalls, chain, chain_of, frame_by, frame_of}, Steps.{next, current, owner_of, procedures_of}}
use Rattle.lil_asm.specs.declared.instr.Instr.{Instr, TheVariants.{Sav, Mrk, Psh}}
use Rattle.lil_mcode.specs.declared.machine.Event.TheVariants.{Went, Limit}
use Rattle.lil_mcode.specs.Table.{State, act, going, mstep, on_one, frame_out, link_word, stacked_row, word_row, save_row}
use Rattle.lil_frames.specs.Words.{spliced}
use Rattle.lil_table.specs.Rows.{InvokeRow, CallRow, given_words, IsAt, InstrsAt, second_code, copy_code, framed, GivenAt, loop_place}
use Rattle.lil_match.specs.{Goes.{OwnWords, Shared, IsShort, Lands, Goes}, Running.{running}, Parts.{yes, no}, Homes.{Home}, Costs.{EachCosts, cost_of, saved_low, pending_cost, items_cost, shared_costs, shared_cost, top_low}, Climbs.{Climbs, climbs, first_own}}
use Rattle.lil_match.specs.{Waits.{Resumed, AStatement, AValue, result_in, resumed_mode, resumed_stack, saved_words, AreSaved, RestoresAt, own_words, Quiet, ValueOf, Around, top_of, IsLink, HasValue, call_code, frames_of, Setting, at_home, pushing, GivenWords, Pending, RowsOf, Rows, Waiting, frame_of as frame_at, laid_out}, Kept.{saved_kept, keeps_fewer, Keeps, pending_fits, rows_renewed, first_words, stack_above, loops_fit, pending_kept, rows_kept}}
use Rattle.lil_match.specs.{Steps.{closed, goes_after_pushed, goes_more, pending_closed, advances, at_step, at_once, goes_after, goes_full, goes_one_in}}
use Rattle.lil_match.specs.{Splices.spliced_twice}
use Rattle.lil_laws_stmt.specs.{Pushes.{copy_once, with_pushed, shadow_beside, pending_more, taking, shared_pushed, touches_pushed, keeps_pushed, shadow_pushed}}

-- ---- procedures
none_procedure : (q : Procedure) → None ≡ Some q → ⊥
none_procedure q e = cc

-- a procedure of which is known what names elsewhere need
pub record Found (ps : List Procedure) (p : ℕ) (outline : Outline) : Type 0 where
  pub its : Procedure
  pub there : procedure_by ps p ≡ Some its
  pub same : outline_of its ≡ outline

pub found : (ps : List Procedure) (p : ℕ) (outline : Outline) → procedure_by (map outline_of ps) p ≡ Some outline → Found ps p outline
found ps zero outline e = absurd (none-some outline e)
found [] (suc p) outline e = absurd (none-some outline e)
found (q ∷ ps) (suc zero) outline e = record { its = q; there = refl; same = same_Some (outline_of q) outline e }
found (q ∷ ps) (suc (suc p)) outline e = let f = found ps (suc p) outline e in record { its = f.its; there = f.there; same = f.same }

pub frame_known : (o : Option Resolved) (p : ℕ) (q : Procedure) → procedure_by (procedures_of o) p ≡ Some q → frame_of o p ≡ frame_words q.locals q.body
frame_known o zero q e = absurd (none_procedure q e)
frame_known None (suc p) q e = absurd (none_procedure q e)
frame_known (Some m) (suc p) q e = ap frame_by e

-- ---- parameters are variables
taken_words : (n : ℕ) (ts : List Shape) → all_words (take n ts) ≤ all_words ts
taken_words zero ts = omega arith
taken_words (suc n) [] = omega arith
taken_words (suc n) (t ∷ ts) = omega (arith, taken_words n ts)

-- the words of the FORs and WITHs around a call lie in the frame
pub pending_loops : (ctx : Setting) (k : List Item) (q : Callee) (done : List Datum) (next : List Shape) (left : Arguments) (p c : ℕ) (a : Around) → 4 + own_words ctx.stack.frame ≤ ctx.stack.frame.layout.frame → Pending ctx q done next left (RowsOf k) p c a
    → loop_place a.taken ≤ ctx.stack.frame.layout.frame
pending_loops ctx k q done next left p c a mark w = pending_fits ctx q done next left k p c a mark w (λ y t p stack c a. loops_fit k y t p stack c a)

-- the words of the next argument are among those that the call takes
pub next_cost : (ctx : Setting) (s : Source) (k : List Item) (q : Callee) (done : List Datum) (t : Shape) (left : Arguments) (start c : ℕ) (a : Around) → Pending ctx q done (t ∷ []) left (RowsOf k) start c a
    → EachCosts ctx.library ctx.loaded ctx.activations (ctx.stack.frame ∷ ctx.stack.callers) → s.loaded ≡ ctx.loaded → s.activations ≡ ctx.activations
    → cost_of (ctx.stack.frame ∷ ctx.stack.callers) + words t ≤ frame_of (loaded_at ctx.library s.loaded (callee_owner (owner_of (slice_get s.activations (current k))) q)) (callee_number q) + 17 + chain ctx.library s.loaded s.activations k
next_cost ctx s k q done t left start c a pending costs loaded_are activations_are =
    let all = pending_cost ctx k q done (t ∷ []) left start c a pending costs (λ y t p stack c a rows costs. items_cost y k t p stack c a rows costs) in
    let same : frame_of (loaded_at ctx.library s.loaded (callee_owner (owner_of (slice_get s.activations (current k))) q)) (callee_number q) + 17 + chain ctx.library s.loaded s.activations k
    ≡ frame_of (loaded_at ctx.library ctx.loaded (callee_owner (owner_of (slice_get ctx.activations (current k))) q)) (callee_number q) + 17 + chain ctx.library ctx.loaded ctx.activations k =
    ap (λ (ns : List ℕ). frame_of (loaded_at ctx.library ns (callee_owner (owner_of (slice_get s.activations (current k))) q)) (callee_number q) + 17 + chain ctx.library ns s.activations k) loaded_are
    ∙ ap (λ (acts : List Activation). frame_of (loaded_at ctx.library ctx.loaded (callee_owner (owner_of (slice_get acts (current k))) q)) (callee_number q) + 17 + chain ctx.library ctx.loaded acts k) activations_are in
    omega (arith, all, same)

module _ (ctx : Setting) where
  open ctx use {library, loaded, table, home as h, stack as st}
  open frame_at ctx use {own, piece}
  open laid_out ctx use {layout as l}

  module _ (s : Source) (m : State) (shared : Shared ctx s m) where
    pub words_here : OwnWords ctx.home.owner ctx.stack.frame m.top
    words_here = first_words h.owner st.base m.top st.frame st.callers shared.standing.stands

    -- a call that finds no room for a word more
    pub short : (t : Source) (more cost : ℕ) → m.limit < m.top + more → cost_of (ctx.stack.frame ∷ ctx.stack.callers) + more ≤ cost → cost ≡ chain_of ctx.library t → t.objects ≡ s.objects → t.workspaces ≡ s.workspaces
        → IsShort ctx.library ctx.stack.base t
    short t more cost less takes same objects workspaces = record {
      less = omega (
        arith,
        less,
        takes,
        same,
        ap (λ (os : List Shape). heap_words os t.workspaces) objects,
        ap (heap_words s.objects) workspaces,
        shared.heap.rest,
        shared.standing.limit_is,
        top_low h.owner st.base m.top st.frame st.callers shared.standing.stands,
      );
    }

  module _ (s : Source) (k : List Item) (m : State) (c : ℕ) (a : Around) (shared : Shared ctx s m) (q : Callee) where
    -- what may be called is there
    pub what : (may : MayCall ctx.stack.frame.layout.scope (callee_number q) (callee_levels q)) → Found (procedures_of (loaded_at ctx.library ctx.loaded ctx.stack.frame.number)) (callee_number q) may.its
    what may =
        let known = shared.standing.known in
        found (procedures_of (loaded_at ctx.library ctx.loaded ctx.stack.frame.number)) (callee_number q) may.its (ap (λ (xs : List Outline). procedure_by xs (callee_number q)) (sym known.procedures) ∙ may.known)

    pub calling : (here : ℕ) → here ≡ ctx.stack.frame.activation → MayCall ctx.stack.frame.layout.scope (callee_number q) (callee_levels q) → callee_owner ctx.stack.frame.number q ≡ ctx.stack.frame.number
        → (t : Source) → (t.loaded ≡ s.loaded) × (t.activations ≡ s.activations) × (current t.items ≡ here) × (next_called t.items ≡ Some q) → IsCalling ctx.library t
    calling here close may own t (loaded_are, activations_are, current_is, is) =
        let one = what may in
        let owner : owner_of (slice_get t.activations (current t.items)) ≡ ctx.stack.frame.number =
        ap (λ (i : ℕ). owner_of (slice_get t.activations i)) (current_is ∙ close) ∙ ap (λ (l : List Activation). owner_of (slice_get l ctx.stack.frame.activation)) (activations_are ∙ shared.activations_are) ∙ shared.standing.known.owner in
        record {
          callee = q;
          its = one.its;
          is = is;
          there = ap (λ (ns : List ℕ). procedure_by (procedures_of (loaded_at ctx.library ns (callee_owner (owner_of (slice_get t.activations (current t.items))) q))) (callee_number q)) (loaded_are ∙ shared.loaded_are)
              ∙ ap (λ (i : ℕ). procedure_by (procedures_of (loaded_at ctx.library ctx.loaded (callee_owner i q))) (callee_number q)) owner
              ∙ ap (λ (i : ℕ). procedure_by (procedures_of (loaded_at ctx.library ctx.loaded i)) (callee_number q)) own
              ∙ one.there;
        }

    -- ---- the mark
    -- a call whose mark is to come, behind the words that were saved for it
    pub record MarkWaits (given : Arguments) (start : ℕ) : Type 0 where
      pub resumed : Resumed
      pub may : MayCall l.scope (callee_number q) (callee_levels q)
      pub here : callee_owner ctx.stack.frame.number q ≡ ctx.stack.frame.number
      pub returns : result_of (procedure_by l.scope.procedures (callee_number q)) ≡ result_in resumed
      pub takes : parameters_of (procedure_by l.scope.procedures (callee_number q)) ≡ parameters_given l.scope given
      pub middle : ℕ
      pub arguments : GivenAt l piece given start middle
      pub end : ℕ
      pub call : IsAt piece middle (call_code q (framed (given_words l.scope given))) end
      pub under : ℕ
      pub pushed : ctx.stack.frame.pushed ≡ saved_words resumed + under
      pub saved : AreSaved h.shadow resumed (ctx.stack.frame.at + (ctx.stack.frame.layout.frame + under))
      pub after : ℕ
      pub restore : RestoresAt piece resumed end after
      pub within : after < length piece
      pub then : Rows (with_pushed ctx under) k (resumed_mode resumed) after (resumed_stack resumed) c a

    -- its words: a link, and a value that is called
    module _ (given : Arguments) (start link value : ℕ) (row : MarkWaits given start) (links : IsLink ctx.stack.frame.display (callee_levels q) link) (valued : HasValue q value) (p : ℕ) (stack : List ℕ)
        (marking : mstep (going m p stack) ≡ stacked_row (link ∷ 0 ∷ 0 ∷ value ∷ []) start [] (going m p stack)) (items : List Item)
        (begins_so : next ctx.library (record s { items = items; phase = Going }) ≡ record s { items = Perform (Passing (Called q) [] given) ∷ k; phase = Going }) where
      abbrev passing : Source
      passing = record s { items = Perform (Passing (Called q) [] given) ∷ k; phase = Going }

      abbrev mark : List ℕ
      mark = link ∷ 0 ∷ 0 ∷ value ∷ []

      close : current k ≡ ctx.stack.frame.activation
      close = closed (with_pushed ctx row.under) k _ _ _ _ _ row.then

      saved_few : saved_words row.resumed ≤ 17
      saved_few = saved_low h.shadow row.resumed _ row.saved

      cost_here : cost_of (ctx.stack.frame ∷ ctx.stack.callers) ≤ saved_words row.resumed + chain ctx.library s.loaded s.activations k
      cost_here =
          let costs = shared_costs ctx s m shared in
          let low = items_cost (with_pushed ctx row.under) k _ row.after _ c a row.then (record { takes = costs.0.takes; rest = costs.0.rest; owner = costs.0.owner }, costs.1) in
          let same : chain ctx.library s.loaded s.activations k ≡ chain ctx.library ctx.loaded ctx.activations k =
          ap (λ (ns : List ℕ). chain ctx.library ns s.activations k) shared.loaded_are ∙ ap (λ (acts : List Activation). chain ctx.library ctx.loaded acts k) shared.activations_are in
          omega (arith, low, same, row.pushed)

      -- what is called has a frame for its arguments
      room_is : 4 + (0 + (0 + given_words l.scope given)) ≤ frame_of (loaded_at ctx.library ctx.loaded ctx.stack.frame.number) (callee_number q)
      room_is =
          let one = what row.may in
          let frame = frame_known (loaded_at ctx.library ctx.loaded ctx.stack.frame.number) (callee_number q) one.its one.there in
          let parameters : take one.its.parameters one.its.locals ≡ parameters_given l.scope given =
          ap (λ (o : Outline). take o.parameters o.locals) one.same ∙ sym (ap parameters_of row.may.known) ∙ row.takes in
          omega (arith, frame, ap all_words parameters, taken_words one.its.parameters one.its.locals)

      four : 4 ≤ frame_of (loaded_at ctx.library s.loaded (callee_owner (owner_of (slice_get s.activations (current k))) q)) (callee_number q)
      four =
          let owner : owner_of (slice_get s.activations (current k)) ≡ ctx.stack.frame.number =
          ap (λ (i : ℕ). owner_of (slice_get s.activations i)) close ∙ ap (λ (acts : List Activation). owner_of (slice_get acts ctx.stack.frame.activation)) shared.activations_are ∙ shared.standing.known.owner in
          let same : frame_of (loaded_at ctx.library s.loaded (callee_owner (owner_of (slice_get s.activations (current k))) q)) (callee_number q) ≡ frame_of (loaded_at ctx.library ctx.loaded ctx.stack.frame.number) (callee_number q) =
          ap (λ (i : ℕ). frame_of (loaded_at ctx.library s.loaded (callee_owner i q)) (callee_number q)) owner
          ∙ ap (λ (i : ℕ). frame_of (loaded_at ctx.library s.loaded i) (callee_number q)) row.here
          ∙ ap (λ (ns : List ℕ). frame_of (loaded_at ctx.library ns ctx.stack.frame.number) (callee_number q)) shared.loaded_are in
          omega (arith, room_is, same)

      full : m.limit < m.top + 4 → Goes ctx s items (going m p stack) (c + 31)
      full less =
          goes_full ctx s items (going m p stack) (c + 31) limit.Stack (marking ∙ yes _ _ _ (lt-ltb m.limit (m.top + 4) less))
          (subst (λ (y : Source). IsShort ctx.library ctx.stack.base y × HasCalls ctx.library y) (sym begins_so)
          (short s m shared passing 4 _ less (omega (arith, cost_here, saved_few, four)) refl refl refl, inr (inl (calling (current k) close row.may row.here passing (refl, refl, refl, refl))))) (omega arith)

      module _ (room : m.top + length mark ≤ ctx.stack.limit) where
        abbrev x : Home
        x = taking ctx s m shared mark room

        abbrev marked : State
        marked = record m { place = start; stack = []; top = m.top + length mark; store = spliced m.store m.top mark }

        abbrev around : Around
        around = record { exit = None; taken = a.taken }

        -- the words of the mark
        pushed_word : (at i w : ℕ) → at ≡ m.top + i → i < 4 → get_or mark i 0 ≡ w → x.shadow at ≡ w
        pushed_word at i w here less is = ap x.shadow here ∙ shadow_pushed ctx s m shared mark room i (omega (arith, less)) ∙ is

        -- the saved words stay
        saved_now : AreSaved x.shadow row.resumed (ctx.stack.frame.at + (ctx.stack.frame.layout.frame + row.under))
        saved_now = saved_kept h.shadow x.shadow row.resumed _ (λ i less. shadow_beside ctx s m shared mark room _ (inl (omega (arith, less, row.pushed, (words_here s m shared).top_is)))) row.saved

        begins : Goes ctx s items (going m p stack) (c + 31)
        begins =
            let loops : loop_place a.taken ≤ ctx.stack.frame.layout.frame = loops_fit k (with_pushed ctx row.under) _ row.after _ c a (words_here s m shared).mark row.then in
            let keeps = keeps_pushed ctx s m shared mark room (loop_place a.taken) loops in
            let above = (stack_above ctx _ shared.standing).1 in
            let pushes : 4 + ctx.stack.frame.pushed ≡ (saved_words row.resumed + (4 + 0)) + row.under = omega (arith, row.pushed) in
            goes_one_in ctx s items (going m p stack) x (pushing ctx 4).stack (c + 31) c (running marked s.world)
            (advances (going m p stack) s.world _ (marking ∙ no _ _ _ (le-ltb m.limit (m.top + 4) (omega (arith, room, shared.standing.limit_is)))))
            (subst (λ (y : Source). Lands (pushing (at_home ctx x) 4) y.phase y (running marked s.world) c) (sym begins_so)
            (record {
              machine = marked;
              is = refl;
              met = record {
                shared = shared_pushed ctx s m shared mark room;
                around = around;
                ahead = at_once (pushing (at_home ctx x) 4) _ Quiet start [] c around
                    (record {
                      quiet = refl;
                      empty = refl;
                      pending = record {
                        before = with_pushed (at_home ctx x) row.under;
                        shapes = [];
                        resumed = row.resumed;
                        is = ap (with_pushed (at_home ctx x)) pushes;
                        saved = saved_now;
                        outer = a;
                        around = refl;
                        later = c;
                        count = omega arith;
                        may = row.may;
                        here = row.here;
                        returns = row.returns;
                        takes = row.takes;
                        room = omega (arith, room_is, saved_few);
                        link = subst (IsLink ctx.stack.frame.display (callee_levels q)) (sym (pushed_word _ 0 link (omega (arith, row.pushed, (words_here s m shared).top_is)) (omega arith) refl)) links;
                        value = subst (HasValue q) (sym (pushed_word _ 3 value (omega (arith, row.pushed, (words_here s m shared).top_is)) (omega arith) refl)) valued;
                        given = tt;
                        middle = row.middle;
                        arguments = row.arguments;
                        end = row.end;
                        call = subst (λ (n : ℕ). IsAt piece row.middle (call_code q (framed n)) row.end) (let e : given_words l.scope given ≡ 0 + (0 + given_words l.scope given) = omega arith in e) row.call;
                        after = row.after;
                        restore = row.restore;
                        within = row.within;
                        then = rows_kept k (with_pushed ctx row.under) x ctx.stack.limit (ctx.stack.base + 4) (above.0, above.1) _ row.after _ c a
                            (keeps_fewer ctx.home x ctx.stack.frame row.under (ctx.stack.callers ++ ctx.stack.bodies) (ctx.stack.base + 4) (ctx.stack.frame.at + loop_place a.taken) (omega (arith, row.pushed)) keeps) row.then;
                      };
                    });
              };
            }))
            (touches_pushed ctx s m shared mark room)
            (record { base = refl; limit = omega arith; frames = λ i seen. inl seen })
            (omega arith)

      pub mark_goes : Goes ctx s items (going m p stack) (c + 31)
      mark_goes = ⊎_elim (λ less. full less) (λ (some : m.top + 4 ≤ m.limit). begins (omega (arith, some, shared.standing.limit_is))) (cases_lt m.limit (m.top + 4))

    -- ---- the next argument
    pub next_argument : (done : List Datum) (y : Argument) (left : Arguments) (w : Pending ctx q done [] (Also y left) (RowsOf k) m.place c a) → Pending ctx q done (parameter_of l.scope y ∷ []) left (RowsOf k) w.arguments.middle c a
    next_argument done y left w = record {
      before = w.before;
      shapes = w.shapes;
      resumed = w.resumed;
      is = w.is;
      saved = w.saved;
      outer = w.outer;
      around = w.around;
      later = w.later;
      count = w.count;
      may = w.may;
      here = w.here;
      returns = w.returns;
      takes = w.takes;
      room = omega (arith, w.room);
      link = w.link;
      value = w.value;
      given = w.given;
      middle = w.middle;
      arguments = w.arguments.then;
      end = w.end;
      call = subst (λ (n : ℕ). IsAt piece w.middle (call_code q (framed n)) w.end) (let e : all_words w.shapes + (0 + given_words l.scope (Also y left)) ≡ all_words w.shapes + ((words (parameter_of l.scope y) + 0) + given_words l.scope left) = omega arith in e) w.call;
      after = w.after;
      restore = w.restore;
      within = w.within;
      then = w.then;
    }

    -- its words go to the frame to come
    module _ (first : List Item) (done : List Datum) (t : Shape) (d : Datum) (left : Arguments) (ws : List ℕ) (start : ℕ) (long : length ws ≡ words t) (pending : Pending ctx q done (t ∷ []) left (RowsOf k) start c a)
        (becomes : next ctx.library (record s { items = first; phase = Going }) ≡ record s { items = Perform (Passing (Called q) (done ++ d ∷ []) left) ∷ k; phase = Going }) where
      abbrev after : Source
      after = record s { items = Perform (Passing (Called q) (done ++ d ∷ []) left) ∷ k; phase = Going }

      cost : cost_of (ctx.stack.frame ∷ ctx.stack.callers) + length ws ≤ frame_of (loaded_at ctx.library s.loaded (callee_owner (owner_of (slice_get s.activations (current k))) q)) (callee_number q) + 17 + chain ctx.library s.loaded s.activations k
      cost = let all = next_cost ctx s k q done t left start c a pending (shared_costs ctx s m shared) shared.loaded_are shared.activations_are in omega (arith, all, long)

      -- one of them finds no room
      push_full : (from : State) (more : ℕ) → more ≤ length ws → m.limit < m.top + more → mstep from ≡ (Limit limit.Stack, from) → Goes ctx s first from (c + 2)
      push_full from more few less steps =
          goes_full ctx s first from (c + 2) limit.Stack steps
          (subst (λ (y : Source). IsShort ctx.library ctx.stack.base y × HasCalls ctx.library y) (sym becomes)
          (short s m shared after more _ less (omega (arith, cost, few)) refl refl refl, inr (inl (calling (current k) (pending_closed ctx k q done _ left _ _ _ pending) pending.may pending.here after (refl, refl, refl, refl))))) (omega arith)

      -- the last of them is there
      pushed_it : (from : State) (room : m.top + length ws ≤ ctx.stack.limit) → mstep from ≡ (Went, record m { place = start; stack = []; top = m.top + length ws; store = spliced m.store m.top ws })
          → GivenWords (at_home ctx (taking ctx s m shared ws room)) t d (top_of ctx.stack.frame) → Goes ctx s first from (c + 2)
      pushed_it from room steps given =
          let x : Home = taking ctx s m shared ws room in
          let machine : State = record m { place = start; stack = []; top = m.top + length ws; store = spliced m.store m.top ws } in
          let loops = pending_loops ctx k q done (t ∷ []) left start c a (words_here s m shared).mark pending in
          let keeps : Keeps ctx.home x (frames_of ctx.stack) (ctx.stack.base + 4) (ctx.stack.frame.at + loop_place a.taken) = keeps_pushed ctx s m shared ws room (loop_place a.taken) loops in
          let kept : Pending (at_home ctx x) q done (t ∷ []) left (RowsOf k) start c a =
          pending_kept k ctx.activations (λ y z i low. rows_renewed k y ctx.activations z i low) ctx x ctx.stack.limit (ctx.stack.base + 4) (stack_above ctx _ shared.standing).1 q done (t ∷ []) left start c a keeps pending in
          goes_one_in ctx s first from x (pushing ctx (length ws)).stack (c + 2) (length (copy_code 4 t) + c) (running machine s.world)
          (advances from s.world _ steps)
          (subst (λ (y : Source). Lands (pushing (at_home ctx x) (length ws)) y.phase y (running machine s.world) (length (copy_code 4 t) + c)) (sym becomes)
          (record {
            machine = machine;
            is = refl;
            met = record {
              shared = shared_pushed ctx s m shared ws room;
              around = a;
              ahead = at_once (pushing (at_home ctx x) (length ws)) _ Quiet start [] (length (copy_code 4 t) + c) a
                  (record {
                    quiet = refl;
                    empty = refl;
                    pending = subst (λ (n : ℕ). Pending (pushing (at_home ctx x) n) q (done ++ d ∷ []) [] left (RowsOf k) start (length (copy_code 4 t) + c) a) (sym long) (pending_more (at_home ctx x) k q done t d left start c a kept given);
                  });
            };
          }))
          (touches_pushed ctx s m shared ws room)
          (record { base = refl; limit = omega arith; frames = λ i seen. inl seen })
          (omega (arith, copy_once 4 t))

    -- all at once
    pub push_goes : (first : List Item) (done : List Datum) (t : Shape) (d : Datum) (left : Arguments) (ws : List ℕ) (p start : ℕ) (stack : List ℕ) → mstep (going m p stack) ≡ longer_row (length ws) (spliced m.store m.top ws) start [] (going m p stack) → length ws ≡ words t
        → Pending ctx q done (t ∷ []) left (RowsOf k) start c a → ((room : m.top + length ws ≤ ctx.stack.limit) → GivenWords (at_home ctx (taking ctx s m shared ws room)) t d (top_of ctx.stack.frame))
        → next ctx.library (record s { items = first; phase = Going }) ≡ record s { items = Perform (Passing (Called q) (done ++ d ∷ []) left) ∷ k; phase = Going } → Goes ctx s first (going m p stack) (c + 2)
    push_goes first done t d left ws p start stack steps long pending given becomes =
        ⊎_elim (λ (less : m.limit < m.top + length ws).
        push_full first done t d left ws start long pending becomes (going m p stack) (length ws) (omega arith) less (steps ∙ yes _ _ _ (lt-ltb m.limit (m.top + length ws) less)))
        (λ (some : m.top + length ws ≤ m.limit).
        let room : m.top + length ws ≤ ctx.stack.limit = omega (arith, some, shared.standing.limit_is) in
        pushed_it first done t d left ws start long pending becomes (going m p stack) room (steps ∙ no _ _ _ (le-ltb m.limit (m.top + length ws) some)) (given room))
        (cases_lt m.limit (m.top + length ws))

    -- the machine with one word more on the stack of frames
    abbrev pub pushed_one : ℕ → ℕ → State
    pushed_one w q = record m { place = q; stack = []; top = m.top + 1; store = spliced m.store m.top (w ∷ []) }

    -- the words of the frame's top are those that were pushed
    pub both_pushed : (u v : ℕ) (room : m.top + length (u ∷ v ∷ []) ≤ ctx.stack.limit) → ((taking ctx s m shared (u ∷ v ∷ []) room).shadow (top_of ctx.stack.frame) ≡ u) × ((taking ctx s m shared (u ∷ v ∷ []) room).shadow (top_of ctx.stack.frame + 1) ≡ v)
    both_pushed u v room =
        let x : Home = taking ctx s m shared (u ∷ v ∷ []) room in (
          ap x.shadow (let e : top_of ctx.stack.frame ≡ m.top + 0 = omega (arith, (words_here s m shared).top_is) in e) ∙ shadow_pushed ctx s m shared (u ∷ v ∷ []) room 0 (omega arith),
          ap x.shadow (let e : top_of ctx.stack.frame + 1 ≡ m.top + 1 = omega (arith, (words_here s m shared).top_is) in e) ∙ shadow_pushed ctx s m shared (u ∷ v ∷ []) room 1 (omega arith),
        )

    -- the words of an open array, of which the first is on the expression stack, one behind the other
    pub two_pushed : (first : List Item) (done : List Datum) (t : Shape) (d : Datum) (left : Arguments) (u high p middle start : ℕ) (stack : List ℕ) → stack ≡ u ∷ [] → (i : Instr) → InstrsAt piece (second_code true i) p middle → IsAt piece middle Psh start
        → ((room : m.top + length (u ∷ []) ≤ ctx.stack.limit) (q : ℕ) → act i middle own (going (pushed_one u q) q []) ≡ (Went, going (pushed_one u q) middle (high ∷ []))) → 2 ≡ words t
        → Pending ctx q done (t ∷ []) left (RowsOf k) start c a
        → ((room : m.top + length (u ∷ high ∷ []) ≤ ctx.stack.limit) → ((taking ctx s m shared (u ∷ high ∷ []) room).shadow (top_of ctx.stack.frame) ≡ u) × ((taking ctx s m shared (u ∷ high ∷ []) room).shadow (top_of ctx.stack.frame + 1) ≡ high) → GivenWords (at_home ctx (taking ctx s m shared (u ∷ high ∷ []) room)) t d (top_of ctx.stack.frame))
        → next ctx.library (record s { items = first; phase = Going }) ≡ record s { items = Perform (Passing (Called q) (done ++ d ∷ []) left) ∷ k; phase = Going } → Goes ctx s first (going m p stack) (c + 4)
    two_pushed first done t d left u high p middle start stack is i at push second long pending given becomes =
        ⊎_elim (λ (less : m.limit < m.top + 1).
        goes_more ctx s first (going m p stack) (c + 2) (c + 4)
        (full (going m p stack) 1 (omega arith) less (steps_one ∙ yes _ _ _ (lt-ltb m.limit (m.top + 1) less))) (omega arith))
        (λ (some : m.top + 1 ≤ m.limit). fits some)
        (cases_lt m.limit (m.top + 1))
      where
        full : (from : State) (more : ℕ) → more ≤ 2 → m.limit < m.top + more → mstep from ≡ (Limit limit.Stack, from) → Goes ctx s first from (c + 2)
        full = push_full first done t d left (u ∷ high ∷ []) start long pending becomes

        steps_one : mstep (going m p stack) ≡ longer_row 1 (spliced m.store m.top (u ∷ [])) at.0 [] (going m p stack)
        steps_one = at_step ctx (going m p stack) shared.program Psh at.0 at.1 ∙ ap (λ (z : List ℕ). on_one (going m p stack) z (word_row at.0 (going m p stack))) is

        fits : m.top + 1 ≤ m.limit → Goes ctx s first (going m p stack) (c + 4)
        fits some =
            let room : m.top + length (u ∷ []) ≤ ctx.stack.limit = omega (arith, some, shared.standing.limit_is) in
            let one : State = pushed_one u at.0 in
            let two : State = going (pushed_one u at.0) middle (high ∷ []) in
            let push_two : mstep two ≡ longer_row 1 (spliced (spliced m.store m.top (u ∷ [])) (m.top + 1) (high ∷ [])) start [] two = at_step ctx two shared.program Psh start push in
            goes_after ctx s first (going m p stack) one (c + 4) (c + 3) (advances (going m p stack) s.world _ (steps_one ∙ no _ _ _ (le-ltb m.limit (m.top + 1) some)))
            (goes_after ctx s first one two (c + 3) (c + 2) (advances one s.world _ (at_step ctx one shared.program i at.2.0 at.2.1 ∙ ap (λ (q : ℕ). act i q own one) at.2.2 ∙ second room at.0))
            (⊎_elim (λ (less : m.limit < m.top + 1 + 1).
            full two 2 (omega arith) (omega (arith, less)) (push_two ∙ yes _ _ _ (lt-ltb m.limit (m.top + 1 + 1) less)))
            (λ (enough : m.top + 1 + 1 ≤ m.limit).
            let all : m.top + 2 ≤ ctx.stack.limit = omega (arith, enough, shared.standing.limit_is) in
            pushed_it first done t d left (u ∷ high ∷ []) start long pending becomes two all
            (push_two ∙ no _ _ _ (le-ltb m.limit (m.top + 1 + 1) enough)
            ∙ ap (λ (z : ℕ × List ℕ). (Went, record m { place = start; stack = []; top = z.0; store = z.1 }))
            (ap (λ (n : ℕ). (n, spliced (spliced m.store m.top (u ∷ [])) (m.top + 1) (high ∷ []))) (let e : m.top + 1 + 1 ≡ m.top + 2 = omega arith in e)
            ∙ ap (λ (z : List ℕ). (m.top + 2, z)) (spliced_twice m.store m.top u high (omega (arith, all, shared.standing.high, shared.mem.long)))))
            (given all (both_pushed u high all)))
            (cases_lt m.limit (m.top + 1 + 1)))
            (omega arith))
            (omega arith)

    -- the word of the frame's top is the one that was pushed
    pub top_pushed : (w : ℕ) (room : m.top + length (w ∷ []) ≤ ctx.stack.limit) → (taking ctx s m shared (w ∷ []) room).shadow (top_of ctx.stack.frame) ≡ w
    top_pushed w room =
        ap (taking ctx s m shared (w ∷ []) room).shadow (let e : top_of ctx.stack.frame ≡ m.top + 0 = omega (arith, (words_here s m shared).top_is) in e) ∙ shadow_pushed ctx s m shared (w ∷ []) room 0 (omega arith)

    pub one_push : (w p start : ℕ) (stack : List ℕ) → stack ≡ w ∷ [] → IsAt piece p Psh start → mstep (going m p stack) ≡ longer_row 1 (spliced m.store m.top (w ∷ [])) start [] (going m p stack)
    one_push w p start stack is push = at_step ctx (going m p stack) shared.program Psh start push ∙ ap (λ (z : List ℕ). on_one (going m p stack) z (word_row start (going m p stack))) is

-- ---- a call of a procedure of the module: its mark has the first word of the frame around it
module _ (ctx : Setting) (s : Source) (k : List Item) (m : State) (c : ℕ) (a : Around) (shared : Shared ctx s m) (proc levels : ℕ) where
  open ctx use {home as h, stack as st}
  open frame_at ctx use {piece}
  open laid_out ctx use {layout as l}

  linked : (n : ℕ) (around : List ℕ) → Declared ctx.stack.frame.layout.scope.chain n around → IsLink ctx.stack.frame.display n (link_word n m)
  linked zero around d = tt
  linked (suc i) around d =
      let up : Climbs ctx.activations m.store ctx.stack.frame ctx.stack.callers i =
      climbs h.shadow ctx.activations m.store st.frame st.callers shared.standing.links
      (λ g among. shared.mem.kept g.at (first_own h.owner st.base m.top st.frame st.callers shared.standing.stands g among)) i d.0 in
      up.shown ∙ ap Some (sym (ap (λ (b : ℕ). frame_out m.store b i) shared.standing.frame_is ∙ up.reached))

  -- what comes behind it
  pub record NumberWaits (given : Arguments) : Type 0 where
    pub resumed : Resumed
    pub end : ℕ
    pub here : CallRow l piece proc levels (result_in resumed) given (GivenAt l piece given) m.place end
    pub under : ℕ
    pub pushed : ctx.stack.frame.pushed ≡ saved_words resumed + under
    pub saved : AreSaved h.shadow resumed (ctx.stack.frame.at + (ctx.stack.frame.layout.frame + under))
    pub after : ℕ
    pub restore : RestoresAt piece resumed end after
    pub within : after < length piece
    pub then : Rows (with_pushed ctx under) k (resumed_mode resumed) after (resumed_stack resumed) c a

  pub number_goes : (given : Arguments) → NumberWaits given → m.stack ≡ [] → (items : List Item) → next ctx.library (record s { items = items; phase = Going }) ≡ record s { items = Perform (Passing (Called (ByNumber proc levels)) [] given) ∷ k; phase = Going }
      → Goes ctx s items m (c + 31)
  number_goes given row empty items begins =
      let r = row.here in
      mark_goes ctx s k m c a shared (ByNumber proc levels) given r.start (link_word levels m) 0
      (record { resumed = row.resumed; may = r.may; here = refl; returns = r.returns; takes = r.takes; middle = r.middle; arguments = r.arguments; end = row.end; call = r.call; under = row.under; pushed = row.pushed; saved = row.saved; after = row.after; restore = row.restore; within = row.within; then = row.then })
      (linked levels r.may.its.around r.may.declared) tt m.place m.stack
      (at_step ctx m shared.program (Mrk levels) r.start r.mark ∙ ap (λ (rest : List ℕ). stacked_row (link_word levels m ∷ 0 ∷ 0 ∷ 0 ∷ []) r.start rest m) empty) items begins

  pub call_goes : (given : Arguments) → Waiting ctx (Perform (Do (Call proc levels given))) (Rows ctx k) Quiet m.place m.stack c a → Goes ctx s (Perform (Do (Call proc levels given)) ∷ k) m (c + 32)
  call_goes given row =
      goes_more ctx s (Perform (Do (Call proc levels given)) ∷ k) m (c + 31) (c + 32)
      (number_goes given
      (record { resumed = AStatement; end = row.part.end; here = row.part.here; under = ctx.stack.frame.pushed; pushed = omega arith; saved = tt; after = row.part.end; restore = refl; within = row.part.within; then = row.then })
      row.part.empty (Perform (Do (Call proc levels given)) ∷ k) refl)
      (omega arith)

-- ---- the words of the expression stack are saved before a call of a function
saved_long : (stack : List ℕ) → length (reverse stack ++ length stack ∷ []) ≡ length stack + 1
saved_long stack = length-append (reverse stack) (length stack ∷ []) ∙ ap (λ (n : ℕ). n + 1) (length-reverse stack)

module _ (ctx : Setting) (s : Source) (k : List Item) (m : State) (c : ℕ) (a : Around) (shared : Shared ctx s m) (kind : Kind) (end : ℕ) (shallow : length m.stack + 1 ≤ 16) (behind : Rows ctx k (ValueOf (base_of kind)) end m.stack c a) where
  open frame_at ctx use {piece}

  abbrev pub ws : List ℕ
  ws = reverse m.stack ++ length m.stack ∷ []

  pub long : length ws ≡ length m.stack + 1
  long = saved_long m.stack

  module _ (room : m.top + length ws ≤ ctx.stack.limit) where
    abbrev pub saved_home : Home
    saved_home = taking ctx s m shared ws room

    abbrev pub saved_state : ℕ → State
    saved_state q = record m { place = q; stack = []; top = m.top + length ws; store = spliced m.store m.top ws }

    pub shared_saved : (q : ℕ) → Shared (pushing (at_home ctx saved_home) (length ws)) s (saved_state q)
    shared_saved q = shared_pushed ctx s m shared ws room

    pub are_saved : AreSaved saved_home.shadow (AValue kind m.stack) (top_of ctx.stack.frame)
    are_saved = (
      omega (arith, shallow),
      λ i less. ap (λ (j : ℕ). saved_home.shadow (j + i)) (let e : top_of ctx.stack.frame ≡ m.top = sym (words_here ctx s m shared).top_is in e) ∙ shadow_pushed ctx s m shared ws room i (omega (arith, less, long)),
    )

    pub behind_saved : Rows (at_home ctx saved_home) k (ValueOf (base_of kind)) end m.stack c a
    behind_saved =
        let loops = loops_fit k ctx _ end m.stack c a (words_here ctx s m shared).mark behind in
        rows_kept k ctx saved_home ctx.stack.limit (ctx.stack.base + 4) (stack_above ctx _ shared.standing).1 _ end m.stack c a (keeps_pushed ctx s m shared ws room (loop_place a.taken) loops) behind

  -- what the next state needs is at least what they take
  pub save_goes : (items : List Item) (q : ℕ) → IsAt piece m.place Sav q → (t : Source) → next ctx.library (record s { items = items; phase = Going }) ≡ t
      → chain ctx.library s.loaded s.activations k + 17 ≤ chain_of ctx.library t → t.objects ≡ s.objects → t.workspaces ≡ s.workspaces → HasCalls ctx.library t
      → ((room : m.top + length ws ≤ ctx.stack.limit) → Goes (pushing (at_home ctx (saved_home room)) (length ws)) s items (saved_state room q) (c + 31)) → Goes ctx s items m (c + 32)
  save_goes items q save t becomes cost objects workspaces calls goes =
      ⊎_elim (λ (less : m.limit < m.top + length ws).
      goes_full ctx s items m (c + 32) limit.Stack (saving ∙ yes _ _ _ (lt-ltb m.limit (m.top + length ws) less))
      (subst (λ (y : Source). IsShort ctx.library ctx.stack.base y × HasCalls ctx.library y) (sym becomes)
      (short ctx s m shared t (length ws) _ less (let low = shared_cost ctx s m shared k _ _ _ _ _ behind in omega (arith, low, long, shallow, cost)) refl objects workspaces, calls)) (omega arith))
      (λ (some : m.top + length ws ≤ m.limit).
      let room : m.top + length ws ≤ ctx.stack.limit = omega (arith, some, shared.standing.limit_is) in
      goes_after_pushed ctx s items m (saved_state room q) (saved_home room) (length ws) (c + 32) (c + 31)
      (advances m s.world _ (saving ∙ no _ _ _ (le-ltb m.limit (m.top + length ws) some)))
      (touches_pushed ctx s m shared ws room) (goes room) (omega arith))
      (cases_lt m.limit (m.top + length ws))
    where
      saving : mstep m ≡ save_row q m
      saving = at_step ctx m shared.program Sav q save

-- a call of a function of the module
module _ (ctx : Setting) (s : Source) (k : List Item) (m : State) (c : ℕ) (a : Around) (shared : Shared ctx s m) (proc levels : ℕ) (kind : Kind) (given : Arguments) (row : Waiting ctx (Evaluate (Invoke proc levels kind given)) (Rows ctx k) Quiet m.place m.stack c a) where
  open frame_at ctx use {piece}
  open laid_out ctx use {layout as l}

  abbrev passed : Source
  passed = record s { items = Perform (Passing (Called (ByNumber proc levels)) [] given) ∷ k; phase = Going }

  here : InvokeRow piece (CallRow l piece proc levels (Some kind) given (GivenAt l piece given)) m.place row.part.end
  here = row.part.here

  pub invoke_goes : Goes ctx s (Evaluate (Invoke proc levels kind given) ∷ k) m (c + 32)
  invoke_goes =
      save_goes ctx s k m c a shared kind row.part.end (omega (arith, row.part.shallow)) row.then (Evaluate (Invoke proc levels kind given) ∷ k) here.saved here.save passed refl (omega arith) refl refl
      (inr (inl (calling ctx s k m c a shared (ByNumber proc levels) (current k) (closed ctx k _ _ _ _ _ row.then) here.its.may refl passed (refl, refl, refl, refl))))
      (λ room.
      let few : length m.stack + 1 ≤ 16 = omega (arith, row.part.shallow) in
      number_goes (pushing (at_home ctx (saved_home ctx s k m c a shared kind row.part.end few row.then room)) (length (ws ctx s k m c a shared kind row.part.end few row.then))) s k
      (saved_state ctx s k m c a shared kind row.part.end few row.then room here.saved) c a (shared_saved ctx s k m c a shared kind row.part.end few row.then room here.saved) proc levels given
      (record {
        resumed = AValue kind m.stack;
        end = here.end;
        here = here.its;
        under = ctx.stack.frame.pushed;
        pushed = omega (arith, long ctx s k m c a shared kind row.part.end few row.then);
        saved = are_saved ctx s k m c a shared kind row.part.end few row.then room;
        after = row.part.end;
        restore = here.restore;
        within = row.part.within;
        then = behind_saved ctx s k m c a shared kind row.part.end few row.then room;
      })
      refl (Evaluate (Invoke proc levels kind given) ∷ k) refl)
