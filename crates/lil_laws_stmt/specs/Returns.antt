-- The end of a procedure: a return to the frame below.
use Rattle.std.proofs.Common.{◌≡◌, ℕ, ◌+◌, ◌-◌, ◌<◌, ◌≤◌, ◌⊎◌, inl, inr, ⊎_elim, Bool, true, false, cond, not, ◌||◌, eqb-true, Some, List, [], ◌∷◌, ◌++◌, get_or, length, reverse, take, drop, length-drop, length-take-le, get_or-take, get_or-drop, get_or-append-add, ext_get_or, refl, sym, ap, ◌∙◌, subst, arith}
use Rattle.std.specs.{Prelude.{is_some, ◌==◌}, List.list_any}
use Rattle.std.proofs.lemmas.Bool.{ne_eqb, cases_lt, lt-ltb, le-leb, and_from}
use Rattle.lil_resolved.specs.Kinds.{Objects, Workspaces, Kind, OfPointer, OfRange, Scalar, ToObject, ToWorkspace, Absent, within, base_of}
use Rattle.std.proofs.lemmas.List.{length-reverse, reverse-reverse, get_or_append_left}
use Rattle.lil_mcode.specs.declared.machine.Event.TheVariants.{Went}
use Rattle.lil_meaning.specs.{Items.{Value, Scalars, Root, Global, Local, Object, Item, Going, Source}, Steps.{next as turn}}
use Rattle.lil_asm.specs.declared.instr.Instr.TheVariants.{Rtn, Rst}
use Rattle.lil_mcode.specs.Table.{Module, State, mstep, restored_row, stack_of, module_at, return_row}
use Rattle.lil_table.specs.Rows.{IsAt}
use Rattle.lil_match.specs.{Goes.{OwnWords, Stands, IsUnborn, beyond, Shared, Lands, Touches, Goes}, Running.{running, advanced}, Parts.{yes, no}, Homes.{Refers, refers_base, word_for, within_base, Of, Own, Fixed, Free, Home, extends_self, Mem}, Waits.{Quiet, Resumed, AStatement, AValue, AreSaved, saved_words, resumed_mode, resumed_stack, RestoresAt, frames_of, Frame, is_of, sees, Setting, at_home, with_frames, Rows, RowsOf, Back}, Known.{or_later, known_kept, each_known, each_comes, each_local}}
use Rattle.lil_match.specs.{Kept.{sees_pushed, EachAbove, each_handed, first_words, stands_above, all_above, stands_kept, copies_below, rows_kept}, Steps.{at_once, goes_after, advances, at_step, rows_ahead, goes_one_in}}
use Rattle.lil_laws_stmt.specs.Pushes.{known_repushed, links_repushed, locals_repushed, handed_repushed}
use Rattle.lil_laws_stmt.specs.Locals.{of_activation, released, mem_released, fixed_released}
use Rattle.lil_laws_stmt.specs.Painting.{painted_there, painted_beside, Side, Before, Between, Behind', side}

module _ (ctx : Setting) (f g : Frame) (gs bs : List Frame) where
  abbrev called : Setting
  called = with_frames ctx f (g ∷ gs) bs

  module _ (s : Source) (m : State) (shared : Shared called s m) (first : List Item) (k : List Item) (c : ℕ) (end : ℕ) (leave : IsAt f.piece m.place Rtn end)
      (back : Back called g (λ n. RowsOf k (with_frames ctx (record g { pushed = n }) gs bs)) c) where
    -- the frame without the words that were saved
    abbrev g2 : Frame
    g2 = record g { pushed = back.under_saved }

    abbrev returning : Setting
    returning = with_frames ctx g2 gs bs

    abbrev from : ℕ
    from = g.at + (g.layout.frame + back.under_saved)

    abbrev h : Home
    h = ctx.home

    abbrev base : ℕ
    base = ctx.stack.base

    -- the frame's words are in use no more, and its variables go
    abbrev x : Home
    x = released ctx.home from m.top ctx.stack.base f.activation

    there_is : (a : ℕ) → from ≤ a → a < m.top → x.owner a ≡ Free ctx.stack.base
    there_is a is below = painted_there ctx.home.owner from m.top (λ b. Free ctx.stack.base) a is below

    beside_is : (a : ℕ) → (a < from) ⊎ ((from ≤ a) × (m.top ≤ a)) → x.owner a ≡ ctx.home.owner a
    beside_is a o = painted_beside ctx.home.owner from m.top (λ b. Free ctx.stack.base) a o

    words : OwnWords ctx.home.owner f m.top
    words = shared.standing.stands.0

    low : (ctx.stack.base ≤ g.at) × EachAbove (ctx.stack.base + 4) (g ∷ (gs ++ bs))
    low = stands_above h.owner base f.at g gs bs shared.standing.stands.1 (all_above called (stack_of m) shared.standing)

    under : OwnWords ctx.home.owner g f.at
    under = first_words h.owner base f.at g gs shared.standing.stands.1

    mark : (i : ℕ) → i < 4 → get_or m.store (m.frame + i) 0 ≡ ctx.home.shadow (f.at + i)
    mark i less =
        ap (λ (a : ℕ). get_or m.store (a + i) 0) shared.standing.frame_is ∙ shared.mem.kept (f.at + i) (words.own i (inl less) (omega (arith, less, words.mark, words.top_is)))

    abbrev machine : State
    machine = record m { top = m.frame; frame = g.at; place = f.back; running = g.number }

    steps : advanced (running m s.world) ≡ running machine s.world
    steps =
        let there : module_at m.modules g.number ≡ Some g.own = ap (λ (ms : List Module). module_at ms g.number) shared.program.table_is ∙ shared.standing.callers.0.known in
        advances m s.world _ (
        at_step called m shared.program Rtn end leave
        ∙ no _ _ _ (ne_eqb m.frame m.base (λ e. omega (arith, e, shared.standing.frame_is, shared.standing.base_is, low.0, under.top_is, under.mark)))
        ∙ ap (λ (z : ℕ). return_row m z (get_or m.store (m.frame + 2) 0) (get_or m.store (m.frame + 3) 0)) (mark 1 (omega arith) ∙ back.frame)
        ∙ ap (λ (z : ℕ). return_row m g.at z (get_or m.store (m.frame + 3) 0)) (mark 2 (omega arith) ∙ back.place)
        ∙ ap (λ (z : ℕ). return_row m g.at f.back z) (mark 3 (omega arith) ∙ back.module')
        ∙ yes _ _ _
        (and_from _ _ (lt-ltb (m.frame + 3) 65536 (omega (arith, shared.standing.frame_is, words.mark, words.top_is, shared.standing.low, shared.standing.high)))
        (and_from _ _ (le-leb m.base g.at (omega (arith, shared.standing.base_is, low.0)))
        (and_from _ _ (le-leb (g.at + 4) m.frame (omega (arith, shared.standing.frame_is, under.mark, under.top_is))) (ap is_some there))))
        )

    -- it begins behind the words that were saved
    begins : f.at ≡ from + saved_words back.resumed
    begins = omega (arith, under.top_is, back.pushed_is)

    -- and those behind the copies
    copies_low : g.copied ≤ back.under_saved
    copies_low = copies_below k (with_frames called g2 gs bs) _ _ _ _ _ back.then

    -- those words and its own are the machine's, or its variables'
    mine : (i : ℕ) → from ≤ i → i < m.top → (ctx.home.owner i ≡ Own) ⊎ ((y : ℕ) × (ctx.home.owner i ≡ Of (Local f.activation y)))
    mine i is below =
        ⊎_elim
        (λ (less : i < f.at).
        inl (subst (λ (a : ℕ). ctx.home.owner a ≡ Own) (let e : g.at + (i - g.at) ≡ i = omega (arith, is) in e) (under.own (i - g.at) (inr (omega (arith, is, under.mark), inr (omega (arith, is, copies_low)))) (omega (arith, is, less)))))
        (λ (more : f.at ≤ i).
        subst (λ (a : ℕ). (ctx.home.owner a ≡ Own) ⊎ ((y : ℕ) × (ctx.home.owner a ≡ Of (Local f.activation y)))) (let e : f.at + (i - f.at) ≡ i = omega (arith, more) in e) (words.mine (i - f.at) (omega (arith, more, below))))
        (cases_lt i f.at)

    mem : Mem x s.cells m.store
    mem = mem_released h s.cells m.store shared.mem from m.top ctx.stack.base f.activation mine

    -- a word that never changes isn't the frame's
    fixed_kept : (a : ℕ) → ctx.home.owner a ≡ Fixed → (x.owner a ≡ Fixed) × (ctx.home.shadow a ≡ ctx.home.shadow a)
    fixed_kept a e = (fixed_released h s.cells m.store shared.mem from m.top ctx.stack.base f.activation mine a e, refl)

    -- no other frame's variables go
    alive : (r : Root) → sees (g ∷ (gs ++ bs)) r ≡ true → of_activation f.activation r ≡ false
    alive (Global m y) seen = refl
    alive (Object o) seen = refl
    alive (Local c y) seen = by (f.activation == c) refl
      where
        by : (b : Bool) → (f.activation == c) ≡ b → b ≡ false
        by true e = let clash : true ≡ false = sym seen ∙ ap (λ (a : ℕ). list_any (is_of a) (g ∷ (gs ++ bs))) (sym (eqb-true f.activation c e)) ∙ shared.standing.locals.1 in cc
        by false e = refl

    shape_kept : (r : Root) → sees (g ∷ (gs ++ bs)) r ≡ true → x.shape r ≡ ctx.home.shape r
    shape_kept r seen = no (of_activation f.activation r) Absent (ctx.home.shape r) (alive r seen)

    beyond_it : (r : Root) → beyond (f ∷ g ∷ (gs ++ bs)) r ≡ true → x.shape r ≡ ctx.home.shape r
    beyond_it (Global m y) away = refl
    beyond_it (Object o) away = refl
    beyond_it (Local c y) away = by (f.activation == c) away
      where
        by : (b : Bool) → not (b || list_any (is_of c) (g ∷ (gs ++ bs))) ≡ true → cond b Absent (ctx.home.shape (Local c y)) ≡ ctx.home.shape (Local c y)
        by true away = absurd (let clash : false ≡ true = away in cc)
        by false away = refl

    unborn : IsUnborn x.shape ctx.activations
    unborn c y past = by (f.activation == c)
      where
        by : (b : Bool) → cond b Absent (ctx.home.shape (Local c y)) ≡ Absent
        by true = refl
        by false = shared.unborn c y past

    -- the frame below stands as it did before the words were saved
    own2 : OwnWords x.owner g2 from
    own2 = record {
      mark = under.mark;
      top_is = omega arith;
      own = λ i free less. beside_is (g.at + i) (inl less) ∙ under.own i free (omega (arith, less, begins));
      mine = λ i less. ⊎_elim (λ own. inl (beside_is (g.at + i) (inl less) ∙ own)) (λ one. inr (one.0, beside_is (g.at + i) (inl less) ∙ one.1)) (under.mine i (omega (arith, less, begins)));
    }

    stands2 : (es : List Frame) → Stands h.owner base f.at g es → Stands x.owner base from g2 es
    stands2 [] s = (own2, s.1)
    stands2 (e ∷ es) s = (own2, stands_kept h.owner x.owner base g.at e es (λ a below less. beside_is a (inl (omega (arith, less)))) s.1)

    -- where the machine goes on
    abbrev landed : List ℕ → State
    landed stack = record m { top = from; frame = g.at; place = back.after; running = g.number; stack = stack }

    pub shared_back : (stack : List ℕ) → Shared (at_home returning x) s (landed stack)
    shared_back stack =
        let g' = shared.standing in
        record {
          mem = mem;
          heap = record {
            born = shared.heap.born;
            above = shared.heap.above;
            apart = shared.heap.apart;
            known = shared.heap.known;
            clear = shared.heap.clear;
            distinct = shared.heap.distinct;
            rest = shared.heap.rest;
          };
          unborn = unborn;
          program = record { table_is = shared.program.table_is; known = g'.callers.0.known; piece = record { is = g'.callers.0.piece.is; within = g'.callers.0.piece.within }; running_is = refl; marked_is = shared.program.marked_is };
          standing = record {
            frame_is = refl;
            base_is = g'.base_is;
            limit_is = g'.limit_is;
            bodies_are = g'.bodies_are;
            known = known_repushed g g.pushed back.under_saved ctx.library ctx.loaded ctx.table ctx.activations x
                (known_kept ctx.library ctx.loaded ctx.table ctx.activations ctx.activations (λ i b e. e) h x (λ n y. refl) (λ n y. refl) refl fixed_kept g g'.callers.0);
            callers = each_known ctx.library ctx.loaded ctx.table ctx.activations ctx.activations (λ i b e. e) h x (λ n y. refl) (λ n y. refl) refl fixed_kept gs g'.callers.1;
            comes = each_comes ctx.library ctx.loaded ctx.table ctx.activations ctx.activations (λ i b e. e) h x (λ n y. refl) (λ n y. refl) refl fixed_kept ctx.stack.base bs g'.comes;
            stands = stands2 gs g'.stands.1;
            links = links_repushed g g.pushed back.under_saved h.shadow ctx.activations gs g'.links.1;
            locals = locals_repushed g g.pushed back.under_saved ctx.activations x (gs ++ bs) (each_local ctx.activations ctx.activations (λ i b e. e) h x (g ∷ (gs ++ bs)) (λ r seen e. refl) (λ r seen e. shape_kept r seen) g'.locals.2);
            handed = handed_repushed g g.pushed back.under_saved ctx.activations x gs bs
                (each_handed ctx.activations ctx.activations (λ i b e. e) h x bs base f.at g gs g'.stands.1 (λ a is below. (beside_is a (inl (omega (arith, below, under.mark))), refl)) (λ r seen e. refl) (λ r seen e. shape_kept r seen) g'.handed.2);
            room = λ a is below. room a is below (side from m.top a);
            based = g'.based;
            low = omega (arith, begins, g'.frame_is, words.top_is, g'.low);
            high = g'.high;
          };
          activations_are = shared.activations_are;
          loaded_are = shared.loaded_are;
          levels = shared.levels;
          parked_are = shared.parked_are;
          kept_are = shared.kept_are;
        }
      where
        room : (a : ℕ) → from ≤ a → a < ctx.stack.limit → Side from m.top a → x.owner a ≡ Free ctx.stack.base
        room a is below (Before z) = absurd (omega (arith, z, is))
        room a is below (Between z y) = there_is a z y
        room a is below (Behind' z y) = beside_is a (inr (z, y)) ∙ shared.standing.room a y below

    pub touches_back : Touches h x (frames_of called.stack) ctx.stack.base ctx.stack.limit
    touches_back = record {
      owner = λ a o. beside_is a (beside a o);
      shadow = λ a o. refl;
      base = λ r away e. refl;
      shape = λ r away e. beyond_it r away;
      listed = refl;
      workspaces = extends_self h.workspaces;
      fixed = fixed_kept;
    }
      where
        beside : (a : ℕ) → (a < ctx.stack.base) ⊎ (ctx.stack.limit ≤ a) → (a < from) ⊎ ((from ≤ a) × (m.top ≤ a))
        beside a (inl l) = inl (omega (arith, l, low.0, begins))
        beside a (inr o) = inr (omega (arith, o, words.top_is, begins, shared.standing.low), omega (arith, o, shared.standing.low))

    -- what is left is as it was
    pub rows_back : Rows (at_home returning x) k (resumed_mode back.resumed) back.after (resumed_stack back.resumed) c back.outer
    rows_back =
        rows_kept k returning x ctx.stack.limit (base + 4) (low.1.0, low.1.1) (resumed_mode back.resumed) back.after (resumed_stack back.resumed) c back.outer
        (record { pushed = λ i less. refl; shadow = λ a is below. refl; base = λ r e l. refl; shape = λ r e l. shape_kept r (sees_same r ∙ e); listed = refl; workspaces = extends_self h.workspaces })
        back.then
      where
        sees_same : (r : Root) → sees (g ∷ (gs ++ bs)) r ≡ sees (g2 ∷ (gs ++ bs)) r
        sees_same r = sym (sees_pushed g back.under_saved (gs ++ bs) r)

    pub goes_back : turn ctx.library (record s { items = first; phase = Going }) ≡ record s { items = k; phase = Going } → m.stack ≡ [] → back.resumed ≡ AStatement → Goes called s first m (c + 32)
    goes_back becomes empty none =
        let words_none : saved_words back.resumed ≡ 0 = ap saved_words none in
        let at : f.back ≡ back.after = subst (λ (r : Resumed). RestoresAt g.piece r f.back back.after) none back.restore in
        let low_is : m.frame ≡ from = omega (arith, begins, words_none, shared.standing.frame_is) in
        let same : machine ≡ landed [] = (λ i. record m { top = low_is i; frame = g.at; place = at i; running = g.number; stack = empty i }) in
        goes_one_in called s first m x (record (ctx.stack) { frame = g2; callers = gs; bodies = bs }) (c + 32) c (running (landed []) s.world) (steps ∙ ap (λ (y : State). running y s.world) same)
        (subst (λ (y : Source). Lands (record called { home = x; stack = record (ctx.stack) { frame = g2; callers = gs; bodies = bs } }) y.phase y (running (landed []) s.world) c) (sym becomes)
        (record {
          machine = landed [];
          is = refl;
          met = record {
            shared = shared_back [];
            around = back.outer;
            ahead = rows_ahead (at_home returning x) k back.after [] c back.outer (subst (λ (r : Resumed). Rows (at_home returning x) k (resumed_mode r) back.after (resumed_stack r) c back.outer) none rows_back);
          };
        }))
        touches_back
        (record { base = refl; limit = omega arith; frames = λ a seen. inl (or_later (is_of a f) (list_any (is_of a) (g ∷ (gs ++ bs))) seen) })
        (omega arith)

    -- ---- a function's value, and the words that were saved before the call
    was_own : (i : ℕ) → i < saved_words back.resumed → get_or m.store (from + i) 0 ≡ h.shadow (from + i)
    was_own i less =
        shared.mem.kept (from + i)
        (subst (λ (a : ℕ). h.owner a ≡ Own) (let e : g.at + (g.layout.frame + back.under_saved + i) ≡ from + i = omega arith in e) (under.own (g.layout.frame + back.under_saved + i) (inr (omega (arith, under.mark), inr (omega (arith, copies_low)))) (omega (arith, less, begins))))

    module _ (w : ℕ) (kind : Kind) (saved : List ℕ) (resumed : back.resumed ≡ AValue kind saved) (alone : m.stack ≡ w ∷ []) where
      kept : AreSaved h.shadow (AValue kind saved) from
      kept = subst (λ (r : Resumed). AreSaved h.shadow r from) resumed back.saved

      words_saved : saved_words back.resumed ≡ length saved + 1
      words_saved = ap saved_words resumed

      store_is : (i : ℕ) → i < length saved + 1 → get_or m.store (from + i) 0 ≡ get_or (reverse saved ++ length saved ∷ []) i 0
      store_is i less = was_own i (omega (arith, less, words_saved)) ∙ kept.1 i less

      number_is : get_or m.store (m.frame - 1) 0 ≡ length saved
      number_is =
          ap (λ (i : ℕ). get_or m.store i 0) (let e : m.frame - 1 ≡ from + length saved = omega (arith, begins, words_saved, shared.standing.frame_is) in e)
          ∙ store_is (length saved) (omega arith)
          ∙ ap (λ (n : ℕ). get_or (reverse saved ++ length saved ∷ []) n 0) (sym (length-reverse saved) ∙ (let e : length (reverse saved) ≡ length (reverse saved) + 0 = omega arith in e))
          ∙ get_or-append-add (reverse saved) (length saved ∷ []) 0 0

      inside_store : from + length saved ≤ length m.store
      inside_store = omega (arith, begins, words_saved, shared.mem.long, words.mark, words.top_is, shared.standing.low, shared.standing.high)

      block_is : take (length saved) (drop from m.store) ≡ reverse saved
      block_is =
          ext_get_or 0 (take (length saved) (drop from m.store)) (reverse saved)
          (length-take-le (length saved) (drop from m.store) (omega (arith, length-drop from m.store, inside_store)) ∙ sym (length-reverse saved))
          (λ i less.
          let small : i < length saved = omega (arith, less, length-take-le (length saved) (drop from m.store) (omega (arith, length-drop from m.store, inside_store))) in
          get_or-take (length saved) (drop from m.store) i 0 small ∙ get_or-drop from m.store i 0 ∙ store_is i (omega (arith, small)) ∙ get_or_append_left (reverse saved) (length saved ∷ []) 0 i (omega (arith, small, length-reverse saved)))

      abbrev popped : State
      popped = record m { top = m.frame; frame = g.at; place = f.back; running = g.number; stack = w ∷ [] }

      back_at : IsAt g.piece f.back (Rst 1) back.after
      back_at = subst (λ (r : Resumed). RestoresAt g.piece r f.back back.after) resumed back.restore

      restores : mstep popped ≡ (Went, landed (w ∷ saved))
      restores =
          let k = length saved in
          at_step (with_frames ctx g gs bs) popped (record { table_is = shared.program.table_is; known = shared.standing.callers.0.known; piece = record { is = shared.standing.callers.0.piece.is; within = shared.standing.callers.0.piece.within }; running_is = refl; marked_is = shared.program.marked_is }) (Rst 1) back.after back_at
          ∙ ap (λ (n : ℕ). restored_row 1 back.after popped n) number_is
          ∙ yes _ _ _ (and_from _ _ refl (and_from _ _ (le-leb (k + 1) 16 (omega (arith, kept.0))) (le-leb (g.at + 5 + k) m.frame (omega (arith, under.mark, begins, words_saved, shared.standing.frame_is)))))
          ∙ (λ i. (Went, record popped { place = back.after; stack = (w ∷ []) ++ stack_is i; top = low_is i }))
        where
          low_is : m.frame - 1 - length saved ≡ from
          low_is = omega (arith, begins, words_saved, shared.standing.frame_is)

          stack_is : reverse (take (length saved) (drop (m.frame - 1 - length saved) m.store)) ≡ saved
          stack_is = ap (λ (a : ℕ). reverse (take (length saved) (drop a m.store))) low_is ∙ ap reverse block_is ∙ reverse-reverse saved

      pub goes_back_with : (v : Scalar) → within kind v ≡ true → Refers h kind v → w ≡ word_for h v → turn ctx.library (record s { items = first; phase = Going }) ≡ record s { items = Value (Scalars v) ∷ k; phase = Going } → Goes called s first m (c + 31)
      goes_back_with v fits refers is becomes =
          let same : machine ≡ popped = (λ i. record m { top = m.frame; frame = g.at; place = f.back; running = g.number; stack = alone i }) in
          let rows = subst (λ (r : Resumed). Rows (at_home returning x) k (resumed_mode r) back.after (resumed_stack r) c back.outer) resumed rows_back in
          goes_after called s first m popped (c + 31) (c + 30) (steps ∙ ap (λ (y : State). running y s.world) same)
          (goes_one_in called s first popped x (record (ctx.stack) { frame = g2; callers = gs; bodies = bs }) (c + 30) c (running (landed (w ∷ saved)) s.world) (advances popped s.world _ restores)
          (subst (λ (y : Source). Lands (record called { home = x; stack = record (ctx.stack) { frame = g2; callers = gs; bodies = bs } }) y.phase y (running (landed (w ∷ saved)) s.world) c) (sym becomes)
          (record {
            machine = landed (w ∷ saved);
            is = refl;
            met = record {
              shared = shared_back (w ∷ saved);
              around = back.outer;
              ahead = at_once (at_home returning x) _ Quiet back.after (w ∷ saved) c back.outer
                  (record { part = record { kind = base_of kind; fits = within_base kind v fits; refers = refers_now (base_of kind) v (refers_base h kind v refers); below = saved; is = ap (λ (z : ℕ). z ∷ saved) is }; then = rows });
            };
          }))
          touches_back
          (record { base = refl; limit = omega arith; frames = λ a seen. inl (or_later (is_of a f) (list_any (is_of a) (g ∷ (gs ++ bs))) seen) })
          (omega arith))
          (omega arith)
        where
          refers_now : (j : Kind) (u : Scalar) → Refers h j u → Refers x j u
          refers_now (OfPointer (Objects n)) (ToObject o) r = r
          refers_now (OfPointer Workspaces) (ToWorkspace w) r = r
          refers_now (OfRange b low high) u r = refers_now b u r
          refers_now _ _ r = r
