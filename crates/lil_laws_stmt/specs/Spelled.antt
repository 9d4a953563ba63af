-- Strings for arrays by value: their characters go to the frame to come, and zeros behind them to the array's end.
use Rattle.std.proofs.Common.{◌≡◌, ℕ, zero, suc, ◌+◌, ◌-◌, ◌<◌, ◌≤◌, inl, inr, true, pos, ◌-ℤ◌, Ok, List, [], ◌∷◌, ◌++◌, length, get_or, take, drop}
use Rattle.std.proofs.Common.{refl, sym, ap, ◌∙◌, subst, ⊎_elim, arith, length-drop}
use Rattle.std.specs.Prelude.{min, slice_get}
use Rattle.std.proofs.lemmas.{Bool.{cases_lt, lt-ltb, le-ltb, le-leb, ne_eqb}, List.{length-take-le, get_or-take, get_or-drop, get_or_past}, Int.ints}
use Rattle.lil_base.specs.{Words.{Cardinal, kept}, Laws.{in_type_card, kept_in}}
use Rattle.lil_base.specs.declared.fault.LimitKind.TheVariants as limit
use Rattle.lil_resolved.specs.Kinds.{Kind, OfCharacter, Character, within, base_of, MayCall, Shape, Word, Row, words, is_there, part_at, offset as part_offset}
use Rattle.lil_resolved.specs.{Resolved.{Arguments, Also, Spelled}, Sound.is_text}
use Rattle.lil_meaning.specs.Items.{Datum, Wholes, text_under, loaded_at, Callee, callee_number, callee_levels, callee_owner, Called, Passing, Spelling}
use Rattle.lil_meaning.specs.{Items.{Item, Perform, Going, Source}, Need.{HasCalls, chain, frame_of}, Steps.{next, current, owner_of}}
use Rattle.lil_asm.specs.declared.instr.Instr.TheVariants.{Liw, Lag, Psh, Psm, Sbc, Jor}
use Rattle.lil_mcode.specs.declared.machine.Event.TheVariants.{Went, Limit}
use Rattle.lil_mcode.specs.Table.{State, act, going, mstep, longer_row, result_row}
use Rattle.lil_frames.specs.Words.{spliced}
use Rattle.lil_table.specs.Rows.{IsAt, SpelledRow, ZerosRow, ZerosAt, copy_code, loop_place}
use Rattle.lil_match.specs.{Goes.{Shared, IsShort, GoesOn, Goes}, Running.running, Parts.{yes, no, element}, Homes.{Home, IsWord, Refers, text_character}}
use Rattle.lil_match.specs.{Splices.block_alone, Orders.instr_within, Costs.{cost_of, shared_costs}}
use Rattle.lil_match.specs.Kept.{keeps_fewer, pending_kept, rows_renewed, stack_above}
use Rattle.lil_match.specs.Waits.{Quiet, Around, Setting, at_home, pushing, top_of, frame_of as frame_at, laid_out, ZerosLeft, GivenWords, RowsOf}
use Rattle.lil_match.specs.Waits.{Pending, PendingWaits, SpellingWaits}
use Rattle.lil_match.specs.Steps.{advances, pushes, at_step, at_once, inside_own, pending_closed}
use Rattle.lil_match.specs.Steps.{goes_none_within, goes_one_in, goes_one_within, goes_after_pushed, goes_full}
use Rattle.lil_laws_place.specs.Codes.{leads}
use Rattle.lil_laws_stmt.specs.{Strings.{string_low, string_word}, Calls.{words_here, short, calling, next_cost, next_argument, pending_loops}}
use Rattle.lil_laws_stmt.specs.Pushes.{none_under, same_kind, with_pushed, pending_more, taking, shared_pushed, touches_pushed, keeps_pushed}
use Rattle.lil_laws_stmt.specs.Pushes.{shadow_pushed, shadow_beside}

abbrev array : ℕ → Shape
array count = Row count (Word OfCharacter)

-- a string's words and so many zeros, as what was given for an array
text_given : (ctx : Setting) (cs : List ℕ) (count at : ℕ) → is_text cs ≡ true → ((i : ℕ) → i < count → ctx.home.shadow (at + i) ≡ get_or cs i 0)
    → GivenWords ctx (array count) (Wholes (text_under cs)) at
text_given ctx cs count at text same = record { there = refl; cells = by }
  where
    by : (q : List ℕ) (k : Kind) → part_at (array count) q ≡ Word k → IsWord ctx.home k (text_under cs q) (ctx.home.shadow (at + part_offset (array count) q))
    by [] k e = cc
    by (i ∷ []) k e =
        let one = element count i (Word OfCharacter) [] (ap is_there e) in
        let kind : OfCharacter ≡ k = same_kind OfCharacter k (sym one.1 ∙ e) in
        record {
          word = ap ctx.home.shadow (let f : at + part_offset (array count) (i ∷ []) ≡ at + i = omega arith in f) ∙ same i one.0;
          fits = ap (λ (z : Kind). within (base_of z) (Character (get_or cs i 0))) (sym kind) ∙ text_character cs i text;
          refers = subst (λ (z : Kind). Refers ctx.home z (Character (get_or cs i 0))) kind tt;
        }
    by (i ∷ j ∷ q) k e = let one = element count i (Word OfCharacter) (j ∷ q) (ap is_there e) in absurd (none_under j q OfCharacter k (sym one.1 ∙ e))

-- a count of zeros with one less
one_less : (n : ℕ) → n ≤ 65535 → kept Cardinal (pos (suc n) -ℤ pos 1) ≡ Ok (pos n)
one_less n low = ap (kept Cardinal) (let e : pos (suc n) -ℤ pos 1 ≡ pos n = omega (arith, ints) in e) ∙ kept_in Cardinal (pos n) (in_type_card n low)

module _ (ctx : Setting) (s : Source) (k : List Item) (m : State) (c : ℕ) (a : Around) (shared : Shared ctx s m) (callee : Callee) where
  open frame_at ctx use {own, piece}
  open laid_out ctx use {layout as l}

  -- what the call takes, and all calls behind it
  abbrev cost : ℕ
  cost =
      let owner : ℕ = callee_owner (owner_of (slice_get s.activations (current k))) callee in
      frame_of (loaded_at ctx.library s.loaded owner) (callee_number callee) + 17 + chain ctx.library s.loaded s.activations k

  abbrev spelling : (cs : List ℕ) (todo : ℕ) (done : List Datum) (left : Arguments) → List Item
  spelling cs todo done left = Perform (Spelling (Called callee) cs todo done left) ∷ k

  -- some words find no room
  no_room : (items : List Item) (cs : List ℕ) (todo : ℕ) (done : List Datum) (left : Arguments) (from : State) (more budget : ℕ)
      → next ctx.library (record s { items = items; phase = Going }) ≡ record s { items = spelling cs todo done left; phase = Going }
      → current k ≡ ctx.stack.frame.activation → MayCall ctx.stack.frame.layout.scope (callee_number callee) (callee_levels callee)
      → callee_owner ctx.stack.frame.number callee ≡ ctx.stack.frame.number → cost_of (ctx.stack.frame ∷ ctx.stack.callers) + more ≤ cost
      → m.limit < m.top + more → mstep from ≡ (Limit limit.Stack, from) → 1 ≤ budget → Goes ctx s items from budget
  no_room items cs todo done left from more budget becomes close may here enough less steps one =
      let after : Source = record s { items = spelling cs todo done left; phase = Going } in
      goes_full ctx s items from budget limit.Stack steps
      (subst (λ (y : Source). IsShort ctx.library ctx.stack.base y × HasCalls ctx.library y) (sym becomes) (
        short ctx s m shared after more _ less enough refl refl refl,
        inr (inl (calling ctx s k m c a shared callee (current k) close may here after (refl, refl, refl, refl))),
      )) one

  -- ---- the string's words come to the frame to come, and then the number of zeros to the expression stack, if there are some
  module _ (done : List Datum) (cs : List ℕ) (count : ℕ) (left : Arguments)
      (row : PendingWaits ctx callee done (Also (Spelled cs count) left) (RowsOf k) Quiet m.place m.stack c a) where
    abbrev items : List Item
    items = Perform (Passing (Called callee) done (Also (Spelled cs count) left)) ∷ k

    abbrev end : ℕ
    end = row.pending.arguments.middle

    r : SpelledRow l piece 0 cs count m.place end
    r = row.pending.arguments.here

    abbrev from : ℕ
    from = own.base + r.offset

    abbrev ws : List ℕ
    ws = take (length cs) (drop from m.store)

    abbrev at : State
    at = going m r.start (from ∷ [])

    pending : Pending ctx callee done (array count ∷ []) left (RowsOf k) end c a
    pending = next_argument ctx s k m c a shared callee done (Spelled cs count) left row.pending

    low : from + length cs ≤ 65535
    low = omega (arith, string_low ctx s m shared cs r.offset r.text)

    long : length ws ≡ length cs
    long = length-take-le (length cs) (drop from m.store) (omega (arith, length-drop from m.store, shared.mem.long, low))

    word : (i : ℕ) → i < length cs → get_or ws i 0 ≡ get_or cs i 0
    word i less =
        get_or-take (length cs) (drop from m.store) i 0 less
        ∙ get_or-drop from m.store i 0
        ∙ string_word ctx s m shared cs r.offset r.text i (omega (arith, less))

    steps : mstep at ≡ longer_row (length ws) (spliced m.store m.top ws) r.last [] at
    steps =
        at_step ctx at shared.program (Psm (length cs)) r.last r.push
        ∙ yes _ _ _ (le-leb (from + length cs) 65536 (omega (arith, low)))
        ∙ ap (λ (xs : List ℕ). longer_row (length cs) (spliced m.store m.top xs) r.last [] at) (block_alone m.store from (length cs))
        ∙ ap (λ (n : ℕ). longer_row n (spliced m.store m.top ws) r.last [] at) (sym long)

    full : m.limit < m.top + length ws → Goes ctx s items at (c + 31)
    full less =
        let all = next_cost ctx s k callee done (array count) left end c a pending (shared_costs ctx s m shared) shared.loaded_are shared.activations_are in
        no_room items cs count done left at (length ws) (c + 31) refl (pending_closed ctx k callee done _ left _ _ _ pending) pending.may pending.here
        (omega (arith, all, long, r.fits)) less (steps ∙ yes _ _ _ (lt-ltb m.limit (m.top + length ws) less)) (omega arith)

    module _ (room : m.top + length ws ≤ ctx.stack.limit) where
      abbrev x : Home
      x = taking ctx s m shared ws room

      abbrev there : Setting
      there = pushing (at_home ctx x) (length ws)

      abbrev machine : State
      machine = record m { place = r.last; stack = []; top = m.top + length ws; store = spliced m.store m.top ws }

      shared_there : Shared there s machine
      shared_there = shared_pushed ctx s m shared ws room

      kept_there : Pending (at_home ctx x) callee done (array count ∷ []) left (RowsOf k) end c a
      kept_there =
          let loops = pending_loops ctx k callee done _ left _ c a (words_here ctx s m shared).mark pending in
          let lies = (stack_above ctx _ shared.standing).1 in
          pending_kept k ctx.activations (λ y z i low. rows_renewed k y ctx.activations z i low) ctx x ctx.stack.limit (ctx.stack.base + 4) lies
          callee done _ left _ c a (keeps_pushed ctx s m shared ws room (loop_place a.taken) loops) pending

      goes_on : (z : ℕ) → count - length cs ≡ z → (p : ℕ) (stack : List ℕ) → ZerosLeft there (count - length cs) z p end stack
          → GoesOn there (record s { items = spelling cs count done left; phase = Going }) (running (going machine p stack) s.world) c
      goes_on z e p stack zeros_left = record {
        machine = going machine p stack;
        is = refl;
        met = record {
          shared = shared_there;
          around = a;
          ahead = at_once there _ Quiet p stack c a (record {
            quiet = refl;
            count = count;
            fits = r.fits;
            low = r.low;
            text = r.text.text;
            zeros = z;
            zeros_are = omega (arith, e);
            inner = at_home ctx x;
            is = ap (pushing (at_home ctx x)) (let f : length ws ≡ count - z = omega (arith, long, e, r.fits) in f);
            words = λ i less.
                let small : i < length cs = omega (arith, less, e, r.fits) in
                ap x.shadow (let f : top_of ctx.stack.frame + i ≡ m.top + i = omega (arith, (words_here ctx s m shared).top_is) in f)
                ∙ shadow_pushed ctx s m shared ws room i (omega (arith, small, long))
                ∙ word i small;
            end = end;
            at = zeros_left;
            pending = kept_there;
          });
        };
      }

      went : mstep at ≡ (Went, machine)
      went = steps ∙ no _ _ _ (le-ltb m.limit (m.top + length ws) (omega (arith, room, shared.standing.limit_is)))

      filled : (z : ℕ) → count - length cs ≡ z → ZerosAt l piece z r.last end → Goes ctx s items at (c + 31)
      filled zero e fill =
          goes_one_in ctx s items at x there.stack (c + 31) c (running machine s.world) (advances at s.world _ went) (goes_on 0 e r.last [] (fill, refl))
          (touches_pushed ctx s m shared ws room) (record { base = refl; limit = omega arith; frames = λ i seen. inl seen }) (omega arith)
      filled (suc z) e fill =
          let load : IsAt piece r.last (Liw (count - length cs)) fill.turn = subst (λ (n : ℕ). IsAt piece r.last (Liw n) fill.turn) (sym e) fill.load in
          goes_after_pushed ctx s items at machine x (length ws) (c + 31) (c + 30) (advances at s.world _ went) (touches_pushed ctx s m shared ws room)
          (goes_one_within there s items machine (c + 30) c (running (going machine fill.turn (suc z ∷ [])) s.world)
          (advances machine s.world _ (
          at_step there machine shared_there.program (Liw (suc z)) fill.turn fill.load
          ∙ pushes (suc z) fill.turn machine (omega arith)
          ))
          (goes_on (suc z) e fill.turn (suc z ∷ [])
          (r.last, record { turn = fill.turn; end = fill.end; load = load; by = fill.by; back = fill.back }, refl, refl))
          (omega arith))
          (omega arith)

    pub spelled_begins : Goes ctx s (Perform (Passing (Called callee) done (Also (Spelled cs count) left)) ∷ k) m (c + 32)
    spelled_begins =
        leads ctx s items m shared (Lag r.offset) m.place r.start m.stack (from ∷ []) (c + 32) (c + 31) r.address
        (yes _ _ _ (lt-ltb from 65536 (omega (arith, low)))
        ∙ pushes from r.start m (omega (arith, ap length row.empty))
        ∙ ap (λ (z : List ℕ). (Went, going m r.start (from ∷ z))) row.empty)
        (⊎_elim (λ (less : m.limit < m.top + length ws). full less)
        (λ (some : m.top + length ws ≤ m.limit). filled (omega (arith, some, shared.standing.limit_is)) (count - length cs) refl r.fill)
        (cases_lt m.limit (m.top + length ws)))
        (omega arith)

-- ---- one character more: n words of the string stand above a pending call, whose next parameter is the array
module _ (inner : Setting) (n : ℕ) (s : Source) (k : List Item) (m : State) (c : ℕ) (a : Around) (shared : Shared (pushing inner n) s m)
    (callee : Callee) (cs : List ℕ) (done : List Datum) (left : Arguments) (count : ℕ) (fits : length cs ≤ count) (low : count ≤ 65535)
    (text : is_text cs ≡ true) (same : (i : ℕ) → i < n → inner.home.shadow (top_of inner.stack.frame + i) ≡ get_or cs i 0) (end : ℕ)
    (pending : Pending inner callee done (array count ∷ []) left (RowsOf k) end c a) where
  open frame_at inner use {own, piece}
  open laid_out inner use {layout as l}

  abbrev outer : Setting
  outer = pushing inner n

  abbrev spells : ℕ → List Item
  spells todo = Perform (Spelling (Called callee) cs todo done left) ∷ k

  -- all are there: they are the argument
  ends : n ≡ count → m.place ≡ end → m.stack ≡ [] → Goes outer s (spells 0) m (c + 32)
  ends all place empty =
      let t : Shape = array count in
      let d : Datum = Wholes (text_under cs) in
      let later : ℕ = length (copy_code 4 t) + c in
      let given = text_given inner cs count (top_of inner.stack.frame) text (λ i less. same i (omega (arith, less, all))) in
      let more : Pending (pushing inner (words t)) callee (done ++ d ∷ []) [] left (RowsOf k) end later a =
      pending_more inner k callee done t d left end c a pending given in
      goes_none_within outer s (spells 0) m (c + 32) later
      (record {
        machine = m;
        is = refl;
        met = record {
          shared = shared;
          around = a;
          ahead = at_once outer _ Quiet m.place m.stack later a (record {
            quiet = refl;
            empty = empty;
            pending = subst (λ (p : ℕ). Pending outer callee (done ++ d ∷ []) [] left (RowsOf k) p later a) (sym place)
                (subst (λ (i : ℕ). Pending (pushing inner i) callee (done ++ d ∷ []) [] left (RowsOf k) end later a)
                (let e : words t ≡ n = omega (arith, all) in e) more);
          });
        };
      })
      (omega arith) (omega arith)

  -- it is one of those that are there: the machine takes no step
  stays : (todo zeros : ℕ) → n ≡ count - zeros → zeros ≡ count - length cs → zeros ≤ todo → ZerosLeft outer (count - length cs) zeros m.place end m.stack
      → Goes outer s (spells (suc todo)) m (c + 32)
  stays todo zeros pushed are some at =
      goes_none_within outer s (spells (suc todo)) m (c + 32) c
      (record {
        machine = m;
        is = refl;
        met = record {
          shared = shared;
          around = a;
          ahead = at_once outer _ Quiet m.place m.stack c a (record {
            quiet = refl;
            count = count;
            fits = fits;
            low = low;
            text = text;
            zeros = zeros;
            zeros_are = omega (arith, are, some);
            inner = inner;
            is = ap (pushing inner) pushed;
            words = λ i less. same i (omega (arith, less, pushed));
            end = end;
            at = at;
            pending = pending;
          });
        };
      })
      (omega arith) (omega arith)

  -- it is a zero, which is pushed
  module _ (todo start : ℕ) (pushed : n ≡ count - suc todo) (some : suc todo ≤ count - length cs) (row : ZerosRow l piece (count - length cs) start end) where
    abbrev first : State
    first = going m row.by.0 (0 ∷ suc todo ∷ [])

    zero_steps : mstep first ≡ longer_row 1 (spliced m.store m.top (0 ∷ [])) row.by.2.0 (suc todo ∷ []) first
    zero_steps = at_step outer first shared.program Psh row.by.2.0 row.by.2.1

    zero_full : m.limit < m.top + 1 → Goes outer s (spells (suc todo)) first (c + 31)
    zero_full less =
        let costs = shared_costs outer s m shared in
        let all = next_cost inner s k callee done (array count) left end c a pending
        (record { takes = costs.0.takes; rest = costs.0.rest; owner = costs.0.owner }, costs.1) shared.loaded_are shared.activations_are in
        no_room outer s k m c a shared callee (spells (suc todo)) cs todo done left first 1 (c + 31) refl
        (pending_closed inner k callee done _ left _ _ _ pending) pending.may pending.here
        (omega (arith, all, pushed, some)) less (zero_steps ∙ yes _ _ _ (lt-ltb m.limit (m.top + 1) less)) (omega arith)

    module _ (room : m.top + 1 ≤ inner.stack.limit) where
      abbrev longer : Home
      longer = taking outer s m shared (0 ∷ []) room

      abbrev above : Setting
      above = pushing (at_home outer longer) 1

      -- the machine with it, at a place and with an expression stack
      abbrev taller : ℕ → List ℕ → State
      taller p stack = record m { place = p; stack = stack; top = m.top + 1; store = spliced m.store m.top (0 ∷ []) }

      shared_above : (p : ℕ) (stack : List ℕ) → Shared above s (taller p stack)
      shared_above p stack = shared_pushed outer s m shared (0 ∷ []) room

      kept_above : Pending (at_home inner longer) callee done (array count ∷ []) left (RowsOf k) end c a
      kept_above =
          let floor : ℕ = inner.stack.base + 4 in
          let mark = (words_here outer s m shared).mark in
          let loops = pending_loops inner k callee done _ left end c a (omega (arith, mark)) pending in
          let lies = (stack_above outer _ shared.standing).1 in
          let top : ℕ = inner.stack.frame.at + loop_place a.taken in
          pending_kept k inner.activations (λ y z i low. rows_renewed k y inner.activations z i low) inner longer inner.stack.limit floor (lies.0, lies.1)
          callee done _ left end c a
          (keeps_fewer inner.home longer outer.stack.frame inner.stack.frame.pushed (inner.stack.callers ++ inner.stack.bodies) floor top (omega arith)
          (keeps_pushed outer s m shared (0 ∷ []) room (loop_place a.taken) loops)) pending

      words_above : (i : ℕ) → i < count - todo → longer.shadow (top_of inner.stack.frame + i) ≡ get_or cs i 0
      words_above i less =
          let top : m.top ≡ top_of inner.stack.frame + n = omega (arith, (words_here outer s m shared).top_is) in
          ⊎_elim
          (λ (l : i < n). shadow_beside outer s m shared (0 ∷ []) room (top_of inner.stack.frame + i) (inl (omega (arith, l, top))) ∙ same i l)
          (λ (g : n ≤ i).
          ap longer.shadow (let e : top_of inner.stack.frame + i ≡ m.top + 0 = omega (arith, g, less, pushed, some, top) in e)
          ∙ shadow_pushed outer s m shared (0 ∷ []) room 0 (omega arith)
          ∙ sym (get_or_past cs i 0 (omega (arith, g, pushed, some))))
          (cases_lt i n)

      goes_above : (p : ℕ) (stack : List ℕ) → ZerosLeft above (count - length cs) todo p end stack
          → GoesOn above (record s { items = spells todo; phase = Going }) (running (taller p stack) s.world) c
      goes_above p stack zeros_left = record {
        machine = taller p stack;
        is = refl;
        met = record {
          shared = shared_above p stack;
          around = a;
          ahead = at_once above _ Quiet p stack c a (record {
            quiet = refl;
            count = count;
            fits = fits;
            low = low;
            text = text;
            zeros = todo;
            zeros_are = omega (arith, some);
            inner = at_home inner longer;
            is = ap (with_pushed (at_home inner longer))
                (let e : 1 + (n + inner.stack.frame.pushed) ≡ count - todo + inner.stack.frame.pushed = omega (arith, pushed, some) in e);
            words = words_above;
            end = end;
            at = zeros_left;
            pending = kept_above;
          });
        };
      }

      -- then the count falls, and the jump is taken where it isn't 0
      jumps : (p : ℕ) (stack : List ℕ) → act (Jor row.turn) end own (taller row.end (todo ∷ [])) ≡ (Went, taller p stack)
          → ZerosLeft above (count - length cs) todo p end stack → Goes above s (spells (suc todo)) (taller row.by.2.0 (suc todo ∷ [])) (c + 30)
      jumps p stack jump zeros_left =
          let now : State = taller row.by.2.0 (suc todo ∷ []) in
          let last : State = taller row.end (todo ∷ []) in
          leads above s (spells (suc todo)) now (shared_above now.place now.stack) (Liw 1) row.by.2.0 row.by.2.2.0 (suc todo ∷ []) (1 ∷ suc todo ∷ [])
          (c + 30) (c + 29) row.by.2.2.1 (pushes 1 row.by.2.2.0 now (omega arith))
          (leads above s (spells (suc todo)) now (shared_above now.place now.stack) Sbc row.by.2.2.0 row.end (1 ∷ suc todo ∷ []) (todo ∷ []) (c + 29) (c + 28)
          (subst (λ (q : ℕ). IsAt piece row.by.2.2.0 Sbc q) row.by.2.2.2.2 row.by.2.2.2.1)
          (ap (result_row (taller row.by.2.2.0 (1 ∷ suc todo ∷ [])) row.end []) (one_less todo (omega (arith, some, low))))
          (goes_one_within above s (spells (suc todo)) last (c + 28) c (running (taller p stack) s.world)
          (advances last s.world _ (at_step above last (shared_above row.end (todo ∷ [])).program (Jor row.turn) end row.back ∙ jump))
          (goes_above p stack zeros_left) (omega arith))
          (omega arith))
          (omega arith)

      counted : (u : ℕ) → todo ≡ u → Goes above s (spells (suc todo)) (taller row.by.2.0 (suc todo ∷ [])) (c + 30)
      counted zero e =
          jumps end [] (ap (λ (w : ℕ). act (Jor row.turn) end own (taller row.end (w ∷ []))) e)
          (subst (λ (w : ℕ). ZerosLeft above (count - length cs) w end end []) (sym e) (refl, refl))
      counted (suc u) e =
          jumps row.turn (todo ∷ [])
          (no _ _ _ (ne_eqb todo 0 (λ z. omega (arith, z, e)))
          ∙ yes _ _ _ (lt-ltb row.turn (length own.code) (inside_own outer shared.program row.turn (instr_within piece row.turn (Liw 0) row.by.0 row.by.1))))
          (subst (λ (w : ℕ). ZerosLeft above (count - length cs) w row.turn end (w ∷ [])) (sym e) (start, row, refl, refl))

      zero_pushed : Goes outer s (spells (suc todo)) first (c + 31)
      zero_pushed =
          goes_after_pushed outer s (spells (suc todo)) first (taller row.by.2.0 (suc todo ∷ [])) longer 1 (c + 31) (c + 30)
          (advances first s.world _ (zero_steps ∙ no _ _ _ (le-ltb m.limit (m.top + 1) (omega (arith, room, shared.standing.limit_is)))))
          (touches_pushed outer s m shared (0 ∷ []) room) (counted todo refl) (omega arith)

    turns : m.place ≡ row.turn → m.stack ≡ suc todo ∷ [] → Goes outer s (spells (suc todo)) m (c + 32)
    turns place stack =
        let now : State = going m row.turn (suc todo ∷ []) in
        subst (λ (z : List ℕ). Goes outer s (spells (suc todo)) (going m m.place z) (c + 32)) (sym stack)
        (subst (λ (p : ℕ). Goes outer s (spells (suc todo)) (going m p (suc todo ∷ [])) (c + 32)) (sym place)
        (leads outer s (spells (suc todo)) m shared (Liw 0) row.turn row.by.0 (suc todo ∷ []) (0 ∷ suc todo ∷ []) (c + 32) (c + 31) row.by.1
        (pushes 0 row.by.0 now (omega arith))
        (⊎_elim (λ (less : m.limit < m.top + 1). zero_full less)
        (λ (enough : m.top + 1 ≤ m.limit). zero_pushed (omega (arith, enough, shared.standing.limit_is)))
        (cases_lt m.limit (m.top + 1)))
        (omega arith)))

  spells_goes : (todo zeros : ℕ) → zeros ≡ min todo (count - length cs) → n ≡ count - zeros → ZerosLeft outer (count - length cs) zeros m.place end m.stack
      → Goes outer s (spells todo) m (c + 32)
  spells_goes zero zeros are pushed at =
      let none : zeros ≡ 0 = omega (arith, are) in
      let here = subst (λ (z : ℕ). ZerosLeft outer (count - length cs) z m.place end m.stack) none at in
      ends (omega (arith, pushed, none)) here.0 here.1
  spells_goes (suc todo) zeros are pushed at =
      ⊎_elim
      (λ (more : count - length cs < suc todo). stays todo zeros pushed (omega (arith, are, more)) (omega (arith, are, more)) at)
      (λ (some : suc todo ≤ count - length cs).
      let all : zeros ≡ suc todo = omega (arith, are, some) in
      let here = subst (λ (z : ℕ). ZerosLeft outer (count - length cs) z m.place end m.stack) all at in
      turns todo here.0 (omega (arith, pushed, all)) some here.1 here.2 here.3)
      (cases_lt (count - length cs) (suc todo))

module _ (ctx : Setting) (s : Source) (k : List Item) (m : State) (c : ℕ) (a : Around) (shared : Shared ctx s m) (callee : Callee) where
  pub spelling_goes : (cs : List ℕ) (todo : ℕ) (done : List Datum) (left : Arguments)
      → SpellingWaits ctx callee cs todo done left (RowsOf k) Quiet m.place m.stack c a → Goes ctx s (Perform (Spelling (Called callee) cs todo done left) ∷ k) m (c + 32)
  spelling_goes cs todo done left row =
      let n : ℕ = row.count - row.zeros in
      subst (λ (y : Setting). Goes y s (Perform (Spelling (Called callee) cs todo done left) ∷ k) m (c + 32)) (sym row.is)
      (spells_goes row.inner n s k m c a (subst (λ (y : Setting). Shared y s m) row.is shared) callee cs done left row.count row.fits row.low row.text
      (subst (λ (y : Setting). (i : ℕ) → i < n → y.home.shadow (top_of row.inner.stack.frame + i) ≡ get_or cs i 0) row.is row.words)
      row.end row.pending todo row.zeros row.zeros_are refl
      (subst (λ (y : Setting). ZerosLeft y (row.count - length cs) row.zeros m.place row.end m.stack) row.is row.at))
