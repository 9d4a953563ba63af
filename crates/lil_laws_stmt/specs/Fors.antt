-- The rows of FOR.
use Rattle.std.proofs.Common.{◌≡◌, ℕ, zero, suc, ◌+◌, ◌-◌, ◌%◌, ◌<◌, ◌≤◌, ℤ, ◌+ℤ◌, Bool, true, false, cond, not, Option, List, [], ◌∷◌, length, get_or, set, refl, sym, ap, ◌∙◌, subst, inl, inr, arith}
use Rattle.std.specs.Prelude.{nat_lt}
use Rattle.std.proofs.lemmas.Bool.{lt-ltb, ne_eqb, and_from, Decides.nat_tests}
use Rattle.lil_base.specs.declared.fault.TrapKind.TheVariants as trap
use Rattle.lil_base.specs.Words.{Whole, Cardinal, Integer, word_of}
use Rattle.lil_resolved.specs.Kinds as kinds
use Rattle.lil_resolved.specs.{Kinds.{Kind, base_of, is_plain, is_base, compared_as, covers, outside_turns, Scalar, within, scalar_word, scalar_of, ordinal_of, Word}, Resolved.{Named, OfModule, OfLevel, Expression, For, Statements, kind_of}}
use Rattle.lil_meaning.specs.{Items.{Place, stored, alone, Scalars, StartOf, LimitOf, Do, Turns, Item, Value, Fill, Perform, doing, Going, Source}, Steps.{turned_at, turned_with, turns}}
use Rattle.lil_asm.specs.declared.instr.Instr.{Instr, TheVariants.{Liw, Swp, Llw, Fri, Frn}}
use Rattle.lil_mcode.specs.{declared.machine.Event.{Event, TheVariants.{Went, Trap}}, Control.after_first, Table.{State, mstep, going, push_row, on_three, loop_row, begun_row, turn_row}}
use Rattle.lil_table.specs.Rows.{Layout, access_at, readied, store_code, framed, IsAt, InstrsAt, AlignAt, BodyAt, RoundRow, range_code, loop_place, loop_sign}
use Rattle.lil_match.specs.{Goes.{Shared, Touches, Goes, Lands}, Running.{Run, running, react, advanced}, Parts.{yes, no}, Homes.{word_for, address, base_plain, takes_plain, plain_word, plain_refers, Home, Mem, mem_stored, replaced, shadowed}, Arithmetic.word_is}
use Rattle.lil_match.specs.{Ranges.{has, value_is, value_none, number_is, value_fits, fits_has, has_type, ordinal_base, ordinal_plain}, Tests.{covered, test_act}, Variables.{variable_here, framed_here}, Waits.{frames_of, own_words, Setting, frame_of, laid_out, Quiet, ValueOf, Around, Reach, TurnsFit, Rows, at_home, LoopWords, NextWaits, Waiting}, Orders.{instr_within, expression_within}}
use Rattle.lil_match.specs.{Steps.{inside_own, closed, both_trap, advances, pushes, at_step, at_once, rows_ahead, lands_on, goes_none, shared_with, untouched, touched, goes_one, goes_after_in, goes_after, goes_more, operand_goes}, Kept.{loops_behind, shared_shadowed, touches_shadowed, rows_shadowed}}
use Rattle.lil_match.specs.Kept as kept
use Rattle.lil_laws_place.specs.Codes.{puts}
use Rattle.lil_laws_stmt.specs.{Control.body_rows, ForWords.{word_small, next_word, step_some, turns_read, turns_few}}

-- the word of a value says its number
value_word : (h : Home) (k : Kind) (v : Scalar) → is_plain k ≡ true → within k v ≡ true → word_for h v ≡ word_of (ordinal_of v)
value_word h k v plain fits = plain_word h k v plain fits ∙ word_is v

-- and that of the value with a number says this number
number_word : (k : Kind) (z : ℤ) → has k z ≡ true → scalar_word (scalar_of k z) ≡ word_of z
number_word k z there = word_is (scalar_of k z) ∙ ap word_of (number_is k z there)

sign_small : (t : Whole) → nat_lt (loop_sign t) 2 ≡ true
sign_small Cardinal = refl
sign_small Integer = refl

-- a variable is ready for a store
variable_ready : (v : Named) (o : ℕ) → readied (access_at v o) ≡ access_at v o
variable_ready (OfModule x) o = refl
variable_ready (OfLevel n x) o = refl

-- where a start is brought to its limit's type lies within the code
pub align_within : (l : Layout) (code : List ℕ) (same turns : Bool) (p start q : ℕ) → AlignAt l code same turns p start q → start < length code → p < length code
align_within l code true turns p start q e inside = omega (arith, e, inside)
align_within l code false true p start q e inside = instr_within code p Swp e.0 e.1
align_within l code false false p start q e inside = instr_within code p Swp e.look.0 e.look.1

module _ (ctx : Setting) where
  open ctx use {library, table, home as h}
  open frame_of ctx use {own, piece, number}
  open laid_out ctx use {layout as l}

  -- a word of the running frame
  own_read : (s : Source) (m : State) → Shared ctx s m → (i a : ℕ) → a ≡ m.frame + i → 4 + own_words ctx.stack.frame ≤ i → i < l.frame → get_or m.store a 0 ≡ h.shadow (ctx.stack.frame.at + i)
  own_read s m shared i a at free less = ap (λ (n : ℕ). get_or m.store n 0) at ∙ kept.own_read ctx s m shared i 0 free less

  -- the running frame lies in the store
  inside : (s : Source) (m : State) → Shared ctx s m → (i : ℕ) → 4 + own_words ctx.stack.frame ≤ i → i < l.frame → m.frame + i < 65536
  inside s m shared i free less = kept.own_low ctx s m shared i 0 free less

  module _ (s : Source) (k : List Item) (m : State) (c : ℕ) (a : Around) (shared : Shared ctx s m) where
    abbrev Rest : Reach
    Rest = Rows ctx k

    abbrev pub Turning : Named → Kind → ℤ → ℤ → ℕ → Statements → List Item
    Turning x kind z step left body = Perform (Turns x kind z step left body) ∷ k

    module _ (x : Named) (kind : Kind) (z step : ℤ) (left : ℕ) (body : Statements)
        (words : LoopWords ctx a.taken left (word_of step)) (is_now : words.now ≡ word_of z) (empty : m.stack ≡ [])
        (fit : TurnsFit (base_of kind) z step (suc left)) (small : left < 65536) (end : ℕ)
        (round : RoundRow l piece (a.taken) x kind step (BodyAt l piece (3 + a.taken) a.exit body) m.place end) (ends : end < length piece)
        (then : Rest Quiet end [] c a) where
      abbrev base : Kind
      base = base_of kind

      abbrev test : Instr
      test = range_code (compared_as base) (kinds.shared kind base)

      abbrev items : List Item
      items = Turning x kind z step (suc left) body

      abbrev after : List Item
      after = doing body (Turning x kind (z +ℤ step) step left body)

      -- what the turn makes of its value
      abbrev turned_there : Option Scalar → Source
      turned_there o = turned_with library o x body (Turning x kind (z +ℤ step) step left body) (record s { items = items; phase = Going })

      abbrev now : Source
      now = record s { items = items; phase = Going }

      abbrev stored_there : Scalar → Option Place → Source
      stored_there v o = turned_at o v body (Turning x kind (z +ℤ step) step left body) (record s { items = items; phase = Going })

      -- the word of the turn's number is on the expression stack
      abbrev holding : ℕ → State
      holding q = going m q (word_of z ∷ m.stack)

      -- the store of the value, and then the body
      stores : has kind z ≡ true → Goes ctx s items (holding round.tested) (c + 18)
      stores there =
          let v : Scalar = scalar_of kind z in
          let fits : within kind v ≡ true = value_fits kind z there in
          let plain : is_plain kind ≡ true = sym (base_plain kind) ∙ ordinal_plain base round.known.base in
          let word : word_for h v ≡ word_of z = plain_word h kind v plain fits ∙ number_word kind z there in
          let inner : Around = record { exit = a.exit; taken = 3 + a.taken } in
          let o : ℕ = round.known.offset in
          let y = variable_here ctx now m shared (closed ctx k Quiet end [] c a then) o (Word kind) refl [] x round.known.at round.known.typed in
          let store : List ℕ = set m.store (address h y.place) (word_of z) in
          let machine : State = record m { place = round.start; stack = []; store = store } in
          let mem : Mem h (stored s.cells y.place (alone v)) store =
          subst (λ (w : ℕ). Mem h (stored s.cells y.place (alone v)) (set m.store (address h y.place) w)) word
          (mem_stored h s.cells m.store y.place kind v shared.mem y.has.living fits (plain_refers h kind v plain)) in
          let rows : Rows ctx after Quiet round.start [] c inner =
          body_rows ctx body (Turning x kind (z +ℤ step) step left body) round.start round.end c inner round.here
          (instr_within piece round.end (Frn (framed (loop_place (a.taken))) m.place) end round.next)
          (at_once ctx _ Quiet round.end [] c inner
          (inr (record {
            quiet = refl;
            empty = refl;
            outer = a;
            words = words;
            around = refl;
            small = small;
            next_is = ap (λ (w : ℕ). (w + word_of step) % 65536) is_now ∙ next_word (compared_as base) z step (has_type base z (ordinal_base base round.known.base) fit.0) round.is_step;
            fit = fit.1;
            turn = m.place;
            end = end;
            round = round;
            at = refl;
            within = ends;
            then = then;
          }))) in
          goes_one ctx s items (holding round.tested) 17 c (running machine s.world)
          (advances (holding round.tested) s.world _ (
          at_step ctx (holding round.tested) shared.program (store_code (access_at x o)) round.start round.store
          ∙ puts ctx s (holding round.tested) shared (access_at x o) y.place kind [] y.has (variable_ready x o) (word_of z) (ap (λ (st : List ℕ). word_of z ∷ st) empty) round.start
          ))
          (subst (λ (o : Option Scalar). Lands ctx (turned_there o).phase (turned_there o) (running machine s.world) c) (sym (value_is kind z there))
          (subst (λ (o : Option Place). Lands ctx (stored_there v o).phase (stored_there v o) (running machine s.world) c) (sym y.found)
          (record {
            machine = machine;
            is = refl;
            met = record {
              shared = shared_with ctx s m shared mem;
              around = inner;
              ahead = rows_ahead ctx after round.start [] c inner rows;
            };
          })))

      -- what the instruction that tests does
      abbrev outcome : Bool → Event × State
      outcome b = cond b (Went, holding round.tested) (Trap trap.Range, holding round.loaded)

      tests : IsAt piece round.loaded test round.tested → mstep (holding round.loaded) ≡ outcome (has kind z)
      tests here =
          at_step ctx (holding round.loaded) shared.program test round.tested here
          ∙ test_act kind base (scalar_of base z) own (holding round.loaded) m.stack round.tested (ordinal_base base round.known.base) (value_fits base z fit.0)
          (ap (λ (w : ℕ). w ∷ m.stack) (sym (number_word base z fit.0)))
          ∙ ap (λ (y : ℤ). outcome (has kind y)) (number_is base z fit.0)

      tested : (b : Bool) → has kind z ≡ b → IsAt piece round.loaded test round.tested → Goes ctx s items (holding round.loaded) (c + 19)
      tested true there here =
          goes_after ctx s items (holding round.loaded) (holding round.tested) (c + 19) (c + 18)
          (advances (holding round.loaded) s.world _ (tests here ∙ ap outcome there))
          (stores there)
          (omega arith)
      tested false none here =
          let run : Run = react (Trap trap.Range) (holding round.loaded) (running (holding round.loaded) s.world) in
          goes_one ctx s items (holding round.loaded) 18 c run
          (advances (holding round.loaded) s.world _ (tests here ∙ ap outcome none))
          (subst (λ (o : Option Scalar). Lands ctx (turned_there o).phase (turned_there o) run c) (sym (value_none kind z none))
          (both_trap ctx s items (holding round.loaded) trap.Range test round.tested shared here (closed ctx k Quiet end [] c a then)))

      -- where each number of the base is the kind's there is no test
      by_test : (b : Bool) → covers kind base ≡ b → InstrsAt piece (cond b [] (test ∷ [])) round.loaded round.tested → Goes ctx s items (holding round.loaded) (c + 19)
      by_test true covering here =
          goes_more ctx s items (holding round.loaded) (c + 18) (c + 19)
          (subst (λ (q : ℕ). Goes ctx s items (holding q) (c + 18)) (sym here) (stores (covered kind base z covering fit.0)))
          (omega arith)
      by_test false covering here = tested (has kind z) refl (subst (IsAt piece round.loaded test) here.2 here.1)

      -- a turn: its number, the test and the store of its value, and then the body
      turn_goes : Goes ctx s items m (c + 20)
      turn_goes =
          let n : ℕ = loop_place a.taken in
          let exact : framed (loop_place a.taken) ≡ loop_place a.taken = framed_here ctx s m shared (loop_place a.taken) (omega (arith, round.room)) in
          let behind : 4 + own_words ctx.stack.frame ≤ loop_place a.taken = omega (arith, loops_behind k ctx Quiet end [] c a then) in
          goes_after ctx s items m (holding round.loaded) (c + 20) (c + 19)
          (advances m s.world _ (
          at_step ctx m shared.program (Llw n) round.loaded (subst (λ (i : ℕ). IsAt piece m.place (Llw i) round.loaded) exact round.load)
          ∙ yes _ _ _ (lt-ltb (m.frame + loop_place (a.taken)) 65536 (inside s m shared n behind (omega (arith, round.room))))
          ∙ ap (λ (w : ℕ). push_row w round.loaded m) (own_read s m shared n (m.frame + loop_place a.taken) refl behind (omega (arith, round.room)) ∙ words.now_is ∙ is_now)
          ∙ pushes (word_of z) round.loaded m (omega (arith, ap length empty))
          ))
          (by_test (covers kind base) refl round.test)
          (omega arith)

-- own words of the running frame, from the n-th on, are set
record Written (ctx : Setting) (s : Source) (m : State) (n : ℕ) (store : List ℕ) (x : Home) : Type 0 where
  pub shared : Shared (at_home ctx x) s (record m { store = store })
  pub touch : Touches ctx.home x (frames_of ctx.stack) ctx.stack.base ctx.stack.limit
  pub rows : (k : List Item) (p c : ℕ) (a : Around) → loop_place a.taken ≤ n → Rows ctx k Quiet p [] c a → Rows (at_home ctx x) k Quiet p [] c a

written_none : (ctx : Setting) (s : Source) (m : State) (n : ℕ) → Shared ctx s m → Written ctx s m n m.store ctx.home
written_none ctx s m n shared = record { shared = shared; touch = untouched ctx.home (frames_of ctx.stack) ctx.stack.base ctx.stack.limit; rows = λ k p c a le r. r }

written : (ctx : Setting) (s : Source) (m : State) (n : ℕ) {store : List ℕ} {x : Home} → Written ctx s m n store x → (i w : ℕ) → n ≤ i → 4 + own_words ctx.stack.frame ≤ n → i < ctx.stack.frame.layout.frame
    → Written ctx s m n (set store (ctx.stack.frame.at + i) w) (shadowed x (ctx.stack.frame.at + i) w)
written ctx s m n {store} {x} old i w above behind less =
    let there : State = record m { store = store } in
    let free : 4 + own_words ctx.stack.frame ≤ i = omega (arith, above, behind) in
    record {
      shared = shared_shadowed (at_home ctx x) s there old.shared i w free less;
      touch = touched ctx.home x (shadowed x (ctx.stack.frame.at + i) w) (frames_of ctx.stack) ctx.stack.base ctx.stack.limit old.touch (touches_shadowed (at_home ctx x) s there old.shared i w free less);
      rows = λ k p c a le r. rows_shadowed (at_home ctx x) s there old.shared i w free less k Quiet p [] c a (omega (arith, le, above)) (old.rows k p c a le r);
    }

-- the three words of a FOR that begins, and of one that turns
begun_words : (f : ℕ → ℕ) (at n p q r : ℕ)
    → (replaced (replaced (replaced f (at + n) p) (at + (n + 1)) q) (at + (n + 2)) r (at + n) ≡ p)
    × (replaced (replaced (replaced f (at + n) p) (at + (n + 1)) q) (at + (n + 2)) r (at + n + 1) ≡ q)
    × (replaced (replaced (replaced f (at + n) p) (at + (n + 1)) q) (at + (n + 2)) r (at + n + 2) ≡ r)
begun_words f at n p q r = (grind (arith, nat_tests), grind (arith, nat_tests), grind (arith, nat_tests))

turned_words : (f : ℕ → ℕ) (at n p q : ℕ)
    → (replaced (replaced f (at + (n + 1)) q) (at + n) p (at + n) ≡ p)
    × (replaced (replaced f (at + (n + 1)) q) (at + n) p (at + n + 1) ≡ q)
    × (replaced (replaced f (at + (n + 1)) q) (at + n) p (at + n + 2) ≡ f (at + n + 2))
turned_words f at n p q = (grind (arith, nat_tests), grind (arith, nat_tests), grind (arith, nat_tests))

module _ (ctx : Setting) where
  open ctx use {library, table, home as h}
  open frame_of ctx use {own, piece, number}
  open laid_out ctx use {layout as l}

  module _ (s : Source) (k : List Item) (m : State) (c : ℕ) (a : Around) (shared : Shared ctx s m) where
    abbrev Left : Reach
    Left = Rows ctx k

    pub for_goes : (x : Named) (kind : Kind) (first limit : Expression) (step : ℤ) (body : Statements) → Waiting ctx (Perform (Do (For x kind first limit step body))) Left Quiet m.place m.stack c a
        → Goes ctx s (Perform (Do (For x kind first limit step body)) ∷ k) m (c + 32)
    for_goes x kind first limit step body row =
        operand_goes ctx s k m c a shared (Perform (Do (For x kind first limit step body)) ∷ k) first (StartOf x kind limit step body) refl (omega arith) row.part.here.middle row.part.here.first.value (omega (arith, row.part.here.first.shallow, ap length row.part.empty))
        (expression_within l piece limit row.part.here.middle row.part.here.last row.part.here.limit.value)
        (record { part = record { of = first; same = refl; from = m.place; did = row.part; at = refl }; then = row.then })

    pub start_goes : (x : Named) (to : Kind) (limit : Expression) (step : ℤ) (body : Statements) (v : Scalar) (kind : Kind) → within kind v ≡ true → (below : List ℕ) → m.stack ≡ word_for h v ∷ below
        → Waiting ctx (Fill (StartOf x to limit step body)) Left (ValueOf kind) m.place below c a → Goes ctx s (Value (Scalars v) ∷ Fill (StartOf x to limit step body) ∷ k) m (c + 32)
    start_goes x to limit step body v kind fit below is row =
        let did = row.part.did in
        let here = did.here in
        let stack : m.stack ≡ word_for h v ∷ [] = is ∙ ap (λ (st : List ℕ). word_for h v ∷ st) did.empty in
        operand_goes ctx s k m c a shared (Value (Scalars v) ∷ Fill (StartOf x to limit step body) ∷ k) limit (LimitOf x to v step body) refl (omega arith) here.last (rw row.part.at here.limit.value) (omega (arith, here.limit.shallow, ap length stack))
        (align_within l piece (covers (base_of to) (kind_of row.part.of)) (outside_turns (compared_as (base_of to)) step) here.last here.turns.aligned did.end here.turns.align
        (instr_within piece here.turns.aligned (Liw (word_of step)) here.turns.stepped here.turns.load))
        (record {
          part = record {
            first = row.part.of;
            row = record { of = limit; same = refl; from = row.part.from; did = record { empty = refl; end = did.end; here = here; within = did.within }; at = refl };
            fits = ap (λ (j : Kind). within j v) (sym row.part.same) ∙ fit;
            is = stack;
          };
          then = row.then;
        })

    pub limit_goes : (x : Named) (to : Kind) (u : Scalar) (step : ℤ) (body : Statements) (v : Scalar) (kind : Kind) → within kind v ≡ true → (below : List ℕ) → m.stack ≡ word_for h v ∷ below
        → Waiting ctx (Fill (LimitOf x to u step body)) Left (ValueOf kind) m.place below c a → Goes ctx s (Value (Scalars v) ∷ Fill (LimitOf x to u step body) ∷ k) m (c + 32)
    limit_goes x to u step body v kind fit below is row =
        let r = row.part in
        let did = r.row.did in
        let from : Kind = kind_of r.first in
        let same_kind : kind ≡ base_of to = r.row.same ∙ did.here.limit.typed in
        let fits : within (base_of to) v ≡ true = ap (λ (j : Kind). within j v) (sym same_kind) ∙ fit in
        goes_none ctx s (Value (Scalars v) ∷ Fill (LimitOf x to u step body) ∷ k) m 32 c
        (lands_on ctx s m shared (Perform (Turns x to (ordinal_of u) step (turns (ordinal_of u) (ordinal_of v) step) body) ∷ k) m.place m.stack c a
        (at_once ctx _ Quiet m.place m.stack c a
        (inl (record {
          quiet = refl;
          from = from;
          takes = did.here.takes;
          limit = ordinal_of v;
          fits = fits_has from u r.fits;
          limit_fits = fits_has (base_of to) v fits;
          stack_is = is ∙ ap (λ (st : List ℕ). word_for h v ∷ st) r.is
              ∙ ap (λ (w : ℕ). w ∷ word_for h u ∷ []) (value_word h (base_of to) v (base_plain to ∙ (takes_plain to from did.here.takes).0) fits)
              ∙ ap (λ (w : ℕ). word_of (ordinal_of v) ∷ w ∷ []) (value_word h from u (takes_plain to from did.here.takes).1 r.fits);
          count = refl;
          end = did.end;
          turns = rw r.row.at did.here.turns;
          within = did.within;
          then = row.then;
        }))))
        (omega arith)

    -- both bounds are numbers of one kind, and their words stand on the expression stack
    pub record Bounded (x : Named) (kind : Kind) (first step : ℤ) (left : ℕ) (body : Statements) : Type 0 where
      pub limit : ℤ
      pub fits : has (base_of kind) first ≡ true
      pub limit_fits : has (base_of kind) limit ≡ true
      pub stack_is : m.stack ≡ word_of limit ∷ word_of first ∷ []
      pub count : left ≡ turns first limit step
      pub stepped : ℕ
      pub turn : ℕ
      pub end : ℕ
      pub load : IsAt piece m.place (Liw (word_of step)) stepped
      pub enter : IsAt piece stepped (Fri (framed (loop_place a.taken)) (loop_sign (compared_as (base_of kind))) end) turn
      pub round : RoundRow l piece (a.taken) x kind step (BodyAt l piece (3 + a.taken) a.exit body) turn end
      pub within : end < length piece
      pub then : Left Quiet end [] c a

    pub bounded_goes : (x : Named) (kind : Kind) (first step : ℤ) (left : ℕ) (body : Statements) → Bounded x kind first step left body
        → Goes ctx s (Perform (Turns x kind first step left body) ∷ k) m (c + 24)
    bounded_goes x' kind first step left body row = by_left left (sym row.count)
      where
        at : ℕ
        at = m.frame + loop_place a.taken

        n : ℕ
        n = loop_place a.taken

        based : is_base (base_of kind) ≡ true
        based = ordinal_base (base_of kind) row.round.known.base

        stepped : State
        stepped = going m row.stepped (word_of step ∷ m.stack)

        room : n + 3 ≤ l.frame
        room = row.round.room

        exact : framed (loop_place a.taken) ≡ loop_place a.taken
        exact = framed_here ctx s m shared (loop_place a.taken) (omega (arith, room))

        behind : 4 + own_words ctx.stack.frame ≤ loop_place a.taken
        behind = omega (arith, loops_behind k ctx Quiet row.end [] c a row.then)

        deep : m.frame + n + 2 < 65536
        deep = omega (arith, inside ctx s m shared (n + 2) (omega (arith, behind)) (omega (arith, room)))

        pushed : advanced (running m s.world) ≡ running (going m row.stepped (word_of step ∷ m.stack)) s.world
        pushed =
            advances m s.world _ (
            at_step ctx m shared.program (Liw (word_of step)) row.stepped row.load
            ∙ pushes (word_of step) row.stepped m (omega (arith, ap length row.stack_is))
            )

        enters : (u : ℕ) → turns first row.limit step ≡ u
            → mstep (going m row.stepped (word_of step ∷ m.stack)) ≡ begun_row own (m.frame + loop_place a.taken) row.end row.turn (going m row.stepped (word_of step ∷ m.stack)) (word_of first) (word_of step) [] (after_first u)
        enters u e =
            at_step ctx stepped shared.program (Fri n (loop_sign (compared_as (base_of kind))) row.end) row.turn (subst (λ (i : ℕ). IsAt piece row.stepped (Fri i (loop_sign (compared_as (base_of kind))) row.end) row.turn) exact row.enter)
            ∙ ap (λ (st : List ℕ). on_three stepped (word_of step ∷ st) (loop_row own at (loop_sign (compared_as (base_of kind))) row.end row.turn stepped)) row.stack_is
            ∙ yes _ _ _ (and_from _ _ (sign_small (compared_as (base_of kind))) (ap not (step_some step row.round.is_step)))
            ∙ ap (λ (u : ℕ). begun_row own at row.end row.turn stepped (word_of first) (word_of step) [] (after_first u))
            (turns_read (compared_as (base_of kind)) first row.limit step
            (has_type (base_of kind) first based row.fits) (has_type (base_of kind) row.limit based row.limit_fits) row.round.is_step ∙ e)

        by_left : (u : ℕ) → turns first row.limit step ≡ u → Goes ctx s (Perform (Turns x' kind first step u body) ∷ k) m (c + 24)
        by_left zero e =
            goes_after ctx s (Perform (Turns x' kind first step zero body) ∷ k) m stepped (c + 24) (c + 23) pushed
            (goes_one ctx s (Perform (Turns x' kind first step zero body) ∷ k) stepped 22 c (running (going m row.end []) s.world)
            (advances stepped s.world _ (enters zero e ∙ yes _ _ _ (lt-ltb row.end (length own.code) (inside_own ctx shared.program row.end row.within))))
            (lands_on ctx s m shared k row.end [] c a (rows_ahead ctx k row.end [] c a row.then)))
            (omega arith)
        by_left (suc u) e =
            let one = written ctx s m n (written_none ctx s m n shared) n (word_of first) (omega arith) behind (omega (arith, room)) in
            let two = written ctx s m n one (n + 1) u (omega arith) behind (omega (arith, room)) in
            let three = written ctx s m n two (n + 2) (word_of step) (omega arith) behind (omega (arith, room)) in
            let x : Home = shadowed (shadowed (shadowed h (ctx.stack.frame.at + n) (word_of first)) (ctx.stack.frame.at + (n + 1)) u) (ctx.stack.frame.at + (n + 2)) (word_of step) in
            let store : List ℕ = set (set (set m.store (ctx.stack.frame.at + n) (word_of first)) (ctx.stack.frame.at + (n + 1)) u) (ctx.stack.frame.at + (n + 2)) (word_of step) in
            let begun : State = record m { place = row.turn; stack = []; store = store } in
            let first_at : m.frame + n ≡ ctx.stack.frame.at + n = omega (arith, shared.standing.frame_is) in
            let second_at : m.frame + n + 1 ≡ ctx.stack.frame.at + (n + 1) = omega (arith, shared.standing.frame_is) in
            let third_at : m.frame + n + 2 ≡ ctx.stack.frame.at + (n + 2) = omega (arith, shared.standing.frame_is) in
            let same : set (set (set m.store (m.frame + n) (word_of first)) (m.frame + n + 1) u) (m.frame + n + 2) (word_of step) ≡ store =
            ap (λ (z : ℕ). set (set (set m.store z (word_of first)) (m.frame + n + 1) u) (m.frame + n + 2) (word_of step)) first_at
            ∙ ap (λ (z : ℕ). set (set (set m.store (ctx.stack.frame.at + n) (word_of first)) z u) (m.frame + n + 2) (word_of step)) second_at
            ∙ ap (λ (z : ℕ). set (set (set m.store (ctx.stack.frame.at + n) (word_of first)) (ctx.stack.frame.at + (n + 1)) u) z (word_of step)) third_at in
            let words = begun_words h.shadow ctx.stack.frame.at n (word_of first) u (word_of step) in
            let few = turns_few (base_of kind) first row.limit step u based row.fits row.limit_fits e in
            goes_after ctx s (Perform (Turns x' kind first step (suc u) body) ∷ k) m stepped (c + 24) (c + 23) pushed
            (goes_after_in ctx s (Perform (Turns x' kind first step (suc u) body) ∷ k) stepped begun x (c + 23) (c + 20)
            (advances stepped s.world _ (
            enters (suc u) e
            ∙ yes _ _ _ (lt-ltb (at + 2) 65536 deep)
            ∙ ap (λ (st : List ℕ). let r : Event × State = (Went, record m { place = row.turn; stack = []; store = st }) in r) same
            ))
            three.touch
            (turn_goes (at_home ctx x) s k begun c a three.shared x' kind first step u body (record {
              now = word_of first;
              now_is = words.0;
              left_is = words.1;
              step_is = words.2;
            }) refl refl
            (row.fits, few.0) few.1 row.end row.round row.within (three.rows k row.end c a (omega arith) row.then))
            (omega arith))
            (omega arith)

    pub next_goes : (x : Named) (kind : Kind) (z step : ℤ) (left : ℕ) (body : Statements) → NextWaits ctx x kind z step left body Left Quiet m.place m.stack c a
        → Goes ctx s (Perform (Turns x kind z step left body) ∷ k) m (c + 32)
    next_goes x' kind z step left body row = by_left left refl row.fit row.small
      where
        n : ℕ
        n = loop_place row.outer.taken

        at : ℕ
        at = m.frame + loop_place row.outer.taken

        room : loop_place row.outer.taken + 3 ≤ l.frame
        room = row.round.room

        exact : framed (loop_place row.outer.taken) ≡ loop_place row.outer.taken
        exact = framed_here ctx s m shared (loop_place row.outer.taken) (omega (arith, room))

        behind : 4 + own_words ctx.stack.frame ≤ loop_place row.outer.taken
        behind = omega (arith, loops_behind k ctx Quiet row.end [] c row.outer row.then)

        deep : m.frame + loop_place row.outer.taken + 2 < 65536
        deep = omega (arith, inside ctx s m shared (loop_place row.outer.taken + 2) (omega (arith, behind)) (omega (arith, room)))

        again : (u : ℕ) → left ≡ u → mstep m ≡ turn_row own (m.frame + loop_place row.outer.taken) row.turn row.end m row.words.now u (word_of step)
        again u e =
            at_step ctx m shared.program (Frn n row.turn) row.end (subst (λ (i : ℕ). IsAt piece m.place (Frn i row.turn) row.end) exact (subst (λ (p : ℕ). IsAt piece p (Frn (framed n) row.turn) row.end) (sym row.at) row.round.next))
            ∙ yes _ _ _ (lt-ltb (at + 1) 65536 (omega (arith, deep)))
            ∙ ap (λ (w : ℕ). turn_row own at row.turn row.end m w (get_or m.store (at + 1) 0) (get_or m.store (at + 2) 0)) (own_read ctx s m shared n at refl behind (omega (arith, room)) ∙ row.words.now_is)
            ∙ ap (λ (w : ℕ). turn_row own at row.turn row.end m row.words.now w (get_or m.store (at + 2) 0)) (own_read ctx s m shared (n + 1) (at + 1) (omega arith) (omega (arith, behind)) (omega (arith, room)) ∙ ap h.shadow (omega arith) ∙ row.words.left_is ∙ e)
            ∙ ap (λ (w : ℕ). turn_row own at row.turn row.end m row.words.now u w) (own_read ctx s m shared (n + 2) (at + 2) (omega arith) (omega (arith, behind)) (omega (arith, room)) ∙ ap h.shadow (omega arith) ∙ row.words.step_is)

        by_left : (u : ℕ) → left ≡ u → TurnsFit (base_of kind) z step u → u < 65536 → Goes ctx s (Perform (Turns x' kind z step u body) ∷ k) m (c + 32)
        by_left zero e fit small =
            goes_one ctx s (Perform (Turns x' kind z step zero body) ∷ k) m 31 c (running (going m row.end m.stack) s.world)
            (advances m s.world _ (again zero e))
            (lands_on ctx s m shared k row.end m.stack c row.outer
            (rows_ahead ctx k row.end m.stack c row.outer
            (subst (λ (st : List ℕ). Left Quiet row.end st c row.outer) (sym row.empty) row.then)))
        by_left (suc u) e fit small =
            let sum : (row.words.now + word_of step) % 65536 ≡ word_of z = row.next_is ∙ omega (arith, word_small (compared_as (base_of kind)) z (has_type (base_of kind) z (ordinal_base (base_of kind) row.round.known.base) fit.0)) in
            let fewer : suc u - 1 ≡ u = omega arith in
            let one = written ctx s m n (written_none ctx s m n shared) (n + 1) u (omega arith) behind (omega (arith, room)) in
            let two = written ctx s m n one n (word_of z) (omega arith) behind (omega (arith, room)) in
            let x : Home = shadowed (shadowed h (ctx.stack.frame.at + (n + 1)) u) (ctx.stack.frame.at + n) (word_of z) in
            let store : List ℕ = set (set m.store (ctx.stack.frame.at + (n + 1)) u) (ctx.stack.frame.at + n) (word_of z) in
            let turning : State = record m { place = row.turn; store = store } in
            let first_at : m.frame + n ≡ ctx.stack.frame.at + n = omega (arith, shared.standing.frame_is) in
            let second_at : m.frame + n + 1 ≡ ctx.stack.frame.at + (n + 1) = omega (arith, shared.standing.frame_is) in
            let same : set (set m.store (m.frame + n + 1) (suc u - 1)) (m.frame + n) ((row.words.now + word_of step) % 65536) ≡ store =
            ap (λ (w : ℕ). set (set m.store (m.frame + n + 1) w) (m.frame + n) ((row.words.now + word_of step) % 65536)) fewer
            ∙ ap (set (set m.store (m.frame + n + 1) u) (m.frame + n)) sum
            ∙ ap (λ (y : ℕ). set (set m.store y u) (m.frame + n) (word_of z)) second_at
            ∙ ap (λ (y : ℕ). set (set m.store (ctx.stack.frame.at + (n + 1)) u) y (word_of z)) first_at in
            let words = turned_words h.shadow ctx.stack.frame.at n (word_of z) u in
            goes_after_in ctx s (Perform (Turns x' kind z step (suc u) body) ∷ k) m turning x (c + 32) (c + 20)
            (advances m s.world _ (
            again (suc u) e
            ∙ no _ _ _ (ne_eqb (suc u) 0 (λ d. omega (arith, d)))
            ∙ yes _ _ _ (lt-ltb (at + 2) 65536 deep)
            ∙ yes _ _ _ (lt-ltb row.turn (length own.code) (inside_own ctx shared.program row.turn (instr_within piece row.turn (Llw (framed n)) row.round.loaded row.round.load)))
            ∙ ap (λ (st : List ℕ). let r : Event × State = (Went, record m { place = row.turn; store = st }) in r) same
            ))
            two.touch
            (turn_goes (at_home ctx x) s k turning c row.outer two.shared x' kind z step u body (record {
              now = word_of z;
              now_is = words.0;
              left_is = words.1;
              step_is = words.2 ∙ row.words.step_is;
            }) refl
            row.empty fit (omega (arith, small)) row.end row.round row.within (two.rows k row.end c row.outer (omega arith) row.then))
            (omega arith)
