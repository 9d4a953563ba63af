-- The row of CASE: the table's first entry that has the word is that of the arm with the label.
use Rattle.std.proofs.Common.{◌≡◌, ℕ, zero, suc, ◌+◌, ◌<◌, ◌≤◌, ℤ, ◌≤ℤ◌, Bool, true, false, cond, ◌||◌, Option, None, Some, List, [], ◌∷◌, length, refl, sym, ap, ◌∙◌, subst, arith}
use Rattle.std.specs.Prelude.{slice_get}
use Rattle.std.proofs.lemmas.{Int.ints, Bool.{lt-ltb, Decides.nat_tests}}
use Rattle.lil_base.specs.{Words.{Whole, Cardinal, Integer, between, in_type, word_of}}
use Rattle.lil_base.specs.declared.fault.TrapKind.TheVariants as trap
use Rattle.lil_resolved.specs.{Kinds.{Kind, is_plain, is_ordinal, compared_as, Scalar, within, ordinal_of}, Resolved.{Expression, Label, Case, Statements, Arms, NoElse, Else, Arm, kind_of}}
use Rattle.lil_meaning.specs.{Items.{Scalars, Pick, Do, Item, Value, Fill, Perform, doing, Going, Source}, Steps.{among, picked}}
use Rattle.lil_meaning.specs.Steps as meaning
use Rattle.lil_asm.specs.{declared.instr.Instr.TheVariants.{Jmp, Cas, Trp}, Decoding.decoded_stands, Stretches.{stretch, stretch_short, stretch_kept, IsKept, all_kept, then_kept, choice_kept, word_kept}}
use Rattle.lil_mcode.specs.{declared.machine.Event.TheVariants.Trap, Table.{State, going, on_one, case_row, chosen_row}}
use Rattle.lil_mcode.specs.Control as machine
use Rattle.lil_table.specs.{LabelLaws.{ordinal_in, label_in}, Rows.{Layout, IsAt, BodyAt, EntriesAt, ArmsAt}}
use Rattle.lil_match.specs.{Goes.{Shared, Goes, Lands}, Running.{running, advanced, react}, Parts.yes, Homes.{word_for, plain_word}, Waits.{Setting, frame_of, laid_out, Quiet, ValueOf, Around, Reach, Rows, Waiting}, Ranges.ordinal_plain, Orders.{instr_within, body_within}}
use Rattle.lil_match.specs.{Steps.{stands_inside, inside_own, closed, both_trap, advances, at_step, rows_jump, rows_ahead, lands_on, goes_one, goes_one_within, goes_after, jumps_to, operand_goes}, Arithmetic.{word_is}}
use Rattle.lil_laws_stmt.specs.Control.{body_rows}

-- the machine's test of a range is the meaning's
test_is : (t : Whole) (low high z : ℤ) → in_type t low ≡ true → in_type t high ≡ true → in_type t z ≡ true → low ≤ℤ high
    → machine.is_in (word_of low) (word_of high) (word_of z) ≡ between low z high
test_is Cardinal low high z first second third order = grind (arith, ints, nat_tests)
test_is Integer low high z first second third order = grind (arith, ints, nat_tests)

module _ (code : List ℕ) (k : Kind) (base : is_ordinal k ≡ true) (z : ℤ) (inside : in_type (compared_as k) z ≡ true) (other to : ℕ) (rest : ℕ → ℕ → Type 0) where
  -- an entry of the arm has the word, or the search goes on behind its entries
  abbrev Searched : Bool → Option ℕ → Type 0
  Searched true target = target ≡ Some to
  Searched false target = (t : ℕ) × (w : ℕ) × rest t w × (target ≡ machine.chosen code w t (word_of z) other)

  labels_found : (labels : List Label) (t w : ℕ) → EntriesAt code k labels to rest t w → Searched (among labels z) (machine.chosen code w t (word_of z) other)
  labels_found [] t w h = (t, w, h, refl)
  labels_found (label ∷ labels) t zero h = absurd h
  labels_found (label ∷ labels) t (suc w) h = by_test (labels_found labels (t + 6) w h.1) (machine.is_in (word_of label.low) (word_of label.high) (word_of z)) refl
    where
      is : machine.is_in (word_of label.low) (word_of label.high) (word_of z) ≡ between label.low z label.high
      is =
          let ends = label_in k label base h.0.sound in
          test_is (compared_as k) label.low label.high z ends.0 ends.1 inside h.0.sound.order

      by_test : Searched (among labels z) (machine.chosen code w (t + 6) (word_of z) other) → (b : Bool) → machine.is_in (word_of label.low) (word_of label.high) (word_of z) ≡ b
          → Searched (between label.low z label.high || among labels z) (machine.chosen code (suc w) t (word_of z) other)
      by_test after true e =
          let target : machine.chosen code (suc w) t (word_of z) other ≡ Some to = rw (h.0.low, h.0.high, h.0.target, e) refl in
          subst (λ (b : Bool). Searched (b || among labels z) (machine.chosen code (suc w) t (word_of z) other)) (sym e ∙ is) target
      by_test after false e =
          let target : machine.chosen code (suc w) t (word_of z) other ≡ machine.chosen code w (t + 6) (word_of z) other = rw (h.0.low, h.0.high, h.0.target, e) refl in
          subst (λ (b : Bool). Searched (b || among labels z) (machine.chosen code (suc w) t (word_of z) other)) (sym e ∙ is)
          (subst (λ (o : Option ℕ). Searched (among labels z) o) (sym target) after)

module _ (l : Layout) (code : List ℕ) (n : ℕ) (around : Option ℕ) (k : Kind) (base : is_ordinal k ≡ true) (exit other table : ℕ) (z : ℤ) (inside : in_type (compared_as k) z ≡ true) where
  -- the table leads to the arm that is done, which ends with a jump to the exit, or to the trap
  abbrev Reached : Option Statements → Option ℕ → Type 0
  Reached (Some body) target = (start : ℕ) × (end : ℕ) × (gap : ℕ) × (target ≡ Some (l.target start)) × BodyAt l code n around body start end × IsAt code end (Jmp (l.target exit)) gap
  Reached None target = (start : ℕ) × (gap : ℕ) × (target ≡ Some (l.target start)) × IsAt code start (Trp 7) gap

  arms_found : (arms : Arms) (p t w : ℕ) → ArmsAt l code n around k arms exit other table p t w → Reached (meaning.chosen arms z) (machine.chosen code w t (word_of z) (l.target other))
  arms_found NoElse p t w h = (p, table, ap (λ (v : ℕ). machine.chosen code v t (word_of z) (l.target other)) h.none ∙ ap (λ (q : ℕ). Some (l.target q)) h.is, h.trap)
  arms_found (Else body) p t w h = (p, h.end, table, ap (λ (v : ℕ). machine.chosen code v t (word_of z) (l.target other)) h.none ∙ ap (λ (q : ℕ). Some (l.target q)) h.is, h.here, h.leave)
  arms_found (Arm labels body rest) p t w h =
      by_label (λ t w r. arms_found rest h.gap t w r) (among labels z)
      (labels_found code k base z inside (l.target other) (l.target p) (ArmsAt l code n around k rest exit other table h.gap) labels t w h.entries)
    where
      by_label : ((t w : ℕ) → ArmsAt l code n around k rest exit other table h.gap t w → Reached (meaning.chosen rest z) (machine.chosen code w t (word_of z) (l.target other))) → (b : Bool)
          → Searched code k base z inside (l.target other) (l.target p) (ArmsAt l code n around k rest exit other table h.gap) b (machine.chosen code w t (word_of z) (l.target other))
          → Reached (cond b (Some body) (meaning.chosen rest z)) (machine.chosen code w t (word_of z) (l.target other))
      by_label after true r = (p, h.end, h.gap, r, h.here, h.leave)
      by_label after false r = subst (λ (o : Option ℕ). Reached (meaning.chosen rest z) o) (sym r.3) (after r.0 r.1 r.2)

-- the entry that is chosen in a part of some code is that of the whole
chosen_kept : (part code : List ℕ) (from : ℕ) → ((j b : ℕ) → from ≤ j → slice_get part j ≡ Some b → slice_get code j ≡ Some b) → length part ≤ length code → (n p x other : ℕ) → from ≤ p
    → IsKept (machine.chosen part n p x other) (machine.chosen code n p x other)
chosen_kept part code from same long zero p x other low = all_kept (Some other)
chosen_kept part code from same long (suc n) p x other low =
    then_kept _ _ _ _ (word_kept part code from same long p low)
    (λ least. then_kept _ _ _ _ (word_kept part code from same long (p + 2) (omega (arith, low)))
    (λ greatest. then_kept _ _ _ _ (word_kept part code from same long (p + 4) (omega (arith, low)))
    (λ target. choice_kept (machine.is_in least greatest x) _ _ _ _ (all_kept (Some target)) (chosen_kept part code from same long n (p + 6) x other (omega (arith, low))))))

module _ (ctx : Setting) where
  open ctx use {library, table, home as h}
  open frame_of ctx use {own, piece, number}
  open laid_out ctx use {layout as l}

  module _ (s : Source) (k : List Item) (m : State) (c : ℕ) (a : Around) (shared : Shared ctx s m) where
    abbrev Rest : Reach
    Rest = Rows ctx k

    pub case_goes : (e : Expression) (arms : Arms) → Waiting ctx (Perform (Do (Case e arms))) Rest Quiet m.place m.stack c a → Goes ctx s (Perform (Do (Case e arms)) ∷ k) m (c + 32)
    case_goes e arms row =
        operand_goes ctx s k m c a shared (Perform (Do (Case e arms)) ∷ k) e (Pick arms) refl (omega arith) row.part.here.middle row.part.here.value.value (omega (arith, row.part.here.value.shallow, ap length row.part.empty))
        (instr_within piece row.part.here.middle (Jmp row.part.here.choices) row.part.here.exit row.part.here.dispatch)
        (record { part = record { of = e; same = refl; from = m.place; did = row.part; at = refl }; then = row.then })

    pub pick_goes : (arms : Arms) (v : Scalar) (kind : Kind) → within kind v ≡ true → (below : List ℕ) → m.stack ≡ word_for h v ∷ below
        → Waiting ctx (Fill (Pick arms)) Rest (ValueOf kind) m.place below c a → Goes ctx s (Value (Scalars v) ∷ Fill (Pick arms) ∷ k) m (c + 32)
    pick_goes arms v kind fit below is row =
        by_choice (meaning.chosen arms (ordinal_of v)) refl
        (arms_found l piece (a.taken) a.exit (kind_of row.part.of) row.part.did.here.base row.part.did.here.exit row.part.did.here.other row.part.did.here.choices (ordinal_of v) inside arms row.part.did.here.start row.part.did.here.entries row.part.did.here.count row.part.did.here.bodies)
      where
        items : List Item
        items = Value (Scalars v) ∷ Fill (Pick arms) ∷ k

        inside : in_type (compared_as (kind_of row.part.of)) (ordinal_of v) ≡ true
        inside = ordinal_in (kind_of row.part.of) v row.part.did.here.base (ap (λ (j : Kind). within j v) (sym row.part.same) ∙ fit)

        stack : m.stack ≡ word_of (ordinal_of v) ∷ []
        stack = is ∙ ap (λ (st : List ℕ). word_for h v ∷ st) row.part.did.empty ∙ ap (λ (w : ℕ). w ∷ []) (plain_word h kind v (ap is_plain row.part.same ∙ ordinal_plain (kind_of row.part.of) row.part.did.here.base) fit ∙ word_is v)

        choosing : State
        choosing = going m row.part.did.here.choices m.stack

        dispatched : advanced (running m s.world) ≡ running (going m row.part.did.here.choices m.stack) s.world
        dispatched = jumps_to ctx m s.world shared.program row.part.did.here.choices row.part.did.here.exit (subst (λ (p : ℕ). IsAt piece p (Jmp row.part.did.here.choices) row.part.did.here.exit) (sym row.part.at) row.part.did.here.dispatch) (instr_within piece row.part.did.here.choices (Cas row.part.did.here.count row.part.did.here.other) row.part.did.here.entries row.part.did.here.choice)

        -- the entries of the table are those of the module's code
        behind_choice : ctx.stack.frame.entry ≤ row.part.did.here.entries
        behind_choice =
            let place = stands_inside ctx shared.program row.part.did.here.choices (Cas row.part.did.here.count row.part.did.here.other) row.part.did.here.entries row.part.did.here.choice in
            omega (arith, place.low, decoded_stands piece row.part.did.here.choices (Cas row.part.did.here.count row.part.did.here.other, row.part.did.here.entries) row.part.did.here.choice)

        chosen_own : (n x other to : ℕ) → machine.chosen piece n row.part.did.here.entries x other ≡ Some to → machine.chosen own.code n row.part.did.here.entries x other ≡ Some to
        chosen_own n x other to target =
            let f = ctx.stack.frame in
            let is = shared.program.piece.is in
            (chosen_kept (stretch f.entry f.after own.code) own.code f.entry (stretch_kept f.entry f.after own.code shared.program.piece.within) (stretch_short f.entry f.after own.code) n row.part.did.here.entries x other behind_choice).each to
            (ap (λ (code : List ℕ). machine.chosen code n row.part.did.here.entries x other) (sym is) ∙ target)

        chooses : (to : ℕ) → machine.chosen piece row.part.did.here.count row.part.did.here.entries (word_of (ordinal_of v)) row.part.did.here.other ≡ Some to → to < length piece
            → advanced (running (going m row.part.did.here.choices m.stack) s.world) ≡ running (going m to []) s.world
        chooses to target inside =
            advances choosing s.world _ (
            at_step ctx choosing shared.program (Cas row.part.did.here.count row.part.did.here.other) row.part.did.here.entries row.part.did.here.choice
            ∙ ap (λ (st : List ℕ). on_one choosing st (case_row own row.part.did.here.count row.part.did.here.other row.part.did.here.entries choosing)) stack
            ∙ ap (chosen_row own choosing []) (chosen_own row.part.did.here.count (word_of (ordinal_of v)) row.part.did.here.other to target)
            ∙ yes _ _ _ (lt-ltb to (length own.code) (inside_own ctx shared.program to inside))
            )

        by_choice : (b : Option Statements) → meaning.chosen arms (ordinal_of v) ≡ b
            → Reached l piece (a.taken) a.exit (kind_of row.part.of) row.part.did.here.base row.part.did.here.exit row.part.did.here.other row.part.did.here.choices (ordinal_of v) inside b (machine.chosen piece row.part.did.here.count row.part.did.here.entries (word_of (ordinal_of v)) row.part.did.here.other)
            → Goes ctx s (Value (Scalars v) ∷ Fill (Pick arms) ∷ k) m (c + 32)
        by_choice (Some body) e (start, end, gap, target, here, leave) =
            let ends : end < length piece = instr_within piece end (Jmp row.part.did.here.exit) gap leave in
            let out : Source = record s { items = items; phase = Going } in
            goes_after ctx s items m choosing (c + 32) (c + 31) dispatched
            (goes_one_within ctx s items choosing (c + 31) (suc (suc c)) (running (going m start []) s.world)
            (chooses start target (body_within l piece (a.taken) a.exit body start end here ends))
            (subst (λ (b : Option Statements). Lands ctx (picked library b k out).phase (picked library b k out) (running (going m start []) s.world) (suc (suc c))) (sym e)
            (lands_on ctx s m shared (doing body k) start [] (suc (suc c)) a
            (rows_ahead ctx (doing body k) start [] (suc (suc c)) a
            (body_rows ctx body k start end (suc (suc c)) a here ends
            (rows_jump ctx k Quiet end row.part.did.here.exit gap [] (suc c) a leave (instr_within piece row.part.did.here.exit (Jmp row.part.did.end) row.part.did.here.start row.part.did.here.leave)
            (rows_jump ctx k Quiet row.part.did.here.exit row.part.did.end row.part.did.here.start [] c a row.part.did.here.leave row.part.did.within row.then))))))
            (omega arith))
            (omega arith)
        by_choice None e (start, gap, target, trap_there) =
            let n : State = going m start [] in
            let out : Source = record s { items = items; phase = Going } in
            goes_after ctx s items m choosing (c + 32) (c + 31) dispatched
            (goes_after ctx s items choosing n (c + 31) (c + 30)
            (chooses start target (instr_within piece start (Trp 7) gap trap_there))
            (goes_one ctx s items n 29 c (react (Trap trap.Case) n (running n s.world))
            (advances n s.world _ (at_step ctx n shared.program (Trp 7) gap trap_there))
            (subst (λ (b : Option Statements). Lands ctx (picked library b k out).phase (picked library b k out) (react (Trap trap.Case) n (running n s.world)) c) (sym e)
            (both_trap ctx out items n trap.Case (Trp 7) gap shared trap_there (closed ctx k _ _ _ _ _ row.then))))
            (omega arith))
            (omega arith)
