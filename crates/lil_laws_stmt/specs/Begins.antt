-- The beginning of the turns of a FOR, from any start.
use Rattle.std.proofs.Common.{◌≡◌, ℕ, zero, suc, ◌+◌, ℤ, ◌+ℤ◌, Bool, true, false, cond, not, Option, List, [], ◌∷◌, length, refl, sym, ap, ◌∙◌, subst, arith}
use Rattle.std.proofs.lemmas.Bool.{lt-ltb, false_from_ne_true, true≢false}
use Rattle.lil_base.specs.declared.fault.TrapKind.TheVariants as trap
use Rattle.lil_base.specs.Words.{word_of}
use Rattle.lil_resolved.specs.{Kinds.{Kind, base_of, compared_as, covers, outside_turns, Scalar}, Resolved.{Named, Statements}}
use Rattle.lil_meaning.specs.{Items.{Turns, Item, Perform, Going, Source}, Steps.{next, turned_with, turns}}
use Rattle.lil_asm.specs.declared.instr.Instr.{Instr, TheVariants.{Liw, Dup, Drp, Swp, Rgc, Lsi, Jmp, Jpf}}
use Rattle.lil_mcode.specs.{declared.machine.Event.{Event, TheVariants.{Went, Trap}}, Table.{State, act, truth, going}}
use Rattle.lil_table.specs.Rows.{IsAt, LeaveRow, AlignAt}
use Rattle.lil_match.specs.{Goes.{Shared, Goes, Lands}, Running.{Run, running, react}, Parts.yes, Ranges.{has, has_base, value_none}, Tests.covered, Waits.{Setting, frame_of, laid_out, Quiet, Around, Rows, BeginWaits}, Orders.instr_within, Steps.{inside_own, closed, both_trap, advances, at_step, rows_ahead, lands_on, goes_one, goes_after, goes_more}}
use Rattle.lil_laws_stmt.specs.{Starts.{is_small, small_has, IsOutside, outside, outside_none, outside_some, small_between, small_less}, Fors.bounded_goes}

module _ (ctx : Setting) where
  open ctx use {library, table, home as h}
  open frame_of ctx use {own, piece, number}
  open laid_out ctx use {layout as l}

  -- ---- a start of another type of whole numbers
  module _ (s : Source) (k : List Item) (m : State) (c : ℕ) (a : Around) (shared : Shared ctx s m)
      (x : Named) (kind : Kind) (first step : ℤ) (left : ℕ) (body : Statements) (row : BeginWaits ctx x kind first step left body (Rows ctx k) Quiet m.place m.stack c a) where
    abbrev here : List Item
    here = Perform (Turns x kind first step left body) ∷ k

    abbrev base : Kind
    base = base_of kind

    -- the machine at a place, with this expression stack
    abbrev at : ℕ → List ℕ → State
    at p stack = going m p stack

    -- an instruction that changes the place and the expression stack alone
    leads : (i : Instr) (p gap q : ℕ) (stack next : List ℕ) (rest spare : ℕ) → IsAt piece p i gap → act i gap own (at p stack) ≡ (Went, at q next) → Goes ctx s here (at q next) (c + rest)
        → Goes ctx s here (at p stack) (c + (rest + (1 + spare)))
    leads i p gap q stack next rest spare stands row goes =
        goes_after ctx s here (at p stack) (at q next) (c + (rest + (1 + spare))) (c + rest) (advances (at p stack) s.world _ (at_step ctx (at p stack) shared.program i gap stands ∙ row)) goes (omega arith)

    -- one that goes on behind itself
    does : (i : Instr) (p q : ℕ) (stack next : List ℕ) (rest spare : ℕ) → IsAt piece p i q → act i q own (at p stack) ≡ (Went, at q next) → Goes ctx s here (at q next) (c + rest)
        → Goes ctx s here (at p stack) (c + (rest + (1 + spare)))
    does i p q stack next rest spare stands row goes = leads i p q q stack next rest spare stands row goes

    -- both bounds are numbers of one kind
    aligned : has base first ≡ true → Goes ctx s here (at row.turns.aligned (word_of row.limit ∷ word_of first ∷ [])) (c + 24)
    aligned fits =
        bounded_goes ctx s k (at row.turns.aligned (word_of row.limit ∷ word_of first ∷ [])) c a shared x kind first step left body
        (record {
          limit = row.limit;
          fits = fits;
          limit_fits = row.limit_fits;
          stack_is = refl;
          count = row.count;
          stepped = row.turns.stepped;
          turn = row.turns.turn;
          end = row.end;
          load = row.turns.load;
          enter = row.turns.enter;
          round = row.turns.round;
          within = row.within;
          then = row.then;
        })

    module _ (apart : covers base row.from ≡ false) where
      small : has base first ≡ is_small first
      small = small_has kind row.from first row.takes apart row.fits

      lies : has base first ≡ false → IsOutside (compared_as base) first row.limit
      lies none = outside kind row.from first row.limit row.takes apart row.fits none row.limit_fits

      -- ---- a start outside has a turn, which traps
      module _ (way : outside_turns (compared_as base) step ≡ true) where
        traps : (u : ℕ) → turns first row.limit step ≡ u → has base first ≡ false → (p : ℕ) (stack : List ℕ) (i : Instr) (q : ℕ) → IsAt piece p i q
            → Lands ctx (next library (record s { items = Perform (Turns x kind first step u body) ∷ k; phase = Going })).phase
            (next library (record s { items = Perform (Turns x kind first step u body) ∷ k; phase = Going })) (react (Trap trap.Range) (at p stack) (running (at p stack) s.world)) c
        traps zero e none p stack i q here = absurd (outside_some (compared_as base) first row.limit step (lies none) way e)
        traps (suc u) e none p stack i q here =
            let items : List Item = Perform (Turns x kind first step (suc u) body) ∷ k in
            let run : Run = react (Trap trap.Range) (at p stack) (running (at p stack) s.world) in
            let none_there : has kind first ≡ false = false_from_ne_true (has kind first) (λ h. true≢false (sym (has_base kind first h) ∙ none)) in
            subst (λ (o : Option Scalar). Lands ctx (turned_with library o x body (Perform (Turns x kind (first +ℤ step) step u body) ∷ k) (record s { items = items; phase = Going })).phase
            (turned_with library o x body (Perform (Turns x kind (first +ℤ step) step u body) ∷ k) (record s { items = items; phase = Going })) run c)
            (sym (value_none kind first none_there))
            (both_trap ctx s items (at p stack) trap.Range i q shared here (closed ctx k Quiet row.end [] c a row.then))

        tested : (b : Bool) → has base first ≡ b → (p q r : ℕ) → IsAt piece p (Rgc 0 32767) q → IsAt piece q Swp r → r ≡ row.turns.aligned
            → Goes ctx s here (at p (word_of first ∷ word_of row.limit ∷ [])) (c + 31)
        tested b e p q r one two last = by b e
          where
            stack : List ℕ
            stack = word_of first ∷ word_of row.limit ∷ []

            does_test : (b : Bool) → has base first ≡ b → act (Rgc 0 32767) q own (at p (word_of first ∷ word_of row.limit ∷ [])) ≡ (let r : Event × State = cond b (Went, at q (word_of first ∷ word_of row.limit ∷ [])) (Trap trap.Range, at p (word_of first ∷ word_of row.limit ∷ [])) in r)
            does_test b e = ap (λ (y : Bool). let r : Event × State = cond y (Went, at q (word_of first ∷ word_of row.limit ∷ [])) (Trap trap.Range, at p (word_of first ∷ word_of row.limit ∷ [])) in r) (small_between first ∙ sym small ∙ e)

            by : (b : Bool) → has base first ≡ b → Goes ctx s here (at p (word_of first ∷ word_of row.limit ∷ [])) (c + 31)
            by true e =
                does (Rgc 0 32767) p q (word_of first ∷ word_of row.limit ∷ []) (word_of first ∷ word_of row.limit ∷ []) 30 0 one (does_test true e)
                (does Swp q r (word_of first ∷ word_of row.limit ∷ []) (word_of row.limit ∷ word_of first ∷ []) 24 5 two refl
                (subst (λ (z : ℕ). Goes ctx s here (at z (word_of row.limit ∷ word_of first ∷ [])) (c + 24)) (sym last) (aligned e)))
            by false e =
                goes_one ctx s here (at p (word_of first ∷ word_of row.limit ∷ [])) 30 c _
                (advances (at p (word_of first ∷ word_of row.limit ∷ [])) s.world _ (at_step ctx (at p (word_of first ∷ word_of row.limit ∷ [])) shared.program (Rgc 0 32767) q one ∙ does_test false e))
                (traps left (sym row.count) e p (word_of first ∷ word_of row.limit ∷ []) (Rgc 0 32767) q one)

      -- ---- a start outside has no turn
      module _ (way : outside_turns (compared_as base) step ≡ false) (leave : LeaveRow l piece m.place row.turns.aligned row.end) where
        leaves : (u : ℕ) → turns first row.limit step ≡ u → has base first ≡ false
            → Lands ctx (next library (record s { items = Perform (Turns x kind first step u body) ∷ k; phase = Going })).phase
            (next library (record s { items = Perform (Turns x kind first step u body) ∷ k; phase = Going })) (running (at row.end []) s.world) c
        leaves zero e none = lands_on ctx s m shared k row.end [] c a (rows_ahead ctx k row.end [] c a row.then)
        leaves (suc u) e none = absurd (let z = sym e ∙ outside_none (compared_as base) first row.limit step (lies none) way row.turns.round.is_step in omega (arith, z))

        jumps : (b : Bool) → has base first ≡ b → Goes ctx s here (at leave.tested (truth (not b) ∷ word_of first ∷ word_of row.limit ∷ [])) (c + 28)
        jumps true e =
            leads (Jpf leave.other) leave.tested leave.skip leave.other (0 ∷ word_of first ∷ word_of row.limit ∷ []) (word_of first ∷ word_of row.limit ∷ []) 27 0 leave.jump
            (yes _ _ _ (lt-ltb leave.other (length own.code) (inside_own ctx shared.program leave.other (instr_within piece leave.other Swp row.turns.aligned leave.back))))
            (does Swp leave.other row.turns.aligned (word_of first ∷ word_of row.limit ∷ []) (word_of row.limit ∷ word_of first ∷ []) 24 2 leave.back refl (aligned e))
        jumps false e =
            does (Jpf leave.other) leave.tested leave.skip (1 ∷ word_of first ∷ word_of row.limit ∷ []) (word_of first ∷ word_of row.limit ∷ []) 27 0 leave.jump refl
            (does Drp leave.skip leave.drop.0 (word_of first ∷ word_of row.limit ∷ []) (word_of row.limit ∷ []) 26 0 leave.drop.1 refl
            (does Drp leave.drop.0 leave.drop.2.0 (word_of row.limit ∷ []) [] 25 0 leave.drop.2.1 refl
            (goes_one ctx s here (at leave.drop.2.0 []) 24 c (running (at row.end []) s.world)
            (advances (at leave.drop.2.0 []) s.world _ (
            at_step ctx (at leave.drop.2.0 []) shared.program (Jmp row.end) leave.other (subst (λ (q : ℕ). IsAt piece q (Jmp row.end) leave.other) (sym leave.drop.2.2) leave.leave)
            ∙ yes _ _ _ (lt-ltb row.end (length own.code) (inside_own ctx shared.program row.end row.within))
            ))
            (leaves left (sym row.count) e))))

        -- whether the start's word is small is looked at
        looks : Goes ctx s here (at m.place (word_of row.limit ∷ word_of first ∷ [])) (c + 32)
        looks =
            let w : ℕ = word_of first in
            let b : ℕ = word_of row.limit in
            does Swp m.place leave.look.0 (b ∷ w ∷ []) (w ∷ b ∷ []) 31 0 leave.look.1 refl
            (does Dup leave.look.0 leave.look.2.0 (w ∷ b ∷ []) (w ∷ w ∷ b ∷ []) 30 0 leave.look.2.1 refl
            (does (Liw 0) leave.look.2.0 leave.look.2.2.0 (w ∷ w ∷ b ∷ []) (0 ∷ w ∷ w ∷ b ∷ []) 29 0 leave.look.2.2.1 refl
            (does Lsi leave.look.2.2.0 leave.look.2.2.2.0 (0 ∷ w ∷ w ∷ b ∷ []) (truth (not (has base first)) ∷ w ∷ b ∷ []) 28 0 leave.look.2.2.2.1
            (ap (λ (y : Bool). let r : Event × State = (Went, at leave.look.2.2.2.0 (truth y ∷ w ∷ b ∷ [])) in r) (small_less first ∙ ap not (sym small)))
            (subst (λ (q : ℕ). Goes ctx s here (at q (truth (not (has base first)) ∷ w ∷ b ∷ [])) (c + 28)) (sym leave.look.2.2.2.2) (jumps (has base first) refl)))))

    -- whichever way a start of another type goes
    other_goes : (apart : covers base row.from ≡ false) (b : Bool) → outside_turns (compared_as base) step ≡ b → AlignAt l piece false b m.place row.turns.aligned row.end
        → Goes ctx s here (at m.place (word_of row.limit ∷ word_of first ∷ [])) (c + 32)
    other_goes apart true way align =
        does Swp m.place align.0 (word_of row.limit ∷ word_of first ∷ []) (word_of first ∷ word_of row.limit ∷ []) 31 0 align.1 refl
        (tested apart way (has base first) refl align.0 align.2.0 align.2.2.0 align.2.1 align.2.2.1 align.2.2.2)
    other_goes apart false way align = looks apart way align

    by_kind : (b : Bool) → covers base row.from ≡ b → AlignAt l piece b (outside_turns (compared_as base) step) m.place row.turns.aligned row.end
        → Goes ctx s here (at m.place (word_of row.limit ∷ word_of first ∷ [])) (c + 32)
    by_kind true covering align =
        goes_more ctx s here (at m.place (word_of row.limit ∷ word_of first ∷ [])) (c + 24) (c + 32)
        (subst (λ (q : ℕ). Goes ctx s here (at q (word_of row.limit ∷ word_of first ∷ [])) (c + 24)) (sym align) (aligned (covered base row.from first covering row.fits)))
        (omega arith)
    by_kind false apart align = other_goes apart (outside_turns (compared_as base) step) refl align

    pub begin_goes : Goes ctx s here m (c + 32)
    begin_goes = subst (λ (stack : List ℕ). Goes ctx s here (at m.place stack) (c + 32)) (sym row.stack_is) (by_kind (covers base row.from) refl row.turns.align)
