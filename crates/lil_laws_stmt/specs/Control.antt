-- The rows of IF, WHILE, REPEAT and LOOP.
use Rattle.std.proofs.Common.{◌≡◌, ℕ, suc, ◌+◌, ◌<◌, ◌≤◌, Bool, true, false, cond, Some, List, [], ◌∷◌, length, refl, sym, ap, ◌∙◌, subst, arith}
use Rattle.std.proofs.lemmas.Bool.{lt-ltb}
use Rattle.lil_resolved.specs.{Kinds.{Kind, OfTruth, Scalar, Truth, within, truth_number, truth_of}, Resolved.{Expression, If, While, Repeat, Loop, Statements, Empty, Then}}
use Rattle.lil_meaning.specs.{Items.{Scalars, Hole, Choose, Turn, Again, Do, Until, Looping, Item, Value, Fill, Perform, doing, Going, Source}, Steps.next}
use Rattle.lil_asm.specs.declared.instr.Instr.{Instr, TheVariants.{Jmp, Jpf}}
use Rattle.lil_mcode.specs.{declared.machine.Event.TheVariants.Went, Table.{State, going, on_one, false_row}}
use Rattle.lil_table.specs.Rows.{IsAt, StatementAt, BodyAt, ExpressionAt}
use Rattle.lil_match.specs.{Goes.{Shared, Goes, Lands}, Running.{running, advanced}, Parts.yes, Homes.word_for, Waits.{stutter, body_stutter, Setting, frame_of, laid_out, Quiet, ValueOf, Around, Reach, Rows, Ahead, LoopingWaits, Waiting}, Orders.{instr_within, expression_within, statement_within, body_within}}
use Rattle.lil_match.specs.Steps.{inside_own, advances, at_step, at_once, rows_jump, rows_ahead, lands_on, goes_none, goes_one_within, jumps_to, operand_goes}

-- a value of the kind of truth values is one
is_truth : (v : Scalar) → within OfTruth v ≡ true → v ≡ Truth (truth_of v)
is_truth (Truth b) e = refl
is_truth v e = cc

doing_stutter : (ss : Statements) (k : List Item) → stutter (doing ss k) ≡ body_stutter ss + stutter k
doing_stutter Empty k = omega arith
doing_stutter (Then s ss) k = omega (arith, doing_stutter ss k)

module _ (ctx : Setting) where
  open ctx use {library, table, home as h}
  open frame_of ctx use {own, piece, number}
  open laid_out ctx use {layout as l}

  -- statements stand before what is left
  pub body_rows : (ss : Statements) (k : List Item) (p q c : ℕ) (a : Around) → BodyAt l piece (a.taken) a.exit ss p q → q < length piece
      → Rows ctx k Quiet q [] c a → Rows ctx (doing ss k) Quiet p [] c a
  body_rows Empty k p q c a here inside rest = subst (λ (x : ℕ). Rows ctx k Quiet x [] c a) (sym here) rest
  body_rows (Then s ss) k p q c a here inside rest =
      at_once ctx _ Quiet p [] c a
      (record {
        part = record {
          empty = refl;
          end = here.middle;
          here = here.here;
          within = body_within l piece (a.taken) a.exit ss here.middle q here.then inside;
        };
        then = body_rows ss k here.middle q c a here.then inside rest;
      })

  -- a step of the machine to a place with an empty expression stack, where the items stand with which the source goes on
  pub goes_to : (s : Source) (m : State) (shared : Shared ctx s m) (i after : List Item) (q budget later : ℕ) (a : Around)
      → next library (record s { items = i; phase = Going }) ≡ record s { items = after; phase = Going } → advanced (running m s.world) ≡ running (going m q []) s.world
      → Rows ctx after Quiet q [] later a → later + 1 ≤ budget → Goes ctx s i m budget
  goes_to s m shared i after q budget later a source machine rows less =
      goes_one_within ctx s i m budget later (running (going m q []) s.world) machine
      (subst (λ (t : Source). Lands ctx t.phase t (running (going m q []) s.world) later) (sym source)
      (lands_on ctx s m shared after q [] later a (rows_ahead ctx after q [] later a rows)))
      less

  module _ (s : Source) (k : List Item) (m : State) (c : ℕ) (a : Around) (shared : Shared ctx s m) where
    abbrev Rest : Reach
    Rest = Rows ctx k

    abbrev Claim : List Item → Type 0
    Claim i = Goes ctx s i m (c + 32)

    -- a jump where a truth value is FALSE
    tests : (b : Bool) (to q : ℕ) → IsAt piece m.place (Jpf to) q → to < length piece → m.stack ≡ truth_number b ∷ []
        → advanced (running m s.world) ≡ running (going m (cond b q to) []) s.world
    tests b to q at inside is =
        advances m s.world (Went, going m (cond b q to) [])
        (at_step ctx m shared.program (Jpf to) q at ∙ ap (λ (x : List ℕ). on_one m x (false_row own to q m)) is ∙ by b)
      where
        by : (b : Bool) → false_row own to q m (truth_number b) [] ≡ (Went, going m (cond b q to) [])
        by true = refl
        by false = yes _ _ _ (lt-ltb to (length own.code) (inside_own ctx shared.program to inside))

    -- an instruction stands where the machine is
    moved : {q to : ℕ} {i : Instr} → m.place ≡ q → IsAt piece q i to → IsAt piece m.place i to
    moved {q} {to} {i} at here = subst (λ (x : ℕ). IsAt piece x i to) (sym at) here

    -- what goes for each truth value goes for a value of their kind
    by_truth : (o : Hole) (v : Scalar) (kind : Kind) → within kind v ≡ true → (below : List ℕ) → m.stack ≡ word_for h v ∷ below → kind ≡ OfTruth → below ≡ []
        → ((b : Bool) → m.stack ≡ truth_number b ∷ [] → Claim (Value (Scalars (Truth b)) ∷ Fill o ∷ k)) → Claim (Value (Scalars v) ∷ Fill o ∷ k)
    by_truth o v kind fits below is same_kind empty goes =
        let truth : v ≡ Truth (truth_of v) = is_truth v (ap (λ (j : Kind). within j v) (sym same_kind) ∙ fits) in
        subst (λ (u : Scalar). Claim (Value (Scalars u) ∷ Fill o ∷ k)) (sym truth)
        (goes (truth_of v) (is ∙ ap (λ (x : List ℕ). word_for h v ∷ x) empty ∙ ap (λ (u : Scalar). word_for h u ∷ []) truth))

    pub if_goes : (x : Expression) (first second : Statements) → Waiting ctx (Perform (Do (If x first second))) Rest Quiet m.place m.stack c a → Claim (Perform (Do (If x first second)) ∷ k)
    if_goes x first second row =
        operand_goes ctx s k m c a shared (Perform (Do (If x first second)) ∷ k) x (Choose first second) refl (omega arith) row.part.here.middle row.part.here.condition.value (omega (arith, row.part.here.condition.shallow, ap length row.part.empty))
        (instr_within piece row.part.here.middle (Jpf row.part.here.other) row.part.here.start row.part.here.jump)
        (record { part = record { of = x; same = refl; from = m.place; did = row.part; at = refl }; then = row.then })

    pub choose_goes : (first second : Statements) (v : Scalar) (kind : Kind) → within kind v ≡ true → (below : List ℕ) → m.stack ≡ word_for h v ∷ below
        → Waiting ctx (Fill (Choose first second)) Rest (ValueOf kind) m.place below c a → Claim (Value (Scalars v) ∷ Fill (Choose first second) ∷ k)
    choose_goes first second v kind fits below is row = by_truth (Choose first second) v kind fits below is (row.part.same ∙ row.part.did.here.condition.typed) row.part.did.empty by
      where
        other_within : row.part.did.here.other < length piece
        other_within = body_within l piece (a.taken) a.exit second row.part.did.here.other row.part.did.end row.part.did.here.otherwise row.part.did.within

        by : (b : Bool) → m.stack ≡ truth_number b ∷ [] → Claim (Value (Scalars (Truth b)) ∷ Fill (Choose first second) ∷ k)
        by true here =
            goes_to s m shared (Value (Scalars (Truth true)) ∷ Fill (Choose first second) ∷ k) (doing first k) row.part.did.here.start (c + 32) (suc c) a refl
            (tests true row.part.did.here.other row.part.did.here.start (moved row.part.at row.part.did.here.jump) other_within here)
            (body_rows first k row.part.did.here.start row.part.did.here.end (suc c) a row.part.did.here.chosen (instr_within piece row.part.did.here.end (Jmp row.part.did.end) row.part.did.here.other row.part.did.here.skip)
            (rows_jump ctx k Quiet row.part.did.here.end row.part.did.end row.part.did.here.other [] c a row.part.did.here.skip row.part.did.within row.then))
            (omega arith)
        by false here =
            goes_to s m shared (Value (Scalars (Truth false)) ∷ Fill (Choose first second) ∷ k) (doing second k) row.part.did.here.other (c + 32) c a refl
            (tests false row.part.did.here.other row.part.did.here.start (moved row.part.at row.part.did.here.jump) other_within here)
            (body_rows second k row.part.did.here.other row.part.did.end c a row.part.did.here.otherwise row.part.did.within row.then)
            (omega arith)

    pub while_goes : (x : Expression) (body : Statements) → Waiting ctx (Perform (Do (While x body))) Rest Quiet m.place m.stack c a → Claim (Perform (Do (While x body)) ∷ k)
    while_goes x body row =
        operand_goes ctx s k m c a shared (Perform (Do (While x body)) ∷ k) x (Turn x body) refl (omega arith) row.part.here.middle row.part.here.condition.value (omega (arith, row.part.here.condition.shallow, ap length row.part.empty))
        (instr_within piece row.part.here.middle (Jpf row.part.end) row.part.here.start row.part.here.jump)
        (record { part = record { same = row.part.here.condition.typed; from = m.place; did = row.part; at = refl }; then = row.then })

    pub turn_goes : (x : Expression) (body : Statements) (v : Scalar) (kind : Kind) → within kind v ≡ true → (below : List ℕ) → m.stack ≡ word_for h v ∷ below
        → Waiting ctx (Fill (Turn x body)) Rest (ValueOf kind) m.place below c a → Claim (Value (Scalars v) ∷ Fill (Turn x body) ∷ k)
    turn_goes x body v kind fits below is row = by_truth (Turn x body) v kind fits below is row.part.same row.part.did.empty by
      where
        by : (b : Bool) → m.stack ≡ truth_number b ∷ [] → Claim (Value (Scalars (Truth b)) ∷ Fill (Turn x body) ∷ k)
        by true here =
            goes_to s m shared (Value (Scalars (Truth true)) ∷ Fill (Turn x body) ∷ k) (doing body (Perform (Do (While x body)) ∷ k)) row.part.did.here.start (c + 32) (suc c) a refl
            (tests true row.part.did.end row.part.did.here.start (moved row.part.at row.part.did.here.jump) row.part.did.within here)
            (body_rows body (Perform (Do (While x body)) ∷ k) row.part.did.here.start row.part.did.here.end (suc c) a row.part.did.here.here (instr_within piece row.part.did.here.end (Jmp row.part.from) row.part.did.end row.part.did.here.back)
            (rows_jump ctx (Perform (Do (While x body)) ∷ k) Quiet row.part.did.here.end row.part.from row.part.did.end [] c a row.part.did.here.back
            (statement_within l piece (a.taken) a.exit (While x body) row.part.from row.part.did.end row.part.did.here row.part.did.within)
            (at_once ctx _ Quiet row.part.from [] c a
            (record { part = record { empty = refl; end = row.part.did.end; here = row.part.did.here; within = row.part.did.within }; then = row.then }))))
            (omega arith)
        by false here =
            goes_to s m shared (Value (Scalars (Truth false)) ∷ Fill (Turn x body) ∷ k) k row.part.did.end (c + 32) c a refl
            (tests false row.part.did.end row.part.did.here.start (moved row.part.at row.part.did.here.jump) row.part.did.within here)
            row.then (omega arith)

    -- a body that begins where the machine stands
    body_here : (ss : Statements) (i : List Item) (q : ℕ) (b : Around) → m.stack ≡ [] → BodyAt l piece (b.taken) b.exit ss m.place q → q < length piece
        → Rows ctx i Quiet q [] c b → Ahead ctx (doing ss i) Quiet m.place m.stack c b
    body_here ss i q b empty here inside rows =
        rows_ahead ctx (doing ss i) m.place m.stack c b
        (subst (λ (x : List ℕ). Rows ctx (doing ss i) Quiet m.place x c b) (sym empty) (body_rows ss i m.place q c b here inside rows))

    pub repeat_goes : (body : Statements) (x : Expression) → Waiting ctx (Perform (Do (Repeat body x))) Rest Quiet m.place m.stack c a → Claim (Perform (Do (Repeat body x)) ∷ k)
    repeat_goes body x row =
        goes_none ctx s (Perform (Do (Repeat body x)) ∷ k) m 32 c
        (lands_on ctx s m shared (doing body (Perform (Until body x) ∷ k)) m.place m.stack c a
        (body_here body (Perform (Until body x) ∷ k) row.part.here.end a row.part.empty row.part.here.here (expression_within l piece x row.part.here.end row.part.here.middle row.part.here.condition.value)
        (at_once ctx _ Quiet row.part.here.end [] c a
        (record { part = record { empty = refl; amid = record { from = m.place; end = row.part.end; here = row.part.here; within = row.part.within; at = refl } }; then = row.then }))))
        (omega (arith, doing_stutter body (Perform (Until body x) ∷ k)))

    pub until_goes : (body : Statements) (x : Expression) → Waiting ctx (Perform (Until body x)) Rest Quiet m.place m.stack c a → Claim (Perform (Until body x) ∷ k)
    until_goes body x row =
        operand_goes ctx s k m c a shared (Perform (Until body x) ∷ k) x (Again body x) refl (omega arith) row.part.amid.here.middle (subst (λ (p : ℕ). ExpressionAt l piece x p row.part.amid.here.middle) (sym row.part.amid.at) row.part.amid.here.condition.value) (omega (arith, row.part.amid.here.condition.shallow, ap length row.part.empty))
        (instr_within piece row.part.amid.here.middle (Jpf row.part.amid.from) row.part.amid.end row.part.amid.here.back)
        (record { part = record { same = row.part.amid.here.condition.typed; from = row.part.amid.from; did = record { empty = row.part.empty; end = row.part.amid.end; here = row.part.amid.here; within = row.part.amid.within }; at = refl }; then = row.then })

    pub again_goes : (body : Statements) (x : Expression) (v : Scalar) (kind : Kind) → within kind v ≡ true → (below : List ℕ) → m.stack ≡ word_for h v ∷ below
        → Waiting ctx (Fill (Again body x)) Rest (ValueOf kind) m.place below c a → Claim (Value (Scalars v) ∷ Fill (Again body x) ∷ k)
    again_goes body x v kind fits below is row = by_truth (Again body x) v kind fits below is row.part.same row.part.did.empty by
      where
        top_within : row.part.from < length piece
        top_within = statement_within l piece (a.taken) a.exit (Repeat body x) row.part.from row.part.did.end row.part.did.here row.part.did.within

        by : (b : Bool) → m.stack ≡ truth_number b ∷ [] → Claim (Value (Scalars (Truth b)) ∷ Fill (Again body x) ∷ k)
        by true here =
            goes_to s m shared (Value (Scalars (Truth true)) ∷ Fill (Again body x) ∷ k) k row.part.did.end (c + 32) c a refl
            (tests true row.part.from row.part.did.end (moved row.part.at row.part.did.here.back) top_within here)
            row.then (omega arith)
        by false here =
            goes_to s m shared (Value (Scalars (Truth false)) ∷ Fill (Again body x) ∷ k) (Perform (Do (Repeat body x)) ∷ k) row.part.from (c + 32) c a refl
            (tests false row.part.from row.part.did.end (moved row.part.at row.part.did.here.back) top_within here)
            (at_once ctx _ Quiet row.part.from [] c a
            (record { part = record { empty = refl; end = row.part.did.end; here = row.part.did.here; within = row.part.did.within }; then = row.then }))
            (omega arith)

    -- what is around the body of a LOOP
    abbrev inside_loop : ℕ → Around → Around
    inside_loop end outer = record { exit = Some end; taken = outer.taken }

    -- the end of a LOOP's body, and what is behind the LOOP
    looping_row : (body : Statements) (top end : ℕ) (outer : Around) → (again : StatementAt l piece (outer.taken) outer.exit (Loop body) top end) → end < length piece
        → Rest Quiet end [] c outer → Rows ctx (Perform (Looping body) ∷ k) Quiet again.end [] c (inside_loop end outer)
    looping_row body top end outer again inside then' =
        at_once ctx _ Quiet again.end [] c (inside_loop end outer)
        (record {
          quiet = refl;
          empty = refl;
          outer = outer;
          top = top;
          end = end;
          is = refl;
          back = again.back;
          again = again;
          within = inside;
          then = then';
        })

    pub loop_goes : (body : Statements) → Waiting ctx (Perform (Do (Loop body))) Rest Quiet m.place m.stack c a → Claim (Perform (Do (Loop body)) ∷ k)
    loop_goes body row =
        goes_none ctx s (Perform (Do (Loop body)) ∷ k) m 32 c
        (lands_on ctx s m shared (doing body (Perform (Looping body) ∷ k)) m.place m.stack c (inside_loop row.part.end a)
        (body_here body (Perform (Looping body) ∷ k) row.part.here.end (inside_loop row.part.end a) row.part.empty row.part.here.here
        (instr_within piece row.part.here.end (Jmp m.place) row.part.end row.part.here.back)
        (looping_row body m.place row.part.end a row.part.here row.part.within row.then)))
        (omega (arith, doing_stutter body (Perform (Looping body) ∷ k)))

    pub looping_goes : (body : Statements) → LoopingWaits ctx.stack.frame body Rest Quiet m.place m.stack c a → Claim (Perform (Looping body) ∷ k)
    looping_goes body row =
        goes_to s m shared (Perform (Looping body) ∷ k) (doing body (Perform (Looping body) ∷ k)) row.top (c + 32) c (inside_loop row.end row.outer) refl
        (jumps_to ctx m s.world shared.program row.top row.end row.back
        (statement_within l piece (row.outer.taken) row.outer.exit (Loop body) row.top row.end row.again row.within)
        ∙ ap (λ (x : List ℕ). running (going m row.top x) s.world) row.empty)
        (body_rows body (Perform (Looping body) ∷ k) row.top row.again.end c (inside_loop row.end row.outer) row.again.here
        (instr_within piece row.again.end (Jmp row.top) row.end row.again.back)
        (looping_row body row.top row.end row.outer row.again row.within row.then))
        (omega arith)
