-- The rows of expressions: from a matched state the machine comes to a matched state.
use Rattle.std.proofs.Common.{◌≡◌, ◌≢◌, ℕ, ◌+◌, ◌<◌, ◌≤◌, Bool, true, false, not, cond, ◌==◌, Result, Ok, Err, List, [], ◌∷◌, length, get_or, refl, sym, ap, ◌∙◌, subst, arith}
use Rattle.std.specs.Prelude.{slice_get}
use Rattle.std.proofs.lemmas.Bool.{lt-ltb, and_parts, eq-eqb, eqb-true, ne_eqb}
use Rattle.lil_base.specs.declared.{fault.TrapKind.TrapKind, operator.{OneOp.OneOp, TwoOp.{TwoOp, TheVariants.{Equal, Unequal}}}}
use Rattle.lil_base.specs.declared.operator.OneOp.TheVariants as one
use Rattle.lil_resolved.specs.Kinds.{Pointee, Objects, Workspaces, Kind, OfTruth, OfPointer, OfProcedure, OfRange, base_of, is_plain, Scalar, Truth, ToObject, ToWorkspace, ToProcedure, procedure_word, procedure_by, Outline, Signature, Nil, is_reference, is_literal, same_reference, within, scalar_word, Word}
use Rattle.lil_resolved.specs.{Resolved.{Designator, Function, Expression, Constant, Taken, One, Two, Short, Apply, kind_of, is_relation, result_kind, right_kind, function_kind, Routine}, Sound.{takes_two, takes_function}}
use Rattle.lil_meaning.specs.{Items.{Activation, Object, Place, got, Scalars, Places, Get, OneOf, LeftOf, RightOf, ShortOf, ApplyTo, Item, Value, Evaluate, Fill, Going, Source}, Steps.{next, answered, with_items, applied, one_applied, function_value, current, module_now, owner_of}}
use Rattle.lil_asm.specs.declared.instr.Instr.{Instr, TheVariants.{Liw}}
use Rattle.lil_mcode.specs.{declared.machine.Event.{Event, TheVariants.Went}, Table.{State, mstep, act, going, jump, on_one, and_row, or_row}}
use Rattle.lil_table.specs.Rows.{IsAt, InstrsAt, access_of, load_code, one_code, two_code, function_code, short_code}
use Rattle.lil_match.specs.{Goes.{Shared, Goes, Lands}, Running.{running, react}, Parts.yes, Homes.{word_for, Refers, plain_word, plain_refers, refers_base, shape_there}, Waits.{stutter, Setting, frame_of, laid_out, Mode, Quiet, ValueOf, AtPlace, Around, Reach, AfterJumps, Rows, HasPlace, Designates, RightPart, Waiting}}
use Rattle.lil_match.specs.{Steps.{inside_own, advances, pushes, at_step, at_once, lands_on, goes_none, goes_one, goes_after, goes_more, operand_goes, located_goes, closed, both_trap}, Orders.{instr_within, instrs_order, instrs_within, expression_stands, expression_within}}
use Rattle.lil_laws_place.specs.{Codes.loads, Elements.place_some, Sets.not_true}
use Rattle.lil_laws_expr.specs.Operators.{answer_row, Gives, Fits, one_plain, two_plain, right_plain, function_plain, ranged_none, procedures_none, pointer_gives, one_gives, one_fits, two_gives, two_length, two_fits, function_gives, function_fits, function_none, function_length}

module _ (ctx : Setting) where
  open ctx use {library, table, home as h}
  open frame_of ctx use {own, piece, number}
  open laid_out ctx use {layout as l}

  module _ (s : Source) (k : List Item) (m : State) (c : ℕ) (a : Around) (shared : Shared ctx s m) where
    abbrev Rest : Reach
    Rest = Rows ctx k

    abbrev Now : List Item → Source
    Now items = record s { items = items; phase = Going }

    -- a row to which no jump leads
    once : {row : Reach} {t : Mode} {p : ℕ} {stack : List ℕ} → row t p stack c a → AfterJumps piece row t p stack c a
    once {row} {t} {p} {stack} r = at_once ctx row t p stack c a r

    -- the value that instructions give, or their trap
    answer_lands : (items : List Item) → current items ≡ ctx.stack.frame.activation → (r : Result Scalar TrapKind) (kind : Kind) → is_plain kind ≡ true → Fits kind r → (p : ℕ) (stack : List ℕ) (i : Instr) (q : ℕ) → IsAt piece p i q → (end : ℕ) (below : List ℕ) → Rest (ValueOf kind) end below c a
        → Lands ctx (answered library r k (Now items)).phase (answered library r k (Now items))
        (react (answer_row (going m p stack) end below r).0 (answer_row (going m p stack) end below r).1 (running (going m p stack) s.world)) c
    answer_lands items close (Ok v) kind plain fits p stack i q at end below rest =
        lands_on ctx s m shared (Value (Scalars v) ∷ k) end (scalar_word v ∷ below) c a
        (once (record {
          part = record { kind = kind; fits = fits; refers = plain_refers h kind v plain; below = below; is = ap (λ (w : ℕ). w ∷ below) (sym (plain_word h kind v plain fits)) };
          then = rest;
        }))
    answer_lands items close (Err t) kind plain fits p stack i q at end below rest =
        both_trap ctx s items (going m p stack) t i q shared at close

    -- instructions that give a value, as the source does
    instrs_go : (items : List Item) → current items ≡ ctx.stack.frame.activation → (r : Result Scalar TrapKind) → next library (Now items) ≡ answered library r k (Now items) → (kind : Kind) → is_plain kind ≡ true → Fits kind r
        → (end : ℕ) (below : List ℕ) → Rest (ValueOf kind) end below c a → (is : List Instr) (p : ℕ) (stack : List ℕ) → InstrsAt piece is p end → Gives own is (going m p stack) below r
        → Goes ctx s items (going m p stack) (c + length is)
    instrs_go items close r becomes kind plain fits end below rest [] p stack here gives = absurd gives
    instrs_go items close r becomes kind plain fits end below rest (i ∷ []) p stack here gives =
        goes_one ctx s items (going m p stack) 0 c _
        (advances (going m p stack) s.world _ (
        at_step ctx (going m p stack) shared.program i here.0 here.1
        ∙ gives here.0
        ))
        (subst (λ (x : Source). Lands ctx x.phase x (react (answer_row (going m p stack) here.0 below r).0 (answer_row (going m p stack) here.0 below r).1 (running (going m p stack) s.world)) c) (sym becomes)
        (answer_lands items close r kind plain fits p stack i here.0 here.1 here.0 below (subst (λ (q : ℕ). Rest (ValueOf kind) q below c a) (sym here.2) rest)))
    instrs_go items close r becomes kind plain fits end below rest (i ∷ j ∷ is) p stack here gives =
        goes_after ctx s items (going m p stack) (going m here.0 gives.0) (c + length (i ∷ j ∷ is)) (c + length (j ∷ is))
        (advances (going m p stack) s.world _ (
        at_step ctx (going m p stack) shared.program i here.0 here.1
        ∙ gives.1 here.0
        ))
        (instrs_go items close r becomes kind plain fits end below rest (j ∷ is) here.0 gives.0 here.2 (gives.2 here.0))
        (omega arith)

    -- a value that a text can name
    literal : (kind : Kind) (v : Scalar) → is_literal kind v ≡ true → (within kind v ≡ true) × (is_reference v ≡ false)
    literal kind v e = let p = and_parts (within kind v) (not (is_reference v)) e in (p.0, not_true (is_reference v) p.1)

    literal_word : (v : Scalar) → is_reference v ≡ false → word_for h v ≡ scalar_word v
    literal_word (ToObject o) e = cc
    literal_word (ToWorkspace w) e = cc
    literal_word (ToProcedure n p) e = cc
    literal_word _ e = refl

    literal_refers : (kind : Kind) (v : Scalar) → is_reference v ≡ false → Refers h kind v
    literal_refers (OfRange base low high) v e = literal_refers base v e
    literal_refers (OfPointer (Objects n)) (ToObject o) e = cc
    literal_refers (OfPointer Workspaces) (ToWorkspace w) e = cc
    literal_refers (OfProcedure n) (ToProcedure i p) e = cc
    literal_refers _ v e = tt

    pub constant_goes : (kind : Kind) (v : Scalar) → Waiting ctx (Evaluate (Constant kind v)) Rest Quiet m.place m.stack c a → Goes ctx s (Evaluate (Constant kind v) ∷ k) m (c + 32)
    constant_goes kind v row =
        goes_one ctx s (Evaluate (Constant kind v) ∷ k) m 31 c (running (going m row.part.end (scalar_word v ∷ m.stack)) s.world)
        (advances m s.world _ (at_step ctx m shared.program (Liw (scalar_word v)) row.part.end row.part.here.load ∙ pushes (scalar_word v) row.part.end m (omega (arith, row.part.shallow))))
        (lands_on ctx s m shared (Value (Scalars v) ∷ k) row.part.end (scalar_word v ∷ m.stack) c a
        (once (record {
          part = record { kind = kind; fits = (literal kind v row.part.here.fits).0; refers = literal_refers kind v (literal kind v row.part.here.fits).1; below = m.stack; is = ap (λ (w : ℕ). w ∷ m.stack) (sym (literal_word v (literal kind v row.part.here.fits).1)) };
          then = row.then;
        })))

    -- a procedure of the module as a value
    pub routine_goes : (p n : ℕ) → Waiting ctx (Evaluate (Routine p n)) Rest Quiet m.place m.stack c a → Goes ctx s (Evaluate (Routine p n) ∷ k) m (c + 32)
    routine_goes p n row =
        let known = shared.standing.known in
        let may = row.part.here.may in
        let now : Source = record s { items = Evaluate (Routine p n) ∷ k; phase = Going } in
        let own : module_now now ≡ ctx.stack.frame.number =
        ap (λ (i : ℕ). owner_of (slice_get s.activations i)) (closed ctx k _ _ _ _ _ row.then) ∙ ap (λ (acts : List Activation). owner_of (slice_get acts ctx.stack.frame.activation)) shared.activations_are ∙ known.owner in
        let w : ℕ = procedure_word ctx.stack.frame.number p in
        goes_one ctx s (Evaluate (Routine p n) ∷ k) m 31 c (running (going m row.part.end (w ∷ m.stack)) s.world)
        (advances m s.world _ (at_step ctx m shared.program (Liw w) row.part.end (subst (λ (i : ℕ). IsAt piece m.place (Liw (procedure_word i p)) row.part.end) known.number row.part.here.load) ∙ pushes w row.part.end m (omega (arith, row.part.shallow))))
        (subst (λ (i : ℕ). Lands ctx Going (with_items now (Value (Scalars (ToProcedure i p)) ∷ k)) (running (going m row.part.end (w ∷ m.stack)) s.world) c) (sym own)
        (lands_on ctx s m shared (Value (Scalars (ToProcedure ctx.stack.frame.number p)) ∷ k) row.part.end (w ∷ m.stack) c a
        (once (record {
          part = record {
            kind = OfProcedure n;
            fits = refl;
            refers = record {
              here = known.here;
              low = row.part.here.low;
              its = may.its;
              known = ap (λ (xs : List Outline). procedure_by xs p) (sym known.outlines) ∙ may.known;
              declared = may.declared;
              same = ap (λ (xs : List Signature). slice_get xs n) (sym known.signatures) ∙ may.same;
            };
            below = m.stack;
            is = refl;
          };
          then = row.then;
        }))))

    pub taken_goes : (d : Designator) (kind : Kind) → Waiting ctx (Evaluate (Taken d kind)) Rest Quiet m.place m.stack c a → Goes ctx s (Evaluate (Taken d kind) ∷ k) m (c + 32)
    taken_goes d kind row =
        let r = row.part.here in
        located_goes ctx s k m c a shared (Evaluate (Taken d kind) ∷ k) d Get refl (omega arith) r.found r.here row.part.shallow
        (record { part = record { kind = kind; from = m.place; did = row.part; at = refl }; then = row.then })

    pub one_goes : (o : OneOp) (j : Kind) (e : Expression) → Waiting ctx (Evaluate (One o j e)) Rest Quiet m.place m.stack c a → Goes ctx s (Evaluate (One o j e) ∷ k) m (c + 32)
    one_goes o j e row =
        let first = expression_stands l piece e m.place row.part.here.middle row.part.here.first in
        let by = instrs_order piece (one_code o j) row.part.here.middle row.part.end row.part.here.by first.1 in
        operand_goes ctx s k m c a shared (Evaluate (One o j e) ∷ k) e (OneOf o j) refl (omega arith) row.part.here.middle row.part.here.first row.part.shallow (omega (arith, by.0, row.part.within))
        (record { part = record { of = e; same = refl; from = m.place; did = row.part; at = refl }; then = row.then })

    pub two_goes : (o : TwoOp) (j : Kind) (e f : Expression) → Waiting ctx (Evaluate (Two o j e f)) Rest Quiet m.place m.stack c a → Goes ctx s (Evaluate (Two o j e f) ∷ k) m (c + 32)
    two_goes o j e f row =
        operand_goes ctx s k m c a shared (Evaluate (Two o j e f) ∷ k) e (LeftOf o j f) refl (omega arith) row.part.here.middle row.part.here.first (omega (arith, row.part.shallow))
        (expression_within l piece f row.part.here.middle row.part.here.last row.part.here.second)
        (record { part = record { of = e; same = refl; from = m.place; did = row.part; at = refl }; then = row.then })

    pub short_begins : (d : Bool) (e f : Expression) → Waiting ctx (Evaluate (Short d e f)) Rest Quiet m.place m.stack c a → Goes ctx s (Evaluate (Short d e f) ∷ k) m (c + 32)
    short_begins d e f row =
        operand_goes ctx s k m c a shared (Evaluate (Short d e f) ∷ k) e (ShortOf d f) refl (omega arith) row.part.here.middle row.part.here.first (omega (arith, row.part.shallow))
        (instr_within piece row.part.here.middle (short_code d row.part.end) row.part.here.start row.part.here.test)
        (record { part = record { of = e; same = refl; from = m.place; did = row.part; at = refl }; then = row.then })

    pub apply_goes : (f : Function) (e : Expression) → Waiting ctx (Evaluate (Apply f e)) Rest Quiet m.place m.stack c a → Goes ctx s (Evaluate (Apply f e) ∷ k) m (c + 32)
    apply_goes f e row =
        let first = expression_stands l piece e m.place row.part.here.middle row.part.here.first in
        let by = instrs_order piece (function_code f (kind_of e)) row.part.here.middle row.part.end row.part.here.by first.1 in
        operand_goes ctx s k m c a shared (Evaluate (Apply f e) ∷ k) e (ApplyTo f) refl (omega arith) row.part.here.middle row.part.here.first (omega (arith, row.part.shallow)) (omega (arith, by.0, row.part.within))
        (record { part = record { of = e; same = refl; from = m.place; did = row.part; at = refl }; then = row.then })

    pub get_goes : (place : Place) (d : Designator) (below : List ℕ) → Designates ctx d place m.stack below → Waiting ctx (Fill Get) Rest (AtPlace d) m.place below c a
        → Goes ctx s (Value (Places place) ∷ Fill Get ∷ k) m (c + 32)
    get_goes place d below has row =
        let r = row.part in
        let value : Scalar = got s.cells place in
        let living : shape_there h place ≡ Word r.kind = has.living ∙ r.did.here.scalar.shape in
        let here : HasPlace ctx (access_of l d) place (Word r.kind) m.stack below = record { seen = has.seen; living = living; there = refl; at = has.at } in
        let word = shared.mem.holds place.root place.path r.kind living in
        goes_one ctx s (Value (Places place) ∷ Fill Get ∷ k) m 31 c (running (going m r.did.end (word_for h value ∷ below)) s.world)
        (advances m s.world _ (
        at_step ctx m shared.program (load_code (access_of l d)) r.did.end (rw r.at r.did.here.load)
        ∙ loads ctx s m shared (access_of l d) place r.kind below here (omega (arith, r.did.shallow, place_some d)) r.did.end
        ∙ ap (λ (w : ℕ). let e : Event × State = (Went, going m r.did.end (w ∷ below)) in e) word.word
        ))
        (lands_on ctx s m shared (Value (Scalars value) ∷ k) r.did.end (word_for h value ∷ below) c a
        (once (record { part = record { kind = base_of r.kind; fits = word.fits; refers = refers_base h r.kind value word.refers; below = below; is = refl }; then = row.then })))

    pub left_goes : (o : TwoOp) (j : Kind) (f : Expression) (v : Scalar) (kind : Kind) → within kind v ≡ true → Refers h kind v → (below : List ℕ) → m.stack ≡ word_for h v ∷ below → Waiting ctx (Fill (LeftOf o j f)) Rest (ValueOf kind) m.place below c a
        → Goes ctx s (Value (Scalars v) ∷ Fill (LeftOf o j f) ∷ k) m (c + 32)
    left_goes o j f v kind fits refers below is row =
        let r = row.part in
        let here = r.did.here in
        let kinds : kind ≡ j = r.same ∙ here.left_typed in
        operand_goes ctx s k m c a shared (Value (Scalars v) ∷ Fill (LeftOf o j f) ∷ k) f (RightOf o j v) refl (omega arith) here.last (rw r.at here.second) (omega (arith, r.did.shallow, ap length is))
        (instrs_within piece (two_code o j) here.last r.did.end (two_length o j here.takes).0 here.by)
        (record {
          part = record {
            left = r.of;
            below = below;
            row = record { of = f; same = refl; from = r.from; did = r.did; at = refl };
            fits = ap (λ (i : Kind). within i v) (sym kinds) ∙ fits;
            refers = subst (λ (i : Kind). Refers h i v) kinds refers;
            is = is;
          };
          then = row.then;
        })

    -- the right operand has its kind
    right_is : (o : TwoOp) (j kind : Kind) (u : Scalar) (p : ℕ) (stack : List ℕ) → RightPart ctx kind o j u p stack → kind ≡ right_kind o j
    right_is o j kind u p stack r = r.row.same ∙ r.row.did.here.right_typed

    -- two words, and the code of the operator
    gives_goes : (o : TwoOp) (j : Kind) (u v : Scalar) (kind : Kind) → within kind v ≡ true → (below : List ℕ) → (row : Waiting ctx (Fill (RightOf o j u)) Rest (ValueOf kind) m.place below c a)
        → Gives own (two_code o j) m row.part.below (applied o j u v) → Goes ctx s (Value (Scalars v) ∷ Fill (RightOf o j u) ∷ k) m (c + 32)
    gives_goes o j u v kind fits below row gives =
        let good : within (right_kind o j) v ≡ true = ap (λ (i : Kind). within i v) (sym (right_is o j kind u _ _ row.part)) ∙ fits in
        goes_more ctx s (Value (Scalars v) ∷ Fill (RightOf o j u) ∷ k) m (c + length (two_code o j)) (c + 32)
        (instrs_go (Value (Scalars v) ∷ Fill (RightOf o j u) ∷ k) (closed ctx k _ _ _ _ _ row.then) (applied o j u v) refl (result_kind (is_relation o) j) (two_plain o j row.part.row.did.here.takes)
        (two_fits o j u v row.part.row.did.here.takes row.part.fits good) row.part.row.did.end row.part.below row.then (two_code o j) m.place m.stack (rw row.part.row.at row.part.row.did.here.by) gives)
        (omega (arith, (two_length o j row.part.row.did.here.takes).1))

    plain_right : (o : TwoOp) (j : Kind) (u v : Scalar) (kind : Kind) → is_plain j ≡ true → within kind v ≡ true → (below : List ℕ) → m.stack ≡ word_for h v ∷ below
        → Waiting ctx (Fill (RightOf o j u)) Rest (ValueOf kind) m.place below c a → Goes ctx s (Value (Scalars v) ∷ Fill (RightOf o j u) ∷ k) m (c + 32)
    plain_right o j u v kind plain fits below is row =
        let good : within (right_kind o j) v ≡ true = ap (λ (i : Kind). within i v) (sym (right_is o j kind u _ _ row.part)) ∙ fits in
        gives_goes o j u v kind fits below row
        (two_gives own m row.part.below u v
        (is ∙ ap (λ (x : List ℕ). word_for h v ∷ x) row.part.is ∙ ap (λ (w : ℕ). w ∷ word_for h u ∷ row.part.below) (plain_word h (right_kind o j) v (right_plain o j plain) good)
        ∙ ap (λ (w : ℕ). scalar_word v ∷ w ∷ row.part.below) (plain_word h j u plain row.part.fits))
        o j plain row.part.row.did.here.takes row.part.fits good)

    -- references to one object or workspace have one word, and those to different ones don't
    same_objects : (n : ℕ) (u v : Scalar) → within (OfPointer (Objects n)) u ≡ true → within (OfPointer (Objects n)) v ≡ true → Refers h (OfPointer (Objects n)) u → Refers h (OfPointer (Objects n)) v
        → (word_for h u == word_for h v) ≡ same_reference u v
    same_objects n (ToObject o) (ToObject p) fu fv ru rv = by (o == p) refl
      where
        by : (b : Bool) → (o == p) ≡ b → (h.base (Object o) == h.base (Object p)) ≡ b
        by true e = eq-eqb (h.base (Object o)) (h.base (Object p)) (ap (λ (i : ℕ). h.base (Object i)) (eqb-true o p e))
        by false e = ne_eqb (h.base (Object o)) (h.base (Object p)) (λ at. let clash = eq-eqb o p (shared.heap.apart o p ru.0 rv.0 at) in cc)
    same_objects n (ToObject o) Nil fu fv ru rv = ne_eqb (h.base (Object o)) 0 (λ at. omega (arith, at, shared.heap.above o ru.0))
    same_objects n Nil (ToObject p) fu fv ru rv = ne_eqb 0 (h.base (Object p)) (λ at. omega (arith, at, shared.heap.above p rv.0))
    same_objects n Nil Nil fu fv ru rv = refl
    same_objects n u v fu fv ru rv = cc

    same_spaces : (u v : Scalar) → within (OfPointer Workspaces) u ≡ true → within (OfPointer Workspaces) v ≡ true → Refers h (OfPointer Workspaces) u → Refers h (OfPointer Workspaces) v
        → (word_for h u == word_for h v) ≡ same_reference u v
    same_spaces (ToWorkspace o) (ToWorkspace p) fu fv ru rv = by (o == p) refl
      where
        by : (b : Bool) → (o == p) ≡ b → (get_or h.workspaces o 0 == get_or h.workspaces p 0) ≡ b
        by true e = eq-eqb (get_or h.workspaces o 0) (get_or h.workspaces p 0) (ap (λ (i : ℕ). get_or h.workspaces i 0) (eqb-true o p e))
        by false e = ne_eqb (get_or h.workspaces o 0) (get_or h.workspaces p 0) (λ at. let clash = eq-eqb o p (shared.heap.distinct o p ru rv at) in cc)
    same_spaces (ToWorkspace o) Nil fu fv ru rv = ne_eqb (get_or h.workspaces o 0) 0 (λ at. omega (arith, at, shared.heap.clear o ru))
    same_spaces Nil (ToWorkspace p) fu fv ru rv = ne_eqb 0 (get_or h.workspaces p 0) (λ at. omega (arith, at, shared.heap.clear p rv))
    same_spaces Nil Nil fu fv ru rv = refl
    same_spaces u v fu fv ru rv = cc

    same_words : (to : Pointee) (u v : Scalar) → within (OfPointer to) u ≡ true → within (OfPointer to) v ≡ true → Refers h (OfPointer to) u → Refers h (OfPointer to) v
        → (word_for h u == word_for h v) ≡ same_reference u v
    same_words (Objects n) = same_objects n
    same_words Workspaces = same_spaces

    -- an operator that isn't IN has a right operand of the same kind
    pointer_right : (o : TwoOp) (to : Pointee) → takes_two o (OfPointer to) ≡ true → right_kind o (OfPointer to) ≡ OfPointer to
    pointer_right Equal to e = refl
    pointer_right Unequal to e = refl
    pointer_right _ to e = cc

    pub right_goes : (o : TwoOp) (j : Kind) (u v : Scalar) (kind : Kind) → within kind v ≡ true → Refers h kind v → (below : List ℕ) → m.stack ≡ word_for h v ∷ below
        → Waiting ctx (Fill (RightOf o j u)) Rest (ValueOf kind) m.place below c a → Goes ctx s (Value (Scalars v) ∷ Fill (RightOf o j u) ∷ k) m (c + 32)
    right_goes o (OfPointer to) u v kind fits refers below is row =
        let r = row.part in
        let kinds : kind ≡ OfPointer to = right_is o (OfPointer to) kind u _ _ r ∙ pointer_right o to r.row.did.here.takes in
        gives_goes o (OfPointer to) u v kind fits below row
        (pointer_gives own m r.below (word_for h u) (word_for h v) (is ∙ ap (λ (x : List ℕ). word_for h v ∷ x) r.is) to u v
        (same_words to u v r.fits (ap (λ (i : Kind). within i v) (sym kinds) ∙ fits) r.refers (subst (λ (i : Kind). Refers h i v) kinds refers))
        o r.row.did.here.takes)
    right_goes o (OfProcedure n) u v kind fits refers below is row = absurd (procedures_none o n row.part.row.did.here.takes)
    right_goes o (OfRange part low high) u v kind fits refers below is row = absurd (ranged_none o part low high row.part.row.did.here.takes)
    right_goes o j u v kind fits refers below is row = plain_right o j u v kind refl fits below is row

    -- what is known of a standard function's value and of its code
    abbrev Applying : Function → Kind → List ℕ → Type 0
    Applying f kind below = Waiting ctx (Fill (ApplyTo f)) Rest (ValueOf kind) m.place below c a

    taken : (f : Function) (kind : Kind) (below : List ℕ) → Applying f kind below → takes_function f kind ≡ true
    taken f kind below row = ap (takes_function f) row.part.same ∙ row.part.did.here.takes

    coded : (f : Function) (kind : Kind) (below : List ℕ) (row : Applying f kind below) → InstrsAt piece (function_code f kind) m.place row.part.did.end
    coded f kind below row = rw (row.part.at, row.part.same) row.part.did.here.by

    -- a standard function that has no code
    kept_goes : (f : Function) (v : Scalar) (kind : Kind) → within kind v ≡ true → (below : List ℕ) → m.stack ≡ word_for h v ∷ below
        → (row : Applying f kind below) → function_code f kind ≡ [] → Goes ctx s (Value (Scalars v) ∷ Fill (ApplyTo f) ∷ k) m (c + 32)
    kept_goes f v kind fits below is row none =
        let items : List Item = Value (Scalars v) ∷ Fill (ApplyTo f) ∷ k in
        let kept = function_none f kind v (taken f kind below row) fits none in
        let u : Scalar = kept.0 in
        let becomes : next library (Now items) ≡ with_items (Now items) (Value (Scalars u) ∷ k) = ap (λ (r : Result Scalar TrapKind). answered library r k (Now items)) kept.1 in
        let end : m.place ≡ row.part.did.end = subst (λ (is : List Instr). InstrsAt piece is m.place row.part.did.end) none (coded f kind below row) in
        let plain = function_plain f kind (taken f kind below row) in
        let word : word_for h v ≡ word_for h u = plain_word h kind v plain.0 fits ∙ sym kept.2 ∙ sym (plain_word h (function_kind f) u plain.1 kept.3) in
        goes_none ctx s items m 32 c
        (subst (λ (x : Source). Lands ctx x.phase x (running m s.world) c) (sym becomes)
        (lands_on ctx s m shared (Value (Scalars u) ∷ k) m.place m.stack c a
        (once (record {
          part = record { kind = function_kind f; fits = kept.3; refers = plain_refers h (function_kind f) u plain.1; below = below; is = is ∙ ap (λ (w : ℕ). w ∷ below) word };
          then = subst (λ (q : ℕ). Rest (ValueOf (function_kind f)) q below c a) (sym end) row.then;
        }))))
        (subst (λ (x : Source). stutter x.items < stutter items) (sym becomes) (omega arith))

    pub apply_of_goes : (f : Function) (v : Scalar) (kind : Kind) → within kind v ≡ true → (below : List ℕ) → m.stack ≡ word_for h v ∷ below → Applying f kind below
        → Goes ctx s (Value (Scalars v) ∷ Fill (ApplyTo f) ∷ k) m (c + 32)
    apply_of_goes f v kind fits below is row = by (function_code f kind) refl
      where
        items : List Item
        items = Value (Scalars v) ∷ Fill (ApplyTo f) ∷ k

        by : (code : List Instr) → function_code f kind ≡ code → Goes ctx s items m (c + 32)
        by [] e = kept_goes f v kind fits below is row e
        by (i ∷ code) e =
            goes_more ctx s items m (c + length (function_code f kind)) (c + 32)
            (instrs_go items (closed ctx k _ _ _ _ _ row.then) (function_value f v) refl (function_kind f) (function_plain f kind (taken f kind below row)).1 (function_fits f kind v (taken f kind below row) fits)
            row.part.did.end below row.then (function_code f kind) m.place m.stack (coded f kind below row)
            (function_gives own m below v (is ∙ ap (λ (w : ℕ). w ∷ below) (plain_word h kind v (function_plain f kind (taken f kind below row)).0 fits)) f kind (taken f kind below row) fits (omega (arith, row.part.did.shallow))
            (λ none. let clash : [] ≡ i ∷ code = sym none ∙ e in cc)))
            (omega (arith, function_length f kind))

    -- the code of an operator on one value that has some
    coded_goes : (o : OneOp) (j : Kind) → o ≢ one.Plus → length (one_code o j) ≤ 32 → (v : Scalar) (kind : Kind) → within kind v ≡ true → (below : List ℕ) → m.stack ≡ word_for h v ∷ below
        → Waiting ctx (Fill (OneOf o j)) Rest (ValueOf kind) m.place below c a → Goes ctx s (Value (Scalars v) ∷ Fill (OneOf o j) ∷ k) m (c + 32)
    coded_goes o j some short v kind fits below is row =
        let kinds : kind ≡ j = row.part.same ∙ row.part.did.here.typed in
        let good : within j v ≡ true = ap (λ (i : Kind). within i v) (sym kinds) ∙ fits in
        let items : List Item = Value (Scalars v) ∷ Fill (OneOf o j) ∷ k in
        goes_more ctx s items m (c + length (one_code o j)) (c + 32)
        (instrs_go items (closed ctx k _ _ _ _ _ row.then) (one_applied o j v) refl j (one_plain o j row.part.did.here.takes) (one_fits o j v row.part.did.here.takes good)
        row.part.did.end below row.then (one_code o j) m.place m.stack (rw row.part.at row.part.did.here.by)
        (one_gives own m below v (is ∙ ap (λ (w : ℕ). w ∷ below) (plain_word h kind v (ap is_plain kinds ∙ one_plain o j row.part.did.here.takes) fits)) o j row.part.did.here.takes some good))
        (omega (arith, short))

    pub one_of_goes : (o : OneOp) (j : Kind) (v : Scalar) (kind : Kind) → within kind v ≡ true → (below : List ℕ) → m.stack ≡ word_for h v ∷ below → Waiting ctx (Fill (OneOf o j)) Rest (ValueOf kind) m.place below c a
        → Goes ctx s (Value (Scalars v) ∷ Fill (OneOf o j) ∷ k) m (c + 32)
    one_of_goes one.Plus j v kind fits below is row =
        let kinds : kind ≡ j = row.part.same ∙ row.part.did.here.typed in
        goes_none ctx s (Value (Scalars v) ∷ Fill (OneOf one.Plus j) ∷ k) m 32 c
        (lands_on ctx s m shared (Value (Scalars v) ∷ k) m.place m.stack c a
        (once (record {
          part = record {
            kind = j;
            fits = ap (λ (i : Kind). within i v) (sym kinds) ∙ fits;
            refers = plain_refers h j v (one_plain one.Plus j row.part.did.here.takes);
            below = below;
            is = is;
          };
          then = subst (λ (q : ℕ). Rest (ValueOf j) q below c a) (sym (row.part.at ∙ row.part.did.here.by)) row.then;
        })))
        (omega arith)
    one_of_goes one.Minus j v kind fits below is row = coded_goes one.Minus j (λ e. cc) (omega arith) v kind fits below is row
    one_of_goes one.Not j v kind fits below is row = coded_goes one.Not j (λ e. cc) (omega arith) v kind fits below is row

    -- A short circuit: where the left operand decides, it stays, and a jump leads over the right one; else the right one is to come.
    short_goes : (d : Bool) (f : Expression) (items : List Item) (v : Scalar) (decides : Bool) → next library (Now items) ≡ with_items (Now items) (cond decides (Value (Scalars v) ∷ k) (Evaluate f ∷ k))
        → within OfTruth v ≡ true → (kind : Kind) (below : List ℕ) → m.stack ≡ word_for h v ∷ below → (row : Waiting ctx (Fill (ShortOf d f)) Rest (ValueOf kind) m.place below c a)
        → mstep m ≡ cond decides (Went, going m row.part.did.end m.stack) (Went, going m row.part.did.here.start below) → Goes ctx s items m (c + 32)
    short_goes d f items v true becomes fits kind below is row step =
        goes_one ctx s items m 31 c (running (going m row.part.did.end m.stack) s.world)
        (advances m s.world _ step)
        (subst (λ (x : Source). Lands ctx x.phase x (running (going m row.part.did.end m.stack) s.world) c) (sym becomes)
        (lands_on ctx s m shared (Value (Scalars v) ∷ k) row.part.did.end m.stack c a
        (once (record { part = record { kind = OfTruth; fits = fits; refers = tt; below = below; is = is }; then = row.then }))))
    short_goes d f items v false becomes fits kind below is row step =
        goes_one ctx s items m 31 c (running (going m row.part.did.here.start below) s.world)
        (advances m s.world _ step)
        (subst (λ (x : Source). Lands ctx x.phase x (running (going m row.part.did.here.start below) s.world) c) (sym becomes)
        (lands_on ctx s m shared (Evaluate f ∷ k) row.part.did.here.start below c a
        (once (record {
          part = record {
            end = row.part.did.end;
            here = row.part.did.here.second;
            shallow = omega (arith, row.part.did.shallow);
            within = row.part.did.within;
          };
          then = subst (λ (j : Kind). Rest (ValueOf j) row.part.did.end below c a) (sym row.part.did.here.right_typed) row.then;
        }))))

    -- the test of a short circuit finds the word of the left operand
    tests : (d : Bool) (f : Expression) (v : Scalar) (kind : Kind) (below : List ℕ) → m.stack ≡ word_for h v ∷ below → (row : Waiting ctx (Fill (ShortOf d f)) Rest (ValueOf kind) m.place below c a)
        → (look : ℕ → List ℕ → Event × State) → act (short_code d row.part.did.end) row.part.did.here.start own m ≡ on_one m m.stack look → mstep m ≡ look (word_for h v) below
    tests d f v kind below is row look does =
        at_step ctx m shared.program (short_code d row.part.did.end) row.part.did.here.start (rw row.part.at row.part.did.here.test)
        ∙ does
        ∙ ap (λ (x : List ℕ). on_one m x look) is

    -- the jump stays within the code
    jumps : (q : ℕ) → q < length piece → (let r : Event × State = jump own q m m in r) ≡ (Went, going m q m.stack)
    jumps q inside = yes _ _ _ (lt-ltb q (length own.code) (inside_own ctx shared.program q inside))

    short_of_truth : (d : Bool) (f : Expression) (v : Scalar) → within OfTruth v ≡ true → (kind : Kind) (below : List ℕ) → m.stack ≡ word_for h v ∷ below → Waiting ctx (Fill (ShortOf d f)) Rest (ValueOf kind) m.place below c a
        → Goes ctx s (Value (Scalars v) ∷ Fill (ShortOf d f) ∷ k) m (c + 32)
    short_of_truth false f (Truth true) fits kind below is row =
        short_goes false f (Value (Scalars (Truth true)) ∷ Fill (ShortOf false f) ∷ k) (Truth true) false refl fits kind below is row
        (tests false f (Truth true) kind below is row (and_row own row.part.did.end row.part.did.here.start m) refl)
    short_of_truth false f (Truth false) fits kind below is row =
        short_goes false f (Value (Scalars (Truth false)) ∷ Fill (ShortOf false f) ∷ k) (Truth false) true refl fits kind below is row
        (tests false f (Truth false) kind below is row (and_row own row.part.did.end row.part.did.here.start m) refl ∙ jumps row.part.did.end row.part.did.within)
    short_of_truth true f (Truth true) fits kind below is row =
        short_goes true f (Value (Scalars (Truth true)) ∷ Fill (ShortOf true f) ∷ k) (Truth true) true refl fits kind below is row
        (tests true f (Truth true) kind below is row (or_row own row.part.did.end row.part.did.here.start m) refl ∙ jumps row.part.did.end row.part.did.within)
    short_of_truth true f (Truth false) fits kind below is row =
        short_goes true f (Value (Scalars (Truth false)) ∷ Fill (ShortOf true f) ∷ k) (Truth false) false refl fits kind below is row
        (tests true f (Truth false) kind below is row (or_row own row.part.did.end row.part.did.here.start m) refl)
    short_of_truth d f v fits kind below is row = cc

    pub short_of_goes : (d : Bool) (f : Expression) (v : Scalar) (kind : Kind) → within kind v ≡ true → (below : List ℕ) → m.stack ≡ word_for h v ∷ below → Waiting ctx (Fill (ShortOf d f)) Rest (ValueOf kind) m.place below c a
        → Goes ctx s (Value (Scalars v) ∷ Fill (ShortOf d f) ∷ k) m (c + 32)
    short_of_goes d f v kind fits below is row = short_of_truth d f v (ap (λ (i : Kind). within i v) (sym (row.part.same ∙ row.part.did.here.left_typed)) ∙ fits) kind below is row
