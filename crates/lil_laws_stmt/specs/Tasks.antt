-- The rows of assignments.
use Rattle.std.proofs.Common.{◌≡◌, ℕ, ◌+◌, ◌<◌, Bool, true, cond, List, [], ◌∷◌, length, take, drop, refl, sym, ap, ◌∙◌, subst, arith}
use Rattle.lil_base.specs.declared.fault.TrapKind.TheVariants as trap
use Rattle.lil_resolved.specs.{Kinds.{Kind, stores_value, Scalar, within, Shape, words, is_there}, Resolved.{Designator, Expression, Assign, Copy, kind_of, shape_of}}
use Rattle.lil_meaning.specs.{Items.{Place, stored, alone, under, Scalars, Places, SetTo, StoreAt, CopyTo, CopyFrom, Do, Item, Value, PlaceOf, Fill, Perform, Going, Source}, Steps.trapped}
use Rattle.lil_asm.specs.declared.instr.Instr.TheVariants.{Mov}
use Rattle.lil_mcode.specs.Table.{State, act, going}
use Rattle.lil_frames.specs.Words.{spliced}
use Rattle.lil_table.specs.Rows.{IsAt, InstrsAt, ValueRow, test_code, Access, access_of, readied, held, store_code}
use Rattle.lil_match.specs.{Goes.{Shared, Goes}, Running.running, Homes.{word_for, Refers, address, Mem, mem_copied}, Waits.{Setting, frame_of, laid_out, Quiet, ValueOf, AtPlace, Around, Reach, Rows, Reaches, Designates, placed, Waiting}, Orders.{instr_within, instrs_order, expression_stands}}
use Rattle.lil_match.specs.Steps.{closed, advances, at_step, at_once, rows_ahead, shared_with, lands_on, goes_none_within, goes_one, operand_exact, located_goes}
use Rattle.lil_laws_place.specs.Codes.{addressed, copied, made_ready, readied_twice, held_words, stored_tested, stored_goes}

module _ (ctx : Setting) where
  open ctx use {library, table, home as h}
  open frame_of ctx use {own, piece, number}
  open laid_out ctx use {layout as l}

  -- a test begins within the code where what follows it does
  pub value_within : (n : ℕ) (e : Expression) (kind : Kind) (p q : ℕ) (r : ValueRow l piece n e kind p q) → q < length piece → r.middle < length piece
  value_within n e kind p q r inside =
      let value = expression_stands l piece e p r.middle r.value.value in
      let test = instrs_order piece (test_code kind (kind_of e)) r.middle q r.test value.1 in
      omega (arith, test.0, inside)

  module _ (s : Source) (k : List Item) (m : State) (c : ℕ) (a : Around) (shared : Shared ctx s m) where
    abbrev Rest : Reach
    Rest = Rows ctx k

    pub assign_goes : (d : Designator) (kind : Kind) (e : Expression) → Waiting ctx (Perform (Do (Assign d kind e))) Rest Quiet m.place m.stack c a
        → Goes ctx s (Perform (Do (Assign d kind e)) ∷ k) m (c + 32)
    assign_goes d kind e row =
        let r = row.part.here in
        located_goes ctx s k m c a shared (Perform (Do (Assign d kind e)) ∷ k) d (SetTo kind e) refl (omega arith) r.target.found r.target.here (omega (arith, r.target.shallow, ap length row.part.empty))
        (record { part = placed ctx.stack.frame (Assign d kind e) a (λ p q r. r.target.found) m.place m.stack row.part; then = row.then })

    -- the place is there: it is made ready, and then comes the value
    pub set_goes : (to : Kind) (e : Expression) (place : Place) (d : Designator) (below : List ℕ) → Designates ctx d place m.stack below
        → Waiting ctx (Fill (SetTo to e)) Rest (AtPlace d) m.place below c a → Goes ctx s (Value (Places place) ∷ Fill (SetTo to e) ∷ k) m (c + 32)
    set_goes to e place d below has row =
        let b : Access = access_of l d in
        let amid = row.part.amid in
        let r = amid.here in
        let value = r.value in
        let items : List Item = Value (Places place) ∷ Fill (SetTo to e) ∷ k in
        made_ready ctx s items m shared b place (shape_of l.scope d) m.stack below has m.place r.start (c + 32) c (rw amid.at r.target.ready)
        (λ under there.
        operand_exact ctx s k (going m r.start under) c a shared items e (StoreAt place to) refl (omega arith) value.middle value.value.value
        (omega (arith, value.value.shallow, held_words ctx (readied b) place (shape_of l.scope d) under below there, ap length row.part.empty))
        (value_within (held (readied b)) e to r.start r.middle value (instr_within piece r.middle (store_code (readied b)) amid.end r.store))
        (record {
          part = record {
            of = d;
            value = e;
            same = refl;
            amid = record { from = amid.from; end = amid.end; here = r; within = amid.within; at = refl };
            has = record {
              seen = there.seen;
              living = there.living ∙ r.target.scalar.shape;
              there = refl;
              at = subst (λ (x : List ℕ). Reaches own.base ctx.stack.frame.display (readied b) (address h place) under x) row.part.empty there.at;
            };
          };
          then = row.then;
        }))
        (omega arith)

    pub copy_goes : (d from : Designator) → Waiting ctx (Perform (Do (Copy d from))) Rest Quiet m.place m.stack c a → Goes ctx s (Perform (Do (Copy d from)) ∷ k) m (c + 32)
    copy_goes d from row =
        let r = row.part.here in
        located_goes ctx s k m c a shared (Perform (Do (Copy d from)) ∷ k) d (CopyTo from) refl (omega arith) r.found r.here (omega (arith, r.shallow, ap length row.part.empty))
        (record { part = placed ctx.stack.frame (Copy d from) a (λ p q r. r.found) m.place m.stack row.part; then = row.then })

    -- the place is there: its address, and then the place of what is copied
    pub copy_to_goes : (from : Designator) (place : Place) (d : Designator) (below : List ℕ) → Designates ctx d place m.stack below
        → Waiting ctx (Fill (CopyTo from)) Rest (AtPlace d) m.place below c a → Goes ctx s (Value (Places place) ∷ Fill (CopyTo from) ∷ k) m (c + 32)
    copy_to_goes from place d below has row =
        let amid = row.part.amid in
        let r = amid.here in
        let items : List Item = Value (Places place) ∷ Fill (CopyTo from) ∷ k in
        let stack : List ℕ = address h place ∷ below in
        addressed ctx s items m shared (access_of l d) place (shape_of l.scope d) m.stack below has (omega (arith, ap length row.part.empty)) m.place r.start (c + 32) c (rw amid.at r.address)
        (goes_none_within ctx s items (going m r.start stack) c c
        (lands_on ctx s m shared (PlaceOf from ∷ Fill (CopyFrom place) ∷ k) r.start stack c a
        (at_once ctx _ Quiet r.start stack c a
        (record {
          part = record { end = r.middle; here = r.source; shallow = omega (arith, r.source_shallow, ap length row.part.empty) };
          then = at_once ctx _ (AtPlace from) r.middle stack c a
              (record {
                part = record {
                  of = d;
                  amid = record { from = amid.from; end = amid.end; here = r; within = amid.within; at = refl };
                  has = record { seen = has.seen; living = has.living ∙ sym r.same; there = ap is_there r.same ∙ has.there; at = ap (λ (x : List ℕ). address h place ∷ x) row.part.empty };
                };
                then = row.then;
              });
        })))
        (omega arith)
        (omega arith))
        (omega arith)

    -- both are there
    pub copy_from_goes : (to place : Place) (d : Designator) (below : List ℕ) → Designates ctx d place m.stack below
        → Waiting ctx (Fill (CopyFrom to)) Rest (AtPlace d) m.place below c a → Goes ctx s (Value (Places place) ∷ Fill (CopyFrom to) ∷ k) m (c + 32)
    copy_from_goes to place d below has row =
        let t : Shape = shape_of l.scope d in
        let r = row.part in
        let copy = r.amid.here in
        let items : List Item = Value (Places place) ∷ Fill (CopyFrom to) ∷ k in
        let here : State = going m copy.last (address h place ∷ below) in
        let store : List ℕ = spliced m.store (address h to) (take (words t) (drop (address h place) m.store)) in
        let machine : State = record m { place = r.amid.end; stack = []; store = store } in
        let mem : Mem h (stored s.cells to (under s.cells place)) store =
        subst (λ (n : ℕ). Mem h (stored s.cells to (under s.cells place)) (spliced m.store (address h to) (take n (drop (address h place) m.store)))) (ap words r.has.living)
        (mem_copied h s.cells m.store to place shared.mem (ap is_there r.has.living ∙ r.has.there) (has.living ∙ sym r.has.living)) in
        addressed ctx s items m shared (access_of l d) place t m.stack below has (omega (arith, ap length r.has.at)) m.place copy.last (c + 32) (c + 1) (rw r.amid.at copy.source_address)
        (goes_one ctx s items here 0 c (running machine s.world)
        (advances here s.world _ (
        at_step ctx here shared.program (Mov (words t)) r.amid.end (subst (λ (z : Shape). IsAt piece copy.last (Mov (words z)) r.amid.end) (sym copy.same) copy.by)
        ∙ ap (λ (x : List ℕ). act (Mov (words t)) r.amid.end own (going m copy.last (address h place ∷ x))) r.has.at
        ∙ copied ctx s m shared to place t r.has.living has.living has.there copy.last r.amid.end
        ))
        (record {
          machine = machine;
          is = refl;
          met = record { shared = shared_with ctx s m shared mem; around = a; ahead = rows_ahead ctx k r.amid.end [] c a row.then };
        }))
        (omega arith)

    -- the row of a store, and the test before it
    abbrev Storing : Place → Kind → Kind → List ℕ → Type 0
    Storing place to kind below = Waiting ctx (Fill (StoreAt place to)) Rest (ValueOf kind) m.place below c a

    stored_test : (place : Place) (to kind : Kind) (below : List ℕ) (row : Storing place to kind below) → InstrsAt piece (test_code to kind) m.place row.part.amid.here.middle
    stored_test place to kind below row = rw (row.part.amid.at, row.part.same) row.part.amid.here.value.test

    pub store_goes : (place : Place) (to : Kind) (v : Scalar) (kind : Kind) → within kind v ≡ true → Refers h kind v → (below : List ℕ) → m.stack ≡ word_for h v ∷ below
        → Storing place to kind below → Goes ctx s (Value (Scalars v) ∷ Fill (StoreAt place to) ∷ k) m (c + 32)
    store_goes place to v kind fit refers below is row =
        let items : List Item = Value (Scalars v) ∷ Fill (StoreAt place to) ∷ k in
        let now : Source = record s { items = items; phase = Going } in
        let after : Source = record s { items = k; cells = stored s.cells place (alone v); phase = Going } in
        let becomes : Bool → Source = λ b. cond b after (trapped library now trap.Range) in
        stored_tested ctx s items m shared m.place m.stack to kind v (ap (stores_value to) row.part.same ∙ row.part.amid.here.value.stores) fit refers below is
        row.part.amid.here.middle (c + 32) (c + 1) (stored_test place to kind below row) (closed ctx k _ _ _ _ _ row.then)
        (λ out. ap becomes out)
        (λ one led.
        stored_goes ctx s items m shared row.part.amid.here.middle m.stack (readied (access_of l row.part.of)) place to below row.part.has (readied_twice ctx (access_of l row.part.of)) v one led is
        row.part.amid.end row.part.amid.here.store k (ap becomes one) c (c + 1) a row.then (omega arith))
        (omega arith)
