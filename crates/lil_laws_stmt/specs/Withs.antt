-- The rows of WITH: the place of its record is fixed, its statements are done, and it ends.
use Rattle.std.proofs.Common.{◌≡◌, ◌≤◌, inl, ℕ, suc, ◌+◌, ◌<◌, List, [], ◌∷◌, ◌++◌, length, set, eqb, refl, sym, ap, ◌∙◌, subst, arith, eq-eqb}
use Rattle.std.proofs.lemmas.Bool.{lt-ltb}
use Rattle.lil_resolved.specs.{Resolved.{Designator, Inside, Statements, shape_of}, Kinds.Shape}
use Rattle.lil_meaning.specs.Items.{Place, Places, Hold, Do, Holding, Item, Value, Fill, Perform, Source, doing}
use Rattle.lil_asm.specs.declared.instr.Instr.TheVariants.{Slw}
use Rattle.lil_mcode.specs.{declared.machine.Event.{Event, TheVariants.Went}, Table.{State, going}}
use Rattle.lil_table.specs.Rows.{holding, access_of, IsAt, BodyAt, framed, loop_place}
use Rattle.lil_match.specs.{Goes.{Shared, Goes}, Running.running, Parts.yes, Homes.{Home, address, shadowed}, Variables.framed_here, Waits.{own_words, Setting, frame_of, laid_out, at_home, inside_with, Quiet, AtPlace, Around, Reach, RowsOf, Rows, Designates, placed, HoldingWaits, Waiting}, Kept.{sees_laid, loops_behind, own_low, shared_shadowed, touches_shadowed, rows_shadowed}}
use Rattle.lil_match.specs.{Laid.{shared_laid, IsAround, around_self, around_more, shared_around, goes_around}, Steps.{advances, at_step, at_once, rows_ahead, lands_on, goes_none, goes_one_in, located_goes}}
use Rattle.lil_laws_place.specs.Codes.{addressed}
use Rattle.lil_laws_stmt.specs.Control.{body_rows}

module _ (ctx : Setting) where
  open ctx use {home as h}
  open frame_of ctx use {own, piece}
  open laid_out ctx use {layout as l}

  module _ (s : Source) (k : List Item) (m : State) (c : ℕ) (a : Around) (shared : Shared ctx s m) where
    abbrev Rest : Reach
    Rest = Rows ctx k

    pub inside_goes : (d : Designator) (body : Statements) → Waiting ctx (Perform (Do (Inside d body))) Rest Quiet m.place m.stack c a → Goes ctx s (Perform (Do (Inside d body)) ∷ k) m (c + 32)
    inside_goes d body row =
        let r = row.part.here in
        located_goes ctx s k m c a shared (Perform (Do (Inside d body)) ∷ k) d (Hold body) refl (omega arith) r.found r.here (omega (arith, r.shallow, ap length row.part.empty))
        (record { part = placed ctx.stack.frame (Inside d body) a (λ p q r. r.found) m.place m.stack row.part; then = row.then })

    -- the place is there: its address goes to the frame, and then come the statements
    pub hold_goes : (body : Statements) (place : Place) (d : Designator) (below : List ℕ) → Designates ctx d place m.stack below
        → Waiting ctx (Fill (Hold body)) Rest (AtPlace d) m.place below c a → Goes ctx s (Value (Places place) ∷ Fill (Hold body) ∷ k) m (c + 32)
    hold_goes body place d below has row =
        let t : Shape = shape_of l.scope d in
        let amid = row.part.amid in
        let r = amid.here in
        let n : ℕ = loop_place a.taken in
        let exact : framed (loop_place a.taken) ≡ loop_place a.taken = framed_here ctx s m shared (loop_place a.taken) (omega (arith, r.room)) in
        let behind : 4 + own_words ctx.stack.frame ≤ loop_place a.taken = omega (arith, loops_behind k ctx Quiet amid.end [] c a row.then) in
        let w : ℕ = address h place in
        let less : loop_place a.taken < l.frame = omega (arith, r.room) in
        let items : List Item = Value (Places place) ∷ Fill (Hold body) ∷ k in
        let x : Home = shadowed h (ctx.stack.frame.at + n) w in
        let outer : Setting = at_home ctx x in
        let inner : Setting = inside_with outer t n in
        let around : Around = record { exit = a.exit; taken = suc a.taken } in
        let after : List Item = Perform (Holding place) ∷ k in
        let here : State = going m r.start (w ∷ below) in
        let machine : State = record m { place = r.kept; stack = []; store = set m.store (ctx.stack.frame.at + n) w } in
        let stays : Rows outer k Quiet amid.end [] c a = rows_shadowed ctx s m shared n w behind less k Quiet amid.end [] c a (omega arith) row.then in
        addressed ctx s items m shared (access_of l d) place t m.stack below has (omega (arith, ap length row.part.empty)) m.place r.start (c + 32) (c + 1) (rw amid.at r.address)
        (goes_one_in ctx s items here x inner.stack (c + 1) c (running machine s.world)
        (advances here s.world _ (
        at_step ctx here shared.program (Slw n) r.kept (subst (λ (i : ℕ). IsAt piece r.start (Slw i) r.kept) exact r.keep)
        ∙ yes _ _ _ (lt-ltb (m.frame + n) 65536 (own_low ctx s m shared n w behind less))
        ∙ ap (λ (f : ℕ). let e : Event × State = (Went, record m { place = r.kept; stack = below; store = set m.store (f + n) w }) in e) shared.standing.frame_is
        ∙ ap (λ (z : List ℕ). let e : Event × State = (Went, record m { place = r.kept; stack = z; store = set m.store (ctx.stack.frame.at + n) w }) in e) row.part.empty
        ))
        (record {
          machine = machine;
          is = refl;
          met = record {
            shared = shared_laid outer (holding ctx.stack.frame.layout t n) refl s machine (shared_shadowed ctx s m shared n w behind less);
            around = around;
            ahead = rows_ahead inner (doing body after) r.kept [] c around
                (body_rows inner body after r.kept amid.end c around (subst (λ (i : ℕ). BodyAt (holding l t i) piece (suc a.taken) a.exit body r.kept amid.end) exact r.within) amid.within
                (at_once inner _ Quiet amid.end [] c around
                (record {
                  quiet = refl;
                  empty = refl;
                  outer = a;
                  around = refl;
                  before = outer;
                  shape = t;
                  is = refl;
                  room = r.room;
                  seen = sees_laid ctx.stack.frame (holding ctx.stack.frame.layout t n) (ctx.stack.callers ++ ctx.stack.bodies) place.root ∙ has.seen;
                  living = has.living;
                  there = r.there;
                  word = yes (eqb (ctx.stack.frame.at + n) (ctx.stack.frame.at + n)) w (h.shadow (ctx.stack.frame.at + n)) (eq-eqb (ctx.stack.frame.at + n) (ctx.stack.frame.at + n) refl);
                  then = stays;
                })));
          };
        })
        (touches_shadowed ctx s m shared n w behind less)
        (record { base = refl; limit = omega arith; frames = λ i seen. inl seen })
        (omega arith))
        (omega arith)

    -- the statements are done: what is around the WITH goes on
    pub holding_goes : (place : Place) → HoldingWaits ctx place (RowsOf k) Quiet m.place m.stack c a → Goes ctx s (Perform (Holding place) ∷ k) m (c + 32)
    holding_goes place row =
        let before : Setting = row.before in
        let around : IsAround before ctx = around_more before before ctx row.shape (loop_place row.outer.taken) row.is (around_self before) in
        goes_around before ctx around s (Perform (Holding place) ∷ k) m (c + 32)
        (goes_none before s (Perform (Holding place) ∷ k) m 32 c
        (lands_on before s m (shared_around before ctx around s m shared) k m.place m.stack c row.outer
        (rows_ahead before k m.place m.stack c row.outer (subst (λ (x : List ℕ). Rows before k Quiet m.place x c row.outer) (sym row.empty) row.then)))
        (omega arith))
