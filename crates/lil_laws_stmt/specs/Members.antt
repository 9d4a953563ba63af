-- The rows of INCL and EXCL.
use Rattle.std.proofs.Common.{◌≡◌, ℕ, ◌+◌, Bool, true, false, cond, List, [], ◌∷◌, length, get_or, set, refl, sym, ap, ◌∙◌, subst, arith}
use Rattle.std.proofs.lemmas.Bool.{lt-ltb, le-ltb}
use Rattle.lil_base.specs.declared.fault.TrapKind.TheVariants as trap
use Rattle.lil_resolved.specs.{Kinds.{Kind, OfSet, takes_value, Scalar, within, scalar_word, Word}, Resolved.{Designator, Expression, Member, shape_of}}
use Rattle.lil_meaning.specs.{Items.{Place, got, stored, alone, Scalars, Places, MemberBy, MemberAt, Do, Item, Value, Fill, Perform, Going, Source}, Steps.{trapped, with_member}}
use Rattle.lil_mcode.specs.{declared.machine.Event.{Event, TheVariants.Went}, Table.{Module, State, act, going, on_two, member_row}}
use Rattle.lil_table.specs.Rows.{OnTop, access_of, member_code}
use Rattle.lil_match.specs.{Goes.{Shared, Goes, Lands}, Running.running, Parts.{yes, no}, Homes.{word_for, plain_word, takes_plain, address, IsWord, Mem, mem_stored}, Waits.{Setting, frame_of, laid_out, Quiet, ValueOf, AtPlace, Around, Reach, Rows, Designates, placed, Waiting}, Orders.{instrs_order, instr_within, expression_stands}}
use Rattle.lil_match.specs.Steps.{closed, advances, at_step, rows_ahead, shared_with, goes_one, operand_exact, located_goes}
use Rattle.lil_laws_place.specs.{Codes.{inside, addressed, tested}, Sets.{IsMember, member_is, member_change, member_word}}

member_act : (out : Bool) (q : ℕ) (own : Module) (m : State) → act (member_code out) q own m ≡ on_two m m.stack (member_row (member_change out) q m)
member_act false q own m = refl
member_act true q own m = refl

module _ (ctx : Setting) where
  open ctx use {library, home as h}
  open frame_of ctx use {own, piece}
  open laid_out ctx use {layout as l}

  module _ (s : Source) (k : List Item) (m : State) (c : ℕ) (a : Around) (shared : Shared ctx s m) where
    abbrev Rest : Reach
    Rest = Rows ctx k

    pub member_goes : (out : Bool) (d : Designator) (kind : Kind) (e : Expression)
        → Waiting ctx (Perform (Do (Member out d kind e))) Rest Quiet m.place m.stack c a → Goes ctx s (Perform (Do (Member out d kind e)) ∷ k) m (c + 32)
    member_goes out d kind e row =
        let r = row.part.here in
        located_goes ctx s k m c a shared (Perform (Do (Member out d kind e)) ∷ k) d (MemberBy out kind e) refl (omega arith) r.found r.here (omega (arith, r.shallow, ap length row.part.empty))
        (record { part = placed ctx.stack.frame (Member out d kind e) a (λ p q r. r.found) m.place m.stack row.part; then = row.then })

    -- the place is there: its address, and then the number
    pub member_by_goes : (out : Bool) (kind : Kind) (e : Expression) (place : Place) (d : Designator) (below : List ℕ) → Designates ctx d place m.stack below
        → Waiting ctx (Fill (MemberBy out kind e)) Rest (AtPlace d) m.place below c a → Goes ctx s (Value (Places place) ∷ Fill (MemberBy out kind e) ∷ k) m (c + 32)
    member_by_goes out kind e place d below has row =
        let amid = row.part.amid in
        let r = amid.here in
        let items : List Item = Value (Places place) ∷ Fill (MemberBy out kind e) ∷ k in
        let at : State = going m r.start (address h place ∷ below) in
        let value = expression_stands l piece e r.start r.value.middle r.value.value.value in
        let test = instrs_order piece _ r.value.middle r.middle r.value.test value.1 in
        addressed ctx s items m shared (access_of l d) place (shape_of l.scope d) m.stack below has (omega (arith, ap length row.part.empty)) m.place r.start (c + 32) c (rw amid.at r.address)
        (operand_exact ctx s k at c a shared items e (MemberAt out place kind) refl (omega arith) r.value.middle r.value.value.value (omega (arith, r.value.value.shallow, ap length row.part.empty))
        (omega (arith, test.0, instr_within piece r.middle _ amid.end r.by))
        (record {
          part = record {
            of = d;
            value = e;
            same = refl;
            amid = record { from = amid.from; end = amid.end; here = r; within = amid.within; at = refl };
            has = record { seen = has.seen; living = has.living ∙ r.set; there = refl; at = ap (λ (x : List ℕ). address h place ∷ x) row.part.empty };
          };
          then = row.then;
        }))
        (omega arith)

    -- the number is there: its test, and the new set is stored
    module _ (out : Bool) (place : Place) (kind : Kind) (v : Scalar) (j : Kind) (fit : within j v ≡ true) (below : List ℕ) (is : m.stack ≡ word_for h v ∷ below)
        (row : Waiting ctx (Fill (MemberAt out place kind)) Rest (ValueOf j) m.place below c a) where
      abbrev items : List Item
      items = Value (Scalars v) ∷ Fill (MemberAt out place kind) ∷ k

      abbrev now : Source
      now = record s { items = items; phase = Going }

      abbrev old : Scalar
      old = got s.cells place

      abbrev new : Scalar
      new = with_member out old v

      abbrev becomes : Bool → Source
      becomes b = cond b (record s { items = k; cells = stored s.cells place (alone new); phase = Going }) (trapped library now trap.Range)

      takes : takes_value kind j ≡ true
      takes = ap (takes_value kind) row.part.same ∙ row.part.amid.here.takes

      word : m.stack ≡ scalar_word v ∷ below
      word = is ∙ ap (λ (w : ℕ). w ∷ below) (plain_word h j v (takes_plain kind j takes).1 fit)

      new_set : within OfSet new ≡ true
      new_set = by out
        where
          by : (b : Bool) → within OfSet (with_member b old v) ≡ true
          by false = refl
          by true = refl

      kept_word : IsWord h OfSet old (get_or m.store (address h place) 0)
      kept_word = shared.mem.holds place.root place.path OfSet row.part.has.living

      new_word : IsMember v → member_change out (get_or m.store (address h place) 0) (scalar_word v) ≡ word_for h new
      new_word one =
          ap (λ (w : ℕ). member_change out w (scalar_word v)) (kept_word.word ∙ plain_word h OfSet old refl kept_word.fits)
          ∙ member_word out old v kept_word.fits one
          ∙ sym (plain_word h OfSet new refl new_set)

      chosen : within kind v ≡ true → Goes ctx s items (going m row.part.amid.here.middle m.stack) (c + 1)
      chosen one =
          let r = row.part in
          let end : ℕ = r.amid.end in
          let is_member : IsMember v = member_is kind v r.amid.here.element one in
          let here : State = going m r.amid.here.middle m.stack in
          let store : List ℕ = set m.store (address h place) (word_for h new) in
          let machine : State = record m { place = end; stack = []; store = store } in
          let mem : Mem h (stored s.cells place (alone new)) store = mem_stored h s.cells m.store place OfSet new shared.mem r.has.living new_set tt in
          let low = inside ctx s m shared OnTop place (Word OfSet) below [] r.has in
          goes_one ctx s items here 0 c (running machine s.world)
          (advances here s.world _ (
          at_step ctx here shared.program (member_code out) end r.amid.here.by
          ∙ member_act out end own here
          ∙ ap (λ (x : List ℕ). on_two here x (member_row (member_change out) end here)) (word ∙ ap (λ (x : List ℕ). scalar_word v ∷ x) r.has.at)
          ∙ no _ _ _ (le-ltb 15 (scalar_word v) is_member.less)
          ∙ yes _ _ _ (lt-ltb (address h place) 65536 (omega (arith, low)))
          ∙ ap (λ (w : ℕ). let e : Event × State = (Went, record m { place = end; stack = []; store = set m.store (address h place) w }) in e) (new_word is_member)
          ))
          (subst (λ (y : Source). Lands ctx y.phase y (running machine s.world) c) (sym (ap becomes one))
          (record { machine = machine; is = refl; met = record { shared = shared_with ctx s m shared mem; around = a; ahead = rows_ahead ctx k end [] c a row.then } }))

      pub member_at_goes : Goes ctx s (Value (Scalars v) ∷ Fill (MemberAt out place kind) ∷ k) m (c + 32)
      member_at_goes =
          tested ctx s items m shared m.place m.stack kind j v takes fit below word
          row.part.amid.here.middle (c + 32) (c + 1) (rw (row.part.amid.at, row.part.same) row.part.amid.here.value.test) (closed ctx k _ _ _ _ _ row.then)
          (λ out. ap becomes out)
          chosen
          (omega arith)
