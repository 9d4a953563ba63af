-- Open arrays: their elements, HIGH, and the two words that they have.
use Rattle.std.proofs.Common.{◌≡◌, ℕ, suc, ◌+◌, ◌*◌, ◌<◌, ◌≤◌, Bool, true, false, cond, ltb, Option, List, [], ◌∷◌, length, refl, sym, ap, ◌∙◌, subst, ⊎_elim, arith}
use Rattle.std.specs.Prelude.{ℤ, pos, negsuc}
use Rattle.std.proofs.lemmas.{Bool.{lt-ltb, le-ltb, cases_lt}, Int.ints}
use Rattle.lil_base.specs.Words.{Cardinal, between, word_of}
use Rattle.lil_base.specs.declared.fault.TrapKind.TheVariants as trap
use Rattle.lil_resolved.specs.Kinds.{Kind, OfWhole, takes_value, nat_of, Scalar, Number, within, scalar_word, ordinal_of, Shape, Absent, Row, words, is_there, part_at, offset, along, shape_by}
use Rattle.lil_resolved.specs.{Resolved.{Along, Expression, High, shape_of}}
use Rattle.lil_meaning.specs.{Items.{Place, part_of, Scalars, Places, AlongAt, Item, Value, PlaceOf, Fill, Evaluate, Going, Source}, Steps.{indexed, measured, trapped, with_items}}
use Rattle.lil_asm.specs.declared.instr.Instr.TheVariants.{Ixo}
use Rattle.lil_mcode.specs.{declared.machine.Event.{TheVariants.{Went}}, Table.{State, going, on_three, open_row}}
use Rattle.lil_table.specs.Rows.{OnTop, InstrsAt, frame_code}
use Rattle.lil_match.specs.{Goes.{Shared, Goes, Lands}, Running.running, Parts.{yes, no}, Homes.{word_for, plain_word, takes_plain, address, shape_there, part_there}, Waits.{Setting, frame_of, laid_out, Quiet, ValueOf, Around, Reach, Rows, HasPlace, Waiting}, Orders.{instr_within, instrs_order, expression_stands}}
use Rattle.lil_match.specs.{Ranges.{has, takes_base}, Arithmetic.word_is, Variables.{OpenedHere, opened_here}, Steps.{closed, advances, at_step, at_once, lands_on, goes_one, operand_exact}}
use Rattle.lil_laws_place.specs.Codes.{inside, frame_word, leads, trap_goes, number_tested}

-- ---- a number as an index from 0 to another one
beyond : (z : ℤ) (high : ℕ) → high ≤ 65535 → has (OfWhole Cardinal) z ≡ false → between (pos 0) z (pos high) ≡ false
beyond z high low out = grind (arith, ints)

within_high : (w high : ℕ) → w ≤ high → between (pos 0) (pos w) (pos high) ≡ true
within_high w high less = grind (arith, ints)

above_high : (w high : ℕ) → high < w → between (pos 0) (pos w) (pos high) ≡ false
above_high w high more = grind (arith, ints)

-- one that a CARDINAL has is its word
pub record IsNumber (z : ℤ) (w : ℕ) : Type 0 where
  pub is : z ≡ pos w
  pub same : nat_of z ≡ w

number_is : (z : ℤ) (w : ℕ) → has (OfWhole Cardinal) z ≡ true → w ≡ word_of z → IsNumber z w
number_is (pos n) w h e = record { is = ap pos (sym e); same = sym e }
number_is (negsuc n) w h e = cc

module _ (ctx : Setting) where
  open ctx use {library, home as h}
  open frame_of ctx use {own, piece}
  open laid_out ctx use {layout as l}

  module _ (s : Source) (k : List Item) (m : State) (c : ℕ) (a : Around) (shared : Shared ctx s m) where
    abbrev Rest : Reach
    Rest = Rows ctx k

    -- both words of an open array are loaded
    pub words_loaded : (items : List Item) (n x o : ℕ) (t : Shape) (y : OpenedHere ctx (record s { items = items; phase = Going }) n x o t) (p q : ℕ) (stack : List ℕ) (budget rest : ℕ) → length stack + 2 ≤ 16 → InstrsAt piece (frame_code n o ∷ frame_code n (o + 1) ∷ []) p q
        → Goes ctx s items (going m q (y.high ∷ address h y.place ∷ stack)) rest → rest + 2 ≤ budget → Goes ctx s items (going m p stack) budget
    words_loaded items n x o t y p q stack budget rest room at goes less =
        leads ctx s items m shared (frame_code n o) p at.0 stack (address h y.place ∷ stack) budget (rest + 1) at.1
        (frame_word ctx s m shared n o y.first (address h y.place) y.shown y.own y.word (omega (arith, y.low)) p at.0 stack (omega (arith, room)))
        (leads ctx s items m shared (frame_code n (o + 1)) at.0 at.2.0 (address h y.place ∷ stack) (y.high ∷ address h y.place ∷ stack) (rest + 1) rest at.2.1
        (frame_word ctx s m shared n (o + 1) y.first y.high y.shown y.own_high y.word_high y.low at.0 at.2.0 (address h y.place ∷ stack) (omega (arith, room)))
        (subst (λ (i : ℕ). Goes ctx s items (going m i (y.high ∷ address h y.place ∷ stack)) rest) (sym at.2.2) goes)
        (omega arith))
        (omega (arith, less))

    -- an element: the address of the array and the number of its last element, and then the index
    pub along_goes : (n x : ℕ) (e : Expression) → Waiting ctx (PlaceOf (Along n x e)) Rest Quiet m.place m.stack c a → Goes ctx s (PlaceOf (Along n x e) ∷ k) m (c + 32)
    along_goes n x e row =
        let r = row.part.here in
        let o = r.opened in
        let items : List Item = PlaceOf (Along n x e) ∷ k in
        let now : Source = record s { items = items; phase = Going } in
        let y = opened_here ctx now m shared (closed ctx k _ _ _ _ _ row.then) n x o.offset o.copied o.element o.at o.typed o.there in
        let stack : List ℕ = y.high ∷ address h y.place ∷ m.stack in
        let value = expression_stands l piece e r.start r.middle r.value in
        let test = instrs_order piece _ r.middle r.tested r.test value.1 in
        words_loaded items n x o.offset o.element y m.place r.start m.stack (c + 32) c (omega (arith, row.part.shallow)) r.load
        (operand_exact ctx s k (going m r.start stack) c a shared items e (AlongAt y.place y.high) (ap (λ (z : Option (Place × ℕ)). indexed z e k now) y.found) (omega arith) r.middle r.value (omega (arith, row.part.shallow))
        (omega (arith, test.0, instr_within piece r.tested _ row.part.end r.by))
        (record {
          part = record {
            n = n;
            x = x;
            index = e;
            same = refl;
            from = m.place;
            below = m.stack;
            did = row.part;
            at = refl;
            on = record { has = record { seen = y.seen; living = y.living; there = refl; at = refl }; low = y.last; is = refl };
          };
          then = row.then;
        }))
        (omega arith)

    -- HIGH
    pub high_goes : (n x : ℕ) → Waiting ctx (Evaluate (High n x)) Rest Quiet m.place m.stack c a → Goes ctx s (Evaluate (High n x) ∷ k) m (c + 32)
    high_goes n x row =
        let o = row.part.here.opened in
        let items : List Item = Evaluate (High n x) ∷ k in
        let now : Source = record s { items = items; phase = Going } in
        let y = opened_here ctx now m shared (closed ctx k _ _ _ _ _ row.then) n x o.offset o.copied o.element o.at o.typed o.there in
        let machine : State = going m row.part.end (y.high ∷ m.stack) in
        goes_one ctx s items m 31 c (running machine s.world)
        (advances m s.world _ (
        at_step ctx m shared.program (frame_code n (o.offset + 1)) row.part.end row.part.here.load
        ∙ frame_word ctx s m shared n (o.offset + 1) y.first y.high y.shown y.own_high y.word_high y.low m.place row.part.end m.stack (omega (arith, row.part.shallow))))
        (subst (λ (z : Option (Place × ℕ)). Lands ctx (measured z k now).phase (measured z k now) (running machine s.world) c) (sym y.found)
        (lands_on ctx s m shared (Value (Scalars (Number (pos y.high))) ∷ k) row.part.end (y.high ∷ m.stack) c a
        (at_once ctx _ Quiet row.part.end (y.high ∷ m.stack) c a
        (record {
          part = record { kind = OfWhole Cardinal; fits = within_high y.high 65535 y.last; refers = tt; below = m.stack; is = refl };
          then = row.then;
        }))))

    -- the index is there: it is tested, and then comes the address of the element
    module _ (place : Place) (high : ℕ) (v : Scalar) (j : Kind) (fit : within j v ≡ true) (below : List ℕ) (is : m.stack ≡ word_for h v ∷ below)
        (row : Waiting ctx (Fill (AlongAt place high)) Rest (ValueOf j) m.place below c a) where
      abbrev items : List Item
      items = Value (Scalars v) ∷ Fill (AlongAt place high) ∷ k

      abbrev now : Source
      now = record s { items = items; phase = Going }

      abbrev z : ℤ
      z = ordinal_of v

      abbrev w : ℕ
      w = scalar_word v

      abbrev element : Shape
      element = row.part.did.here.opened.element

      abbrev t : Shape
      t = Row (suc high) row.part.did.here.opened.element

      takes : takes_value (OfWhole Cardinal) j ≡ true
      takes = ap (takes_value (OfWhole Cardinal)) row.part.same ∙ row.part.did.here.takes

      word : m.stack ≡ scalar_word v ∷ below
      word = is ∙ ap (λ (w : ℕ). w ∷ below) (plain_word h j v (takes_plain (OfWhole Cardinal) j takes).1 fit)

      abbrev to : ℕ → List ℕ
      to i = address h (part_of place i) ∷ row.part.below

      abbrev becomes : Bool → Source
      becomes b = cond b (with_items now (Value (Places (part_of place (nat_of (ordinal_of v)))) ∷ k)) (trapped library now trap.Range)

      here : State
      here = going m row.part.did.here.tested m.stack

      stack_is : m.stack ≡ scalar_word v ∷ high ∷ address h place ∷ row.part.below
      stack_is = word ∙ ap (λ (y : List ℕ). scalar_word v ∷ y) row.part.on.is

      indexes : (q : ℕ) → on_three (going m row.part.did.here.tested m.stack) m.stack (open_row (words row.part.did.here.opened.element) q (going m row.part.did.here.tested m.stack)) ≡ open_row (words row.part.did.here.opened.element) q (going m row.part.did.here.tested m.stack) (address h place) high (scalar_word v) row.part.below
      indexes q = ap (λ (y : List ℕ). on_three (going m row.part.did.here.tested m.stack) y (open_row (words row.part.did.here.opened.element) q (going m row.part.did.here.tested m.stack))) stack_is

      -- one above HIGH
      above : IsNumber (ordinal_of v) (scalar_word v) → high < scalar_word v → Goes ctx s items (going m row.part.did.here.tested m.stack) (c + 1)
      above number more =
          let r = row.part.did in
          trap_goes ctx s items m shared r.here.tested m.stack trap.Range (c + 1) (Ixo (words element)) r.end r.here.by (closed ctx k _ _ _ _ _ row.then)
          (ap becomes (ap (λ (z : ℤ). between (pos 0) z (pos high)) number.is ∙ above_high (scalar_word v) high more))
          (at_step ctx (going m r.here.tested m.stack) shared.program (Ixo (words element)) r.end r.here.by
          ∙ indexes r.end
          ∙ yes _ _ _ (lt-ltb high (scalar_word v) more))
          (omega arith)

      chosen : IsNumber (ordinal_of v) (scalar_word v) → scalar_word v ≤ high → Goes ctx s items (going m row.part.did.here.tested m.stack) (c + 1)
      chosen number less =
          let r = row.part in
          let x : ℕ = nat_of (ordinal_of v) in
          let is_element : part_at t (x ∷ []) ≡ element = yes (ltb x (suc high)) element Absent (lt-ltb x (suc high) (omega (arith, less, number.same))) in
          let part = part_there h place x (ap is_there r.on.has.living) in
          let living : shape_there h (part_of place x) ≡ element = part.0 ∙ ap (λ (z : Shape). part_at z (x ∷ [])) r.on.has.living ∙ is_element in
          let at : address h (part_of place x) ≡ address h place + x * words element = omega (arith, part.1, ap (λ (z : Shape). offset z (x ∷ [])) r.on.has.living) in
          let sum : address h place + scalar_word v * words element ≡ address h (part_of place x) = ap (λ (n : ℕ). address h place + n * words element) (sym number.same) ∙ sym at in
          let there : HasPlace ctx OnTop (part_of place x) element (to x) r.below = record { seen = r.on.has.seen; living = living; there = r.did.here.opened.there; at = refl } in
          let low = inside ctx s m shared OnTop (part_of place x) element (to x) r.below there in
          let shape_is : shape_of l.scope (Along r.n r.x r.index) ≡ element = ap (λ (o : Option Shape). along (shape_by o)) r.did.here.opened.typed in
          goes_one ctx s items (going m r.did.here.tested m.stack) 0 c (running (going m r.did.end (to x)) s.world)
          (advances (going m r.did.here.tested m.stack) s.world _ (
          at_step ctx (going m r.did.here.tested m.stack) shared.program (Ixo (words element)) r.did.end r.did.here.by
          ∙ indexes r.did.end
          ∙ no _ _ _ (le-ltb high (scalar_word v) less)
          ∙ yes _ _ _ (lt-ltb (address h place + scalar_word v * words element) 65536 (omega (arith, low, sum)))
          ∙ ap (λ (n : ℕ). (Went, going m r.did.end (n ∷ r.below))) sum
          ))
          (subst (λ (y : Source). Lands ctx y.phase y (running (going m r.did.end (to x)) s.world) c) (sym (ap becomes (ap (λ (z : ℤ). between (pos 0) z (pos high)) number.is ∙ within_high (scalar_word v) high less)))
          (lands_on ctx s m shared (Value (Places (part_of place x)) ∷ k) r.did.end (to x) c a
          (at_once ctx _ Quiet r.did.end (to x) c a (record {
            part = record { of = Along r.n r.x r.index; below = r.below; has = record { seen = there.seen; living = living ∙ sym shape_is; there = ap is_there shape_is ∙ r.did.here.opened.there; at = refl } };
            then = row.then;
          }))))

      pub along_at_goes : Goes ctx s (Value (Scalars v) ∷ Fill (AlongAt place high) ∷ k) m (c + 32)
      along_at_goes =
          number_tested ctx s items m shared m.place m.stack (OfWhole Cardinal) j v (takes_base (OfWhole Cardinal) j takes) fit below word
          row.part.did.here.tested (c + 32) (c + 1) (rw (row.part.at, row.part.same) row.part.did.here.test) (closed ctx k _ _ _ _ _ row.then)
          (λ out. ap becomes (beyond z high row.part.on.low out))
          (λ one.
          let number = number_is z w one (word_is v) in
          ⊎_elim (λ more. above number more) (λ less. chosen number less) (cases_lt high w))
          (omega arith)
