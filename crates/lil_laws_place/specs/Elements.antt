-- The rows of places: of variables, fields and elements.
use Rattle.std.proofs.Common.{◌≡◌, ℕ, ◌+◌, ◌*◌, ◌<◌, ◌≤◌, Bool, true, cond, ltb, Option, Some, List, [], ◌∷◌, refl, sym, ap, ◌∙◌, subst, arith}
use Rattle.std.specs.Prelude.{ℤ, pos, negsuc, ◌≤ℤ◌, ◌-ℤ◌, ◌+ℤ◌, slice_get}
use Rattle.std.proofs.lemmas.{Bool.{lt-ltb, ne_eqb}, Int.ints}
use Rattle.lil_base.specs.{Words.{Whole, Cardinal, Integer, in_type, word_of}, Laws.{in_range, bounds}}
use Rattle.lil_base.specs.declared.fault.TrapKind.TheVariants as trap
use Rattle.lil_resolved.specs.Kinds.{Objects, Kind, OfPointer, base_of, is_base, takes_value, compared_as, least, greatest, nat_of, numbers, position, Scalar, ToObject, Nil, within, scalar_word, ordinal_of, Shape, Absent, Word, Row, words, is_there, part_at, offset, shape_by, shape_at, element_of, led_to}
use Rattle.lil_resolved.specs.{Resolved.{Named, OfLevel, variable_at, Designator, Variable, Handed, Along, Held, Field, Element, Follow, Expression, shape_of}, Sizes.place_depth}
use Rattle.lil_meaning.specs.{Items.{Object, Place, object_place, part_of, got, Scalars, Places, Part, IndexBy, IndexAt, Pointed, Item, Value, PlaceOf, Fill, Going, Source}, Steps.{found_at, pointed, trapped, with_items}}
use Rattle.lil_asm.specs.declared.instr.Instr.TheVariants.{Llw, Nlt, Ixc}
use Rattle.lil_mcode.specs.{declared.machine.Event.{Event, TheVariants.Went}, Control.above, Table.{State, going, on_two, push_row, element_row}}
use Rattle.lil_table.specs.Rows.{cut, OnTop, access_at, offset_at, offset_in, access_of, load_code}
use Rattle.lil_match.specs.{Goes.{Shared, Goes, Lands}, Running.running, Parts.{yes, no}, Homes.{word_for, Refers, plain_word, takes_plain, address, shape_there, part_there}, Waits.{stutter, Setting, frame_of, laid_out, Quiet, ValueOf, AtPlace, Around, Reach, Rows, HasPlace, Designates, Waiting}, Orders.{instr_within, instrs_order, expression_stands}}
use Rattle.lil_match.specs.{Ranges.{has, fits_has, has_type, has_base, takes_part, least_base}, Arithmetic.{word_is, above_more}, Kept.{own_low, own_read}, Variables.{variable_here, handed_here}, Steps.{closed, held_here, advances, at_step, at_once, pushes, lands_on, goes_none, goes_one, goes_after, operand_exact, located_goes}}
use Rattle.lil_laws_place.specs.Codes.{inside, frame_word, part_has, addressed, loads, trap_goes, tested}

pub place_some : (d : Designator) → 1 ≤ place_depth d
place_some (Variable x) = omega arith
place_some (Handed n x) = omega arith
place_some (Along n x e) = omega arith
place_some (Held w) = omega arith
place_some (Field d i) = place_some d
place_some (Element d k e) = omega (arith, place_some d)
place_some (Follow d n) = place_some d

-- ---- the number of an element is less than how many there are
fewer : (low z high : ℤ) → low ≤ℤ z → z ≤ℤ high → nat_of (z -ℤ low) < nat_of ((high -ℤ low) +ℤ pos 1)
fewer low z high a b = grind (arith, ints)

-- the word of a number of a type has 16 bits
cut_word : (t : Whole) (z : ℤ) → in_type t z ≡ true → cut (word_of z) ≡ word_of z
cut_word t (negsuc n) h = omega arith
cut_word Cardinal (pos n) h = omega (arith, ints, (bounds (pos 0) (pos n) (pos 65535) h).1)
cut_word Integer (pos n) h = omega (arith, ints, (bounds (negsuc 32767) (pos n) (pos 32767) h).1)

-- a value of an index's kind: its number is less than how many there are, and its word lies so far above that of the least one
pub record IsIndex (k : Kind) (v : Scalar) : Type 0 where
  pub less : position k (ordinal_of v) < numbers k
  pub above : above (cut (word_of (least k))) (scalar_word v) ≡ position k (ordinal_of v)

index_is : (k j : Kind) (v : Scalar) → takes_value k j ≡ true → within k v ≡ true → IsIndex k v
index_is k j v takes one =
    let o : ℤ = ordinal_of v in
    let base : is_base (base_of k) ≡ true = takes_part k j takes in
    let here : has k o ≡ true = fits_has k v one in
    let wide : has (base_of k) o ≡ true = has_base k o here in
    let b = bounds (least k) o (greatest k) here in
    let w = bounds (least (base_of k)) o (greatest (base_of k)) wide in
    let first : has (base_of k) (least k) ≡ true = in_range (least (base_of k)) (least k) (greatest (base_of k)) (least_base k) (omega (arith, ints, b.0, w.1)) in
    let typed = has_type (base_of k) (least k) base first in
    record {
      less = fewer (least k) o (greatest k) b.0 b.1;
      above = ap (λ (w : ℕ). above w (scalar_word v)) (cut_word (compared_as (base_of k)) (least k) typed) ∙ ap (above (word_of (least k))) (word_is v) ∙ ap nat_of (above_more (compared_as (base_of k)) (least k) o typed (has_type (base_of k) o base wide) b.0);
    }

module _ (ctx : Setting) where
  open ctx use {library, home as h}
  open frame_of ctx use {own, piece}
  open laid_out ctx use {layout as l}

  module _ (s : Source) (k : List Item) (m : State) (c : ℕ) (a : Around) (shared : Shared ctx s m) where
    abbrev Rest : Reach
    Rest = Rows ctx k

    pub variable_goes : (v : Named) → Waiting ctx (PlaceOf (Variable v)) Rest Quiet m.place m.stack c a → Goes ctx s (PlaceOf (Variable v) ∷ k) m (c + 32)
    variable_goes v row =
        let named = row.part.here in
        let items : List Item = PlaceOf (Variable v) ∷ k in
        let now : Source = record s { items = items; phase = Going } in
        let o : ℕ = offset_in (offset_at l v) in
        let at : offset_at l v ≡ Some o = named.at ∙ ap Some (sym (ap offset_in named.at)) in
        let typed : variable_at l.scope v ≡ Some (shape_by (variable_at l.scope v)) = named.typed ∙ ap Some (sym (ap shape_by named.typed)) in
        let y = variable_here ctx now m shared (closed ctx k _ _ _ _ _ row.then) o (shape_by (variable_at l.scope v)) (ap is_there (ap shape_by named.typed) ∙ named.there) m.stack v at typed in
        goes_none ctx s items m 32 c
        (subst (λ (o : Option Place). Lands ctx (found_at o k now).phase (found_at o k now) (running m s.world) c) (sym y.found)
        (lands_on ctx s m shared (Value (Places y.place) ∷ k) m.place m.stack c a
        (at_once ctx _ Quiet m.place m.stack c a
        (record {
          part = record { of = Variable v; below = m.stack; has = y.has };
          then = subst (λ (q : ℕ). Rest (AtPlace (Variable v)) q m.stack c a) (sym named.stays) row.then;
        }))))
        (subst (λ (o : Option Place). stutter (found_at o k now).items < stutter items) (sym y.found) (omega arith))

    -- the record of a WITH: the word of the frame that has its address is loaded
    pub held_goes : (w : ℕ) → Waiting ctx (PlaceOf (Held w)) Rest Quiet m.place m.stack c a → Goes ctx s (PlaceOf (Held w) ∷ k) m (c + 32)
    held_goes w row =
        let r = row.part.here in
        let t : Shape = shape_at l.scope.held w in
        let typed : slice_get l.scope.held w ≡ Some (shape_at l.scope.held w) = r.typed ∙ ap Some (sym (ap shape_by r.typed)) in
        let found = held_here ctx k _ _ _ _ _ row.then w r.word t r.at typed in
        let y = found.held in
        let now : Source = record s { items = PlaceOf (Held w) ∷ k; phase = Going } in
        let stack : List ℕ = address h found.place ∷ m.stack in
        let machine : State = going m row.part.end stack in
        goes_one ctx s (PlaceOf (Held w) ∷ k) m 31 c (running machine s.world)
        (advances m s.world _ (
        at_step ctx m shared.program (Llw r.word) row.part.end r.load
        ∙ yes _ _ _ (lt-ltb (m.frame + r.word) 65536 (own_low ctx s m shared r.word 0 y.free y.low))
        ∙ ap (λ (x : ℕ). push_row x row.part.end m) (own_read ctx s m shared r.word 0 y.free y.low ∙ y.address)
        ∙ pushes (address h found.place) row.part.end m (omega (arith, row.part.shallow))))
        (subst (λ (o : Option Place). Lands ctx (found_at o k now).phase (found_at o k now) (running machine s.world) c) (sym found.found)
        (lands_on ctx s m shared (Value (Places found.place) ∷ k) row.part.end stack c a
        (at_once ctx _ Quiet row.part.end stack c a
        (record {
          part = record { of = Held w; below = m.stack; has = record { seen = y.seen; living = y.living; there = y.there; at = refl } };
          then = row.then;
        }))))

    -- what was handed in for a VAR parameter: the word of its procedure's frame that has the address is loaded
    pub handed_goes : (n x : ℕ) → Waiting ctx (PlaceOf (Handed n x)) Rest Quiet m.place m.stack c a → Goes ctx s (PlaceOf (Handed n x) ∷ k) m (c + 32)
    handed_goes n x row =
        let r = row.part.here in
        let now : Source = record s { items = PlaceOf (Handed n x) ∷ k; phase = Going } in
        let y = handed_here ctx now m shared (closed ctx k _ _ _ _ _ row.then) n x r.offset r.shape r.at r.typed r.there in
        let stack : List ℕ = address h y.place ∷ m.stack in
        let machine : State = going m row.part.end stack in
        let shape_is : shape_of l.scope (Handed n x) ≡ r.shape = ap (λ (o : Option Shape). led_to (shape_by o)) r.typed in
        goes_one ctx s (PlaceOf (Handed n x) ∷ k) m 31 c (running machine s.world)
        (advances m s.world _ (
        at_step ctx m shared.program (load_code (access_at (OfLevel n x) r.offset)) row.part.end r.load
        ∙ frame_word ctx s m shared n r.offset y.first (address h y.place) y.shown y.own y.word y.low m.place row.part.end m.stack (omega (arith, row.part.shallow))))
        (subst (λ (o : Option Place). Lands ctx (found_at o k now).phase (found_at o k now) (running machine s.world) c) (sym y.found)
        (lands_on ctx s m shared (Value (Places y.place) ∷ k) row.part.end stack c a
        (at_once ctx _ Quiet row.part.end stack c a
        (record {
          part = record { of = Handed n x; below = m.stack; has = record { seen = y.seen; living = y.living ∙ sym shape_is; there = ap is_there shape_is ∙ r.there; at = refl } };
          then = row.then;
        }))))

    pub field_goes : (d : Designator) (i : ℕ) → Waiting ctx (PlaceOf (Field d i)) Rest Quiet m.place m.stack c a → Goes ctx s (PlaceOf (Field d i) ∷ k) m (c + 32)
    field_goes d i row =
        located_goes ctx s k m c a shared (PlaceOf (Field d i) ∷ k) d (Part i) refl (omega arith) row.part.end row.part.here.here row.part.shallow
        (record { part = row.part.here.there; then = row.then })

    pub element_goes : (d : Designator) (kind : Kind) (e : Expression) → Waiting ctx (PlaceOf (Element d kind e)) Rest Quiet m.place m.stack c a → Goes ctx s (PlaceOf (Element d kind e) ∷ k) m (c + 32)
    element_goes d kind e row =
        let r = row.part.here in
        located_goes ctx s k m c a shared (PlaceOf (Element d kind e) ∷ k) d (IndexBy kind e) refl (omega arith) r.found r.here (omega (arith, row.part.shallow))
        (record { part = record { from = m.place; did = row.part; at = refl }; then = row.then })

    -- the record is there
    pub part_goes : (place : Place) (i : ℕ) (d : Designator) (below : List ℕ) → Designates ctx d place m.stack below → Waiting ctx (Fill (Part i)) Rest (AtPlace d) m.place below c a
        → Goes ctx s (Value (Places place) ∷ Fill (Part i) ∷ k) m (c + 32)
    part_goes place i d below is row =
        goes_none ctx s (Value (Places place) ∷ Fill (Part i) ∷ k) m 32 c
        (lands_on ctx s m shared (Value (Places (part_of place i)) ∷ k) m.place m.stack c a
        (at_once ctx _ Quiet m.place m.stack c a
        (record {
          part = record { of = Field d i; below = below; has = part_has ctx s m shared (access_of l d) place (shape_of l.scope d) m.stack below is i row.part };
          then = row.then;
        })))
        (omega arith)

    -- what a pointer points to
    pub follow_goes : (d : Designator) (n : ℕ) → Waiting ctx (PlaceOf (Follow d n)) Rest Quiet m.place m.stack c a → Goes ctx s (PlaceOf (Follow d n) ∷ k) m (c + 32)
    follow_goes d n row =
        let r = row.part.here in
        located_goes ctx s k m c a shared (PlaceOf (Follow d n) ∷ k) d Pointed refl (omega arith) r.found r.here row.part.shallow
        (record { part = record { number = n; from = m.place; did = row.part; at = refl }; then = row.then })

    -- the pointer is there: its word is loaded, and isn't that of NIL
    module _ (place : Place) (d : Designator) (below : List ℕ) (has : Designates ctx d place m.stack below) (row : Waiting ctx (Fill Pointed) Rest (AtPlace d) m.place below c a) where
      abbrev pointing : List Item
      pointing = Value (Places place) ∷ Fill Pointed ∷ k

      abbrev then : Source
      then = record s { items = pointing; phase = Going }

      -- the object that it points to
      object_has : (o : ℕ) → Refers h (OfPointer (Objects row.part.number)) (ToObject o) → HasPlace ctx OnTop (object_place o) (shape_at l.scope.targets row.part.number) (h.base (Object o) ∷ below) below
      object_has o refers =
          let at : h.base (Object o) ≡ h.base (Object o) + 0 = omega arith in
          record {
            seen = refl;
            living = refers.1 ∙ ap (λ (ts : List Shape). shape_at ts row.part.number) (sym shared.standing.known.targets);
            there = row.part.did.here.there;
            at = ap (λ (w : ℕ). w ∷ below) at;
          }

      follows : (v : Scalar) → got s.cells place ≡ v → within (OfPointer (Objects row.part.number)) v ≡ true → Refers h (OfPointer (Objects row.part.number)) v
          → Goes ctx s (Value (Places place) ∷ Fill Pointed ∷ k) (going m row.part.did.here.loaded (word_for h v ∷ below)) (c + 1)
      follows (ToObject o) is fits refers =
          let r = row.part.did in
          let w : ℕ = h.base (Object o) in
          let some : (w ≡ 0) → ⊥ = λ none. omega (arith, none, shared.heap.above o refers.0) in
          goes_one ctx s pointing (going m r.here.loaded (w ∷ below)) 0 c (running (going m r.end (w ∷ below)) s.world)
          (advances (going m r.here.loaded (w ∷ below)) s.world _ (at_step ctx (going m r.here.loaded (w ∷ below)) shared.program Nlt r.end r.here.test ∙ no _ _ _ (ne_eqb w 0 some)))
          (subst (λ (v : Scalar). Lands ctx (pointed library v k then).phase (pointed library v k then) (running (going m r.end (w ∷ below)) s.world) c) (sym is)
          (lands_on ctx s m shared (Value (Places (object_place o)) ∷ k) r.end (w ∷ below) c a
          (at_once ctx _ Quiet r.end (w ∷ below) c a
          (record { part = record { of = Follow d row.part.number; below = below; has = object_has o refers }; then = row.then }))))
      follows Nil is fits refers =
          trap_goes ctx s pointing m shared row.part.did.here.loaded (0 ∷ below) trap.Nil (c + 1) Nlt row.part.did.end row.part.did.here.test (closed ctx k _ _ _ _ _ row.then)
          (ap (λ (v : Scalar). pointed library v k then) is)
          (at_step ctx (going m row.part.did.here.loaded (0 ∷ below)) shared.program Nlt row.part.did.end row.part.did.here.test)
          (omega arith)
      follows v is fits refers = cc

      pub pointed_goes : Goes ctx s (Value (Places place) ∷ Fill Pointed ∷ k) m (c + 32)
      pointed_goes =
          let r = row.part in
          let living : shape_there h place ≡ Word (OfPointer (Objects r.number)) = has.living ∙ r.did.here.typed in
          let here : HasPlace ctx (access_of l d) place (Word (OfPointer (Objects r.number))) m.stack below = record { seen = has.seen; living = living; there = refl; at = has.at } in
          let word = shared.mem.holds place.root place.path (OfPointer (Objects r.number)) living in
          goes_after ctx s pointing m (going m r.did.here.loaded (word_for h (got s.cells place) ∷ below)) (c + 32) (c + 1)
          (advances m s.world _ (
          at_step ctx m shared.program (load_code (access_of l d)) r.did.here.loaded (rw r.at r.did.here.load)
          ∙ loads ctx s m shared (access_of l d) place (OfPointer (Objects r.number)) below here (omega (arith, r.did.shallow, place_some d)) r.did.here.loaded
          ∙ ap (λ (w : ℕ). let e : Event × State = (Went, going m r.did.here.loaded (w ∷ below)) in e) word.word
          ))
          (follows (got s.cells place) refl word.fits word.refers)
          (omega arith)

    -- the array is there: its address, and then the index
    pub index_by_goes : (place : Place) (kind : Kind) (e : Expression) (d : Designator) (below : List ℕ) → Designates ctx d place m.stack below
        → Waiting ctx (Fill (IndexBy kind e)) Rest (AtPlace d) m.place below c a → Goes ctx s (Value (Places place) ∷ Fill (IndexBy kind e) ∷ k) m (c + 32)
    index_by_goes place kind e d below is row =
        let did = row.part.did in
        let r = did.here in
        let items : List Item = Value (Places place) ∷ Fill (IndexBy kind e) ∷ k in
        let at : State = going m r.start (address h place ∷ below) in
        let value = expression_stands l piece e r.start r.middle r.value in
        let test = instrs_order piece _ r.middle r.tested r.test value.1 in
        addressed ctx s items m shared (access_of l d) place (shape_of l.scope d) m.stack below is (omega (arith, did.shallow)) m.place r.start (c + 32) c (rw row.part.at r.address)
        (operand_exact ctx s k at c a shared items e (IndexAt place kind) refl (omega arith) r.middle r.value (omega (arith, did.shallow))
        (omega (arith, test.0, instr_within piece r.tested _ did.end r.by))
        (record {
          part = record {
            of = d;
            index = e;
            same = refl;
            from = row.part.from;
            below = below;
            did = did;
            at = refl;
            has = record { seen = is.seen; living = is.living ∙ r.rows; there = refl; at = refl };
          };
          then = row.then;
        }))
        (omega arith)

    -- the index is there: its test, and the address of the element
    module _ (place : Place) (kind : Kind) (v : Scalar) (j : Kind) (fit : within j v ≡ true) (below : List ℕ) (is : m.stack ≡ word_for h v ∷ below)
        (row : Waiting ctx (Fill (IndexAt place kind)) Rest (ValueOf j) m.place below c a) where
      abbrev items : List Item
      items = Value (Scalars v) ∷ Fill (IndexAt place kind) ∷ k

      abbrev now : Source
      now = record s { items = items; phase = Going }

      abbrev x : ℕ
      x = position kind (ordinal_of v)

      abbrev element : Shape
      element = element_of (shape_of l.scope row.part.of)

      abbrev t : Shape
      t = Row (numbers kind) (element_of (shape_of l.scope row.part.of))

      takes : takes_value kind j ≡ true
      takes = ap (takes_value kind) row.part.same ∙ row.part.did.here.takes

      word : m.stack ≡ scalar_word v ∷ below
      word = is ∙ ap (λ (w : ℕ). w ∷ below) (plain_word h j v (takes_plain kind j takes).1 fit)

      abbrev becomes : Bool → Source
      becomes b = cond b (with_items now (Value (Places (part_of place x)) ∷ k)) (trapped library now trap.Range)

      chosen : within kind v ≡ true → Goes ctx s items (going m row.part.did.here.tested m.stack) (c + 1)
      chosen one =
          let r = row.part in
          let i = index_is kind j v takes one in
          let is_element : part_at t (x ∷ []) ≡ element = yes (ltb x (numbers kind)) element Absent (lt-ltb x (numbers kind) i.less) in
          let part = part_there h place x (ap is_there r.has.living) in
          let living : shape_there h (part_of place x) ≡ element = part.0 ∙ ap (λ (z : Shape). part_at z (x ∷ [])) r.has.living ∙ is_element in
          let at : address h (part_of place x) ≡ address h place + x * words element = omega (arith, part.1, ap (λ (z : Shape). offset z (x ∷ [])) r.has.living) in
          let to : List ℕ = address h (part_of place x) ∷ r.below in
          let there : HasPlace ctx OnTop (part_of place x) element to r.below = record { seen = r.has.seen; living = living; there = r.did.here.there; at = refl } in
          let sum : address h place + above (cut (word_of (least kind))) (scalar_word v) * words element ≡ address h (part_of place x) =
          ap (λ (n : ℕ). address h place + n * words element) i.above ∙ sym at in
          let low = inside ctx s m shared OnTop (part_of place x) element to r.below there in
          let here : State = going m r.did.here.tested m.stack in
          goes_one ctx s items here 0 c (running (going m r.did.end to) s.world)
          (advances here s.world _ (
          at_step ctx here shared.program (Ixc (cut (word_of (least kind))) (words element)) r.did.end r.did.here.by
          ∙ ap (λ (y : List ℕ). on_two here y (element_row (cut (word_of (least kind))) (words element) r.did.end here)) (word ∙ ap (λ (y : List ℕ). scalar_word v ∷ y) r.has.at)
          ∙ yes _ _ _ (lt-ltb (address h place + above (cut (word_of (least kind))) (scalar_word v) * words element) 65536 (omega (arith, low, sum)))
          ∙ ap (λ (n : ℕ). (Went, going m r.did.end (n ∷ r.below))) sum
          ))
          (subst (λ (y : Source). Lands ctx y.phase y (running (going m r.did.end to) s.world) c) (sym (ap becomes one))
          (lands_on ctx s m shared (Value (Places (part_of place x)) ∷ k) r.did.end to c a
          (at_once ctx _ Quiet r.did.end to c a (record { part = record { of = Element r.of kind r.index; below = r.below; has = there }; then = row.then }))))

      pub index_at_goes : Goes ctx s (Value (Scalars v) ∷ Fill (IndexAt place kind) ∷ k) m (c + 32)
      index_at_goes =
          tested ctx s items m shared m.place m.stack kind j v takes fit below word
          row.part.did.here.tested (c + 32) (c + 1) (rw (row.part.at, row.part.same) row.part.did.here.test) (closed ctx k _ _ _ _ _ row.then)
          (λ out. ap becomes out)
          chosen
          (omega arith)
