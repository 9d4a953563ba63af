-- The arguments of calls, one after the other: each is evaluated and tested at its turn, and its words go to the frame to come.
use Rattle.lil_meaning.specs.Items.{Wholes, under}
use Rattle.lil_resolved.specs.Kinds.{words, is_there}
use Rattle.std.proofs.Common.{drop, length-drop}
use Rattle.std.proofs.lemmas.List.{length-take-le, get_or-take, get_or-drop}
use Rattle.std.proofs.lemmas.Bool.{le-leb}
use Rattle.lil_mcode.specs.Table.{longer_row, words_row}
use Rattle.lil_asm.specs.declared.instr.Instr.TheVariants.{Psm}
use Rattle.lil_match.specs.Splices.{block_alone}
use Rattle.lil_match.specs.Homes.{place_inside}
use Rattle.lil_laws_stmt.specs.Pushes.{alone_given, block_given}
use Rattle.std.proofs.Common.{◌≡◌, ℕ, suc, ◌+◌, ◌-◌, ◌≤◌, Bool, true, cond, Option, Some, List, [], ◌∷◌, ◌++◌, length, take, refl, sym, ap, ◌∙◌, subst, arith}
use Rattle.std.proofs.lemmas.{Bool.{lt-ltb}, Option.{same_Some}}
use Rattle.lil_base.specs.declared.fault.TrapKind.TheVariants as trap
use Rattle.lil_resolved.specs.{Kinds.{OfCharacter, Kind, Scalar, within, stores_value, Shape, Word, Row, Address, Opened, element_of, along, shape_at, shape_by, parameters_at}, Resolved.{Designator, Argument, Arguments, Also, ByValue, OfPlace, OfAll, OfArray, OfText, OfOpened, Spelled, kind_of, shape_of}}
use Rattle.lil_meaning.specs.{Items.{Place, Datum, Scalars, Places, Callee, Called, Pass, PassPlace, PassAll, PassArray, Opens, Texts, Passing, Item, Value, Fill, Perform, Going, Source}, Steps.{trapped, with_items, handed_on}}
use Rattle.lil_asm.specs.declared.instr.Instr.{TheVariants.{Liw, Lag, Psh}}
use Rattle.lil_mcode.specs.Table.{State, going, mstep}
use Rattle.lil_frames.specs.Words.{spliced}
use Rattle.lil_table.specs.Rows.{IsAt, InstrsAt, frame_code, text_words, test_code, address_code, access_of}
use Rattle.lil_match.specs.{Goes.{Shared, Goes}, Parts.{yes}, Homes.{Home, word_for, Refers, within_base, address}}
use Rattle.lil_match.specs.{Waits.{Quiet, ValueOf, AtPlace, Around, Setting, at_home, pushing, Designates, Pending, PendingWaits, ValueWaits, PlaceWaits, AllWaits, ArrayWaits, RowsOf, frame_of as frame_at, laid_out}}
use Rattle.lil_match.specs.{Steps.{goes_more, pending_closed, pushes, at_step, operand_goes, located_goes}, Orders.instr_within}
use Rattle.lil_laws_place.specs.Codes.{frame_word, leads, addressed, stored_tested}
use Rattle.lil_match.specs.{Variables.opened_here}
use Rattle.lil_laws_stmt.specs.Calls.{next_argument, push_goes, pushed_one, two_pushed, top_pushed, one_push}
use Rattle.lil_laws_stmt.specs.{Spelled.spelled_begins, Tasks.value_within, Strings.string_low, Pushes.{taking, shared_pushed}}

pub same_value : (j k : Kind) → ValueOf j ≡ ValueOf k → j ≡ k
same_value j k e = cc

same_high : (p q : Place) (m n : ℕ) → ◌≡◌ {A = Option (Place × ℕ)} (Some (p, m)) (Some (q, n)) → n ≡ m
same_high p q m n e = ap (λ (z : Place × ℕ). z.1) (sym (same_Some {A = Place × ℕ} (p, m) (q, n) e))

same_place : (d e : Designator) → AtPlace d ≡ AtPlace e → d ≡ e
same_place d e f = cc

module _ (ctx : Setting) where
  open ctx use {library, loaded, table, home as h, stack as st}
  open frame_at ctx use {own, piece}
  open laid_out ctx use {layout as l}

  module _ (s : Source) (k : List Item) (m : State) (c : ℕ) (a : Around) (shared : Shared ctx s m) (callee : Callee) where
    pub argument_goes : (done : List Datum) (y : Argument) (left : Arguments) → PendingWaits ctx callee done (Also y left) (RowsOf k) Quiet m.place m.stack c a
        → Goes ctx s (Perform (Passing (Called callee) done (Also y left)) ∷ k) m (c + 32)
    argument_goes done (ByValue kind e) left row =
        let r = row.pending.arguments in
        let value = r.here.here in
        operand_goes ctx s k m c a shared (Perform (Passing (Called callee) done (Also (ByValue kind e) left)) ∷ k) e (Pass (Called callee) kind done left) refl (omega arith) value.middle value.value.value
        (omega (arith, ap length row.empty, value.value.shallow))
        (value_within ctx 0 e kind m.place r.here.middle value (instr_within piece r.here.middle Psh r.middle r.here.push))
        (record { from = kind_of e; mode = refl; empty = row.empty; stores = value.stores; tested = r.here.middle; test = value.test; start = r.middle; push = r.here.push; pending = next_argument ctx s k m c a shared callee done (ByValue kind e) left row.pending })
    argument_goes done (OfPlace d) left row =
        let r = row.pending.arguments in
        let y = r.here.here in
        located_goes ctx s k m c a shared (Perform (Passing (Called callee) done (Also (OfPlace d) left)) ∷ k) d (PassPlace (Called callee) done left) refl (omega arith) y.found y.here
        (omega (arith, ap length row.empty, y.shallow))
        (record { of = d; mode = refl; empty = row.empty; tested = r.here.middle; address = y.address; start = r.middle; push = r.here.push; pending = next_argument ctx s k m c a shared callee done (OfPlace d) left row.pending })
    argument_goes done (OfAll d) left row =
        let r = row.pending.arguments in
        let y = r.here.here in
        located_goes ctx s k m c a shared (Perform (Passing (Called callee) done (Also (OfAll d) left)) ∷ k) d (PassAll (Called callee) done left) refl (omega arith) y.found y.here
        (omega (arith, ap length row.empty, y.shallow))
        (record { of = d; mode = refl; empty = row.empty; tested = r.here.middle; address = y.address; start = r.middle; push = r.here.push; pending = next_argument ctx s k m c a shared callee done (OfAll d) left row.pending })
    argument_goes done (OfArray copied d high) left row =
        let r = row.pending.arguments in
        let y = r.here.here in
        located_goes ctx s k m c a shared (Perform (Passing (Called callee) done (Also (OfArray copied d high) left)) ∷ k) d (PassArray (Called callee) high done left) refl (omega arith) y.found y.here
        (omega (arith, ap length row.empty, y.shallow))
        (record {
          of = d;
          mode = refl;
          empty = row.empty;
          rows = y.rows;
          there = y.there;
          low = y.low;
          tested = y.start;
          address = y.address;
          first = r.here.middle;
          by = y.by;
          start = r.middle;
          push = r.here.push;
          copied = copied;
          pending = next_argument ctx s k m c a shared callee done (OfArray copied d high) left row.pending;
        })
    argument_goes done (OfText cs) left row =
        let r = row.pending.arguments in
        let y = r.here.here in
        let items : List Item = Perform (Passing (Called callee) done (Also (OfText cs) left)) ∷ k in
        let from : ℕ = own.base + y.offset in
        let low = string_low ctx s m shared cs y.offset y.text in
        leads ctx s items m shared (Lag y.offset) m.place y.start m.stack (from ∷ m.stack) (c + 32) (c + 31) y.address
        (yes _ _ _ (lt-ltb (own.base + y.offset) 65536 (omega (arith, low))) ∙ pushes from y.start m (omega (arith, ap length row.empty)))
        (goes_more ctx s items (going m y.start (from ∷ m.stack)) (c + 4) (c + 31)
        (two_pushed ctx s k m c a shared callee items done (Opened true (Word OfCharacter)) (Texts cs) left from (text_words cs - 1) y.start r.here.middle r.middle (from ∷ m.stack) (ap (λ (z : List ℕ). from ∷ z) row.empty) (Liw (text_words cs - 1)) y.by r.here.push
        (λ room q. pushes (text_words cs - 1) r.here.middle (going (pushed_one ctx s k m c a shared callee from q) q []) (omega arith)) refl
        (next_argument ctx s k m c a shared callee done (OfText cs) left row.pending)
        (λ room top. record { is = refl; offset = y.offset; text = y.text; word = top.0; word_high = top.1 }) refl)
        (omega arith))
        (omega arith)
    argument_goes done (OfOpened copied n x) left row =
        let r = row.pending.arguments in
        let o = r.here.here.opened in
        let element : Shape = along (shape_at (parameters_at l.scope n) x) in
        let same : element ≡ o.element = ap (λ (z : Option Shape). along (shape_by z)) o.typed in
        let items : List Item = Perform (Passing (Called callee) done (Also (OfOpened copied n x) left)) ∷ k in
        let now : Source = record s { items = items; phase = Going } in
        let close = pending_closed ctx k callee done [] (Also (OfOpened copied n x) left) _ _ _ row.pending in
        let y = opened_here ctx now m shared close n x o.offset o.copied o.element o.at o.typed o.there in
        let stack : List ℕ = address h y.place ∷ m.stack in
        leads ctx s items m shared (frame_code n o.offset) m.place r.here.here.start m.stack stack (c + 32) (c + 31) r.here.here.first
        (frame_word ctx s m shared n o.offset y.first (address h y.place) y.shown y.own y.word (omega (arith, y.low)) m.place r.here.here.start m.stack (omega (arith, ap length row.empty)))
        (goes_more ctx s items (going m r.here.here.start stack) (c + 4) (c + 31)
        (two_pushed ctx s k m c a shared callee items done (Opened copied element) (Opens y.place y.high) left (address h y.place) y.high r.here.here.start r.here.middle r.middle stack (ap (λ (z : List ℕ). address h y.place ∷ z) row.empty) (frame_code n (o.offset + 1)) r.here.here.by r.here.push
        (λ room q.
        let x1 : Home = taking ctx s m shared (address h y.place ∷ []) room in
        let mid : Setting = pushing (at_home ctx x1) 1 in
        let z = opened_here mid now (pushed_one ctx s k m c a shared callee (address h y.place) q) (shared_pushed ctx s m shared (address h y.place ∷ []) room) close n x o.offset o.copied o.element o.at o.typed o.there in
        frame_word mid s (pushed_one ctx s k m c a shared callee (address h y.place) q) (shared_pushed ctx s m shared (address h y.place ∷ []) room) n (o.offset + 1) z.first y.high z.shown z.own_high (z.word_high ∙ same_high y.place z.place y.high z.high (sym y.found ∙ z.found)) z.low q r.here.middle [] (omega arith)) refl
        (next_argument ctx s k m c a shared callee done (OfOpened copied n x) left row.pending)
        (λ room top. record { copied = copied; to = element; is = refl; seen = y.seen; living = y.living ∙ ap (Row (suc y.high)) (sym same); there = ap is_there same ∙ o.there; low = y.last; word = top.0; word_high = top.1 })
        (ap (λ (z : Option (Place × ℕ)). handed_on z (Called callee) done left k now) y.found))
        (omega arith))
        (omega arith)
    argument_goes done (Spelled cs count) left row = spelled_begins ctx s k m c a shared callee done cs count left row

    pub given_goes : (to : Kind) (done : List Datum) (left : Arguments) (v : Scalar) (kind : Kind) → within kind v ≡ true → Refers h kind v → (below : List ℕ) → m.stack ≡ word_for h v ∷ below → ValueWaits ctx callee to done left (RowsOf k) (ValueOf kind) m.place below c a
        → Goes ctx s (Value (Scalars v) ∷ Fill (Pass (Called callee) to done left) ∷ k) m (c + 32)
    given_goes to done left v kind fit refers below is row =
        let items : List Item = Value (Scalars v) ∷ Fill (Pass (Called callee) to done left) ∷ k in
        let now : Source = record s { items = items; phase = Going } in
        let after : List Item = Perform (Passing (Called callee) (done ++ Scalars v ∷ []) left) ∷ k in
        let becomes : Bool → Source = λ b. cond b (with_items now after) (trapped library now trap.Range) in
        let same : kind ≡ row.from = same_value kind row.from row.mode in
        let stack_is : m.stack ≡ word_for h v ∷ [] = is ∙ ap (λ (z : List ℕ). word_for h v ∷ z) row.empty in
        stored_tested ctx s items m shared m.place m.stack to kind v (ap (stores_value to) same ∙ row.stores) fit refers below is
        row.tested (c + 32) (c + 2) (subst (λ (j : Kind). InstrsAt piece (test_code to j) m.place row.tested) (sym same) row.test) (pending_closed ctx k callee done _ left _ _ _ row.pending)
        (λ out. ap becomes out)
        (λ one led.
        push_goes ctx s k m c a shared callee items done (Word to) (Scalars v) left (word_for h v ∷ []) row.tested row.start m.stack (one_push ctx s k m c a shared callee (word_for h v) row.tested row.start m.stack stack_is row.push) refl row.pending
        (λ room. alone_given ctx s m shared (word_for h v) room to v (record { word = refl; fits = within_base to v one; refers = led }) (top_pushed ctx s k m c a shared callee (word_for h v) room)) (ap becomes one))
        (omega arith)

    pub given_place_goes : (done : List Datum) (left : Arguments) (place : Place) (d : Designator) (below : List ℕ) → Designates ctx d place m.stack below → PlaceWaits ctx callee done left (RowsOf k) (AtPlace d) m.place below c a
        → Goes ctx s (Value (Places place) ∷ Fill (PassPlace (Called callee) done left) ∷ k) m (c + 32)
    given_place_goes done left place d below has row =
        let items : List Item = Value (Places place) ∷ Fill (PassPlace (Called callee) done left) ∷ k in
        let same : d ≡ row.of = same_place d row.of row.mode in
        addressed ctx s items m shared (access_of l d) place (shape_of l.scope d) m.stack below has (omega (arith, ap length row.empty)) m.place row.tested (c + 32) (c + 2)
        (subst (λ (e : Designator). InstrsAt piece (address_code (access_of l e)) m.place row.tested) (sym same) row.address)
        (push_goes ctx s k m c a shared callee items done (Address (shape_of l.scope d)) (Places place) left (address h place ∷ []) row.tested row.start (address h place ∷ below)
        (one_push ctx s k m c a shared callee (address h place) row.tested row.start (address h place ∷ below) (ap (λ (z : List ℕ). address h place ∷ z) row.empty) row.push) refl
        (subst (λ (e : Designator). Pending ctx callee done (Address (shape_of l.scope e) ∷ []) left (RowsOf k) row.start c a) (sym same) row.pending)
        (λ room. record { to = shape_of l.scope d; is = refl; seen = has.seen; living = has.living; there = has.there; word = top_pushed ctx s k m c a shared callee (address h place) room }) refl)
        (omega arith)

    -- an array
    pub given_array_goes : (high : ℕ) (done : List Datum) (left : Arguments) (place : Place) (d : Designator) (below : List ℕ) → Designates ctx d place m.stack below → ArrayWaits ctx callee high done left (RowsOf k) (AtPlace d) m.place below c a
        → Goes ctx s (Value (Places place) ∷ Fill (PassArray (Called callee) high done left) ∷ k) m (c + 32)
    given_array_goes high done left place d below has row =
        let items : List Item = Value (Places place) ∷ Fill (PassArray (Called callee) high done left) ∷ k in
        let same : d ≡ row.of = same_place d row.of row.mode in
        let element : Shape = element_of (shape_of l.scope row.of) in
        addressed ctx s items m shared (access_of l d) place (shape_of l.scope d) m.stack below has (omega (arith, ap length row.empty)) m.place row.tested (c + 32) (c + 31)
        (subst (λ (e : Designator). InstrsAt piece (address_code (access_of l e)) m.place row.tested) (sym same) row.address)
        (goes_more ctx s items (going m row.tested (address h place ∷ below)) (c + 4) (c + 31)
        (two_pushed ctx s k m c a shared callee items done (Opened row.copied element) (Opens place high) left (address h place) high row.tested row.first row.start (address h place ∷ below) (ap (λ (z : List ℕ). address h place ∷ z) row.empty) (Liw high) row.by row.push
        (λ room q. pushes high row.first (going (pushed_one ctx s k m c a shared callee (address h place) q) q []) (omega arith)) refl
        row.pending
        (λ room top. record { copied = row.copied; to = element; is = refl; seen = has.seen; living = has.living ∙ ap (shape_of l.scope) same ∙ row.rows; there = row.there; low = row.low; word = top.0; word_high = top.1 }) refl)
        (omega arith))
        (omega arith)

    -- all that lies at a place
    pub given_all_goes : (done : List Datum) (left : Arguments) (place : Place) (d : Designator) (below : List ℕ) → Designates ctx d place m.stack below → AllWaits ctx callee done left (RowsOf k) (AtPlace d) m.place below c a
        → Goes ctx s (Value (Places place) ∷ Fill (PassAll (Called callee) done left) ∷ k) m (c + 32)
    given_all_goes done left place d below has row =
        let items : List Item = Value (Places place) ∷ Fill (PassAll (Called callee) done left) ∷ k in
        let same : d ≡ row.of = same_place d row.of row.mode in
        let t : Shape = shape_of l.scope d in
        let from : ℕ = address h place in
        let ws : List ℕ = take (words t) (drop from m.store) in
        let low : from + words t ≤ 65535 = omega (arith, place_inside h s.cells m.store place shared.mem (ap is_there has.living ∙ has.there), ap words has.living) in
        let long : length ws ≡ words t = length-take-le (words t) (drop from m.store) (omega (arith, length-drop from m.store, shared.mem.long, low)) in
        let push : IsAt piece row.tested (Psm (words t)) row.start = subst (λ (e : Designator). IsAt piece row.tested (Psm (words (shape_of l.scope e))) row.start) (sym same) row.push in
        let at : State = going m row.tested (from ∷ below) in
        let steps : mstep at ≡ longer_row (length ws) (spliced m.store m.top ws) row.start [] at =
        at_step ctx at shared.program (Psm (words t)) row.start push
        ∙ ap (λ (z : List ℕ). words_row (words t) row.start at from z) row.empty
        ∙ yes _ _ _ (le-leb (from + words t) 65536 (omega (arith, low)))
        ∙ ap (λ (xs : List ℕ). longer_row (words t) (spliced m.store m.top xs) row.start [] at) (block_alone m.store from (words t))
        ∙ ap (λ (n : ℕ). longer_row n (spliced m.store m.top ws) row.start [] at) (sym long) in
        addressed ctx s items m shared (access_of l d) place t m.stack below has (omega (arith, ap length row.empty)) m.place row.tested (c + 32) (c + 2)
        (subst (λ (e : Designator). InstrsAt piece (address_code (access_of l e)) m.place row.tested) (sym same) row.address)
        (push_goes ctx s k m c a shared callee items done t (Wholes (under s.cells place)) left ws row.tested row.start (from ∷ below) steps long
        (subst (λ (e : Designator). Pending ctx callee done (shape_of l.scope e ∷ []) left (RowsOf k) row.start c a) (sym same) row.pending)
        (λ room. block_given ctx s m shared place t has.living has.there ws room long (λ i less. get_or-take (words t) (drop from m.store) i 0 less ∙ get_or-drop from m.store i 0)) refl)
        (omega arith)
