-- The rows of INC and DEC.
use Rattle.std.proofs.Common.{◌≡◌, ℕ, ◌+◌, ◌<◌, Bool, true, false, Result, Ok, Err, Option, List, [], ◌∷◌, ◌++◌, length, get_or, refl, sym, ap, ◌∙◌, subst, arith}
use Rattle.std.specs.Prelude.{ℤ}
use Rattle.lil_base.specs.{Words.{Whole, Cardinal, Integer, in_type, number_of, word_of}, Traps.arith_trap, declared.fault.ArithFault.ArithFault}
use Rattle.lil_resolved.specs.{Kinds.{Kind, OfWhole, base_of, is_plain, Scalar, Number, within, scalar_of, scalar_word, ordinal_of, Word}, Resolved.{Designator, Expression, Change, counted_as, shape_of}}
use Rattle.lil_meaning.specs.{Items.{Place, got, Scalars, Places, ChangeBy, ChangeAt, Do, Item, Value, Fill, Perform, Going, Source}, Steps.{current, whole_of, changed, value_of, valued, stored_with}}
use Rattle.lil_asm.specs.declared.instr.Instr.{Instr, TheVariants.{Adc, Sbc, Adi, Sbi}}
use Rattle.lil_mcode.specs.Table.{Module, State, mstep, act, going, result_row, two_row}
use Rattle.lil_table.specs.Rows.{IsAt, InstrsAt, whole_code, Access, access_of, InData, InFrame, OnTop, Behind, readied, store_code, under_code, change_operator, change_code, test_code}
use Rattle.lil_match.specs.{Homes.{word_for, base_plain, plain_word, plain_refers, address, IsWord}, Goes.{Shared, Goes}, Waits.{Setting, frame_of, laid_out, Quiet, ValueOf, AtPlace, Around, Reach, Rows, Reaches, doubled, HasPlace, Designates, placed, Waiting}, Orders.instrs_within, Arithmetic.{word_is, reads_ordinal, reads, sum_fits, difference_fits}}
use Rattle.lil_match.specs.{Ranges.{has, value_is, value_none, value_fits, number_is}, Steps.{closed, advances, at_step, goes_after, operand_exact, located_goes}}
use Rattle.lil_laws_place.specs.Codes.{made_ready, readied_twice, twice_words, kept_twice, brings_under, trap_goes, number_tested, stored_goes}

-- the one instruction of the sum or the difference
abbrev change_instr : Bool → Whole → Instr
change_instr false Cardinal = Adc
change_instr false Integer = Adi
change_instr true Cardinal = Sbc
change_instr true Integer = Sbi

change_is : (down : Bool) (t : Whole) → whole_code (change_operator down) t ≡ change_instr down t ∷ []
change_is false Cardinal = refl
change_is false Integer = refl
change_is true Cardinal = refl
change_is true Integer = refl

change_act : (down : Bool) (t : Whole) (q : ℕ) (own : Module) (m : State) → act (change_instr down t) q own m ≡ two_row (changed down) t q m m.stack
change_act false Cardinal q own m = refl
change_act false Integer q own m = refl
change_act true Cardinal q own m = refl
change_act true Integer q own m = refl

changed_fits : (down : Bool) (t : Whole) (x y z : ℤ) → changed down t x y ≡ Ok z → in_type t z ≡ true
changed_fits false t x y z e = sum_fits t x y z e
changed_fits true t x y z e = difference_fits t x y z e

-- instructions behind others
abbrev Parted : List ℕ → List Instr → List Instr → ℕ → ℕ → Type 0
Parted code is js p q = (r : ℕ) × InstrsAt code is p r × InstrsAt code js r q

split : (code : List ℕ) (is js : List Instr) (p q : ℕ) → InstrsAt code (is ++ js) p q → Parted code is js p q
split code [] js p q h = (p, refl, h)
split code (i ∷ is) js p q h = let more = split code is js h.0 q h.2 in (more.0, (h.0, h.1, more.1), more.2)

some_change : (down : Bool) (k : Kind) (b : Access) → 0 < length (change_code down k b)
some_change down k (InData o) = omega arith
some_change down k (InFrame n o) = omega arith
some_change down k OnTop = omega arith
some_change down k (Behind o) = omega arith

module _ (ctx : Setting) where
  open ctx use {library, table, home as h}
  open frame_of ctx use {own, piece, number}
  open laid_out ctx use {layout as l}

  module _ (s : Source) (k : List Item) (m : State) (c : ℕ) (a : Around) (shared : Shared ctx s m) where
    abbrev Rest : Reach
    Rest = Rows ctx k

    pub change_goes : (down : Bool) (d : Designator) (kind : Kind) (e : Expression)
        → Waiting ctx (Perform (Do (Change down d kind e))) Rest Quiet m.place m.stack c a → Goes ctx s (Perform (Do (Change down d kind e)) ∷ k) m (c + 32)
    change_goes down d kind e row =
        let r = row.part.here in
        located_goes ctx s k m c a shared (Perform (Do (Change down d kind e)) ∷ k) d (ChangeBy down kind e) refl (omega arith) r.target.found r.target.here (omega (arith, r.target.shallow, ap length row.part.empty))
        (record { part = placed ctx.stack.frame (Change down d kind e) a (λ p q r. r.target.found) m.place m.stack row.part; then = row.then })

    -- the place is there: it is made ready and kept for a second use, and then comes the number
    pub change_by_goes : (down : Bool) (to : Kind) (e : Expression) (place : Place) (d : Designator) (below : List ℕ) → Designates ctx d place m.stack below
        → Waiting ctx (Fill (ChangeBy down to e)) Rest (AtPlace d) m.place below c a → Goes ctx s (Value (Places place) ∷ Fill (ChangeBy down to e) ∷ k) m (c + 32)
    change_by_goes down to e place d below has row =
        let b : Access = access_of l d in
        let amid = row.part.amid in
        let r = amid.here in
        let items : List Item = Value (Places place) ∷ Fill (ChangeBy down to e) ∷ k in
        made_ready ctx s items m shared b place (shape_of l.scope d) m.stack below has m.place r.start (c + 32) (c + 1) (rw amid.at r.target.ready)
        (λ once there.
        let here : HasPlace ctx (readied b) place (Word to) once [] =
        record { seen = there.seen; living = there.living ∙ r.target.scalar.shape; there = refl; at = subst (λ (x : List ℕ). Reaches own.base ctx.stack.frame.display (readied b) (address h place) once x) row.part.empty there.at } in
        kept_twice ctx s items m shared (readied b) place (Word to) once here (readied_twice ctx b) r.start r.kept (c + 1) c r.again
        (operand_exact ctx s k (going m r.kept (doubled (readied b) once)) c a shared items e (ChangeAt down place to) refl (omega arith) r.middle r.value.value
        (omega (arith, r.value.shallow, twice_words ctx (readied b) place (Word to) once here))
        (instrs_within piece (change_code down to (readied b)) r.middle amid.end (some_change down to (readied b)) r.by)
        (record {
          part = record {
            of = d;
            value = e;
            same = refl;
            amid = record { from = amid.from; end = amid.end; here = r; within = amid.within; at = refl };
            once = once;
            has = here;
            twice = refl;
          };
          then = row.then;
        }))
        (omega arith))
        (omega arith)

    -- the number that INC or DEC takes is there
    module _ (down : Bool) (place : Place) (to : Kind) (v : Scalar) (kind : Kind) (fit : within kind v ≡ true) (below : List ℕ) (is : m.stack ≡ word_for h v ∷ below)
        (row : Waiting ctx (Fill (ChangeAt down place to)) Rest (ValueOf kind) m.place below c a) where
      abbrev items : List Item
      items = Value (Scalars v) ∷ Fill (ChangeAt down place to) ∷ k

      abbrev t : Whole
      t = counted_as to

      abbrev access : Access
      access = readied (access_of l row.part.of)

      abbrev once : List ℕ
      once = row.part.once

      abbrev old : Scalar
      old = got s.cells place

      -- what the source makes of the two numbers
      abbrev result : Result ℤ ArithFault
      result = changed down t (ordinal_of old) (whole_of v)

      abbrev Now : Source
      Now = record s { items = items; phase = Going }

      -- the store, the test before it, the operation before that, and what brings the other number
      stores : Parted piece (under_code access ++ whole_code (change_operator down) t ++ test_code to (OfWhole t)) (store_code access ∷ []) m.place row.part.amid.end
      stores = split piece (under_code access ++ whole_code (change_operator down) t ++ test_code to (OfWhole t)) (store_code access ∷ []) m.place row.part.amid.end (rw row.part.amid.at row.part.amid.here.by)

      tests : Parted piece (under_code access ++ whole_code (change_operator down) t) (test_code to (OfWhole t)) m.place stores.0
      tests = split piece (under_code access ++ whole_code (change_operator down) t) (test_code to (OfWhole t)) m.place stores.0 stores.1

      operation : Parted piece (under_code access) (whole_code (change_operator down) t) m.place tests.0
      operation = split piece (under_code access) (whole_code (change_operator down) t) m.place tests.0 tests.1

      -- both numbers stand on the expression stack
      abbrev both : State
      both = going m operation.0 (scalar_word v ∷ scalar_word old ∷ once)

      abbrev done : ℤ → State
      done z = going m tests.0 (word_of z ∷ once)

      same : kind ≡ OfWhole t
      same = row.part.same ∙ row.part.amid.here.value.typed

      ready : readied access ≡ access
      ready = readied_twice ctx (access_of l row.part.of)

      close : current items ≡ ctx.stack.frame.activation
      close = closed ctx k _ _ _ _ _ row.then

      good : within (OfWhole t) v ≡ true
      good = ap (λ (j : Kind). within j v) (sym same) ∙ fit

      kept_word : IsWord h to old (get_or m.store (address h place) 0)
      kept_word = shared.mem.holds place.root place.path to row.part.has.living

      old_fits : within (base_of to) old ≡ true
      old_fits = kept_word.fits

      old_word : get_or m.store (address h place) 0 ≡ scalar_word old
      old_word = kept_word.word ∙ plain_word h (base_of to) old (base_plain to ∙ row.part.amid.here.plain) old_fits

      stack_is : m.stack ≡ scalar_word v ∷ doubled access once
      stack_is = is ∙ ap (λ (x : List ℕ). word_for h v ∷ x) row.part.twice ∙ ap (λ (w : ℕ). w ∷ doubled access once) (plain_word h kind v (ap is_plain same) fit)

      computes : InstrsAt piece (change_instr down t ∷ []) operation.0 tests.0
      computes = subst (λ (is : List Instr). InstrsAt piece is operation.0 tests.0) (change_is down t) operation.2

      operates : mstep both ≡ result_row both tests.0 once result
      operates =
          let code = computes in
          at_step ctx both shared.program (change_instr down t) code.0 code.1
          ∙ change_act down t code.0 own both
          ∙ ap (λ (z : ℤ). result_row both code.0 once (changed down t z (number_of t (scalar_word v)))) (reads_ordinal (base_of to) old row.part.amid.here.target.scalar.base old_fits)
          ∙ ap (λ (z : ℤ). result_row both code.0 once (changed down t (ordinal_of old) z)) (reads t v good)
          ∙ ap (λ (q : ℕ). result_row both q once result) code.2

      abbrev store_result : Result ℤ ArithFault → Source
      store_result r = stored_with library place (value_of to r) k Now

      abbrev store_value : Option Scalar → Source
      store_value o = stored_with library place (valued o) k Now

      new_word : (z : ℤ) → has to z ≡ true → word_of z ≡ word_for h (scalar_of to z)
      new_word z one = ap word_of (sym (number_is to z one)) ∙ sym (word_is (scalar_of to z)) ∙ sym (plain_word h to (scalar_of to z) row.part.amid.here.plain (value_fits to z one))

      -- the new number is stored, where it is one of the place's kind
      number_goes : (z : ℤ) → result ≡ Ok z → Goes ctx s items (done z) (c + 2)
      number_goes z e =
          let fits : in_type t z ≡ true = changed_fits down t (ordinal_of old) (whole_of v) z e in
          let store = subst (λ (q : ℕ). IsAt piece stores.0 (store_code access) q) stores.2.2 stores.2.1 in
          number_tested ctx s items m shared tests.0 (word_of z ∷ once) to (OfWhole t) (Number z) refl fits once refl stores.0 (c + 2) (c + 1) tests.2 close
          (λ none. ap store_result e ∙ ap store_value (value_none to z none))
          (λ one.
          stored_goes ctx s items m shared stores.0 (word_of z ∷ once) access place to once row.part.has ready (scalar_of to z) (value_fits to z one) (plain_refers h to (scalar_of to z) row.part.amid.here.plain)
          (ap (λ (w : ℕ). w ∷ once) (new_word z one)) row.part.amid.end store k (ap store_result e ∙ ap store_value (value_is to z one)) c (c + 1) a row.then (omega arith))
          (omega arith)

      -- the operation gives a number, or traps
      operation_goes : (r : Result ℤ ArithFault) → result ≡ r → Goes ctx s items both (c + 3)
      operation_goes (Ok z) e =
          goes_after ctx s items both (done z) (c + 3) (c + 2) (advances both s.world _ (operates ∙ ap (result_row both tests.0 once) e)) (number_goes z e) (omega arith)
      operation_goes (Err f) e =
          trap_goes ctx s items m shared both.place both.stack (arith_trap f) (c + 3) (change_instr down t) computes.0 computes.1 close (ap store_result e) (operates ∙ ap (result_row both tests.0 once) e) (omega arith)

      pub change_at_goes : Goes ctx s (Value (Scalars v) ∷ Fill (ChangeAt down place to) ∷ k) m (c + 32)
      change_at_goes =
          subst (λ (x : List ℕ). Goes ctx s items (going m m.place x) (c + 32)) (sym stack_is)
          (brings_under ctx s items m shared access place to once row.part.has ready (scalar_word v) m.place operation.0 (c + 32) (c + 3) operation.1
          (subst (λ (w : ℕ). Goes ctx s items (going m operation.0 (scalar_word v ∷ w ∷ once)) (c + 3)) (sym old_word) (operation_goes result refl))
          (omega arith))
