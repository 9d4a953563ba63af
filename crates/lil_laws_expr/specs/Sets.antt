-- The rows of set values: from a matched state the machine comes to a matched state.
use Rattle.std.proofs.Common.{◌≡◌, ℕ, ◌+◌, ◌<◌, ◌≤◌, Bool, true, cond, List, [], ◌∷◌, length, refl, sym, ap, ◌∙◌, subst, arith}
use Rattle.lil_base.specs.declared.fault.TrapKind.TheVariants as trap
use Rattle.lil_resolved.specs.{Kinds.{Kind, OfSet, takes_value, Scalar, within, scalar_word}, Resolved.{Expression, With, WithSpan, kind_of}}
use Rattle.lil_meaning.specs.{Items.{Scalars, WithMember, MemberOf, WithMembers, MembersFrom, MembersTo, Item, Value, Evaluate, Fill, Going, Source}, Steps.{next, trapped, with_items, with_span}}
use Rattle.lil_asm.specs.declared.instr.Instr.TheVariants.{Dup, Spn}
use Rattle.lil_mcode.specs.Table.{State, going}
use Rattle.lil_table.specs.Rows.{IsAt, InstrsAt, test_code}
use Rattle.lil_match.specs.{Goes.{Shared, Goes, Lands}, Running.running, Homes.{word_for, plain_word, takes_plain}, Waits.{Setting, frame_of, laid_out, Quiet, ValueOf, Around, Reach, Rows, HasSet, Waiting}, Steps.{advances, pushes, at_step, at_once, lands_on, goes_one, operand_goes, operand_exact, closed}}
use Rattle.lil_match.specs.Orders.{instrs_order, instr_within, instrs_within, expression_stands, expression_within}
use Rattle.lil_laws_place.specs.{Codes.{leads, tested}, Sets.{IsMember, member_is, span_act}}

module _ (ctx : Setting) where
  open ctx use {library, home as h}
  open frame_of ctx use {own, piece}
  open laid_out ctx use {layout as l}

  module _ (s : Source) (k : List Item) (m : State) (c : ℕ) (a : Around) (shared : Shared ctx s m) where
    abbrev Rest : Reach
    Rest = Rows ctx k

    -- the place where a test and an instruction behind it begin lies within the code
    tested_within : (kind j : Kind) (p q : ℕ) → p ≤ length piece → InstrsAt piece (test_code kind j) p q → q < length piece → p < length piece
    tested_within kind j p q inside test after = let t = instrs_order piece (test_code kind j) p q test inside in omega (arith, t.0, after)

    pub with_goes : (e : Expression) (kind : Kind) (f : Expression) → Waiting ctx (Evaluate (With e kind f)) Rest Quiet m.place m.stack c a → Goes ctx s (Evaluate (With e kind f) ∷ k) m (c + 32)
    with_goes e kind f row =
        let r = row.part.here in
        operand_goes ctx s k m c a shared (Evaluate (With e kind f) ∷ k) e (WithMember kind f) refl (omega arith) r.start r.first (omega (arith, row.part.shallow))
        (expression_within l piece f r.start r.middle r.value)
        (record { part = record { of = e; same = refl; from = m.place; did = row.part; at = refl }; then = row.then })

    pub with_span_goes : (e : Expression) (kind : Kind) (f g : Expression) → Waiting ctx (Evaluate (WithSpan e kind f g)) Rest Quiet m.place m.stack c a → Goes ctx s (Evaluate (WithSpan e kind f g) ∷ k) m (c + 32)
    with_span_goes e kind f g row =
        let r = row.part.here in
        operand_goes ctx s k m c a shared (Evaluate (WithSpan e kind f g) ∷ k) e (WithMembers kind f g) refl (omega arith) r.start r.first (omega (arith, row.part.shallow))
        (expression_within l piece f r.start r.middle r.value)
        (record { part = record { of = e; same = refl; from = m.place; did = row.part; at = refl }; then = row.then })

    -- the set gets the numbers from one to another, which both stand above it
    spans_goes : (items : List Item) (u low high : Scalar) → within OfSet u ≡ true → IsMember low → IsMember high → (below : List ℕ) (p q : ℕ) → IsAt piece p Spn q
        → next library (record s { items = items; phase = Going }) ≡ with_items (record s { items = items; phase = Going }) (Value (Scalars (with_span u low high)) ∷ k)
        → Rest (ValueOf OfSet) q below c a → Goes ctx s items (going m p (scalar_word high ∷ scalar_word low ∷ scalar_word u ∷ below)) (c + 1)
    spans_goes items u low high fits from to below p q at becomes rest =
        let here : State = going m p (scalar_word high ∷ scalar_word low ∷ scalar_word u ∷ below) in
        let stack : List ℕ = scalar_word (with_span u low high) ∷ below in
        goes_one ctx s items here 0 c (running (going m q stack) s.world)
        (advances here s.world _ (at_step ctx here shared.program Spn q at ∙ span_act u low high fits from to own m below p q))
        (subst (λ (y : Source). Lands ctx y.phase y (running (going m q stack) s.world) c) (sym becomes)
        (lands_on ctx s m shared (Value (Scalars (with_span u low high)) ∷ k) q stack c a
        (at_once ctx _ Quiet q stack c a (record { part = record { kind = OfSet; fits = refl; refers = tt; below = below; is = refl }; then = rest }))))

    -- a set on the expression stack is its word
    set_word_is : (u : Scalar) (stack below : List ℕ) → HasSet ctx u stack below → stack ≡ scalar_word u ∷ below
    set_word_is u stack below has = has.is ∙ ap (λ (w : ℕ). w ∷ below) (plain_word h OfSet u refl has.fits)

    module _ (v : Scalar) (j : Kind) (fit : within j v ≡ true) (below : List ℕ) (is : m.stack ≡ word_for h v ∷ below) where
      -- the set is there, and then comes the number
      pub with_member_goes : (kind : Kind) (f : Expression) → Waiting ctx (Fill (WithMember kind f)) Rest (ValueOf j) m.place below c a → Goes ctx s (Value (Scalars v) ∷ Fill (WithMember kind f) ∷ k) m (c + 32)
      with_member_goes kind f row =
          let r = row.part.did.here in
          let value = expression_stands l piece f r.start r.middle r.value in
          operand_goes ctx s k m c a shared (Value (Scalars v) ∷ Fill (WithMember kind f) ∷ k) f (MemberOf v kind) refl (omega arith) r.middle (rw row.part.at r.value) (omega (arith, row.part.did.shallow, ap length is))
          (tested_within kind (kind_of f) r.middle r.tested value.1 r.test (instrs_within piece (Dup ∷ Spn ∷ []) r.tested row.part.did.end (omega arith) r.by))
          (record {
            part = record {
              to = row.part.of;
              below = below;
              row = record { of = f; same = refl; from = row.part.from; did = row.part.did; at = refl };
              set = record { fits = ap (λ (i : Kind). within i v) (sym (row.part.same ∙ r.typed)) ∙ fit; is = is };
            };
            then = row.then;
          })

      -- or the first of several
      pub with_members_goes : (kind : Kind) (f g : Expression) → Waiting ctx (Fill (WithMembers kind f g)) Rest (ValueOf j) m.place below c a → Goes ctx s (Value (Scalars v) ∷ Fill (WithMembers kind f g) ∷ k) m (c + 32)
      with_members_goes kind f g row =
          let r = row.part.did.here in
          let value = expression_stands l piece f r.start r.middle r.value in
          operand_goes ctx s k m c a shared (Value (Scalars v) ∷ Fill (WithMembers kind f g) ∷ k) f (MembersFrom v kind g) refl (omega arith) r.middle (rw row.part.at r.value) (omega (arith, row.part.did.shallow, ap length is))
          (tested_within kind (kind_of f) r.middle r.tested value.1 r.test (expression_within l piece g r.tested r.last r.last_value))
          (record {
            part = record {
              to = row.part.of;
              below = below;
              row = record { of = f; same = refl; from = row.part.from; did = row.part.did; at = refl };
              set = record { fits = ap (λ (i : Kind). within i v) (sym (row.part.same ∙ r.typed)) ∙ fit; is = is };
            };
            then = row.then;
          })

      word : (kind : Kind) → takes_value kind j ≡ true → m.stack ≡ scalar_word v ∷ below
      word kind takes = is ∙ ap (λ (w : ℕ). w ∷ below) (plain_word h j v (takes_plain kind j takes).1 fit)

      -- the number is there: its test, and then the set gets it
      pub member_of_goes : (u : Scalar) (kind : Kind) → Waiting ctx (Fill (MemberOf u kind)) Rest (ValueOf j) m.place below c a → Goes ctx s (Value (Scalars v) ∷ Fill (MemberOf u kind) ∷ k) m (c + 32)
      member_of_goes u kind row =
          let part = row.part in
          let r = part.row.did.here in
          let takes : takes_value kind j ≡ true = ap (takes_value kind) part.row.same ∙ r.takes in
          let items : List Item = Value (Scalars v) ∷ Fill (MemberOf u kind) ∷ k in
          let now : Source = record s { items = items; phase = Going } in
          let becomes : Bool → Source = λ b. cond b (with_items now (Value (Scalars (with_span u v v)) ∷ k)) (trapped library now trap.Range) in
          let full : m.stack ≡ scalar_word v ∷ scalar_word u ∷ part.below = word kind takes ∙ ap (λ (x : List ℕ). scalar_word v ∷ x) (set_word_is u below part.below part.set) in
          tested ctx s items m shared m.place m.stack kind j v takes fit below (word kind takes) r.tested (c + 32) (c + 2) (rw (part.row.at, part.row.same) r.test) (closed ctx k _ _ _ _ _ row.then)
          (λ out. ap becomes out)
          (λ one.
          let is_member : IsMember v = member_is kind v r.element one in
          subst (λ (x : List ℕ). Goes ctx s items (going m r.tested x) (c + 2)) (sym full)
          (leads ctx s items m shared Dup r.tested r.by.0 (scalar_word v ∷ scalar_word u ∷ part.below) (scalar_word v ∷ scalar_word v ∷ scalar_word u ∷ part.below) (c + 2) (c + 1) r.by.1
          (pushes (scalar_word v) r.by.0 (going m r.tested (scalar_word v ∷ scalar_word u ∷ part.below)) (omega (arith, part.row.did.shallow)))
          (spans_goes items u v v part.set.fits is_member is_member part.below r.by.0 part.row.did.end (subst (λ (q : ℕ). IsAt piece r.by.0 Spn q) r.by.2.2 r.by.2.1) (ap becomes one) row.then)
          (omega arith)))
          (omega arith)

      -- the first number is there: its test, and then comes the last
      pub members_from_goes : (u : Scalar) (kind : Kind) (f : Expression) → Waiting ctx (Fill (MembersFrom u kind f)) Rest (ValueOf j) m.place below c a → Goes ctx s (Value (Scalars v) ∷ Fill (MembersFrom u kind f) ∷ k) m (c + 32)
      members_from_goes u kind f row =
          let part = row.part in
          let r = part.row.did.here in
          let takes : takes_value kind j ≡ true = ap (takes_value kind) part.row.same ∙ r.takes in
          let items : List Item = Value (Scalars v) ∷ Fill (MembersFrom u kind f) ∷ k in
          let now : Source = record s { items = items; phase = Going } in
          let becomes : Bool → Source = λ b. cond b (with_items now (Evaluate f ∷ Fill (MembersTo u kind v) ∷ k)) (trapped library now trap.Range) in
          let last = expression_stands l piece f r.tested r.last r.last_value in
          tested ctx s items m shared m.place m.stack kind j v takes fit below (word kind takes) r.tested (c + 32) c (rw (part.row.at, part.row.same) r.test) (closed ctx k _ _ _ _ _ row.then)
          (λ out. ap becomes out)
          (λ one.
          operand_exact ctx s k (going m r.tested m.stack) c a shared items f (MembersTo u kind v) (ap becomes one) (omega arith) r.last r.last_value
          (omega (arith, part.row.did.shallow, ap length is, ap length part.set.is))
          (tested_within kind (kind_of f) r.last r.end last.1 r.last_test (instr_within piece r.end Spn part.row.did.end r.by))
          (record {
            part = record {
              to = part.to;
              first = part.row.of;
              below = part.below;
              row = record { of = f; same = refl; from = part.row.from; did = part.row.did; at = refl };
              low_fits = one;
              under = below;
              is = is;
              set = part.set;
            };
            then = row.then;
          }))
          (omega arith)

      -- the last is there
      pub members_to_goes : (u : Scalar) (kind : Kind) (low : Scalar) → Waiting ctx (Fill (MembersTo u kind low)) Rest (ValueOf j) m.place below c a → Goes ctx s (Value (Scalars v) ∷ Fill (MembersTo u kind low) ∷ k) m (c + 32)
      members_to_goes u kind low row =
          let r = row.part in
          let here = r.row.did.here in
          let takes : takes_value kind j ≡ true = ap (takes_value kind) r.row.same ∙ here.takes_last in
          let items : List Item = Value (Scalars v) ∷ Fill (MembersTo u kind low) ∷ k in
          let now : Source = record s { items = items; phase = Going } in
          let becomes : Bool → Source = λ b. cond b (with_items now (Value (Scalars (with_span u low v)) ∷ k)) (trapped library now trap.Range) in
          let full : m.stack ≡ scalar_word v ∷ scalar_word low ∷ scalar_word u ∷ r.below =
          word kind takes ∙ ap (λ (x : List ℕ). scalar_word v ∷ x) (r.is ∙ ap (λ (w : ℕ). w ∷ r.under) (plain_word h kind low (takes_plain kind j takes).0 r.low_fits) ∙ ap (λ (x : List ℕ). scalar_word low ∷ x) (set_word_is u r.under r.below r.set)) in
          tested ctx s items m shared m.place m.stack kind j v takes fit below (word kind takes) here.end (c + 32) (c + 1) (rw (r.row.at, r.row.same) here.last_test) (closed ctx k _ _ _ _ _ row.then)
          (λ out. ap becomes out)
          (λ one.
          subst (λ (x : List ℕ). Goes ctx s items (going m here.end x) (c + 1)) (sym full)
          (spans_goes items u low v r.set.fits (member_is kind low here.element r.low_fits) (member_is kind v here.element one) r.below here.end r.row.did.end here.by (ap becomes one) row.then))
          (omega arith)
