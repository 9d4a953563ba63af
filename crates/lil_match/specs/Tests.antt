-- The test that a value may be stored where one of a kind is wanted.
use Rattle.std.proofs.Common.{◌≡◌, ℕ, Bool, true, false, cond, List, ◌∷◌, refl, ap, ◌∙◌, arith}
use Rattle.std.specs.Prelude.{ℤ, pos, int_lt}
use Rattle.std.proofs.lemmas.Int.{ints}
use Rattle.lil_base.specs.{Words.{Whole, Cardinal, Integer, in_type, between, number_of, word_of}, Laws.{number_of-word}}
use Rattle.lil_base.specs.declared.fault.TrapKind.TheVariants as trap
use Rattle.lil_resolved.specs.Kinds.{Kind, is_base, compared_as, lesser, larger, least, greatest, covers, shared, Scalar, within, scalar_word, ordinal_of}
use Rattle.lil_mcode.specs.{declared.machine.Event.{Event, TheVariants.{Went, Trap}}, Table.{Module, State, act, going, on_one, range_row}}
use Rattle.lil_table.specs.Rows.{range_code}
use Rattle.lil_match.specs.{Arithmetic.reads_ordinal, Ranges.{has, fits_has, has_type}}

-- where each number is the kind's, that of a value is
pub covered : (k j : Kind) (z : ℤ) → covers k j ≡ true → has j z ≡ true → has k z ≡ true
covered k j z h there = grind (arith, ints)

-- the numbers that a kind and a base share
module _ (k j : Kind) (z : ℤ) (there : has j z ≡ true) where
  abbrev low : ℤ
  low = larger (least k) (least j)

  abbrev high : ℤ
  high = lesser (greatest k) (greatest j)

  -- they are numbers of the type as which words are compared
  shared_type : is_base j ≡ true → (in_type (compared_as j) (shared k j).0 ≡ true) × (in_type (compared_as j) (shared k j).1 ≡ true)
  shared_type base = by (int_lt high low) refl
    where
      none : (t : Whole) → (in_type t (pos 1) ≡ true) × (in_type t (pos 0) ≡ true)
      none Cardinal = (refl, refl)
      none Integer = (refl, refl)

      by : (e : Bool) → int_lt high low ≡ e → (in_type (compared_as j) (cond {A = ℤ × ℤ} e (pos 1, pos 0) (low, high)).0 ≡ true) × (in_type (compared_as j) (cond {A = ℤ × ℤ} e (pos 1, pos 0) (low, high)).1 ≡ true)
      by true is = none (compared_as j)
      by false is = (has_type j low base (grind (arith, ints)), has_type j high base (grind (arith, ints)))

  -- a number of the base lies between them where it is the kind's
  shared_test : between (shared k j).0 z (shared k j).1 ≡ has k z
  shared_test = grind (arith, ints)

-- the instruction that tests
range_act : (t : Whole) (x y : ℤ) (q : ℕ) (own : Module) (m : State) → act (range_code t (x, y)) q own m ≡ on_one m m.stack (range_row t (word_of x) (word_of y) q m)
range_act Cardinal x y q own m = refl
range_act Integer x y q own m = refl

-- It goes on with the same stack where the value's number is one of the kind, else it traps.
pub test_act : (k j : Kind) (v : Scalar) (own : Module) (m : State) (below : List ℕ) (q : ℕ) → is_base j ≡ true → within j v ≡ true → m.stack ≡ scalar_word v ∷ below
    → act (range_code (compared_as j) (shared k j)) q own m ≡ (let r : Event × State = cond (has k (ordinal_of v)) (Went, going m q m.stack) (Trap trap.Range, m) in r)
test_act k j v own m below q base fits is =
    let there : has j (ordinal_of v) ≡ true = fits_has j v fits in
    let types = shared_type k j (ordinal_of v) there base in
    let t : Whole = compared_as j in
    range_act t (shared k j).0 (shared k j).1 q own m
    ∙ ap (λ (x : List ℕ). on_one m x (range_row t (word_of (shared k j).0) (word_of (shared k j).1) q m)) is
    ∙ ap (λ (y : Bool). let r : Event × State = cond y (Went, going m q m.stack) (Trap trap.Range, m) in r)
    (ap (λ (y : ℤ). between y (number_of t (scalar_word v)) (number_of t (word_of (shared k j).1))) (number_of-word t (shared k j).0 types.0)
    ∙ ap (λ (y : ℤ). between (shared k j).0 y (number_of t (word_of (shared k j).1))) (reads_ordinal j v base fits)
    ∙ ap (between (shared k j).0 (ordinal_of v)) (number_of-word t (shared k j).1 types.1)
    ∙ shared_test k j (ordinal_of v) there)
