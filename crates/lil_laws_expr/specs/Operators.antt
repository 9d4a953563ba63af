-- The machine's operators on words are the meaning's on scalars.
use Rattle.std.proofs.Common.{◌≡◌, ℕ, suc, ◌==◌, ◌≢◌, ◌<◌, ◌≤◌, length, arith, Bool, true, false, cond, not, ◌||◌, Option, Some, None, Result, Ok, Err, List, [], ◌∷◌, refl, sym, ap, ◌∙◌, subst}
use Rattle.std.proofs.lemmas.{Nat.mod_below, Bool.{and_parts, true≢false, Decides.nat_tests}, Int.{ints, quot-rem}}
use Rattle.std.specs.Prelude.{ℤ, pos, negsuc, neg_ℤ, int_lt, int_rem, nat_le, ◌%◌, ◌-◌, ◌+◌}
use Rattle.lil_base.specs.{Words.{Whole, Cardinal, Integer, least, greatest, in_type, is_zero, kept, whole_rest, sum, difference, product, quotient, remainder, negation, absolute, number_of, word_of}, Laws.{in_type_card, kept_in, bounds}, declared.{fault.{ArithFault.ArithFault, TrapKind.TrapKind}, operator.{OneOp.OneOp, TwoOp.TwoOp}}}
use Rattle.lil_base.specs.{declared.operator.TwoOp.TheVariants.{Equal, Unequal, Less, AtMost, Greater, AtLeast, In, Plus, Minus, Times, Slash, Div, Mod}, Sets.{has, set_word}, SetLaws.has_no}
use Rattle.lil_base.specs.declared.fault.TrapKind.TheVariants as trap
use Rattle.lil_base.specs.declared.operator.OneOp.TheVariants as one
use Rattle.lil_resolved.specs.Kinds.{Pointee, Kind, OfWhole, OfTruth, OfCharacter, OfEnumeration, OfSet, OfPointer, OfProcedure, OfRange, base_of, is_base, is_ordinal, is_set, is_whole, is_plain, compared_as, shared, covers, Scalar, Truth, Character, Number, SetOf, same_reference, within, scalar_of, scalar_word, ordinal_of, truth_number, truth_of, members_of}
use Rattle.lil_resolved.specs.{Members.{same_members, included, is_in, united, without, shared_members, unshared}, MemberLaws.{words_equal, word_has, word_included, word_united, word_without, word_shared, word_unshared}, Resolved.{Function, Abs, Cap, Chr, Odd, Ord, Val, is_relation, result_kind, right_kind, function_kind}, Sizes.function_depth}
use Rattle.lil_resolved.specs.Sound.{takes_one, takes_two, takes_function}
use Rattle.lil_base.specs.Sets as sets
use Rattle.lil_meaning.specs.Steps.{whole_of, outcome, compared_number, relation_of, related, compared, set_value, applied, one_applied, capital, valued, ranged, function_value, is_same, is_other, is_at_most, is_greater, is_at_least}
use Rattle.lil_asm.specs.declared.instr.Instr.{Instr, TheVariants.{Liw, Swp, Adc, Sbc, Mlc, Dvc, Mdc, Adi, Sbi, Mli, Dvi, Mdi, Ngi, Abi, Not, Uni, Dif, Its, Sym, Sin, Sle, Equ, Neq}}
use Rattle.lil_asm.specs.declared.instr.Instr.TheVariants as instr
use Rattle.lil_mcode.specs.{declared.machine.Event.{Event, TheVariants.{Went, Trap}}, Table.{Module, State, act, going, on_one, on_two, swap_row, result_row, two_row, sign_row, change_row, denied, compare_row, join_row, truth, equal, unequal, less, at_most, is_member}}
use Rattle.lil_table.specs.Rows.{less_code, at_most_code, one_code, number_code, set_code, two_code, range_code, test_code, function_code}
use Rattle.lil_match.specs.{Arithmetic.{word_is, reads_ordinal, reads, same_words, other_is, sum_fits, difference_fits, product_fits, quotient_fits, remainder_fits, negation_fits, absolute_fits}, Homes.within_base, Ranges.{value_where, value_is, number_is, value_fits, fits_has, has_type, ordinal_base, ordinal_plain, has as has_number}}
use Rattle.lil_match.specs.{Tests.{covered, test_act}, Steps.pushes}

-- the word of a value in place of its operands, which stood above others, or its trap
abbrev pub answer_row : State → ℕ → List ℕ → Result Scalar TrapKind → Event × State
answer_row m q below (Ok v) = (Went, going m q (scalar_word v ∷ below))
answer_row m q below (Err t) = (Trap t, m)

-- Instructions one behind another, wherever they stand, give a value's word in place of the operands. The last of them may trap.
abbrev pub Gives : Module → List Instr → State → List ℕ → Result Scalar TrapKind → Type 0
Gives own [] m below r = ⊥
Gives own (i ∷ []) m below r = (q : ℕ) → act i q own m ≡ answer_row m q below r
Gives own (i ∷ j ∷ is) m below r = (stack : List ℕ) × ((q : ℕ) → act i q own m ≡ (Went, going m q stack)) × ((q : ℕ) → Gives own (j ∷ is) (going m q stack) below r)

-- a value, if there is one, is one of the kind
abbrev pub Fits : Kind → Result Scalar TrapKind → Type 0
Fits k (Ok v) = within k v ≡ true
Fits k (Err t) = Unit {0}

answers : (m : State) (q : ℕ) (below : List ℕ) (r : Result ℤ ArithFault) → result_row m q below r ≡ answer_row m q below (outcome r)
answers m q below (Ok z) = refl
answers m q below (Err e) = refl

outcome_fits : (t : Whole) (r : Result ℤ ArithFault) → ((z : ℤ) → r ≡ Ok z → within (OfWhole t) (Number z) ≡ true) → Fits (OfWhole t) (outcome r)
outcome_fits t (Ok z) fits = fits z refl
outcome_fits t (Err e) fits = tt

truth_is : (b : Bool) → truth b ≡ truth_number b
truth_is true = refl
truth_is false = refl

denied_is : (b : Bool) → denied (truth_number b) ≡ truth_number (not b)
denied_is true = refl
denied_is false = refl

less_row : (t : Whole) (own : Module) (m : State) (q : ℕ) → act (less_code t) q own m ≡ compare_row (less t) q m m.stack
less_row Cardinal own m q = refl
less_row Integer own m q = refl

at_most_row : (t : Whole) (own : Module) (m : State) (q : ℕ) → act (at_most_code t) q own m ≡ compare_row (at_most t) q m m.stack
at_most_row Cardinal own m q = refl
at_most_row Integer own m q = refl

-- ---- kinds without references
whole_plain : (k : Kind) → is_whole k ≡ true → is_plain k ≡ true
whole_plain (OfWhole t) h = refl
whole_plain k h = cc

pub one_plain : (o : OneOp) (k : Kind) → takes_one o k ≡ true → is_plain k ≡ true
one_plain one.Plus k h = whole_plain k h
one_plain one.Minus (OfWhole t) h = refl
one_plain one.Not OfTruth h = refl
one_plain o k h = cc

-- what an operator on two values gives
pub two_plain : (o : TwoOp) (k : Kind) → takes_two o k ≡ true → is_plain (result_kind (is_relation o) k) ≡ true
two_plain Equal (OfPointer n) h = refl
two_plain Unequal (OfPointer n) h = refl
two_plain o (OfPointer n) h = cc
two_plain o (OfProcedure n) h = cc
two_plain o (OfRange part low high) h = cc
two_plain o k h = by (is_relation o) k refl
  where
    by : (b : Bool) (k : Kind) → is_plain k ≡ true → is_plain (result_kind b k) ≡ true
    by true k h = refl
    by false k h = h

-- where no set is compared
no_other : (b : Bool) → (b || false) ≡ true → b ≡ true
no_other true h = refl
no_other false h = h

pub right_plain : (o : TwoOp) (k : Kind) → is_plain k ≡ true → is_plain (right_kind o k) ≡ true
right_plain In k h = refl
right_plain _ k h = h

-- what a standard function takes and gives
pub function_plain : (f : Function) (k : Kind) → takes_function f k ≡ true → (is_plain k ≡ true) × (is_plain (function_kind f) ≡ true)
function_plain (Abs Cardinal) (OfWhole Cardinal) h = (refl, refl)
function_plain (Abs Integer) (OfWhole Integer) h = (refl, refl)
function_plain Cap OfCharacter h = (refl, refl)
function_plain Chr k h = (whole_plain k h, refl)
function_plain Odd k h = (whole_plain k h, refl)
function_plain Ord k h = (ordinal_plain k h, refl)
function_plain (Val j) k h = let p = and_parts (is_ordinal k) (is_ordinal (base_of j)) h in (ordinal_plain k p.0, ordinal_plain (base_of j) p.1)
function_plain f k h = cc

-- kinds that compare by numbers are no sets
no_set : (k : Kind) → is_ordinal k ≡ true → is_set k ≡ true → ⊥
no_set OfSet h i = cc
no_set k h i = cc

-- a value of a kind that compares has a number as which it is compared
compared_is : (k : Kind) (v : Scalar) → is_ordinal k ≡ true → within k v ≡ true → compared_number k v ≡ Some (ordinal_of v)
compared_is (OfWhole t) (Number z) base h = refl
compared_is OfTruth (Truth b) base h = refl
compared_is OfCharacter (Character c) base h = refl
compared_is (OfEnumeration n) (Number z) base h = refl
compared_is k v base h = cc

-- relations of values of a kind that compares are those of their words
module _ (k : Kind) (u v : Scalar) (ordinal : is_ordinal k ≡ true) (left : within k u ≡ true) (right : within k v ≡ true) where
  base : is_base k ≡ true
  base = ordinal_base k ordinal

  relates : (r : ℤ → ℤ → Bool) → related r (compared_number k u) (compared_number k v) ≡ Ok (Truth (r (ordinal_of u) (ordinal_of v)))
  relates r =
      ap (λ (x : Option ℤ). related r x (compared_number k v)) (compared_is k u ordinal left)
      ∙ ap (related r (Some (ordinal_of u))) (compared_is k v ordinal right)

  relation_fits : (r : ℤ → ℤ → Bool) → Fits OfTruth (related r (compared_number k u) (compared_number k v))
  relation_fits r = subst (Fits OfTruth) (sym (relates r)) refl

  same_less : less (compared_as k) (scalar_word u) (scalar_word v) ≡ int_lt (ordinal_of u) (ordinal_of v)
  same_less = cc (reads_ordinal k u base left, reads_ordinal k v base right)

  same_at_most : at_most (compared_as k) (scalar_word u) (scalar_word v) ≡ is_at_most (ordinal_of u) (ordinal_of v)
  same_at_most = cc (reads_ordinal k u base left, reads_ordinal k v base right)

  same_equal : (scalar_word u == scalar_word v) ≡ is_same (ordinal_of u) (ordinal_of v)
  same_equal =
      ap (λ (w : ℕ). w == scalar_word v) (word_is u)
      ∙ ap (λ (w : ℕ). word_of (ordinal_of u) == w) (word_is v)
      ∙ same_words (compared_as k) (ordinal_of u) (ordinal_of v)
      (ap (number_of (compared_as k)) (sym (word_is u)) ∙ reads_ordinal k u base left)
      (ap (number_of (compared_as k)) (sym (word_is v)) ∙ reads_ordinal k v base right)

-- an operator on one value
module _ (own : Module) (m : State) (below : List ℕ) (v : Scalar) (is : m.stack ≡ scalar_word v ∷ below) where
  -- an operation on an INTEGER
  sign_gives : (f : Whole → ℤ → Result ℤ ArithFault) (i : Instr) → ((q : ℕ) → act i q own m ≡ on_one m m.stack (sign_row f q m))
      → within (OfWhole Integer) v ≡ true → Gives own (i ∷ []) m below (outcome (f Integer (whole_of v)))
  sign_gives f i row fits = λ q.
      row q
      ∙ ap (λ (x : List ℕ). on_one m x (sign_row f q m)) is
      ∙ ap (λ (z : ℤ). result_row m q below (f Integer z)) (reads Integer v fits)
      ∙ answers m q below (f Integer (whole_of v))

  not_gives : (b : Bool) → v ≡ Truth b → Gives own (Not ∷ []) m below (Ok (Truth (not b)))
  not_gives b e = λ q.
      ap (λ (x : List ℕ). on_one m x (change_row denied q m)) is
      ∙ ap (λ (w : ℕ). let r : Event × State = (Went, going m q (w ∷ below)) in r) (ap (λ (x : Scalar). denied (scalar_word x)) e ∙ denied_is b)

  -- the sign has no code where it changes nothing
  pub one_gives : (o : OneOp) (k : Kind) → takes_one o k ≡ true → o ≢ one.Plus → within k v ≡ true → Gives own (one_code o k) m below (one_applied o k v)
  one_gives one.Plus k takes some fits = absurd (some refl)
  one_gives one.Minus (OfWhole Integer) takes some fits = sign_gives negation Ngi (λ q. refl) fits
  one_gives one.Not OfTruth takes some fits = by v refl fits
    where
      by : (x : Scalar) → v ≡ x → within OfTruth x ≡ true → Gives own (Not ∷ []) m below (Ok (Truth (not (truth_of x))))
      by (Truth b) e h = not_gives b e
      by x e h = cc
  one_gives o k takes some fits = cc

-- an operator on two values
module _ (own : Module) (m : State) (below : List ℕ) (u v : Scalar) (is : m.stack ≡ scalar_word v ∷ scalar_word u ∷ below) where
  -- an operation on whole numbers
  operation_gives : (f : Whole → ℤ → ℤ → Result ℤ ArithFault) (t : Whole) (i : Instr) → ((q : ℕ) → act i q own m ≡ two_row f t q m m.stack)
      → within (OfWhole t) u ≡ true → within (OfWhole t) v ≡ true → Gives own (i ∷ []) m below (outcome (f t (whole_of u) (whole_of v)))
  operation_gives f t i row left right = λ q.
      row q
      ∙ ap (two_row f t q m) is
      ∙ ap (λ (z : ℤ). result_row m q below (f t z (number_of t (scalar_word v)))) (reads t u left)
      ∙ ap (λ (z : ℤ). result_row m q below (f t (whole_of u) z)) (reads t v right)
      ∙ answers m q below (f t (whole_of u) (whole_of v))

  -- a comparison of words
  comparison_gives : (f : ℕ → ℕ → Bool) (b : Bool) (i : Instr) → ((q : ℕ) → act i q own m ≡ compare_row f q m m.stack) → f (scalar_word u) (scalar_word v) ≡ b
      → Gives own (i ∷ []) m below (Ok (Truth b))
  comparison_gives f b i row same = λ q.
      row q
      ∙ ap (compare_row f q m) is
      ∙ ap (λ (w : ℕ). let r : Event × State = (Went, going m q (w ∷ below)) in r) (ap truth same ∙ truth_is b)

  -- a comparison of words that is a relation of the numbers
  relation_gives : (k : Kind) → is_ordinal k ≡ true → within k u ≡ true → within k v ≡ true → (r : ℤ → ℤ → Bool) (f : ℕ → ℕ → Bool) (i : Instr)
      → ((q : ℕ) → act i q own m ≡ compare_row f q m m.stack) → f (scalar_word u) (scalar_word v) ≡ r (ordinal_of u) (ordinal_of v)
      → Gives own (i ∷ []) m below (related r (compared_number k u) (compared_number k v))
  relation_gives k base left right r f i row same =
      subst (Gives own (i ∷ []) m below) (sym (relates k u v base left right r)) (comparison_gives f (r (ordinal_of u) (ordinal_of v)) i row same)

  less_gives : (k : Kind) → is_ordinal k ≡ true → within k u ≡ true → within k v ≡ true → Gives own (less_code (compared_as k) ∷ []) m below (compared (relation_of Less) Less k u v)
  less_gives k base left right = relation_gives k base left right int_lt (less (compared_as k)) (less_code (compared_as k)) (less_row (compared_as k) own m) (same_less k u v base left right)

  at_most_gives : (k : Kind) → is_ordinal k ≡ true → within k u ≡ true → within k v ≡ true → Gives own (at_most_code (compared_as k) ∷ []) m below (compared (relation_of AtMost) AtMost k u v)
  at_most_gives k base left right = relation_gives k base left right is_at_most (at_most (compared_as k)) (at_most_code (compared_as k)) (at_most_row (compared_as k) own m) (same_at_most k u v base left right)

  -- both operands the other way round
  swapped_gives : (i : Instr) (r : Result Scalar TrapKind) → ((n : State) → n.stack ≡ scalar_word u ∷ scalar_word v ∷ below → Gives own (i ∷ []) n below r) → Gives own (Swp ∷ i ∷ []) m below r
  swapped_gives i r gives = (
    scalar_word u ∷ scalar_word v ∷ below,
    λ q. ap (λ (x : List ℕ). on_two m x (swap_row q m)) is,
    λ q. gives (going m q (scalar_word u ∷ scalar_word v ∷ below)) refl,
  )

  -- an operation on two words that gives the word of a set
  joining_gives : (f : ℕ → ℕ → ℕ) (p : ℕ → Bool) (i : Instr) → ((q : ℕ) → act i q own m ≡ on_two m m.stack (join_row f q m)) → f (scalar_word u) (scalar_word v) ≡ set_word p
      → Gives own (i ∷ []) m below (Ok (SetOf p))
  joining_gives f p i row same = λ q.
      row q
      ∙ ap (λ (x : List ℕ). on_two m x (join_row f q m)) is
      ∙ ap (λ (w : ℕ). let r : Event × State = (Went, going m q (w ∷ below)) in r) same

-- an operator's code does what the operator means: on two values that compare by their numbers
module _ (own : Module) (m : State) (below : List ℕ) (u v : Scalar) (is : m.stack ≡ scalar_word v ∷ scalar_word u ∷ below) where
  number_gives : (o : TwoOp) (k : Kind) → is_ordinal k ≡ true → takes_two o k ≡ true → o ≢ In → within k u ≡ true → within k v ≡ true
      → Gives own (number_code o (compared_as k)) m below (compared (relation_of o) o k u v)
  number_gives Equal k ordinal takes none left right = relation_gives own m below u v is k ordinal left right is_same equal Equ (λ q. refl) (same_equal k u v ordinal left right)
  number_gives Unequal k ordinal takes none left right =
      relation_gives own m below u v is k ordinal left right is_other unequal Neq (λ q. refl)
      (ap not (same_equal k u v ordinal left right) ∙ sym (other_is (ordinal_of u) (ordinal_of v)))
  number_gives Less k ordinal takes none left right = less_gives own m below u v is k ordinal left right
  number_gives AtMost k ordinal takes none left right = at_most_gives own m below u v is k ordinal left right
  number_gives Greater k ordinal takes none left right =
      swapped_gives own m below u v is (less_code (compared_as k)) (compared (relation_of Greater) Greater k u v)
      (λ n e.
      subst (Gives own (less_code (compared_as k) ∷ []) n below) (relates k v u ordinal right left int_lt ∙ sym (relates k u v ordinal left right is_greater))
      (less_gives own n below v u e k ordinal right left))
  number_gives AtLeast k ordinal takes none left right =
      swapped_gives own m below u v is (at_most_code (compared_as k)) (compared (relation_of AtLeast) AtLeast k u v)
      (λ n e.
      subst (Gives own (at_most_code (compared_as k) ∷ []) n below) (relates k v u ordinal right left is_at_most ∙ sym (relates k u v ordinal left right is_at_least))
      (at_most_gives own n below v u e k ordinal right left))
  number_gives Plus (OfWhole Cardinal) ordinal takes none left right = operation_gives own m below u v is sum Cardinal Adc (λ q. refl) left right
  number_gives Plus (OfWhole Integer) ordinal takes none left right = operation_gives own m below u v is sum Integer Adi (λ q. refl) left right
  number_gives Minus (OfWhole Cardinal) ordinal takes none left right = operation_gives own m below u v is difference Cardinal Sbc (λ q. refl) left right
  number_gives Minus (OfWhole Integer) ordinal takes none left right = operation_gives own m below u v is difference Integer Sbi (λ q. refl) left right
  number_gives Times (OfWhole Cardinal) ordinal takes none left right = operation_gives own m below u v is product Cardinal Mlc (λ q. refl) left right
  number_gives Times (OfWhole Integer) ordinal takes none left right = operation_gives own m below u v is product Integer Mli (λ q. refl) left right
  number_gives Div (OfWhole Cardinal) ordinal takes none left right = operation_gives own m below u v is quotient Cardinal Dvc (λ q. refl) left right
  number_gives Div (OfWhole Integer) ordinal takes none left right = operation_gives own m below u v is quotient Integer Dvi (λ q. refl) left right
  number_gives Mod (OfWhole Cardinal) ordinal takes none left right = operation_gives own m below u v is remainder Cardinal Mdc (λ q. refl) left right
  number_gives Mod (OfWhole Integer) ordinal takes none left right = operation_gives own m below u v is remainder Integer Mdi (λ q. refl) left right
  number_gives In k ordinal takes none left right = absurd (none refl)
  number_gives Slash k ordinal takes none left right = absurd (no_set k ordinal takes)
  number_gives o k ordinal takes none left right = cc

-- on two sets
module _ (own : Module) (m : State) (below : List ℕ) (s t : ℕ → Bool) (is : m.stack ≡ set_word t ∷ set_word s ∷ below) where
  set_gives : (o : TwoOp) → takes_two o OfSet ≡ true → o ≢ In → Gives own (set_code o) m below (Ok (set_value o s t))
  set_gives Equal takes none = comparison_gives own m below (SetOf s) (SetOf t) is equal (same_members s t) Equ (λ q. refl) (words_equal s t)
  set_gives Unequal takes none = comparison_gives own m below (SetOf s) (SetOf t) is unequal (not (same_members s t)) Neq (λ q. refl) (ap not (words_equal s t))
  set_gives AtMost takes none = comparison_gives own m below (SetOf s) (SetOf t) is sets.is_within (included s t) Sle (λ q. refl) (word_included s t)
  set_gives AtLeast takes none =
      swapped_gives own m below (SetOf s) (SetOf t) is Sle (Ok (Truth (included t s)))
      (λ n e. comparison_gives own n below (SetOf t) (SetOf s) e sets.is_within (included t s) Sle (λ q. refl) (word_included t s))
  set_gives Plus takes none = joining_gives own m below (SetOf s) (SetOf t) is sets.union (united s t) Uni (λ q. refl) (word_united s t)
  set_gives Minus takes none = joining_gives own m below (SetOf s) (SetOf t) is sets.minus (without s t) Dif (λ q. refl) (word_without s t)
  set_gives Times takes none = joining_gives own m below (SetOf s) (SetOf t) is sets.meet (shared_members s t) Its (λ q. refl) (word_shared s t)
  set_gives Slash takes none = joining_gives own m below (SetOf s) (SetOf t) is sets.apart (unshared s t) Sym (λ q. refl) (word_unshared s t)
  set_gives In takes none = absurd (none refl)
  set_gives o takes none = cc

-- a number is in a set where its word is
member_where : (t : Whole) (z : ℤ) (s : ℕ → Bool) → in_type t z ≡ true → has (set_word s) (word_of z) ≡ is_in s z
member_where t (pos n) s h = word_has s n
member_where Cardinal (negsuc n) s h = cc
member_where Integer (negsuc n) s h = let b = bounds (least Integer) (negsuc n) (greatest Integer) h in has_no s (65535 - n) (omega (arith, ints, b.0))

-- on a value and a set
module _ (own : Module) (m : State) (below : List ℕ) (u : Scalar) (s : ℕ → Bool) (is : m.stack ≡ set_word s ∷ scalar_word u ∷ below) where
  in_gives : (k : Kind) → is_ordinal k ≡ true → within k u ≡ true → Gives own (Sin ∷ []) m below (Ok (Truth (is_in s (ordinal_of u))))
  in_gives k ordinal fits =
      comparison_gives own m below u (SetOf s) is is_member (is_in s (ordinal_of u)) Sin (λ q. refl)
      (ap (has (set_word s)) (word_is u) ∙ member_where (compared_as k) (ordinal_of u) s (has_type k (ordinal_of u) (ordinal_base k ordinal) (fits_has k u fits)))

-- on two pointers, of which each word is that of what it refers to
module _ (own : Module) (m : State) (below : List ℕ) (x y : ℕ) (is : m.stack ≡ y ∷ x ∷ below) where
  words_give : (f : ℕ → ℕ → Bool) (b : Bool) (i : Instr) → ((q : ℕ) → act i q own m ≡ compare_row f q m m.stack) → f x y ≡ b → Gives own (i ∷ []) m below (Ok (Truth b))
  words_give f b i row same = λ q.
      row q
      ∙ ap (compare_row f q m) is
      ∙ ap (λ (w : ℕ). let r : Event × State = (Went, going m q (w ∷ below)) in r) (ap truth same ∙ truth_is b)

  pub pointer_gives : (to : Pointee) (u v : Scalar) → (x == y) ≡ same_reference u v → (o : TwoOp) → takes_two o (OfPointer to) ≡ true → Gives own (two_code o (OfPointer to)) m below (applied o (OfPointer to) u v)
  pointer_gives to u v same Equal takes = words_give equal (same_reference u v) Equ (λ q. refl) same
  pointer_gives to u v same Unequal takes = words_give unequal (not (same_reference u v)) Neq (λ q. refl) (ap not same)
  pointer_gives to u v same o takes = cc

-- no operator takes a part of a kind
pub ranged_none : (o : TwoOp) (part : Kind) (low high : ℤ) → takes_two o (OfRange part low high) ≡ true → ⊥
ranged_none Equal part low high h = cc
ranged_none o part low high h = cc

-- or two procedures
pub procedures_none : (o : TwoOp) (n : ℕ) → takes_two o (OfProcedure n) ≡ true → ⊥
procedures_none Equal n h = cc
procedures_none o n h = cc

counted : (n : ℕ) (o : TwoOp) → takes_two o (OfEnumeration n) ≡ true → is_ordinal (OfEnumeration n) ≡ true
counted n Equal h = h
counted n Unequal h = h
counted n Less h = h
counted n AtMost h = no_other (is_ordinal (OfEnumeration n)) h
counted n Greater h = h
counted n AtLeast h = no_other (is_ordinal (OfEnumeration n)) h
counted n In h = h
counted n o h = cc

-- of all kinds
module _ (own : Module) (m : State) (below : List ℕ) where
  in_any : (u v : Scalar) → m.stack ≡ scalar_word v ∷ scalar_word u ∷ below → (k : Kind) → takes_two In k ≡ true → within k u ≡ true → within OfSet v ≡ true → Gives own (two_code In k) m below (applied In k u v)
  in_any u (SetOf t) is k takes left right = in_gives own m below u t is k takes left
  in_any u v is k takes left right = cc

  sets_any : (u v : Scalar) → m.stack ≡ scalar_word v ∷ scalar_word u ∷ below → (o : TwoOp) → takes_two o OfSet ≡ true → o ≢ In → within OfSet u ≡ true → within OfSet v ≡ true
      → Gives own (set_code o) m below (Ok (set_value o (members_of u) (members_of v)))
  sets_any (SetOf s) (SetOf t) is o takes none left right = set_gives own m below s t is o takes none
  sets_any u v is o takes none left right = cc

  pub two_gives : (u v : Scalar) → m.stack ≡ scalar_word v ∷ scalar_word u ∷ below → (o : TwoOp) (k : Kind) → is_plain k ≡ true → takes_two o k ≡ true → within k u ≡ true → within (right_kind o k) v ≡ true
      → Gives own (two_code o k) m below (applied o k u v)
  two_gives u v is In k plain takes left right = in_any u v is k takes left right
  two_gives u v is o OfSet plain takes left right = sets_any u v is o takes (λ e. cc) left right
  two_gives u v is o (OfWhole t) plain takes left right = number_gives own m below u v is o (OfWhole t) refl takes (λ e. cc) left right
  two_gives u v is o OfTruth plain takes left right = number_gives own m below u v is o OfTruth refl takes (λ e. cc) left right
  two_gives u v is o OfCharacter plain takes left right = number_gives own m below u v is o OfCharacter refl takes (λ e. cc) left right
  two_gives u v is o (OfEnumeration n) plain takes left right = number_gives own m below u v is o (OfEnumeration n) (counted n o takes) takes (λ e. cc) left right
  two_gives u v is o (OfPointer n) plain takes left right = absurd (true≢false (sym plain))
  two_gives u v is o (OfProcedure n) plain takes left right = absurd (true≢false (sym plain))
  two_gives u v is o (OfRange part low high) plain takes left right = absurd (ranged_none o part low high takes)

-- an operator on two values has one or two instructions
pub two_length : (o : TwoOp) (k : Kind) → takes_two o k ≡ true → (0 < length (two_code o k)) × (length (two_code o k) ≤ 2)
two_length In k takes = (omega arith, omega arith)
two_length o OfSet takes = (first_of (omega arith, cc), first_of (omega arith, cc))
two_length Plus (OfWhole Cardinal) takes = (omega arith, omega arith)
two_length Minus (OfWhole Cardinal) takes = (omega arith, omega arith)
two_length Times (OfWhole Cardinal) takes = (omega arith, omega arith)
two_length Div (OfWhole Cardinal) takes = (omega arith, omega arith)
two_length Mod (OfWhole Cardinal) takes = (omega arith, omega arith)
two_length _ _ takes = (first_of (omega arith, cc), first_of (omega arith, cc))

-- what an operator gives is a value of its kind
pub one_fits : (o : OneOp) (k : Kind) (v : Scalar) → takes_one o k ≡ true → within k v ≡ true → Fits k (one_applied o k v)
one_fits one.Plus k v takes fits = fits
one_fits one.Minus (OfWhole t) v takes fits = outcome_fits t _ (negation_fits t (whole_of v))
one_fits one.Not OfTruth v takes fits = refl
one_fits o k v takes fits = cc

pub two_fits : (o : TwoOp) (k : Kind) (u v : Scalar) → takes_two o k ≡ true → within k u ≡ true → within (right_kind o k) v ≡ true → Fits (result_kind (is_relation o) k) (applied o k u v)
two_fits In k u v takes left right = refl
two_fits o OfSet u v takes left right = cc
two_fits o (OfPointer n) u v takes left right = cc
two_fits Equal k u v takes left right = relation_fits k u v takes left right is_same
two_fits Unequal k u v takes left right = relation_fits k u v takes left right is_other
two_fits Less k u v takes left right = relation_fits k u v takes left right int_lt
two_fits AtMost k u v takes left right = relation_fits k u v (no_other (is_ordinal k) takes) left right is_at_most
two_fits Greater k u v takes left right = relation_fits k u v takes left right is_greater
two_fits AtLeast k u v takes left right = relation_fits k u v (no_other (is_ordinal k) takes) left right is_at_least
two_fits Plus (OfWhole t) u v takes left right = outcome_fits t _ (sum_fits t (whole_of u) (whole_of v))
two_fits Minus (OfWhole t) u v takes left right = outcome_fits t _ (difference_fits t (whole_of u) (whole_of v))
two_fits Times (OfWhole t) u v takes left right = outcome_fits t _ (product_fits t (whole_of u) (whole_of v))
two_fits Div (OfWhole t) u v takes left right = outcome_fits t _ (quotient_fits t (whole_of u) (whole_of v))
two_fits Mod (OfWhole t) u v takes left right = outcome_fits t _ (remainder_fits t (whole_of u) (whole_of v))
two_fits _ k u v takes left right = cc

-- ---- standard functions
-- what comes of a number of a kind
ranged_fits : (k : Kind) (z : ℤ) → Fits (base_of k) (ranged k z)
ranged_fits k z = subst (λ (x : Option Scalar). Fits (base_of k) (valued x)) (sym (value_where k z)) (by (has_number k z) refl)
  where
    by : (b : Bool) → has_number k z ≡ b → Fits (base_of k) (valued (cond b (Some (scalar_of k z)) None))
    by true e = within_base k (scalar_of k z) (value_fits k z e)
    by false e = tt

-- its word is the number's
same_word : (k : Kind) (v : Scalar) → has_number k (ordinal_of v) ≡ true → scalar_word (scalar_of k (ordinal_of v)) ≡ scalar_word v
same_word k v h = word_is (scalar_of k (ordinal_of v)) ∙ ap word_of (number_is k (ordinal_of v) h) ∙ sym (word_is v)

-- a value with the same word, which is one of a kind
abbrev pub Same : Kind → Scalar → Result Scalar TrapKind → Type 0
Same k v r = (u : Scalar) × (r ≡ Ok u) × (scalar_word u ≡ scalar_word v) × (within k u ≡ true)

-- where a test is left out, the value stays
untested : (k j : Kind) (v : Scalar) → within j v ≡ true → test_code k j ≡ [] → Same (base_of k) v (ranged k (ordinal_of v))
untested k j v fits none = by (covers k j) refl none
  where
    by : (b : Bool) → covers k j ≡ b → cond b [] (range_code (compared_as j) (shared k j) ∷ []) ≡ [] → Same (base_of k) v (ranged k (ordinal_of v))
    by true e none =
        let h : has_number k (ordinal_of v) ≡ true = covered k j (ordinal_of v) e (fits_has j v fits) in
        (scalar_of k (ordinal_of v), ap valued (value_is k (ordinal_of v) h), same_word k v h, within_base k (scalar_of k (ordinal_of v)) (value_fits k (ordinal_of v) h))
    by false e none = cc

whole_base : (j : Kind) → is_whole j ≡ true → is_base j ≡ true
whole_base (OfWhole t) h = refl
whole_base j h = cc

whole_ordinal : (j : Kind) (v : Scalar) → is_whole j ≡ true → within j v ≡ true → ordinal_of v ≡ whole_of v
whole_ordinal (OfWhole t) (Number z) whole h = refl
whole_ordinal j v whole h = cc

capital_fits : (c : ℕ) → nat_le c 255 ≡ true → nat_le (capital c) 255 ≡ true
capital_fits c h = grind (arith, nat_tests)

cap_fits : (j : Kind) (v : Scalar) → takes_function Cap j ≡ true → within j v ≡ true → Fits OfCharacter (function_value Cap v)
cap_fits OfCharacter (Character c) takes h = capital_fits c h
cap_fits j v takes h = cc

-- what a standard function gives is a value of its kind
pub function_fits : (f : Function) (j : Kind) (v : Scalar) → takes_function f j ≡ true → within j v ≡ true → Fits (function_kind f) (function_value f v)
function_fits (Abs t) j v takes h = outcome_fits t _ (absolute_fits t (whole_of v))
function_fits Cap j v takes h = cap_fits j v takes h
function_fits Chr j v takes h = ranged_fits OfCharacter (whole_of v)
function_fits Odd j v takes h = refl
function_fits Ord j v takes h = ranged_fits (OfWhole Cardinal) (ordinal_of v)
function_fits (Val k) j v takes h = ranged_fits k (ordinal_of v)

-- a CARDINAL is its own absolute value
absolute_same : (j : Kind) (v : Scalar) → takes_function (Abs Cardinal) j ≡ true → within j v ≡ true → Same (OfWhole Cardinal) v (function_value (Abs Cardinal) v)
absolute_same (OfWhole Cardinal) (Number (pos n)) takes h = (Number (pos n), ap outcome (kept_in Cardinal (pos n) h), refl, h)
absolute_same j v takes h = cc

-- where a standard function has no code, the value that it gives has the word of what it was given
pub function_none : (f : Function) (j : Kind) (v : Scalar) → takes_function f j ≡ true → within j v ≡ true → function_code f j ≡ [] → Same (function_kind f) v (function_value f v)
function_none (Abs Cardinal) j v takes h none = absolute_same j v takes h
function_none (Abs Integer) j v takes h none = cc
function_none Cap j v takes h none = cc
function_none Chr j v takes h none = subst (λ (z : ℤ). Same OfCharacter v (ranged OfCharacter z)) (whole_ordinal j v takes h) (untested OfCharacter j v h none)
function_none Odd j v takes h none = cc
function_none Ord j v takes h none = untested (OfWhole Cardinal) j v h none
function_none (Val k) j v takes h none = untested k j v h none

test_length : (k j : Kind) → length (test_code k j) ≤ 1
test_length k j = by (covers k j)
  where
    by : (b : Bool) → length (cond b [] (range_code (compared_as j) (shared k j) ∷ [])) ≤ 1
    by true = omega arith
    by false = omega arith

pub function_length : (f : Function) (j : Kind) → length (function_code f j) ≤ 32
function_length (Abs Cardinal) j = omega arith
function_length (Abs Integer) j = omega arith
function_length Cap j = omega arith
function_length Chr j = omega (arith, test_length OfCharacter j)
function_length Odd j = omega arith
function_length Ord j = omega (arith, test_length (OfWhole Cardinal) j)
function_length (Val k) j = omega (arith, test_length k j)

-- what 2 leaves of a number
rest_is : (z : ℤ) → whole_rest z (pos 2) ≡ int_rem z (pos 2)
rest_is z = let e = quot-rem z (pos 2) in omega (arith, ints)

-- whether that is zero
one_bit : (r : ℕ) → r < 2 → r ≡ truth_number (not (is_zero (pos r)))
one_bit r h = grind (arith, ints, nat_tests)

one_bit_below : (r : ℕ) → r < 2 → r ≡ truth_number (not (is_zero (neg_ℤ (pos r))))
one_bit_below r h = grind (arith, ints, nat_tests)

-- a number is odd where its word is
odd_word : (t : Whole) (z : ℤ) → in_type t z ≡ true → word_of z % 2 ≡ truth_number (not (is_zero (int_rem z (pos 2))))
odd_word t (pos n) h = one_bit (n % 2) (mod_below n 2 (omega arith))
odd_word Cardinal (negsuc n) h = cc
odd_word Integer (negsuc n) h =
    let e : (65535 - n) % 2 ≡ suc n % 2 = grind (arith, nat_tests) in
    e ∙ one_bit_below (suc n % 2) (mod_below (suc n) 2 (omega arith))

odd_is : (t : Whole) (v : Scalar) → within (OfWhole t) v ≡ true → scalar_word v % 2 ≡ truth_number (not (is_zero (whole_rest (whole_of v) (pos 2))))
odd_is t (Number z) h = odd_word t z h ∙ ap (λ (x : ℤ). truth_number (not (is_zero x))) (sym (rest_is z))
odd_is t v h = cc

-- what MOD 2 makes of a word
word_rest : (w : ℕ) → remainder Cardinal (pos w) (pos 2) ≡ Ok (pos (w % 2))
word_rest w = ap (kept Cardinal) (rest_is (pos w)) ∙ kept_in Cardinal (pos (w % 2)) (in_type_card (w % 2) (omega (arith, mod_below w 2)))

-- a standard function's code does what the function means
module _ (own : Module) (m : State) (below : List ℕ) (v : Scalar) (is : m.stack ≡ scalar_word v ∷ below) where
  -- the test that a number is one of a kind
  tested_gives : (k j : Kind) → is_base j ≡ true → within j v ≡ true → test_code k j ≢ [] → Gives own (test_code k j) m below (ranged k (ordinal_of v))
  tested_gives k j base fits some = by (covers k j) some
    where
      answered : (q : ℕ) (b : Bool) → has_number k (ordinal_of v) ≡ b
          → (let r : Event × State = cond b (Went, going m q m.stack) (Trap trap.Range, m) in r) ≡ answer_row m q below (valued (cond b (Some (scalar_of k (ordinal_of v))) None))
      answered q true e =
          ap (λ (x : List ℕ). let r : Event × State = (Went, going m q x) in r) (is ∙ ap (λ (w : ℕ). w ∷ below) (sym (same_word k v e)))
      answered q false e = refl

      by : (b : Bool) → cond b [] (range_code (compared_as j) (shared k j) ∷ []) ≢ [] → Gives own (cond b [] (range_code (compared_as j) (shared k j) ∷ [])) m below (ranged k (ordinal_of v))
      by true some = absurd (some refl)
      by false some = λ q.
          test_act k j v own m below q base fits is
          ∙ answered q (has_number k (ordinal_of v)) refl
          ∙ ap (λ (x : Option Scalar). answer_row m q below (valued x)) (sym (value_where k (ordinal_of v)))

  absolute_gives : (j : Kind) → takes_function (Abs Integer) j ≡ true → within j v ≡ true → Gives own (Abi ∷ []) m below (function_value (Abs Integer) v)
  absolute_gives (OfWhole Integer) takes fits = sign_gives own m below v is absolute Abi (λ q. refl) fits
  absolute_gives j takes fits = cc

  capital_gives : (j : Kind) → takes_function Cap j ≡ true → within j v ≡ true → Gives own (instr.Cap ∷ []) m below (function_value Cap v)
  capital_gives j takes fits = by j v refl takes fits
    where
      by : (j : Kind) (x : Scalar) → v ≡ x → takes_function Cap j ≡ true → within j x ≡ true → Gives own (instr.Cap ∷ []) m below (function_value Cap x)
      by OfCharacter (Character c) e takes h = λ q.
          ap (λ (x : List ℕ). on_one m x (change_row capital q m)) (is ∙ ap (λ (x : Scalar). scalar_word x ∷ below) e)
      by j x e takes h = cc

  odd_gives : (j : Kind) → is_whole j ≡ true → within j v ≡ true → length below + 2 ≤ 16 → Gives own (Liw 2 ∷ Mdc ∷ []) m below (function_value Odd v)
  odd_gives (OfWhole t) whole fits room = (
    2 ∷ scalar_word v ∷ below,
    λ q.
        pushes 2 q m (omega (arith, room, ap length is))
        ∙ ap (λ (x : List ℕ). let r : Event × State = (Went, going m q (2 ∷ x)) in r) is,
    λ q p.
        ap (result_row (going m q (2 ∷ scalar_word v ∷ below)) p below) (word_rest (scalar_word v))
        ∙ ap (λ (w : ℕ). let r : Event × State = (Went, going m p (w ∷ below)) in r) (odd_is t v fits),
  )
  odd_gives j whole fits room = cc

  pub function_gives : (f : Function) (j : Kind) → takes_function f j ≡ true → within j v ≡ true → length below + function_depth f ≤ 16 → function_code f j ≢ []
      → Gives own (function_code f j) m below (function_value f v)
  function_gives (Abs Cardinal) j takes fits room some = absurd (some refl)
  function_gives (Abs Integer) j takes fits room some = absolute_gives j takes fits
  function_gives Cap j takes fits room some = capital_gives j takes fits
  function_gives Chr j takes fits room some =
      subst (λ (z : ℤ). Gives own (test_code OfCharacter j) m below (ranged OfCharacter z)) (whole_ordinal j v takes fits)
      (tested_gives OfCharacter j (whole_base j takes) fits some)
  function_gives Odd j takes fits room some = odd_gives j takes fits room
  function_gives Ord j takes fits room some = tested_gives (OfWhole Cardinal) j (ordinal_base j takes) fits some
  function_gives (Val k) j takes fits room some = tested_gives k j (ordinal_base j (and_parts (is_ordinal j) (is_ordinal (base_of k)) takes).0) fits some
