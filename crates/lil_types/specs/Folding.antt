-- Operations on constants: the constant that comes out, or the number of the fault, 30 for operands that the operator doesn't
-- take and 52 for a result outside -32768 to 65535 and for a divisor that is zero.
use Rattle.std.specs.Prelude.{ℕ, ◌-◌, ◌==◌, nat_le, nat_lt, ℤ, pos, negsuc, ◌+ℤ◌, ◌-ℤ◌, ◌*ℤ◌, neg_ℤ, int_lt, Bool, true, false, ◌&&◌, ◌||◌, not, List, [], ◌∷◌, Option, Some, None, Result, Ok, Err, if◌then◌else◌, bit_and, bit_or, bit_xor}
use Rattle.lil_base.specs.{declared.operator.{OneOp.OneOp, TwoOp.TwoOp}, Words.{is_zero, whole_quotient, whole_rest}, Sets.has}
use Rattle.lil_base.specs.declared.operator.OneOp.TheVariants as one
use Rattle.lil_base.specs.declared.operator.TwoOp.TheVariants as two
use Rattle.lil_types.specs.{declared.table.{Const.{Const, TheVariants.{Whole, Scalar, Chars}}, FoldStop.{FoldStop, TheVariants.Fault}, TypeEntry.TypeEntry, TypeForm.{TypeForm, TheVariants.SetOf}}, Types.{Table, integer, cardinal, boolean, char, bit_set, entry, base, same, compatible}}

-- a constant, or a fault's number
abbrev pub Folded : Type 0
Folded = Result Const ℕ

-- an answer of the program as one of these
abbrev pub folded_as : Result Const FoldStop → Folded
folded_as (Ok c) = Ok c
folded_as (Err (Fault n)) = Err n

abbrev pub truth : Bool → Folded
truth true = Ok (Scalar boolean 1)
truth false = Ok (Scalar boolean 0)

abbrev pub whole : ℤ → Folded
whole v = if int_lt v (negsuc 32767) || int_lt (pos 65535) v then Err 52 else Ok (Whole v)

-- ---- whole numbers
abbrev pub divided : ℤ → ℤ → Folded
divided n v = if is_zero n then Err 52 else whole v

abbrev pub wholes : TwoOp → ℤ → ℤ → Folded
wholes two.Plus m n = whole (m +ℤ n)
wholes two.Minus m n = whole (m -ℤ n)
wholes two.Times m n = whole (m *ℤ n)
wholes two.Div m n = divided n (whole_quotient m n)
wholes two.Mod m n = divided n (whole_rest m n)
wholes two.Equal m n = truth (not (int_lt m n || int_lt n m))
wholes two.Unequal m n = truth (int_lt m n || int_lt n m)
wholes two.Less m n = truth (int_lt m n)
wholes two.AtMost m n = truth (not (int_lt n m))
wholes two.Greater m n = truth (int_lt n m)
wholes two.AtLeast m n = truth (not (int_lt m n))
wholes _ m n = Err 30

-- ---- ordinals of one base, by their words
abbrev pub both_true : ℕ → Bool → Folded
both_true b c = if b == boolean then truth c else Err 30

abbrev pub ordinals : ℕ → TwoOp → ℕ → ℕ → Folded
ordinals b two.Equal x y = truth (x == y)
ordinals b two.Unequal x y = truth (not (x == y))
ordinals b two.Less x y = truth (nat_lt x y)
ordinals b two.AtMost x y = truth (nat_le x y)
ordinals b two.Greater x y = truth (nat_lt y x)
ordinals b two.AtLeast x y = truth (nat_le y x)
ordinals b two.And x y = both_true b (x == 1 && y == 1)
ordinals b two.Or x y = both_true b (x == 1 || y == 1)
ordinals b _ x y = Err 30

-- ---- sets of one type
abbrev pub sets : ℕ → TwoOp → ℕ → ℕ → Folded
sets a two.Plus x y = Ok (Scalar a (bit_or x y))
sets a two.Minus x y = Ok (Scalar a (bit_and x (65535 - y)))
sets a two.Times x y = Ok (Scalar a (bit_and x y))
sets a two.Slash x y = Ok (Scalar a (bit_xor x y))
sets a two.Equal x y = truth (x == y)
sets a two.Unequal x y = truth (not (x == y))
sets a two.AtMost x y = truth (bit_or x y == y)
sets a two.AtLeast x y = truth (bit_or x y == x)
sets a _ x y = Err 30

abbrev pub base_of : Table → TypeForm → Option ℕ
base_of t (SetOf b) = Some (base t b)
base_of t _ = None

abbrev pub base_in : Table → Option TypeEntry → Option ℕ
base_in t None = None
base_in t (Some e) = base_of t e.form

-- the base of a set type, None for any other
abbrev pub set_base : Table → ℕ → Option ℕ
set_base t a = if a == bit_set then Some cardinal else base_in t (entry t a)

abbrev pub is_member : ℕ → ℕ → Bool
is_member y x = nat_lt x 16 && has y x

-- ---- two operands
abbrev pub in_set : Option ℕ → ℕ → Bool → Folded
in_set None b is = Err 30
in_set (Some c) b is = if b == c then truth is else Err 30

abbrev pub scalars_by : Option ℕ → Option ℕ → Table → TwoOp → ℕ → ℕ → ℕ → ℕ → Folded
scalars_by (Some c) d t op a x b y = if same t a b then sets a op x y else Err 30
scalars_by None (Some d) t op a x b y = Err 30
scalars_by None None t op a x b y = if compatible t a b then ordinals (base t a) op x y else Err 30

abbrev pub scalars : Table → TwoOp → ℕ → ℕ → ℕ → ℕ → Folded
scalars t two.In a x b y = in_set (set_base t b) (base t a) (is_member y x)
scalars t op a x b y = scalars_by (set_base t a) (set_base t b) t op a x b y

-- whether a whole constant is compatible with a whole type
abbrev pub fits : ℕ → ℤ → Bool
fits b m = (b == integer && not (int_lt (pos 32767) m)) || (b == cardinal && not (int_lt m (pos 0)))

abbrev pub is_whole_member : ℕ → ℤ → Bool
is_whole_member y (pos x) = is_member y x
is_whole_member y (negsuc x) = false

abbrev pub whole_in : Option ℕ → ℤ → ℕ → Folded
whole_in None m y = Err 30
whole_in (Some c) m y = if fits c m then truth (is_whole_member y m) else Err 30

abbrev pub whole_and_scalar : Table → TwoOp → ℤ → ℕ → ℕ → Folded
whole_and_scalar t two.In m b y = whole_in (set_base t b) m y
whole_and_scalar t _ m b y = Err 30

-- the character that a string of one character stands for
abbrev pub alone : List ℕ → Option ℕ
alone (c ∷ []) = Some c
alone _ = None

abbrev pub character_first : Table → TwoOp → Option ℕ → ℕ → ℕ → Folded
character_first t op (Some c) b y = scalars t op char c b y
character_first t op None b y = Err 30

abbrev pub character_last : Table → TwoOp → ℕ → ℕ → Option ℕ → Folded
character_last t op a x (Some c) = scalars t op a x char c
character_last t op a x None = Err 30

-- A string of one character beside a value stands for the character.
abbrev pub folded_two : Table → TwoOp → Const → Const → Folded
folded_two t op (Whole m) (Whole n) = wholes op m n
folded_two t op (Whole m) (Scalar b y) = whole_and_scalar t op m b y
folded_two t op (Scalar a x) (Scalar b y) = scalars t op a x b y
folded_two t op (Chars text) (Scalar b y) = character_first t op (alone text) b y
folded_two t op (Scalar a x) (Chars text) = character_last t op a x (alone text)
folded_two t op _ _ = Err 30

-- ---- one operand
abbrev pub folded_one : Table → OneOp → Const → Folded
folded_one t one.Plus (Whole v) = Ok (Whole v)
folded_one t one.Minus (Whole v) = whole (neg_ℤ v)
folded_one t one.Not (Scalar a x) = both_true (base t a) (x == 0)
folded_one t _ _ = Err 30
