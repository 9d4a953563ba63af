-- What operators and standard functions make of kinds of operands.
use Rattle.std.specs.Prelude.{ℕ, ◌==◌, ◌%◌, ℤ, pos, ◌-ℤ◌, nat_abs, Bool, true, false, ◌&&◌, ◌||◌, Option, Some, None, is_some, Ok, Err, if◌then◌else◌}
use Rattle.lil_base.specs.{Words.{between, word_of}, declared.operator.{OneOp.OneOp, TwoOp.TwoOp}}
use Rattle.lil_base.specs.declared.operator.OneOp.TheVariants as sign
use Rattle.lil_base.specs.declared.operator.TwoOp.TheVariants as op
use Rattle.lil_types.specs.{Types.{Table, integer, cardinal, boolean, char, base, same, is_whole}, Folding.{Folded, folded_one, folded_two}, declared.table.{Span.Span, Const.Const}}
use Rattle.lil_types.specs.declared.table.Const.TheVariants as const
use Rattle.lil_declared.specs.declared.standard.Standard.{Standard}
use Rattle.lil_declared.specs.declared.standard.Standard.TheVariants as standard
use Rattle.lil_scope.specs.declared.thing.Kind.{Kind, TheVariants.{Whole, Scalar, Chars, Of, Open}}
use Rattle.lil_kinds.specs.{declared.found.Applied.{Applied, TheVariants.{Refused, Outside, Gives}}, Forms.{span_of, set_base, has_nil}, Kinds.{sort_of, is_whole_constant, is_ordinal, word_number, number, compatible, outside}}

-- ---- operations on constants
-- an operand as a constant: one of a whole type is its number, and a text of one character is the character
unfoldable pub constant : Table → Kind → Option Const
constant t (Whole n) = Some (const.Whole n)
constant t (Scalar s w) = Some (if is_whole t s then const.Whole (word_number t s w) else const.Scalar s w)
constant t (Chars c) = if c.length == 1 then Some (const.Scalar char c.first) else None
constant t _ = None

abbrev pub applied : Folded → Applied
applied (Ok (const.Whole n)) = Gives (Whole n)
applied (Ok (const.Scalar s w)) = Gives (Scalar s w)
applied (Ok (const.Chars text)) = Refused
applied (Err f) = if f == 52 then Outside else Refused

-- ---- one operand
abbrev pub gives_where : Bool → ℕ → Applied
gives_where b s = if b then Gives (Of s) else Refused

abbrev pub one_sort : Table → OneOp → ℕ → Applied
one_sort t sign.Plus s = gives_where (is_whole t s) (base t s)
one_sort t sign.Minus s = gives_where (base t s == integer) integer
one_sort t sign.Not s = gives_where (base t s == boolean) boolean

abbrev pub one_value : Table → OneOp → Option ℕ → Applied
one_value t o None = Refused
one_value t o (Some s) = one_sort t o s

abbrev pub one_by : Table → OneOp → Kind → Option Const → Applied
one_by t o a (Some c) = applied (folded_one t o c)
one_by t o a None = one_value t o (sort_of a)

-- 30 Operands where it is refused, 52 ConstArith where it lies outside
unfoldable pub one : Table → OneOp → Kind → Applied
one t o a = one_by t o a (constant t a)

-- ---- two operands
abbrev pub either_sort : Option ℕ → Option ℕ → ℕ
either_sort (Some s) r = s
either_sort None (Some r) = r
either_sort None None = integer

-- the type of the first operand that has one
abbrev pub common : Kind → Kind → ℕ
common a b = either_sort (sort_of a) (sort_of b)

-- two whole numbers of one base
unfoldable pub are_wholes : Table → Kind → Kind → Bool
are_wholes t a b = compatible t a b && is_whole t (common a b)

-- two truth values
unfoldable pub are_truths : Table → Kind → Kind → Bool
are_truths t a b = compatible t a b && base t (common a b) == boolean

-- two ordinals of one base
unfoldable pub are_ordinals : Table → Kind → Kind → Bool
are_ordinals t a b = compatible t a b && (is_ordinal t a && is_ordinal t b)

-- two values of a pointer type, of an opaque type, or of ADDRESS, where one may be NIL
unfoldable pub are_references : Table → Kind → Kind → Bool
are_references t a b = compatible t a b && has_nil t (common a b)

abbrev pub are_sets_by : Table → Option ℕ → Option ℕ → Bool
are_sets_by t None s = false
are_sets_by t (Some r) None = false
are_sets_by t (Some r) (Some s) = is_some (set_base t r) && same t r s

-- two values of one set type
unfoldable pub are_sets : Table → Kind → Kind → Bool
are_sets t a b = are_sets_by t (sort_of a) (sort_of b)

-- what = and # compare
unfoldable pub are_comparable : Table → Kind → Kind → Bool
are_comparable t a b = are_ordinals t a b || (are_references t a b || are_sets t a b)

abbrev pub is_of : Table → Kind → Option ℕ → Bool
is_of t a None = false
is_of t a (Some s) = compatible t a (Of s)

abbrev pub is_element_by : Table → Kind → Option ℕ → Bool
is_element_by t a None = false
is_element_by t a (Some s) = is_of t a (set_base t s)

-- a value that is compatible with the elements of a set
unfoldable pub is_element : Table → Kind → Kind → Bool
is_element t a b = is_element_by t a (sort_of b)

-- the sum of numbers or sets and the like
abbrev pub number_or_set : Table → Kind → Kind → Applied
number_or_set t a b = if are_wholes t a b then Gives (Of (base t (common a b))) else gives_where (are_sets t a b) (common a b)

-- an operator with two operands that aren't both constants
unfoldable pub two_values : Table → TwoOp → Kind → Kind → Applied
two_values t op.Plus a b = number_or_set t a b
two_values t op.Minus a b = number_or_set t a b
two_values t op.Times a b = number_or_set t a b
two_values t op.Slash a b = gives_where (are_sets t a b) (common a b)
two_values t op.Div a b = gives_where (are_wholes t a b) (base t (common a b))
two_values t op.Mod a b = gives_where (are_wholes t a b) (base t (common a b))
two_values t op.And a b = gives_where (are_truths t a b) boolean
two_values t op.Or a b = gives_where (are_truths t a b) boolean
two_values t op.Equal a b = gives_where (are_comparable t a b) boolean
two_values t op.Unequal a b = gives_where (are_comparable t a b) boolean
two_values t op.Less a b = gives_where (are_ordinals t a b) boolean
two_values t op.Greater a b = gives_where (are_ordinals t a b) boolean
two_values t op.AtMost a b = gives_where (are_ordinals t a b || are_sets t a b) boolean
two_values t op.AtLeast a b = gives_where (are_ordinals t a b || are_sets t a b) boolean
two_values t op.In a b = gives_where (is_element t a b) boolean

abbrev pub two_by : Table → TwoOp → Kind → Kind → Option Const → Option Const → Applied
two_by t o a b None y = two_values t o a b
two_by t o a b (Some x) None = two_values t o a b
two_by t o a b (Some x) (Some y) = applied (folded_two t o x y)

abbrev pub is_text : Kind → Bool
is_text (Chars c) = true
is_text _ = false

-- 30 Operands where it is refused, as two texts are, and 52 ConstArith where it lies outside
unfoldable pub two : Table → TwoOp → Kind → Kind → Applied
two t o a b = if is_text a && is_text b then Refused else two_by t o a b (constant t a) (constant t b)

-- ---- the type in which an operator computes
unfoldable pub operand_type : Table → TwoOp → Kind → Kind → ℕ
operand_type t op.In a b = either_sort (sort_of b) None
operand_type t _ a b = base t (common a b)

-- ---- values of types by their numbers
abbrev pub word_constant : ℕ → ℤ → Applied
word_constant s n = if between (pos 0) n (pos 65535) then Gives (Scalar s (word_of n)) else Outside

-- the constant of a type by its number: a whole number has no type
unfoldable pub constant_of : Table → ℕ → ℤ → Applied
constant_of t s n = if is_whole t s then Gives (Whole n) else word_constant s n

-- what a function gives: a value of its type, or a constant where its operand is one
abbrev pub value_by : ℕ → (ℤ → Applied) → Option ℤ → Applied
value_by s f None = Gives (Of s)
value_by s f (Some n) = f n

-- ---- standard functions
abbrev pub is_integer : Table → Kind → Bool
is_integer t a = is_whole_constant a || compatible t a (Of integer)

abbrev pub is_number : Table → Kind → Bool
is_number t a = is_integer t a || compatible t a (Of cardinal)

abbrev pub absolute : ℤ → Applied
absolute n = if between (pos 0) (pos (nat_abs n)) (pos 65535) then Gives (Whole (pos (nat_abs n))) else Outside

abbrev pub capital : ℤ → ℤ
capital n = if between (pos 97) n (pos 122) then n -ℤ pos 32 else n

abbrev pub is_odd : ℤ → Bool
is_odd n = nat_abs n % 2 == 1

abbrev pub oddness : ℤ → Applied
oddness n = Gives (Scalar boolean (if is_odd n then 1 else 0))

-- the value of a type that has the number of an operand
abbrev pub converted_number : Table → ℕ → ℤ → Applied
converted_number t s n = if outside (span_of t s) (Some n) then Outside else constant_of t s n

unfoldable pub converted : Table → ℕ → Kind → Applied
converted t s a = value_by s (converted_number t s) (number t a)

abbrev pub is_open : Kind → Bool
is_open (Open e) = true
is_open _ = false

abbrev pub where_taken : Bool → Applied → Applied
where_taken b x = if b then x else Refused

-- 30 Operands where it is refused, 50 ConstRange where it lies outside
unfoldable pub function : Table → Standard → ℕ → Kind → Applied
function t standard.Abs sort a = where_taken (is_integer t a) (value_by integer absolute (number t a))
function t standard.Cap sort a = where_taken (compatible t a (Of char)) (value_by char (λ n. word_constant char (capital n)) (number t a))
function t standard.Chr sort a = where_taken (is_number t a) (converted t char a)
function t standard.High sort a = gives_where (is_open a) cardinal
function t standard.Odd sort a = where_taken (is_number t a) (value_by boolean oddness (number t a))
function t standard.Ord sort a = where_taken (is_ordinal t a) (converted t cardinal a)
function t standard.Val sort a = where_taken (is_some (span_of t sort) && is_ordinal t a) (converted t sort a)
function t _ sort a = Refused

-- ---- the ends of a type
abbrev pub extreme_by : Table → Standard → ℕ → Option Span → Applied
extreme_by t standard.Min sort (Some s) = constant_of t sort s.low
extreme_by t standard.Max sort (Some s) = constant_of t sort s.high
extreme_by t _ sort _ = Refused

-- 30 Operands where the type isn't ordinal
unfoldable pub extreme : Table → Standard → ℕ → Applied
extreme t of sort = extreme_by t of sort (span_of t sort)
