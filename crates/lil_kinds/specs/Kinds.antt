-- How kinds of operands go together.
use Rattle.std.specs.Prelude.{ℕ, ◌==◌, nat_le, ℤ, pos, Bool, true, false, not, ◌&&◌, ◌||◌, List, [], ◌∷◌, Option, Some, None, is_some, if◌then◌else◌}
use Rattle.lil_base.specs.Words.{number_of, Integer, between}
use Rattle.lil_types.specs.{Types.{Table, integer, char, base, same, is_whole, values}, Folding.fits, declared.table.{Span.Span, Parameter.Parameter}}
use Rattle.lil_scope.specs.declared.thing.Kind.{Kind, TheVariants.{Whole, Scalar, Chars, Nil, Of, Routine}}
use Rattle.lil_kinds.specs.{declared.forms.ArrayParts.ArrayParts, Forms.{array_parts, span_of, has_nil, is_routine, parameters, result}}

-- ---- operands by themselves
-- the type of an operand, where it has one
abbrev pub sort_of : Kind → Option ℕ
sort_of (Scalar s w) = Some s
sort_of (Of s) = Some s
sort_of _ = None

abbrev pub is_whole_constant : Kind → Bool
is_whole_constant (Whole n) = true
is_whole_constant _ = false

-- NIL is no constant
unfoldable pub is_constant : Kind → Bool
is_constant (Whole n) = true
is_constant (Scalar s w) = true
is_constant (Chars c) = true
is_constant _ = false

-- a text of one character stands for the character
unfoldable pub is_ordinal : Table → Kind → Bool
is_ordinal t (Whole n) = true
is_ordinal t (Scalar s w) = is_some (span_of t s)
is_ordinal t (Chars c) = c.length == 1
is_ordinal t (Of s) = is_some (span_of t s)
is_ordinal t _ = false

-- the number that a word says as a value of a type
abbrev pub word_number : Table → ℕ → ℕ → ℤ
word_number t s w = if base t s == integer then number_of Integer w else pos w

-- the number of an ordinal constant: a set has none
unfoldable pub number : Table → Kind → Option ℤ
number t (Whole n) = Some n
number t (Scalar s w) = if is_some (span_of t s) then Some (word_number t s w) else None
number t (Chars c) = if c.length == 1 then Some (pos c.first) else None
number t _ = None

-- ---- compatible operands
-- whether a value of type s is compatible with an operand: a whole constant by its value, a text of one character with
-- CHAR, NIL with the types that have it, and a value of another type where both have one base
unfoldable pub suits : Table → ℕ → Kind → Bool
suits t s (Whole m) = fits (base t s) m
suits t s (Scalar r w) = base t s == base t r
suits t s (Chars c) = c.length == 1 && base t s == char
suits t s Nil = has_nil t s
suits t s (Of r) = base t s == base t r
suits t s _ = false

abbrev pub compatible_by : Table → Option ℕ → Option ℕ → Kind → Kind → Bool
compatible_by t (Some s) r a b = suits t s b
compatible_by t None (Some r) a b = suits t r a
compatible_by t None None a b = is_whole_constant a && is_whole_constant b

-- of two operands without a type only whole constants are compatible
unfoldable pub compatible : Table → Kind → Kind → Bool
compatible t a b = compatible_by t (sort_of a) (sort_of b) a b

-- ---- procedures and procedure types
abbrev pub same_parameter : Table → Parameter → Parameter → Bool
same_parameter t x y = same_flag x.by_place y.by_place && (same_flag x.open_array y.open_array && same t x.sort y.sort)
  where
    same_flag : Bool → Bool → Bool
    same_flag true b = b
    same_flag false b = not b

-- as many parameters, of the same kinds and types in order
abbrev pub same_parameters : Table → List Parameter → List Parameter → Bool
same_parameters t [] [] = true
same_parameters t [] (y ∷ ys) = false
same_parameters t (x ∷ xs) [] = false
same_parameters t (x ∷ xs) (y ∷ ys) = same_parameter t x y && same_parameters t xs ys

abbrev pub same_result : Table → Option ℕ → Option ℕ → Bool
same_result t None None = true
same_result t None (Some s) = false
same_result t (Some r) None = false
same_result t (Some r) (Some s) = same t r s

-- whether a procedure of type s is a value of procedure type r
unfoldable pub conforms : Table → ℕ → ℕ → Bool
conforms t s r = is_routine t s && (is_routine t r && (same_parameters t (parameters t s) (parameters t r) && same_result t (result t s) (result t r)))

-- ---- assignable values
abbrev pub has_room : Option Span → ℕ → Bool
has_room None n = false
has_room (Some s) n = nat_le n (values s)

abbrev pub holds_by : Table → Option ArrayParts → ℕ → Bool
holds_by t None n = false
holds_by t (Some p) n = p.element == char && has_room (span_of t p.index) n

-- whether a type is an ARRAY OF CHAR with at least so many elements
unfoldable pub holds : Table → ℕ → ℕ → Bool
holds t to n = holds_by t (array_parts t to) n

-- what is assignable without being compatible: a whole number to a whole type, a text to an ARRAY OF CHAR that is long
-- enough, and a procedure to a procedure type that it conforms to
unfoldable pub passes : Table → ℕ → Kind → Bool
passes t to (Whole n) = is_whole t to
passes t to (Scalar s w) = is_whole t to && is_whole t s
passes t to (Chars c) = holds t to c.length
passes t to (Of s) = is_whole t to && is_whole t s
passes t to (Routine s) = conforms t s to
passes t to _ = false

unfoldable pub assignable : Table → ℕ → Kind → Bool
assignable t to b = compatible t (Of to) b || passes t to b

-- ---- constants that miss a range
-- whether a number lies outside the values of a type, where these are known
abbrev pub outside : Option Span → Option ℤ → Bool
outside None z = false
outside (Some s) None = false
outside (Some s) (Some z) = not (between s.low z s.high)

-- the number that a constant has beside a type: a text of one character is a character beside CHAR alone
unfoldable pub number_beside : Table → ℕ → Kind → Option ℤ
number_beside t to (Chars c) = if base t to == char then number t (Chars c) else None
number_beside t to b = number t b

-- 50 ConstRange
unfoldable pub misses : Table → ℕ → Kind → Bool
misses t to b = outside (span_of t to) (number_beside t to b)
