-- How arguments are handed over to the parameters of a procedure.
use Rattle.std.specs.Prelude.{ℕ, ◌+◌, ◌==◌, nat_lt, max, Bool, true, false, not, ◌&&◌, ◌||◌, if◌then◌else◌, List, [], ◌∷◌, ◌++◌, length, Option, Some, None}
use Rattle.lil_base.specs.declared.fault.FaultKind.TheVariants.{Assign, VarArgument, ConstRange, WrongKind}
use Rattle.lil_types.specs.{Types.{Table, char, same}, declared.table.Parameter.Parameter}
use Rattle.lil_report.specs.Told.{Row, row, walk}
use Rattle.lil_scope.specs.declared.thing.Kind.{Kind}
use Rattle.lil_scope.specs.declared.thing.Kind.TheVariants as kind
use Rattle.lil_kinds.specs.{Forms.{array_parts, parameter}, Kinds.{assignable, misses}, declared.{forms.ArrayParts.ArrayParts, found.{Found.Found, Standing.{Standing, TheVariants.Variable}}}}
use Rattle.lil_forms.specs.Statements.{nothing_handed, handed_over}
use Rattle.lil_call.specs.declared.{call.Argument.Argument, passing.Passed.Passed}
use Rattle.lil_call.specs.declared.call.Argument.TheVariants as argument

-- ---- arguments that have no fault of their own
abbrev pub has_value : Argument → Bool
has_value (argument.Value None) = false
has_value (argument.Value (Some x)) = true
has_value (argument.Type p None) = false
has_value (argument.Type p (Some s)) = true

abbrev pub all_have_values : List Argument → Bool
all_have_values [] = true
all_have_values (x ∷ xs) = has_value x && all_have_values xs

-- ---- which arguments a parameter takes
abbrev pub has_elements : Table → ℕ → Option ArrayParts → Bool
has_elements t sort None = false
has_elements t sort (Some a) = same t a.element sort

-- an array of elements of this very type, open or not
abbrev pub is_array_of : Table → ℕ → Kind → Bool
is_array_of t sort (kind.Of n) = has_elements t sort (array_parts t n)
is_array_of t sort (kind.Open n) = same t n sort
is_array_of t sort _ = false

-- a value of this very type
abbrev pub is_of : Table → ℕ → Kind → Bool
is_of t sort (kind.Of n) = same t n sort
is_of t sort _ = false

abbrev pub is_text : Kind → Bool
is_text (kind.Chars c) = true
is_text _ = false

abbrev pub is_open : Kind → Bool
is_open (kind.Open n) = true
is_open _ = false

-- a whole variable, or a part of one that isn't a character of an ARRAY OF CHAR
abbrev pub is_variable : Standing → Bool
is_variable Variable = true
is_variable _ = false

-- an open array is no value that another variable takes
abbrev pub takes_value : Table → Parameter → Kind → Bool
takes_value t p a =
    if p.open_array then is_array_of t p.sort a || (p.sort == char && is_text a)
    else (not (is_open a) && assignable t p.sort a)

abbrev pub takes_place : Table → Parameter → Standing → Kind → Bool
takes_place t p s a = is_variable s && (if p.open_array then is_array_of t p.sort a else is_of t p.sort a)

abbrev pub is_wrong_value : Table → Parameter → Kind → Bool
is_wrong_value t p a = not p.by_place && not (takes_value t p a)

abbrev pub is_wrong_place : Table → Parameter → Standing → Kind → Bool
is_wrong_place t p s a = p.by_place && not (takes_place t p s a)

abbrev pub is_outside : Table → Parameter → Kind → Bool
is_outside t p a = not p.by_place && (not p.open_array && misses t p.sort a)

abbrev pub is_right : Table → Parameter → Found → Bool
is_right t p x = not (is_wrong_value t p x.kind) && (not (is_wrong_place t p x.standing x.kind) && not (is_outside t p x.kind))

-- ---- depth
-- beside so many words that lie below it; 13 stands for all depths above 12
abbrev pub raised : ℕ → ℕ → ℕ
raised words depth = if nat_lt 12 words || nat_lt 12 depth then 13 else words + depth

-- an open array has two words, any other argument one; above 12 they aren't counted on
abbrev pub more_words : Parameter → ℕ → ℕ
more_words p words = if nat_lt 12 words then words else (if p.open_array then words + 2 else words + 1)

-- the words of the arguments lie below only in a call of a resident procedure
abbrev pub words_after : Bool → Parameter → ℕ → ℕ
words_after resident p words = if resident then more_words p words else words

-- ---- one argument after the other
abbrev pub nothing_passed : ℕ → Passed
nothing_passed depth = record { parameters = []; handed = nothing_handed; words = 0; depth = max 1 depth; is_right = true }

abbrev pub with_argument : Table → Bool → Parameter → Passed → Found → Passed
with_argument t resident p s x = record {
  parameters = s.parameters ++ p ∷ [];
  handed = handed_over t p s.handed x;
  words = words_after resident p s.words;
  depth = max s.depth (raised s.words x.depth);
  is_right = s.is_right && is_right t p x;
}

-- 31 Assign: the parameter doesn't take the value
-- 33 VarArgument: no variable, or one of another type
-- 50 ConstRange: a constant outside the parameter's type
unfoldable pub argument_node : Table → Bool → Parameter → Passed → Found → Passed × List Row
argument_node t resident p s x = (
  with_argument t resident p s x,
  row (is_wrong_value t p x.kind) x.first Assign
      ∷ row (is_wrong_place t p x.standing x.kind) x.first VarArgument
      ∷ row (is_outside t p x.kind) x.first ConstRange ∷ [],
)

abbrev pub without_more : Passed → Passed
without_more s = record s { is_right = false }

abbrev pub argument_by : Table → Bool → Option Parameter → Passed → Found → Passed × List Row
argument_by t resident None s x = (without_more s, [])
argument_by t resident (Some p) s x = argument_node t resident p s x

-- 24 WrongKind: a type's name where a value is needed
unfoldable pub argument_step : Table → Bool → ℕ → Passed → Argument → Passed × List Row
argument_step t resident sort s (argument.Value None) = (without_more s, [])
argument_step t resident sort s (argument.Value (Some x)) = argument_by t resident (parameter t sort (length s.parameters)) s x
argument_step t resident sort s (argument.Type p n) = (without_more s, row true p WrongKind ∷ [])

abbrev pub arguments_mean : Table → Bool → ℕ → Passed → List Argument → Passed × List Row
arguments_mean t resident sort s xs = walk (argument_step t resident sort) s xs
