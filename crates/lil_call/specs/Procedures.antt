-- What calls of standard procedures and standard functions mean.
use Rattle.std.specs.Prelude.{ℕ, ◌==◌, max, Bool, true, false, not, ◌&&◌, ◌||◌, if◌then◌else◌, List, [], ◌∷◌, length, Option, Some, None, ℤ, nat_lt, int_lt, is_none}
use Rattle.lil_base.specs.declared.fault.{Place.Place, FaultKind.TheVariants.{WrongKind, Operands, ArgCount, NotCallable, ConstRange, VarArgument, NotPointer, Opaque, ExprDeep}}
use Rattle.lil_types.specs.{Types.{Table, integer, cardinal, base}, declared.table.Span.Span}
use Rattle.lil_declared.specs.declared.standard.Standard.{Standard, TheVariants.{Max, Min, Val, Dec, Excl, Halt, Inc, Incl, New, Dispose}}
use Rattle.lil_report.specs.Told.{Row, row, after}
use Rattle.lil_scope.specs.declared.thing.Kind.{Kind}
use Rattle.lil_scope.specs.declared.thing.Kind.TheVariants as kind
use Rattle.lil_kinds.specs.{Kinds.{is_ordinal, is_constant, compatible, number}, Operators.{function, extreme}, declared.found.{Applied.{Applied, TheVariants.{Refused, Outside, Gives}}, Form.Form, Found.Found, Located.Located}, Forms.{target, set_base, element_span, is_opaque}}
use Rattle.lil_kinds.specs.declared.found.Form.TheVariants as form
use Rattle.lil_kinds.specs.declared.found.Standing.TheVariants as standing
use Rattle.lil_forms.specs.{Values.{value_form, function_value}, Places.located_in, Statements.{changed, changed_by_one, turned, created, disposed}}
use Rattle.lil_call.specs.{declared.call.Argument.Argument, Passing.is_variable}
use Rattle.lil_call.specs.declared.call.Argument.TheVariants as argument
use Rattle.lil_resolved.specs.declared.resolved.{Direction.TheVariants.{Up, Down}, Membership.TheVariants.{Joins, Leaves}, RStmt.RStmt}
use Rattle.lil_resolved.specs.declared.resolved.RStmt.TheVariants as statement

-- ---- what calls of standard functions mean

-- ---- which standard procedures there are
abbrev pub is_function : Standard → Bool
is_function Dec = false
is_function Excl = false
is_function Halt = false
is_function Inc = false
is_function Incl = false
is_function New = false
is_function Dispose = false
is_function _ = true

-- MAX and MIN take a type alone
abbrev pub is_extreme : Standard → Bool
is_extreme Max = true
is_extreme Min = true
is_extreme _ = false

abbrev pub takes_count : Standard → ℕ → Bool
takes_count Val n = n == 2
takes_count Excl n = n == 2
takes_count Incl n = n == 2
takes_count Dec n = n == 1 || n == 2
takes_count Inc n = n == 1 || n == 2
takes_count Halt n = n == 0
takes_count _ n = n == 1

abbrev pub agrees : Bool → Bool → Bool
agrees wanted is = if wanted then is else not is

-- 32 ArgCount: another number of arguments
-- 34 NotCallable: a function as a statement, or a proper procedure in an expression
unfoldable pub standard_node : Place → Bool → Standard → ℕ → Bool × List Row
standard_node p wanted of count = (
  agrees wanted (is_function of) && takes_count of count,
  row (not (takes_count of count)) p ArgCount ∷ row (not (agrees wanted (is_function of))) p NotCallable ∷ [],
)

-- ---- the value of a function
-- a function of a value; VAL gives values of a type
abbrev pub function_form : Table → Standard → ℕ → Found → Form
function_form t of sort x = value_form (function_value t of sort x)

-- a constant has no form
abbrev pub kept_form : Form → Kind → Form
kept_form f (kind.Of s) = f
kept_form f _ = form.Nothing

-- a constant has depth 1, a call of a standard function that of its operand
abbrev pub function_depth : Kind → ℕ → ℕ
function_depth k depth = if is_constant k then 1 else max 1 depth

abbrev pub applied_value : Place → ℕ → Form → Applied → Option Found
applied_value p depth f Refused = None
applied_value p depth f Outside = None
applied_value p depth f (Gives k) = Some (record { form = kept_form f k; kind = k; first = p; depth = function_depth k depth; standing = standing.Value })

abbrev pub is_refused : Applied → Bool
is_refused Refused = true
is_refused _ = false

abbrev pub lies_outside : Applied → Bool
lies_outside Outside = true
lies_outside _ = false

-- 30 Operands: the function doesn't take the argument
-- 50 ConstRange: the value lies outside the function's type
unfoldable pub applied_node : Place → Place → ℕ → Form → Applied → Option Found × List Row
applied_node p at depth f a = (applied_value p depth f a, row (is_refused a) at Operands ∷ row (lies_outside a) at ConstRange ∷ [])

-- ---- its arguments
-- 24 WrongKind: a type's name where a value is needed
unfoldable pub no_value : {A : Type 0} → Place → Option A × List Row
no_value at = (None, row true at WrongKind ∷ [])

-- 30 Operands: a value where a type's name is needed
unfoldable pub no_type : {A : Type 0} → Place → Option A × List Row
no_type at = (None, row true at Operands ∷ [])

abbrev pub of_type : Table → Place → Standard → Place → ℕ → Option Found × List Row
of_type t p of at sort = if is_extreme of then applied_node p at 1 form.Nothing (extreme t of sort) else no_value at

abbrev pub of_value : Table → Place → Standard → Found → Option Found × List Row
of_value t p of x =
    if is_extreme of then no_type x.first
    else applied_node p x.first x.depth (function_form t of integer x) (function t of integer x.kind)

abbrev pub of_one : Table → Place → Standard → Argument → Option Found × List Row
of_one t p of (argument.Value None) = (None, [])
of_one t p of (argument.Value (Some x)) = of_value t p of x
of_one t p of (argument.Type at None) = (None, [])
of_one t p of (argument.Type at (Some sort)) = of_type t p of at sort

-- 30 Operands: the type isn't ordinal
unfoldable pub ordinal_node : Table → Place → ℕ → Bool × List Row
ordinal_node t at sort = (is_ordinal t (kind.Of sort), row (not (is_ordinal t (kind.Of sort))) at Operands ∷ [])

abbrev pub kept_if : Bool → Option Found → Option Found
kept_if is o = if is then o else None

abbrev pub converted : Table → Place → Standard → ℕ → Found → Option Found × List Row
converted t p of sort x = applied_node p x.first x.depth (function_form t of sort x) (function t of sort x.kind)

abbrev pub converted_if : Table → Place → Standard → ℕ → Found → Bool → Option Found × List Row
converted_if t p of sort x is = after (converted t p of sort x) (λ o. (kept_if is o, []))

-- a type and a value: VAL
abbrev pub of_two : Table → Place → Standard → Argument → Argument → Option Found × List Row
of_two t p of (argument.Value None) y = (None, [])
of_two t p of (argument.Value (Some x)) y = no_type x.first
of_two t p of (argument.Type at None) y = (None, [])
of_two t p of (argument.Type at (Some sort)) (argument.Value None) = (None, [])
of_two t p of (argument.Type at (Some sort)) (argument.Value (Some x)) = after (ordinal_node t at sort) (converted_if t p of sort x)
of_two t p of (argument.Type at (Some sort)) (argument.Type q n) = no_value q

abbrev pub of_all : Table → Place → Standard → List Argument → Option Found × List Row
of_all t p of [] = (None, [])
of_all t p of (x ∷ []) = of_one t p of x
of_all t p of (x ∷ y ∷ ys) = of_two t p of x y

-- the arguments are looked at where their number is right
abbrev pub function_if : Table → Place → Standard → List Argument → Bool → Option Found × List Row
function_if t p of xs false = (None, [])
function_if t p of xs true = of_all t p of xs

abbrev pub function_mean : Table → Place → Standard → List Argument → Option Found × List Row
function_mean t p of xs = after (standard_node p true of (length xs)) (function_if t p of xs)

-- ---- which standard procedures there are
-- INC and DEC
abbrev pub is_counting : Standard → Bool
is_counting Inc = true
is_counting Dec = true
is_counting _ = false

-- INCL and EXCL
abbrev pub is_joining : Standard → Bool
is_joining Incl = true
is_joining Excl = true
is_joining _ = false

-- NEW and DISPOSE
abbrev pub is_storing : Standard → Bool
is_storing New = true
is_storing Dispose = true
is_storing _ = false

-- ---- the variable
-- the base type of a set, a constant one included
abbrev pub base_of_set : Table → Kind → Option ℕ
base_of_set t (kind.Of n) = set_base t n
base_of_set t (kind.Scalar n word) = set_base t n
base_of_set t _ = None

abbrev pub span_of_set : Table → Kind → Option Span
span_of_set t (kind.Of n) = element_span t n
span_of_set t (kind.Scalar n word) = element_span t n
span_of_set t _ = None

abbrev pub target_of : Table → Kind → Option ℕ
target_of t (kind.Of n) = target t n
target_of t _ = None

abbrev pub is_hidden : Table → Kind → Bool
is_hidden t (kind.Of n) = is_opaque t n
is_hidden t _ = false

abbrev pub is_of_wrong_type : Table → Standard → Kind → Bool
is_of_wrong_type t of a = (is_counting of && not (is_ordinal t a)) || (is_joining of && is_none (base_of_set t a))

abbrev pub is_no_pointer : Table → Standard → Kind → Bool
is_no_pointer t of a = is_storing of && (is_none (target_of t a) && not (is_hidden t a))

abbrev pub is_behind_opaque : Table → Standard → Kind → Bool
is_behind_opaque t of a = is_storing of && is_hidden t a

abbrev pub is_changeable : Table → Standard → Found → Bool
is_changeable t of x =
    not (is_of_wrong_type t of x.kind) && (is_variable x.standing && (not (is_no_pointer t of x.kind) && not (is_behind_opaque t of x.kind)))

-- 30 Operands: INC or DEC of what isn't ordinal, INCL or EXCL of no set
-- 33 VarArgument: no variable, or a character of an ARRAY OF CHAR
-- 37 NotPointer: NEW or DISPOSE of no pointer
-- 43 Opaque: NEW or DISPOSE of an opaque type of another module
unfoldable pub variable_node : Table → Standard → Found → Bool × List Row
variable_node t of x = (
  is_changeable t of x,
  row (is_of_wrong_type t of x.kind) x.first Operands
      ∷ row (not (is_variable x.standing)) x.first VarArgument
      ∷ row (is_no_pointer t of x.kind) x.first NotPointer
      ∷ row (is_behind_opaque t of x.kind) x.first Opaque ∷ [],
)

-- ---- the operand beside it
-- INTEGER beside a variable whose base type that is, else CARDINAL
abbrev pub counted_in : Table → Kind → ℕ
counted_in t (kind.Of n) = if base t n == integer then integer else cardinal
counted_in t _ = cardinal

abbrev pub is_no_count : Table → Kind → Kind → Bool
is_no_count t v a = not (compatible t (kind.Of (counted_in t v)) a)

abbrev pub is_no_element : Table → Option ℕ → Kind → Bool
is_no_element t None a = false
is_no_element t (Some n) a = not (compatible t (kind.Of n) a)

abbrev pub is_past : Option ℤ → Option Span → Bool
is_past None s = false
is_past (Some n) None = false
is_past (Some n) (Some s) = int_lt n s.low || int_lt s.high n

abbrev pub is_wrong_operand : Table → Standard → Kind → Kind → Bool
is_wrong_operand t of v a = (is_counting of && is_no_count t v a) || (is_joining of && is_no_element t (base_of_set t v) a)

abbrev pub is_past_elements : Table → Standard → Kind → Kind → Bool
is_past_elements t of v a = is_joining of && is_past (number t a) (span_of_set t v)

-- 30 Operands: a number that isn't compatible, or no element of the set
-- 50 ConstRange: a constant that no set of the type has
unfoldable pub operand_node : Table → Standard → Kind → Found → Bool × List Row
operand_node t of v x = (
  not (is_wrong_operand t of v x.kind) && not (is_past_elements t of v x.kind),
  row (is_wrong_operand t of v x.kind) x.first Operands ∷ row (is_past_elements t of v x.kind) x.first ConstRange ∷ [],
)

-- ---- the statement
-- 60 ExprDeep: a depth above 12
unfoldable pub deep_node : Place → ℕ → Bool × List Row
deep_node p depth = (not (nat_lt 12 depth), row (nat_lt 12 depth) p ExprDeep ∷ [])

abbrev pub done_if : Bool → Option RStmt → Option RStmt
done_if is s = if is then s else None

-- INC and DEC by 1, NEW and DISPOSE
abbrev pub variable_statement : Table → Standard → Option Located → Option RStmt
variable_statement t Inc v = changed_by_one t Up v
variable_statement t Dec v = changed_by_one t Down v
variable_statement t New v = created t v
variable_statement t Dispose v = disposed t v
variable_statement t _ v = None

-- INC and DEC by a number, INCL and EXCL
abbrev pub operand_statement : Table → Standard → Option Located → Found → Option RStmt
operand_statement t Inc v y = changed t Up v y
operand_statement t Dec v y = changed t Down v y
operand_statement t Incl v y = turned t Joins v y
operand_statement t Excl v y = turned t Leaves v y
operand_statement t _ v y = None

-- HALT has no argument
abbrev pub no_argument : Standard → Option RStmt
no_argument Halt = Some statement.Halt
no_argument _ = None

abbrev pub with_variable : Table → Place → Standard → Found → Option RStmt × List Row
with_variable t p of x =
    after (variable_node t of x) (λ a.
    after (deep_node p x.depth) (λ b. (done_if (a && b) (variable_statement t of (located_in x.form)), [])))

abbrev pub with_operand : Table → Place → Standard → Found → Found → Option RStmt × List Row
with_operand t p of x y =
    after (variable_node t of x) (λ a.
    after (operand_node t of x.kind y) (λ b.
    after (deep_node p (max x.depth y.depth)) (λ c. (done_if (a && (b && c)) (operand_statement t of (located_in x.form) y), []))))

abbrev pub by_one : Table → Place → Standard → Argument → Option RStmt × List Row
by_one t p of (argument.Value None) = (None, [])
by_one t p of (argument.Value (Some x)) = with_variable t p of x
by_one t p of (argument.Type at n) = no_value at

abbrev pub by_two : Table → Place → Standard → Argument → Argument → Option RStmt × List Row
by_two t p of (argument.Value None) y = (None, [])
by_two t p of (argument.Value (Some x)) (argument.Value None) = (None, [])
by_two t p of (argument.Value (Some x)) (argument.Value (Some y)) = with_operand t p of x y
by_two t p of (argument.Value (Some x)) (argument.Type at n) = no_value at
by_two t p of (argument.Type at n) y = no_value at

abbrev pub by_all : Table → Place → Standard → List Argument → Option RStmt × List Row
by_all t p of [] = (no_argument of, [])
by_all t p of (x ∷ []) = by_one t p of x
by_all t p of (x ∷ y ∷ ys) = by_two t p of x y

-- the arguments are looked at where their number is right
abbrev pub procedure_if : Table → Place → Standard → List Argument → Bool → Option RStmt × List Row
procedure_if t p of xs false = (None, [])
procedure_if t p of xs true = by_all t p of xs

abbrev pub procedure_mean : Table → Place → Standard → List Argument → Option RStmt × List Row
procedure_mean t p of xs = after (standard_node p false of (length xs)) (procedure_if t p of xs)
