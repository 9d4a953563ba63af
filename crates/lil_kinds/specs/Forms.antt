-- The parts of types. An opaque type that has another in its implementation is that type.
use Rattle.std.specs.Prelude.{ℕ, ◌==◌, pos, Bool, true, false, ◌||◌, List, [], length, slice_get, Option, Some, None, is_some, if◌then◌else◌}
use Rattle.lil_types.specs.{Types.{Table, char, cardinal, bit_set, proc, address, span, entry, known, meant}, Fields.field_from, declared.{table.{Span.Span, Facts.Facts, Parameter.Parameter, TypeEntry.TypeEntry, TypeForm.{TypeForm, TheVariants.{Array, Record, SetOf, Pointer, Procedure, Opaque}}}, fields.FieldAt.FieldAt}}
use Rattle.lil_kinds.specs.declared.forms.ArrayParts.{ArrayParts}

-- ---- what is known of a type
abbrev pub form_in : Option TypeEntry → Option TypeForm
form_in None = None
form_in (Some e) = Some e.form

-- how a type is built, None for a standard type
unfoldable pub shape : Table → ℕ → Option TypeForm
shape t n = form_in (entry t (meant t n))

abbrev pub span_in : Option Facts → Option Span
span_in None = None
span_in (Some f) = f.span

-- the numbers of an ordinal type's values, None for any other type
unfoldable pub span_of : Table → ℕ → Option Span
span_of t n = span_in (known t (meant t n))

-- what a form has, where there is a form
abbrev pub of_form : {A : Type 0} → (TypeForm → Option A) → Option TypeForm → Option A
of_form part None = None
of_form part (Some f) = part f

abbrev pub is_form : (TypeForm → Bool) → Option TypeForm → Bool
is_form test None = false
is_form test (Some f) = test f

-- ---- arrays
abbrev pub array_of : TypeForm → Option ArrayParts
array_of (Array i e) = Some (record { index = i; element = e })
array_of _ = None

unfoldable pub array_parts : Table → ℕ → Option ArrayParts
array_parts t n = of_form array_of (shape t n)

abbrev pub has_characters : Option ArrayParts → Bool
has_characters None = false
has_characters (Some p) = p.element == char

-- an array whose elements are CHAR itself and no subrange of it
unfoldable pub is_char_array : Table → ℕ → Bool
is_char_array t n = has_characters (array_parts t n)

-- ---- records
abbrev pub field_of : List ℕ → TypeForm → Option FieldAt
field_of name (Record xs) = field_from 0 xs name
field_of name _ = None

unfoldable pub field : Table → ℕ → List ℕ → Option FieldAt
field t n name = of_form (field_of name) (shape t n)

abbrev pub is_record_form : TypeForm → Bool
is_record_form (Record xs) = true
is_record_form _ = false

unfoldable pub is_record : Table → ℕ → Bool
is_record t n = is_form is_record_form (shape t n)

-- ---- pointers and opaque types
abbrev pub target_of : TypeForm → Option ℕ
target_of (Pointer m) = Some m
target_of _ = None

unfoldable pub target : Table → ℕ → Option ℕ
target t n = of_form target_of (shape t n)

abbrev pub is_opaque_form : TypeForm → Bool
is_opaque_form (Opaque o) = true
is_opaque_form _ = false

-- an opaque type of another module: nothing is known of its implementation
unfoldable pub is_opaque : Table → ℕ → Bool
is_opaque t n = is_form is_opaque_form (shape t n)

-- a type that has the value NIL: a pointer type, an opaque type, or ADDRESS
unfoldable pub has_nil : Table → ℕ → Bool
has_nil t n = meant t n == address || (is_some (target t n) || is_opaque t n)

-- ---- sets
abbrev pub set_of : TypeForm → Option ℕ
set_of (SetOf b) = Some b
set_of _ = None

-- the type of a set's elements: CARDINAL for BITSET
unfoldable pub set_base : Table → ℕ → Option ℕ
set_base t n = if meant t n == bit_set then Some cardinal else of_form set_of (shape t n)

abbrev pub span_by : Table → Option ℕ → Option Span
span_by t None = None
span_by t (Some b) = span_of t b

-- the numbers that may be in a set: 0 to 15 for BITSET
unfoldable pub element_span : Table → ℕ → Option Span
element_span t n = if meant t n == bit_set then Some (span (pos 0) (pos 15)) else span_by t (of_form set_of (shape t n))

-- ---- procedure types
abbrev pub is_routine_form : TypeForm → Bool
is_routine_form (Procedure ps r) = true
is_routine_form _ = false

unfoldable pub is_routine : Table → ℕ → Bool
is_routine t n = meant t n == proc || is_form is_routine_form (shape t n)

abbrev pub parameters_of : TypeForm → List Parameter
parameters_of (Procedure ps r) = ps
parameters_of _ = []

abbrev pub parameters_in : Option TypeForm → List Parameter
parameters_in None = []
parameters_in (Some f) = parameters_of f

-- the parameters of a procedure type: PROC has none
unfoldable pub parameters : Table → ℕ → List Parameter
parameters t n = parameters_in (shape t n)

unfoldable pub arity : Table → ℕ → ℕ
arity t n = length (parameters t n)

-- a parameter by its place, from 0
unfoldable pub parameter : Table → ℕ → ℕ → Option Parameter
parameter t n at = slice_get (parameters t n) at

abbrev pub result_of : TypeForm → Option ℕ
result_of (Procedure ps r) = r
result_of _ = None

-- the type of what a function gives, None for a proper procedure
unfoldable pub result : Table → ℕ → Option ℕ
result t n = of_form result_of (shape t n)
