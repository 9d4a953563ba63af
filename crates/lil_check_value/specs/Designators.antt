-- What designators reach: the variable, or the part of one, or what else a name means; and what that is where it is used.
use Rattle.std.specs.Prelude.{ℕ, nat_lt, Bool, true, false, List, [], ◌∷◌, slice_get, Option, Some, None, if◌then◌else◌, ◌==◌, is_none, not, ◌&&◌}
use Rattle.lil_base.specs.declared.fault.{Place.Place, FaultKind.{FaultKind, TheVariants.{WrongKind, ProcValue, Unknown, NotExported, Assign, NotArray, NotRecord, NotPointer, NoField, Opaque, ConstRange, ExprDeep, NotBuilt}}}
use Rattle.lil_report.specs.Told.{Row, row}
use Rattle.lil_scope.specs.{declared.{thing.{ExternalProcedure.ExternalProcedure, Kind.Kind, Routine.Routine, Thing.Thing, Variable.Variable}, env.Env.Env}, Names.{member, waits_for, levels_out}}
use Rattle.lil_scope.specs.declared.thing.Kind.TheVariants as k
use Rattle.lil_scope.specs.declared.thing.Thing.TheVariants as t
use Rattle.lil_kinds.specs.{declared.{found.{Form.Form, Found.Found, Located.Located, Standing.Standing}, forms.ArrayParts.ArrayParts}, Forms.{array_parts, field, is_record, target, is_opaque}, Kinds.{assignable, misses}}
use Rattle.lil_kinds.specs.declared.found.Form.TheVariants as form
use Rattle.lil_kinds.specs.declared.found.Standing.TheVariants as standing
use Rattle.lil_call.specs.declared.call.{Callee.Callee, Argument.Argument}
use Rattle.lil_call.specs.declared.call.Callee.TheVariants as callee
use Rattle.lil_call.specs.declared.call.Argument.TheVariants as argument
use Rattle.lil_operators.specs.Operations.{Meaning, plain_found, constant_found, raised}
use Rattle.lil_check_value.specs.{declared.{designators.{Part.Part, Named.Named, Reached.Reached}, names.Looked.{Looked, TheVariants.{Nothing, Field, Thing as Declared}}}, Looks.{look, looked_as, is_nothing, is_hidden, is_built_name}}
use Rattle.lil_check_value.specs.declared.designators.Reached.TheVariants as reached
use Rattle.lil_text.specs.declared.tree.Ident.{Ident}
use Rattle.lil_types.specs.{Types.{Table, cardinal, char}, declared.fields.FieldAt.FieldAt}
use Rattle.lil_declared.specs.declared.declared.Mode.{Mode}
use Rattle.lil_declared.specs.declared.declared.Mode.TheVariants as mode
use Rattle.lil_forms.specs.Places as places
use Rattle.lil_forms.specs.{Places.{located_form, located_in, variable_at, held_at}, Values.own, Variables.{named_at, seen}}
use Rattle.lil_resolved.specs.declared.resolved.RNamed.{RNamed}

abbrev pub Reaches : Type 0
Reaches = Option Reached × List Row

-- ---- names
-- where a variable lies that is seen
abbrev pub form_named : Env → Option RNamed → Form
form_named e None = form.Nothing
form_named e (Some n) = variable_at n (seen e n)

abbrev pub form_of : Env → Variable → Form
form_of e v = form_named e (named_at e v)

abbrev pub kind_by : Mode → ℕ → Kind
kind_by mode.Plain s = k.Of s
kind_by mode.Value s = k.Of s
kind_by mode.Place s = k.Of s
kind_by mode.OpenValue s = k.Open s
kind_by mode.OpenPlace s = k.Open s

abbrev pub variable_kind : Variable → Kind
variable_kind v = kind_by v.mode v.sort

-- a variable as a whole: the place where the designator begins, that of its name, where it lies, and its kind
abbrev pub whole_part : Place → Place → Form → Kind → Part
whole_part p q f kind = record { first = p; name = q; form = f; is_whole = true; kind = kind; depth = 1; standing = standing.Variable }

abbrev pub named : Place → Place → Thing → Reached
named p q x = reached.Other (record { first = p; name = q; thing = x })

-- no value where the declaration of the name has a fault; a variable of another module has no form
abbrev pub thing_reached : Env → Place → Place → Thing → Option Reached
thing_reached e p q (t.Variable v) = Some (reached.Part (whole_part p q (form_of e v) (variable_kind v)))
thing_reached e p q (t.ExternalVariable v) = Some (reached.Part (whole_part p q form.Nothing (k.Of v.sort)))
thing_reached e p q t.Hidden = None
thing_reached e p q t.Broken = None
thing_reached e p q (t.Constant c) = Some (named p q (t.Constant c))
thing_reached e p q (t.Named n c) = Some (named p q (t.Named n c))
thing_reached e p q t.Nil = Some (named p q t.Nil)
thing_reached e p q (t.Type s) = Some (named p q (t.Type s))
thing_reached e p q (t.Procedure x) = Some (named p q (t.Procedure x))
thing_reached e p q (t.ExternalProcedure x) = Some (named p q (t.ExternalProcedure x))
thing_reached e p q (t.Resident x s) = Some (named p q (t.Resident x s))
thing_reached e p q (t.Standard x) = Some (named p q (t.Standard x))
thing_reached e p q (t.Module b) = Some (named p q (t.Module b))

-- a field of the record of a WITH
abbrev pub held_field : Env → ℕ → ℕ → Option Located
held_field e w f = places.field_of e.types f (held_at e.withs w)

abbrev pub looked_reached : Env → Place → Place → Looked → Option Reached
looked_reached e p q Nothing = None
looked_reached e p q (Field w f s) = Some (reached.Part (whole_part p q (located_form (held_field e w f)) (k.Of s)))
looked_reached e p q (Declared x) = thing_reached e p q x

-- a name at q in a designator that begins at p; where it is one of a module, the module's name stands at another place
unfoldable pub name_node : Env → Place → Place → Place → Looked → Reaches
name_node e p at q l = (
  looked_reached e p q l,
  row (is_nothing l) q Unknown ∷ row (is_hidden l) q NotExported
      -- 90 NotBuilt
      ∷ row (not (is_built_name l)) at NotBuilt ∷ [],
)

abbrev pub root_means : Env → Place → Ident → Reaches
root_means e p x = name_node e p x.place x.place (look e x.name)

-- ---- selectors on what is no variable
-- types and modules can't stand there, whatever is selected
abbrev pub is_misplaced : Thing → Bool
is_misplaced (t.Type s) = true
is_misplaced (t.Module b) = true
is_misplaced _ = false

abbrev pub refused_rows : Named → Place → FaultKind → List Row
refused_rows o p f =
    -- 24 WrongKind, and what the selector asks for
    row (is_misplaced o.thing) o.name WrongKind ∷ row (not (is_misplaced o.thing)) p f ∷ []

-- ---- fields
abbrev pub record_kind : Table → Kind → Bool
record_kind types (k.Of s) = is_record types s
record_kind types _ = false

abbrev pub field_of : Table → Kind → List ℕ → Option FieldAt
field_of types (k.Of s) n = field types s n
field_of types _ n = None

abbrev pub with_field : Table → Part → FieldAt → Part
with_field types a f = record a { form = located_form (places.field_of types f.number (located_in a.form)); is_whole = false; kind = k.Of f.sort; standing = standing.Variable }

abbrev pub field_found : Table → Part → Option FieldAt → Option Reached
field_found types a None = None
field_found types a (Some f) = Some (reached.Part (with_field types a f))

abbrev pub field_value : Table → Bool → Part → Option FieldAt → Option Reached
field_value types is_record a o = if is_record then field_found types a o else None

unfoldable pub part_field : Table → Place → Ident → Part → Reaches
part_field types dot x a = (
  field_value types (record_kind types a.kind) a (field_of types a.kind x.name),
  -- 36 NotRecord
  row (not (record_kind types a.kind)) dot NotRecord
      -- 38 NoField
      ∷ row (record_kind types a.kind && is_none (field_of types a.kind x.name)) x.place NoField ∷ [],
)

abbrev pub module_block : Thing → Option ℕ
module_block (t.Module b) = Some b
module_block _ = None

-- a name of a module is looked up there
abbrev pub other_field_by : Env → Place → Ident → Named → Option ℕ → Reaches
other_field_by e dot x o (Some b) = name_node e o.first o.name x.place (looked_as (member e.scopes b x.name))
other_field_by e dot x o None = (None, refused_rows o dot NotRecord)

unfoldable pub other_field : Env → Place → Ident → Named → Reaches
other_field e dot x o = other_field_by e dot x o (module_block o.thing)

abbrev pub field_node : Env → Place → Ident → Option Reached → Reaches
field_node e dot x None = (None, [])
field_node e dot x (Some (reached.Part a)) = part_field e.types dot x a
field_node e dot x (Some (reached.Other o)) = other_field e dot x o

-- ---- elements
-- the index type and the element type; an open array has indexes of CARDINAL
abbrev pub parts_of : Table → Kind → Option ArrayParts
parts_of types (k.Of s) = array_parts types s
parts_of types (k.Open s) = Some (record { index = cardinal; element = s })
parts_of types _ = None

-- an element of an array whose elements are CHAR itself is a character
abbrev pub element_standing : ℕ → Standing
element_standing s = if s == char then standing.Character else standing.Variable

abbrev pub with_index : Table → Part → Found → ArrayParts → ℕ → Part
with_index types a i parts d = record { first = a.first; name = a.name; form = located_form (places.element_of types i a.form); is_whole = false; kind = k.Of parts.element; depth = d; standing = element_standing parts.element }

abbrev pub deep_row : Option ℕ → Place → Row
deep_row d p = row (is_none d) p ExprDeep

abbrev pub index_fits : Table → ArrayParts → Kind → Bool
index_fits types parts kind = assignable types parts.index kind && not (misses types parts.index kind)

abbrev pub element_found : Table → Part → Found → ArrayParts → Option ℕ → Option Reached
element_found types a i parts None = None
element_found types a i parts (Some d) = if index_fits types parts i.kind then Some (reached.Part (with_index types a i parts d)) else None

abbrev pub element_value : Table → Part → Found → Option ArrayParts → Option ℕ → Option Reached
element_value types a i None d = None
element_value types a i (Some parts) d = element_found types a i parts d

abbrev pub index_rows : Table → Place → Place → Kind → Option ArrayParts → List Row
-- 35 NotArray
index_rows types bracket first kind None = row true bracket NotArray ∷ []
-- 31 Assign and 50 ConstRange
index_rows types bracket first kind (Some parts) = row (not (assignable types parts.index kind)) first Assign ∷ row (misses types parts.index kind) first ConstRange ∷ []

unfoldable pub part_index : Table → Place → Part → Found → Reaches
part_index types bracket a i = (
  element_value types a i (parts_of types a.kind) (raised a.depth 2 i.depth),
  deep_row (raised a.depth 2 i.depth) a.first ∷ index_rows types bracket i.first i.kind (parts_of types a.kind),
)

abbrev pub other_index_rows : Place → Named → Option Found → List Row
other_index_rows bracket o None = row (is_misplaced o.thing) o.name WrongKind ∷ []
other_index_rows bracket o (Some i) = row (is_misplaced o.thing) o.name WrongKind ∷ row (not (is_misplaced o.thing) && is_none (raised 1 2 i.depth)) o.first ExprDeep ∷ row (not (is_misplaced o.thing)) bracket NotArray ∷ []

unfoldable pub other_index : Place → Named → Option Found → Reaches
other_index bracket o i = (None, other_index_rows bracket o i)

abbrev pub index_node : Table → Place → Option Reached → Option Found → Reaches
index_node types bracket None i = (None, [])
index_node types bracket (Some (reached.Other o)) i = other_index bracket o i
index_node types bracket (Some (reached.Part a)) None = (None, [])
index_node types bracket (Some (reached.Part a)) (Some i) = part_index types bracket a i

-- ---- what a pointer points to
abbrev pub opaque_kind : Table → Kind → Bool
opaque_kind types (k.Of s) = is_opaque types s
opaque_kind types _ = false

abbrev pub target_of : Table → Kind → Option ℕ
target_of types (k.Of s) = target types s
target_of types _ = None

abbrev pub with_follow : Table → Part → ℕ → Part
with_follow types a s = record a { form = located_form (places.target_of types (located_in a.form)); is_whole = false; kind = k.Of s; standing = standing.Variable }

abbrev pub target_found : Table → Part → Option ℕ → Option Reached
target_found types a None = None
target_found types a (Some s) = Some (reached.Part (with_follow types a s))

abbrev pub target_value : Table → Bool → Part → Option ℕ → Option Reached
target_value types is_opaque a o = if is_opaque then None else target_found types a o

unfoldable pub part_follow : Table → Place → Part → Reaches
part_follow types arrow a = (
  target_value types (opaque_kind types a.kind) a (target_of types a.kind),
  -- 43 Opaque
  row (opaque_kind types a.kind) arrow Opaque
      -- 37 NotPointer
      ∷ row (not (opaque_kind types a.kind) && is_none (target_of types a.kind)) arrow NotPointer ∷ [],
)

-- nothing lies behind a pointer whose target the block at hand declares later
abbrev pub is_waiting : Env → Kind → Bool
is_waiting e (k.Of s) = waits_for e s
is_waiting e _ = false

abbrev pub reached_follow : Env → Place → Part → Reaches
reached_follow e arrow a = if is_waiting e a.kind then (None, []) else part_follow e.types arrow a

unfoldable pub other_follow : Place → Named → Reaches
other_follow arrow o = (None, refused_rows o arrow NotPointer)

abbrev pub follow_node : Env → Place → Option Reached → Reaches
follow_node e arrow None = (None, [])
follow_node e arrow (Some (reached.Part a)) = reached_follow e arrow a
follow_node e arrow (Some (reached.Other o)) = other_follow arrow o

-- ---- what a designator is where it is used: as a value, as a variable, as what is called, and as a type's name

-- ---- values
abbrev pub part_found : Part → Found
part_found a = record { form = a.form; kind = a.kind; first = a.first; depth = a.depth; standing = a.standing }

-- a procedure that another one declares, or that the module doesn't declare, is no value
abbrev pub no_value : Thing → Bool
no_value (t.Procedure x) = nat_lt 1 x.level
no_value (t.Resident x s) = true
no_value (t.Standard x) = true
no_value _ = false

-- a procedure by its number
abbrev pub routine_found : Place → Routine → Option Found
routine_found p x = if nat_lt 1 x.level then None else Some (plain_found p (form.Routine x.number) (k.Routine x.sort))

-- a procedure of another module has no form
abbrev pub external_found : Place → ExternalProcedure → Found
external_found p x = plain_found p form.Nothing (k.Routine x.sort)

-- the text of a constant by its number among those of all constants
abbrev pub text_form : Option (List ℕ) → Form
text_form None = form.Nothing
text_form (Some cs) = form.Text cs

abbrev pub thing_found : List (List ℕ) → Place → Thing → Option Found
thing_found texts p (t.Constant kind) = Some (constant_found p kind)
thing_found texts p (t.Named n c) = Some (plain_found p (text_form (slice_get texts n)) (k.Chars c))
thing_found texts p t.Nil = Some (constant_found p k.Nil)
thing_found texts p (t.Procedure x) = routine_found p x
thing_found texts p (t.ExternalProcedure x) = Some (external_found p x)
thing_found texts p _ = None

unfoldable pub named_value : List (List ℕ) → Named → Meaning
named_value texts o = (
  thing_found texts o.first o.thing,
  -- 24 WrongKind
  row (is_misplaced o.thing) o.name WrongKind
      -- 41 ProcValue
      ∷ row (no_value o.thing) o.name ProcValue ∷ [],
)

abbrev pub value_node : List (List ℕ) → Option Reached → Meaning
value_node texts None = (None, [])
value_node texts (Some (reached.Part a)) = (Some (part_found a), [])
value_node texts (Some (reached.Other o)) = named_value texts o

-- ---- variables
abbrev pub variable_node : Option Reached → Meaning
variable_node None = (None, [])
variable_node (Some (reached.Part a)) = (Some (part_found a), [])
-- 24 WrongKind
variable_node (Some (reached.Other o)) = (None, row true o.name WrongKind ∷ [])

-- ---- what is called
-- the value of a variable or of a part of one
abbrev pub part_callee : Table → Kind → Part → Callee
part_callee types (k.Of s) a = callee.Variable s a.depth (own types a.form)
part_callee types _ a = callee.Other

abbrev pub thing_callee : Env → Thing → Option Callee
thing_callee e (t.Procedure x) = Some (callee.Procedure x.sort x.number (levels_out e x.level))
thing_callee e (t.ExternalProcedure x) = Some (callee.Variable x.sort 1 None)
thing_callee e (t.Resident x s) = Some (callee.Resident x s)
thing_callee e (t.Standard x) = Some (callee.Standard x)
thing_callee e (t.Constant kind) = Some callee.Other
thing_callee e (t.Named n c) = Some callee.Other
thing_callee e t.Nil = Some callee.Other
thing_callee e _ = None

abbrev pub callee_node : Env → Option Reached → Option Callee × List Row
callee_node e None = (None, [])
callee_node e (Some (reached.Part a)) = (Some (part_callee e.types a.kind a), [])
-- 24 WrongKind
callee_node e (Some (reached.Other o)) = (thing_callee e o.thing, row (is_misplaced o.thing) o.name WrongKind ∷ [])

-- ---- an argument that should be a type's name, at its first token
abbrev pub type_in : Thing → Option ℕ
type_in (t.Type s) = Some s
type_in _ = None

abbrev pub no_type_in : Thing → Bool
no_type_in (t.Type s) = false
no_type_in _ = true

abbrev pub part_typed : Bool → Place → Part → Argument × List Row
-- 24 WrongKind
part_typed true p a = (argument.Type p None, row true a.name WrongKind ∷ [])
part_typed false p a = (argument.Value (Some (part_found a)), [])

abbrev pub typed_node : Place → Option Reached → Argument × List Row
typed_node p None = (argument.Type p None, [])
typed_node p (Some (reached.Part a)) = part_typed a.is_whole p a
-- 24 WrongKind
typed_node p (Some (reached.Other o)) = (argument.Type p (type_in o.thing), row (no_type_in o.thing) o.name WrongKind ∷ [])
