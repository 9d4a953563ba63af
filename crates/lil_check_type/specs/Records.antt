-- Fields of records, the labels of their variants, and the parameters and results of procedures.
use Rattle.std.specs.Prelude.{ℕ, Bool, true, false, not, ◌||◌, List, [], ◌∷◌, ◌++◌, Option, Some, None, is_some, if◌then◌else◌, ◌&&◌}
use Rattle.lil_base.specs.declared.fault.{Place.Place, FaultKind.TheVariants.{ResultType, Twice}}
use Rattle.lil_text.specs.declared.tree.{Qualident.Qualident, Ident.Ident}
use Rattle.lil_language.specs.declared.unit.Formal.{Formal}
use Rattle.lil_types.specs.{declared.table.{TypeForm.TypeForm, Field.Field}, Types.Table}
use Rattle.lil_types.specs.declared.table.TypeForm.TheVariants as form
use Rattle.lil_report.specs.Told.{Row, row, after, walk}
use Rattle.lil_scope.specs.{declared.env.Env.Env, Names.same}
use Rattle.lil_kinds.specs.Forms.{array_parts, is_record}
use Rattle.lil_check_value.specs.Looks.{type_named}
use Rattle.lil_check_type.specs.{declared.{named.NamedType.{NamedType, TheVariants.{Absent, Given, Faulty}}, routines.Parameters.Parameters, records.Fields.Fields, labels.Labels.Labels}, Made.{Made, form_node, ordinal_node}}

-- ---- parameters and results of procedures

abbrev pub no_parameters : Parameters
no_parameters = record { list = []; right = true }

-- a parameter more, with its flags
abbrev pub with_parameter : Parameters → Bool → Bool → Option ℕ → Parameters
with_parameter ps by_place open_array (Some n) = record { list = ps.list ++ record { by_place = by_place; open_array = open_array; sort = n } ∷ []; right = ps.right }
with_parameter ps by_place open_array None = record { list = ps.list; right = false }

abbrev pub formal_step : Env → Parameters → Formal → Parameters × List Row
formal_step e ps f = after (type_named e f.sort) (λ o. (with_parameter ps f.by_place f.open_array o, []))

abbrev pub is_structure : Table → ℕ → Bool
is_structure t n = is_record t n || is_some (array_parts t n)

-- 40 ResultType, at the name of a result's type that is an array or a record
unfoldable pub result_node : Table → Place → Option ℕ → NamedType × List Row
result_node t p (Some n) = (if is_structure t n then Faulty else Given n, row (is_structure t n) p ResultType ∷ [])
result_node t p None = (Faulty, [])

abbrev pub result_means : Env → Option Qualident → NamedType × List Row
result_means e None = (Absent, [])
result_means e (Some q) = after (type_named e q) (result_node e.types q.name.place)

abbrev pub procedure_form : Parameters → NamedType → Option TypeForm
procedure_form ps Absent = if ps.right then Some (form.Procedure ps.list None) else None
procedure_form ps (Given n) = if ps.right then Some (form.Procedure ps.list (Some n)) else None
procedure_form ps Faulty = None

abbrev pub procedure_means : Env → Place → List Formal → Option Qualident → Made × List Row
procedure_means e p fs q = after (walk (formal_step e) no_parameters fs) (λ ps. after (result_means e q) (λ n. form_node e p (procedure_form ps n)))

-- ---- fields: whether all have a type, and whether nothing else is wrong
abbrev pub no_fields : Fields
no_fields = record { list = []; typed = true; right = true }

abbrev pub has_field : List Field → List ℕ → Bool
has_field [] n = false
has_field (f ∷ fs) n = same n f.name || has_field fs n

abbrev pub sort_or : Option ℕ → ℕ
sort_or (Some n) = n
sort_or None = 0

abbrev pub field : List ℕ → ℕ → Field
field name sort = record { name = name; sort = sort }

abbrev pub with_field : Fields → List ℕ → Option ℕ → Bool → Fields
with_field fs name o twice = record { list = fs.list ++ field name (sort_or o) ∷ []; typed = fs.typed && is_some o; right = fs.right && not twice }

-- 21 Twice, at a field whose name stands before in the record
unfoldable pub field_step : Option ℕ → Fields → Ident → Fields × List Row
field_step o fs i = (with_field fs i.name o (has_field fs.list i.name), row (has_field fs.list i.name) i.place Twice ∷ [])

-- ---- the tag of variants: a field, where it has a name
abbrev pub tag_field : Fields → Option Ident → Option ℕ → Fields × List Row
tag_field fs (Some i) o = field_step o fs i
tag_field fs None o = (record { list = fs.list; typed = fs.typed && is_some o; right = fs.right }, [])

abbrev pub tag_means : Env → Fields → Option Ident → Qualident → (Fields × Option ℕ) × List Row
tag_means e fs i q = after (type_named e q) (λ o. after (ordinal_node e.types q.name.place o) (λ n. after (tag_field fs i n) (λ gs. ((gs, n), []))))

-- the fields of variants, once all labels of their CASE are known
abbrev pub with_labels : Fields → Labels → Fields
with_labels fs ls = record { list = fs.list; typed = fs.typed; right = fs.right && ls.right }

-- a record is as long as its fields, whatever else is wrong; but then it has no type
abbrev pub record_form : Fields → Option TypeForm
record_form fs = if fs.typed then Some (form.Record fs.list) else None

abbrev pub if_right : Bool → Option ℕ → Option ℕ
if_right right o = if right then o else None

abbrev pub record_node : Env → Place → Fields → Made × List Row
record_node e p fs = after (form_node e p (record_form fs)) (λ m. ((m.0, if_right fs.right m.1), []))
