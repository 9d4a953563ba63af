-- A type more in the table, and the parts of which one is made.
use Rattle.std.specs.Prelude.{ℕ, List, [], ◌∷◌, Option, Some, None, is_none, is_some, if◌then◌else◌}
use Rattle.lil_base.specs.declared.fault.{Place.Place, FaultKind.TheVariants.{WrongKind, DataTooLong}}
use Rattle.lil_types.specs.{declared.table.{Span.Span, TypeForm.TypeForm}, Types.{Table, known}, Adding.{own, added, added_number}}
use Rattle.lil_report.specs.Told.{Row, row}
use Rattle.lil_scope.specs.declared.env.Env.{Env}
use Rattle.lil_kinds.specs.Forms.{span_in}

-- what is declared behind a type, and its number, if it has no fault
abbrev pub Made : Type 0
Made = Env × Option ℕ

abbrev pub with_types : Env → Table → Env
with_types e t = record e { types = t }

-- 61 DataTooLong, at the type's first token: it has more than 32,000 words, or there is no number left for it
unfoldable pub type_node : Env → Place → TypeForm → Made × List Row
type_node e p form = ((with_types e (added e.types (own e.types) form), added_number e.types form), row (is_none (added_number e.types form)) p DataTooLong ∷ [])

-- a type whose parts may have a fault
abbrev pub form_node : Env → Place → Option TypeForm → Made × List Row
form_node e p (Some form) = type_node e p form
form_node e p None = ((e, None), [])

-- ---- ordinal types
-- the values of an ordinal type, None for any other
abbrev pub span_of : Table → ℕ → Option Span
span_of t n = span_in (known t n)

-- 24 WrongKind, at the name of a type that must be ordinal and isn't
unfoldable pub ordinal_node : Table → Place → Option ℕ → Option ℕ × List Row
ordinal_node t p (Some n) = (if is_some (span_of t n) then Some n else None, row (is_none (span_of t n)) p WrongKind ∷ [])
ordinal_node t p None = (None, [])
