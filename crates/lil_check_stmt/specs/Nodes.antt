-- The nodes of statements: what they make of the values of their parts, and their tests.
use Rattle.std.specs.Prelude.{ℕ, ◌==◌, Bool, true, false, not, is_some, List, [], ◌∷◌, Option, Some, None}
use Rattle.lil_base.specs.declared.fault.{Place.Place, FaultKind.TheVariants.{Operands, Assign, NotRecord, ExitOutside, ReturnKind, ConstRange}}
use Rattle.lil_types.specs.Types.{Table, boolean, base}
use Rattle.lil_resolved.specs.declared.resolved.{RExpr.RExpr, RKind.RKind, RStmt.RStmt}
use Rattle.lil_shapes.specs.Bases.{kind_at}
use Rattle.lil_resolved.specs.declared.resolved.RStmt.TheVariants as rs
use Rattle.lil_report.specs.Told.{Row, row}
use Rattle.lil_scope.specs.declared.thing.Kind.{Kind}
use Rattle.lil_scope.specs.declared.thing.Kind.TheVariants as k
use Rattle.lil_kinds.specs.{declared.found.{Form.Form, Found.Found}, Forms.is_record, Kinds.{assignable, misses, is_ordinal}}
use Rattle.lil_forms.specs.{Values.typed, Places.located_in, Statements.assigned}
use Rattle.lil_check_type.specs.Nodes.{node}
use Rattle.lil_check_stmt.specs.declared.nodes.Opened.{Opened}

-- ---- assignments. An open array as a whole takes nothing
abbrev pub takes : Table → Kind → Kind → Bool
takes t (k.Of s) v = assignable t s v
takes t _ v = false

abbrev pub outside : Table → Kind → Kind → Bool
outside t (k.Of s) v = misses t s v
outside t _ v = false

-- 31 Assign, at `:=`
-- 50 ConstRange
abbrev pub assign_tests : Table → Place → Found → Found → List Row
assign_tests t p a v =
    row (not (takes t a.kind v.kind)) p Assign
    ∷ row (outside t a.kind v.kind) v.first ConstRange
    ∷ []

unfoldable pub assign_node : Table → Place → Option Found → Option Found → Option RStmt × List Row
assign_node t p (Some a) (Some v) = (assigned t (located_in a.form) v, assign_tests t p a v)
assign_node t p (Some a) None = (None, [])
assign_node t p None v = (None, [])

-- ---- conditions
abbrev pub is_truth : Table → Kind → Bool
is_truth t (k.Of s) = base t s == boolean
is_truth t (k.Scalar s n) = base t s == boolean
is_truth t _ = false

-- 30 Operands: a condition that isn't BOOLEAN
unfoldable pub condition_node : Table → Option Found → Option RExpr × List Row
condition_node t (Some a) = (typed t boolean a, row (not (is_truth t a.kind)) a.first Operands ∷ [])
condition_node t None = (None, [])

-- ---- what a CASE selects by
-- 30 Operands: a selector that isn't ordinal
unfoldable pub selector_node : Table → Option Found → Option Found × List Row
selector_node t (Some a) = node (row (not (is_ordinal t a.kind)) a.first Operands ∷ []) (Some a)
selector_node t None = (None, [])

-- ---- the record of a WITH
abbrev pub is_record_kind : Table → Kind → Bool
is_record_kind t (k.Of s) = is_record t s
is_record_kind t _ = false

abbrev pub opening : Kind → Form → Option Opened
opening (k.Of s) f = Some (record { place = located_in f; sort = s })
opening _ f = None

-- 36 NotRecord, at WITH
unfoldable pub record_node : Table → Place → Option Found → Option Opened × List Row
record_node t p (Some a) = node (row (not (is_record_kind t a.kind)) p NotRecord ∷ []) (opening a.kind a.form)
record_node t p None = (None, [])

-- ---- EXIT
-- 25 ExitOutside
unfoldable pub exit_node : Place → Bool → Option RStmt × List Row
exit_node p looping = (Some rs.Exit, row (not looping) p ExitOutside ∷ [])

-- ---- RETURN, by the result type of the body, where it is that of a function
-- 26 ReturnKind: a function returns without a value
unfoldable pub end_node : Place → Option ℕ → Option RStmt × List Row
end_node p result = (Some rs.Return, row (is_some result) p ReturnKind ∷ [])

-- 26 ReturnKind: a value in a body that is no function's
-- 31 Assign, at RETURN
-- 50 ConstRange
abbrev pub return_tests : Table → Place → Option ℕ → Found → List Row
return_tests t p None v = row true p ReturnKind ∷ []
return_tests t p (Some s) v =
    row (not (assignable t s v.kind)) p Assign
    ∷ row (misses t s v.kind) v.first ConstRange
    ∷ []

-- a value goes over as one of the result's kind
abbrev pub answer : Option RKind → Option RExpr → Option RStmt
answer (Some j) (Some x) = Some (rs.Answer j x)
answer (Some j) None = None
answer None x = None

abbrev pub answered : Table → Option ℕ → Found → Option RStmt
answered t None v = None
answered t (Some s) v = answer (kind_at t s) (typed t s v)

unfoldable pub return_node : Table → Place → Option ℕ → Option Found → Option RStmt × List Row
return_node t p result (Some v) = (answered t result v, return_tests t p result v)
return_node t p result None = (None, [])
