-- Which form a statement has.
use Rattle.std.specs.Prelude.{Bool, true, false}
use Rattle.lil_resolved.specs.declared.resolved.{RStmt.{RStmt, out-RStmt, TheOpen.RStmt-F}, RArm.RArm, RGuard.RGuard}
use Rattle.lil_resolved.specs.declared.resolved.RStmt.TheOpen as o

abbrev case_layer : RStmt-F RStmt RArm RGuard → Bool
case_layer (o.Case value arms otherwise) = true
case_layer s = false

abbrev pub is_case : RStmt → Bool
is_case s = case_layer (out-RStmt s)
