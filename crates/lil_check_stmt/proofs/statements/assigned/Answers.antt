use Rattle.lil_report.specs.Laws.{said_to, said_after}
use Rattle.lil_check_stmt.proofs.Forms.{is_given}
use Rattle.lil_check_stmt.proofs.statements.assigned.Goals as goal

pub returns : goal.returns
returns c = said_after _ _ (said_to c.in_ok-found.ensures c.in_ok-found-2.ensures.ok.0) (said_after _ _ (is_given _ c.in_ok-found-2.ensures.ok.1 c.boxed_expression.ensures) c.assign.ensures)
