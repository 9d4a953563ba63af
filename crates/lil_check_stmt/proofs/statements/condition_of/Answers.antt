use Rattle.lil_report.specs.Laws.{said_after}
use Rattle.lil_check_stmt.proofs.statements.condition_of.Goals as goal

pub returns : goal.returns
returns c = said_after _ _ c.in_ok-found.ensures c.condition.ensures
