use Rattle.lil_check_stmt.proofs.Forms.{is_value}
use Rattle.lil_check_stmt.proofs.statements.returned.Goals as goal

pub returns-in_ok-found-in-Some : goal.returns-in_ok-found-in-Some
returns-in_ok-found-in-Some c = is_value c.args.env.now c.args.at c.args.of.now c.in-Some.x c.in-Some.is c.in_ok-found-in-Some.ensures c.result_at-in-Some.ensures c.return_value.ensures
