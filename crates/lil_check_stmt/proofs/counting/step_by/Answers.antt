use Rattle.lil_check_stmt.proofs.Forms.{is_step}
use Rattle.lil_check_stmt.proofs.counting.step_by.Goals as goal

pub returns-in_ok-found-in-Some : goal.returns-in_ok-found-in-Some
returns-in_ok-found-in-Some c = is_step c.args.env.now c.args.by.now c.in-Some.x c.in-Some.is c.in_ok-found-in-Some.ensures c.step-by.ensures
