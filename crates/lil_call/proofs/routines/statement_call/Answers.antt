use Rattle.lil_call.proofs.Steps.{is_statement_call}
use Rattle.lil_call.proofs.routines.statement_call.Goals as goal

pub returns : goal.returns
returns c = is_statement_call c.args.t.now c.args.first c.args.v c.args.arguments c.routine-passed.result c.in_ok-of.of c.routine-passed.ensures c.in_ok-of.ensures.ok.1 c.in_ok-of.ensures.ok.0 c.call_statement.ensures
