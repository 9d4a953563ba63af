use Rattle.lil_call.proofs.Steps.{is_value_call}
use Rattle.lil_call.proofs.routines.value_call.Goals as goal

pub returns : goal.returns
returns c = is_value_call c.args.t.now c.args.first c.args.v c.args.arguments c.routine-passed.result c.in_ok-of.of c.result-sort.result
    c.routine-passed.ensures c.in_ok-of.ensures.ok.1 c.in_ok-of.ensures.ok.0 c.result-sort.ensures c.in_ok-found.ensures
