use Rattle.lil_call.proofs.Steps.{is_converted}
use Rattle.lil_call.proofs.functions.of_type_and_value.Goals as goal

pub returns : goal.returns
returns c = is_converted c.args.t.now c.args.first c.args.of c.args.at c.args.sort c.args.x c.ordinal-is.ensures c.in_ok-o.ensures c.kept_if.ensures
