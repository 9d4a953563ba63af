use Rattle.lil_call.proofs.Steps.{is_function, no_function}
use Rattle.lil_call.proofs.functions.function_call.Goals as goal

pub returns-in_ok-of_all : goal.returns-in_ok-of_all
returns-in_ok-of_all c = is_function c.args.t.now c.args.first c.args.of c.args.arguments c.len-count.result c.len-count.ensures c.standard-ready.ensures c.if-ready.true c.in_ok-of_all.ensures

pub returns-else-ready : goal.returns-else-ready
returns-else-ready c = no_function c.args.t.now c.args.first c.args.of c.args.arguments c.len-count.result c.len-count.ensures c.standard-ready.ensures c.if-ready.false
