use Rattle.lil_call.proofs.Steps.{is_procedure, no_procedure}
use Rattle.lil_call.proofs.procedures.procedure_call.Goals as goal

pub returns-then-ready : goal.returns-then-ready
returns-then-ready c = is_procedure c.args.t.now c.args.first c.args.of c.args.arguments c.len-count.result c.len-count.ensures c.standard-ready.ensures c.if-ready.true c.by_all.ensures

pub returns-else-ready : goal.returns-else-ready
returns-else-ready c = no_procedure c.args.t.now c.args.first c.args.of c.args.arguments c.len-count.result c.len-count.ensures c.standard-ready.ensures c.if-ready.false
