use Rattle.lil_call.proofs.Steps.{is_routine_call, no_routine_call}
use Rattle.lil_call.proofs.routines.routine.Goals as goal

pub returns-in_ok-passed : goal.returns-in_ok-passed
returns-in_ok-passed c = is_routine_call c.args.t.now c.args.first c.args.v.now c.args.wanted c.args.arguments c.len-count.result c.is_resident-resident.result c.nothing_passed-start.result
    c.len-count.ensures c.heading-ready.ensures c.if-ready.true c.is_resident-resident.ensures c.nothing_passed-start.ensures c.in_ok-passed.ensures c.not_deep.ensures

pub returns-else-ready : goal.returns-else-ready
returns-else-ready c = no_routine_call c.args.t.now c.args.first c.args.v.now c.args.wanted c.args.arguments c.len-count.result
    c.len-count.ensures c.heading-ready.ensures c.if-ready.false
