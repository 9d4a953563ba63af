use Rattle.lil_check_unit.proofs.UnitFaults.{is_declared}
use Rattle.lil_check_unit.proofs.checking.declare.Goals as goal

pub returns-clause-said : goal.returns-clause-said
returns-clause-said c = is_declared c.args.u.now c.args.interfaces.now c.requires c.as_slice.ensures c.in_ok-imports.ensures c.in_ok-declarations.ensures c.exports.ensures
