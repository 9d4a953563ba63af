use Rattle.std.proofs.Common.{sym, ◌∙◌}
use Rattle.lil_check_unit.proofs.UnitFaults.{wrong_data, then_late}
use Rattle.lil_check_unit.proofs.modules.data_fault.Goals as goal

pub returns-in-Some : goal.returns-in-Some
returns-in-Some c = sym (wrong_data c.args.u.now c.args.of.now.declared c.args.of.now.stated c.args.of.now.late (sym c.long_fault.ensures ∙ c.in-Some.is))

pub returns-in-None : goal.returns-in-None
returns-in-None c = sym (then_late c.args.u.now c.args.of.now.declared c.args.of.now.stated c.args.of.now.late (sym c.long_fault.ensures ∙ c.in-None.is))
