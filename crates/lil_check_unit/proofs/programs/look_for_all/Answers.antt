use Rattle.std.proofs.Common.{rules, ◌∙◌, arith}
use Rattle.lil_check_unit.proofs.UnitFaults.{next_name, all_names}
use Rattle.lil_check_unit.proofs.programs.look_for_all.Goals as goal

pub loop-at-preserved : goal.loop-at-preserved
loop-at-preserved c = next_name c.args.interfaces.now c.loop-at.report c.args.names.now c.loop-at.at-index c.at-item.result c.loop-at-test.true (search rules) c.look_for.ensures ∙ c.loop-at.invariant

pub returns : goal.returns
returns c = all_names c.args.interfaces.now c.loop-at.report c.args.names.now c.loop-at.at-index (omega arith) ∙ c.loop-at.invariant
