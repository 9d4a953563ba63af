use Rattle.std.proofs.Common.{rules, ◌∙◌, arith}
use Rattle.lil_check_unit.proofs.UnitFaults.{next_import, all_imports}
use Rattle.lil_check_unit.proofs.programs.look_for_imports.Goals as goal

pub loop-one-preserved : goal.loop-one-preserved
loop-one-preserved c = next_import c.args.interfaces.now c.loop-one.report c.args.of.now c.loop-one.one-index c.one-item.result c.loop-one-test.true (search rules) c.look_for_import.ensures ∙ c.loop-one.invariant

pub returns : goal.returns
returns c = all_imports c.args.interfaces.now c.loop-one.report c.args.of.now c.loop-one.one-index (omega arith) ∙ c.loop-one.invariant
