use Rattle.std.proofs.Common.{rules, refl, arith}
use Rattle.lil_report.specs.Laws.{said_value, said_more, said_all}
use Rattle.lil_interfaces.specs.Imports.{module_step}
use Rattle.lil_interfaces.proofs.importing.import_modules.Goals as goal

pub loop-at-init : goal.loop-at-init
loop-at-init c = said_value refl

pub loop-at-preserved : goal.loop-at-preserved
loop-at-preserved c = said_more (module_step c.args.interfaces.now) _ c.args.names.now c.loop-at.at-index c.at-item.result c.loop-at-test.true (search rules) c.loop-at.invariant c.in_ok-import_module.ensures

pub returns : goal.returns
returns c = said_all (module_step c.args.interfaces.now) _ c.args.names.now c.loop-at.at-index (omega arith) c.loop-at.invariant
