use Rattle.std.proofs.Common.{rules, refl, arith}
use Rattle.lil_report.specs.Laws.{said_value, said_more, said_all}
use Rattle.lil_interfaces.specs.Imports.{export_step}
use Rattle.lil_interfaces.proofs.importing.export_names.Goals as goal

pub loop-at-init : goal.loop-at-init
loop-at-init c = said_value refl

pub loop-at-preserved : goal.loop-at-preserved
loop-at-preserved c = said_more (export_step c.args.taken.now) _ c.args.names.now c.loop-at.at-index c.at-item.result c.loop-at-test.true (search rules) c.loop-at.invariant c.export.ensures

pub returns : goal.returns
returns c = said_all (export_step c.args.taken.now) _ c.args.names.now c.loop-at.at-index (omega arith) c.loop-at.invariant
