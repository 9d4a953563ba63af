use Rattle.std.proofs.Common.{rules, refl, arith}
use Rattle.lil_report.specs.Laws.{said_value, said_more, said_all}
use Rattle.lil_interfaces.specs.Imports.{import_step, imports_mean}
use Rattle.lil_interfaces.proofs.importing.imports.Goals as goal

pub loop-one-init : goal.loop-one-init
loop-one-init c = said_value refl

pub loop-one-preserved : goal.loop-one-preserved
loop-one-preserved c = said_more (import_step c.args.interfaces.now) _ c.args.of.now c.loop-one.one-index c.one-item.result c.loop-one-test.true (search rules) c.loop-one.invariant c.in_ok-import.ensures

pub returns : goal.returns
unfolding imports_mean
returns c = said_all (import_step c.args.interfaces.now) _ c.args.of.now c.loop-one.one-index (omega arith) c.loop-one.invariant
