use Rattle.std.proofs.Common.{rules, refl, subst}
use Rattle.lil_report.specs.{Laws.{said_value}, Told.{Said}}
use Rattle.lil_interfaces.specs.Imports.{take_node, ident}
use Rattle.lil_interfaces.proofs.Constants.{constant_more}
use Rattle.lil_interfaces.proofs.importing.take_constants.Goals as goal

pub loop-number-init : goal.loop-number-init
loop-number-init c = said_value refl

pub loop-number-preserved : goal.loop-number-preserved
loop-number-preserved c =
    constant_more c.args.«from» c.args.place c.args.sort c.args.so_far.now c.args.names.now c.loop-number.number c.index-names-number.result c.loop-number-test.true (search rules)
    c.loop-number.invariant
    (subst (λ x. Said (take_node c.args.«from» (ident c.args.place c.index-names-number.result) c.loop-number.so_far x) c.loop-number.report c.take_constant.new.so_far c.take_constant.new.report) c.constant-thing.ensures c.in_ok-take_constant.ensures)
