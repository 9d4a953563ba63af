use Rattle.lil_report.specs.Laws.{said_after}
use Rattle.std.proofs.lemmas.Result.{IfOk-weaker}
use Rattle.lil_interfaces.specs.Imports.{late_node, own_node}
use Rattle.lil_interfaces.proofs.importing.import_module.Goals as goal

pub returns : goal.returns
returns c = IfOk-weaker c.own_name.result _ _ (λ u h. said_after (late_node c.args.at.now c.args.so_far.now) (own_node c.args.interfaces.now c.args.at.now) c.late.ensures h) c.own_name.ensures
