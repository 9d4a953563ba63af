use Rattle.lil_report.specs.Laws.{said_after}
use Rattle.std.proofs.lemmas.Result.{IfOk-weaker}
use Rattle.lil_interfaces.specs.Imports.{late_node, names_of}
use Rattle.lil_interfaces.proofs.importing.import_of.Goals as goal

pub returns : goal.returns
returns c = IfOk-weaker c.import_from.result _ _ (λ u h. said_after (late_node c.args.owner.now c.args.so_far.now) (names_of c.args.interfaces.now c.args.owner.now c.args.names.now) c.late.ensures h) c.import_from.ensures
