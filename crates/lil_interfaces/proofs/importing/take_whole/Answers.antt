use Rattle.lil_report.specs.Laws.{said_after}
use Rattle.std.proofs.lemmas.Result.{IfOk-weaker}
use Rattle.lil_interfaces.specs.Imports.{take_node, with_constants}
use Rattle.lil_interfaces.proofs.importing.take_whole.Goals as goal

pub returns : goal.returns
returns c = IfOk-weaker c.with_constants.result _ _ (λ u h. said_after (take_node c.args.«from» c.args.at.now c.args.so_far.now c.args.thing) (with_constants c.args.«from» c.args.at.now.place c.args.thing) c.in_ok-take.ensures h) c.with_constants.ensures
