use Rattle.std.proofs.Common.{refl}
use Rattle.lil_report.specs.{Told.rows_of, Laws.said_after}
use Rattle.lil_operators.specs.Operations.{set_end}
use Rattle.lil_operators.proofs.sets.set_given.Goals as goal

pub returns : goal.returns
returns c = said_after (c.args.elements.tally, rows_of c.args.elements.report) (set_end c.args.types.now c.args.first c.args.sort c.args.elements.forms) (record { value = refl; told = c.note_all.ensures }) c.set_end.ensures
