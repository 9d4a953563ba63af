use Rattle.lil_report.specs.Laws.{said_as, said_pure}
use Rattle.lil_interfaces.proofs.Constants.{no_constants}
use Rattle.lil_interfaces.proofs.importing.with_constants.Goals as goal

pub returns-in_default : goal.returns-in_default
returns-in_default c = said_as (no_constants c.args.«from» c.args.place 0 c.args.thing c.args.so_far.now c.in_default.not-Type) (said_pure c.args.so_far.now c.args.report.now)
