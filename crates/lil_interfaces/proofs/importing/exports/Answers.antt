use Rattle.std.proofs.Common.{refl, ap}
use Rattle.lil_report.specs.Laws.{said_as, said_value}
use Rattle.lil_interfaces.specs.Imports.{exports_mean}
use Rattle.lil_interfaces.proofs.importing.exports.Goals as goal

pub returns-in-None : goal.returns-in-None
returns-in-None c = said_as (ap (exports_mean c.args.taken.now c.args.env.now) c.in-None.is) (said_value refl)
