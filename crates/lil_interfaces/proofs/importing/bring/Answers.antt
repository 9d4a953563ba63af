use Rattle.std.proofs.Common.{rules, ◌≡◌, true, refl, ap}
use Rattle.lil_report.specs.Laws.{said_as, said_value}
use Rattle.lil_interfaces.specs.Imports.{brought, constants_step, constants_of}
use Rattle.lil_interfaces.specs.Entering.{has_number}
use Rattle.lil_interfaces.proofs.importing.bring.Goals as goal

pub returns-then-has : goal.returns-then-has
returns-then-has c =
    let there : has_number c.args.so_far.now.enumerations c.args.sort ≡ true = search rules in
    said_as (rw there refl) (said_value refl)
