use Rattle.lil_check_unit.specs.UnitLaws.{names_speak}
use Rattle.lil_check_unit.proofs.checking.check_names.Goals as goal

pub returns-in_err-parts-clause-least : goal.returns-in_err-parts-clause-least
returns-in_err-parts-clause-least c = names_speak c.args.u.now c.args.interfaces.now

pub returns-in-Some-clause-least : goal.returns-in-Some-clause-least
returns-in-Some-clause-least c = names_speak c.args.u.now c.args.interfaces.now

pub returns-in-None-clause-least : goal.returns-in-None-clause-least
returns-in-None-clause-least c = names_speak c.args.u.now c.args.interfaces.now
