use Rattle.std.proofs.Common.{sym, ◌∙◌}
use Rattle.std.proofs.lemmas.Result.{IfOk-weaker}
use Rattle.lil_check_unit.specs.UnitLaws.{program_speaks}
use Rattle.lil_check_unit.proofs.{Right.program_there, UnitFaults.{wrong_name, then_imports}}
use Rattle.lil_check_unit.proofs.programs.check_program.Goals as goal

pub returns-in-Some-clause-wrong : goal.returns-in-Some-clause-wrong
returns-in-Some-clause-wrong c f e =
    let as_told = c.told.ensures in
    (c.in-Some.fault, wrong_name c.args.file.now c.args.u.now (sym c.naming_fault.ensures ∙ c.in-Some.is), cc)

pub returns-in-Some-clause-there : goal.returns-in-Some-clause-there
returns-in-Some-clause-there c = program_there c.args.file.now c.args.u.now

pub returns-in-Some-clause-least : goal.returns-in-Some-clause-least
returns-in-Some-clause-least c = program_speaks c.args.file.now c.args.u.now

pub returns-in-None-clause-right : goal.returns-in-None-clause-right
returns-in-None-clause-right c =
    IfOk-weaker c.with_imports.result _ _ (λ m p. (p.0, then_imports c.args.file.now c.args.u.now (sym c.naming_fault.ensures ∙ c.in-None.is) ∙ p.1)) c.with_imports.ensures.right

pub returns-in-None-clause-there : goal.returns-in-None-clause-there
returns-in-None-clause-there c = program_there c.args.file.now c.args.u.now

pub returns-in-None-clause-wrong : goal.returns-in-None-clause-wrong
returns-in-None-clause-wrong c f e =
    let p = c.with_imports.ensures.wrong f e in
    (p.0, then_imports c.args.file.now c.args.u.now (sym c.naming_fault.ensures ∙ c.in-None.is) ∙ p.1, p.2)

pub returns-in-None-clause-least : goal.returns-in-None-clause-least
returns-in-None-clause-least c = program_speaks c.args.file.now c.args.u.now
