use Rattle.std.proofs.Common.{sym, ap, ◌∙◌}
use Rattle.std.proofs.lemmas.Result.{IfOk-weaker}
use Rattle.lil_check_unit.specs.Units.{module_of}
use Rattle.lil_check_unit.proofs.UnitFaults.{wrong_import, then_unit, has_interfaces}
use Rattle.lil_check_unit.proofs.programs.with_imports.Goals as goal

pub returns-in-Some-clause-wrong : goal.returns-in-Some-clause-wrong
returns-in-Some-clause-wrong c f e =
    let as_told = c.told.ensures in
    (c.in-Some.fault, wrong_import c.args.u.now c.in_ok-interfaces.ensures (sym c.missing_fault.ensures ∙ c.in-Some.is), cc)

pub check_module-requires-clause-imported : goal.check_module-requires-clause-imported
check_module-requires-clause-imported c = has_interfaces c.in_ok-interfaces.interfaces c.args.u.now (sym c.missing_fault.ensures ∙ c.in-None.is)

pub returns-clause-right : goal.returns-clause-right
returns-clause-right c =
    IfOk-weaker c.check_module.result _ _
    (λ m p. (p.0 ∙ ap (module_of c.args.u.now) c.in_ok-interfaces.ensures, then_unit c.args.u.now c.in_ok-interfaces.ensures (sym c.missing_fault.ensures ∙ c.in-None.is) ∙ p.1))
    c.check_module.ensures.right

pub returns-clause-wrong : goal.returns-clause-wrong
returns-clause-wrong c f e =
    let p = c.check_module.ensures.wrong f e in
    (p.0, then_unit c.args.u.now c.in_ok-interfaces.ensures (sym c.missing_fault.ensures ∙ c.in-None.is) ∙ p.1, p.2)
