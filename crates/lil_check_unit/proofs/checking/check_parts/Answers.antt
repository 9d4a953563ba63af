use Rattle.std.proofs.Common.{None, sym, ap, ◌∙◌}
use Rattle.std.proofs.lemmas.Result.{IfOk-weaker}
use Rattle.lil_report.specs.{Least.{late_of, worse}, Told.tell}
use Rattle.lil_check_stmt.specs.Stmts.{bodies_mean}
use Rattle.lil_check_unit.specs.Modules.{in_no_with}
use Rattle.lil_check_unit.proofs.UnitFaults.{wrong_declarations, then_statements, late_is, stated_is}
use Rattle.lil_check_unit.proofs.checking.check_parts.Goals as goal

pub returns-in-Some-clause-wrong : goal.returns-in-Some-clause-wrong
returns-in-Some-clause-wrong c f e =
    let as_told = c.told.ensures in
    (c.in-Some.fault, wrong_declarations c.args.u.now c.args.interfaces.now c.new-report.ensures c.in_ok-parts.ensures.said (sym c.in-Some.is ∙ c.names_fault.ensures), cc)

pub returns-in-None-clause-right : goal.returns-in-None-clause-right
returns-in-None-clause-right c =
    IfOk-weaker c.with_statements.result _ _
    (λ m p. (
      p.0 ∙ ap in_no_with c.in_ok-parts.ensures.said.value,
      p.1 ∙ stated_is c.args.u.now c.args.interfaces.now c.new-report.ensures c.in_ok-parts.ensures.said,
      then_statements c.args.u.now c.args.interfaces.now c.new-report.ensures c.in_ok-parts.ensures.said (sym c.in-None.is ∙ c.names_fault.ensures) ∙ p.2,
      p.3 ∙ ap (λ o. worse o (late_of (tell None (bodies_mean (in_no_with c.in_ok-parts.parts.env) c.args.u.now.decls c.args.u.now.body).1))) c.worst_late.ensures ∙ late_is c.args.u.now c.args.interfaces.now c.new-report.ensures c.in_ok-parts.ensures.said,
    ))
    c.with_statements.ensures.right

pub returns-in-None-clause-wrong : goal.returns-in-None-clause-wrong
returns-in-None-clause-wrong c f e =
    let p = c.with_statements.ensures.wrong f e in
    (p.0, then_statements c.args.u.now c.args.interfaces.now c.new-report.ensures c.in_ok-parts.ensures.said (sym c.in-None.is ∙ c.names_fault.ensures) ∙ p.1, p.2)
