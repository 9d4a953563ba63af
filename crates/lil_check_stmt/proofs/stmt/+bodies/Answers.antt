use Rattle.std.proofs.Common.{rules, ◌∙◌, List, Some, ap, refl, subst, arith}
use Rattle.std.proofs.lemmas.Result.{IfOk-weaker}
use Rattle.lil_language.specs.declared.{tree.Stmt.Stmt, unit.Decl.Decl}
use Rattle.lil_report.specs.Told.{Said, walk}
use Rattle.lil_check_stmt.specs.Stmts.{body_step}
use Rattle.lil_report.specs.Laws.{said_value}
use Rattle.lil_check_stmt.specs.Texts.{texts, texts_in, no_constant, no_type, no_variables}
use Rattle.lil_check_stmt.proofs.Nesting.{is_empty, is_missing, is_block, is_next, is_all}
use Rattle.lil_check_stmt.proofs.stmt.+bodies.Goals as goal

pub declarations-loop-one-init : goal.declarations-loop-one-init
declarations-loop-one-init t c = (refl, said_value refl)

pub declarations-loop-one-preserved : goal.declarations-loop-one-preserved
declarations-loop-one-preserved t c = (
  c.in_ok-more.ensures.same ∙ c.loop-one.invariant.0,
  is_next c.args.env.now c.args.before c.args.of.now c.loop-one.one-index c.one-item.result c.loop-one-test.true (search rules) c.loop-one.invariant.1 c.loop-one.invariant.0 c.in_ok-more.ensures.said,
)

pub declarations-returns-clause-said : goal.declarations-returns-clause-said
declarations-returns-clause-said t c = is_all c.args.env.now c.args.before c.args.of.now c.loop-one.one-index (omega arith) c.loop-one.invariant.1

pub declarations-returns-clause-same : goal.declarations-returns-clause-same
declarations-returns-clause-same t c = c.loop-one.invariant.0

pub declaration-returns-in-ConstIs-clause-said : goal.declaration-returns-in-ConstIs-clause-said
declaration-returns-in-ConstIs-clause-said t c = is_empty c.args.env.now c.args.before c.args.of.now (ap texts_in c.in-ConstIs.is ∙ no_constant c.in-ConstIs.field-0 c.in-ConstIs.field-1)

pub declaration-returns-in-TypeIs-clause-said : goal.declaration-returns-in-TypeIs-clause-said
declaration-returns-in-TypeIs-clause-said t c = is_empty c.args.env.now c.args.before c.args.of.now (ap texts_in c.in-TypeIs.is ∙ no_type c.in-TypeIs.field-0 c.in-TypeIs.field-1)

pub declaration-returns-in-VarsAre-clause-said : goal.declaration-returns-in-VarsAre-clause-said
declaration-returns-in-VarsAre-clause-said t c = is_empty c.args.env.now c.args.before c.args.of.now (ap texts_in c.in-VarsAre.is ∙ no_variables c.in-VarsAre.field-0 c.in-VarsAre.field-1)

pub declaration-returns-in-None-clause-said : goal.declaration-returns-in-None-clause-said
declaration-returns-in-None-clause-said t c = IfOk-weaker c.and_body.result _ _ (λ bs more. is_missing c.args.env.now c.args.before c.args.of.now c.in-ProcIs.field-0 c.in-ProcIs.inner c.in-ProcIs.is c.in-None.is more) c.and_body.ensures

pub declaration-returns-in_ok-out-in-Some-clause-said : goal.declaration-returns-in_ok-out-in-Some-clause-said
declaration-returns-in_ok-out-in-Some-clause-said t c =
    let out = c.in_ok-out-in-Some.out in
    IfOk-weaker c.declarations.result _ _ (λ bs rest.
    is_block c.args.env.now c.args.before c.args.of.now c.in-ProcIs.field-0 c.in-ProcIs.inner c.in-Some.inner c.in-ProcIs.is c.in-Some.is
    (subst (λ (ss : List Stmt). Said (body_step c.args.env.now c.args.before (Some ss)) c.args.report.now out c.body.new.report) c.as_slice.ensures c.in_ok-out-in-Some.ensures.said)
    c.in_ok-out-in-Some.ensures.same
    (subst (λ (ds : List Decl). Said (walk (body_step c.body.new.env) out (texts ds)) c.body.new.report bs c.declarations.new.report) c.as_slice-in-Some.ensures rest)) c.declarations.ensures.said
