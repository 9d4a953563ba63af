use Rattle.std.proofs.Common.{rules, ◌∙◌, ap, sym, true, refl, arith}
use Rattle.lil_base.specs.Lists.{joined}
use Rattle.lil_report.specs.Laws.{said_to, said_value, said_more, said_all}
use Rattle.lil_check_stmt.specs.Statements.{conditional, kind_of, selected, statement_step, guard_step, arm_step}
use Rattle.lil_check_stmt.proofs.Forms.{is_given, on_ok, is_assign, is_call, is_if, is_case, is_while, is_repeat, is_loop, is_for, is_with, is_exit, is_return, of_while, of_repeat, of_loop, of_for, of_with, selected_as, no_else, is_else, is_guard, is_arm, is_statement, is_guard_more, is_arm_more, is_statements}
use Rattle.lil_check_stmt.proofs.statements.+statement.Goals as goal

pub statements-loop-one-init : goal.statements-loop-one-init
statements-loop-one-init t c = (refl, said_value (search rules))

pub statements-loop-one-preserved : goal.statements-loop-one-preserved
statements-loop-one-preserved t c = (
  is_given _ c.in_ok-before.ensures.ok.1 c.statement.ensures.same ∙ c.loop-one.invariant.0,
  said_more (statement_step c.args.env.now c.args.looping) _ c.args.of.now c.loop-one.one-index c.one-item.result c.loop-one-test.true (search rules) c.loop-one.invariant.1
      (is_statement c.args.env.now c.args.looping c.loop-one.out c.one-item.result c.loop-one.invariant.0 (is_given _ c.in_ok-before.ensures.ok.1 c.statement.ensures.said)
      (c.in_ok-out.ensures ∙ ap (λ out. joined out c.in_ok-before.meant) c.in_ok-before.ensures.ok.0)),
)

pub statements-returns-clause-said : goal.statements-returns-clause-said
statements-returns-clause-said t c = is_statements c.args.env.now c.args.looping c.args.of.now (said_all (statement_step c.args.env.now c.args.looping) _ c.args.of.now c.loop-one.one-index (omega arith) c.loop-one.invariant.1)

pub statements-returns-clause-same : goal.statements-returns-clause-same
statements-returns-clause-same t c = c.loop-one.invariant.0

pub all_guards-loop-one-init : goal.all_guards-loop-one-init
all_guards-loop-one-init t c = (refl, said_value (search rules))

pub all_guards-loop-one-preserved : goal.all_guards-loop-one-preserved
all_guards-loop-one-preserved t c = (
  is_given _ c.in_ok-before.ensures.ok.1 c.guard.ensures.same ∙ c.loop-one.invariant.0,
  said_more (guard_step c.args.env.now c.args.looping) _ c.args.of.now c.loop-one.one-index c.one-item.result c.loop-one-test.true (search rules) c.loop-one.invariant.1
      (is_guard_more c.args.env.now c.args.looping c.loop-one.out c.one-item.result c.loop-one.invariant.0 (is_given _ c.in_ok-before.ensures.ok.1 c.guard.ensures.said)
      (c.in_ok-out.ensures ∙ ap (λ out. joined out c.in_ok-before.meant) c.in_ok-before.ensures.ok.0)),
)

pub all_guards-returns-clause-said : goal.all_guards-returns-clause-said
all_guards-returns-clause-said t c = said_all (guard_step c.args.env.now c.args.looping) _ c.args.of.now c.loop-one.one-index (omega arith) c.loop-one.invariant.1

pub all_guards-returns-clause-same : goal.all_guards-returns-clause-same
all_guards-returns-clause-same t c = c.loop-one.invariant.0

pub all_arms-loop-one-init : goal.all_arms-loop-one-init
all_arms-loop-one-init t c = (refl, said_value (search rules))

pub all_arms-loop-one-preserved : goal.all_arms-loop-one-preserved
all_arms-loop-one-preserved t c = (
  c.in_ok-more.ensures.same ∙ c.loop-one.invariant.0,
  said_more (arm_step c.args.env.now c.args.looping c.args.kind) _ c.args.of.now c.loop-one.one-index c.one-item.result c.loop-one-test.true (search rules) c.loop-one.invariant.1
      (is_arm_more c.args.env.now c.args.looping c.args.kind c.loop-one.out c.one-item.result c.loop-one.invariant.0 c.in_ok-more.ensures.said),
)

pub all_arms-returns-clause-said : goal.all_arms-returns-clause-said
all_arms-returns-clause-said t c = said_all (arm_step c.args.env.now c.args.looping c.args.kind) _ c.args.of.now c.loop-one.one-index (omega arith) c.loop-one.invariant.1

pub all_arms-returns-clause-same : goal.all_arms-returns-clause-same
all_arms-returns-clause-same t c = c.loop-one.invariant.0

pub guard-returns-clause-said : goal.guard-returns-clause-said
guard-returns-clause-said t c = is_guard c.args.env.now c.args.looping c.args.of.now c.as_slice.result.now (said_to c.in_ok-condition.ensures c.in_ok-condition-2.ensures.ok.0) c.as_slice.ensures (is_given _ c.in_ok-condition-2.ensures.ok.1 c.statements-body.ensures.said) c.guard_of.ensures

pub arm-returns-clause-said : goal.arm-returns-clause-said
arm-returns-clause-said t c = is_arm c.args.env.now c.args.looping c.args.kind c.args.arms c.args.of.now c.as_slice.result.now c.as_slice-2.result.now c.as_slice.ensures c.in_ok-labels.ensures c.as_slice-2.ensures c.in_ok-body.ensures.said
    c.in_ok-made.ensures

pub while_true-returns-clause-said : goal.while_true-returns-clause-said
while_true-returns-clause-said t c = of_while c.args.env.now c.args.looping c.args.value.now c.args.body.now c.as_slice.result.now (said_to c.in_ok-condition.ensures c.in_ok-condition-2.ensures.ok.0) c.as_slice.ensures
    (is_given _ c.in_ok-condition-2.ensures.ok.1 c.statements-body.ensures.said) c.repeated_while.ensures

pub until-returns-clause-said : goal.until-returns-clause-said
until-returns-clause-said t c = of_repeat c.args.env.now c.args.looping c.args.body.now c.as_slice.result.now c.args.value.now c.as_slice.ensures (said_to c.in_ok-body.ensures.said c.in_ok-body-2.ensures.ok.0) c.in_ok-body.ensures.same
    (is_given _ c.in_ok-body-2.ensures.ok.1 c.condition_of.ensures) c.repeated_until.ensures

pub endless-returns-clause-said : goal.endless-returns-clause-said
endless-returns-clause-said t c = of_loop c.args.env.now true c.args.body.now c.as_slice.result.now c.as_slice.ensures c.in_ok-body.ensures.said c.looped.ensures

pub for_each-returns-clause-said : goal.for_each-returns-clause-said
for_each-returns-clause-said t c = of_for c.args.env.now c.args.looping c.args.head.now c.args.body.now c.as_slice.result.now (said_to c.in_ok-count.ensures c.in_ok-count-2.ensures.ok.0) c.as_slice.ensures
    (is_given _ c.in_ok-count-2.ensures.ok.1 c.statements-body.ensures.said) c.counted.ensures

pub with-returns-clause-said : goal.with-returns-clause-said
with-returns-clause-said t c = of_with c.args.env.now c.args.looping c.args.at c.args.designator.now c.args.body.now c.as_slice.result.now c.in_ok-found.ensures (said_to c.record_of-opened.ensures c.in_ok-opened.ensures.ok.0) (search rules)
    c.as_slice.ensures (is_given _ c.in_ok-opened.ensures.ok.1 c.statements-body.ensures.said) c.with_record.ensures

pub statement-returns-in-Assign-clause-said : goal.statement-returns-in-Assign-clause-said
statement-returns-in-Assign-clause-said t c = on_ok _ _ _ (λ _ h. is_assign c.args.env.now c.args.looping c.in-Assign.place c.in-Assign.becomes c.in-Assign.value c.in-Assign.is h) c.assigned.ensures

pub statement-returns-in-Call-clause-said : goal.statement-returns-in-Call-clause-said
statement-returns-in-Call-clause-said t c = on_ok _ _ _ (λ _ h. is_call c.args.env.now c.args.looping c.in-Call.designator c.in-Call.arguments c.in-Call.is h) c.call.ensures

pub statement-returns-in-None-clause-said : goal.statement-returns-in-None-clause-said
statement-returns-in-None-clause-said t c = is_if c.args.env.now c.args.looping c.in-If.field-0 c.in-If.guards c.as_slice.result.now c.in-If.other c.in-If.is c.as_slice.ensures c.in_ok-guards-in-If.ensures.said c.in_ok-guards-in-If.ensures.same
    (no_else _ c.args.looping c.in-None.is) c.conditional.ensures

pub statement-returns-in-None-other-clause-said : goal.statement-returns-in-None-other-clause-said
statement-returns-in-None-other-clause-said t c = is_case c.args.env.now c.args.looping c.in-Case.field-0 c.in-Case.value c.in-Case.arms c.as_slice-in-Case.result.now c.in-Case.other c.in-Case.is (said_to c.in_ok-found-in-Case.ensures c.in_ok-found-in-Case-2.ensures.ok.0) (c.kind_of-kind.ensures ∙ ap kind_of (sym c.in_ok-found-in-Case-2.ensures.ok.0))
    c.as_slice-in-Case.ensures (is_given _ c.in_ok-found-in-Case-2.ensures.ok.1 c.all_arms-arms.ensures.said) (is_given _ c.in_ok-found-in-Case-2.ensures.ok.1 c.all_arms-arms.ensures.same)
    (no_else _ c.args.looping c.in-None-other.is) refl c.selected.ensures

pub statement-returns-in-If-clause-said : goal.statement-returns-in-If-clause-said
statement-returns-in-If-clause-said t c = is_if c.args.env.now c.args.looping c.in-If.field-0 c.in-If.guards c.as_slice.result.now c.in-If.other c.in-If.is c.as_slice.ensures
    (said_to c.in_ok-guards-in-If.ensures.said c.in_ok-guards-in-Some.ensures.ok.0) c.in_ok-guards-in-If.ensures.same
    (is_else _ c.args.looping c.in-Some.other c.as_slice-in-Some.result.now c.in-Some.is c.as_slice-in-Some.ensures (is_given _ c.in_ok-guards-in-Some.ensures.ok.1 c.statements-other.ensures.said))
    (c.conditional-in-Some.ensures ∙ ap (conditional _) c.behind.ensures)

pub statement-returns-in-Case-clause-said : goal.statement-returns-in-Case-clause-said
statement-returns-in-Case-clause-said t c = is_case c.args.env.now c.args.looping c.in-Case.field-0 c.in-Case.value c.in-Case.arms c.as_slice-in-Case.result.now c.in-Case.other c.in-Case.is (said_to c.in_ok-found-in-Case.ensures c.in_ok-found-in-Case-2.ensures.ok.0) (c.kind_of-kind.ensures ∙ ap kind_of (sym c.in_ok-found-in-Case-2.ensures.ok.0))
    c.as_slice-in-Case.ensures (is_given _ c.in_ok-found-in-Case-2.ensures.ok.1 c.all_arms-arms.ensures.said) (is_given _ c.in_ok-found-in-Case-2.ensures.ok.1 c.all_arms-arms.ensures.same)
    (is_else _ c.args.looping c.in-Some-other.other c.as_slice-in-Some-other.result.now c.in-Some-other.is c.as_slice-in-Some-other.ensures (is_given _ c.in_ok-found-in-Some-other.ensures.ok.1 c.statements-other-in-Some-other.ensures.said))
    (is_given _ c.in_ok-found-in-Some-other.ensures.ok.1 c.statements-other-in-Some-other.ensures.same) (selected_as _ _ c.in_ok-found-in-Some-other.ensures.ok.0 (c.selected-in-Some-other.ensures ∙ ap (selected _ _ _) c.behind-in-Some-other.ensures))

pub statement-returns-in-While-clause-said : goal.statement-returns-in-While-clause-said
statement-returns-in-While-clause-said t c = on_ok _ _ _ (λ _ h. is_while c.args.env.now c.args.looping c.in-While.field-0 c.in-While.value c.in-While.body c.in-While.is h) c.while_true.ensures.said

pub statement-returns-in-Repeat-clause-said : goal.statement-returns-in-Repeat-clause-said
statement-returns-in-Repeat-clause-said t c = on_ok _ _ _ (λ _ h. is_repeat c.args.env.now c.args.looping c.in-Repeat.field-0 c.in-Repeat.body c.in-Repeat.value c.in-Repeat.is h) c.until.ensures.said

pub statement-returns-in-Loop-clause-said : goal.statement-returns-in-Loop-clause-said
statement-returns-in-Loop-clause-said t c = on_ok _ _ _ (λ _ h. is_loop c.args.env.now c.args.looping c.in-Loop.field-0 c.in-Loop.body c.in-Loop.is h) c.endless.ensures.said

pub statement-returns-in-For-clause-said : goal.statement-returns-in-For-clause-said
statement-returns-in-For-clause-said t c = on_ok _ _ _ (λ _ h. is_for c.args.env.now c.args.looping c.in-For.field-0 c.in-For.head c.in-For.body c.in-For.is h) c.for_each.ensures.said

pub statement-returns-in-With-clause-said : goal.statement-returns-in-With-clause-said
statement-returns-in-With-clause-said t c = on_ok _ _ _ (λ _ h. is_with c.args.env.now c.args.looping c.in-With.at c.in-With.designator c.in-With.body c.in-With.is h) c.with.ensures.said

pub statement-returns-in-Exit-clause-said : goal.statement-returns-in-Exit-clause-said
statement-returns-in-Exit-clause-said t c = is_exit c.args.env.now c.args.looping c.in-Exit.at c.in-Exit.is c.exit.ensures

pub statement-returns-clause-said : goal.statement-returns-clause-said
statement-returns-clause-said t c = on_ok _ _ _ (λ _ h. is_return c.args.env.now c.args.looping c.in-Return.at c.in-Return.value c.in-Return.is h) c.returned.ensures
