use Rattle.std.proofs.Common.{rules, ℕ, ◌≡◌, ℤ, pos, negsuc, ◌≤ℤ◌, w16, List, [], ◌∷◌, length, length-append, Option, OnOk, sym, ap, ◌∙◌, subst, arith}
use mir.Val.{SFits}
use Rattle.std.specs.List.{flat_map}
use Rattle.std.proofs.lemmas.Int.{to_z-of_z}
use Rattle.lil_base.specs.Words.{word_of}
use Rattle.lil_resolved.specs.{declared.{resolved.{RArgument.RArgument, RStmt.RStmt, RArm.RArm, RGuard.RGuard}, shapes.RField.RField}, Kinds.{base_of, compared_as, covers, outside_turns}, Resolved.{Halt, Return, For, Statements, Empty, Then, kind_of}}
use Rattle.lil_resolved.specs.{Views.{arguments_of, named_view, kind_view, variable_kind, expression_of, place_of, statement_of, statements_of, else_of, if_is, while_is, repeat_is, loop_is, for_is, inside_is, assign_is, copy_is, text_is, change_is, member_changed_is, new_is, allocate_is, request_is, exit_is, halt_is, return_is, answer_is, call_is, call_value_is}, Sizes.{arguments_strings, body_strings, arms_strings}}
use Rattle.lil_table.specs.Rows.{access_at}
use Rattle.lil_labels.specs.{Drafts.{Draft, Each, Adds, Emits}, Emitting.{emits_as, with_ok, adds_as}}
use Rattle.lil_expr.specs.{Numbers.number_word, Calling.Called, Strings.{parts_next, next_part}}
use Rattle.lil_stmt.specs.Generating.{Body, Stated, StatementPart, statement_part, GuardPart, guard_part, paired, ArmPart, ArmBody, arm_part, ElsePart, ChoiceOf, Aligning}
use Rattle.lil_stmt.proofs.{Stating.{one_emitted, stated, body_emitted, while_emitted, repeat_emitted, loop_emitted, guard_emitted, if_emitted, for_emitted, with_emitted, arm_emitted, next_arm_emitted, case_emitted}, Storing.call_stated}
use Rattle.lil_stmt.proofs.statements.+emitting.Goals.{emit_case-in-None+in_ok-other-in-None, emit_case-in-Some+in_ok-other-in-Some}
use Rattle.lil_stmt.proofs.statements.+emitting.Goals as goal

pub emit_body-loop-statement-preserved : goal.emit_body-loop-statement-preserved
emit_body-loop-statement-preserved t c =
    next_part (StatementPart c.args.around.words c.args.around.exit) statement_part c.args.body.now c.loop-statement.statement-index c.statement-item.result _ _ _ c.loop-statement-test.true c.statement-item.is c.loop-statement.invariant c.in_ok-emit_statement.ensures

pub emit_body-returns : goal.emit_body-returns
emit_body-returns t c = body_emitted c.args.around.words c.args.around.exit c.args.body.now c.loop-statement.statement-index _ _ c.loop-statement-test.false c.loop-statement.invariant

pub emit_guards-loop-guard-preserved : goal.emit_guards-loop-guard-preserved
emit_guards-loop-guard-preserved t c =
    next_part (GuardPart c.args.around.words c.args.around.exit c.args.end) guard_part c.args.guards.now c.loop-guard.guard-index c.guard-item.result _ _ _ c.loop-guard-test.true c.guard-item.is c.loop-guard.invariant c.in_ok-emit_guard.ensures

pub emit_guard-returns : goal.emit_guard-returns
emit_guard-returns t c =
    guard_emitted c.args.around.words c.args.around.exit c.args.guard.now c.args.end c.in_ok-other.other _ _ _ _ _ _ _
    c.in_ok-emit_expression.ensures c.in_ok-other.ensures.emits c.in_ok-other.ensures.makes c.in_ok-jump.ensures (rw c.as_slice.ensures at c.in_ok-emit_body.ensures) c.in_ok-jump-2.ensures
    c.here.ensures.ends

pub emit_while-returns : goal.emit_while-returns
emit_while-returns t c =
    while_emitted c.args.around.words c.args.around.exit (expression_of c.args.condition.now) (statements_of c.args.body.now) c.in_ok-again.again c.in_ok-end.end _ _ _ _ _ _ _ _
    c.in_ok-again.ensures c.in_ok-emit_expression.ensures c.in_ok-end.ensures.emits c.in_ok-end.ensures.makes c.in_ok-jump.ensures c.in_ok-emit_body.ensures c.in_ok-jump-2.ensures
    c.here.ensures.ends

pub emit_repeat-returns : goal.emit_repeat-returns
emit_repeat-returns t c =
    with_ok c.jump.result
    (repeat_emitted c.args.around.words c.args.around.exit (expression_of c.args.condition.now) (statements_of c.args.body.now) c.in_ok-again.again _ _ _ _ _
    c.in_ok-again.ensures c.in_ok-emit_body.ensures c.in_ok-emit_expression.ensures)
    c.jump.ensures

pub emit_loop-returns : goal.emit_loop-returns
emit_loop-returns t c =
    loop_emitted c.args.around.words c.args.around.exit (statements_of c.args.body.now) c.in_ok-again.again c.in_ok-end.end _ _ _ _ _ _
    c.in_ok-again.ensures c.in_ok-end.ensures.emits c.in_ok-end.ensures.makes c.in_ok-emit_body.ensures c.in_ok-jump.ensures
    c.here.ensures.ends

pub emit_for-returns : goal.emit_for-returns
emit_for-returns t c =
    let k = kind_view c.args.variable.kind in
    let j = kind_of (expression_of c.args.from.now) in
    let small : SFits w16 c.args.step = search rules in
    let same = to_z-of_z w16 c.args.step small in
    let taken : c.from.result ≡ c.args.step = grind (arith, to_z-of_z) in
    let fits : (negsuc 32767 ≤ℤ c.from.result) × (c.from.result ≤ℤ pos 65535) = search rules in
    let stepped : c.word_of_number.result ≡ word_of c.args.step = number_word c.from.result c.word_of_number.result c.word_of_number.ensures.is fits ∙ ap word_of taken in
    let align = subst (λ (z : ℤ). Emits c.fresh.new.self c.emit_align.new.code (Aligning (covers (base_of k) j) (outside_turns (compared_as (base_of k)) z) c.in_ok-end.end)) same c.in_ok-emit_align.ensures in
    let v = named_view c.args.variable.named in
    let lies = c.variable_access.ensures ∙ ap (λ (f : RField). access_at v f.offset) c.variable-lies.ensures in
    for_emitted c.args.around.words c.args.around.exit v k (expression_of c.args.from.now) (expression_of c.args.to.now) c.args.step (statements_of c.args.body.now)
    c.word_of_number.result c.loop_place-place.result c.loop_sign.result c.saturating_add.result c.in_ok-end.end c.in_ok-turn.turn _ _ _ _ _ _ _ _ _ _ _ _ _ _ _ stepped c.loop_place-place.ensures c.loop_sign.ensures lies c.saturating_add.ensures
    c.in_ok-emit_expression.ensures c.in_ok-emit_expression-2.ensures c.in_ok-end.ensures.emits c.in_ok-end.ensures.makes align c.in_ok-put.ensures c.in_ok-jump.ensures c.in_ok-turn.ensures
    c.in_ok-put-2.ensures c.in_ok-emit_turn_test.ensures c.in_ok-emit_store.ensures c.in_ok-emit_body.ensures c.in_ok-jump-2.ensures
    c.here.ensures.ends

pub emit_with-returns : goal.emit_with-returns
emit_with-returns t c =
    with_emitted c.args.around.words c.loop_place-word.result c.saturating_add.result c.in_ok-shape.shape c.args.around.exit (place_of c.args.place.now) (statements_of c.args.body.now) _ _ _ _ _ _ c.loop_place-word.ensures c.saturating_add.ensures
    c.in_ok-shape.ensures c.in_ok-put.ensures c.in_ok-hold.ensures c.in_ok-emit_body.ensures c.release.ensures

pub emit_arms-loop-arm-preserved : goal.emit_arms-loop-arm-preserved
emit_arms-loop-arm-preserved t c =
    let n = c.args.around.words in
    let exit = c.args.around.exit in
    let mine = subst (λ (ss : List RStmt). Adds (body_strings (statements_of ss)) c.loop-arm.code c.emit_arm.new.code (ArmPart n exit c.args.leave c.in_ok-label.label (statements_of ss))) c.as_slice.ensures c.in_ok-label.ensures in
    record {
      many = omega (arith, ap length c.in_ok-push.ensures.items, length-append c.loop-arm.labels.items (c.in_ok-label.label ∷ []), c.loop-arm.invariant.many);
      emits = adds_as _ _ _ (parts_next arm_part c.args.arms.now c.loop-arm.arm-index c.arm-item.result c.loop-arm-test.true c.arm-item.is) (next_arm_emitted (ArmBody n exit c.args.leave) c.args.arms.now c.loop-arm.labels.items _ c.loop-arm.arm-index c.arm-item.result c.in_ok-label.label _ _ _ c.loop-arm-test.true c.arm-item.is
          c.loop-arm.invariant.many c.in_ok-push.ensures.items c.loop-arm.invariant.emits mine);
    }

pub emit_arm-returns : goal.emit_arm-returns
emit_arm-returns t c =
    arm_emitted c.args.around.words c.args.around.exit c.args.leave c.in_ok-label.label (statements_of c.args.body.now) _ _ _ _ c.in_ok-label.ensures c.in_ok-emit_body.ensures c.in_ok-jump.ensures

pub emit_statement-returns-in_ok-emit_body-in-If : goal.emit_statement-returns-in_ok-emit_body-in-If
emit_statement-returns-in_ok-emit_body-in-If t c =
    let n = c.args.around.words in
    let exit = c.args.around.exit in
    let end = c.in_ok-end-in-If in
    let guards = subst (λ (gs : List RGuard). Adds (flat_map guard_part gs) c.fresh.new.self c.emit_guards.new.code (Each (GuardPart n exit end.end) gs)) c.as_slice.ensures c.in_ok-emit_guards-in-If.ensures in
    let otherwise = subst (λ (ss : List RStmt). Adds (body_strings (statements_of ss)) c.emit_guards.new.code c.emit_body.new.code (Body n exit (statements_of ss))) c.as_slice-in-If.ensures c.in_ok-emit_body-in-If.ensures in
    subst (λ (ss : Statements). Adds (body_strings ss) c.args.code.now c.here.new.self (Body n exit ss)) (sym (ap statement_of c.in-If.is ∙ if_is c.in-If.guards c.in-If.otherwise))
    (if_emitted n exit c.in-If.guards c.in-If.otherwise end.end _ _ _ _ _ end.ensures.emits end.ensures.makes guards otherwise c.here.ensures.ends)

pub emit_statement-returns-in-While : goal.emit_statement-returns-in-While
emit_statement-returns-in-While t c =
    with_ok c.emit_while.result (one_emitted c.args.around.words c.args.around.exit _ _ _ _ (ap statement_of c.in-While.is ∙ while_is _ _)) (rw c.as_slice-in-While.ensures at c.emit_while.ensures)

pub emit_statement-returns-in-Repeat : goal.emit_statement-returns-in-Repeat
emit_statement-returns-in-Repeat t c =
    with_ok c.emit_repeat.result (one_emitted c.args.around.words c.args.around.exit _ _ _ _ (ap statement_of c.in-Repeat.is ∙ repeat_is _ _)) (rw c.as_slice-in-Repeat.ensures at c.emit_repeat.ensures)

pub emit_statement-returns-in-Loop : goal.emit_statement-returns-in-Loop
emit_statement-returns-in-Loop t c =
    with_ok c.emit_loop.result (one_emitted c.args.around.words c.args.around.exit _ _ _ _ (ap statement_of c.in-Loop.is ∙ loop_is _)) (rw c.as_slice-in-Loop.ensures at c.emit_loop.ensures)

pub emit_statement-returns-in-For : goal.emit_statement-returns-in-For
emit_statement-returns-in-For t c =
    let w = c.in-For in
    let small : SFits w16 w.step = search rules in
    let form = λ (z : ℤ) (ss : List RStmt). Then (For (named_view w.variable.named) (variable_kind w.variable) (expression_of w.from) (expression_of w.to) z (statements_of ss)) Empty in
    let is = ap statement_of w.is ∙ for_is w.variable w.from w.to w.step w.body ∙ ap (form w.step) (sym c.as_slice-in-For.ensures) ∙ ap (λ (z : ℤ). form z c.as_slice-in-For.result.now) (sym (to_z-of_z w16 w.step small)) in
    with_ok c.emit_for.result (one_emitted c.args.around.words c.args.around.exit _ _ _ _ is) c.emit_for.ensures

pub emit_statement-returns-in-With : goal.emit_statement-returns-in-With
emit_statement-returns-in-With t c =
    with_ok c.emit_with.result (one_emitted c.args.around.words c.args.around.exit _ _ _ _ (ap statement_of c.in-With.is ∙ inside_is _ _)) (rw c.as_slice-in-With.ensures at c.emit_with.ensures)

pub emit_statement-returns-in-Assign : goal.emit_statement-returns-in-Assign
emit_statement-returns-in-Assign t c = stated c.emit_assign.result c.args.around.words c.args.around.exit _ _ _ _ (ap statement_of c.in-Assign.is ∙ assign_is _ _ _) c.emit_assign.ensures

pub emit_statement-returns-in-Copy : goal.emit_statement-returns-in-Copy
emit_statement-returns-in-Copy t c = stated c.emit_copy.result c.args.around.words c.args.around.exit _ _ _ _ (ap statement_of c.in-Copy.is ∙ copy_is _ _) c.emit_copy.ensures

pub emit_statement-returns-in-Text : goal.emit_statement-returns-in-Text
emit_statement-returns-in-Text t c = stated c.emit_text.result c.args.around.words c.args.around.exit _ _ _ _ (ap statement_of c.in-Text.is ∙ text_is _ _) (rw c.get.ensures at c.emit_text.ensures)

pub emit_statement-returns-in-Change : goal.emit_statement-returns-in-Change
emit_statement-returns-in-Change t c = stated c.emit_change.result c.args.around.words c.args.around.exit _ _ _ _ (ap statement_of c.in-Change.is ∙ change_is _ _ _ _) c.emit_change.ensures

pub emit_statement-returns-in-Member : goal.emit_statement-returns-in-Member
emit_statement-returns-in-Member t c = stated c.emit_member.result c.args.around.words c.args.around.exit _ _ _ _ (ap statement_of c.in-Member.is ∙ member_changed_is _ _ _ _) c.emit_member.ensures

pub emit_statement-returns-in-New : goal.emit_statement-returns-in-New
emit_statement-returns-in-New t c = stated c.emit_new.result c.args.around.words c.args.around.exit _ _ _ _ (ap statement_of c.in-New.is ∙ new_is _ _) c.emit_new.ensures

pub emit_statement-returns-in-Allocate : goal.emit_statement-returns-in-Allocate
emit_statement-returns-in-Allocate t c = stated c.emit_allocate.result c.args.around.words c.args.around.exit _ _ _ _ (ap statement_of c.in-Allocate.is ∙ allocate_is _ _ _) c.emit_allocate.ensures

pub emit_statement-returns-in-Request : goal.emit_statement-returns-in-Request
emit_statement-returns-in-Request t c = stated c.emit_request.result c.args.around.words c.args.around.exit _ _ _ _ (ap statement_of c.in-Request.is ∙ request_is _ _) (rw c.as_slice-in-Request.ensures at c.emit_request.ensures)

pub emit_statement-returns-in-Halt : goal.emit_statement-returns-in-Halt
emit_statement-returns-in-Halt t c =
    with_ok c.put.result (λ h. one_emitted c.args.around.words c.args.around.exit Halt _ _ _ (ap statement_of c.in-Halt.is ∙ halt_is) (emits_as _ _ _ (Stated c.args.around.words c.args.around.exit Halt) (λ x t many taken sound room. t) h)) c.put.ensures

pub emit_statement-returns-in-Return : goal.emit_statement-returns-in-Return
emit_statement-returns-in-Return t c =
    with_ok c.put-in-Return.result (λ h. one_emitted c.args.around.words c.args.around.exit Return _ _ _ (ap statement_of c.in-Return.is ∙ return_is) (emits_as _ _ _ (Stated c.args.around.words c.args.around.exit Return) (λ x t many taken sound room. (sound, t)) h)) c.put-in-Return.ensures

pub emit_statement-returns-in-Call : goal.emit_statement-returns-in-Call
emit_statement-returns-in-Call t c =
    let i = c.in-Call in
    let call = subst (λ (given : List RArgument). OnOk c.emit_call.result (Adds (arguments_strings (arguments_of given)) c.args.code.now c.emit_call.new.code (Called i.procedure i.levels (arguments_of given)))) c.as_slice-in-Call.ensures c.emit_call.ensures in
    with_ok c.emit_call.result (λ h. one_emitted c.args.around.words c.args.around.exit _ _ _ _ (ap statement_of i.is ∙ call_is _ _ _) (call_stated i.procedure i.levels c.args.around.words (arguments_of i.given) c.args.around.exit _ _ h)) call

pub emit_statement-returns-in-CallValue : goal.emit_statement-returns-in-CallValue
emit_statement-returns-in-CallValue t c =
    stated c.emit_called_value.result c.args.around.words c.args.around.exit _ _ _ _ (ap statement_of c.in-CallValue.is ∙ call_value_is _ _)
    (rw c.as_slice-in-CallValue.ensures at c.emit_called_value.ensures)

pub emit_statement-returns-in-Answer : goal.emit_statement-returns-in-Answer
emit_statement-returns-in-Answer t c = stated c.emit_answer.result c.args.around.words c.args.around.exit _ _ _ _ (ap statement_of c.in-Answer.is ∙ answer_is _ _) c.emit_answer.ensures

pub emit_statement-returns-in-Exit : goal.emit_statement-returns-in-Exit
emit_statement-returns-in-Exit t c = with_ok c.emit_exit.result (one_emitted c.args.around.words c.args.around.exit _ _ _ _ (ap statement_of c.in-Exit.is ∙ exit_is)) c.emit_exit.ensures

pub emit_case-returns : goal.emit_case-returns
emit_case-returns t c =
    let n = c.args.around.words in
    let exit = c.args.around.exit in
    let arms = c.in-Case.arms in
    let ls = c.in_ok-labels.labels.items in
    let leave = c.in_ok-leave.leave in
    let other = c.match-otherwise.other in
    let long = c.in_ok-labels.ensures.many ∙ ap (λ (arms : List RArm). length arms) c.as_slice.ensures in
    let bodies = subst (λ (arms : List RArm). Adds (flat_map arm_part arms) c.jump-2.new.self c.emit_arms.new.code (Each (ArmBody n exit leave) (paired arms ls))) c.as_slice.ensures c.in_ok-labels.ensures.emits in
    let els : Adds (arms_strings (else_of c.in-Case.otherwise)) c.emit_arms.new.code c.match-otherwise.code (ElsePart n exit leave other c.in-Case.otherwise) = elim c.match-otherwise.branch [
      | emit_case-in-None+in_ok-other-in-None w ↦ subst (λ (d : Draft). Adds (arms_strings (else_of c.in-Case.otherwise)) c.emit_arms.new.code d (ElsePart n exit leave other c.in-Case.otherwise)) (sym w.code-is)
          (subst (λ (l : ℕ). Adds (arms_strings (else_of c.in-Case.otherwise)) c.emit_arms.new.code w.emit_no_arm.new.code (ElsePart n exit leave l c.in-Case.otherwise)) (sym w.other-is)
          (subst (λ (o : Option (List RStmt)). Adds (arms_strings (else_of o)) c.emit_arms.new.code w.emit_no_arm.new.code (ElsePart n exit leave w.in_ok-other-in-None.other o)) (sym w.in-None.is) w.in_ok-other-in-None.ensures))
      | emit_case-in-Some+in_ok-other-in-Some w ↦ subst (λ (d : Draft). Adds (arms_strings (else_of c.in-Case.otherwise)) c.emit_arms.new.code d (ElsePart n exit leave other c.in-Case.otherwise)) (sym w.code-is)
          (subst (λ (l : ℕ). Adds (arms_strings (else_of c.in-Case.otherwise)) c.emit_arms.new.code w.emit_arm.new.code (ElsePart n exit leave l c.in-Case.otherwise)) (sym w.other-is)
          (subst (λ (o : Option (List RStmt)). Adds (arms_strings (else_of o)) c.emit_arms.new.code w.emit_arm.new.code (ElsePart n exit leave w.in_ok-other-in-Some.other o)) (sym w.in-Some.is)
          (subst (λ (ss : List RStmt). Adds (body_strings (statements_of ss)) c.emit_arms.new.code w.emit_arm.new.code (ArmPart n exit leave w.in_ok-other-in-Some.other (statements_of ss))) w.as_slice-in-Some.ensures w.in_ok-other-in-Some.ensures)))
    ] in
    let choice = subst (λ (ls : List ℕ). Emits c.here.new.self c.emit_choice.new.code (ChoiceOf arms ls other)) c.as_slice-3.ensures.value
    (subst (λ (arms : List RArm). Emits c.here.new.self c.emit_choice.new.code (ChoiceOf arms c.as_slice-3.result.now other)) c.as_slice-2.ensures c.in_ok-emit_choice.ensures) in
    subst (λ (s : RStmt). Adds (body_strings (statement_of s)) c.args.code.now c.here-2.new.self (Body n exit (statement_of s))) (sym c.in-Case.is)
    (case_emitted n exit c.in-Case.value arms c.in-Case.otherwise ls c.in_ok-table.table c.in_ok-end.end leave other _ _ _ _ _ _ _ _ _ _ _ _
    c.in_ok-table.ensures.emits c.in_ok-table.ensures.makes c.in_ok-end.ensures.emits c.in_ok-end.ensures.makes c.in_ok-emit_expression.ensures
    c.in_ok-jump.ensures c.in_ok-leave.ensures c.in_ok-jump-2.ensures long bodies els c.here.ensures.ends choice
    c.here-2.ensures.ends)
