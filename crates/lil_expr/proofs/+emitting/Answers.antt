use Rattle.std.proofs.Common.{◌≡◌, ℕ, ◌-◌, ◌%◌, Bool, List, length, arith, ap, sym, ◌∙◌, subst, IfOk, OnOk, Some, None}
use Rattle.lil_base.specs.Words.{Integer}
use Rattle.lil_resolved.specs.{Kinds.{Kind, OfWhole}, Resolved.{Argument, OfOpened, Spelled, Expression, Designator, Variable, kind_of}, Sizes.{words_of, expression_strings, place_strings, argument_strings, arguments_strings}, Views.{arguments_of, base_view, kind_view, function_of, expression_of, selector_of, member_of, field_is, index_is, follow_is, one_is, chain_is, apply_is, set_is, single_is, span_is, invoke_is, high_is, routine_is, invoke_value_is, named_view, variable_is, handed_is, held_is, of_all_is, of_text_is, of_opened_is, spelled_is, is_copied, argument_of}, declared.resolved.{RArgument.RArgument, RExpr.RExpr, ROperation.{ROperation, out-ROperation}, RPlace.out-RPlace}}
use Rattle.lil_resolved.specs.Views.{root_of}
use Rattle.lil_resolved.specs.declared.resolved.{RSelector.RSelector, RMember.RMember}
use Rattle.lil_table.specs.Rows.{Access, OnTop, function_code, load_code}
use Rattle.lil_asm.specs.declared.instr.Instr.{Instr}
use Rattle.lil_labels.specs.{Drafts.{DoingAll, Doing, Saying, Each, Adds, Emits}, Emitting.{with_ok}}
use Rattle.std.specs.List.{flat_map}
use Rattle.lil_expr.specs.{Accesses.access_view, Calling.{Argued, Pushed, Called, ValueCalled, Saved}, Generating.{Found, Value, Joining, Operating, aim_of, member_part, operation_part}, Strings.next_part, Callees.valued_emitted}
use Rattle.lil_expr.proofs.{Forms.{one_emitted, apply_emitted, routine_emitted}, Chains.{chain_emitted, short_operation, two_operation}, Sets.{single_joins, span_joins, set_emitted}, Calling.{word_pushed, pair_pushed, spelled_pushed, text_argued, given_next, call_emitted, value_call_emitted, invoke_saved, invoke_value_saved, saved_emitted}, Opens.{along_found, high_emitted}, Placing.{variable_found, handed_found, held_found, field_selected, element_selected, follow_selected, next_selector, all_selectors}}
use Rattle.lil_expr.proofs.+emitting.Goals as goal

pub expressions::emit_expression-returns-in_ok-emit_expression-in-One : goal.expressions::emit_expression-returns-in_ok-emit_expression-in-One
expressions::emit_expression-returns-in_ok-emit_expression-in-One t c =
    let is = ap expression_of c.in-One.is ∙ one_is c.in-One.operator c.in-One.value in
    let value = subst (λ (e : RExpr). Adds (expression_strings (expression_of e)) c.args.code.now c.emit_expression.new.code (Value (expression_of e))) c.get.ensures c.in_ok-emit_expression-in-One.ensures in
    subst (λ (e : Expression). OnOk c.emit_one.result (Adds (expression_strings e) c.args.code.now c.emit_one.new.code (Value e))) (sym is)
    (with_ok c.emit_one.result (one_emitted c.in-One.operator (OfWhole Integer) (expression_of c.in-One.value) _ _ _ value) c.emit_one.ensures)

pub expressions::emit_expression-returns-in_ok-emit_expression-in-Chain : goal.expressions::emit_expression-returns-in_ok-emit_expression-in-Chain
expressions::emit_expression-returns-in_ok-emit_expression-in-Chain t c =
    let is = ap expression_of c.in-Chain.is ∙ chain_is c.in-Chain.first c.in-Chain.operations in
    let first = subst (λ (e : RExpr). Adds (expression_strings (expression_of e)) c.args.code.now c.emit_expression-in-Chain.new.code (Value (expression_of e))) c.get-in-Chain.ensures c.in_ok-emit_expression-in-Chain.ensures in
    let rest = subst (λ (os : List ROperation). OnOk c.emit_operations.result (Adds (flat_map operation_part os) c.emit_expression-in-Chain.new.code c.emit_operations.new.code (Each Operating os))) c.as_slice.ensures c.emit_operations.ensures in
    subst (λ (e : Expression). OnOk c.emit_operations.result (Adds (expression_strings e) c.args.code.now c.emit_operations.new.code (Value e))) (sym is)
    (with_ok c.emit_operations.result (chain_emitted (expression_of c.in-Chain.first) c.in-Chain.operations _ _ _ first) rest)

pub expressions::emit_expression-returns-in_ok-emit_expression-in-Apply : goal.expressions::emit_expression-returns-in_ok-emit_expression-in-Apply
expressions::emit_expression-returns-in_ok-emit_expression-in-Apply t c =
    let is = ap expression_of c.in-Apply.is ∙ apply_is c.in-Apply.function c.in-Apply.value in
    let value = subst (λ (e : RExpr). Adds (expression_strings (expression_of e)) c.args.code.now c.emit_expression-in-Apply.new.code (Value (expression_of e))) c.get-in-Apply.ensures c.in_ok-emit_expression-in-Apply.ensures in
    let typed : base_view c.base.result ≡ kind_of (expression_of c.in-Apply.value) = c.base.ensures ∙ ap (λ (e : RExpr). kind_of (expression_of e)) c.get-in-Apply-2.ensures in
    let by = subst (λ (k : Kind). OnOk c.emit_function.result (Emits c.emit_expression-in-Apply.new.code c.emit_function.new.code (DoingAll (function_code (function_of c.in-Apply.function k) k)))) typed c.emit_function.ensures in
    subst (λ (e : Expression). OnOk c.emit_function.result (Adds (expression_strings e) c.args.code.now c.emit_function.new.code (Value e))) (sym is)
    (with_ok c.emit_function.result (apply_emitted (function_of c.in-Apply.function (kind_of (expression_of c.in-Apply.value))) (expression_of c.in-Apply.value) _ _ _ value) by)

pub expressions::emit_expression-returns-in_ok-put-in-Set : goal.expressions::emit_expression-returns-in_ok-put-in-Set
expressions::emit_expression-returns-in_ok-put-in-Set t c =
    let k = kind_view c.in-Set.kind in
    let is = ap expression_of c.in-Set.is ∙ set_is c.in-Set.kind c.in-Set.members in
    let rest = subst (λ (ms : List RMember). OnOk c.emit_members.result (Adds (flat_map member_part ms) c.put-in-Set.new.self c.emit_members.new.code (Each (Joining k) ms))) c.as_slice-in-Set.ensures c.emit_members.ensures in
    subst (λ (e : Expression). OnOk c.emit_members.result (Adds (expression_strings e) c.args.code.now c.emit_members.new.code (Value e))) (sym is)
    (with_ok c.emit_members.result (set_emitted k c.in-Set.members _ _ _ c.in_ok-put-in-Set.ensures) rest)

pub expressions::emit_members-loop-member-preserved : goal.expressions::emit_members-loop-member-preserved
expressions::emit_members-loop-member-preserved t c =
    next_part (Joining (kind_view c.args.kind)) member_part c.args.members.now c.loop-member.member-index c.member-item.result _ _ _ c.loop-member-test.true c.member-item.is c.loop-member.invariant c.in_ok-emit_member.ensures

pub expressions::emit_member-returns-in_ok-emit_tested-in-Single : goal.expressions::emit_member-returns-in_ok-emit_tested-in-Single
expressions::emit_member-returns-in_ok-emit_tested-in-Single t c =
    let k = kind_view c.args.kind in
    with_ok c.put_all.result
    (single_joins c.args.member.now k (expression_of c.in-Single.value) _ _ _ (λ j s. ap (λ (m : RMember). member_of m j s) c.in-Single.is ∙ ap (λ (f : Kind → Expression → Expression). f j s) (single_is c.in-Single.value)) c.in_ok-emit_tested-in-Single.ensures.tested)
    c.put_all.ensures

pub expressions::emit_member-returns-in_ok-emit_tested-in-Span-2 : goal.expressions::emit_member-returns-in_ok-emit_tested-in-Span-2
expressions::emit_member-returns-in_ok-emit_tested-in-Span-2 t c =
    let k = kind_view c.args.kind in
    with_ok c.put.result
    (span_joins c.args.member.now k (expression_of c.in-Span.low) (expression_of c.in-Span.high) _ _ _ _ (λ j s. ap (λ (m : RMember). member_of m j s) c.in-Span.is ∙ ap (λ (f : Kind → Expression → Expression). f j s) (span_is c.in-Span.low c.in-Span.high))
    c.in_ok-emit_tested-in-Span.ensures.tested c.in_ok-emit_tested-in-Span-2.ensures.tested)
    c.put.ensures

pub expressions::emit_operation-returns-in_ok-emit_expression-in-Some : goal.expressions::emit_operation-returns-in_ok-emit_expression-in-Some
expressions::emit_operation-returns-in_ok-emit_expression-in-Some t c =
    let o = out-ROperation c.args.operation.now in
    let end = c.in_ok-end-in-Some in
    let jumps : aim_of o.operator ≡ Some c.in-Some.aim = sym c.jump_over.ensures ∙ c.in-Some.is in
    short_operation c.args.operation.now c.in-Some.aim end.end _ _ _ _ _ jumps end.ensures.emits end.ensures.makes c.in_ok-jump-in-Some.ensures c.in_ok-emit_expression-in-Some.ensures c.here.ensures.ends

pub expressions::emit_operation-returns-in_ok-emit_expression-in-None : goal.expressions::emit_operation-returns-in_ok-emit_expression-in-None
expressions::emit_operation-returns-in_ok-emit_expression-in-None t c =
    let none : aim_of (out-ROperation c.args.operation.now).operator ≡ None = sym c.jump_over.ensures ∙ c.in-None.is in
    with_ok c.emit_two.result (two_operation c.args.operation.now (base_view c.base.result) _ _ _ none c.base.ensures c.in_ok-emit_expression-in-None.ensures) c.emit_two.ensures

pub expressions::emit_operations-loop-operation-preserved : goal.expressions::emit_operations-loop-operation-preserved
expressions::emit_operations-loop-operation-preserved t c =
    next_part Operating operation_part c.args.operations.now c.loop-operation.operation-index c.operation-item.result _ _ _ c.loop-operation-test.true c.operation-item.is c.loop-operation.invariant c.in_ok-emit_operation.ensures

pub expressions::emit_place-loop-selector-preserved : goal.expressions::emit_place-loop-selector-preserved
expressions::emit_place-loop-selector-preserved t c =
    next_selector c.as_slice-selectors.result.now c.loop-selector.selector-index (root_of (out-RPlace c.args.of.now).root) c.selector-item.result (access_view c.loop-selector.at.access) (access_view c.in_ok-at-2.at.access) c.loop-selector.at.shape c.in_ok-at-2.at.shape
    _ _ _ c.loop-selector-test.true c.selector-item.is c.loop-selector.invariant c.in_ok-at-2.ensures

pub expressions::emit_place-returns : goal.expressions::emit_place-returns
expressions::emit_place-returns t c =
    all_selectors c.args.of.now c.as_slice-selectors.result.now c.loop-selector.selector-index (access_view c.loop-selector.at.access) c.loop-selector.at.shape _ _ c.as_slice-selectors.ensures c.loop-selector-test.false c.loop-selector.invariant

pub expressions::emit_selector-returns-in-Field : goal.expressions::emit_selector-returns-in-Field
expressions::emit_selector-returns-in-Field t c =
    field_selected c.args.selector.now c.in-Field.number c.args.at.shape (access_view c.args.at.access) (access_view c.further.result) c.part-field.result _
    (λ d. ap (λ (s : RSelector). selector_of s d) c.in-Field.is ∙ field_is c.in-Field.number d) c.part-field.ensures c.further.ensures

pub expressions::emit_selector-returns-in_ok-put-in-Index : goal.expressions::emit_selector-returns-in_ok-put-in-Index
expressions::emit_selector-returns-in_ok-put-in-Index t c =
    element_selected c.args.selector.now (kind_view c.in-Index.kind) (base_view c.base.result) (expression_of c.in-Index.index) c.args.at.shape c.least_word-least.result (access_view c.args.at.access) c.elements-elements.result _ _ _ _ _
    (λ d. ap (λ (s : RSelector). selector_of s d) c.in-Index.is ∙ index_is c.in-Index.kind c.in-Index.index d) c.elements-elements.ensures c.base.ensures c.least_word-least.ensures
    c.in_ok-emit_address-in-Index.ensures c.in_ok-emit_expression-in-Index.ensures c.in_ok-emit_test-in-Index.ensures c.in_ok-put-in-Index.ensures

pub expressions::emit_selector-returns-in_ok-put-in-Follow : goal.expressions::emit_selector-returns-in_ok-put-in-Follow
expressions::emit_selector-returns-in_ok-put-in-Follow t c =
    follow_selected c.args.selector.now c.in-Follow.pointer c.args.at.shape c.target-shape.result (access_view c.args.at.access) _ _ _
    (λ d. ap (λ (s : RSelector). selector_of s d) c.in-Follow.is ∙ follow_is c.in-Follow.pointer d) c.target-shape.ensures c.in_ok-emit_load-in-Follow.ensures c.in_ok-put-in-Follow.ensures

pub expressions::emit_expression-returns-in_ok-emit_invoked-in-Invoke : goal.expressions::emit_expression-returns-in_ok-emit_invoked-in-Invoke
expressions::emit_expression-returns-in_ok-emit_invoked-in-Invoke t c =
    with_ok c.put-in-Invoke-2.result
    (saved_emitted (expression_of c.args.e.now) _ _ _ _ c.in_ok-put-in-Invoke.ensures c.in_ok-emit_invoked-in-Invoke.ensures)
    c.put-in-Invoke-2.ensures

pub calls::emit_call-returns : goal.calls::emit_call-returns
calls::emit_call-returns t c = with_ok c.put-2.result (call_emitted c.args.procedure c.args.levels _ (arguments_of c.args.given.now) _ _ _ _ c.in_ok-put.ensures c.in_ok-words.ensures) c.put-2.ensures

pub calls::emit_given-loop-argument-preserved : goal.calls::emit_given-loop-argument-preserved
calls::emit_given-loop-argument-preserved t c =
    given_next c.args.given.now c.loop-argument.argument-index c.argument-item.result _ _ _ _ _ _ c.loop-argument-test.true c.argument-item.is c.saturating_add-words.ensures c.loop-argument.invariant c.in_ok-emit_pushed.ensures

pub roots::emit_root-returns-in-Variable : goal.roots::emit_root-returns-in-Variable
roots::emit_root-returns-in-Variable t c =
    let v = c.variable-variable.result in
    subst (λ (d : Designator). Adds (place_strings d) c.args.code.now c.args.code.now (Found d (access_view c.variable_access.result) v.shape)) (sym (ap root_of c.in-Variable.is ∙ variable_is c.in-Variable.named))
    (subst (λ (a : Access). Emits c.args.code.now c.args.code.now (Found (Variable (named_view c.in-Variable.named)) a v.shape)) (sym c.variable_access.ensures) (variable_found (named_view c.in-Variable.named) v _ c.variable-variable.ensures))

pub roots::emit_root-returns-in_ok-emit_load-in-Handed : goal.roots::emit_root-returns-in_ok-emit_load-in-Handed
roots::emit_root-returns-in_ok-emit_load-in-Handed t c =
    let v = c.variable-variable-in-Handed.result in
    let h = c.in-Handed in
    subst (λ (d : Designator). Adds (place_strings d) c.args.code.now c.emit_load.new.code (Found d OnTop v.shape)) (sym (ap root_of h.is ∙ handed_is h.levels h.number)) (handed_found h.levels h.number v _ _ c.variable-variable-in-Handed.ensures
    (subst (λ (a : Access). Emits c.args.code.now c.emit_load.new.code (Doing (λ word. load_code a))) c.variable_access-in-Handed.ensures c.in_ok-emit_load-in-Handed.ensures))

pub roots::emit_root-returns-in_ok-put-in-Held : goal.roots::emit_root-returns-in_ok-put-in-Held
roots::emit_root-returns-in_ok-put-in-Held t c =
    let h = c.held-held.result in
    subst (λ (d : Designator). Adds (place_strings d) c.args.code.now c.put.new.self (Found d OnTop h.shape)) (sym (ap root_of c.in-Held.is ∙ held_is c.in-Held.number)) (held_found c.in-Held.number h _ _ c.held-held.ensures c.in_ok-put-in-Held.ensures)

pub calls::emit_pushed-returns-in_ok-put-in-Value : goal.calls::emit_pushed-returns-in_ok-put-in-Value
calls::emit_pushed-returns-in_ok-put-in-Value t c = word_pushed c.args.argument.now _ _ _ c.in-Value.is c.in_ok-emit_argument-in-Value.ensures c.in_ok-put-in-Value.ensures

pub calls::emit_pushed-returns-in_ok-put-in-Array : goal.calls::emit_pushed-returns-in_ok-put-in-Array
calls::emit_pushed-returns-in_ok-put-in-Array t c = pair_pushed c.args.argument.now _ _ _ c.in-Array.is c.in_ok-emit_argument-in-Array.ensures c.in_ok-put-in-Array.ensures

pub calls::emit_argument-returns-in_ok-put-in-Text : goal.calls::emit_argument-returns-in_ok-put-in-Text
calls::emit_argument-returns-in_ok-put-in-Text t c =
    let text = c.in-Text.text in
    let is = ap argument_of c.in-Text.is ∙ of_text_is text in
    let same : c.as_slice.result.now ≡ text = c.as_slice.ensures ∙ c.get-text.ensures in
    let said = subst (λ (cs : List ℕ). Adds (words_of cs) c.args.code.now c.string.new.self (Saying cs c.in_ok-offset-in-Text.offset)) same c.in_ok-offset-in-Text.ensures in
    let last : c.saturating_sub.result % 65536 ≡ (length text - 1) % 65536 = omega (arith, c.saturating_sub.ensures, c.len.ensures, ap length c.get-text.ensures) in
    subst (λ (a : Argument). OnOk c.emit_second-in-Text.result (Adds (argument_strings a) c.args.code.now c.emit_second-in-Text.new.code (Argued c.args.calls a))) (sym is)
    (with_ok c.emit_second-in-Text.result (text_argued c.args.calls text c.in_ok-offset-in-Text.offset (c.saturating_sub.result % 65536) _ _ _ _ last said c.in_ok-put-in-Text.ensures) c.emit_second-in-Text.ensures)

pub calls::emit_argument-returns-in-Opened : goal.calls::emit_argument-returns-in-Opened
calls::emit_argument-returns-in-Opened t c =
    let o = c.in-Opened in
    let is = ap argument_of o.is ∙ of_opened_is o.field-0 o.levels o.number in
    subst (λ (a : Argument). OnOk c.emit_handed_on.result (Adds (argument_strings a) c.args.code.now c.emit_handed_on.new.code (Argued c.args.calls a))) (sym is)
    (with_ok c.emit_handed_on.result (λ (each : (copied : Bool) → Emits c.args.code.now c.emit_handed_on.new.code (Argued c.args.calls (OfOpened copied o.levels o.number))). each (is_copied o.field-0)) c.emit_handed_on.ensures)

pub expressions::emit_expression-returns-in-High : goal.expressions::emit_expression-returns-in-High
expressions::emit_expression-returns-in-High t c =
    let h = c.in-High in
    let is = ap expression_of h.is ∙ high_is h.levels h.number in
    let load = subst (λ (i : Instr). OnOk c.put-in-High.result (Emits c.args.code.now c.put-in-High.new.self (Doing (λ word. i)))) c.frame_load.ensures.is c.put-in-High.ensures in
    subst (λ (e : Expression). OnOk c.put-in-High.result (Adds (expression_strings e) c.args.code.now c.put-in-High.new.self (Value e))) (sym is)
    (with_ok c.put-in-High.result (high_emitted h.levels h.number c.saturating_add.result c.variable-opened.result _ _ c.variable-opened.ensures c.saturating_add.ensures) load)

pub roots::emit_along-returns : goal.roots::emit_along-returns
roots::emit_along-returns t c =
    along_found c.args.levels c.args.number c.words-words.result (expression_of c.args.index.now) c.variable-opened.result _ _ _ _ c.variable-opened.ensures c.words-words.ensures c.in_ok-emit_opened.ensures c.in_ok-emit_tested.ensures.tested c.in_ok-put.ensures

pub expressions::emit_expression-returns-in-Routine : goal.expressions::emit_expression-returns-in-Routine
expressions::emit_expression-returns-in-Routine t c =
    let r = c.in-Routine in
    let is = ap expression_of r.is ∙ routine_is r.procedure r.field-1 in
    subst (λ (e : Expression). OnOk c.routine.result (Adds (expression_strings e) c.args.code.now c.routine.new.self (Value e))) (sym is)
    (with_ok c.routine.result (routine_emitted r.procedure r.field-1 _ _ (omega arith)) c.routine.ensures)

pub calls::emit_value_call-returns : goal.calls::emit_value_call-returns
calls::emit_value_call-returns t c =
    with_ok c.put-2.result (value_call_emitted _ (arguments_of c.args.given.now) _ _ _ _ c.in_ok-put.ensures c.in_ok-words.ensures) c.put-2.ensures

pub calls::emit_invoked-returns-in-Invoke : goal.calls::emit_invoked-returns-in-Invoke
calls::emit_invoked-returns-in-Invoke t c =
    let i = c.in-Invoke in
    let is = ap expression_of i.is ∙ invoke_is i.procedure i.levels i.field-2 i.given in
    let of = λ (given : List RArgument). Adds (arguments_strings (arguments_of given)) c.args.code.now c.emit_call.new.code (Called i.procedure i.levels (arguments_of given)) in
    let call = subst (λ (given : List RArgument). OnOk c.emit_call.result (of given)) c.as_slice.ensures c.emit_call.ensures in
    subst (λ (e : Expression). OnOk c.emit_call.result (Adds (expression_strings e) c.args.code.now c.emit_call.new.code (Saved e))) (sym is)
    (with_ok c.emit_call.result (invoke_saved i.procedure i.levels (kind_view i.field-2) (arguments_of i.given) _ _) call)

pub calls::emit_invoked-returns-in_ok-emit_expression-in-InvokeValue : goal.calls::emit_invoked-returns-in_ok-emit_expression-in-InvokeValue
calls::emit_invoked-returns-in_ok-emit_expression-in-InvokeValue t c =
    let i = c.in-InvokeValue in
    let e = expression_of i.value in
    let is = ap expression_of i.is ∙ invoke_value_is i.value i.field-1 i.given in
    let given = arguments_of i.given in
    let valued = λ (e : RExpr). Adds (expression_strings (expression_of e)) c.args.code.now c.emit_expression.new.code (Value (expression_of e)) in
    let value = subst valued c.get.ensures c.in_ok-emit_expression-in-InvokeValue.ensures in
    let called = λ (given : List RArgument). Adds (arguments_strings (arguments_of given)) c.emit_expression.new.code c.emit_value_call.new.code (ValueCalled (arguments_of given)) in
    let call = subst (λ (given : List RArgument). OnOk c.emit_value_call.result (called given)) c.as_slice-in-InvokeValue.ensures c.emit_value_call.ensures in
    subst (λ (e : Expression). OnOk c.emit_value_call.result (Adds (expression_strings e) c.args.code.now c.emit_value_call.new.code (Saved e))) (sym is)
    (with_ok c.emit_value_call.result (λ those. invoke_value_saved e (kind_view i.field-1) given _ _ (valued_emitted e given _ _ _ value those)) call)

pub calls::emit_pushed-returns-in-All : goal.calls::emit_pushed-returns-in-All
calls::emit_pushed-returns-in-All t c =
    let is = ap argument_of c.in-All.is ∙ of_all_is c.in-All.place in
    subst (λ (g : Argument). IfOk c.emit_block.result (λ words. Adds (argument_strings g) c.args.code.now c.emit_block.new.code (Pushed words g))) (sym is) c.emit_block.ensures

pub calls::emit_pushed-returns-in_ok-emit_argument-in-Spelled : goal.calls::emit_pushed-returns-in_ok-emit_argument-in-Spelled
calls::emit_pushed-returns-in_ok-emit_argument-in-Spelled t c =
    spelled_pushed c.args.argument.now c.in-Spelled.field-0 c.in-Spelled.count _ _ c.in-Spelled.is c.in_ok-emit_argument-in-Spelled.ensures

pub calls::emit_argument-returns-in-Spelled : goal.calls::emit_argument-returns-in-Spelled
calls::emit_argument-returns-in-Spelled t c =
    let s = c.in-Spelled in
    let is = ap argument_of s.is ∙ spelled_is s.text s.count in
    let of = λ (cs : List ℕ). (calls : Bool) → Adds (words_of cs) c.args.code.now c.emit_spelled.new.code (Argued calls (Spelled cs s.count)) in
    let argued = subst (λ (cs : List ℕ). OnOk c.emit_spelled.result (of cs)) c.get.ensures c.emit_spelled.ensures in
    subst (λ (a : Argument). OnOk c.emit_spelled.result (Adds (argument_strings a) c.args.code.now c.emit_spelled.new.code (Argued c.args.calls a))) (sym is)
    (with_ok c.emit_spelled.result (λ each. each c.args.calls) argued)
