use Rattle.std.proofs.Common.{rules, refl, arith}
use Rattle.lil_report.specs.Laws.{said_value, said_more, said_all}
use Rattle.lil_operators.specs.Gathering.{gathers}
use Rattle.lil_check_value.specs.Values.{argument_means, step_means, index_means, operation_means}
use Rattle.lil_check_value.proofs.Forms.{is_field, is_index, is_follow, is_reached, is_indexed, is_operated, is_alone, is_range, is_gathered_more, is_gathered_all, is_typed, is_valued, is_plain, is_argument, is_whole, is_code, is_chars, is_set, is_desig, is_one, is_chain, is_call}
use Rattle.lil_check_value.proofs.values.+expression.Goals as goal

pub all_arguments-loop-one-init : goal.all_arguments-loop-one-init
all_arguments-loop-one-init t c = said_value (search rules)

pub all_arguments-loop-one-preserved : goal.all_arguments-loop-one-preserved
all_arguments-loop-one-preserved t c = said_more (argument_means c.args.env.now c.args.asked) _ c.args.of.now c.loop-one.one-index c.one-item.result c.loop-one-test.true (search rules) c.loop-one.invariant
    (is_argument c.args.env.now c.args.asked c.loop-one.all c.push.new.self c.one-item.result (search rules) c.in_ok-more.ensures c.in_ok-push.ensures.ok)

pub all_arguments-returns : goal.all_arguments-returns
all_arguments-returns t c = said_all (argument_means c.args.env.now c.args.asked) _ c.args.of.now c.loop-one.one-index (omega arith) c.loop-one.invariant

pub all_selected-loop-one-init : goal.all_selected-loop-one-init
all_selected-loop-one-init t c = said_value refl

pub all_selected-loop-one-preserved : goal.all_selected-loop-one-preserved
all_selected-loop-one-preserved t c = said_more (step_means c.args.env.now) _ c.args.selectors.now c.loop-one.one-index c.one-item.result c.loop-one-test.true (search rules) c.loop-one.invariant
    (c.in_ok-of.ensures)

pub all_selected-returns : goal.all_selected-returns
all_selected-returns t c = said_all (step_means c.args.env.now) _ c.args.selectors.now c.loop-one.one-index (omega arith) c.loop-one.invariant

pub elements-loop-one-init : goal.elements-loop-one-init
elements-loop-one-init t c = gathers c.args.env.now.types c.args.sort (said_value refl) (search rules)

pub elements-loop-one-preserved : goal.elements-loop-one-preserved
elements-loop-one-preserved t c = is_gathered_more c.args.env.now c.args.sort c.args.elements.now c.loop-one.one-index c.one-item.result c.loop-one-test.true (search rules) c.loop-one.invariant c.in_ok-all.ensures

pub elements-returns : goal.elements-returns
elements-returns t c = is_gathered_all c.args.env.now c.args.sort c.args.elements.now c.loop-one.one-index (omega arith) c.loop-one.invariant

pub indexed-loop-one-init : goal.indexed-loop-one-init
indexed-loop-one-init t c = said_value refl

pub indexed-loop-one-preserved : goal.indexed-loop-one-preserved
indexed-loop-one-preserved t c = said_more (index_means c.args.env.now c.args.bracket) _ c.args.indexes.now c.loop-one.one-index c.one-item.result c.loop-one-test.true (search rules) c.loop-one.invariant
    (is_indexed c.args.env.now c.args.bracket c.one-item.result c.loop-one.of c.in_ok-before.ensures.ok c.expression.ensures c.in_ok-of.ensures)

pub indexed-returns : goal.indexed-returns
indexed-returns t c = said_all (index_means c.args.env.now c.args.bracket) _ c.args.indexes.now c.loop-one.one-index (omega arith) c.loop-one.invariant

pub operated-loop-one-init : goal.operated-loop-one-init
operated-loop-one-init t c = said_value refl

pub operated-loop-one-preserved : goal.operated-loop-one-preserved
operated-loop-one-preserved t c = said_more (operation_means c.args.env.now c.args.first) _ c.args.operations.now c.loop-one.one-index c.one-item.result c.loop-one-test.true (search rules) c.loop-one.invariant
    (is_operated c.args.env.now c.args.first c.one-item.result c.loop-one.of c.in_ok-before.ensures.ok c.expression.ensures c.in_ok-of.ensures)

pub operated-returns : goal.operated-returns
operated-returns t c = said_all (operation_means c.args.env.now c.args.first) _ c.args.operations.now c.loop-one.one-index (omega arith) c.loop-one.invariant

pub argument-returns-in_ok-value : goal.argument-returns-in_ok-value
argument-returns-in_ok-value t c = is_plain c.args.env.now c.args.of.now c.if-asks.false c.in_ok-value.ensures

pub expression-returns-in-Whole : goal.expression-returns-in-Whole
expression-returns-in-Whole t c = is_whole c.args.env.now c.in-Whole.is c.whole.ensures

pub expression-returns-in-Code : goal.expression-returns-in-Code
expression-returns-in-Code t c = is_code c.args.env.now c.in-Code.is c.code.ensures

pub expression-returns-in_ok-found-in-Chars : goal.expression-returns-in_ok-found-in-Chars
expression-returns-in_ok-found-in-Chars t c = is_chars c.args.env.now c.in-Chars.is c.in_ok-found-in-Chars.ensures

pub expression-returns-in_ok-all-in-SetOf : goal.expression-returns-in_ok-all-in-SetOf
expression-returns-in_ok-all-in-SetOf t c = is_set c.args.env.now c.as_slice.result.now (search rules) c.set_sort-sort.ensures c.in_ok-all-in-SetOf.ensures c.set_node.ensures

pub expression-returns-in_ok-value-in-Desig : goal.expression-returns-in_ok-value-in-Desig
expression-returns-in_ok-value-in-Desig t c = is_desig c.args.env.now _ c.in-Desig.is c.in_ok-of-in-Desig.ensures c.in_ok-value-in-Desig.ensures

pub expression-returns-in_ok-value-in-Call : goal.expression-returns-in_ok-value-in-Call
expression-returns-in_ok-value-in-Call t c = is_call c.args.env.now c.get-named.result.now c.as_slice-in-Call.result.now (search rules) refl c.in_ok-of-in-Call.ensures c.callee_node-callee.ensures c.asks-asked.ensures c.in_ok-callee-in-Call.ensures.ok c.all_arguments-all.ensures c.in_ok-value-in-Call.ensures c.begun_at.ensures

pub expression-returns-in_ok-value-in-One : goal.expression-returns-in_ok-value-in-One
expression-returns-in_ok-value-in-One t c = is_one c.args.env.now c.get.result.now (search rules) c.in_ok-a-in-One.ensures c.in_ok-value-in-One.ensures

pub expression-returns-in_ok-value-in-Chain : goal.expression-returns-in_ok-value-in-Chain
expression-returns-in_ok-value-in-Chain t c = is_chain c.args.env.now c.get-in-Chain.result.now c.as_slice-in-Chain.result.now (search rules) c.in_ok-a-in-Chain.ensures c.begun-begin.ensures c.in_ok-chain-in-Chain.ensures c.in_ok-value-in-Chain.ensures

pub joined-returns-in_ok-all-in-None : goal.joined-returns-in_ok-all-in-None
joined-returns-in_ok-all-in-None t c = λ es known. is_alone c.args.env.now c.args.element.now c.args.sort es known c.in-None.is c.in_ok-of.ensures.ok c.expression.ensures c.in_ok-all-in-None.ensures

pub joined-returns-in_ok-all-in-Some : goal.joined-returns-in_ok-all-in-Some
joined-returns-in_ok-all-in-Some t c = λ es known. is_range c.args.env.now c.args.element.now c.get.result.now c.args.sort es c.expression.new.report known (search rules) c.in_ok-of.ensures.ok c.expression.ensures c.in_ok-before-in-Some.ensures.ok c.expression-in-Some.ensures c.in_ok-all-in-Some.ensures

pub reached-returns : goal.reached-returns
reached-returns t c = is_reached c.args.env.now c.args.first c.args.of.now c.as_slice.result.now c.as_slice.ensures c.in_ok-begin.ensures c.in_ok-found.ensures

pub selected-returns-in_ok-found-in-Field : goal.selected-returns-in_ok-found-in-Field
selected-returns-in_ok-found-in-Field t c = is_field c.args.env.now c.args.of c.in-Field.is c.in_ok-found-in-Field.ensures

pub selected-returns-in_ok-found-in-Index : goal.selected-returns-in_ok-found-in-Index
selected-returns-in_ok-found-in-Index t c = is_index c.args.env.now c.args.of c.as_slice.result.now (search rules) c.in_ok-found-in-Index.ensures

pub selected-returns-in_ok-found-in-Follow : goal.selected-returns-in_ok-found-in-Follow
selected-returns-in_ok-found-in-Follow t c = is_follow c.args.env.now c.args.of c.in-Follow.is c.in_ok-found-in-Follow.ensures

pub typed-returns-in_ok-of-in-Desig : goal.typed-returns-in_ok-of-in-Desig
typed-returns-in_ok-of-in-Desig t c = is_typed c.args.env.now _ c.in-Desig.is c.in_ok-of-in-Desig.ensures c.typed_node.ensures

pub typed-returns-in_ok-value-in_default : goal.typed-returns-in_ok-value-in_default
typed-returns-in_ok-value-in_default t c = is_valued c.args.env.now c.in_default.not-Desig c.in_ok-value-in_default.ensures
