use Rattle.std.proofs.Common.{◌≡◌, ◌+◌, ◌-◌, ◌*◌}
use Rattle.lil_text.specs.declared.token.Mark.TheVariants as m
use Rattle.lil_grammar.specs.Steps.{loop}
use Rattle.lil_syntax.specs.Syntax.{give, ◌◃◌}
use Rattle.lil_language.specs.Grammar as spec
use Rattle.lil_read_expr.specs.Selected.{more_selectors}
use Rattle.lil_read_expr.proofs.+expr.Given as goal

abbrev pub decreases-expression::expr : goal.decreases-expression::expr
decreases-expression::expr l = 32 * l.depth + 0

abbrev pub decreases-expression::operand : goal.decreases-expression::operand
decreases-expression::operand l = 32 * l.depth + 0

abbrev pub decreases-lists::element : goal.decreases-lists::element
decreases-lists::element l = 32 * l.depth + 1

abbrev pub decreases-lists::exprs : goal.decreases-lists::exprs
decreases-lists::exprs l = 32 * l.depth + 1

abbrev pub decreases-expression::inner : goal.decreases-expression::inner
decreases-expression::inner l = 32 * l.depth + 1

abbrev pub decreases-expression::negated : goal.decreases-expression::negated
decreases-expression::negated l = 32 * l.depth + 1

abbrev pub decreases-lists::labels : goal.decreases-lists::labels
decreases-lists::labels l = 32 * l.depth + 2

abbrev pub decreases-lists::arguments : goal.decreases-lists::arguments
decreases-lists::arguments l = 32 * l.depth + 2

abbrev pub decreases-selectors::index : goal.decreases-selectors::index
decreases-selectors::index l = 32 * l.depth + 2

abbrev pub decreases-lists::some_labels : goal.decreases-lists::some_labels
decreases-lists::some_labels l = 32 * l.depth + 3

abbrev pub decreases-lists::actuals : goal.decreases-lists::actuals
decreases-lists::actuals l = 32 * l.depth + 3

abbrev pub decreases-selectors::part_selector : goal.decreases-selectors::part_selector
decreases-selectors::part_selector l = 32 * l.depth + 3

abbrev pub decreases-lists::elements : goal.decreases-lists::elements
decreases-lists::elements l = 32 * l.depth + 4

abbrev pub decreases-lists::bit_set : goal.decreases-lists::bit_set
decreases-lists::bit_set l = 32 * l.depth + 4

abbrev pub decreases-lists::call : goal.decreases-lists::call
decreases-lists::call l = 32 * l.depth + 4

abbrev pub decreases-selectors::selector : goal.decreases-selectors::selector
decreases-selectors::selector l = 32 * l.depth + 4

abbrev pub decreases-selectors::more_selectors : goal.decreases-selectors::more_selectors
decreases-selectors::more_selectors l = 32 * l.depth + 5

abbrev pub decreases-selectors::part_selectors : goal.decreases-selectors::part_selectors
decreases-selectors::part_selectors l = 32 * l.depth + 6

abbrev pub decreases-selectors::selected_on : goal.decreases-selectors::selected_on
decreases-selectors::selected_on l = 32 * l.depth + 6

abbrev pub decreases-named::name_alone : goal.decreases-named::name_alone
decreases-named::name_alone l = 32 * l.depth + 7

abbrev pub decreases-named::field_set : goal.decreases-named::field_set
decreases-named::field_set l = 32 * l.depth + 7

abbrev pub decreases-named::set_of : goal.decreases-named::set_of
decreases-named::set_of l = 32 * l.depth + 7

abbrev pub decreases-named::field_path : goal.decreases-named::field_path
decreases-named::field_path l = 32 * l.depth + 7

abbrev pub decreases-named::with_part : goal.decreases-named::with_part
decreases-named::with_part l = 32 * l.depth + 7

abbrev pub decreases-named::behind_field : goal.decreases-named::behind_field
decreases-named::behind_field l = 32 * l.depth + 8

abbrev pub decreases-named::with_field : goal.decreases-named::with_field
decreases-named::with_field l = 32 * l.depth + 9

abbrev pub decreases-named::behind_name : goal.decreases-named::behind_name
decreases-named::behind_name l = 32 * l.depth + 10

abbrev pub decreases-named::named : goal.decreases-named::named
decreases-named::named l = 32 * l.depth + 11

abbrev pub decreases-expression::factor : goal.decreases-expression::factor
decreases-expression::factor l = 32 * l.depth + 12

abbrev pub decreases-expression::a_multiplication : goal.decreases-expression::a_multiplication
decreases-expression::a_multiplication l = 32 * l.depth + 13

abbrev pub decreases-expression::multiplications : goal.decreases-expression::multiplications
decreases-expression::multiplications l = 32 * l.depth + 14

abbrev pub decreases-expression::term : goal.decreases-expression::term
decreases-expression::term l = 32 * l.depth + 15

abbrev pub decreases-expression::an_addition : goal.decreases-expression::an_addition
decreases-expression::an_addition l = 32 * l.depth + 16

abbrev pub decreases-expression::signed : goal.decreases-expression::signed
decreases-expression::signed l = 32 * l.depth + 16

abbrev pub decreases-expression::additions : goal.decreases-expression::additions
decreases-expression::additions l = 32 * l.depth + 17

abbrev pub decreases-expression::sum : goal.decreases-expression::sum
decreases-expression::sum l = 32 * l.depth + 18

abbrev pub decreases-expression::comparison : goal.decreases-expression::comparison
decreases-expression::comparison l = 32 * l.depth + 19

abbrev pub decreases-expression::related : goal.decreases-expression::related
decreases-expression::related l = 32 * l.depth + 20

abbrev pub invariant-expression::additions-loop-turn : goal.invariant-expression::additions-loop-turn
invariant-expression::additions-loop-turn l = spec.reading l.depth spec.additions l.fn.reader ≡ loop (spec.turns (give (λ x. x) ◃ spec.addition)) (spec.turned l.depth (give (λ x. x) ◃ spec.addition) spec.with_last) (l._turn-end - l._turn) l.found l.reader

abbrev pub invariant-expression::multiplications-loop-turn : goal.invariant-expression::multiplications-loop-turn
invariant-expression::multiplications-loop-turn l = spec.reading l.depth spec.multiplications l.fn.reader ≡ loop (spec.turns (give (λ x. x) ◃ spec.multiplication)) (spec.turned l.depth (give (λ x. x) ◃ spec.multiplication) spec.with_last) (l._turn-end - l._turn) l.found l.reader

abbrev pub invariant-lists::labels-loop-turn : goal.invariant-lists::labels-loop-turn
invariant-lists::labels-loop-turn l = spec.reading l.depth spec.labels l.fn.reader ≡ loop (spec.turns (spec.behind (spec.mark m.Comma) spec.element)) (spec.turned l.depth (spec.behind (spec.mark m.Comma) spec.element) spec.with_last) (l._turn-end - l._turn) l.found l.reader

abbrev pub invariant-lists::exprs-loop-turn : goal.invariant-lists::exprs-loop-turn
invariant-lists::exprs-loop-turn l = spec.reading l.depth spec.exprs l.fn.reader ≡ loop (spec.turns (spec.behind (spec.mark m.Comma) spec.expr)) (spec.turned l.depth (spec.behind (spec.mark m.Comma) spec.expr) spec.with_last) (l._turn-end - l._turn) l.found l.reader

abbrev pub invariant-selectors::more_selectors-loop-turn : goal.invariant-selectors::more_selectors-loop-turn
invariant-selectors::more_selectors-loop-turn l = more_selectors l.depth l.fn.begun l.fn.reader ≡ loop (spec.turns (give (λ s. s) ◃ spec.selector)) (spec.turned l.depth (give (λ s. s) ◃ spec.selector) spec.with_last) (l._turn-end - l._turn) l.found l.reader
