use Rattle.std.proofs.Common.{◌≡◌, ◌+◌, ◌-◌, ◌*◌}
use Rattle.lil_text.specs.declared.token.Mark.TheVariants as m
use Rattle.lil_text.specs.declared.token.Word.TheVariants as w
use Rattle.lil_grammar.specs.Steps.{loop}
use Rattle.lil_language.specs.Grammar as spec
use Rattle.lil_read_stmt.proofs.+stmt.Given as goal

abbrev pub decreases-statement::form : goal.decreases-statement::form
decreases-statement::form l = 10 * l.depth + 0

abbrev pub decreases-statement::statement : goal.decreases-statement::statement
decreases-statement::statement l = 10 * l.depth + 1

abbrev pub decreases-statement::statements : goal.decreases-statement::statements
decreases-statement::statements l = 10 * l.depth + 2

abbrev pub decreases-forms::guarded : goal.decreases-forms::guarded
decreases-forms::guarded l = 10 * l.depth + 3

abbrev pub decreases-forms::otherwise : goal.decreases-forms::otherwise
decreases-forms::otherwise l = 10 * l.depth + 3

abbrev pub decreases-forms::an_arm : goal.decreases-forms::an_arm
decreases-forms::an_arm l = 10 * l.depth + 3

abbrev pub decreases-loops::while_form : goal.decreases-loops::while_form
decreases-loops::while_form l = 10 * l.depth + 3

abbrev pub decreases-loops::repeat_form : goal.decreases-loops::repeat_form
decreases-loops::repeat_form l = 10 * l.depth + 3

abbrev pub decreases-loops::loop_form : goal.decreases-loops::loop_form
decreases-loops::loop_form l = 10 * l.depth + 3

abbrev pub decreases-loops::for_form : goal.decreases-loops::for_form
decreases-loops::for_form l = 10 * l.depth + 3

abbrev pub decreases-statement::with_form : goal.decreases-statement::with_form
decreases-statement::with_form l = 10 * l.depth + 3

abbrev pub decreases-forms::guards : goal.decreases-forms::guards
decreases-forms::guards l = 10 * l.depth + 4

abbrev pub decreases-forms::some_arm : goal.decreases-forms::some_arm
decreases-forms::some_arm l = 10 * l.depth + 4

abbrev pub decreases-loops::loops_form : goal.decreases-loops::loops_form
decreases-loops::loops_form l = 10 * l.depth + 4

abbrev pub decreases-statement::word_form : goal.decreases-statement::word_form
decreases-statement::word_form l = 10 * l.depth + 4

abbrev pub decreases-forms::arms : goal.decreases-forms::arms
decreases-forms::arms l = 10 * l.depth + 5

abbrev pub decreases-forms::if_form : goal.decreases-forms::if_form
decreases-forms::if_form l = 10 * l.depth + 5

abbrev pub decreases-forms::case_form : goal.decreases-forms::case_form
decreases-forms::case_form l = 10 * l.depth + 6

abbrev pub decreases-forms::choice_form : goal.decreases-forms::choice_form
decreases-forms::choice_form l = 10 * l.depth + 7

abbrev pub decreases-statement::a_form : goal.decreases-statement::a_form
decreases-statement::a_form l = 10 * l.depth + 8

abbrev pub invariant-statement::statements-loop-turn : goal.invariant-statement::statements-loop-turn
invariant-statement::statements-loop-turn l = spec.reading l.depth spec.statements l.fn.reader ≡ loop (spec.turns (spec.behind (spec.mark m.Semicolon) spec.statement)) (spec.turned l.depth (spec.behind (spec.mark m.Semicolon) spec.statement) spec.with_listed) (l._turn-end - l._turn) l.found l.reader

abbrev pub invariant-forms::guards-loop-turn : goal.invariant-forms::guards-loop-turn
invariant-forms::guards-loop-turn l = spec.reading l.depth spec.guards l.fn.reader ≡ loop (spec.turns (spec.behind (spec.word w.Elsif) spec.guarded)) (spec.turned l.depth (spec.behind (spec.word w.Elsif) spec.guarded) spec.with_last) (l._turn-end - l._turn) l.found l.reader

abbrev pub invariant-forms::arms-loop-turn : goal.invariant-forms::arms-loop-turn
invariant-forms::arms-loop-turn l = spec.reading l.depth spec.arms l.fn.reader ≡ loop (spec.turns (spec.behind (spec.mark m.Bar) spec.some_arm)) (spec.turned l.depth (spec.behind (spec.mark m.Bar) spec.some_arm) spec.with_listed) (l._turn-end - l._turn) l.found l.reader
