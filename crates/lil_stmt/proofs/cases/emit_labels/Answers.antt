use Rattle.lil_expr.specs.Numbers.{number_word}
use Rattle.lil_stmt.proofs.Stating.{next_label_emitted}
use Rattle.lil_stmt.proofs.cases.emit_labels.Goals as goal

pub loop-label-preserved : goal.loop-label-preserved
loop-label-preserved c =
    next_label_emitted c.args.arm c.args.labels.now c.loop-label.label-index _ c.word_of_number.result c.word_of_number-in-loop-label.result _ _ _ c.loop-label-test.true
    (λ words. number_word _ c.word_of_number.result c.word_of_number.ensures.is words.low)
    (λ words. number_word _ c.word_of_number-in-loop-label.result c.word_of_number-in-loop-label.ensures.is words.high)
    c.loop-label.invariant c.in_ok-entry.ensures
