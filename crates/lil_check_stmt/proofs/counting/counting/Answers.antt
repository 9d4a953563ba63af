use Rattle.std.proofs.Common.{ap, ◌∙◌}
use Rattle.lil_report.specs.Laws.{said_to}
use Rattle.lil_check_stmt.proofs.Forms.{is_given, is_count}
use Rattle.lil_check_stmt.proofs.counting.counting.Goals as goal

pub returns : goal.returns
returns c = is_count c.args.env.now c.args.head.now c.look-looked.ensures c.counting_variable-counter.ensures c.in_ok-from.ensures
    (said_to c.start-from.ensures (ap (λ p. p.0) c.in_ok-from-3.ensures.ok.0 ∙ c.in_ok-from-2.ensures.ok.0)) (is_given _ c.in_ok-from-2.ensures.ok.1 c.boxed_expression-2.ensures)
    (said_to c.limit-to.ensures (ap (λ p. p.1) c.in_ok-from-3.ensures.ok.0)) (is_given _ c.in_ok-from-3.ensures.ok.1 c.step_by.ensures) c.count_of.ensures
