use Rattle.lil_resolved.specs.Views.{kind_view, expression_of}
use Rattle.lil_labels.specs.Emitting.{with_ok}
use Rattle.lil_stmt.proofs.Storing.{answer_emitted}
use Rattle.lil_stmt.proofs.simple.emit_answer.Goals as goal

pub returns : goal.returns
returns c = with_ok c.put.result (λ h n exit. answer_emitted (kind_view c.args.kind) (expression_of c.args.answer.now) n exit _ _ _ c.in_ok-emit_tested.ensures.stored h) c.put.ensures
