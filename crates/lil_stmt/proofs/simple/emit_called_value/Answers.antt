use Rattle.lil_resolved.specs.Views.{arguments_of, expression_of}
use Rattle.lil_labels.specs.Emitting.{with_ok}
use Rattle.lil_stmt.proofs.Storing.{call_value_emitted}
use Rattle.lil_stmt.proofs.simple.emit_called_value.Goals as goal

pub returns : goal.returns
returns c =
    with_ok c.emit_value_call.result
    (λ h n exit. call_value_emitted (expression_of c.args.value.now) (arguments_of c.args.given.now) n exit _ _ _ c.in_ok-emit_expression.ensures h)
    c.emit_value_call.ensures
