use Rattle.lil_labels.specs.Emitting.{with_ok}
use Rattle.lil_stmt.proofs.Storing.{request_emitted}
use Rattle.lil_stmt.proofs.simple.emit_request.Goals as goal

pub returns : goal.returns
returns c =
    with_ok c.put.result
    (λ h n exit. request_emitted c.args.request c.number.result c.args.given.now n exit _ _ _ c.number.ensures c.in_ok-emit_arguments.ensures h) c.put.ensures
