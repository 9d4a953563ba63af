use Rattle.lil_labels.specs.Emitting.{with_ok}
use Rattle.lil_expr.proofs.Spelling.{zeros_emitted}
use Rattle.lil_expr.proofs.spelled.emit_zeros.Goals as goal

pub returns : goal.returns
returns c =
    with_ok c.jump.result
    (zeros_emitted c.args.count c.in_ok-turn.turn _ _ _ _ _ c.if-count-eq0.false c.in_ok-put.ensures c.in_ok-turn.ensures c.in_ok-put_all.ensures)
    c.jump.ensures
