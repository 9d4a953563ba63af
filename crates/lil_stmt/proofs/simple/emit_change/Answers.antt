use Rattle.lil_resolved.specs.Views.{base_view, kind_view, is_down, place_of, expression_of}
use Rattle.lil_labels.specs.Emitting.{with_ok}
use Rattle.lil_expr.specs.Accesses.{access_view}
use Rattle.lil_stmt.proofs.Placing.{change_emitted}
use Rattle.lil_stmt.proofs.simple.emit_change.Goals as goal

pub returns : goal.returns
returns c =
    with_ok c.emit_store.result
    (λ h n exit. change_emitted (is_down c.args.direction) (place_of c.args.place.now) (kind_view c.args.kind) (base_view c.counted_base.result) (expression_of c.args.value.now) c.change_instr-computes.result (access_view c.in_ok-target.target) n exit
    _ _ _ _ _ _ _ _ c.change_instr-computes.ensures.is c.counted_base.ensures c.in_ok-target.ensures c.in_ok-emit_again.ensures c.in_ok-emit_expression.ensures c.in_ok-emit_under.ensures c.in_ok-put.ensures c.in_ok-emit_test.ensures h)
    c.emit_store.ensures
