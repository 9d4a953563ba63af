use Rattle.lil_resolved.specs.Views.{kind_view, place_of, expression_of}
use Rattle.lil_labels.specs.Emitting.{with_ok}
use Rattle.lil_expr.specs.Accesses.{access_view}
use Rattle.lil_stmt.proofs.Placing.{assign_emitted}
use Rattle.lil_stmt.proofs.simple.emit_assign.Goals as goal

pub returns : goal.returns
returns c =
    with_ok c.emit_store.result
    (λ h n exit. assign_emitted (place_of c.args.place.now) (kind_view c.args.kind) (expression_of c.args.value.now) (access_view c.in_ok-target.target) n exit _ _ _ _ c.in_ok-target.ensures c.in_ok-emit_tested.ensures.stored h)
    c.emit_store.ensures
