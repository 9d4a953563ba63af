use Rattle.std.proofs.lemmas.Result.{IfOk-weaker}
use Rattle.lil_resolved.specs.Views.{place_of}
use Rattle.lil_expr.specs.Accesses.{access_view}
use Rattle.lil_stmt.proofs.Placing.{target_emitted}
use Rattle.lil_stmt.proofs.targets.emit_target.Goals as goal

pub returns : goal.returns
returns c =
    IfOk-weaker c.emit_ready.result _ _ (λ ready. target_emitted (place_of c.args.of.now) (access_view c.in_ok-at.at.access) (access_view ready) c.in_ok-at.at.shape _ _ _ c.in_ok-at.ensures) c.emit_ready.ensures
