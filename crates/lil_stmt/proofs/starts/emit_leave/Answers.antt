use Rattle.lil_labels.specs.Emitting.{with_ok}
use Rattle.lil_stmt.proofs.Starting.{leave_emitted}
use Rattle.lil_stmt.proofs.starts.emit_leave.Goals as goal

pub returns : goal.returns
returns c =
    with_ok c.put.result
    (leave_emitted c.in_ok-other.other c.args.end _ _ _ _ _ _ _ _ c.in_ok-put_all.ensures c.in_ok-other.ensures.emits c.in_ok-other.ensures.makes c.in_ok-jump.ensures c.in_ok-put_all-2.ensures c.in_ok-jump-2.ensures c.here.ensures.ends)
    c.put.ensures
