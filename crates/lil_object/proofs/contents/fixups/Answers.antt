use Rattle.lil_format.specs.Format.{reads}
use Rattle.lil_format.specs.Turns.{many_on}
use Rattle.lil_object.proofs.contents.fixups.Goals as goal

pub loop-turn-preserved : goal.loop-turn-preserved
unfolding reads
loop-turn-preserved c =
    let read = rw c.as_slice.ensures at c.in_ok-next.ensures in
    rw c.in_ok-push.ensures.ok (many_on _ c.loop-turn.all c.loop-turn.source c.loop-turn.invariant c.loop-turn-test.true c.in_ok-next.next _ read)
