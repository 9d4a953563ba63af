use Rattle.lil_format.specs.Turns.{many_on}
use Rattle.lil_object.proofs.contents.strings.Goals as goal

pub loop-turn-preserved : goal.loop-turn-preserved
loop-turn-preserved c = rw c.in_ok-push.ensures.ok (many_on _ c.loop-turn.all c.loop-turn.source c.loop-turn.invariant c.loop-turn-test.true c.in_ok-next.next _ c.in_ok-next.ensures)
