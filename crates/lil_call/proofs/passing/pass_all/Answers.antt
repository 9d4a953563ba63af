use Rattle.lil_call.proofs.Walks.{ahead_more, ahead_end}
use Rattle.lil_call.proofs.passing.pass_all.Goals as goal

pub loop-x-preserved : goal.loop-x-preserved
loop-x-preserved c = ahead_more _ _ _ _ _ _ _ c.in-Some.x c.take_first.new.self _ _ c.loop-x.invariant c.in-Some.ensures c.in_ok-s.ensures

pub returns : goal.returns
returns c = ahead_end _ _ _ _ _ c.loop-x.left _ c.loop-x.invariant c.in_default.ensures.0
