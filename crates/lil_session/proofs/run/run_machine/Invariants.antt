use Rattle.std.proofs.Common.{◌≡◌, ◌-◌, ◌≤◌, []}
use Rattle.lil_meaning.specs.World.{World}
use Rattle.lil_volume.specs.Told.{followed_by}
use Rattle.lil_match.specs.Running.{mrun, running}
use Rattle.lil_session.proofs.run.run_machine.Given as goal

-- the machine has come so far, and what its steps added is shown
abbrev pub invariant-loop-left : goal.invariant-loop-left
invariant-loop-left g l = record {
  within : l.left ≤ l.fn.steps;
  quiet : g.S.Sink.faults l.screen ≡ g.S.Sink.faults l.fn.screen;
  come : (w : World) → w.screen ≡ [] → (v : World) × (mrun (l.fn.steps - l.left) (running l.fn.machine.state w) ≡ running l.machine.state v) × (g.S.Sink.written l.screen ≡ followed_by (g.S.Sink.written l.fn.screen) v.screen);
}

abbrev pub decreases-loop-left : goal.decreases-loop-left
decreases-loop-left g l = l.left
