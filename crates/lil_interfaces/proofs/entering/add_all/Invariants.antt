use Rattle.std.proofs.Common.{◌≡◌, drop}
use Rattle.lil_interfaces.specs.Entering.{and_rests}
use Rattle.lil_interfaces.proofs.entering.add_all.Given as goal

-- those so far and those that are left are all
abbrev pub invariant-loop-one : goal.invariant-loop-one
invariant-loop-one l = and_rests l.rests (drop l.one-index l.of) ≡ and_rests l.fn.rests l.of
