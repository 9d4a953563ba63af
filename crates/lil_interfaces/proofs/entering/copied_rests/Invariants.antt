use Rattle.std.proofs.Common.{◌≡◌, take}
use Rattle.lil_interfaces.proofs.entering.copied_rests.Given as goal

abbrev pub invariant-loop-one : goal.invariant-loop-one
invariant-loop-one l = l.all ≡ take l.one-index l.of
