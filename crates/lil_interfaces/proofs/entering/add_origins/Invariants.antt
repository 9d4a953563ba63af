use Rattle.std.proofs.Common.{◌≡◌, drop}
use Rattle.lil_interfaces.specs.Entering.{and_origins}
use Rattle.lil_interfaces.proofs.entering.add_origins.Given as goal

-- those so far and those that are left are all
abbrev pub invariant-loop-one : goal.invariant-loop-one
invariant-loop-one l = and_origins l.places l.origins (drop l.one-index l.of) ≡ and_origins l.places l.fn.origins l.of
