use Rattle.std.proofs.Common.{◌≡◌, drop}
use Rattle.lil_interfaces.specs.Entering.{with_types}
use Rattle.lil_interfaces.proofs.entering.add_types.Given as goal

-- the types so far and those that are left are all
abbrev pub invariant-loop-one : goal.invariant-loop-one
invariant-loop-one l = with_types l.places l.origins l.numbers l.to (drop l.one-index l.of) ≡ with_types l.places l.origins l.numbers l.fn.to l.of
