use Rattle.std.proofs.Common.{◌≡◌, ◌+◌, drop}
use Rattle.lil_interfaces.specs.Entering.{place_from}
use Rattle.lil_interfaces.proofs.entering.place_of.Given as goal

-- none of those before has the name
abbrev pub invariant-loop-one : goal.invariant-loop-one
invariant-loop-one l = record {
  counted : l.place ≡ l.one-index + 1;
  rest : place_from l.place (drop l.one-index l.rests) l.name ≡ place_from 1 l.rests l.name;
}
