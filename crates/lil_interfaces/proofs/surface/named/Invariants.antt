use Rattle.std.proofs.Common.{◌≡◌, drop}
use Rattle.lil_interfaces.specs.Interfaces.{named}
use Rattle.lil_interfaces.proofs.surface.named.Given as goal

-- none of those before has the name
abbrev pub invariant-loop-one : goal.invariant-loop-one
invariant-loop-one l = named (drop l.one-index l.interfaces) l.name ≡ named l.interfaces l.name
