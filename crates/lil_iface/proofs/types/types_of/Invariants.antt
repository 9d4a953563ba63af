use Rattle.std.proofs.Common.{◌≡◌, take, map}
use Rattle.lil_iface.specs.Iface.{type_of}
use Rattle.lil_iface.proofs.types.types_of.Given as goal

abbrev pub invariant-loop-one : goal.invariant-loop-one
invariant-loop-one l = l.all ≡ map type_of (take l.one-index l.of)
