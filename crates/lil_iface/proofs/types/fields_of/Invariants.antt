use Rattle.std.proofs.Common.{◌≡◌, take, map}
use Rattle.lil_iface.specs.Iface.{field_of}
use Rattle.lil_iface.proofs.types.fields_of.Given as goal

abbrev pub invariant-loop-one : goal.invariant-loop-one
invariant-loop-one l = l.all ≡ map field_of (take l.one-index l.of)
