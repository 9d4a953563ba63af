use Rattle.std.proofs.Common.{◌≡◌, take, map}
use Rattle.lil_iface.specs.Iface.{parameter_of}
use Rattle.lil_iface.proofs.types.parameters_of.Given as goal

abbrev pub invariant-loop-one : goal.invariant-loop-one
invariant-loop-one l = l.all ≡ map parameter_of (take l.one-index l.of)
