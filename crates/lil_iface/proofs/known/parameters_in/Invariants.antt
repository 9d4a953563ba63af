use Rattle.std.proofs.Common.{◌≡◌, take, map}
use Rattle.lil_iface.specs.Known.{parameter_in}
use Rattle.lil_iface.proofs.known.parameters_in.Given as goal

abbrev pub invariant-loop-one : goal.invariant-loop-one
invariant-loop-one l = l.all ≡ map parameter_in (take l.one-index l.of)
