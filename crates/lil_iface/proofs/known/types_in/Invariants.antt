use Rattle.std.proofs.Common.{◌≡◌, [], drop}
use Rattle.lil_iface.specs.Known.{types_in}
use Rattle.lil_iface.proofs.known.types_in.Given as goal

abbrev pub invariant-loop-one : goal.invariant-loop-one
invariant-loop-one l = types_in l.all (drop l.one-index l.of) ≡ types_in [] l.of
