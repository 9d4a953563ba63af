use Rattle.std.proofs.Common.{◌≡◌, ◌++◌, ◌≤◌, drop}
use Rattle.lil_iface.specs.Known.{names_in}
use Rattle.lil_iface.proofs.known.names_in.Given as goal

abbrev pub invariant-loop-one : goal.invariant-loop-one
invariant-loop-one l = record {
  few : l.texts ≤ l.one-index;
  rest : l.all ++ names_in l.texts (drop l.one-index l.of) ≡ names_in 0 l.of;
}
