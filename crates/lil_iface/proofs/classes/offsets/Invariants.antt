use Rattle.std.proofs.Common.{◌≡◌, ◌++◌, drop}
use Rattle.lil_iface.specs.Iface.{offsets_from}
use Rattle.lil_iface.proofs.classes.offsets.Given as goal

-- those so far, and those of what is left
abbrev pub invariant-loop-one : goal.invariant-loop-one
invariant-loop-one l = l.all ++ offsets_from l.at l.types (drop l.one-index l.of) ≡ offsets_from 0 l.types l.of
