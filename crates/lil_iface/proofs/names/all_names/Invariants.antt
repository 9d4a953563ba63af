use Rattle.std.proofs.Common.{◌≡◌, map, take}
use Rattle.std.specs.List.{flat_map}
use Rattle.lil_iface.specs.Listed.{name_in}
use Rattle.lil_iface.proofs.names.all_names.Given as goal

abbrev pub invariant-loop-one : goal.invariant-loop-one
invariant-loop-one l = l.all ≡ flat_map (name_in l.env l.offsets l.exports) (map (λ b. b.now) (take l.one-index l.of))
