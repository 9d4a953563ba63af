use Rattle.std.proofs.Common.{◌≡◌, map, take}
use Rattle.lil_iface.proofs.names.by_place.Given as goal

abbrev pub invariant-loop-one : goal.invariant-loop-one
invariant-loop-one l = map (λ b. b.now) l.order.items ≡ take l.one-index l.of
