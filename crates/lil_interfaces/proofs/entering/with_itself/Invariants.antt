use Rattle.std.proofs.Common.{◌≡◌, ◌∷◌, take}
use Rattle.lil_interfaces.proofs.entering.with_itself.Given as goal

abbrev pub invariant-loop-one : goal.invariant-loop-one
invariant-loop-one l = l.all ≡ record { name = l.of.name; key = l.of.key } ∷ take l.one-index l.of.rests
