use Rattle.std.proofs.Common.{◌≡◌, ◌∷◌, take, map}
use Rattle.lil_interfaces.specs.Entering.{place_from}
use Rattle.lil_interfaces.proofs.entering.places_from.Given as goal

abbrev pub invariant-loop-one : goal.invariant-loop-one
invariant-loop-one l = l.places ≡ l.first ∷ map (λ v. place_from 1 l.rests v.name) (take l.one-index l.of)
