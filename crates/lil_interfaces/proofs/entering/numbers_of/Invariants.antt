use Rattle.std.proofs.Common.{◌≡◌, take, map}
use Rattle.lil_interfaces.specs.Entering.{number_of, origin_in}
use Rattle.lil_interfaces.proofs.entering.numbers_of.Given as goal

abbrev pub invariant-loop-one : goal.invariant-loop-one
invariant-loop-one l = l.numbers ≡ map (λ e. number_of l.origins (origin_in l.places e)) (take l.one-index l.of)
