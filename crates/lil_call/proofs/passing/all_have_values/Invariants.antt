use Rattle.std.proofs.Common.{◌≡◌, drop}
use Rattle.lil_call.specs.Passing as spec
use Rattle.lil_call.proofs.passing.all_have_values.Given as goal

abbrev pub invariant-loop-x : goal.invariant-loop-x
invariant-loop-x l = spec.all_have_values (drop l.x-index l.xs) ≡ spec.all_have_values l.xs
