use Rattle.std.proofs.Common.{◌≡◌, drop, length}
use Rattle.lil_kinds.specs.Kinds.{same_parameters}
use Rattle.lil_kinds.proofs.relations.same_parameters.Given as goal

-- what is left decides
abbrev pub invariant-loop-i : goal.invariant-loop-i
invariant-loop-i l = record {
  lengths : length l.xs ≡ length l.ys;
  rest : same_parameters l.t (drop l.i l.xs) (drop l.i l.ys) ≡ same_parameters l.t l.xs l.ys;
}
