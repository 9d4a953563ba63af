use Rattle.std.proofs.Common.{◌≡◌, Some}
use Rattle.lil_shapes.specs.{Measured.{shapes_in, IsShaped}, Shaping.shapes_below}
use Rattle.lil_shapes.proofs.shapes.all_shapes.Given as goal

abbrev pub invariant-loop-number : goal.invariant-loop-number
invariant-loop-number l = (shapes_below l.t l.number ≡ Some (shapes_in l.so_far)) × IsShaped l.so_far
