use Rattle.std.proofs.Common.{take}
use Rattle.lil_shapes.specs.Measured.{IsLaidFrom}
use Rattle.lil_shapes.proofs.LayLaws.{laid_with}
use Rattle.lil_shapes.proofs.laying.lay_from.Given as goal

abbrev pub invariant-loop-one : goal.invariant-loop-one
invariant-loop-one l = IsLaidFrom l.first l.types (take l.one-index l.of) (laid_with l.variables l.words)
