use Rattle.std.proofs.Common.{drop}
use Rattle.lil_shapes.specs.Measured.{shapes_in}
use Rattle.lil_check_unit.specs.Modules.{locals_laid}
use Rattle.lil_check_unit.proofs.Making.{IsSoFar}
use Rattle.lil_check_unit.proofs.assembling.procedures.Given as goal

-- the procedures so far have the bodies so far
abbrev pub invariant-loop-number : goal.invariant-loop-number
invariant-loop-number l = IsSoFar l.table l.types.shapes (locals_laid (shapes_in l.types) l.locals) l.of l.fn.bodies l.made l.number (drop l.number l.of) l.left
