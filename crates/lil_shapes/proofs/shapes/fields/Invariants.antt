use Rattle.std.proofs.Common.{take}
use Rattle.lil_shapes.specs.Measured.{shapes_in}
use Rattle.lil_shapes.proofs.ShapeLaws.{AreFound}
use Rattle.lil_shapes.proofs.shapes.fields.Given as goal

abbrev pub invariant-loop-field : goal.invariant-loop-field
invariant-loop-field l = AreFound (shapes_in l.before) (take l.field-index l.of) l.found l.offset
