use Rattle.std.proofs.Common.{◌≡◌, ◌∷◌, None, List, map, take}
use Rattle.lil_resolved.specs.{declared.shapes.RShape.RShape, Views.procedure_of}
use Rattle.lil_laws.specs.Loading.{named_entries}
use Rattle.lil_session.proofs.run.procedures.Given as goal

-- the table of the procedures so far
abbrev pub invariant-loop-number : goal.invariant-loop-number
invariant-loop-number l = (shapes : List RShape) → l.table.items ≡ (0, None) ∷ named_entries (map (procedure_of shapes) (take l.number l.of)) (take l.number l.entries)
