use Rattle.std.proofs.Common.{length, Option, reverse}
use Rattle.lil_report.specs.{declared.report.Fault.Fault, Told.{Said, walk}}
use Rattle.lil_check_type.specs.{Made.Made, Sorts.array_step}
use Rattle.lil_check_type.proofs.sorts.arrays.Given as goal

-- what the arrays that are left come to is what all come to
abbrev pub invariant-loop-index : goal.invariant-loop-index
invariant-loop-index l = (b : Made) (t : Option Fault) → Said {A = Made} (walk (array_step l.place) (l.env, l.sort) (reverse l.left.items)) l.report b t
    → Said {A = Made} (walk (array_step l.place) (l.fn.env, l.fn.element) (reverse l.fn.indexes.items)) l.fn.report b t

abbrev pub decreases-loop-index : goal.decreases-loop-index
decreases-loop-index l = length l.left.items
