use Rattle.std.proofs.Common.{take}
use Rattle.lil_labels.specs.Drafts.{Each, Emits}
use Rattle.lil_stmt.specs.Generating.{ArmLabels, paired}
use Rattle.lil_stmt.proofs.cases.emit_table.Given as goal

abbrev pub invariant-loop-i : goal.invariant-loop-i
invariant-loop-i l = Emits l.fn.code l.code (Each ArmLabels (paired (take l.i l.arms) (take l.i l.labels)))
