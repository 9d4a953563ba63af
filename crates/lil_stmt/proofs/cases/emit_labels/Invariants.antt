use Rattle.std.proofs.Common.{take}
use Rattle.lil_labels.specs.Drafts.{Each, Emits}
use Rattle.lil_stmt.specs.Generating.{LabelEntry}
use Rattle.lil_stmt.proofs.cases.emit_labels.Given as goal

abbrev pub invariant-loop-label : goal.invariant-loop-label
invariant-loop-label l = Emits l.fn.code l.code (Each (LabelEntry l.arm) (take l.label-index l.labels))
