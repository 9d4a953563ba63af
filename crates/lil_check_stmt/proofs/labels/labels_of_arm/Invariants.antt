use Rattle.std.proofs.Common.{[], Some, take}
use Rattle.lil_report.specs.Told.{Said, walk}
use Rattle.lil_check_stmt.specs.Labels.{label_step}
use Rattle.lil_check_stmt.proofs.labels.labels_of_arm.Given as goal

abbrev pub invariant-loop-one : goal.invariant-loop-one
invariant-loop-one l = Said (walk (label_step l.env l.fn.selector) (record { seen = l.fn.seen; own = Some [] }) (take l.one-index l.of)) l.fn.report l.labels l.report
