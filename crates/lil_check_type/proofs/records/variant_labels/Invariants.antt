use Rattle.std.proofs.Common.{take}
use Rattle.lil_report.specs.Told.{Said, walk}
use Rattle.lil_check_type.specs.Labels.{label_step}
use Rattle.lil_check_type.proofs.records.variant_labels.Given as goal

abbrev pub invariant-loop-one : goal.invariant-loop-one
invariant-loop-one l = Said (walk (label_step l.env l.tag) l.fn.before (take l.one-index l.of)) l.fn.report l.before l.report
