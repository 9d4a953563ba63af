use Rattle.std.proofs.Common.{take}
use Rattle.lil_report.specs.Told.{Said, walk}
use Rattle.lil_check_type.specs.Records.{formal_step, no_parameters}
use Rattle.lil_check_type.proofs.routines.formals.Given as goal

abbrev pub invariant-loop-one : goal.invariant-loop-one
invariant-loop-one l = Said (walk (formal_step l.env) no_parameters (take l.one-index l.of)) l.fn.report l.parameters l.report
