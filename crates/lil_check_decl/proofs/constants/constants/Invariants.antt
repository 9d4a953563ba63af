use Rattle.std.proofs.Common.{take}
use Rattle.lil_report.specs.Told.{Said, walk}
use Rattle.lil_check_decl.specs.Constants.{constant_step}
use Rattle.lil_check_decl.proofs.constants.constants.Given as goal

abbrev pub invariant-loop-one : goal.invariant-loop-one
invariant-loop-one l = Said (walk constant_step l.fn.env (take l.one-index l.of)) l.fn.report l.env l.report
