use Rattle.std.proofs.Common.{take}
use Rattle.lil_report.specs.Told.{Said, walk}
use Rattle.lil_check_decl.specs.Decls.{variables_step}
use Rattle.lil_check_decl.proofs.decl.all_variables.Given as goal

abbrev pub invariant-loop-one : goal.invariant-loop-one
invariant-loop-one l = Said (walk variables_step l.fn.env (take l.one-index l.of)) l.fn.report l.env l.report
