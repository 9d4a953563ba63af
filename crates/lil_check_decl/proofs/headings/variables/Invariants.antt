use Rattle.std.proofs.Common.{take}
use Rattle.lil_report.specs.Told.{Said, walk}
use Rattle.lil_check_decl.specs.Headings.{variable_step}
use Rattle.lil_check_decl.proofs.headings.variables.Given as goal

abbrev pub invariant-loop-name : goal.invariant-loop-name
invariant-loop-name l = Said (walk (variable_step l.home l.sort) l.fn.env (take l.name-index l.names)) l.fn.report l.env l.report
