use Rattle.std.proofs.Common.{take}
use Rattle.lil_report.specs.Told.{Said, walk}
use Rattle.lil_check_decl.specs.Headings.{Headed, parameter_step}
use Rattle.lil_check_decl.proofs.headings.parameters_of.Given as goal

abbrev pub invariant-loop-name : goal.invariant-loop-name
invariant-loop-name l = Said {A = Headed} (walk (parameter_step l.home l.of l.sort) (l.fn.env, l.fn.parameters) (take l.name-index l.names)) l.fn.report (l.env, l.parameters) l.report
