use Rattle.std.proofs.Common.{take}
use Rattle.lil_report.specs.Told.{Said, walk}
use Rattle.lil_check_type.specs.Records.{no_parameters}
use Rattle.lil_check_decl.specs.Headings.{Headed, section_step}
use Rattle.lil_check_decl.proofs.headings.sections.Given as goal

abbrev pub invariant-loop-one : goal.invariant-loop-one
invariant-loop-one l = Said {A = Headed} (walk (section_step l.home) (l.fn.env, no_parameters) (take l.one-index l.of)) l.fn.report (l.env, l.parameters) l.report
