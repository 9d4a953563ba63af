use Rattle.std.proofs.Common.{take}
use Rattle.lil_report.specs.Told.{Said, walk}
use Rattle.lil_interfaces.specs.Imports.{export_step}
use Rattle.lil_interfaces.proofs.importing.export_names.Given as goal

abbrev pub invariant-loop-at : goal.invariant-loop-at
invariant-loop-at l = Said (walk (export_step l.taken) l.env (take l.at-index l.names)) l.fn.report l.env l.report
