use Rattle.std.proofs.Common.{take}
use Rattle.lil_report.specs.Told.{Said, walk}
use Rattle.lil_interfaces.specs.Imports.{import_step}
use Rattle.lil_interfaces.proofs.importing.imports.Given as goal

abbrev pub invariant-loop-one : goal.invariant-loop-one
invariant-loop-one l = Said (walk (import_step l.interfaces) l.fn.so_far (take l.one-index l.of)) l.fn.report l.so_far l.report
