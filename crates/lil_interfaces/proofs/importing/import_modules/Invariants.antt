use Rattle.std.proofs.Common.{take}
use Rattle.lil_report.specs.Told.{Said, walk}
use Rattle.lil_interfaces.specs.Imports.{module_step}
use Rattle.lil_interfaces.proofs.importing.import_modules.Given as goal

abbrev pub invariant-loop-at : goal.invariant-loop-at
invariant-loop-at l = Said (walk (module_step l.interfaces) l.fn.so_far (take l.at-index l.names)) l.fn.report l.so_far l.report
