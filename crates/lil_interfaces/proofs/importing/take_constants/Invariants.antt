use Rattle.std.proofs.Common.{take}
use Rattle.lil_report.specs.Told.{Said}
use Rattle.lil_interfaces.specs.Imports.{constants_step}
use Rattle.lil_interfaces.proofs.importing.take_constants.Given as goal

-- the constants so far
abbrev pub invariant-loop-number : goal.invariant-loop-number
invariant-loop-number l = Said (constants_step l.«from» l.place l.sort 0 l.fn.so_far (take l.number l.names)) l.fn.report l.so_far l.report
