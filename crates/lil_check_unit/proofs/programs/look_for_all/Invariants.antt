use Rattle.std.proofs.Common.{◌≡◌, drop}
use Rattle.lil_report.specs.Told.{tell}
use Rattle.lil_check_unit.specs.Units.{missing_names}
use Rattle.lil_check_unit.proofs.programs.look_for_all.Given as goal

abbrev pub invariant-loop-at : goal.invariant-loop-at
invariant-loop-at l = tell l.report (missing_names l.interfaces (drop l.at-index l.names)) ≡ tell l.fn.report (missing_names l.interfaces l.names)
