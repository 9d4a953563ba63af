use Rattle.std.proofs.Common.{◌≡◌, drop}
use Rattle.lil_report.specs.Told.{tell}
use Rattle.lil_check_unit.specs.Units.{missing_rows}
use Rattle.lil_check_unit.proofs.programs.look_for_imports.Given as goal

abbrev pub invariant-loop-one : goal.invariant-loop-one
invariant-loop-one l = tell l.report (missing_rows l.interfaces (drop l.one-index l.of)) ≡ tell l.fn.report (missing_rows l.interfaces l.of)
