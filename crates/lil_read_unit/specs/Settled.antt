-- The answer of a reader of units, by the unit that was read.
use Rattle.std.specs.Prelude.{Option, None, Some, Result, Ok, Err}
use Rattle.lil_base.specs.{declared.fault.Place.Place, Faults.fault}
use Rattle.lil_text.specs.declared.stop.ReadStop.{ReadStop, TheVariants.Fault}
use Rattle.lil_language.specs.{Units.{wrong_ends, least}, declared.unit.Unit.Unit as Tree}

-- the unit, or fault 11 at the place
abbrev pub ended : Tree → Option Place → Result Tree ReadStop
ended u None = Ok u
ended u (Some p) = Err (Fault (fault 11 p))

abbrev pub settled : Result Tree ReadStop → Result Tree ReadStop
settled (Ok u) = ended u (least None (wrong_ends u))
settled (Err e) = Err e
