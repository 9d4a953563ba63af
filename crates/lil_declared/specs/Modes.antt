-- How the variable for a parameter is handed over.
use Rattle.std.specs.Prelude.{Bool, true, false}
use Rattle.lil_declared.specs.declared.declared.Mode.{Mode, TheVariants.{Value, Place, OpenValue, OpenPlace}}

-- by place or by value, and as an open array or not
abbrev pub mode_of : (by_place open_array : Bool) → Mode
mode_of false false = Value
mode_of true false = Place
mode_of false true = OpenValue
mode_of true true = OpenPlace
