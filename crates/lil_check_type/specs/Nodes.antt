-- Nodes that have no value where a test finds a fault.
use Rattle.std.specs.Prelude.{Bool, true, not, ◌&&◌, List, [], ◌∷◌, Option, None, if◌then◌else◌}
use Rattle.lil_report.specs.Told.{Row}

-- no test finds anything wrong
abbrev pub clear : List Row → Bool
clear [] = true
clear (r ∷ rs) = not r.wrong && clear rs

-- a node with a fault has no value, where others are tested by it
abbrev pub node : {A : Type 0} → List Row → Option A → Option A × List Row
node rs o = (if clear rs then o else None, rs)
