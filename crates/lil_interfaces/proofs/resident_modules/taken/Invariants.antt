use Rattle.std.proofs.Common.{◌≡◌, length}
use Rattle.lil_interfaces.specs.Interfaces.{named}
use Rattle.lil_interfaces.proofs.resident_modules.taken.Given as goal

-- none of those before has the name
abbrev pub invariant-loop-one : goal.invariant-loop-one
invariant-loop-one l = named l.rest l.name ≡ named l.fn.all l.name

abbrev pub decreases-loop-one : goal.decreases-loop-one
decreases-loop-one l = length l.rest
