use Rattle.std.proofs.Common.{length, ◌-◌, ◌≡◌, ◌≤◌, drop}
use Rattle.lil_check_value.specs.Looks as spec
use Rattle.lil_check_value.proofs.names.in_withs.Given as goal

abbrev pub invariant-loop-number : goal.invariant-loop-number
invariant-loop-number l = (l.number ≤ length l.withs) × (spec.in_withs l.types l.name l.found l.number (drop l.number l.withs) ≡ spec.nearest l.types l.name l.withs)

abbrev pub decreases-loop-number : goal.decreases-loop-number
decreases-loop-number l = length l.withs - l.number
