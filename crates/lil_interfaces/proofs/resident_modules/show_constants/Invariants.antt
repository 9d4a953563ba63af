use Rattle.std.proofs.Common.{◌≡◌, drop}
use Rattle.lil_interfaces.specs.Interfaces.{with_constants}
use Rattle.lil_interfaces.proofs.resident_modules.show_constants.Given as goal

-- the constants so far and those that are left are all
abbrev pub invariant-loop-number : goal.invariant-loop-number
invariant-loop-number l = with_constants l.of l.sort l.number (drop l.number l.names) ≡ with_constants l.fn.of l.sort 0 l.names
