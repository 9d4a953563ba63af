use Rattle.std.proofs.Common.{◌≡◌, ◌+◌, true, map, take}
use Rattle.lil_check_unit.specs.Modules.{are_bytes}
use Rattle.lil_check_unit.proofs.assembling.bytes.Given as goal

-- the numbers so far are bytes
abbrev pub invariant-loop-number : goal.invariant-loop-number
invariant-loop-number l = (are_bytes (take l.number-index l.of) ≡ true) × (l.numbers ≡ map (λ n. n + 1) (take l.number-index l.of))
