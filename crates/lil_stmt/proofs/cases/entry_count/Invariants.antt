use Rattle.std.proofs.Common.{◌≡◌, ◌%◌, take}
use Rattle.lil_stmt.specs.Generating.{entries}
use Rattle.lil_stmt.proofs.cases.entry_count.Given as goal

abbrev pub invariant-loop-arm : goal.invariant-loop-arm
invariant-loop-arm l = l.count ≡ entries (take l.arm-index l.arms) % 65536
