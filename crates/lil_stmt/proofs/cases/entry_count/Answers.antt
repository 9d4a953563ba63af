use Rattle.std.proofs.Common.{arith}
use Rattle.lil_stmt.proofs.Stating.{entries_next}
use Rattle.lil_stmt.proofs.cases.entry_count.Goals as goal

pub loop-arm-preserved : goal.loop-arm-preserved
loop-arm-preserved c = omega (arith, entries_next c.args.arms.now c.loop-arm.arm-index c.arm-item.result c.loop-arm-test.true c.arm-item.is, c.loop-arm.invariant, c.len.ensures)
