use Rattle.lil_labels.proofs.Instructions.{sayable_in}
use Rattle.lil_labels.proofs.buffer.CodeBuffer.put_all.Goals as goal

pub put-requires : goal.put-requires
put-requires c = sayable_in c.args.instrs.now c.loop-instr.instr-index _ c.loop-instr-test.true c.requires
