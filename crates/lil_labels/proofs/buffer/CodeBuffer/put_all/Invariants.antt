use Rattle.std.proofs.Common.{drop}
use Rattle.lil_labels.specs.Drafts.{Emits}
use Rattle.lil_labels.proofs.Instructions.{Expecting}
use Rattle.lil_labels.proofs.buffer.CodeBuffer.put_all.Given as goal

-- with the instructions that are left behind it, the code so far is that of all
abbrev pub invariant-loop-instr : goal.invariant-loop-instr
invariant-loop-instr l = Emits l.initial.self l.self (Expecting (drop l.instr-index l.instrs) l.instrs)
