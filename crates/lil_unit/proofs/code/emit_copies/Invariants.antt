use Rattle.std.proofs.Common.{take}
use Rattle.lil_labels.specs.Drafts.{Emits}
use Rattle.lil_unit.specs.Framing.{Copying}
use Rattle.lil_unit.proofs.code.emit_copies.Given as goal

-- the code so far is that of the parameters so far
abbrev pub invariant-loop-i : goal.invariant-loop-i
invariant-loop-i l = Emits l.fn.code l.code (Copying (take l.parameters (take l.i l.locals)))
