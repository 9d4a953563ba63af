use Rattle.std.proofs.Common.{◌≡◌, ◌-◌, ◌++◌, length, min, take, replicate}
use Rattle.lil_kernel.proofs.pieces.filled.Given as goal

abbrev pub invariant-loop : goal.invariant-loop
invariant-loop l = l.piece.items ≡ replicate l.counter 32

abbrev pub invariant-loop-byte : goal.invariant-loop-byte
invariant-loop-byte l = l.piece.items ≡ replicate (min l.columns 80 - length l.text) 32 ++ take l.byte-index l.text
