use Rattle.std.proofs.Common.{◌≡◌, length, drop}
use Rattle.lil_labels.specs.Drafts.{AreInside, written, settled_word}
use Rattle.lil_labels.proofs.buffer.CodeBuffer.settle.Given as goal

-- the jumps that are left make of the code so far what all make of the bytes
abbrev pub invariant-loop-jump : goal.invariant-loop-jump
invariant-loop-jump l = record {
  same : written (settled_word l.self.places) l.code.items (drop l.jump-index l.self.jumps) ≡ written (settled_word l.self.places) l.self.bytes l.self.jumps;
  inside : AreInside (length l.code.items) (drop l.jump-index l.self.jumps);
}
