use Rattle.std.proofs.Common.{◌≡◌, take}
use Rattle.lil_labels.specs.Drafts.{places_of}
use Rattle.lil_labels.proofs.buffer.CodeBuffer.fixups.Given as goal

abbrev pub invariant-loop-fixup : goal.invariant-loop-fixup
invariant-loop-fixup l = l.places ≡ places_of (take l.fixup-index l.self.fixups)
