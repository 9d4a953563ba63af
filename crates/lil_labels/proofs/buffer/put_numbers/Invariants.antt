use Rattle.std.proofs.Common.{◌≡◌, length, drop}
use Rattle.lil_labels.specs.{Drafts.{AreWithin, numbered}, Fixing.as_said}
use Rattle.lil_labels.proofs.buffer.put_numbers.Given as goal

-- the fixups that are left make of the code so far what all make of the code before
abbrev pub invariant-loop-fixup : goal.invariant-loop-fixup
invariant-loop-fixup l = record {
  same : numbered as_said l.code.items (drop l.fixup-index l.fixups) ≡ numbered as_said l.fn.code.items l.fixups;
  inside : AreWithin (length l.code.items) (drop l.fixup-index l.fixups);
}
