use Rattle.std.proofs.Common.{◌≡◌, drop}
use Rattle.lil_table.specs.Patching.{patched}
use Rattle.lil_unit.proofs.code.link.Given as goal

-- the fixups that are left make of the code so far what all make of the code before
abbrev pub invariant-loop-place : goal.invariant-loop-place
invariant-loop-place l = patched (λ n. l.number) l.linked.items (drop l.place-index l.fixups) ≡ patched (λ n. l.number) l.code l.fixups
