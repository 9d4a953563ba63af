use Rattle.std.proofs.Common.{◌≡◌, drop}
use Rattle.lil_language.specs.Units as spec
use Rattle.lil_read_unit.proofs.ends.+ends.Given as goal

abbrev pub invariant-with_decls-loop-decl : goal.invariant-with_decls-loop-decl
invariant-with_decls-loop-decl l = spec.least l.fn.found (spec.all_ends l.decls) ≡ spec.least l.least (spec.all_ends (drop l.decl-index l.decls))
