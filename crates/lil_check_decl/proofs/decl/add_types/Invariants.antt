use Rattle.std.proofs.Common.{◌≡◌, drop}
use Rattle.lil_check_decl.specs.Decls.{with_types_of}
use Rattle.lil_check_decl.proofs.decl.add_types.Given as goal

-- the names so far and those that are left are all
abbrev pub invariant-loop-one : goal.invariant-loop-one
invariant-loop-one l = with_types_of l.coming (drop l.one-index l.of) ≡ with_types_of l.fn.coming l.of
