use Rattle.std.proofs.Common.{◌≡◌, [], drop, map}
use Rattle.lil_check_decl.specs.Decls.{decl_sense, with_types_in}
use Rattle.lil_check_decl.proofs.decl.coming_of.Given as goal

-- the names so far and those that are left are all
abbrev pub invariant-loop-one : goal.invariant-loop-one
invariant-loop-one l = with_types_in l.coming (map decl_sense (drop l.one-index l.of)) ≡ with_types_in [] (map decl_sense l.of)
