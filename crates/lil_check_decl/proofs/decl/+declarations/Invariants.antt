use Rattle.std.proofs.Common.{take}
use Rattle.lil_report.specs.Told.{Said, walk}
use Rattle.lil_check_decl.specs.Decls.{decl_step}
use Rattle.lil_check_decl.proofs.decl.+declarations.Given as goal

abbrev pub invariant-each_decl-loop-one : goal.invariant-each_decl-loop-one
invariant-each_decl-loop-one l = Said (walk decl_step l.fn.env (take l.one-index l.fn.of)) l.fn.report l.env l.report
