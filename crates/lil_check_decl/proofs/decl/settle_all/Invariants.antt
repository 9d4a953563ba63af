use Rattle.std.proofs.Common.{take}
use Rattle.lil_report.specs.Told.{Said, walk}
use Rattle.lil_check_decl.specs.Decls.{wait_step}
use Rattle.lil_check_decl.proofs.decl.settle_all.Given as goal

abbrev pub invariant-loop-wait : goal.invariant-loop-wait
invariant-loop-wait l = Said (walk wait_step l.fn.env (take l.wait-index l.of)) l.fn.report l.env l.report
