use Rattle.std.proofs.Common.{◌≡◌, take}
use Rattle.lil_report.specs.Told.{Said, walk}
use Rattle.lil_check_stmt.specs.{Stmts.body_step, Texts.texts}
use Rattle.lil_check_stmt.proofs.stmt.+bodies.Given as goal

abbrev pub invariant-declarations-loop-one : goal.invariant-declarations-loop-one
invariant-declarations-loop-one l = (l.env ≡ l.fn.env) × Said (walk (body_step l.fn.env) l.fn.before (texts (take l.one-index l.fn.of))) l.fn.report l.out l.report
