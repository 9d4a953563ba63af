use Rattle.std.proofs.Common.{◌≡◌, [], Some, take}
use Rattle.lil_report.specs.Told.{Said, walk}
use Rattle.lil_check_stmt.specs.Statements.{statement_step, guard_step, arm_step, no_arms}
use Rattle.lil_check_stmt.proofs.statements.+statement.Given as goal

abbrev pub invariant-statements-loop-one : goal.invariant-statements-loop-one
invariant-statements-loop-one l = (l.env ≡ l.fn.env) × Said (walk (statement_step l.fn.env l.fn.looping) (Some []) (take l.one-index l.fn.of)) l.fn.report l.out l.report

abbrev pub invariant-all_guards-loop-one : goal.invariant-all_guards-loop-one
invariant-all_guards-loop-one l = (l.env ≡ l.fn.env) × Said (walk (guard_step l.fn.env l.fn.looping) (Some []) (take l.one-index l.fn.of)) l.fn.report l.out l.report

abbrev pub invariant-all_arms-loop-one : goal.invariant-all_arms-loop-one
invariant-all_arms-loop-one l = (l.env ≡ l.fn.env) × Said (walk (arm_step l.fn.env l.fn.looping l.fn.kind) no_arms (take l.one-index l.fn.of)) l.fn.report l.out l.report
