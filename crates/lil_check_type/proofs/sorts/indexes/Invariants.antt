use Rattle.std.proofs.Common.{ℕ, List, [], Option, take}
use Rattle.lil_report.specs.Told.{Said, walk}
use Rattle.lil_scope.specs.declared.env.Env.{Env}
use Rattle.lil_check_type.specs.Sorts.{index_step}
use Rattle.lil_check_type.proofs.sorts.indexes.Given as goal

abbrev pub invariant-loop-one : goal.invariant-loop-one
invariant-loop-one l = Said {A = Env × List (Option ℕ)} (walk index_step (l.fn.env, []) (take l.one-index l.of)) l.fn.report (l.env, l.sorts.items) l.report
