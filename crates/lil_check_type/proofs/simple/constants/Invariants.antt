use Rattle.std.proofs.Common.{ℕ, take}
use Rattle.lil_report.specs.Told.{Said, walk}
use Rattle.lil_scope.specs.declared.env.Env.{Env}
use Rattle.lil_check_type.specs.Simple.{constant_step}
use Rattle.lil_check_type.proofs.simple.constants.Given as goal

abbrev pub invariant-loop-name : goal.invariant-loop-name
invariant-loop-name l = Said {A = Env × ℕ} (walk (constant_step l.sort) (l.fn.env, 0) (take l.name-index l.names)) l.fn.report (l.env, l.word) l.report
