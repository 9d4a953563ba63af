use Rattle.std.proofs.Common.{◌≡◌, ◌-◌}
use Rattle.lil_format.specs.Reading.{many}
use Rattle.lil_format.specs.Format.{reads}
use Rattle.lil_object.specs.Object as spec
use Rattle.lil_object.proofs.contents.procedures.Given as goal

abbrev pub invariant-loop-turn : goal.invariant-loop-turn
invariant-loop-turn l = reads spec.procedures l.fn.source ≡ many (λ done. reads (spec.procedure done)) (l.count - l._turn) l.all l.source
