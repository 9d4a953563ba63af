use Rattle.std.proofs.Common.{◌≡◌, ◌-◌}
use Rattle.lil_format.specs.Reading.{many}
use Rattle.lil_format.specs.Format.{reads}
use Rattle.lil_format.specs.Names.{wanted}
use Rattle.lil_object.specs.Object as spec
use Rattle.lil_object.proofs.head.imports.Given as goal

abbrev pub invariant-loop-turn : goal.invariant-loop-turn
invariant-loop-turn l = reads spec.imports l.fn.source ≡ many (λ done. reads wanted) (l.count - l._turn) l.all l.source
