use Rattle.std.proofs.Common.{◌≡◌, ◌-◌}
use Rattle.lil_format.specs.Reading.{many}
use Rattle.lil_format.specs.Format.{reads}
use Rattle.lil_object.specs.Object as spec
use Rattle.lil_object.proofs.contents.strings.Given as goal

abbrev pub invariant-loop-turn : goal.invariant-loop-turn
invariant-loop-turn l = reads (spec.strings l.words) l.fn.source ≡ many (λ done. reads (spec.string l.words)) (l.count - l._turn) l.all l.source
