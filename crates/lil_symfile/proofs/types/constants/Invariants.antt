use Rattle.std.proofs.Common.{◌≡◌, ◌-◌}
use Rattle.lil_format.specs.Reading.{many}
use Rattle.lil_format.specs.Format.{reads}
use Rattle.lil_format.specs.Names.{name}
use Rattle.lil_symfile.specs.Symbol as spec
use Rattle.lil_symfile.proofs.types.constants.Given as goal

abbrev pub invariant-loop-turn : goal.invariant-loop-turn
invariant-loop-turn l = reads spec.constants l.fn.source ≡ many (λ done. reads name) (l.count - l._turn) l.all l.source
