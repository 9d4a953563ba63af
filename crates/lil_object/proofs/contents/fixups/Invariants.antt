use Rattle.std.proofs.Common.{◌≡◌, ◌-◌}
use Rattle.lil_format.specs.Reading.{u2, many}
use Rattle.lil_format.specs.Format.{number_such, reads}
use Rattle.lil_object.specs.Object as spec
use Rattle.lil_object.proofs.contents.fixups.Given as goal

abbrev pub invariant-loop-turn : goal.invariant-loop-turn
invariant-loop-turn l =
    reads (spec.fixups l.imported l.code) l.fn.source
    ≡ many (λ done. reads (number_such u2 (spec.fixup_fits l.imported l.code done))) (l.count - l._turn) l.all l.source
