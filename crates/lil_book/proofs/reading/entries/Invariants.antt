use Rattle.std.proofs.Common.{◌≡◌, ◌-◌}
use Rattle.lil_format.specs.Reading.{many}
use Rattle.lil_format.specs.Format.{reads}
use Rattle.lil_book.specs.Book as spec
use Rattle.lil_book.proofs.reading.entries.Given as goal

abbrev pub invariant-loop-turn : goal.invariant-loop-turn
invariant-loop-turn l = reads spec.entries l.fn.source ≡ many (λ done. reads spec.entry) (l.count - l._turn) l.all l.source
