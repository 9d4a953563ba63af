use Rattle.std.proofs.Common.{◌≡◌, ◌-◌}
use Rattle.lil_format.specs.Reading.{many}
use Rattle.lil_format.specs.Format.{reads}
use Rattle.lil_symfile.specs.Kinds.{kinds}
use Rattle.lil_symfile.specs.Symbol as spec
use Rattle.lil_symfile.proofs.types.types.Given as goal

abbrev pub invariant-loop-turn : goal.invariant-loop-turn
invariant-loop-turn l = record {
  read : reads (spec.types l.rested) l.fn.source ≡ many (λ done. reads (spec.sym_type l.rested l.count (kinds done))) (l.count - l._turn) l.all l.source;
  kinds : l.kinds ≡ kinds l.all;
}
