use Rattle.std.proofs.Common.{◌≡◌, ◌-◌}
use Rattle.lil_format.specs.Reading.{many}
use Rattle.lil_format.specs.Format.{reads}
use Rattle.lil_symfile.specs.Symbol as spec
use Rattle.lil_symfile.proofs.types.fields.Given as goal

abbrev pub invariant-loop-turn : goal.invariant-loop-turn
invariant-loop-turn l = record {
  read : reads (spec.fields l.kinds) l.fn.source ≡ many (λ done. reads (spec.field l.kinds (spec.field_names done))) (l.count - l._turn) l.all l.source;
  seen : l.seen ≡ spec.field_names l.all;
}
