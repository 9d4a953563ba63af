use Rattle.std.proofs.Common.{◌≡◌, ◌-◌}
use Rattle.lil_format.specs.Reading.{many}
use Rattle.lil_format.specs.Format.{reads}
use Rattle.lil_symfile.specs.Symbol as spec
use Rattle.lil_symfile.proofs.names.names.Given as goal

abbrev pub invariant-loop-turn : goal.invariant-loop-turn
invariant-loop-turn l = record {
  read : reads (spec.names l.kinds) l.fn.source ≡ many (λ done. reads (spec.sym_name l.kinds (spec.declared_names done))) (l.count - l._turn) l.all l.source;
  seen : l.seen ≡ spec.declared_names l.all;
}
