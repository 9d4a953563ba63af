use Rattle.std.specs.Prelude.{◌≡◌}
use Rattle.lil_mcode.specs.Table.{frame_out}
use Rattle.lil_mcode.proofs.processor.Processor.outer_frame.Given as goal

abbrev pub invariant-loop-k : goal.invariant-loop-k
invariant-loop-k l = l.frame ≡ frame_out l.fn.self.store l.fn.self.frame l.k
