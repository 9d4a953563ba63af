use Rattle.std.proofs.Common.{Err, inr}
use Rattle.lil_compile.specs.declared.stop.CompileStop.TheVariants.{Memory}
use Rattle.lil_session.proofs.Defining.{memory_of, not_compiled}
use Rattle.lil_session.proofs.definition.report_compile.Goals as goal

pub returns-in-Err-clause-definition : goal.returns-in-Err-clause-definition
returns-in-Err-clause-definition g c = λ name is. record {
  outcome = Err Memory;
  compiled = not_compiled name (g.V.Volume.files c.args.volume.now) (g.V.Volume.faults c.args.volume.now);
  told = inr (memory_of c.write_report.ensures.written);
}
