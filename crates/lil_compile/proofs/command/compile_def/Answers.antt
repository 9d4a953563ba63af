use Rattle.std.proofs.Common.{Result, subst, arith}
use Rattle.lil_base.specs.declared.fault.Key.{Key}
use Rattle.lil_compile.specs.{declared.stop.CompileStop.CompileStop, Command.DefinitionCompiled}
use Rattle.lil_compile.specs.declared.stop.CompileStop.TheVariants.{Memory}
use Rattle.lil_compile.proofs.{Parts.err_is, Wholes.{whole_memory, file_here, read_failed, read_missed, read_text}}
use Rattle.lil_compile.proofs.command.compile_def.Goals as goal

pub returns-in_err-source : goal.returns-in_err-source
returns-in_err-source g c = record {
  compiled =
      subst (λ (r : Result Key CompileStop). DefinitionCompiled c.args.x.now (g.V.Volume.files c.args.volume.now) (g.V.Volume.faults c.args.volume.now) (g.V.Volume.files c.args.volume.now) (g.V.Volume.faults c.args.volume.now) r)
      (err_is c.from_residual.result Memory c.from_residual.ensures.1) (whole_memory c.args.x.now (g.V.Volume.files c.args.volume.now) (g.V.Volume.faults c.args.volume.now) (g.V.Volume.faults c.args.volume.now) (omega arith));
}

pub returns-in_err-read : goal.returns-in_err-read
returns-in_err-read g c = record {
  compiled = read_failed c.args.x.now c.read.ensures.same _ c.from_residual-in_err-read.result c.in_err-read.field-0.0 c.from_residual-in_err-read.ensures.1 c.in_err-read.ensures.cause;
}

pub returns-in-None : goal.returns-in-None
returns-in-None g c = record {
  compiled = read_missed c.args.x.now c.read.ensures.same c.in_ok-read.ensures.cause.quiet (file_here (g.V.Volume.files c.args.volume.now) c.in_ok-source.ensures c.in-None.is c.in_ok-read.ensures.found);
}

pub returns : goal.returns
returns g c = record {
  compiled =
      read_text c.args.x.now c.read.ensures.same c.in_ok-read.ensures.cause.quiet c.in-Some.text (file_here (g.V.Volume.files c.args.volume.now) c.in_ok-source.ensures c.in-Some.is c.in_ok-read.ensures.found)
      (g.V.Volume.files c.compile_text.new.volume) (g.V.Volume.faults c.compile_text.new.volume) c.compile_text.result c.compile_text.ensures;
}
