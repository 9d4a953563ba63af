use Rattle.std.proofs.Common.{inl, inr, Some, refl}
use Rattle.lil_session.specs.{declared.status.Status.TheVariants.{Memory, VolumeFault}, Words.mod_file, Outcome.devices}
use Rattle.lil_session.proofs.Doing.{ran_not, source_ran, file_read, failed_rises, quiet_of}
use Rattle.lil_session.proofs.text_run.run_source.Goals as goal

pub returns-in-Err-Failed : goal.returns-in-Err-Failed
returns-in-Err-Failed g c =
    let before = devices g.V.Volume.files g.V.Volume.faults g.K.Keyboard.left g.K.Keyboard.faults g.S.Sink.written g.S.Sink.faults c.args.volume.now c.args.keys.now c.args.screen.now in
    ran_not (Some c.args.name.now) c.args.steps before (g.V.Volume.files c.read.new.self) (g.V.Volume.faults c.read.new.self) VolumeFault
    (inr (refl, failed_rises c.in-Err-Failed.is c.in-Err-Failed.field-0-is c.read.ensures.cause)) c.read.ensures.same c.read.ensures.cause.later (inr (c.args.name.now, refl))

pub returns-in-Err-Memory : goal.returns-in-Err-Memory
returns-in-Err-Memory g c =
    let before = devices g.V.Volume.files g.V.Volume.faults g.K.Keyboard.left g.K.Keyboard.faults g.S.Sink.written g.S.Sink.faults c.args.volume.now c.args.keys.now c.args.screen.now in
    ran_not (Some c.args.name.now) c.args.steps before (g.V.Volume.files c.read.new.self) (g.V.Volume.faults c.read.new.self) Memory
    (inl refl) c.read.ensures.same c.read.ensures.cause.later (inr (c.args.name.now, refl))

pub returns : goal.returns
returns g c =
    let before = devices g.V.Volume.files g.V.Volume.faults g.K.Keyboard.left g.K.Keyboard.faults g.S.Sink.written g.S.Sink.faults c.args.volume.now c.args.keys.now c.args.screen.now in
    source_ran c.args.name.now c.in-Ok-Some.text c.args.steps before (g.V.Volume.files c.read.new.self) (g.V.Volume.faults c.read.new.self) (g.S.Sink.written c.run_text.new.screen) (g.S.Sink.faults c.run_text.new.screen) c.run_text.result
    (file_read (g.V.Volume.files c.args.volume.now) c.in-Ok.file (mod_file c.args.name.now) c.in-Ok-Some.field-0 c.in-Ok-Some.text c.in-Ok-Some.text c.in-Ok.ensures c.in-Ok-Some.field-0-is refl c.in-Ok-Some.ensures.found)
    c.read.ensures.same (quiet_of c.in-Ok-Some.is c.read.ensures.cause) c.run_text.ensures
