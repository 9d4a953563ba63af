use Rattle.std.proofs.Common.{inl, refl, arith}
use Rattle.lil_session.specs.{declared.status.Status.TheVariants.Memory, Words.name_of_word, Outcome.devices}
use Rattle.lil_session.proofs.Doing.{ran_not}
use Rattle.lil_session.proofs.text_run.run_once.Goals as goal

pub returns-in-Err : goal.returns-in-Err
returns-in-Err g c =
    let before = devices g.V.Volume.files g.V.Volume.faults g.K.Keyboard.left g.K.Keyboard.faults g.S.Sink.written g.S.Sink.faults c.args.volume.now c.args.keys.now c.args.screen.now in
    ran_not (name_of_word c.args.word.now) c.args.steps before (g.V.Volume.files c.args.volume.now) (g.V.Volume.faults c.args.volume.now) Memory (inl refl) refl (omega arith) (inl refl)
