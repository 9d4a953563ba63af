use Rattle.std.proofs.Common.{sym, subst}
use Rattle.lil_resolved.specs.Views.{module_of}
use Rattle.lil_session.specs.{Answered.Carried, Outcome.coded}
use Rattle.lil_session.proofs.Faulty.{carried_ungenerated, coded_short}
use Rattle.lil_session.proofs.text_run.run_module.Goals as goal

pub returns-in-Err : goal.returns-in-Err
returns-in-Err g c =
    subst (λ s. Carried (coded c.args.name (module_of c.args.m.now)) c.args.steps (g.S.Sink.written c.args.screen.now) (g.S.Sink.faults c.args.screen.now) (g.S.Sink.written c.args.screen.now) (g.S.Sink.faults c.args.screen.now) s) (sym c.not_generated.ensures)
    (carried_ungenerated c.args.name (module_of c.args.m.now) c.generate_alone.result c.in-Err.stop c.in-Err.is c.generate_alone.ensures.too_long c.args.steps (g.S.Sink.written c.args.screen.now) (g.S.Sink.faults c.args.screen.now))

pub returns-in-Ok : goal.returns-in-Ok
returns-in-Ok g c =
    let e = c.run_program.ensures in
    subst (λ v. Carried v c.args.steps (g.S.Sink.written c.args.screen.now) (g.S.Sink.faults c.args.screen.now) (g.S.Sink.written c.run_program.new.screen) (g.S.Sink.faults c.run_program.new.screen) c.run_program.result)
    (sym (coded_short c.args.name (module_of c.args.m.now) c.in-Ok.ensures.short))
    (record { shows = e.shows; answer = e.answer; kinds = e.kinds; cause = e.cause; told = e.told })
