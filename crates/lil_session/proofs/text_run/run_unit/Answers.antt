use Rattle.std.proofs.Common.{Err, subst, sym, ap, ◌∙◌}
use Rattle.lil_session.specs.{Answered.Carried, Outcome.says}
use Rattle.lil_session.proofs.Faulty.{carried_stopped, carried_checked}
use Rattle.lil_session.proofs.text_run.run_unit.Goals as goal

pub returns-in-Err : goal.returns-in-Err
returns-in-Err g c =
    subst (λ s. Carried (says c.args.file.now c.args.unit.now) c.args.steps (g.S.Sink.written c.args.screen.now) (g.S.Sink.faults c.args.screen.now) (g.S.Sink.written c.args.screen.now) (g.S.Sink.faults c.args.screen.now) s) (sym c.stopped.ensures)
    (carried_stopped c.args.file.now c.args.unit.now c.check_program.ensures.there c.in-Err.stop (λ f e. c.check_program.ensures.wrong f (c.in-Err.is ∙ ap (λ e. Err e) e)) c.args.steps (g.S.Sink.written c.args.screen.now) (g.S.Sink.faults c.args.screen.now))

pub returns-in-Ok : goal.returns-in-Ok
returns-in-Ok g c =
    carried_checked c.args.file.now c.args.unit.now c.check_program.result c.in-Ok.m c.in-Ok.is c.check_program.ensures.right
    c.args.steps (g.S.Sink.written c.args.screen.now) (g.S.Sink.faults c.args.screen.now) (g.S.Sink.written c.run_module.new.screen) (g.S.Sink.faults c.run_module.new.screen) c.run_module.result c.run_module.ensures
