use Rattle.std.proofs.Common.{refl, ap}
use Rattle.lil_mcode.specs.{declared.machine.Event.TheVariants.{Went, Request, LevelEnded, Trap, Limit, BadCode}, Calls.Machine, Requests.request_has}
use Rattle.lil_match.specs.Running.{Running, Finished, TrappedBy, Limited, Broken}
use Rattle.lil_session.proofs.{Advancing.{step_quiet, step_left, step_writes, step_refused, as_event}, Turns.on_err}
use Rattle.lil_session.proofs.run.answered.Goals as goal

pub serve-requires : goal.serve-requires
serve-requires g c =
    let t = c.args.machine.now.state in
    request_has c.requires.0 t c.in-Request.request (as_event c.requires.0 t c.args.event (Request c.in-Request.request) c.requires.1 c.in-Request.is)

pub returns-in-Went-clause-step : goal.returns-in-Went-clause-step
returns-in-Went-clause-step g c = λ u h.
    let t = c.args.machine.now.state in
    step_quiet u t Went Running (g.S.Sink.written c.args.screen.now) (as_event u t c.args.event Went h c.in-Went.is) (λ w. refl)

pub returns-in-LevelEnded-clause-step : goal.returns-in-LevelEnded-clause-step
returns-in-LevelEnded-clause-step g c = λ u h.
    let t = c.args.machine.now.state in
    step_left u t LevelEnded Finished (g.S.Sink.written c.args.screen.now) (as_event u t c.args.event LevelEnded h c.in-LevelEnded.is) (λ w. refl)

pub returns-in-Trap-clause-step : goal.returns-in-Trap-clause-step
returns-in-Trap-clause-step g c = λ u h.
    let t = c.args.machine.now.state in
    step_left u t (Trap c.in-Trap.kind) (TrappedBy c.in-Trap.kind) (g.S.Sink.written c.args.screen.now) (as_event u t c.args.event (Trap c.in-Trap.kind) h c.in-Trap.is) (λ w. refl)

pub returns-in-Limit-clause-step : goal.returns-in-Limit-clause-step
returns-in-Limit-clause-step g c = λ u h.
    let t = c.args.machine.now.state in
    step_quiet u t (Limit c.in-Limit.kind) (Limited c.in-Limit.kind) (g.S.Sink.written c.args.screen.now) (as_event u t c.args.event (Limit c.in-Limit.kind) h c.in-Limit.is) (λ w. refl)

pub returns-in-BadCode-clause-step : goal.returns-in-BadCode-clause-step
returns-in-BadCode-clause-step g c = λ u h.
    let t = c.args.machine.now.state in
    step_quiet u t BadCode Broken (g.S.Sink.written c.args.screen.now) (as_event u t c.args.event BadCode h c.in-BadCode.is) (λ w. refl)

pub returns-in_ok-serve-in-Request-clause-step : goal.returns-in_ok-serve-in-Request-clause-step
returns-in_ok-serve-in-Request-clause-step g c = λ u h.
    let t = c.args.machine.now.state in
    let q = c.in-Request.request in
    let step = as_event u t c.args.event (Request q) h c.in-Request.is in
    step_writes u t c.serve.new.machine.state q (g.S.Sink.written c.args.screen.now) (g.S.Sink.written c.serve.new.screen) step
    (ap (λ (m : Machine). m.state) c.serve.ensures.machine) c.in_ok-serve-in-Request.ensures.ok

pub returns-in_err-serve-in-Request-clause-refused : goal.returns-in_err-serve-in-Request-clause-refused
returns-in_err-serve-in-Request-clause-refused g c =
    on_err c.from_residual.result
    (λ u h.
    let t = c.args.machine.now.state in
    let q = c.in-Request.request in
    let step = as_event u t c.args.event (Request q) h c.in-Request.is in
    step_refused u t q (g.S.Sink.written c.args.screen.now) (g.S.Sink.written c.serve.new.screen) step
    c.in_err-serve-in-Request.ensures.err)
