use Rattle.std.proofs.Common.{◌≡◌, ◌≢◌, ℕ, ◌+◌, ◌-◌, Option, Some, None, Ok, refl, sym, ap, subst, ◌∙◌, arith}
use Rattle.lil_mcode.specs.{Table.State, Calls.Machine, Stops.{IsStop, stop_stays}}
use Rattle.lil_session.specs.{declared.run.Ending.Ending, Running.finish_of}
use Rattle.lil_session.specs.declared.run.Ending.TheVariants as ending
use Rattle.lil_session.proofs.Turns.{Come, on_err, come_first, come_next, come_gone, run_ends, run_spent, run_cut, ending_over, ap_some, step_as, step_goes, is_none}
use Rattle.lil_session.proofs.run.run_machine.Goals as goal

pub loop-left-init : goal.loop-left-init
loop-left-init g c =
    let s = c.args.machine.now.state in
    let old = g.S.Sink.written c.args.screen.now in
    let none : 0 ≡ c.args.steps - c.args.steps = omega arith in
    record {
      within = omega arith;
      quiet = refl;
      come = λ w e. subst (λ (k : ℕ). Come s s k old old w) none (come_first s old w e);
    }

pub returns-in_err-end-clause-cut : goal.returns-in_err-end-clause-cut
returns-in_err-end-clause-cut g c =
    let from = c.args.machine.now.state in
    let s = c.loop-left.machine.state in
    let old = g.S.Sink.written c.args.screen.now in
    let mid = g.S.Sink.written c.loop-left.screen in
    let k = c.args.steps - c.loop-left.left in
    let ran = c.run-event.ensures.ran in
    on_err c.from_residual.result
    (λ w e.
    run_cut from ran.before (k + ran.others) c.args.steps old mid (g.S.Sink.written c.answered.new.screen) w
    (omega (arith, ran.count, c.run-event.ensures.within, c.loop-left.invariant.within))
    (come_gone from s ran.before k ran.others old mid w (c.loop-left.invariant.come w e) ran.came) (c.in_err-end.ensures.refused ran.before ran.last))

pub returns-in-Some-clause-ran : goal.returns-in-Some-clause-ran
returns-in-Some-clause-ran g c =
    λ w e.
    let from = c.args.machine.now.state in
    let s = c.loop-left.machine.state in
    let t = c.answered.new.machine.state in
    let old = g.S.Sink.written c.args.screen.now in
    let mid = g.S.Sink.written c.loop-left.screen in
    let new = g.S.Sink.written c.answered.new.screen in
    let k = c.args.steps - c.loop-left.left in
    let ran = c.run-event.ensures.ran in
    let differs : Some c.in-Some.end ≢ Some ending.Spent = ap_some c.in_ok-end.field-0 c.in-Some.end c.in-Some.is c.in_ok-end.ensures.unspent in
    run_ends from ran.before t (k + ran.others) c.args.steps (finish_of c.in-Some.end) old mid new w
    (omega (arith, ran.count, c.run-event.ensures.within, c.loop-left.invariant.within)) (ending_over c.in-Some.end differs)
    (come_gone from s ran.before k ran.others old mid w (c.loop-left.invariant.come w e) ran.came)
    (step_as c.in_ok-end.field-0 c.in-Some.end c.in-Some.is ran.before t mid new (c.in_ok-end.ensures.step ran.before ran.last))

pub loop-left-preserved : goal.loop-left-preserved
loop-left-preserved g c =
    let from = c.args.machine.now.state in
    let s = c.loop-left.machine.state in
    let t = c.answered.new.machine.state in
    let old = g.S.Sink.written c.args.screen.now in
    let mid = g.S.Sink.written c.loop-left.screen in
    let new = g.S.Sink.written c.answered.new.screen in
    let k = c.args.steps - c.loop-left.left in
    let ran = c.run-event.ensures.ran in
    let none : c.in_ok-end.field-0 ≡ None = is_none c.in_ok-end.field-0 c.in_default.not-Some in
    let far : k + ran.others + 1 ≡ c.args.steps - (c.loop-left.left - c.run-event.result.1) = omega (arith, ran.count, c.run-event.ensures.within, c.loop-left.invariant.within) in
    record {
      within = omega (arith, c.loop-left.invariant.within);
      quiet = c.in_ok-end.ensures.cause.quiet ∙ c.loop-left.invariant.quiet;
      come = λ w e.
          subst (λ (n : ℕ). Come from t n old new w) far
          (come_next from ran.before t (k + ran.others) old mid new w
          (come_gone from s ran.before k ran.others old mid w (c.loop-left.invariant.come w e) ran.came)
          (step_goes c.in_ok-end.field-0 none ran.before t mid new (c.in_ok-end.ensures.step ran.before ran.last)));
    }

pub returns-clause-ran : goal.returns-clause-ran
returns-clause-ran g c =
    λ w e.
    let k = c.args.steps - c.loop-left.left in
    run_spent c.args.machine.now.state c.loop-left.machine.state k c.args.steps (g.S.Sink.written c.args.screen.now) (g.S.Sink.written c.loop-left.screen) w
    (omega (arith, c.loop-left.invariant.within, c.loop-left-test.false)) (c.loop-left.invariant.come w e)

-- a trap changes nothing, so the module looked at last is the one that runs
pub returns-in-Some-clause-at : goal.returns-in-Some-clause-at
returns-in-Some-clause-at g c = λ k e.
    let looked = c.in_ok-end.ensures.at k (ap (λ (o : Option Ending). Ok o) (c.in-Some.is ∙ ap (λ (x : Ending). Some x) e)) in
    let ran = c.run-event.ensures.ran in
    let stopped : c.run-event.new.self.state ≡ ran.before = stop_stays ran.before c.run-event.new.self.state c.run-event.result.0 ran.last (subst IsStop (sym looked.0) tt) in (
      ap (λ (m : Machine). m.at_module) looked.1 ∙ ran.in_module ∙ ap (λ (s : State). s.running) (sym stopped) ∙ ap (λ (m : Machine). m.state.running) (sym looked.1),
      ap (λ (m : Machine). m.at_place) looked.1 ∙ ran.at ∙ ap (λ (s : State). s.place) (sym stopped) ∙ ap (λ (m : Machine). m.state.place) (sym looked.1),
    )
