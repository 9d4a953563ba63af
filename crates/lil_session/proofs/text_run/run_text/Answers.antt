use Rattle.std.proofs.Common.{◌≡◌, ◌⊎◌, List, ℕ, Result, Ok, Err, IfOk, subst, sym, ap, ◌∙◌, inl, inr}
use Rattle.lil_text.specs.declared.stop.ReadStop.{ReadStop, TheVariants.{Fault, Memory}}
use Rattle.lil_base.specs.declared.fault.SourceFault.{SourceFault}
use Rattle.lil_language.specs.{Units.Reads, declared.unit.Unit.Unit as Tree}
use Rattle.lil_session.specs.Answered.{TextRan}
use Rattle.lil_session.proofs.Faulty.{text_stopped, text_carried}
use Rattle.lil_session.proofs.text_run.run_text.Goals as goal

refused_same : {e : ReadStop} {g : SourceFault} → (r : Result Tree ReadStop) → r ≡ Err e → (r ≡ Err (Fault g)) ⊎ (r ≡ Err Memory) → (e ≡ Fault g) ⊎ (e ≡ Memory)
refused_same {e} {g} r is (inl h) = let same : e ≡ Fault g = cc in inl same
refused_same {e} r is (inr h) = let same : e ≡ Memory = cc in inr same

pub returns-in-Err : goal.returns-in-Err
returns-in-Err g c =
    subst (λ s. TextRan c.args.name.now c.args.text.now c.args.steps (g.S.Sink.written c.args.screen.now) (g.S.Sink.faults c.args.screen.now) (g.S.Sink.written c.args.screen.now) (g.S.Sink.faults c.args.screen.now) s) (sym c.stopped.ensures)
    (text_stopped c.args.name.now c.args.text.now c.read.ensures.apart c.args.steps (g.S.Sink.written c.args.screen.now) (g.S.Sink.faults c.args.screen.now) c.in-Err.stop
    (λ f e. c.read.ensures.fault f (c.in-Err.is ∙ ap (λ e. Err e) e)) (λ g h. refused_same c.read.result c.in-Err.is (c.read.ensures.exact g h)))

-- the unit that was read
read_unit : {text : List ℕ} {u : Tree} (r : Result Tree ReadStop) → r ≡ Ok u → IfOk r (λ u. Reads text u) → Reads text u
read_unit {text = text} r is found = subst (λ r. IfOk r (λ u. Reads text u)) is found

pub returns-in-Ok : goal.returns-in-Ok
returns-in-Ok g c =
    text_carried c.args.name.now c.args.text.now c.read.ensures.apart c.args.steps (g.S.Sink.written c.args.screen.now) (g.S.Sink.faults c.args.screen.now)
    c.read.ensures.one c.in-Ok.unit (read_unit c.read.result c.in-Ok.is c.read.ensures.found) (g.S.Sink.written c.run_unit.new.screen) (g.S.Sink.faults c.run_unit.new.screen) c.run_unit.result c.run_unit.ensures
