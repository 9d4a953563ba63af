use Rattle.std.proofs.Common.{◌≡◌, ◌⊎◌, Result, Err, ap, inl, inr, refl}
use Rattle.lil_base.specs.declared.fault.SourceFault.{SourceFault}
use Rattle.lil_text.specs.declared.stop.ReadStop.{ReadStop, TheVariants.{Fault, Memory}}
use Rattle.lil_language.specs.declared.unit.Unit.{Unit as Tree}
use Rattle.lil_compile.proofs.Texts.{text_short, read_stopped, text_ran}
use Rattle.lil_compile.proofs.command.compile_text.Goals as goal

refused_same : {e : ReadStop} {g : SourceFault} → (r : Result Tree ReadStop) → r ≡ Err e → (r ≡ Err (Fault g)) ⊎ (r ≡ Err Memory) → (e ≡ Fault g) ⊎ (e ≡ Memory)
refused_same {e} {g} r is (inl h) = let same : e ≡ Fault g = cc in inl same
refused_same {e} r is (inr h) = let same : e ≡ Memory = cc in inr same

pub returns-in_err-unit : goal.returns-in_err-unit
returns-in_err-unit g c =
    read_stopped c.args.x.now c.args.text c.in_err-unit.ensures.apart (g.V.Volume.files c.args.volume.now) (g.V.Volume.faults c.args.volume.now)
    c.from_residual.result c.in_err-unit.field-0.0 c.from_residual.ensures.1 (λ f e. c.in_err-unit.ensures.fault f (ap Err e)) (λ f h. refused_same (Err c.in_err-unit.field-0.0) refl (c.in_err-unit.ensures.exact f h))

pub compile_unit-requires : goal.compile_unit-requires
compile_unit-requires g c = text_short c.args.text c.in_ok-unit.unit c.in_ok-unit.ensures.found

pub returns : goal.returns
returns g c =
    text_ran c.args.x.now c.args.text c.in_ok-unit.ensures.apart c.in_ok-unit.ensures.one c.in_ok-unit.unit c.in_ok-unit.ensures.found
    (g.V.Volume.files c.args.volume.now) (g.V.Volume.faults c.args.volume.now) (g.V.Volume.files c.compile_unit.new.volume) (g.V.Volume.faults c.compile_unit.new.volume) c.compile_unit.result c.compile_unit.ensures
