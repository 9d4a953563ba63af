use Rattle.std.proofs.Common.{Err, inl, inr, refl, sym, ap, subst}
use Rattle.lil_imports.specs.{Laws.has_interfaces, Ran.Found}
use Rattle.lil_compile.specs.{Compiled.Compiled, Layers.IsOver}
use Rattle.lil_compile.proofs.Parts.{part_imported, part_stopped, ran_behind}
use Rattle.lil_compile.proofs.command.compile_over.Goals as goal

pub returns-in_err-gathered : goal.returns-in_err-gathered
returns-in_err-gathered g c =
    let ran = c.in_err-gathered.ensures in
    part_imported _ _ (g.V.Volume.files c.args.volume.now) (g.V.Volume.faults c.args.volume.now) (g.V.Volume.files c.gather.new.volume) (g.V.Volume.faults c.gather.new.volume)
    c.from_residual.result c.in_err-gathered.field-0.0 c.from_residual.ensures.1
    (λ f e. (c.requires.named, inl (ran.wrong f (ap Err e)))) ran.same ran.later (λ e. ran.failed (ap Err e)) ran.quiet

pub prepare-requires-clause-imported : goal.prepare-requires-clause-imported
prepare-requires-clause-imported g c = has_interfaces c.args.u.now (Found (g.V.Volume.files c.args.volume.now)) c.in_ok-gathered.gathered (c.in_ok-gathered.ensures.right c.in_ok-gathered.gathered refl)

pub returns-in_err-made : goal.returns-in_err-made
returns-in_err-made g c =
    let ran = c.in_ok-gathered.ensures in
    part_stopped _ _ (g.V.Volume.files c.args.volume.now) (g.V.Volume.faults c.args.volume.now) (g.V.Volume.files c.gather.new.volume) (g.V.Volume.faults c.gather.new.volume)
    c.from_residual-in_err-made.result c.in_err-made.field-0.0 c.from_residual-in_err-made.ensures.1
    (λ f e. (c.requires.named, inr (c.in_ok-gathered.gathered, ran.right c.in_ok-gathered.gathered refl, c.in_err-made.ensures.wrong f (ap Err e))))
    ran.same (ran.quiet refl)

pub returns : goal.returns
returns g c =
    let ran = c.in_ok-gathered.ensures in
    ran_behind ran.same (ran.quiet refl)
    (λ d is. (c.in_ok-gathered.gathered, ran.right c.in_ok-gathered.gathered refl, subst (λ (e : Compiled). IsOver c.args.x.now c.args.text c.args.u.now c.in_ok-gathered.gathered.interfaces c.args.of e) (sym is) c.in_ok-made.ensures.right))
    (λ f e. absurd e) c.store.ensures
