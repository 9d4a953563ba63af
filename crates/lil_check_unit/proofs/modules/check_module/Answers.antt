use Rattle.std.proofs.Common.{sym, subst, ◌∙◌}
use Rattle.std.proofs.lemmas.{Option.same_Some, Result.IfOk-weaker}
use Rattle.lil_check_unit.specs.UnitLaws.{unit_speaks}
use Rattle.lil_check_unit.proofs.{Kept.{module_kept, procedures_kept}, Right.{made_there, unit_there}, UnitFaults.{wrong_unit, module_is, then_last}}
use Rattle.lil_check_unit.proofs.modules.check_module.Goals as goal
use Rattle.lil_resolved.specs.{Sound.IsSound, Views.module_of as resolved_of}

pub with_data-requires : goal.with_data-requires
with_data-requires c none =
    let of = c.in-Ok.ensures.right in
    let m = made_there c.args.u.now c.requires.residents of.0 of.1 of.2 of.3 none in (m.0, m.1)

pub returns-in-Ok-clause-right : goal.returns-in-Ok-clause-right
returns-in-Ok-clause-right c =
    let u = c.args.u.now in
    let is = c.args.interfaces.now in
    let of = c.in-Ok.ensures.right in
    IfOk-weaker c.with_data.result _ _ (λ m p. (p.0 ∙ module_is u is of.0 of.1, then_last u is of.0 of.1 of.2 of.3 ∙ p.1)) c.with_data.ensures.right

pub returns-in-Ok-clause-there : goal.returns-in-Ok-clause-there
returns-in-Ok-clause-there c = unit_there c.args.u.now c.requires.residents

pub returns-in-Ok-clause-kept : goal.returns-in-Ok-clause-kept
returns-in-Ok-clause-kept c = IfOk-weaker c.with_data.result _ _ (λ m made. module_kept c.args.u.now c.args.interfaces.now c.in-Ok.ensures.right.1 made) c.with_data.ensures.body

pub returns-in-Ok-clause-all_kept : goal.returns-in-Ok-clause-all_kept
returns-in-Ok-clause-all_kept c = IfOk-weaker c.with_data.result _ _ (λ m made. procedures_kept c.args.u.now c.args.interfaces.now m.procedures c.in-Ok.ensures.right.1 made) c.with_data.ensures.bodies

pub returns-in-Ok-clause-sound : goal.returns-in-Ok-clause-sound
returns-in-Ok-clause-sound c =
    let of = c.in-Ok.ensures.right in
    IfOk-weaker c.with_data.result _ _ (λ m p. let made = made_there c.args.u.now c.requires.residents of.0 of.1 of.2 of.3 p.1 in subst IsSound (same_Some made.0 (resolved_of m) (sym made.1 ∙ sym p.0)) made.2) c.with_data.ensures.right

pub returns-in-Ok-clause-wrong : goal.returns-in-Ok-clause-wrong
returns-in-Ok-clause-wrong c f e =
    let of = c.in-Ok.ensures.right in
    let p = c.with_data.ensures.wrong f e in
    (p.0, then_last c.args.u.now c.args.interfaces.now of.0 of.1 of.2 of.3 ∙ p.1, p.2)

pub returns-in-Ok-clause-least : goal.returns-in-Ok-clause-least
returns-in-Ok-clause-least c = unit_speaks c.args.u.now c.args.interfaces.now

pub returns-in-Err-clause-there : goal.returns-in-Err-clause-there
returns-in-Err-clause-there c = unit_there c.args.u.now c.requires.residents

pub returns-in-Err-clause-wrong : goal.returns-in-Err-clause-wrong
returns-in-Err-clause-wrong c f e =
    let p = c.in-Err.ensures.wrong f (cc) in
    (p.0, wrong_unit c.args.u.now c.args.interfaces.now p.1, p.2)

pub returns-in-Err-clause-least : goal.returns-in-Err-clause-least
returns-in-Err-clause-least c = unit_speaks c.args.u.now c.args.interfaces.now
