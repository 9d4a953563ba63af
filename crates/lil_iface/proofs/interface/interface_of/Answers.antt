use Rattle.std.proofs.Common.{inl, inr, sym, ◌∙◌, subst}
use Rattle.std.proofs.lemmas.Bool.{both_ways}
use Rattle.std.proofs.lemmas.Result.{IfOk-weaker}
use Rattle.lil_format.specs.Format.{Fits}
use Rattle.lil_symfile.specs.Symbol.{symbol_file}
use Rattle.lil_check_unit.specs.UnitLaws.{names_speak}
use Rattle.lil_iface.specs.Iface.{HasInterfaceFault}
use Rattle.lil_iface.proofs.Told.{of_counts, of_words, interface_is}
use Rattle.lil_iface.proofs.interface.interface_of.Goals as goal

pub returns-in_err-declared-clause-least : goal.returns-in_err-declared-clause-least
returns-in_err-declared-clause-least c = names_speak c.args.u.now c.args.interfaces.now

pub returns-in_err-file-clause-least : goal.returns-in_err-file-clause-least
returns-in_err-file-clause-least c = names_speak c.args.u.now c.args.interfaces.now

pub returns-in_err-spelled-clause-least : goal.returns-in_err-spelled-clause-least
returns-in_err-spelled-clause-least c = names_speak c.args.u.now c.args.interfaces.now

pub returns-clause-least : goal.returns-clause-least
returns-clause-least c = names_speak c.args.u.now c.args.interfaces.now

pub returns-clause-right : goal.returns-clause-right
returns-clause-right c =
    IfOk-weaker c.settled.result _ _
    (λ s p. interface_is c.args.u.now c.args.interfaces.now c.in_ok-declared.ensures.right c.args.key.0 (p.0 ∙ c.in_ok-file.ensures) (subst (Fits symbol_file) (sym p.0) (c.in_ok-spelled.ensures.0 p.1)) p.2)
    c.settled.ensures.right

pub returns-clause-wrong : goal.returns-clause-wrong
returns-clause-wrong c f e =
    let p = c.settled.ensures.wrong f e in
    subst (HasInterfaceFault c.args.u.now c.args.interfaces.now c.args.key.0) (sym p.0) (elim p.1 [
      | inl none ↦ of_counts c.args.u.now c.args.interfaces.now c.in_ok-declared.ensures.right c.args.key.0 c.in_ok-file.ensures (λ h. both_ways c.in_ok-spelled.spelled none (c.in_ok-spelled.ensures.1 h))
      | inr many ↦ of_words c.args.u.now c.args.interfaces.now c.in_ok-declared.ensures.right c.args.key.0 c.in_ok-file.ensures (c.in_ok-spelled.ensures.0 many.0) many.1
    ])
