use Rattle.std.proofs.Common.{sym, ◌∙◌}
use Rattle.std.proofs.lemmas.Result.{IfOk-weaker}
use Rattle.lil_check_unit.proofs.modules.with_data.Goals as goal

pub returns-in-Some-clause-wrong : goal.returns-in-Some-clause-wrong
returns-in-Some-clause-wrong c f e =
    let as_told = c.told.ensures in
    (c.in-Some.fault, sym c.data_fault.ensures ∙ c.in-Some.is, cc)
