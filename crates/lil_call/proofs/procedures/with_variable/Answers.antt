use Rattle.std.proofs.Common.{ap, ◌∙◌}
use Rattle.lil_call.specs.Procedures.{variable_statement}
use Rattle.lil_call.proofs.Steps.{is_changed}
use Rattle.lil_call.proofs.procedures.with_variable.Goals as goal

pub returns : goal.returns
returns c = is_changed c.args.t.now c.args.first c.args.of c.args.x c.both-is.result c.variable_statement-statement.result
    c.changeable-a.ensures c.shallow-b.ensures c.both-is.ensures
    (c.variable_statement-statement.ensures ∙ ap (variable_statement c.args.t.now c.args.of) c.located_in-place.ensures) c.done_if.ensures
