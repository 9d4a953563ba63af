use Rattle.std.proofs.Common.{◌&&◌, ap, ◌∙◌}
use Rattle.lil_call.specs.Procedures.{operand_statement}
use Rattle.lil_call.proofs.Steps.{is_joined}
use Rattle.lil_call.proofs.procedures.with_operand.Goals as goal

pub returns : goal.returns
returns c = is_joined c.args.t.now c.args.first c.args.of c.args.x c.args.y c.both-is.result c.max-depth.result c.operand_statement-statement.result
    c.changeable-a.ensures c.taken-b.ensures c.shallow-c.ensures c.max-depth.ensures (c.both-is.ensures ∙ ap (λ z. c.changeable-a.result && z) c.both-rest.ensures)
    (c.operand_statement-statement.ensures ∙ ap (λ v. operand_statement c.args.t.now c.args.of v c.args.y) c.located_in-place.ensures) c.done_if.ensures
