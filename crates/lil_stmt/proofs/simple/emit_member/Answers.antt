use Rattle.lil_resolved.specs.Views.{kind_view, is_out, place_of, expression_of}
use Rattle.lil_stmt.proofs.Addressing.{member_emitted}
use Rattle.lil_stmt.proofs.simple.emit_member.Goals as goal

pub returns : goal.returns
returns c = λ n exit.
    member_emitted (is_out c.args.membership) (place_of c.args.place.now) (kind_view c.args.kind) (expression_of c.args.number.now) c.member_instr.result _ n exit _ _ _ _ c.member_instr.ensures.is
    c.in_ok-emit_address_of.ensures c.in_ok-emit_tested.ensures.stored c.in_ok-put.ensures
