use Rattle.lil_resolved.specs.Views.{is_back, place_of, expression_of}
use Rattle.lil_stmt.proofs.Addressing.{allocate_emitted}
use Rattle.lil_stmt.proofs.simple.emit_allocate.Goals as goal

pub returns : goal.returns
returns c = λ n exit.
    allocate_emitted (is_back c.args.allocation) (place_of c.args.place.now) (expression_of c.args.words.now) _ n exit _ _ _ _ c.in_ok-emit_address_of.ensures c.in_ok-emit_tested.ensures.stored c.in_ok-emit_allocation.ensures
