use Rattle.lil_resolved.specs.Views.{place_of}
use Rattle.lil_stmt.proofs.Addressing.{copy_emitted}
use Rattle.lil_stmt.proofs.simple.emit_copy.Goals as goal

pub returns : goal.returns
returns c = λ n exit. copy_emitted (place_of c.args.place.now) (place_of c.args.from.now) c.in_ok-shape.shape _ c.words-words.result n exit _ _ _ _ c.words-words.ensures c.in_ok-shape.ensures c.in_ok-emit_address_of.ensures c.in_ok-put.ensures
