use Rattle.lil_resolved.specs.Views.{place_of}
use Rattle.lil_stmt.proofs.Addressing.{new_emitted}
use Rattle.lil_stmt.proofs.simple.emit_new.Goals as goal

pub returns : goal.returns
returns c = λ n exit. new_emitted (place_of c.args.place.now) c.args.pointer c.words-words.result _ n exit _ _ _ (rw c.target.ensures at c.words-words.ensures) c.in_ok-emit_address_of.ensures c.in_ok-put_all.ensures
