use Rattle.std.proofs.Common.{◌≡◌, false, sym, ◌∙◌}
use Rattle.lil_base.specs.Requests.{takes_array}
use Rattle.lil_kernel.proofs.Characters.{IsGiven, words_shown}
use Rattle.lil_kernel.proofs.service.serve.Goals as goal

pub returns-clause-err : goal.returns-clause-err
returns-clause-err g c =
    let m = c.args.machine.now.state in
    let words = c.words-first in
    let count = c.words_of_request-count in
    let alone : takes_array c.args.request ≡ false = sym c.takes_array.ensures ∙ c.if-takes_array.false in
    let given : IsGiven c.args.request m.stack count.result words.result.0 words.result.1 = record { all = count.ensures; first = words.ensures.first; second = words.ensures.second } in
    let shown = c.as_slice.ensures.value ∙ c.piece.ensures ∙ words_shown c.args.request count.result words.result.0 words.result.1 m.stack m.store alone given in
    rw shown at c.put.ensures.err
