use Rattle.std.proofs.Common.{◌≡◌, subst}
use Rattle.lil_mcode.specs.{declared.machine.Event.Event, Table.mstep, Requests.request_has}
use Rattle.lil_trials.proofs.mcode.served.Goals as goal

pub serve-requires : goal.serve-requires
serve-requires c =
    let ran = c.run-event.ensures.ran in
    let t = c.run-event.new.self.state in
    let P : Event → Type 0 = λ e. mstep ran.before ≡ (e, t) in
    request_has ran.before t c.in-Request.request (subst P c.in-Request.is ran.last)
