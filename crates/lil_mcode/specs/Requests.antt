-- A request has its words on the expression stack, and its array in the store.
use Rattle.std.proofs.Common.{◌≡◌, ◌≤◌, length, true, subst}
use Rattle.lil_base.specs.declared.request.Request as request
use Rattle.lil_asm.specs.Requests.{request_words}
use Rattle.lil_mcode.specs.{declared.machine.Event.{Event, TheVariants.{Went, Request, LevelEnded, Trap, Limit, BadCode}}, Table.{State, array_lies, mstep}, Outcomes.step_has}

-- where an event is a request, its words stand on the stack of t, and its array lies in the store
abbrev pub Asks : Event → State → Type 0
Asks (Request r) t = (request_words r ≤ length t.stack) × (array_lies r t.stack ≡ true)
Asks Went t = Unit {0}
Asks LevelEnded t = Unit {0}
Asks (Trap k) t = Unit {0}
Asks (Limit k) t = Unit {0}
Asks BadCode t = Unit {0}

-- after a request its words stand on the stack, and its array lies in the store
pub request_has : (s t : State) (r : request.Request) → mstep s ≡ (Request r, t) → (request_words r ≤ length t.stack) × (array_lies r t.stack ≡ true)
request_has s t r h =
    let P : Event × State → Type 0 = λ x. Asks x.0 x.1 in
    subst P h (step_has s P (record { on = λ t mark. tt; asked = λ r q fits lies. (fits, lies); trap = λ k. tt; limit = λ k. tt; bad = tt; ended = tt }))
