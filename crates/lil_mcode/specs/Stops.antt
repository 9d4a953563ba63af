-- A trap, a limit and bad code change nothing, and what goes on keeps its mark.
use Rattle.std.proofs.Common.{◌≡◌, true, refl, ap, ◌∙◌, subst}
use Rattle.lil_mcode.specs.{declared.machine.Event.{Event, TheVariants.{Went, Request, LevelEnded, Trap, Limit, BadCode}}, Table.{State, mstep}, Outcomes.{Holds, step_has}}

-- an event with which nothing was done
abbrev pub IsStop : Event → Type 0
IsStop (Trap k) = Unit {0}
IsStop (Limit k) = Unit {0}
IsStop BadCode = Unit {0}
IsStop _ = ⊥

-- after a stop the state is this one
pub record Stays (s : State) (r : Event × State) : Type 0 where
  pub still : IsStop r.0 → r.1 ≡ s

pub stop_stays : (s t : State) (e : Event) → mstep s ≡ (e, t) → IsStop e → t ≡ s
stop_stays s t e is stops = (subst (λ (r : Event × State). Stays s r) is (step_has s (Stays s) each)).still stops
  where
    each : Holds s (Stays s)
    each = record {
      on = λ t mark. record { still = λ h. absurd h };
      asked = λ r q h l. record { still = λ h. absurd h };
      trap = λ k. record { still = λ h. refl };
      limit = λ k. record { still = λ h. refl };
      bad = record { still = λ h. refl };
      ended = record { still = λ h. refl };
    }

-- what goes on has a mark where it had one
abbrev pub Marks : State → Event × State → Type 0
Marks s (Went, t) = t.marked ≡ s.marked
Marks s (Request r, t) = Unit {0}
Marks s (LevelEnded, t) = Unit {0}
Marks s (Trap k, t) = Unit {0}
Marks s (Limit k, t) = Unit {0}
Marks s (BadCode, t) = Unit {0}

pub still_marked : (s t : State) (e : Event) → mstep s ≡ (e, t) → e ≡ Went → s.marked ≡ true → t.marked ≡ true
still_marked s t e is goes mark =
    subst (Marks s) (is ∙ ap (λ (e : Event). (e, t)) goes) (step_has s (Marks s) (record { on = λ t mark. mark; asked = λ r q h l. tt; trap = λ k. tt; limit = λ k. tt; bad = tt; ended = tt })) ∙ mark
