-- THE HEADLINE: what a text with a meaning shows, and how far its meaning has come.
use Rattle.std.specs.Prelude.{◌≡◌, ◌≢◌, ◌⊎◌, ℕ, suc, ◌+◌, ◌*◌, ◌≤◌, List, ◌++◌, Option, Some, ⊤}
use Rattle.lil_resolved.specs.Resolved.{Resolved}
use Rattle.lil_meaning.specs.{World.World, Items.{Source, Phase, Going, Ended, Trapped}, Runs.state_of}
use Rattle.lil_volume.specs.Told.{with_writes, followed_by, FollowedByPrefix}
use Rattle.lil_session.specs.{declared.status.Status.Status, Outcome.Devices, Counted.MachineAnswers}
use Rattle.lil_session.specs.declared.status.Status.TheVariants as a

-- an answer that says how a run ended agrees with the state of the meaning
abbrev pub Allowed : Status → Phase → Type 0
Allowed a.Done e = e ≡ Ended
Allowed (a.Trapped t) e = e ≡ Trapped t
Allowed a.StepsSpent e = e ≡ Going
Allowed _ e = Unit {0}

-- a meaning that is over
abbrev pub IsOver : Phase → Type 0
IsOver Ended = ⊤
IsOver (Trapped t) = ⊤
IsOver _ = ⊥

-- A prefix of the piece that the step from s to t adds to the screen stands behind what s has shown.
pub record IsCutAt (s t : Source) (old new : Option (List ℕ)) : Type 0 where
  pub piece : List ℕ
  pub adds : t.world.screen ≡ s.world.screen ++ piece
  pub prefix : FollowedByPrefix (followed_by old s.world.screen) piece new

-- What is shown is what the state behind n steps of the meaning has shown, and a run of a translation, within so many instructions, has
-- come to that state.
pub record Shown (p : Resolved) (w : World) (n steps : ℕ) (old new : Option (List ℕ)) (status : Status) : Type 0 where
  pub whole : status ≢ a.ScreenFault → new ≡ followed_by old (state_of p w n).world.screen
  -- where the screen failed, a prefix of the piece that the next step adds may stand behind it
  pub cut : status ≡ a.ScreenFault → IsCutAt (state_of p w n) (state_of p w (suc n)) old new
  pub ends : Allowed status (state_of p w n).phase
  -- memory is wanted before anything is shown, or after the end
  pub stops : status ≡ a.Memory → (new ≡ old) ⊎ IsOver (state_of p w n).phase
  -- where a budget is spent that has 32 instructions for each of m steps, and 64 more, these are no more than the n, and the meaning
  -- goes on behind them
  pub far : status ≡ a.StepsSpent → (m : ℕ) → 32 * m + 64 ≤ steps → (m ≤ n) × ((state_of p w m).phase ≡ Going)
  -- what the machine did
  pub machine : MachineAnswers p w n steps old new status

-- THE HEADLINE. What was shown, the keys and the files are those of the state behind n steps of the meaning; where the screen failed, a
-- prefix of the piece that the next step adds may stand behind it. The answer Done comes only where that state has ended, a trap only
-- where it has trapped with it, StepsSpent only where it goes on and is far enough for the budget, and a limit only where its next step
-- needs more words than the store has.
pub record Headline (p : Resolved) (w : World) (steps : ℕ) (before after : Devices) (status : Status) : Type 0 where
  pub n : ℕ
  pub shown : Shown p w n steps before.shown after.shown status
  pub keys : after.keys ≡ Some (state_of p w n).world.keys
  pub files : after.files ≡ with_writes before.files (state_of p w n).world.writes

-- the same of the screen alone
pub record Shows (p : Resolved) (w : World) (steps : ℕ) (old new : Option (List ℕ)) (status : Status) : Type 0 where
  pub n : ℕ
  pub shown : Shown p w n steps old new status
