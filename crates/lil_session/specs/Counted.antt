-- What the machine did, counted in instructions, and the answer of it.
use Rattle.std.specs.Prelude.{◌≡◌, ◌≢◌, ◌⊎◌, ℕ, suc, ◌≤◌, true, List, Option, ⊤}
use Rattle.lil_base.specs.declared.fault.LimitKind.{LimitKind}
use Rattle.lil_resolved.specs.{Resolved.Resolved, Sizes.module_strings}
use Rattle.lil_meaning.specs.{World.World, Runs.state_of}
use Rattle.lil_volume.specs.Told.{followed_by}
use Rattle.lil_session.specs.{declared.status.Status.Status, Outcome.settled, Running.IsRefused}
use Rattle.lil_session.specs.declared.status.Status.TheVariants as a
use Rattle.lil_table.specs.Rows.{Translates}
use Rattle.lil_match.specs.Running.{Finish, Running, Finished, TrappedBy, Limited, mrun, running}
use Rattle.lil_laws.specs.Loading.{IsSpent, loaded}

-- a run that has come to its end
abbrev pub IsEnd : Finish → Type 0
IsEnd Finished = ⊤
IsEnd (TrappedBy k) = ⊤
IsEnd _ = ⊥

-- how far the run has come that an answer speaks of, after the instructions that were done within a budget
abbrev pub FinishAnswers : Status → ℕ → ℕ → Finish → Type 0
FinishAnswers a.Done steps done f = f ≡ Finished
FinishAnswers (a.Trapped t) steps done f = f ≡ TrappedBy t.kind
FinishAnswers (a.Limit k) steps done f = f ≡ Limited k
FinishAnswers a.StepsSpent steps done f = (done ≡ steps) × (f ≡ Running)
-- the request at hand failed
FinishAnswers a.ScreenFault steps done f = (suc done ≤ steps) × (f ≡ Running)
-- memory was wanted while the answer and the lines of the end were made
FinishAnswers a.Memory steps done f = IsEnd f
FinishAnswers _ steps done f = ⊥

-- What the machine did where the meaning came to the state behind n steps: a translation of the module was loaded with the module's strings and ran
-- for some instructions within the budget.
pub record MachineRan (p : Resolved) (w : World) (n steps : ℕ) (old new : Option (List ℕ)) (status : Status) : Type 0 where
  pub entries : List ℕ
  pub code : List ℕ
  pub translates : Translates p (module_strings p) entries code
  -- the instructions that were done
  pub done : ℕ
  pub within : done ≤ steps
  pub finish : FinishAnswers status steps done (mrun done (running (loaded p (module_strings p) entries code).state w)).finish
  pub shown : status ≢ a.ScreenFault → new ≡ followed_by old (mrun done (running (loaded p (module_strings p) entries code).state w)).world.screen
  -- where the screen failed, a prefix of the piece of the request at hand may stand behind it
  pub cut : status ≡ a.ScreenFault → IsRefused (mrun done (running (loaded p (module_strings p) entries code).state w)).machine (followed_by old (mrun done (running (loaded p (module_strings p) entries code).state w)).world.screen) new
  -- where the whole budget brings no end, a settled answer is StepsSpent
  pub spent : (mrun steps (running (loaded p (module_strings p) entries code).state w)).finish ≡ Running → settled status ≡ true → status ≡ a.StepsSpent
  -- a limit comes only where data, and the calls, objects and workspaces of the next state, take more words than the store has
  pub limited : (k : LimitKind) → status ≡ a.Limit k → IsSpent p (module_strings p) k (state_of p w n)

-- What the machine did, by the answer of a command that runs a text with a meaning: nothing where the volume failed, and nothing, or the
-- whole run, where memory was wanted. After a fault of the report it did what the answer says whose lines were written.
abbrev pub MachineAnswers : Resolved → World → (n steps : ℕ) → Option (List ℕ) → Option (List ℕ) → Status → Type 0
MachineAnswers p w n steps old new a.Done = MachineRan p w n steps old new a.Done
MachineAnswers p w n steps old new (a.Trapped t) = MachineRan p w n steps old new (a.Trapped t)
MachineAnswers p w n steps old new (a.Limit k) = MachineRan p w n steps old new (a.Limit k)
MachineAnswers p w n steps old new a.StepsSpent = MachineRan p w n steps old new a.StepsSpent
MachineAnswers p w n steps old new a.ScreenFault = MachineRan p w n steps old new a.ScreenFault
MachineAnswers p w n steps old new a.Memory = (new ≡ old) ⊎ MachineRan p w n steps old new a.Memory
MachineAnswers p w n steps old new a.VolumeFault = new ≡ old
MachineAnswers p w n steps old new a.ReportFault = (s : Status) × (settled s ≡ true) × (s ≢ a.Done) × MachineRan p w n steps old new s
MachineAnswers p w n steps old new _ = ⊥
