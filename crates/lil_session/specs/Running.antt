-- How a run goes on, is cut or ends, as the screen shows it.
use Rattle.std.specs.Prelude.{◌≡◌, ℕ, suc, ◌≤◌, List, ◌++◌, Option, Some, None}
use Rattle.lil_mcode.specs.{declared.machine.Event.TheVariants.Request, Table.{State, mstep}}
use Rattle.lil_base.specs.declared.request.Request as requests
use Rattle.lil_meaning.specs.World.{World, piece_of}
use Rattle.lil_volume.specs.Told.{followed_by, FollowedByPrefix}
use Rattle.lil_match.specs.Running.{Finish, Running, Finished, TrappedBy, Limited, Broken, arguments, advanced, mrun, running}
use Rattle.lil_session.specs.declared.run.Ending.{Ending}
use Rattle.lil_session.specs.declared.run.Ending.TheVariants as ending

-- how far a run has come, by its ending
abbrev pub finish_of : Ending → Finish
finish_of ending.Done = Finished
finish_of (ending.Trapped k) = TrappedBy k
finish_of (ending.Limited k) = Limited k
finish_of ending.Broken = Broken
finish_of ending.Spent = Running

abbrev pub finish_by : Option Ending → Finish
finish_by None = Running
finish_by (Some e) = finish_of e

-- one step from s to t, in any world: what it adds to the screen was shown
pub record IsStep (s t : State) (f : Finish) (old new : Option (List ℕ)) (w : World) : Type 0 where
  pub world : World
  pub run : advanced (running s w) ≡ record { machine = t; world = world; finish = f }
  pub piece : List ℕ
  pub adds : world.screen ≡ w.screen ++ piece
  pub shown : new ≡ followed_by old piece

-- The step at hand is a request, and the screen refused the piece that it adds: a prefix of it was shown.
pub record IsRefused (s : State) (old new : Option (List ℕ)) : Type 0 where
  pub request : requests.Request
  pub asked : State
  pub step : mstep s ≡ (Request request, asked)
  pub piece : List ℕ
  pub its : piece ≡ piece_of request (arguments request asked)
  pub prefix : FollowedByPrefix old piece new

-- at most so many steps, from s to t: what they add to the screen was shown
pub record HasRun (s t : State) (steps : ℕ) (f : Finish) (old new : Option (List ℕ)) (w : World) : Type 0 where
  pub machine : t ≡ (mrun steps (running s w)).machine
  pub finish : f ≡ (mrun steps (running s w)).finish
  pub shown : new ≡ followed_by old (mrun steps (running s w)).world.screen

-- A run that the screen stopped within so many steps: what the steps before had added was shown, and then the piece of the request at
-- hand was refused.
pub record IsCut (s : State) (steps : ℕ) (old new : Option (List ℕ)) (w : World) : Type 0 where
  pub done : ℕ
  pub within : suc done ≤ steps
  pub finish : (mrun done (running s w)).finish ≡ Running
  pub refused : IsRefused (mrun done (running s w)).machine (followed_by old (mrun done (running s w)).world.screen) new
