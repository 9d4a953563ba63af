-- A run of the machine, with its world.
use Rattle.std.specs.Prelude.{ℕ, zero, suc, List, [], length, take, drop, reverse}
use Rattle.lil_base.specs.declared.fault.{TrapKind.TrapKind, LimitKind.LimitKind}
use Rattle.lil_mcode.specs.{declared.machine.Event.{Event, TheVariants.{Went, Request, LevelEnded, Trap, Limit, BadCode}}, Table.{State, mstep}}
use Rattle.lil_base.specs.declared.request.Request as request
use Rattle.lil_asm.specs.Requests.{request_words}
use Rattle.lil_meaning.specs.World.{World, Given, given_by, serve, all_closed}

-- how far a run has come
pub data Finish : Type 0 where
  Running : Finish
  Finished : Finish
  TrappedBy : (k : TrapKind) → Finish
  Limited : (k : LimitKind) → Finish
  Broken : Finish

pub record Run : Type 0 where
  pub machine : State
  pub world : World
  pub finish : Finish

-- what a request finds
abbrev pub arguments : request.Request → State → List Given
arguments r s = given_by r s.store (reverse (take (request_words r) s.stack))

-- the number of the running level
abbrev pub level_of : State → ℕ
level_of s = suc (length s.waiting)

-- the machine after a request, whose words are taken from the expression stack
abbrev pub taken : ℕ → State → State
taken n s = record s { stack = drop n s.stack }

-- a request was served; one that answers gets its row with its answers
abbrev pub replied : ℕ → State → List Given → World → Run → Run
replied n s [] w run = record run { machine = taken n s; world = w }
replied n s answers w run = run

abbrev pub served : ℕ → State → World × List Given → Run → Run
served n s r run = replied n s r.1 r.0 run

abbrev pub requested : request.Request → State → Run → Run
requested r s run = served (request_words r) s (serve (level_of s) r (arguments r s) run.world) run

-- the run ends with its level, whose streams and channels are closed
abbrev pub left : Finish → State → Run → Run
left f s run = record { machine = s; world = all_closed (level_of s) run.world; finish = f }

-- what a step makes of a run
abbrev pub react : Event → State → Run → Run
react Went s run = record run { machine = s }
react (Request r) s run = requested r s run
react LevelEnded s run = left Finished s run
react (Trap k) s run = left (TrappedBy k) s run
react (Limit k) s run = record run { machine = s; finish = Limited k }
react BadCode s run = record run { machine = s; finish = Broken }

abbrev pub unless_over : Finish → Run → Run → Run
unless_over Running old new = new
unless_over Finished old new = old
unless_over (TrappedBy k) old new = old
unless_over (Limited k) old new = old
unless_over Broken old new = old

-- one step
abbrev pub advanced : Run → Run
advanced run = unless_over run.finish run (react (mstep run.machine).0 (mstep run.machine).1 run)

-- n steps; after its end a run stays
abbrev pub mrun : ℕ → Run → Run
mrun zero run = run
mrun (suc n) run = mrun n (advanced run)

-- a machine that runs in a world
abbrev pub running : State → World → Run
running s w = record { machine = s; world = w; finish = Running }
