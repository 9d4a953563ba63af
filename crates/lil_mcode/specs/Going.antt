-- Many steps one after another: all of them go on, but perhaps the last.
use Rattle.std.specs.Prelude.{◌≡◌, ℕ, zero, suc, Option, None, Some, option_and_then}
use Rattle.lil_mcode.specs.{declared.machine.Event.{Event, TheVariants.{Went, Request, LevelEnded, Trap, Limit, BadCode}}, Table.{State, mstep}}

-- the state behind a step that goes on
abbrev pub went : Event → State → Option State
went Went t = Some t
went (Request r) t = None
went LevelEnded t = None
went (Trap k) t = None
went (Limit k) t = None
went BadCode t = None

abbrev pub next : State → Option State
next s = went (mstep s).0 (mstep s).1

-- the state behind so many steps that all go on
abbrev pub gone : ℕ → State → Option State
gone zero s = Some s
gone (suc n) s = option_and_then next (gone n s)

-- n steps from s to t: those before the last go on, and the last one, at a place of a module, did this
pub record Ran (s : State) (n : ℕ) (e : Event) (t : State) (module' place : ℕ) : Type 0 where
  pub others : ℕ
  pub count : n ≡ suc others
  pub before : State
  pub came : gone others s ≡ Some before
  pub last : mstep before ≡ (e, t)
  pub in_module : module' ≡ before.running
  pub at : place ≡ before.place
