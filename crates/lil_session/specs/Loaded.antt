-- What the ending of a run answers.
use Rattle.std.specs.Prelude.{◌≡◌, ◌⊎◌, ℕ, List, Option, Some, slice_get}
use Rattle.lil_base.specs.declared.fault.{TrapKind.TrapKind, TrapAt.TrapAt}
use Rattle.lil_base.specs.declared.fault.LimitKind.TheVariants as limit
use Rattle.lil_mcode.specs.{Table.{Module, module_at}, Calls.{Machine, IsRunning, names_of}}
use Rattle.lil_session.specs.declared.{run.Ending.Ending, status.Status.Status}
use Rattle.lil_session.specs.declared.run.Ending.TheVariants as ending
use Rattle.lil_session.specs.declared.status.Status.TheVariants as answer

-- the machine looked last at an instruction of this module, which has procedures
pub record IsIn (machine : Machine) (m : Module) : Type 0 where
  pub known : module_at machine.state.modules machine.at_module ≡ Some m
  pub entry : ℕ
  pub name : Option (List ℕ)
  pub first : slice_get m.procedures 0 ≡ Some (entry, name)

-- the trap of the procedure at which the machine looked last
pub record IsTrapOf (machine : Machine) (kind : TrapKind) (t : TrapAt) : Type 0 where
  pub same : t.kind ≡ kind
  pub procedure : ℕ
  pub runs : (m : Module) → module_at machine.state.modules machine.at_module ≡ Some m → IsRunning m.procedures machine.at_place procedure
  pub names : names_of machine.state.modules machine.at_module procedure ≡ Some (t.«module», t.procedure)

-- the answer of an ending. A run that keeps to a translation meets no bad code
abbrev pub EndingAnswers : Machine → Ending → Status → Type 0
EndingAnswers machine ending.Done s = s ≡ answer.Done
EndingAnswers machine (ending.Trapped k) s = (s ≡ answer.Memory) ⊎ ((t : TrapAt) × (s ≡ answer.Trapped t) × IsTrapOf machine k t)
EndingAnswers machine (ending.Limited k) s = s ≡ answer.Limit k
EndingAnswers machine ending.Broken s = ⊥
EndingAnswers machine ending.Spent s = s ≡ answer.StepsSpent

-- an ending that the run of a translation can have
abbrev pub IsPossible : Machine → Ending → Type 0
IsPossible machine ending.Done = Unit {0}
IsPossible machine (ending.Trapped k) = (m : Module) × IsIn machine m
IsPossible machine (ending.Limited k) = (k ≡ limit.Stack) ⊎ (k ≡ limit.Store)
IsPossible machine ending.Broken = ⊥
IsPossible machine ending.Spent = Unit {0}
