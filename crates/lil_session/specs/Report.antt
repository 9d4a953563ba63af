-- The lines of the report, each with its byte 10, and how they are written.
use Rattle.std.specs.Prelude.{◌≡◌, ◌≢◌, ◌⊎◌, ℕ, ◌==◌, if◌then◌else◌, ◌≤◌, Bool, true, false, List, [], ◌∷◌, ◌++◌, codes, decimal, Option, Some, None}
use Rattle.lil_base.specs.{Faults.fault_name, declared.fault.{SourceFault.SourceFault, TrapAt.TrapAt, CodePlace.CodePlace, TrapKind.TrapKind, LimitKind.LimitKind, LoadRefusal.LoadRefusal}}
use Rattle.lil_base.specs.declared.fault.TrapKind.TheVariants as trap
use Rattle.lil_base.specs.declared.fault.LimitKind.TheVariants as limit
use Rattle.lil_base.specs.declared.fault.LoadRefusal.TheVariants as load
use Rattle.lil_volume.specs.{Causes.Rose, Told.{followed_by, FollowedByPrefix}}
use Rattle.lil_session.specs.{declared.status.Status.Status, Outcome.{gives_way, settled, ReportBlames}, Words.word_behind}
use Rattle.lil_session.specs.declared.status.Status.TheVariants as a

abbrev pub trap_name : TrapKind → List ℕ
trap_name trap.Range = codes "range"
trap_name trap.Overflow = codes "overflow"
trap_name trap.Divisor = codes "divisor"
trap_name trap.Nil = codes "nil"
trap_name trap.NoProcedure = codes "noprocedure"
trap_name trap.NoProcess = codes "noprocess"
trap_name trap.Case = codes "case"
trap_name trap.Function = codes "function"
trap_name trap.Halted = codes "halted"
trap_name trap.Workspace = codes "workspace"
trap_name trap.CoroutineEnd = codes "coroutine end"

abbrev pub limit_name : LimitKind → List ℕ
limit_name limit.Stack = codes "stack"
limit_name limit.Store = codes "store"
limit_name limit.Code = codes "code"
limit_name limit.Words = codes "data"

-- a blank and the name, where there is one
abbrev pub about_text : Option (List ℕ) → List ℕ
about_text None = []
about_text (Some name) = codes " " ++ name

abbrev pub procedure_text : Option (List ℕ) → List ℕ
procedure_text None = []
procedure_text (Some name) = codes "." ++ name

-- where a fault stands in the file at hand
abbrev pub place_text : List ℕ → SourceFault → List ℕ
place_text file s = file ++ codes ":" ++ decimal s.place.line ++ codes ":" ++ decimal s.place.column ++ codes ": "

-- the values of a fault, each behind a blank: of 64 the number of bytes, of 71 both keys
abbrev pub value_text : ℕ → List ℕ
value_text value = codes " " ++ decimal value

abbrev pub values_text : ℕ → ℕ → ℕ → List ℕ
values_text number first second = if number == 64 then value_text first else (if number == 71 then value_text first ++ value_text second else [])

abbrev pub fault_text : SourceFault → List ℕ
fault_text s = decimal s.number ++ codes " " ++ fault_name s.number ++ about_text s.about ++ values_text s.number s.first s.second

abbrev pub trap_text : TrapAt → List ℕ
trap_text t = codes "trap " ++ trap_name t.kind ++ codes " in " ++ t.module ++ procedure_text t.procedure

abbrev pub code_text : CodePlace → List ℕ
code_text p = codes "bad code in " ++ p.module ++ codes " at " ++ decimal p.place

abbrev pub refusal_text : LoadRefusal → List ℕ
refusal_text (load.Missing name) = codes "load: missing " ++ name
refusal_text (load.Damaged name at) = codes "load: damaged " ++ name ++ codes " at " ++ decimal at
refusal_text (load.KeyDiffers name wanted found) = codes "load: key differs " ++ name ++ codes " wanted " ++ decimal wanted ++ codes " found " ++ decimal found
refusal_text load.TableFull = codes "load: table full"
refusal_text (load.CodeFull n) = codes "load: code full " ++ decimal n
refusal_text (load.DataFull n) = codes "load: data full " ++ decimal n
refusal_text (load.NotProgram name) = codes "load: not a program " ++ name

-- what an answer reports, with the file at hand
abbrev pub status_lines : List ℕ → Status → List ℕ
status_lines file a.Done = []
status_lines file a.Usage = codes "usage: lilith compile or run or once or demo, NAME, --steps=N --count --screen" ++ 10 ∷ []
status_lines file (a.NoFile name) = codes "no file " ++ name ++ 10 ∷ []
status_lines file (a.SourceFault s) = place_text file s ++ fault_text s ++ 10 ∷ []
status_lines file (a.LoadRefused r) = refusal_text r ++ 10 ∷ []
status_lines file (a.Trapped t) = trap_text t ++ 10 ∷ []
status_lines file (a.Limit k) = codes "limit " ++ limit_name k ++ 10 ∷ []
status_lines file a.StepsSpent = codes "steps spent" ++ 10 ∷ []
status_lines file a.VolumeFault = codes "fault volume" ++ 10 ∷ []
status_lines file a.KeyFault = codes "fault keyboard" ++ 10 ∷ []
status_lines file a.ScreenFault = codes "fault screen" ++ 10 ∷ []
status_lines file a.ChannelFault = codes "fault channel" ++ 10 ∷ []
status_lines file a.ReportFault = []
status_lines file a.Memory = codes "memory" ++ 10 ∷ []
status_lines file (a.BadCode p) = code_text p ++ 10 ∷ []

-- whether an answer's lines are the same whatever the file at hand is, and have no name and no number of the text in them
abbrev pub is_fixed : Status → Bool
is_fixed (a.NoFile name) = false
is_fixed (a.SourceFault s) = false
is_fixed (a.LoadRefused r) = false
is_fixed (a.Trapped t) = false
is_fixed (a.BadCode p) = false
is_fixed _ = true

-- a word, or no bytes where there is none
abbrev pub bytes_or_none : Option (List ℕ) → List ℕ
bytes_or_none None = []
bytes_or_none (Some word) = word

-- the file at hand: the second of two words, where the first is this command
abbrev pub file_of : List ℕ → List (List ℕ) → List ℕ
file_of command words = bytes_or_none (word_behind command words)

-- What became of an answer: it stays, or its lines failed, or memory was wanted for them. An answer that gives way stays, Done has no
-- lines, and fixed lines want no memory.
abbrev pub Became : Status → Status → Type 0
Became status result =
    (result ≡ status)
    ⊎ (((gives_way status ≡ false) × (status ≢ a.Done) × (result ≡ a.ReportFault))
    ⊎ ((gives_way status ≡ false) × (is_fixed status ≡ false) × (result ≡ a.Memory)))

-- These lines were put: the answer stays, or the report failed.
abbrev pub Lined : List ℕ → Status → Option (List ℕ) → ℕ → Option (List ℕ) → ℕ → Status → Type 0
Lined lines status old old_faults new new_faults result =
    ((result ≡ status) × (new ≡ followed_by old lines) × (new_faults ≡ old_faults))
    ⊎ ((result ≡ a.ReportFault) × FollowedByPrefix old lines new × (old_faults ≤ new_faults) × Rose old_faults new_faults)

-- The lines of an answer were written, and this is the answer now. An answer that gives way stays, whether its line was written or
-- not; but its line was tried, so it stands whole or the report failed. Another stays where its lines were written whole.
pub record Reported (file : List ℕ) (status : Status) (old : Option (List ℕ)) (old_faults : ℕ) (new : Option (List ℕ)) (new_faults : ℕ) (result : Status) : Type 0 where
  pub passes : gives_way status ≡ true → result ≡ status
  pub became : Became status result
  pub whole : settled result ≡ true → new ≡ followed_by old (status_lines file status)
  pub cut : result ≡ a.ReportFault → FollowedByPrefix old (status_lines file status) new
  pub still : gives_way result ≡ true → FollowedByPrefix old (status_lines [] result) new
  pub tried : gives_way result ≡ true → (new ≡ followed_by old (status_lines [] result)) ⊎ Rose old_faults new_faults
  pub cause : ReportBlames old_faults new_faults result
