-- How an answer, what the devices hold and their counts go together.
use Rattle.std.specs.Prelude.{◌≡◌, ◌⊎◌, ℕ, ◌≤◌, nat_le, min, Bool, true, false, List, [], Option, Some, None, if◌then◌else◌, ⊤}
use Rattle.std.specs.FinMap.{get}
use Rattle.lil_base.specs.{Faults.code_too_long, declared.fault.{Place.Place, SourceFault.SourceFault}}
use Rattle.lil_base.specs.declared.fault.LimitKind.TheVariants as limit
use Rattle.lil_resolved.specs.{Resolved.Resolved, Sizes.code_size}
use Rattle.lil_unit.specs.declared.stop.GenStop.{GenStop}
use Rattle.lil_unit.specs.declared.stop.GenStop.TheVariants as gen
use Rattle.lil_text.specs.declared.stop.ReadStop.{ReadStop}
use Rattle.lil_text.specs.declared.stop.ReadStop.TheVariants as why
use Rattle.lil_language.specs.{Units.{Reads, HasReadFault}, declared.unit.Unit.Unit as Tree}
use Rattle.lil_interfaces.specs.Interfaces.{residents}
use Rattle.lil_check_unit.specs.Units.{module_of, program_fault, told}
use Rattle.lil_meaning.specs.{World.World, Items.{Phase, Going, Closing, Ended, Trapped}, Runs.state_of}
use Rattle.lil_volume.specs.{Causes.Rose, Told.{Files, FileIs}}
use Rattle.lil_session.specs.{declared.status.Status.Status, Words.mod_file}
use Rattle.lil_session.specs.declared.status.Status.TheVariants as a
use Rattle.lil_report.specs.declared.report.Fault.{Fault as Checked}

-- the exit status of an answer
abbrev pub code_of : Status → ℕ
code_of a.Done = 0
code_of a.Usage = 1
code_of (a.NoFile _) = 2
code_of (a.SourceFault _) = 3
code_of (a.LoadRefused _) = 4
code_of (a.Trapped _) = 5
code_of (a.Limit _) = 6
code_of a.StepsSpent = 7
code_of a.VolumeFault = 8
code_of a.KeyFault = 9
code_of a.ScreenFault = 10
code_of a.ChannelFault = 11
code_of a.ReportFault = 12
code_of a.Memory = 13
code_of (a.BadCode _) = 14

-- a device's fault or want of memory
abbrev pub gives_way : Status → Bool
gives_way a.VolumeFault = true
gives_way a.KeyFault = true
gives_way a.ScreenFault = true
gives_way a.ChannelFault = true
gives_way a.Memory = true
gives_way _ = false

-- an answer that is none of these, nor the report's fault
abbrev pub settled : Status → Bool
settled a.VolumeFault = false
settled a.KeyFault = false
settled a.ScreenFault = false
settled a.ChannelFault = false
settled a.ReportFault = false
settled a.Memory = false
settled _ = true

-- an answer that says that the run was cut short: the steps are spent, or the machine has no room left
abbrev pub cuts : Status → Bool
cuts a.StepsSpent = true
cuts (a.Limit k) = true
cuts _ = false

-- This fault is answered only where the count rose, and the count rises only where the answer is this fault or want of memory.
pub record Blames (fault : Status) (before now : ℕ) (status : Status) : Type 0 where
  pub later : before ≤ now
  pub rose : status ≡ fault → Rose before now
  pub quiet : (now ≡ before) ⊎ ((status ≡ fault) ⊎ (status ≡ a.Memory))

-- The report's count rises only where the answer is its fault or gives way.
pub record ReportBlames (before now : ℕ) (status : Status) : Type 0 where
  pub later : before ≤ now
  pub rose : status ≡ a.ReportFault → Rose before now
  pub quiet : settled status ≡ true → now ≡ before

-- what the devices hold where they tell, and how often each failed
pub record Devices : Type 0 where
  pub files : Option Files
  pub volume_faults : ℕ
  pub keys : Option (List ℕ)
  pub key_faults : ℕ
  pub shown : Option (List ℕ)
  pub screen_faults : ℕ

abbrev pub devices : {V K S : Type 0} → (V → Option Files) → (V → ℕ) → (K → Option (List ℕ)) → (K → ℕ) → (S → Option (List ℕ)) → (S → ℕ) → V → K → S → Devices
devices files volume_faults left key_faults written screen_faults volume keys screen = record {
  files = files volume;
  volume_faults = volume_faults volume;
  keys = left keys;
  key_faults = key_faults keys;
  shown = written screen;
  screen_faults = screen_faults screen;
}

-- the world as a run finds it: the keys and files that are told, and nothing shown or written yet
pub record Finds (files : Option Files) (keys : Option (List ℕ)) (w : World) : Type 0 where
  pub files_told : files ≡ Some w.files
  pub keys_told : keys ≡ Some w.keys
  pub nothing_shown : w.screen ≡ []
  pub nothing_written : w.writes ≡ []
  pub no_stream : w.streams ≡ []
  pub no_channel : w.channels ≡ []

-- The answer that the end of a meaning is: Done where it ended, and the trap where it trapped.
abbrev pub EndsSo : Phase → Status → Type 0
EndsSo Going s = ⊥
EndsSo (Closing by) s = ⊥
EndsSo Ended s = s ≡ a.Done
EndsSo (Trapped t) s = s ≡ a.Trapped t

-- some state of the meaning has this end
pub record MeansAnswer (p : Resolved) (w : World) (s : Status) : Type 0 where
  pub steps : ℕ
  pub ends : EndsSo (state_of p w steps).phase s

-- ---- what a unit says: it is refused with a fault, or means a module. One without a fault that has no module would say nothing: there
-- is none
pub data Verdict : Type 0 where
  Refused : (f : SourceFault) → Verdict
  Means : (p : Resolved) → Verdict
  Silent : Verdict

-- 64 CodeTooLong, at the unit's name: the code has more than 32,767 bytes
abbrev pub coded : Place → Resolved → Verdict
coded name p = if nat_le (code_size p) 32767 then Means p else Refused (code_too_long name (min (code_size p) 4294967295))

abbrev pub module_says : Tree → Option Resolved → Verdict
module_says u None = Silent
module_says u (Some p) = coded u.head.name.place p

abbrev pub checked_says : Tree → Option Checked → Verdict
checked_says u (Some g) = Refused (told g)
checked_says u None = module_says u (module_of u residents)

-- what a unit in the file of this name says: the fault that its check tells, else that its code is too long, else the module
unfoldable pub says : List ℕ → Tree → Verdict
says file u = checked_says u (program_fault file u)

-- The first fault of a text: of its bytes, its tokens or its names behind END, else that of the unit that it is.
abbrev pub HasFault : List ℕ → List ℕ → SourceFault → Type 0
HasFault file text f = HasReadFault text f ⊎ ((u : Tree) × (Reads text u × (says file u ≡ Refused f)))

-- the module that a text without faults means
abbrev pub HasMeaning : List ℕ → List ℕ → Resolved → Type 0
HasMeaning file text p = (u : Tree) × (Reads text u × (says file u ≡ Means p))

-- the answer where reading or checking stopped
abbrev pub stopped_by : ReadStop → Status
stopped_by (why.Fault f) = a.SourceFault f
stopped_by why.Memory = a.Memory

-- the answer where no code was made
abbrev pub ungenerated_by : Place → GenStop → Status
ungenerated_by name (gen.CodeTooLong bytes) = a.SourceFault (code_too_long name bytes)
ungenerated_by name gen.Memory = a.Memory

-- A text has one fault or one meaning: it has one of them, and no more.
pub record ReadsOne (file text : List ℕ) : Type 0 where
  pub some : ((f : SourceFault) × HasFault file text f) ⊎ ((p : Resolved) × HasMeaning file text p)
  pub means : (p q : Resolved) → HasMeaning file text p → HasMeaning file text q → p ≡ q
  pub fault : (f g : SourceFault) → HasFault file text f → HasFault file text g → f ≡ g
  pub apart : (f : SourceFault) (p : Resolved) → HasFault file text f → HasMeaning file text p → ⊥

-- the answer of a text: its fault, or its meaning's
abbrev pub TextAnswers : List ℕ → List ℕ → World → Status → Type 0
TextAnswers file text w s =
    ((f : SourceFault) × HasFault file text f × (s ≡ a.SourceFault f))
    ⊎ ((p : Resolved) × HasMeaning file text p × MeansAnswer p w s)

abbrev pub SourceAnswers : List ℕ → World → Option (List ℕ) → Status → Type 0
SourceAnswers file w None s = s ≡ a.NoFile (mod_file file)
SourceAnswers file w (Some text) s = TextAnswers file text w s

-- The answer of the command in a world, by the name of the module that it runs: Usage where the words name none.
abbrev pub Answers : Option (List ℕ) → World → Status → Type 0
Answers None w s = s ≡ a.Usage
Answers (Some file) w s = SourceAnswers file w (get w.files (mod_file file)) s

-- the source of the module is there, and means p
pub record Runs (name : Option (List ℕ)) (w : World) (p : Resolved) : Type 0 where
  pub file : List ℕ
  pub named : name ≡ Some file
  pub text : List ℕ
  pub there : get w.files (mod_file file) ≡ Some text
  pub meaning : HasMeaning file text p

-- the source of the module is there as far as the volume tells, and has a meaning
pub record IsRunnable (name : Option (List ℕ)) (files : Option Files) : Type 0 where
  pub file : List ℕ
  pub named : name ≡ Some file
  pub text : List ℕ
  pub there : FileIs files (mod_file file) (Some text)
  pub means : Resolved
  pub meaning : HasMeaning file text means

-- the answers of a run within a budget of steps; of the limits of the machine that of the store alone
abbrev pub IsRunAnswer : Status → Type 0
IsRunAnswer a.Done = ⊤
IsRunAnswer (a.Trapped t) = ⊤
IsRunAnswer a.ScreenFault = ⊤
IsRunAnswer a.StepsSpent = ⊤
IsRunAnswer (a.Limit k) = (k ≡ limit.Stack) ⊎ (k ≡ limit.Store)
IsRunAnswer a.Memory = ⊤
IsRunAnswer _ = ⊥
