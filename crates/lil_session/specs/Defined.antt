-- The command that compiles a definition: what it reports, and what holds of each of its answers.
use Rattle.std.specs.Prelude.{◌≡◌, ◌≢◌, ◌⊎◌, ℕ, true, List, [], ◌∷◌, ◌++◌, codes, decimal, Option, Some, None, Result, Ok, Err, ⊤}
use Rattle.std.specs.FinMap.{get}
use Rattle.lil_base.specs.declared.fault.{Key.Key, SourceFault.SourceFault}
use Rattle.lil_volume.specs.{Causes.Rose, Told.{Files, FileIs, with_writes, followed_by, FollowedByPrefix}}
use Rattle.lil_compile.specs.{declared.stop.CompileStop.CompileStop, Compiled.Compiled, Command.{source_file, HasFault, IsMade, IsWritten, DefinitionCompiled}}
use Rattle.lil_compile.specs.declared.stop.CompileStop.TheVariants as why
use Rattle.lil_session.specs.{declared.status.Status.Status, Outcome.{Blames, ReportBlames, gives_way, settled}, Report.{Lined, Reported, status_lines}}
use Rattle.lil_session.specs.declared.status.Status.TheVariants as a

-- the line of a definition that was compiled, with its byte 10
abbrev pub key_line : List ℕ → ℕ → List ℕ
key_line name key = name ++ codes " key " ++ decimal key ++ 10 ∷ []

-- the answer where the compilation stopped
abbrev pub stopped_so : List ℕ → CompileStop → Status
stopped_so name why.NoFile = a.NoFile (source_file name)
stopped_so name (why.Source f) = a.SourceFault f
stopped_so name why.Volume = a.VolumeFault
stopped_so name why.Memory = a.Memory

abbrev pub status_of : List ℕ → Result Key CompileStop → Status
status_of name (Ok key) = a.Done
status_of name (Err stop) = stopped_so name stop

-- the call: the name of the module, the file at hand, and what the volume and the report hold
pub record Call : Type 0 where
  pub name : List ℕ
  pub file : List ℕ
  pub before : Option Files
  pub before_faults : ℕ
  pub after : Option Files
  pub after_faults : ℕ
  pub old : Option (List ℕ)
  pub old_faults : ℕ
  pub new : Option (List ℕ)
  pub new_faults : ℕ

-- The key was told, or memory was wanted for its line.
abbrev pub KeyTold : (name : List ℕ) (key : ℕ) (old : Option (List ℕ)) (old_faults : ℕ) (new : Option (List ℕ)) (new_faults : ℕ) (result : Status) → Type 0
KeyTold name key old old_faults new new_faults result = Lined (key_line name key) a.Done old old_faults new new_faults result ⊎ Reported [] a.Memory old old_faults new new_faults result

-- It was told why the compilation stopped, or memory was wanted for that.
abbrev pub StopTold : (name file : List ℕ) (stop : CompileStop) (old : Option (List ℕ)) (old_faults : ℕ) (new : Option (List ℕ)) (new_faults : ℕ) (result : Status) → Type 0
StopTold name file stop old old_faults new new_faults result = Reported file (stopped_so name stop) old old_faults new new_faults result ⊎ Reported file a.Memory old old_faults new new_faults result

abbrev pub OutcomeTold : Call → Result Key CompileStop → Status → Type 0
OutcomeTold call (Ok key) result = KeyTold call.name key.0 call.old call.old_faults call.new call.new_faults result
OutcomeTold call (Err stop) result = StopTold call.name call.file stop call.old call.old_faults call.new call.new_faults result

-- It was told that the words are no command, or memory was wanted.
abbrev pub UsageTold : (old : Option (List ℕ)) (old_faults : ℕ) (new : Option (List ℕ)) (new_faults : ℕ) (result : Status) → Type 0
UsageTold old old_faults new new_faults result = (s : Status) × ((s ≡ a.Usage) ⊎ (s ≡ a.Memory)) × Reported [] s old old_faults new new_faults result

-- A definition was compiled as far as the volume goes, and the lines of that were written.
pub record DefinitionReported (call : Call) (result : Status) : Type 0 where
  pub outcome : Result Key CompileStop
  pub compiled : DefinitionCompiled call.name call.before call.before_faults call.after call.after_faults outcome
  pub told : OutcomeTold call outcome result

-- the answers of the command
abbrev pub IsDefinitionAnswer : Status → Type 0
IsDefinitionAnswer a.Done = ⊤
IsDefinitionAnswer a.Usage = ⊥
IsDefinitionAnswer (a.NoFile _) = ⊤
IsDefinitionAnswer (a.SourceFault _) = ⊤
IsDefinitionAnswer (a.LoadRefused _) = ⊥
IsDefinitionAnswer (a.Trapped _) = ⊥
IsDefinitionAnswer (a.Limit _) = ⊥
IsDefinitionAnswer a.StepsSpent = ⊥
IsDefinitionAnswer a.VolumeFault = ⊤
IsDefinitionAnswer a.KeyFault = ⊥
IsDefinitionAnswer a.ScreenFault = ⊥
IsDefinitionAnswer a.ChannelFault = ⊥
IsDefinitionAnswer a.ReportFault = ⊤
IsDefinitionAnswer a.Memory = ⊤
IsDefinitionAnswer (a.BadCode _) = ⊥

-- a refusal of the source: it isn't there, or has a fault
abbrev pub Refuses : Call → Status → Type 0
Refuses call s = ((s ≡ a.NoFile (source_file call.name)) × FileIs call.before (source_file call.name) None) ⊎ ((f : SourceFault) × (s ≡ a.SourceFault f) × HasFault call.name call.before f)

-- the definition has no fault, and all of its writes were done
pub record IsDone (call : Call) : Type 0 where
  pub of : Compiled
  pub made : IsMade call.name call.before of
  pub written : call.after ≡ with_writes call.before of.writes

-- WHAT HOLDS OF EACH ANSWER of the command, whatever the devices do. A field that begins with files m speaks of a volume that tells them.
pub record DefinitionAnswered (call : Call) (result : Status) : Type 0 where
  -- Done comes exactly where the source has no fault. Then the book has the new entry, the symbol file stands, and the line tells the key.
  pub done_only : result ≡ a.Done → (d : IsDone call) × (call.new ≡ followed_by call.old (key_line call.name d.of.key))
  pub done_where : (m : Files) (c : Compiled) → call.before ≡ Some m → IsMade call.name call.before c → settled result ≡ true → result ≡ a.Done
  -- A file is missed exactly where the volume doesn't have the source.
  pub no_file_only : (file : List ℕ) → result ≡ a.NoFile file → (file ≡ source_file call.name) × FileIs call.before (source_file call.name) None
  pub no_file_where : (m : Files) → call.before ≡ Some m → get m (source_file call.name) ≡ None → settled result ≡ true → result ≡ a.NoFile (source_file call.name)
  -- A fault comes exactly where the source has it.
  pub fault_only : (f : SourceFault) → result ≡ a.SourceFault f → HasFault call.name call.before f
  pub fault_where : (m : Files) (f : SourceFault) → call.before ≡ Some m → HasFault call.name call.before f → settled result ≡ true → result ≡ a.SourceFault f
  -- No other status comes.
  pub no_other : IsDefinitionAnswer result
  -- The files are as before, or the first of the writes were done, in their order. A refusal changes none.
  pub files : (call.after ≡ call.before) ⊎ IsWritten call.name call.before call.after
  pub kept : Refuses call result → call.after ≡ call.before
  -- Each fault has its cause.
  pub volume_cause : Blames a.VolumeFault call.before_faults call.after_faults result
  pub report_cause : ReportBlames call.old_faults call.new_faults result
  -- The report gets the answer's lines, and at its fault a prefix of the lines of the answer that all else is as at.
  pub lines : settled result ≡ true → result ≢ a.Done → call.new ≡ followed_by call.old (status_lines call.file result)
  pub fault_line : gives_way result ≡ true → FollowedByPrefix call.old (status_lines [] result) call.new
  pub line_tried : gives_way result ≡ true → (call.new ≡ followed_by call.old (status_lines [] result)) ⊎ Rose call.old_faults call.new_faults
  pub report_prefix : result ≡ a.ReportFault → ((d : IsDone call) × FollowedByPrefix call.old (key_line call.name d.of.key) call.new)
      ⊎ ((s : Status) × Refuses call s × (call.after ≡ call.before) × FollowedByPrefix call.old (status_lines call.file s) call.new)
  -- It was compiled, and the lines of that were then written.
  pub reported : DefinitionReported call result
