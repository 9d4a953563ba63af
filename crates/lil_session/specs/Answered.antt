-- A text was run, a command was done, its answer's lines were written, and what holds of the answer then.
use Rattle.std.specs.Prelude.{◌≡◌, ◌≢◌, ◌⊎◌, ℕ, true, false, List, [], Option, Some, None, ⊤}
use Rattle.std.specs.FinMap.{get}
use Rattle.lil_base.specs.declared.fault.{SourceFault.SourceFault, TrapAt.TrapAt}
use Rattle.lil_base.specs.declared.fault.LimitKind.TheVariants as limit
use Rattle.lil_resolved.specs.Resolved.{Resolved}
use Rattle.lil_meaning.specs.{World.World, Items.{Ended, Trapped}, Runs.state_of}
use Rattle.lil_volume.specs.{Causes.Rose, Told.{Files, followed_by, FollowedByPrefix}}
use Rattle.lil_session.specs.{declared.status.Status.Status, Words.mod_file, Outcome.{Answers, Blames, Devices, EndsSo, Finds, HasFault, HasMeaning, IsRunAnswer, IsRunnable, ReadsOne, ReportBlames, MeansAnswer, Runs, TextAnswers, Verdict, Refused, Means, Silent, cuts, gives_way, settled}, Headline.{Headline, Shows}, Report.{Reported, status_lines}}
use Rattle.lil_session.specs.declared.status.Status.TheVariants as a

-- the answers of the program: all but those of what isn't built; of the limits that of the store alone
abbrev pub IsAnswer : Status → Type 0
IsAnswer a.Done = ⊤
IsAnswer a.Usage = ⊤
IsAnswer (a.NoFile _) = ⊤
IsAnswer (a.SourceFault _) = ⊤
IsAnswer (a.LoadRefused _) = ⊥
IsAnswer (a.Trapped _) = ⊤
IsAnswer (a.Limit k) = (k ≡ limit.Stack) ⊎ (k ≡ limit.Store)
IsAnswer a.StepsSpent = ⊤
IsAnswer a.VolumeFault = ⊤
IsAnswer a.KeyFault = ⊥
IsAnswer a.ScreenFault = ⊤
IsAnswer a.ChannelFault = ⊥
IsAnswer a.ReportFault = ⊤
IsAnswer a.Memory = ⊤
IsAnswer (a.BadCode _) = ⊥

-- the answers where nothing was run, but for want of memory
abbrev pub IsUnrun : Status → Type 0
IsUnrun a.Usage = ⊤
IsUnrun (a.NoFile _) = ⊤
IsUnrun (a.SourceFault _) = ⊤
IsUnrun a.VolumeFault = ⊤
IsUnrun _ = ⊥

-- A module was run.
pub record ModuleRan (p : Resolved) (steps : ℕ) (old : Option (List ℕ)) (old_faults : ℕ) (new : Option (List ℕ)) (new_faults : ℕ) (status : Status) : Type 0 where
  pub shows : (w : World) → w.screen ≡ [] → Shows p w steps old new status
  pub answer : (w : World) → w.screen ≡ [] → settled status ≡ true → (cuts status ≡ true) ⊎ MeansAnswer p w status
  pub kinds : IsRunAnswer status
  pub cause : Blames a.ScreenFault old_faults new_faults status
  pub told : (status ≡ a.ScreenFault) ⊎ (new_faults ≡ old_faults)

-- What was said was carried out: a fault is the answer, unless memory is wanted, and nothing is shown; a module was run.
abbrev pub Carried : Verdict → ℕ → Option (List ℕ) → ℕ → Option (List ℕ) → ℕ → Status → Type 0
Carried (Refused f) steps old old_faults new new_faults s = ((s ≡ a.SourceFault f) ⊎ (s ≡ a.Memory)) × ((new ≡ old) × (new_faults ≡ old_faults))
Carried (Means p) steps old old_faults new new_faults s = ModuleRan p steps old old_faults new new_faults s
Carried Silent steps old old_faults new new_faults s = ⊥

-- The text of the file of this name was run where it has no fault.
pub record TextRan (file text : List ℕ) (steps : ℕ) (old : Option (List ℕ)) (old_faults : ℕ) (new : Option (List ℕ)) (new_faults : ℕ) (status : Status) : Type 0 where
  pub one : settled status ≡ true → ReadsOne file text
  pub answer : (w : World) → w.screen ≡ [] → settled status ≡ true → (cuts status ≡ true) ⊎ TextAnswers file text w status
  pub fault_only : (f : SourceFault) → status ≡ a.SourceFault f → HasFault file text f
  pub fault_where : (f : SourceFault) → HasFault file text f → gives_way status ≡ false → status ≡ a.SourceFault f
  pub kinds : ((f : SourceFault) × (status ≡ a.SourceFault f)) ⊎ IsRunAnswer status
  pub shows : (w : World) (p : Resolved) → w.screen ≡ [] → HasMeaning file text p → Shows p w steps old new status
  pub nothing : (f : SourceFault) → status ≡ a.SourceFault f → new ≡ old
  pub called : ((new ≡ old) × (new_faults ≡ old_faults)) ⊎ ((p : Resolved) × HasMeaning file text p)
  pub cause : Blames a.ScreenFault old_faults new_faults status
  pub told : (status ≡ a.ScreenFault) ⊎ (new_faults ≡ old_faults)

-- A command was done as far as the devices go, and its lines are still to be written.
pub record CommandRan (name : Option (List ℕ)) (steps : ℕ) (before after : Devices) (status : Status) : Type 0 where
  -- unless a device failed, memory was refused or the run was cut short, the answer is the command's
  pub answer : (w : World) → Finds before.files before.keys w → settled status ≡ true → (cuts status ≡ true) ⊎ Answers name w status
  -- and of a text with a meaning it is the meaning's end, where that has one
  pub ends_where : (w : World) (p : Resolved) (n : ℕ) (s : Status) → Finds before.files before.keys w → Runs name w p → EndsSo (state_of p w n).phase s → settled status ≡ true → (cuts status ≡ true) ⊎ (status ≡ s)
  -- usage comes exactly where the words name no module
  pub usage_only : status ≡ a.Usage → name ≡ None
  pub usage_where : name ≡ None → gives_way status ≡ false → status ≡ a.Usage
  -- a file is missed exactly where the source isn't there
  pub no_file_only : (m : Files) (file : List ℕ) → before.files ≡ Some m → status ≡ a.NoFile file → (x : List ℕ) × (name ≡ Some x) × (file ≡ mod_file x) × (get m file ≡ None)
  pub no_file_where : (m : Files) (x : List ℕ) → before.files ≡ Some m → name ≡ Some x → get m (mod_file x) ≡ None → gives_way status ≡ false → status ≡ a.NoFile (mod_file x)
  -- a fault comes exactly where the text has it
  pub fault_only : (m : Files) (f : SourceFault) → before.files ≡ Some m → status ≡ a.SourceFault f
      → (x : List ℕ) × (name ≡ Some x) × ((text : List ℕ) × (get m (mod_file x) ≡ Some text) × HasFault x text f)
  pub fault_where : (m : Files) (x text : List ℕ) (f : SourceFault) → before.files ≡ Some m → name ≡ Some x → get m (mod_file x) ≡ Some text → HasFault x text f
      → gives_way status ≡ false → status ≡ a.SourceFault f
  -- a missed file is the source of the module that the words name, and a fault is one of some text, whatever the volume tells
  pub missed_is : (file : List ℕ) → status ≡ a.NoFile file → (x : List ℕ) × (name ≡ Some x) × (file ≡ mod_file x)
  pub fault_is : (f : SourceFault) → status ≡ a.SourceFault f → (x text : List ℕ) × (name ≡ Some x) × HasFault x text f
  -- no other status comes
  pub kinds : IsAnswer status
  pub not_report : status ≢ a.ReportFault
  -- what a text with a meaning shows
  pub headline : (w : World) (p : Resolved) → Finds before.files before.keys w → Runs name w p → Headline p w steps before after status
  -- nothing is shown where nothing was run
  pub nothing : IsUnrun status → after.shown ≡ before.shown
  -- the screen is called only where a text with a meaning was found, and the volume only where the words name a module
  pub called : ((after.shown ≡ before.shown) × (after.screen_faults ≡ before.screen_faults)) ⊎ IsRunnable name before.files
  pub asked : (after.volume_faults ≡ before.volume_faults) ⊎ ((x : List ℕ) × (name ≡ Some x))
  pub files : after.files ≡ before.files
  pub keys : after.keys ≡ before.keys
  -- each fault has its cause, and at most one of the counts rises
  pub volume_cause : Blames a.VolumeFault before.volume_faults after.volume_faults status
  pub screen_cause : Blames a.ScreenFault before.screen_faults after.screen_faults status
  -- a fault of the screen is never answered otherwise
  pub screen_told : (status ≡ a.ScreenFault) ⊎ (after.screen_faults ≡ before.screen_faults)
  pub keys_cause : after.key_faults ≡ before.key_faults
  pub one : (after.volume_faults ≡ before.volume_faults) ⊎ (after.screen_faults ≡ before.screen_faults)

-- a command: the name of the module that it runs, its budget and the file at hand, and what the devices and the report hold
pub record Call : Type 0 where
  pub name : Option (List ℕ)
  pub steps : ℕ
  pub file : List ℕ
  pub before : Devices
  pub after : Devices
  pub old : Option (List ℕ)
  pub old_faults : ℕ
  pub new : Option (List ℕ)
  pub new_faults : ℕ

-- It was done with an answer as far as the devices go, and that answer's lines were written.
pub record CommandReported (call : Call) (result : Status) : Type 0 where
  pub inner : Status
  pub ran : CommandRan call.name call.steps call.before call.after inner
  pub reported : Reported call.file inner call.old call.old_faults call.new call.new_faults result

-- WHAT HOLDS OF EACH ANSWER of a command, whatever the devices do. A field that begins with a world speaks of devices that tell their
-- files and keys.
pub record Answered (call : Call) (result : Status) : Type 0 where
  -- What a text with a meaning shows, and how it ends, is what its meaning says. The machine ran a translation of it within the budget; the
  -- steps are spent exactly where that has no end, and only where the meaning is far enough; and a limit comes only where the meaning needs
  -- more words than there are.
  pub headline : (w : World) (p : Resolved) → Finds call.before.files call.before.keys w → Runs call.name w p → Headline p w call.steps call.before call.after result
  -- Unless a device fails, memory is refused or the run is cut short, the answer is the command's.
  pub answer : (w : World) → Finds call.before.files call.before.keys w → settled result ≡ true → (cuts result ≡ true) ⊎ Answers call.name w result
  -- So a text without a fault is answered by its meaning.
  pub meant : (w : World) (x text : List ℕ) → Finds call.before.files call.before.keys w → call.name ≡ Some x → get w.files (mod_file x) ≡ Some text → ((f : SourceFault) → HasFault x text f → ⊥)
      → settled result ≡ true → (cuts result ≡ true) ⊎ ((p : Resolved) × HasMeaning x text p × MeansAnswer p w result)
  -- Usage comes exactly where the words name no module.
  pub usage_only : result ≡ a.Usage → call.name ≡ None
  pub usage_where : call.name ≡ None → settled result ≡ true → result ≡ a.Usage
  -- A file is missed exactly where the volume doesn't have the source.
  pub no_file_only : (m : Files) (file : List ℕ) → call.before.files ≡ Some m → result ≡ a.NoFile file → (x : List ℕ) × (call.name ≡ Some x) × (file ≡ mod_file x) × (get m file ≡ None)
  pub no_file_where : (m : Files) (x : List ℕ) → call.before.files ≡ Some m → call.name ≡ Some x → get m (mod_file x) ≡ None → settled result ≡ true → result ≡ a.NoFile (mod_file x)
  -- A fault comes exactly where the source's text has it.
  pub fault_only : (m : Files) (f : SourceFault) → call.before.files ≡ Some m → result ≡ a.SourceFault f
      → (x : List ℕ) × (call.name ≡ Some x) × ((text : List ℕ) × (get m (mod_file x) ≡ Some text) × HasFault x text f)
  pub fault_where : (m : Files) (x text : List ℕ) (f : SourceFault) → call.before.files ≡ Some m → call.name ≡ Some x → get m (mod_file x) ≡ Some text → HasFault x text f
      → settled result ≡ true → result ≡ a.SourceFault f
  -- Unless the run is cut short, Done comes exactly where the meaning ends, and a trap exactly where it traps so.
  pub done_only : (w : World) (p : Resolved) → Finds call.before.files call.before.keys w → Runs call.name w p → result ≡ a.Done → (n : ℕ) × ((state_of p w n).phase ≡ Ended)
  pub done_where : (w : World) (p : Resolved) (n : ℕ) → Finds call.before.files call.before.keys w → Runs call.name w p → (state_of p w n).phase ≡ Ended → settled result ≡ true → (cuts result ≡ true) ⊎ (result ≡ a.Done)
  pub trapped_only : (w : World) (p : Resolved) (t : TrapAt) → Finds call.before.files call.before.keys w → Runs call.name w p → result ≡ a.Trapped t → (n : ℕ) × ((state_of p w n).phase ≡ Trapped t)
  pub trapped_where : (w : World) (p : Resolved) (n : ℕ) (t : TrapAt) → Finds call.before.files call.before.keys w → Runs call.name w p → (state_of p w n).phase ≡ Trapped t → settled result ≡ true
      → (cuts result ≡ true) ⊎ (result ≡ a.Trapped t)
  -- No other status comes.
  pub settles : (settled result ≡ true) ⊎ ((result ≡ a.VolumeFault) ⊎ ((result ≡ a.ScreenFault) ⊎ ((result ≡ a.ReportFault) ⊎ (result ≡ a.Memory))))
  pub no_other : IsAnswer result
  -- Nothing is shown where nothing was run.
  pub nothing : IsUnrun result → call.after.shown ≡ call.before.shown
  -- The screen is called only where a text with a meaning was found, and the volume only where the words name a module.
  pub called : ((call.after.shown ≡ call.before.shown) × (call.after.screen_faults ≡ call.before.screen_faults)) ⊎ IsRunnable call.name call.before.files
  pub asked : (call.after.volume_faults ≡ call.before.volume_faults) ⊎ ((x : List ℕ) × (call.name ≡ Some x))
  -- A missed file is the module's source, and a fault is one of some text of that, whatever the volume tells.
  pub missed_is : (file : List ℕ) → result ≡ a.NoFile file → (x : List ℕ) × (call.name ≡ Some x) × (file ≡ mod_file x)
  pub fault_is : (f : SourceFault) → result ≡ a.SourceFault f → (x text : List ℕ) × (call.name ≡ Some x) × HasFault x text f
  -- Each fault has its cause, and at most one of the counts of the volume and the screen rises.
  pub volume_cause : Blames a.VolumeFault call.before.volume_faults call.after.volume_faults result
  pub screen_cause : Blames a.ScreenFault call.before.screen_faults call.after.screen_faults result
  pub screen_told : (result ≡ a.ScreenFault) ⊎ (call.after.screen_faults ≡ call.before.screen_faults)
  pub keys_cause : call.after.key_faults ≡ call.before.key_faults
  pub one : (call.after.volume_faults ≡ call.before.volume_faults) ⊎ (call.after.screen_faults ≡ call.before.screen_faults)
  pub report_cause : ReportBlames call.old_faults call.new_faults result
  -- Files and keys stay.
  pub files : call.after.files ≡ call.before.files
  pub keys : call.after.keys ≡ call.before.keys
  -- The report gets the answer's lines, and at its fault a prefix of the lines of the answer that all else is as at.
  pub lines : settled result ≡ true → call.new ≡ followed_by call.old (status_lines call.file result)
  pub fault_line : gives_way result ≡ true → FollowedByPrefix call.old (status_lines [] result) call.new
  -- The line of a fault, or of want of memory, was tried: it stands whole, or the report failed.
  pub line_tried : gives_way result ≡ true → (call.new ≡ followed_by call.old (status_lines [] result)) ⊎ Rose call.old_faults call.new_faults
  -- The report fails only where there are lines to write: the answer isn't Done.
  pub report_prefix : result ≡ a.ReportFault → (s : Status) × (settled s ≡ true) × (s ≢ a.Done) × IsAnswer s × FollowedByPrefix call.old (status_lines call.file s) call.new
  pub report_fault : (w : World) → Finds call.before.files call.before.keys w → result ≡ a.ReportFault
      → (s : Status) × (settled s ≡ true) × (s ≢ a.Done) × ((cuts s ≡ true) ⊎ Answers call.name w s) × FollowedByPrefix call.old (status_lines call.file s) call.new
      × ((p : Resolved) → Runs call.name w p → Headline p w call.steps call.before call.after s)
  -- It was done with some answer, whose lines were then written.
  pub reported : CommandReported call result
