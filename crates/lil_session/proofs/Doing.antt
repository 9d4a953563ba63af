-- What a command that was done says of its answer and its devices.
use Rattle.std.proofs.Common.{◌≡◌, ◌≢◌, ◌⊎◌, inl, inr, ℕ, ◌≤◌, true, false, List, [], ◌∷◌, ◌++◌, Option, None, Some, Result, Ok, Err, refl, sym, ◌∙◌, ap, subst, arith}
use Rattle.std.specs.FinMap.{get}
use Rattle.std.proofs.lemmas.{Bool.both_ways, List.append-nil}
use Rattle.lil_base.specs.declared.fault.SourceFault.{SourceFault}
use Rattle.lil_resolved.specs.Resolved.{Resolved}
use Rattle.lil_meaning.specs.{World.World, Items.Going, Runs.{begun, state_of}}
use Rattle.lil_volume.specs.{Causes.{Rose, VolumeCause}, declared.outside.VolumeError.{VolumeError, TheVariants.Failed}, Told.{Files, FileIs, with_writes, followed_by}}
use Rattle.lil_session.specs.{declared.status.Status.Status, Words.mod_file, Outcome.{cuts, settled, gives_way, Answers, EndsSo, SourceAnswers, TextAnswers, Blames, Devices, Finds, HasFault, HasMeaning, IsRunAnswer, IsRunnable, MeansAnswer, ReadsOne, Runs}, Counted.MachineAnswers, Headline.{Allowed, Headline, Shows}}
use Rattle.lil_session.specs.Answered.{TextRan, CommandRan, IsAnswer, IsUnrun}
use Rattle.lil_session.specs.declared.status.Status.TheVariants as a
use Rattle.lil_session.proofs.{Agree.texts_agree, Screens.{after_grows, after_writes}}

followed_none : (old : Option (List ℕ)) (more : List ℕ) → more ≡ [] → old ≡ followed_by old more
followed_none None more none = refl
followed_none (Some xs) more none = ap (λ (l : List ℕ). Some l) (sym (ap (λ (l : List ℕ). xs ++ l) none ∙ append-nil xs))

-- before the first step
pub shows_none : (p : Resolved) (w : World) (steps : ℕ) (old : Option (List ℕ)) (s : Status) → w.screen ≡ [] → s ≢ a.ScreenFault → s ≢ a.StepsSpent → Allowed s Going → MachineAnswers p w 0 steps old old s → Shows p w steps old old s
shows_none p w steps old s none no_screen no_steps ends machine = record {
  n = 0;
  shown = record {
    whole = λ _. followed_none old w.screen none;
    cut = λ fault. absurd (no_screen fault);
    ends = ends;
    stops = λ _. inl refl;
    far = λ spent. absurd (no_steps spent);
    machine = machine;
  };
}

-- a run that shows so, and takes no keys and writes no files
pub headline_of : (p : Resolved) (w : World) (steps : ℕ) (before after : Devices) (s : Status) → Finds before.files before.keys w → Shows p w steps before.shown after.shown s → after.keys ≡ before.keys → after.files ≡ before.files → Headline p w steps before after s
headline_of p w steps before after s finds shows same_keys same_files = record {
  n = shows.n;
  shown = shows.shown;
  keys = same_keys ∙ finds.keys_told ∙ ap (λ (l : List ℕ). Some l) (sym (after_grows (p ∷ []) shows.n (begun (p ∷ []) (0 ∷ []) (1 ∷ []) w)).keys);
  files = same_files ∙ ap (λ (l : List (List ℕ × List ℕ)). with_writes before.files l) (sym (after_writes (p ∷ []) shows.n (begun (p ∷ []) (0 ∷ []) (1 ∷ []) w) finds.no_stream finds.no_channel ∙ finds.nothing_written));
}

pub some_same : {A : Type 0} (x y : A) → Some x ≡ Some y → x ≡ y
some_same x y same = cc

-- the volume's file, in the world that is found
found_in : (files : Option Files) (keys : Option (List ℕ)) (w : World) (name : List ℕ) (found : Option (List ℕ)) → Finds files keys w → FileIs files name found → found ≡ get w.files name
found_in files keys w name found finds is = subst (λ (f : Option Files). FileIs f name found) finds.files_told is

found_as : (files : Option Files) (m : Files) (name : List ℕ) (found : Option (List ℕ)) → files ≡ Some m → FileIs files name found → found ≡ get m name
found_as files m name found told is = subst (λ (f : Option Files). FileIs f name found) told is

-- want of memory, or a fault of the volume, before anything was run
pub ran_not : (name : Option (List ℕ)) (steps : ℕ) (before : Devices) (files : Option Files) (faults : ℕ) (s : Status) → (s ≡ a.Memory) ⊎ ((s ≡ a.VolumeFault) × Rose before.volume_faults faults)
    → files ≡ before.files → before.volume_faults ≤ faults → (faults ≡ before.volume_faults) ⊎ ((x : List ℕ) × (name ≡ Some x)) → CommandRan name steps before (record before { files = files; volume_faults = faults }) s
ran_not name steps before files faults s cause same later asked = record {
  answer = λ w finds is. absurd (not_settled is);
  ends_where = λ w p n t finds runs ends is. absurd (not_settled is);
  usage_only = λ is. absurd (no is refl);
  usage_where = λ none stays. absurd (not_stays stays);
  no_file_only = λ m file told is. absurd (no is refl);
  no_file_where = λ m x told named none stays. absurd (not_stays stays);
  fault_only = λ m f told is. absurd (no is refl);
  fault_where = λ m x text f told named there has stays. absurd (not_stays stays);
  missed_is = λ file is. absurd (no is refl);
  fault_is = λ f is. absurd (no is refl);
  kinds = comes;
  not_report = λ is. absurd (no is refl);
  headline = λ w p finds runs. headline_of p w steps before (record before { files = files; volume_faults = faults }) s finds (shows_none p w steps before.shown s finds.nothing_shown no_screen no_steps allowed (unrun w p)) refl same;
  nothing = λ _. refl;
  called = inl (refl, refl);
  asked = asked;
  files = same;
  keys = refl;
  volume_cause = record { later = later; rose = rose; quiet = inr blamed };
  screen_cause = record { later = omega arith; rose = λ is. absurd (no_screen is); quiet = inl refl };
  screen_told = inr refl;
  keys_cause = refl;
  one = inr refl;
}
  where
    memory_or_screen : a.Memory ≡ a.ScreenFault → ⊥
    memory_or_screen is = cc

    volume_or_screen : a.VolumeFault ≡ a.ScreenFault → ⊥
    volume_or_screen is = cc

    memory_or_volume : a.Memory ≡ a.VolumeFault → ⊥
    memory_or_volume is = cc

    gave : gives_way s ≡ true
    gave = elim cause [ inl is ↦ ap gives_way is | inr is ↦ ap gives_way is.0 ]

    not_settled : settled s ≡ true → ⊥
    not_settled is = elim cause [ inl memory ↦ both_ways (settled s) (ap settled memory) is | inr fault ↦ both_ways (settled s) (ap settled fault.0) is ]

    not_stays : gives_way s ≡ false → ⊥
    not_stays is = both_ways (gives_way s) is gave

    no : {t : Status} → s ≡ t → gives_way t ≡ false → ⊥
    no {t} is stays = both_ways (gives_way t) stays (ap gives_way (sym is) ∙ gave)

    no_screen : s ≡ a.ScreenFault → ⊥
    no_screen is = elim cause [ inl memory ↦ memory_or_screen (sym memory ∙ is) | inr fault ↦ volume_or_screen (sym fault.0 ∙ is) ]

    memory_or_steps : a.Memory ≡ a.StepsSpent → ⊥
    memory_or_steps is = cc

    volume_or_steps : a.VolumeFault ≡ a.StepsSpent → ⊥
    volume_or_steps is = cc

    no_steps : s ≡ a.StepsSpent → ⊥
    no_steps is = elim cause [ inl memory ↦ memory_or_steps (sym memory ∙ is) | inr fault ↦ volume_or_steps (sym fault.0 ∙ is) ]

    comes : IsAnswer s
    comes = elim cause [ inl memory ↦ subst (λ (t : Status). IsAnswer t) (sym memory) tt | inr fault ↦ subst (λ (t : Status). IsAnswer t) (sym fault.0) tt ]

    allowed : Allowed s Going
    allowed = elim cause [ inl memory ↦ subst (λ (t : Status). Allowed t Going) (sym memory) tt | inr fault ↦ subst (λ (t : Status). Allowed t Going) (sym fault.0) tt ]

    unrun : (w : World) (p : Resolved) → MachineAnswers p w 0 steps before.shown before.shown s
    unrun w p = elim cause [ inl memory ↦ subst (λ (t : Status). MachineAnswers p w 0 steps before.shown before.shown t) (sym memory) (inl refl) | inr fault ↦ subst (λ (t : Status). MachineAnswers p w 0 steps before.shown before.shown t) (sym fault.0) refl ]

    rose : s ≡ a.VolumeFault → Rose before.volume_faults faults
    rose is = elim cause [ inl memory ↦ absurd (memory_or_volume (sym memory ∙ is)) | inr fault ↦ fault.1 ]

    blamed : (s ≡ a.VolumeFault) ⊎ (s ≡ a.Memory)
    blamed = elim cause [ inl memory ↦ inr memory | inr fault ↦ inl fault.0 ]

same_fault : (f g : SourceFault) → a.SourceFault f ≡ a.SourceFault g → f ≡ g
same_fault f g same = cc

-- a text with a fault was not run
pub text_not : (file text : List ℕ) (steps : ℕ) (old : Option (List ℕ)) (faults : ℕ) (fault : SourceFault) → ReadsOne file text → HasFault file text fault → TextRan file text steps old faults old faults (a.SourceFault fault)
text_not file text steps old faults fault unique has = record {
  one = λ settles. unique;
  answer = λ w blank settles. inr (inl (fault, has, refl));
  fault_only = λ f same. subst (λ (g : SourceFault). HasFault file text g) (same_fault fault f same) has;
  fault_where = λ f also stays. ap a.SourceFault (unique.fault fault f has also);
  kinds = inl (fault, refl);
  shows = λ w p blank runs. absurd (unique.apart fault p has runs);
  nothing = λ f same. refl;
  called = inl (refl, refl);
  cause = record { later = omega arith; rose = λ same. cc; quiet = inl refl };
  told = inr refl;
}

-- memory was wanted before the text was read
pub text_memory : (file text : List ℕ) (steps : ℕ) (old : Option (List ℕ)) (faults : ℕ) → TextRan file text steps old faults old faults a.Memory
text_memory file text steps old faults = record {
  one = λ settles. absurd (no_true settles);
  answer = λ w blank settles. absurd (no_true settles);
  fault_only = λ f same. absurd (no_fault f same);
  fault_where = λ f has gives. absurd (no_true (sym gives));
  kinds = inr tt;
  shows = λ w p blank also. shows_none p w steps old a.Memory blank (λ is. cc) (λ is. cc) tt (inl refl);
  nothing = λ f same. refl;
  called = inl (refl, refl);
  cause = record { later = omega arith; rose = λ same. cc; quiet = inl refl };
  told = inr refl;
}
  where
    no_true : false ≡ true → ⊥
    no_true same = cc

    no_fault : (f : SourceFault) → a.Memory ≡ a.SourceFault f → ⊥
    no_fault f same = cc

-- a text that has a meaning was run
pub text_ran : (file text : List ℕ) (m : Resolved) (steps : ℕ) (old : Option (List ℕ)) (old_faults : ℕ) (new : Option (List ℕ)) (new_faults : ℕ) (s : Status) → ReadsOne file text → HasMeaning file text m
    → ((w : World) → w.screen ≡ [] → Shows m w steps old new s)
    → ((w : World) → w.screen ≡ [] → settled s ≡ true → (cuts s ≡ true) ⊎ MeansAnswer m w s)
    → IsRunAnswer s → Blames a.ScreenFault old_faults new_faults s → (s ≡ a.ScreenFault) ⊎ (new_faults ≡ old_faults)
    → TextRan file text steps old old_faults new new_faults s
text_ran file text m steps old old_faults new new_faults s unique meaning shows answer kinds cause told = record {
  one = λ settles. unique;
  answer = λ w none is. either (answer w none is);
  fault_only = λ f is. absurd (no_fault f is);
  fault_where = λ f has stays. absurd (unique.apart f m has meaning);
  kinds = inr kinds;
  shows = λ w p none also. subst (λ (r : Resolved). Shows r w steps old new s) (unique.means m p meaning also) (shows w none);
  nothing = λ f is. absurd (no_fault f is);
  called = inr (m, meaning);
  cause = cause;
  told = told;
}
  where
    either : {w : World} → (cuts s ≡ true) ⊎ MeansAnswer m w s → (cuts s ≡ true) ⊎ TextAnswers file text w s
    either (inl cut) = inl cut
    either (inr means) = inr (inr (m, meaning, means))

    no_fault : (f : SourceFault) → s ≡ a.SourceFault f → ⊥
    no_fault f is = subst (λ (t : Status). IsRunAnswer t) is kinds

-- the source was there, and its text was run
pub source_ran : (file text : List ℕ) (steps : ℕ) (before : Devices) (files : Option Files) (faults : ℕ) (shown : Option (List ℕ)) (screen_faults : ℕ) (s : Status)
    → FileIs before.files (mod_file file) (Some text) → files ≡ before.files → faults ≡ before.volume_faults
    → TextRan file text steps before.shown before.screen_faults shown screen_faults s
    → CommandRan (Some file) steps before (record before { files = files; volume_faults = faults; shown = shown; screen_faults = screen_faults }) s
source_ran file text steps before files faults shown screen_faults s is same quiet ran = record {
  answer = λ w finds settles. either w (found_in before.files before.keys w (mod_file file) (Some text) finds is) (ran.answer w finds.nothing_shown settles);
  ends_where = λ w p n t finds runs ends settles. ended w p n t finds runs ends (ran.one settles) (ran.answer w finds.nothing_shown settles);
  usage_only = λ usage. absurd (no usage (λ f e. cc) (λ h. h));
  usage_where = λ none stays. cc;
  no_file_only = λ m x told missed. absurd (no missed (λ f e. cc) (λ h. h));
  no_file_where = λ m x told named none stays. absurd (there_not m x told named none);
  fault_only = λ m f told fault. (file, refl, (text, sym (found_as before.files m (mod_file file) (Some text) told is), ran.fault_only f fault));
  fault_where = λ m x t f told named there has stays. ran.fault_where f (fault_here m x t f told named there has) stays;
  missed_is = λ x missed. absurd (no missed (λ f e. cc) (λ h. h));
  fault_is = λ f fault. (file, text, refl, ran.fault_only f fault);
  kinds = comes ran.kinds;
  not_report = λ report. absurd (no report (λ f e. cc) (λ h. h));
  headline = λ w p finds runs. headline_of p w steps before (record before { files = files; volume_faults = faults; shown = shown; screen_faults = screen_faults }) s finds (ran.shows w p finds.nothing_shown (meaning_here w p finds runs)) refl same;
  nothing = quietly ran.kinds;
  called = called ran.called;
  asked = inl quiet;
  files = same;
  keys = refl;
  volume_cause = record { later = omega arith; rose = λ fault. absurd (no fault (λ f e. cc) (λ h. h)); quiet = inl quiet };
  screen_cause = ran.cause;
  screen_told = ran.told;
  keys_cause = refl;
  one = inl quiet;
}
  where
    no : {t : Status} → s ≡ t → ((f : SourceFault) → t ≡ a.SourceFault f → ⊥) → (IsRunAnswer t → ⊥) → ⊥
    no {t} here fault run =
        elim ran.kinds [ inl (f, is) ↦ fault f (sym here ∙ is) | inr kind ↦ run (subst (λ (u : Status). IsRunAnswer u) here kind) ]

    either : (w : World) → Some text ≡ get w.files (mod_file file) → (cuts s ≡ true) ⊎ TextAnswers file text w s → (cuts s ≡ true) ⊎ Answers (Some file) w s
    either w there (inl cut) = inl cut
    either w there (inr answers) = inr (subst (λ (o : Option (List ℕ)). SourceAnswers file w o s) there answers)

    called : ((shown ≡ before.shown) × (screen_faults ≡ before.screen_faults)) ⊎ ((p : Resolved) × HasMeaning file text p)
        → ((shown ≡ before.shown) × (screen_faults ≡ before.screen_faults)) ⊎ IsRunnable (Some file) before.files
    called (inl still) = inl still
    called (inr (p, meaning)) = inr (record { file = file; named = refl; text = text; there = is; means = p; meaning = meaning })

    there_not : (m : Files) (x : List ℕ) → before.files ≡ Some m → Some file ≡ Some x → get m (mod_file x) ≡ None → ⊥
    there_not m x told named none =
        let here : Some text ≡ get m (mod_file file) = found_as before.files m (mod_file file) (Some text) told is in
        let same_name : file ≡ x = some_same file x named in
        cc

    fault_here : (m : Files) (x t : List ℕ) (f : SourceFault) → before.files ≡ Some m → Some file ≡ Some x → get m (mod_file x) ≡ Some t → HasFault x t f → HasFault file text f
    fault_here m x t f told named there has =
        let here : Some text ≡ get m (mod_file file) = found_as before.files m (mod_file file) (Some text) told is in
        let same_name : file ≡ x = some_same file x named in
        let same_text : text ≡ t = some_same text t (here ∙ ap (λ (n : List ℕ). get m (mod_file n)) same_name ∙ there) in
        subst (λ (u : List ℕ). HasFault file u f) (sym same_text) (subst (λ (n : List ℕ). HasFault n t f) (sym same_name) has)

    meaning_here : (w : World) (p : Resolved) → Finds before.files before.keys w → Runs (Some file) w p → HasMeaning file text p
    meaning_here w p finds runs =
        let here : Some text ≡ get w.files (mod_file file) = found_in before.files before.keys w (mod_file file) (Some text) finds is in
        let same_name : file ≡ runs.file = some_same file runs.file runs.named in
        let same_text : text ≡ runs.text = some_same text runs.text (here ∙ ap (λ (n : List ℕ). get w.files (mod_file n)) same_name ∙ runs.there) in
        subst (λ (u : List ℕ). HasMeaning file u p) (sym same_text) (subst (λ (n : List ℕ). HasMeaning n runs.text p) (sym same_name) runs.meaning)

    ended : (w : World) (p : Resolved) (n : ℕ) (t : Status) → Finds before.files before.keys w → Runs (Some file) w p → EndsSo (state_of p w n).phase t → ReadsOne file text → (cuts s ≡ true) ⊎ TextAnswers file text w s → (cuts s ≡ true) ⊎ (s ≡ t)
    ended w p n t finds runs ends unique (inl cut) = inl cut
    ended w p n t finds runs ends unique (inr answers) =
        inr (texts_agree file text unique w s t answers (inr (p, meaning_here w p finds runs, record { steps = n; ends = ends })))

    run_comes : (t : Status) → IsRunAnswer t → IsAnswer t
    run_comes a.Done kind = tt
    run_comes (a.Trapped t) kind = tt
    run_comes (a.Limit k) kind = kind
    run_comes a.StepsSpent kind = tt
    run_comes a.ScreenFault kind = tt
    run_comes a.Memory kind = tt
    run_comes _ kind = absurd kind

    comes : ((f : SourceFault) × (s ≡ a.SourceFault f)) ⊎ IsRunAnswer s → IsAnswer s
    comes (inl (f, fault)) = subst (λ (t : Status). IsAnswer t) (sym fault) tt
    comes (inr kind) = run_comes s kind

    run_not : (t : Status) → IsRunAnswer t → IsUnrun t → ⊥
    run_not a.Done kind unrun = unrun
    run_not (a.Trapped t) kind unrun = unrun
    run_not (a.Limit k) kind unrun = unrun
    run_not a.StepsSpent kind unrun = unrun
    run_not a.ScreenFault kind unrun = unrun
    run_not a.Memory kind unrun = unrun
    run_not _ kind unrun = kind

    quietly : ((f : SourceFault) × (s ≡ a.SourceFault f)) ⊎ IsRunAnswer s → IsUnrun s → shown ≡ before.shown
    quietly (inl (f, fault)) unrun = ran.nothing f fault
    quietly (inr kind) unrun = absurd (run_not s kind unrun)

-- the file that a read gave, by its name and its bytes
pub file_read : (files : Option Files) (file name : List ℕ) (found : Option (List ℕ)) (text bytes : List ℕ) → file ≡ name → found ≡ Some text → bytes ≡ text → FileIs files file found → FileIs files name (Some bytes)
file_read files file name found text bytes named is same held =
    subst (λ (n : List ℕ). FileIs files n (Some bytes)) named
    (subst (λ (o : Option (List ℕ)). FileIs files file o) (is ∙ ap (λ (l : List ℕ). Some l) (sym same)) held)

-- a read that failed raised the count
pub failed_rises : {T : Type 0} {before now : ℕ} {result : Result T VolumeError} {e : VolumeError} → result ≡ Err e → e ≡ Failed → VolumeCause before now result → Rose before now
failed_rises {T} {before} {now} {result} {e} is failed cause =
    let r : Result T VolumeError = Err Failed in
    let here : VolumeCause before now r = subst (λ (x : Result T VolumeError). VolumeCause before now x) (is ∙ ap (λ (x : VolumeError). Err x) failed) cause in
    here.failed refl

-- one that didn't left it
pub quiet_of : {T : Type 0} {before now : ℕ} {result : Result T VolumeError} {x : T} → result ≡ Ok x → VolumeCause before now result → now ≡ before
quiet_of {T} {before} {now} {result} {x} is cause =
    let r : Result T VolumeError = Ok x in
    let here : VolumeCause before now r = subst (λ (y : Result T VolumeError). VolumeCause before now y) is cause in
    here.quiet
