-- What holds of the answer of a definition that was compiled, once its lines were written.
use Rattle.std.proofs.Common.{◌≡◌, ◌≢◌, ◌⊎◌, inl, inr, ℕ, ◌≤◌, Bool, true, false, if◌then◌else◌, take, length, List, [], Option, None, Some, Result, Ok, Err, refl, sym, ◌∙◌, ap, subst, arith}
use Rattle.std.specs.Prelude.{◌-◌, codes, option_and_then}
use Rattle.std.specs.FinMap.{get}
use Rattle.std.proofs.lemmas.Bool.{both_ways, and_parts}
use Rattle.lil_base.specs.Names.{is_name}
use Rattle.lil_base.specs.declared.fault.{Key.Key, SourceFault.SourceFault}
use Rattle.lil_volume.specs.{Causes.Rose, Told.{Files, FileIs, followed_by, FollowedByPrefix}}
use Rattle.lil_compile.specs.{declared.stop.CompileStop.CompileStop, Compiled.Compiled, Command.{source_file, HasFault, IsMade, IsWritten, DefinitionCompiled}, Left.Left, LeftLaws.left_written}
use Rattle.lil_compile.specs.Command as command
use Rattle.lil_compile.specs.declared.stop.CompileStop.TheVariants as why
use Rattle.lil_session.specs.{declared.status.Status.Status, Outcome.{Blames, ReportBlames, gives_way, settled}, Report.{Became, Reported, status_lines}}
use Rattle.lil_session.specs.Words.{is_before, definition_of_word, definition_name, word_behind}
use Rattle.lil_session.specs.Defined.{Call, DefinitionAnswered, DefinitionReported, IsDefinitionAnswer, IsDone, OutcomeTold, Refuses, key_line, status_of, stopped_so}
use Rattle.lil_session.specs.declared.status.Status.TheVariants as a
use Rattle.lil_session.proofs.Telling.{settled_stays}
use Rattle.lil_session.proofs.Doing.{some_same}

-- ---- what earlier calls left
named_by : (b : Bool) (t name : List ℕ) → (b ≡ true → is_name t ≡ true) → (if b then Some t else None) ≡ Some name → is_name name ≡ true
named_by true t name good is = subst (λ (n : List ℕ). is_name n ≡ true) (some_same t name is) (good refl)
named_by false t name good is = absurd cc

name_in : (w name : List ℕ) → definition_of_word w ≡ Some name → is_name name ≡ true
name_in w name is = named_by (is_before (codes ".DEF") w) (take (length w - 4) w) name (λ e. (and_parts _ _ (and_parts _ _ e).1).1) is

name_behind : (o : Option (List ℕ)) (name : List ℕ) → option_and_then definition_of_word o ≡ Some name → is_name name ≡ true
name_behind None name is = absurd cc
name_behind (Some w) name is = name_in w name is

stays_left : (before after : Option Files) (m n : Files) → before ≡ Some m → after ≡ Some n → after ≡ before → Left m → Left n
stays_left before after m n old new same left = subst Left (some_same m n (sym old ∙ sym same ∙ new)) left

keeps_left : (words : List (List ℕ)) (name : List ℕ) (before after : Option Files) (m n : Files) → definition_name words ≡ Some name → before ≡ Some m → after ≡ Some n
    → (after ≡ before) ⊎ IsWritten name before after → Left m → Left n
keeps_left words name before after m n named old new (inl same) left = stays_left before after m n old new same left
keeps_left words name before after m n named old new (inr written) left =
    left_written name m n (name_behind (word_behind (codes "compile") words) name named)
    (subst (λ (f : Option Files). IsWritten name f (Some n)) old (subst (λ (f : Option Files). IsWritten name before f) new written)) left

pub left_again : (words : List (List ℕ)) (before after : Option Files) (m n : Files) → before ≡ Some m → after ≡ Some n → (definition_name words ≡ None → after ≡ before)
    → ((name : List ℕ) → definition_name words ≡ Some name → (after ≡ before) ⊎ IsWritten name before after) → Left m → Left n
left_again words before after m n old new same written left = by (definition_name words) refl
  where
    by : (o : Option (List ℕ)) → definition_name words ≡ o → Left n
    by None e = stays_left before after m n old new (same e) left
    by (Some name) e = keeps_left words name before after m n e old new (written name e) left

-- ---- the answer before its lines
same_way : (name : List ℕ) (o : Result Key CompileStop) → gives_way (status_of name o) ≡ command.gives_way o
same_way name (Ok key) = refl
same_way name (Err why.NoFile) = refl
same_way name (Err (why.Source f)) = refl
same_way name (Err why.Volume) = refl
same_way name (Err why.Memory) = refl

stays_settled : (name : List ℕ) (o : Result Key CompileStop) → gives_way (status_of name o) ≡ false → settled (status_of name o) ≡ true
stays_settled name (Ok key) stays = refl
stays_settled name (Err why.NoFile) stays = refl
stays_settled name (Err (why.Source f)) stays = refl
stays_settled name (Err why.Volume) stays = absurd cc
stays_settled name (Err why.Memory) stays = absurd cc

comes : (name : List ℕ) (o : Result Key CompileStop) → IsDefinitionAnswer (status_of name o)
comes name (Ok key) = tt
comes name (Err why.NoFile) = tt
comes name (Err (why.Source f)) = tt
comes name (Err why.Volume) = tt
comes name (Err why.Memory) = tt

missed_so : (name : List ℕ) (o : Result Key CompileStop) (file : List ℕ) → status_of name o ≡ a.NoFile file → (o ≡ Err why.NoFile) × (file ≡ source_file name)
missed_so name (Ok key) file is = absurd cc
missed_so name (Err why.NoFile) file is = (refl, cc)
missed_so name (Err (why.Source f)) file is = absurd cc
missed_so name (Err why.Volume) file is = absurd cc
missed_so name (Err why.Memory) file is = absurd cc

faulty_so : (name : List ℕ) (o : Result Key CompileStop) (f : SourceFault) → status_of name o ≡ a.SourceFault f → o ≡ Err (why.Source f)
faulty_so name (Ok key) f is = absurd cc
faulty_so name (Err why.NoFile) f is = absurd cc
faulty_so name (Err (why.Source g)) f is = ap (λ (h : SourceFault). Err (why.Source h)) cc
faulty_so name (Err why.Volume) f is = absurd cc
faulty_so name (Err why.Memory) f is = absurd cc

failed_so : (name : List ℕ) (o : Result Key CompileStop) → status_of name o ≡ a.VolumeFault → o ≡ Err why.Volume
failed_so name (Ok key) is = absurd cc
failed_so name (Err why.NoFile) is = absurd cc
failed_so name (Err (why.Source g)) is = absurd cc
failed_so name (Err why.Volume) is = refl
failed_so name (Err why.Memory) is = absurd cc

undone : (name : List ℕ) (stop : CompileStop) → stopped_so name stop ≢ a.Done
undone name why.NoFile is = cc
undone name (why.Source f) is = cc
undone name why.Volume is = cc
undone name why.Memory is = cc

blamed_by : (name : List ℕ) (o : Result Key CompileStop) (before now : ℕ) → (command.gives_way o ≡ false → now ≡ before) → (now ≡ before) ⊎ ((status_of name o ≡ a.VolumeFault) ⊎ (status_of name o ≡ a.Memory))
blamed_by name (Ok key) before now quiet = inl (quiet refl)
blamed_by name (Err why.NoFile) before now quiet = inl (quiet refl)
blamed_by name (Err (why.Source f)) before now quiet = inl (quiet refl)
blamed_by name (Err why.Volume) before now quiet = inr (inl refl)
blamed_by name (Err why.Memory) before now quiet = inr (inr refl)

-- ---- want of memory before anything was compiled
pub not_compiled : (name : List ℕ) (files : Option Files) (faults : ℕ) → DefinitionCompiled name files faults files faults (Err why.Memory)
not_compiled name files faults = record {
  done = λ key e. absurd cc;
  missed = λ e. absurd cc;
  fault = λ f e. absurd cc;
  done_where = λ m d told is stays. absurd cc;
  missed_where = λ m told none stays. absurd cc;
  fault_where = λ m f told is stays. absurd cc;
  files = inl refl;
  kept = λ e. refl;
  kept_too = λ f e. refl;
  later = omega arith;
  failed = λ e. absurd cc;
  quiet = λ stays. absurd cc;
}

-- its line is the same, whatever the file at hand is
pub memory_of : {file word : List ℕ} {old : Option (List ℕ)} {old_faults : ℕ} {new : Option (List ℕ)} {new_faults : ℕ} {result : Status} → Reported file a.Memory old old_faults new new_faults result → Reported word a.Memory old old_faults new new_faults result
memory_of r = record { passes = r.passes; became = r.became; whole = r.whole; cut = r.cut; still = r.still; tried = r.tried; cause = r.cause }

module _ (call : Call) (result : Status) where
  abbrev Compiled_to : Result Key CompileStop → Type 0
  Compiled_to o = DefinitionCompiled call.name call.before call.before_faults call.after call.after_faults o

  -- what holds of the answer before its lines, and of the report's fault and of Memory, holds of the answer
  by_told : (P : Status → Type 0) (o : Result Key CompileStop) → OutcomeTold call o result → P (status_of call.name o) → (settled (status_of call.name o) ≡ true → P a.ReportFault) → P a.Memory → P result
  by_told P (Ok key) (inl (inl told)) same failed wanted = subst P (sym told.0) same
  by_told P (Ok key) (inl (inr told)) same failed wanted = subst P (sym told.0) (failed refl)
  by_told P (Ok key) (inr reported) same failed wanted = subst P (sym (reported.passes refl)) wanted
  by_told P (Err stop) (inl reported) same failed wanted = by_became reported.became
    where
      by_became : Became (stopped_so call.name stop) result → P result
      by_became (inl is) = subst P (sym is) same
      by_became (inr (inl (stays, lines, is))) = subst P (sym is) (failed (stays_settled call.name (Err stop) stays))
      by_became (inr (inr (stays, made, is))) = subst P (sym is) wanted
  by_told P (Err stop) (inr reported) same failed wanted = subst P (sym (reported.passes refl)) wanted

  done_by : (o : Result Key CompileStop) → Compiled_to o → OutcomeTold call o result → result ≡ a.Done → (d : IsDone call) × (call.new ≡ followed_by call.old (key_line call.name d.of.key))
  done_by (Ok key) made (inl (inl told)) is =
      let d = made.done key refl in
      (record { of = d.0; made = d.1; written = d.3 }, subst (λ (k : ℕ). call.new ≡ followed_by call.old (key_line call.name k)) d.2 told.1)
  done_by (Ok key) made (inl (inr told)) is = absurd (no (sym told.0 ∙ is))
    where
      no : a.ReportFault ≡ a.Done → ⊥
      no e = cc
  done_by (Ok key) made (inr reported) is = absurd (no (sym (reported.passes refl) ∙ is))
    where
      no : a.Memory ≡ a.Done → ⊥
      no e = cc
  done_by (Err stop) made told is = absurd (by_told (λ (t : Status). t ≡ a.Done → ⊥) (Err stop) told (undone call.name stop) (λ ok e. cc) (λ e. cc) is)

  cut_by : (o : Result Key CompileStop) → Compiled_to o → OutcomeTold call o result → result ≡ a.ReportFault
      → ((d : IsDone call) × FollowedByPrefix call.old (key_line call.name d.of.key) call.new)
      ⊎ ((s : Status) × Refuses call s × (call.after ≡ call.before) × FollowedByPrefix call.old (status_lines call.file s) call.new)
  cut_by (Ok key) made (inl (inl told)) is = absurd (no (sym told.0 ∙ is))
    where
      no : a.Done ≡ a.ReportFault → ⊥
      no e = cc
  cut_by (Ok key) made (inl (inr told)) is =
      let d = made.done key refl in
      inl (record { of = d.0; made = d.1; written = d.3 }, subst (λ (k : ℕ). FollowedByPrefix call.old (key_line call.name k) call.new) d.2 told.1)
  cut_by (Ok key) made (inr reported) is = absurd (no (sym (reported.passes refl) ∙ is))
    where
      no : a.Memory ≡ a.ReportFault → ⊥
      no e = cc
  cut_by (Err why.NoFile) made (inl reported) is = inr (a.NoFile (source_file call.name), inl (refl, made.missed refl), made.kept refl, reported.cut is)
  cut_by (Err (why.Source f)) made (inl reported) is = inr (a.SourceFault f, inr (f, refl, made.fault f refl), made.kept_too f refl, reported.cut is)
  cut_by (Err why.Volume) made (inl reported) is = absurd (no (sym (reported.passes refl) ∙ is))
    where
      no : a.VolumeFault ≡ a.ReportFault → ⊥
      no e = cc
  cut_by (Err why.Memory) made (inl reported) is = absurd (no (sym (reported.passes refl) ∙ is))
    where
      no : a.Memory ≡ a.ReportFault → ⊥
      no e = cc
  cut_by (Err stop) made (inr reported) is = absurd (no (sym (reported.passes refl) ∙ is))
    where
      no : a.Memory ≡ a.ReportFault → ⊥
      no e = cc

  report_by : (o : Result Key CompileStop) → OutcomeTold call o result → ReportBlames call.old_faults call.new_faults result
  report_by (Ok key) (inl (inl told)) = record { later = omega (arith, told.2); rose = λ is. absurd (no (sym told.0 ∙ is)); quiet = λ ok. told.2 }
    where
      no : a.Done ≡ a.ReportFault → ⊥
      no e = cc
  report_by (Ok key) (inl (inr told)) = record { later = told.2; rose = λ is. told.3; quiet = λ ok. absurd (both_ways (settled result) (ap settled told.0) ok) }
  report_by (Ok key) (inr reported) = reported.cause
  report_by (Err stop) (inl reported) = reported.cause
  report_by (Err stop) (inr reported) = reported.cause

  lines_by : (o : Result Key CompileStop) → OutcomeTold call o result → settled result ≡ true → result ≢ a.Done → call.new ≡ followed_by call.old (status_lines call.file result)
  lines_by (Ok key) (inl (inl told)) ok other = absurd (other told.0)
  lines_by (Ok key) (inl (inr told)) ok other = absurd (both_ways (settled result) (ap settled told.0) ok)
  lines_by (Ok key) (inr reported) ok other = absurd (both_ways (settled result) (ap settled (reported.passes refl)) ok)
  lines_by (Err stop) (inl reported) ok other =
      reported.whole ok ∙ ap (λ (s : Status). followed_by call.old (status_lines call.file s)) (sym (by_told (λ (t : Status). settled t ≡ true → t ≡ stopped_so call.name stop) (Err stop) (inl reported) (λ is. refl) (λ fine is. cc) (λ is. cc) ok))
  lines_by (Err stop) (inr reported) ok other = absurd (both_ways (settled result) (ap settled (reported.passes refl)) ok)

  still_by : (o : Result Key CompileStop) → OutcomeTold call o result → gives_way result ≡ true
      → FollowedByPrefix call.old (status_lines [] result) call.new × ((call.new ≡ followed_by call.old (status_lines [] result)) ⊎ Rose call.old_faults call.new_faults)
  still_by (Ok key) (inl (inl told)) gave = absurd (both_ways (gives_way result) (ap gives_way told.0) gave)
  still_by (Ok key) (inl (inr told)) gave = absurd (both_ways (gives_way result) (ap gives_way told.0) gave)
  still_by (Ok key) (inr reported) gave = (reported.still gave, reported.tried gave)
  still_by (Err stop) (inl reported) gave = (reported.still gave, reported.tried gave)
  still_by (Err stop) (inr reported) gave = (reported.still gave, reported.tried gave)

  module _ (o : Result Key CompileStop) (made : Compiled_to o) (told : OutcomeTold call o result) where
    abbrev inner : Status
    inner = status_of call.name o

    same_settled : settled result ≡ true → result ≡ inner
    same_settled = by_told (λ (t : Status). settled t ≡ true → t ≡ inner) o told (λ is. refl) (λ ok is. cc) (λ is. cc)

    inner_is : (t : Status) → a.ReportFault ≢ t → a.Memory ≢ t → result ≡ t → inner ≡ t
    inner_is t no_report no_memory = by_told (λ (s : Status). s ≡ t → inner ≡ t) o told (λ is. is) (λ ok is. absurd (no_report is)) (λ is. absurd (no_memory is))

    way_of : settled inner ≡ true → command.gives_way o ≡ false
    way_of ok = sym (same_way call.name o) ∙ settled_stays inner ok

    -- a settled answer is that of an outcome that is known
    result_is : (p : Result Key CompileStop) → settled result ≡ true → (command.gives_way o ≡ false → o ≡ p) → result ≡ status_of call.name p
    result_is p ok known =
        let same = same_settled ok in
        same ∙ ap (status_of call.name) (known (way_of (ap settled (sym same) ∙ ok)))

    missed_is : (file : List ℕ) → result ≡ a.NoFile file → (o ≡ Err why.NoFile) × (file ≡ source_file call.name)
    missed_is file is = missed_so call.name o file (inner_is (a.NoFile file) (λ e. cc) (λ e. cc) is)

    fault_is : (f : SourceFault) → result ≡ a.SourceFault f → o ≡ Err (why.Source f)
    fault_is f is = faulty_so call.name o f (inner_is (a.SourceFault f) (λ e. cc) (λ e. cc) is)

    kept : Refuses call result → call.after ≡ call.before
    kept (inl (is, there)) = made.kept (missed_is (source_file call.name) is).0
    kept (inr (f, is, has)) = made.kept_too f (fault_is f is)

    volume_cause : Blames a.VolumeFault call.before_faults call.after_faults result
    volume_cause =
        by_told (λ (t : Status). Blames a.VolumeFault call.before_faults call.after_faults t) o told
        (record { later = made.later; rose = λ is. made.failed (failed_so call.name o is); quiet = blamed_by call.name o call.before_faults call.after_faults made.quiet })
        (λ ok. record { later = made.later; rose = λ is. cc; quiet = inl (made.quiet (way_of ok)) })
        (record { later = made.later; rose = λ is. cc; quiet = inr (inr refl) })

    answered_by : DefinitionReported call result → DefinitionAnswered call result
    answered_by reported = record {
      done_only = done_by o made told;
      done_where = λ m c held is ok. result_is _ ok (made.done_where m c held is);
      no_file_only = λ file is. ((missed_is file is).1, made.missed (missed_is file is).0);
      no_file_where = λ m held none ok. result_is _ ok (made.missed_where m held none);
      fault_only = λ f is. made.fault f (fault_is f is);
      fault_where = λ m f held has ok. result_is _ ok (made.fault_where m f held has);
      no_other = by_told IsDefinitionAnswer o told (comes call.name o) (λ ok. tt) tt;
      files = made.files;
      kept = kept;
      volume_cause = volume_cause;
      report_cause = report_by o told;
      lines = lines_by o told;
      fault_line = λ gave. (still_by o told gave).0;
      line_tried = λ gave. (still_by o told gave).1;
      report_prefix = cut_by o made told;
      reported = reported;
    }

pub defined : {call : Call} {result : Status} → DefinitionReported call result → DefinitionAnswered call result
defined {call} {result} r = answered_by call result r.outcome r.compiled r.told r
