-- What holds of the answer of a compilation.
use Rattle.std.proofs.Common.{◌≡◌, inl, inr, ℕ, ◌≤◌, List, Option, None, Some, Result, Err, refl, sym, ◌∙◌, subst, arith}
use Rattle.std.specs.{FinMap.get, Prelude.IsErrAnd}
use Rattle.lil_base.specs.{Names.book_file, declared.fault.{Key.Key, SourceFault.SourceFault}}
use Rattle.lil_volume.specs.{declared.outside.VolumeError.VolumeError, Causes.{Rose, VolumeCause}, Told.{Files, FileIs}}
use Rattle.lil_volume.specs.declared.outside.VolumeError.TheVariants as volume
use Rattle.lil_imports.specs.Ran.{Found}
use Rattle.lil_compile.specs.{declared.stop.CompileStop.CompileStop, Compiled.{Compiled, IsCompiled, HasDefinitionFault}, Command.{source_file, IsMade, HasFault, DefinitionCompiled}, Layers.{failed_by, IsTextMade, IsTextWrong, TextRan}}
use Rattle.lil_compile.specs.declared.stop.CompileStop.TheVariants as why
use Rattle.lil_compile.proofs.Parts.{found_as, err_is}

module _ (x : List ℕ) (before : Option Files) (before_faults : ℕ) where
  -- ---- no source was read
  module _ (after_faults : ℕ) (later : before_faults ≤ after_faults) where
    pub whole_memory : DefinitionCompiled x before before_faults before after_faults (Err why.Memory)
    whole_memory = record {
      done = λ key e. absurd cc;
      missed = λ e. absurd cc;
      fault = λ f e. absurd cc;
      done_where = λ m c told is stays. absurd cc;
      missed_where = λ m told none stays. absurd cc;
      fault_where = λ m f told is stays. absurd cc;
      files = inl refl;
      kept = λ e. refl;
      kept_too = λ f e. refl;
      later = later;
      failed = λ e. absurd cc;
      quiet = λ stays. absurd cc;
    }

    whole_volume : Rose before_faults after_faults → DefinitionCompiled x before before_faults before after_faults (Err why.Volume)
    whole_volume rose = record {
      done = λ key e. absurd cc;
      missed = λ e. absurd cc;
      fault = λ f e. absurd cc;
      done_where = λ m c told is stays. absurd cc;
      missed_where = λ m told none stays. absurd cc;
      fault_where = λ m f told is stays. absurd cc;
      files = inl refl;
      kept = λ e. refl;
      kept_too = λ f e. refl;
      later = later;
      failed = λ e. rose;
      quiet = λ stays. absurd cc;
    }

    pub whole_failed : (e : VolumeError) → (failed_by e ≡ why.Volume → Rose before_faults after_faults) → DefinitionCompiled x before before_faults before after_faults (Err (failed_by e))
    whole_failed volume.Failed rose = whole_volume (rose refl)
    whole_failed volume.Memory rose = whole_memory

  -- ---- there is no source
  none_some : (m : Files) (o : Option (List ℕ)) (text : List ℕ) → o ≡ None → o ≡ Some text → ⊥
  none_some m o text h k = cc

  not_there : FileIs before (source_file x) None → (m : Files) (text : List ℕ) → before ≡ Some m → FileIs before (source_file x) (Some text) → ⊥
  not_there missed m text told there =
      none_some m (get m (source_file x)) text (sym (found_as before m (source_file x) None told missed)) (sym (found_as before m (source_file x) (Some text) told there))

  pub whole_missed : FileIs before (source_file x) None → DefinitionCompiled x before before_faults before before_faults (Err why.NoFile)
  whole_missed missed = record {
    done = λ key e. absurd cc;
    missed = λ e. missed;
    fault = λ f e. absurd cc;
    done_where = λ m c told is stays. absurd (not_there missed m is.text told is.source);
    missed_where = λ m told none stays. refl;
    fault_where = λ m f told is stays. absurd (not_there missed m is.text told is.source);
    files = inl refl;
    kept = λ e. refl;
    kept_too = λ f e. refl;
    later = omega arith;
    failed = λ e. absurd cc;
    quiet = λ stays. refl;
  }

  -- ---- the source was found
  module _ (text : List ℕ) (there : FileIs before (source_file x) (Some text)) (after : Option Files) (after_faults : ℕ) (r : Result Key CompileStop) where
    made_of : (c : Compiled) → IsTextMade x text before c → IsMade x before c
    made_of c h = record { text = text; source = there; found = h.0; book = h.1; compiled = h.2 }

    fault_of : (f : SourceFault) → IsTextWrong x text before f → HasFault x before f
    fault_of f h = record { text = text; source = there; found = h.0; book = h.1; fault = h.2 }

    same_some : (s t : List ℕ) → Some s ≡ Some t → s ≡ t
    same_some s t e = cc

    module _ (m : Files) (told : before ≡ Some m) where
      same_text : (s : List ℕ) → FileIs before (source_file x) (Some s) → s ≡ text
      same_text s h = same_some s text (found_as before m (source_file x) (Some s) told h ∙ sym (found_as before m (source_file x) (Some text) told there))

      compiled_here : (c : Compiled) → IsMade x before c → IsCompiled (Found before) x text (get m book_file) c
      compiled_here c h =
          subst (λ (s : List ℕ). IsCompiled (Found before) x s (get m book_file) c) (same_text h.text h.source)
          (subst (λ (o : Option (List ℕ)). IsCompiled (Found before) x h.text o c) (found_as before m book_file h.found told h.book) h.compiled)

      fault_here : (f : SourceFault) → HasFault x before f → HasDefinitionFault (Found before) x text (get m book_file) f
      fault_here f h =
          subst (λ (s : List ℕ). HasDefinitionFault (Found before) x s (get m book_file) f) (same_text h.text h.source)
          (subst (λ (o : Option (List ℕ)). HasDefinitionFault (Found before) x h.text o f) (found_as before m book_file h.found told h.book) h.fault)

      is_there : get m (source_file x) ≡ None → ⊥
      is_there none = none_some m (get m (source_file x)) text none (sym (found_as before m (source_file x) (Some text) told there))

    pub whole_ran : TextRan x text before before_faults after after_faults r → DefinitionCompiled x before before_faults after after_faults r
    whole_ran t = record {
      done = λ key e. let d = t.ran.done key e in (d.0, made_of d.0 d.1, d.2, d.3);
      missed = λ e. absurd (t.ran.there e);
      fault = λ f e. fault_of f (t.ran.fault f e).0;
      done_where = λ m c told is stays. t.done_where m c told (compiled_here m told c is) stays;
      missed_where = λ m told none stays. absurd (is_there m told none);
      fault_where = λ m f told is stays. t.fault_where m f told (fault_here m told f is) stays;
      files = elim t.ran.files [ inl same ↦ inl same | inr cut ↦ inr (record { of = cut.0; made = made_of cut.0 cut.1; n = cut.2.0; is = cut.2.1 }) ];
      kept = λ e. absurd (t.ran.there e);
      kept_too = λ f e. (t.ran.fault f e).1;
      later = t.ran.later;
      failed = t.ran.failed;
      quiet = t.ran.quiet;
    }

-- the same file under the same name
pub file_here : (files : Option Files) {n m : List ℕ} {o p : Option (List ℕ)} → n ≡ m → o ≡ p → FileIs files n o → FileIs files m p
file_here files {n} {m} {o} name found h = subst (λ (s : Option (List ℕ)). FileIs files m s) found (subst (λ (s : List ℕ). FileIs files s o) name h)

-- ---- the answer behind the call that reads the source, which changes nothing
module _ (x : List ℕ) {before mid : Option Files} {n k : ℕ} (same : mid ≡ before) where
  rose_by : {T : Type 0} (e : VolumeError) → VolumeCause {T = T} n k (Err e) → failed_by e ≡ why.Volume → Rose n k
  rose_by volume.Failed cause is = cause.failed refl
  rose_by volume.Memory cause is = absurd cc

  pub read_failed : (T : Type 0) (r : Result Key CompileStop) (e : VolumeError) → IsErrAnd r (λ s. s ≡ failed_by e) → VolumeCause {T = T} n k (Err e) → DefinitionCompiled x before n mid k r
  read_failed T r e is cause =
      subst (λ (f : Option Files). DefinitionCompiled x before n f k r) (sym same)
      (subst (λ (s : Result Key CompileStop). DefinitionCompiled x before n before k s) (err_is r (failed_by e) is) (whole_failed x before n k cause.later e (rose_by e cause)))

  module _ (quiet : k ≡ n) where
    pub read_missed : FileIs before (source_file x) None → DefinitionCompiled x before n mid k (Err why.NoFile)
    read_missed missed =
        subst (λ (f : Option Files). DefinitionCompiled x before n f k (Err why.NoFile)) (sym same)
        (subst (λ (m : ℕ). DefinitionCompiled x before n before m (Err why.NoFile)) (sym quiet) (whole_missed x before n missed))

    pub read_text : (text : List ℕ) → FileIs before (source_file x) (Some text) → (after : Option Files) (m : ℕ) (r : Result Key CompileStop) → TextRan x text mid k after m r → DefinitionCompiled x before n after m r
    read_text text there after m r ran =
        whole_ran x before n text there after m r
        (subst (λ (f : Option Files). TextRan x text f n after m r) same (subst (λ (count : ℕ). TextRan x text mid count after m r) quiet ran))
