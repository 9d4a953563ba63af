-- What a part's answer says of the whole.
use Rattle.std.proofs.Common.{◌≡◌, ◌⊎◌, inl, inr, ℕ, ◌≤◌, false, List, take, Option, None, Some, Result, Ok, Err, refl, sym, ◌∙◌, ap, subst, arith}
use Rattle.std.specs.{FinMap.get, Prelude.{IsErrAnd, MatchOption}}
use Rattle.lil_base.specs.{Names.{book_file, file_of}, declared.{fault.{Key.Key, SourceFault.SourceFault}, name.FileKind.TheVariants.{Symbols as SymbolsFile}}}
use Rattle.lil_text.specs.declared.stop.ReadStop.{ReadStop}
use Rattle.lil_text.specs.declared.stop.ReadStop.TheVariants as stop
use Rattle.lil_volume.specs.{declared.outside.VolumeError.VolumeError, Causes.{Rose, VolumeCause}, Told.{Files, FileIs, with_file, with_writes}}
use Rattle.lil_volume.specs.declared.outside.VolumeError.TheVariants as volume
use Rattle.lil_book.specs.declared.book.Book.{Book}
use Rattle.lil_imports.specs.{declared.stop.ImportStop.ImportStop, Ran.gives_way}
use Rattle.lil_imports.specs.declared.stop.ImportStop.TheVariants as import
use Rattle.lil_compile.specs.{declared.{prepare.Prepared.Prepared, stop.CompileStop.CompileStop}, Compiled.{Compiled, IsBook, IsDamaged}, Layers.{compiled_as, failed_by, stopped_by, imported_by, Ran}}
use Rattle.lil_compile.specs.declared.stop.CompileStop.TheVariants as why

-- what was found under a name in files that are told
pub found_as : (files : Option Files) (m : Files) (name : List ℕ) (found : Option (List ℕ)) → files ≡ Some m → FileIs files name found → found ≡ get m name
found_as files m name found told is = subst (λ (f : Option Files). FileIs f name found) told is

pub some_found : (files : Option Files) (name : List ℕ) → (found : Option (List ℕ)) × FileIs files name found
some_found None name = (None, tt)
some_found (Some m) name = (get m name, refl)

-- what was read of the book
pub book_there : (found : Option (List ℕ)) {o : Option Book} {b : Book} → MatchOption o (IsDamaged found) (λ c. IsBook found c) → o ≡ Some b → IsBook found b
book_there found h is = subst (λ (o : Option Book). MatchOption o (IsDamaged found) (λ c. IsBook found c)) is h

pub book_damaged : (found : Option (List ℕ)) {o : Option Book} → MatchOption o (IsDamaged found) (λ c. IsBook found c) → o ≡ None → IsDamaged found
book_damaged found h is = subst (λ (o : Option Book). MatchOption o (IsDamaged found) (λ c. IsBook found c)) is h

-- what a `?` answered
pub err_is : (r : Result Key CompileStop) (e : CompileStop) → IsErrAnd r (λ s. s ≡ e) → Err e ≡ r
err_is (Ok key) e h = absurd h
err_is (Err s) e h = ap (λ (x : CompileStop). Err x) (sym h)

module _ (Right : Compiled → Type 0) (Wrong : SourceFault → Type 0) (before : Option Files) (before_faults : ℕ) (after : Option Files) (after_faults : ℕ) where
  abbrev Here : Result Key CompileStop → Type 0
  Here r = Ran Right Wrong before before_faults after after_faults r

  abbrev Cut : Type 0
  Cut = (after ≡ before) ⊎ ((c : Compiled) × Right c × ((n : ℕ) × (after ≡ with_writes before (take n c.writes))))

  pub ran_memory : Cut → before_faults ≤ after_faults → Here (Err why.Memory)
  ran_memory cut later = record {
    done = λ key e. absurd cc;
    there = λ e. cc;
    fault = λ f e. absurd cc;
    files = cut;
    later = later;
    failed = λ e. absurd cc;
    quiet = λ e. absurd cc;
  }

  ran_volume : Cut → before_faults ≤ after_faults → Rose before_faults after_faults → Here (Err why.Volume)
  ran_volume cut later rose = record {
    done = λ key e. absurd cc;
    there = λ e. cc;
    fault = λ f e. absurd cc;
    files = cut;
    later = later;
    failed = λ e. rose;
    quiet = λ e. absurd cc;
  }

  ran_failed : (T : Type 0) (e : VolumeError) → Cut → VolumeCause {T = T} before_faults after_faults (Err e) → Here (Err (failed_by e))
  ran_failed T volume.Failed cut cause = ran_volume cut cause.later (cause.failed refl)
  ran_failed T volume.Memory cut cause = ran_memory cut cause.later

  -- a call of the volume failed
  pub part_failed : (T : Type 0) (r : Result Key CompileStop) (e : VolumeError) → IsErrAnd r (λ s. s ≡ failed_by e) → Cut → VolumeCause {T = T} before_faults after_faults (Err e) → Here r
  part_failed T r e is cut cause = subst Here (err_is r (failed_by e) is) (ran_failed T e cut cause)

  same_source : (f g : SourceFault) (r : Result Key CompileStop) → r ≡ Err (why.Source f) → r ≡ Err (why.Source g) → f ≡ g
  same_source f g r h k = cc

  pub ran_wrong : (f : SourceFault) → Wrong f → after ≡ before → after_faults ≡ before_faults → Here (Err (why.Source f))
  ran_wrong f wrong same quiet = record {
    done = λ key e. absurd cc;
    there = λ e. cc;
    fault = λ g e. (subst Wrong (same_source f g _ refl e) wrong, same);
    files = inl same;
    later = omega arith;
    failed = λ e. absurd cc;
    quiet = λ e. quiet;
  }

  ran_stopped : (s : ReadStop) → ((f : SourceFault) → s ≡ stop.Fault f → Wrong f) → after ≡ before → after_faults ≡ before_faults → Here (Err (stopped_by s))
  ran_stopped (stop.Fault f) wrong same quiet = ran_wrong f (wrong f refl) same quiet
  ran_stopped stop.Memory wrong same quiet = ran_memory (inl same) (omega arith)

  -- a call that reads or checks stopped
  pub part_stopped : (r : Result Key CompileStop) (s : ReadStop) → IsErrAnd r (λ e. e ≡ stopped_by s) → ((f : SourceFault) → s ≡ stop.Fault f → Wrong f) → after ≡ before → after_faults ≡ before_faults → Here r
  part_stopped r s is wrong same quiet = subst Here (err_is r (stopped_by s) is) (ran_stopped s wrong same quiet)

  ran_imported : (s : ImportStop) → ((f : SourceFault) → s ≡ import.Source f → Wrong f) → after ≡ before → before_faults ≤ after_faults
      → (s ≡ import.Volume → Rose before_faults after_faults) → (gives_way (Err s) ≡ false → after_faults ≡ before_faults) → Here (Err (imported_by s))
  ran_imported (import.Source f) wrong same later failed quiet = ran_wrong f (wrong f refl) same (quiet refl)
  ran_imported import.Volume wrong same later failed quiet = ran_volume (inl same) later (failed refl)
  ran_imported import.Memory wrong same later failed quiet = ran_memory (inl same) later

  -- gathering stopped
  pub part_imported : (r : Result Key CompileStop) (s : ImportStop) → IsErrAnd r (λ e. e ≡ imported_by s) → ((f : SourceFault) → s ≡ import.Source f → Wrong f) → after ≡ before
      → before_faults ≤ after_faults → (s ≡ import.Volume → Rose before_faults after_faults) → (gives_way (Err s) ≡ false → after_faults ≡ before_faults) → Here r
  part_imported r s is wrong same later failed quiet = subst Here (err_is r (imported_by s) is) (ran_imported s wrong same later failed quiet)

-- ---- of one part the same holds as of another that says less
pub ran_weaker : {R S : Compiled → Type 0} {W X : SourceFault → Type 0} {before after : Option Files} {n m : ℕ} {r : Result Key CompileStop}
    → ((c : Compiled) → R c → S c) → ((f : SourceFault) → W f → X f) → Ran R W before n after m r → Ran S X before n after m r
ran_weaker right wrong h = record {
  done = λ key e. let d = h.done key e in (d.0, right d.0 d.1, d.2, d.3);
  there = h.there;
  fault = λ f e. let d = h.fault f e in (wrong f d.0, d.1);
  files = elim h.files [ inl same ↦ inl same | inr cut ↦ inr (cut.0, right cut.0 cut.1, cut.2) ];
  later = h.later;
  failed = h.failed;
  quiet = h.quiet;
}

-- ---- behind a call that changed no file and failed nowhere
pub ran_behind : {R S : Compiled → Type 0} {W X : SourceFault → Type 0} {before mid after : Option Files} {n k m : ℕ} {r : Result Key CompileStop}
    → mid ≡ before → k ≡ n → ((c : Compiled) → R c → S c) → ((f : SourceFault) → W f → X f) → Ran R W mid k after m r → Ran S X before n after m r
ran_behind {R} {S} {W} {X} {before} {mid} {after} {n} {k} {m} {r} same quiet right wrong h =
    ran_weaker right wrong (subst (λ (f : Option Files). Ran R W f n after m r) same (subst (λ (j : ℕ). Ran R W mid j after m r) quiet h))

-- ---- the writes of what was made
module _ (x : List ℕ) (made : Prepared) (before after : Option Files) where
  abbrev Written : ℕ → Type 0
  Written n = after ≡ with_writes before (take n (compiled_as x made).writes)

  abbrev WrittenSo : Type 0
  WrittenSo = (after ≡ before) ⊎ ((c : Compiled) × (c ≡ compiled_as x made) × ((n : ℕ) × (after ≡ with_writes before (take n c.writes))))

  so_far : (n : ℕ) → Written n → WrittenSo
  so_far n is = inr (compiled_as x made, refl, (n, is))

  -- the first failed
  pub first_cut : (name : List ℕ) → name ≡ book_file → (after ≡ before) ⊎ (after ≡ with_file before name made.book) → WrittenSo
  first_cut name named (inl same) = inl same
  first_cut name named (inr new) = so_far 1 (new ∙ ap (λ (n : List ℕ). with_file before n made.book) named)

  -- the second failed
  pub second_cut : (mid : Option Files) (name other : List ℕ) → name ≡ book_file → other ≡ file_of x SymbolsFile → mid ≡ with_file before name made.book
      → (after ≡ mid) ⊎ (after ≡ with_file mid other made.symbols) → WrittenSo
  second_cut mid name other named called first (inl same) = so_far 1 (same ∙ first ∙ ap (λ (n : List ℕ). with_file before n made.book) named)
  second_cut mid name other named called first (inr new) = so_far 2 (new ∙ (λ j. with_file ((first ∙ ap (λ (n : List ℕ). with_file before n made.book) named) j) (called j) made.symbols))
