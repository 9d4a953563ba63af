-- The compilation of a definition in a volume, and what holds of each of its answers.
use Rattle.std.specs.Prelude.{◌≡◌, ◌⊎◌, ℕ, ◌≤◌, Bool, true, false, List, take, Option, Some, None, Result, Ok, Err}
use Rattle.std.specs.FinMap.{get}
use Rattle.lil_base.specs.{Names.{book_file, file_of}, declared.{fault.{Key.Key, SourceFault.SourceFault}, name.FileKind.TheVariants.{Definition as DefinitionFile}}}
use Rattle.lil_volume.specs.{Causes.Rose, Told.{Files, FileIs, with_writes}}
use Rattle.lil_imports.specs.Ran.{Found}
use Rattle.lil_compile.specs.{declared.stop.CompileStop.CompileStop, Compiled.{Compiled, IsCompiled, HasDefinitionFault}}
use Rattle.lil_compile.specs.declared.stop.CompileStop.TheVariants as why

-- the source of the definition of a module
abbrev pub source_file : List ℕ → List ℕ
source_file x = file_of x DefinitionFile

-- the volume failed, or memory was wanted
abbrev pub gives_way : Result Key CompileStop → Bool
gives_way (Ok key) = false
gives_way (Err (why.NoFile)) = false
gives_way (Err (why.Source f)) = false
gives_way (Err (why.Volume)) = true
gives_way (Err (why.Memory)) = true

-- what the text of a definition in these files, as far as they are told, is compiled to
pub record IsMade (x : List ℕ) (files : Option Files) (c : Compiled) : Type 0 where
  pub text : List ℕ
  pub source : FileIs files (source_file x) (Some text)
  pub found : Option (List ℕ)
  pub book : FileIs files book_file found
  pub compiled : IsCompiled (Found files) x text found c

-- the fault that it has
pub record HasFault (x : List ℕ) (files : Option Files) (f : SourceFault) : Type 0 where
  pub text : List ℕ
  pub source : FileIs files (source_file x) (Some text)
  pub found : Option (List ℕ)
  pub book : FileIs files book_file found
  pub fault : HasDefinitionFault (Found files) x text found f

-- the files after the first n of the writes
pub record IsWritten (x : List ℕ) (before after : Option Files) : Type 0 where
  pub of : Compiled
  pub made : IsMade x before of
  pub n : ℕ
  pub is : after ≡ with_writes before (take n of.writes)

-- WHAT HOLDS OF EACH ANSWER, whatever the volume does. Where a field begins with files m, the volume tells them.
pub record DefinitionCompiled (x : List ℕ) (before : Option Files) (before_faults : ℕ) (after : Option Files) (after_faults : ℕ) (result : Result Key CompileStop) : Type 0 where
  -- A key is answered only where the source has no fault. It is that of the new entry, and all writes were done.
  pub done : (key : Key) → result ≡ Ok key → (c : Compiled) × IsMade x before c × (key.0 ≡ c.key) × (after ≡ with_writes before c.writes)
  -- The source is missed only where it isn't there.
  pub missed : result ≡ Err why.NoFile → FileIs before (source_file x) None
  -- A fault is one of the source.
  pub fault : (f : SourceFault) → result ≡ Err (why.Source f) → HasFault x before f
  -- Unless the volume fails or memory is wanted, a source without a fault gets its key, one that isn't there is missed, and a fault is
  -- told.
  pub done_where : (m : Files) (c : Compiled) → before ≡ Some m → IsMade x before c → gives_way result ≡ false → result ≡ Ok (record { 0 = c.key })
  pub missed_where : (m : Files) → before ≡ Some m → get m (source_file x) ≡ None → gives_way result ≡ false → result ≡ Err why.NoFile
  pub fault_where : (m : Files) (f : SourceFault) → before ≡ Some m → HasFault x before f → gives_way result ≡ false → result ≡ Err (why.Source f)
  -- The files are as before, or the first of the writes were done, in their order; none was where the source is missed or has a fault.
  pub files : (after ≡ before) ⊎ IsWritten x before after
  pub kept : result ≡ Err why.NoFile → after ≡ before
  pub kept_too : (f : SourceFault) → result ≡ Err (why.Source f) → after ≡ before
  -- The volume's fault is answered only where its count rose, and it rises only where the answer is this fault or want of memory.
  pub later : before_faults ≤ after_faults
  pub failed : result ≡ Err why.Volume → Rose before_faults after_faults
  pub quiet : gives_way result ≡ false → after_faults ≡ before_faults
