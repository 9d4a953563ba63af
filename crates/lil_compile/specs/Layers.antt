-- What holds of the parts of a compilation.
use Rattle.std.specs.Prelude.{◌≡◌, ◌⊎◌, ℕ, ◌<◌, ◌≤◌, false, List, [], ◌∷◌, length, take, Option, Some, None, Result, Ok, Err}
use Rattle.std.specs.FinMap.{get}
use Rattle.lil_base.specs.{Names.{book_file, file_of}, declared.{fault.{Key.Key, SourceFault.SourceFault}, name.FileKind.TheVariants.{Symbols as SymbolsFile}}}
use Rattle.lil_text.specs.declared.stop.ReadStop.{ReadStop}
use Rattle.lil_text.specs.declared.stop.ReadStop.TheVariants as stop
use Rattle.lil_language.specs.declared.unit.Unit.{Unit as Tree}
use Rattle.lil_volume.specs.{declared.outside.VolumeError.VolumeError, Causes.Rose, Told.{Files, FileIs, with_writes}}
use Rattle.lil_volume.specs.declared.outside.VolumeError.TheVariants as volume
use Rattle.lil_symfile.specs.declared.tree.SymbolFile.{SymbolFile}
use Rattle.lil_book.specs.declared.book.Book.{Book}
use Rattle.lil_interfaces.specs.declared.surface.Interface.{Interface}
use Rattle.lil_iface.specs.Iface.{IsInterface}
use Rattle.lil_imports.specs.{declared.{gathering.Gathered.Gathered, stop.ImportStop.ImportStop}, Ran.Found}
use Rattle.lil_imports.specs.declared.stop.ImportStop.TheVariants as import
use Rattle.lil_compile.specs.{declared.{prepare.Prepared.Prepared, stop.CompileStop.CompileStop}, Compiled.{Compiled, compiled, naming, next_key, IsBook, IsImported, IsCompiled, HasUnitFault, HasDefinitionFault}, Command.gives_way}
use Rattle.lil_compile.specs.declared.stop.CompileStop.TheVariants as why

-- ---- answers of other calls, as they are told here
abbrev pub stopped_by : ReadStop → CompileStop
stopped_by (stop.Fault f) = why.Source f
stopped_by stop.Memory = why.Memory

abbrev pub failed_by : VolumeError → CompileStop
failed_by volume.Failed = why.Volume
failed_by volume.Memory = why.Memory

abbrev pub imported_by : ImportStop → CompileStop
imported_by (import.Source f) = why.Source f
imported_by import.Volume = why.Volume
imported_by import.Memory = why.Memory

-- ---- what a unit is compiled to
-- the bytes that were made, with the files that they are written to
abbrev pub compiled_as : List ℕ → Prepared → Compiled
compiled_as x p = record { key = p.key.0; writes = (book_file, p.book) ∷ (file_of x SymbolsFile, p.symbols) ∷ [] }

-- over a book, under its next key, where these are the interfaces of what it imports
pub record IsOver (x text : List ℕ) (u : Tree) (interfaces : List Interface) (b : Book) (c : Compiled) : Type 0 where
  pub named : naming x u ≡ None
  pub symbols : SymbolFile
  pub interface : IsInterface u interfaces (next_key b) symbols
  pub room : length b.entries < 65535
  pub is : c ≡ compiled x text b symbols

-- P says what is found as a module's symbol file
module _ (P : List ℕ → Option (List ℕ) → Type 0) where
  abbrev pub IsOverImports : (x text : List ℕ) → Tree → Book → Compiled → Type 0
  IsOverImports x text u b c = (g : Gathered) × IsImported P u g × IsOver x text u g.interfaces b c

  -- over the book that the volume holds
  abbrev pub IsOverFound : (x text : List ℕ) → Tree → Option (List ℕ) → Compiled → Type 0
  IsOverFound x text u found c = (b : Book) × IsBook found b × IsOverImports x text u b c

-- ---- the same in files, as far as they are told
abbrev pub IsUnitMade : (x text : List ℕ) → Tree → Option Files → Compiled → Type 0
IsUnitMade x text u files c = (found : Option (List ℕ)) × FileIs files book_file found × IsOverFound (Found files) x text u found c

abbrev pub IsUnitWrong : List ℕ → Tree → Option Files → SourceFault → Type 0
IsUnitWrong x u files f = (found : Option (List ℕ)) × FileIs files book_file found × HasUnitFault (Found files) x u found f

abbrev pub IsTextMade : (x text : List ℕ) → Option Files → Compiled → Type 0
IsTextMade x text files c = (found : Option (List ℕ)) × FileIs files book_file found × IsCompiled (Found files) x text found c

abbrev pub IsTextWrong : (x text : List ℕ) → Option Files → SourceFault → Type 0
IsTextWrong x text files f = (found : Option (List ℕ)) × FileIs files book_file found × HasDefinitionFault (Found files) x text found f

-- ---- the answer of a part, where the source is there: what is right was written in its order, and what is wrong is told
pub record Ran (Right : Compiled → Type 0) (Wrong : SourceFault → Type 0) (before : Option Files) (before_faults : ℕ) (after : Option Files) (after_faults : ℕ) (result : Result Key CompileStop) : Type 0 where
  pub done : (key : Key) → result ≡ Ok key → (c : Compiled) × Right c × (key.0 ≡ c.key) × (after ≡ with_writes before c.writes)
  pub there : result ≡ Err why.NoFile → ⊥
  pub fault : (f : SourceFault) → result ≡ Err (why.Source f) → Wrong f × (after ≡ before)
  pub files : (after ≡ before) ⊎ ((c : Compiled) × Right c × ((n : ℕ) × (after ≡ with_writes before (take n c.writes))))
  pub later : before_faults ≤ after_faults
  pub failed : result ≡ Err why.Volume → Rose before_faults after_faults
  pub quiet : gives_way result ≡ false → after_faults ≡ before_faults

-- the same of a text, of which no more than one answer is right where the files are told
pub record TextRan (x text : List ℕ) (before : Option Files) (before_faults : ℕ) (after : Option Files) (after_faults : ℕ) (result : Result Key CompileStop) : Type 0 where
  pub ran : Ran (IsTextMade x text before) (IsTextWrong x text before) before before_faults after after_faults result
  pub done_where : (m : Files) (c : Compiled) → before ≡ Some m → IsCompiled (Found before) x text (get m book_file) c → gives_way result ≡ false → result ≡ Ok (record { 0 = c.key })
  pub fault_where : (m : Files) (f : SourceFault) → before ≡ Some m → HasDefinitionFault (Found before) x text (get m book_file) f → gives_way result ≡ false → result ≡ Err (why.Source f)
