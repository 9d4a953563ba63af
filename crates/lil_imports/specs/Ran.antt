-- What holds of the answer of gathering.
use Rattle.std.specs.Prelude.{◌≡◌, ℕ, ◌≤◌, Bool, true, false, List, Option, Result, Ok, Err}
use Rattle.lil_base.specs.{Names.file_of, declared.{fault.SourceFault.SourceFault, name.FileKind.TheVariants.{Symbols as SymbolsFile}}}
use Rattle.lil_text.specs.declared.tree.Ident.{Ident}
use Rattle.lil_language.specs.declared.unit.Unit.{Unit as Tree}
use Rattle.lil_volume.specs.{declared.outside.VolumeError.VolumeError, Causes.Rose, Told.{Files, FileIs}}
use Rattle.lil_volume.specs.declared.outside.VolumeError.TheVariants as volume
use Rattle.lil_imports.specs.{declared.{gathering.Gathered.Gathered, stop.ImportStop.ImportStop}, Gathering.{Gathers, HasImportFault}}
use Rattle.lil_imports.specs.declared.stop.ImportStop.TheVariants as why

abbrev pub failed_by : VolumeError → ImportStop
failed_by volume.Failed = why.Volume
failed_by volume.Memory = why.Memory

-- the volume failed, or memory was wanted
abbrev pub gives_way : Result Gathered ImportStop → Bool
gives_way (Ok g) = false
gives_way (Err (why.Source f)) = false
gives_way (Err why.Volume) = true
gives_way (Err why.Memory) = true

-- what is found as the symbol file of a module, as far as the files are told
abbrev pub Found : Option Files → List ℕ → Option (List ℕ) → Type 0
Found files n o = FileIs files (file_of n SymbolsFile) o

-- of these imports, behind g
pub record GatheringRan (u : Tree) (g : Gathered) (is : List Ident) (before : Option Files) (before_faults : ℕ) (after : Option Files) (after_faults : ℕ) (result : Result Gathered ImportStop) : Type 0 where
  pub right : (r : Gathered) → result ≡ Ok r → Gathers u (Found before) g is r
  pub wrong : (f : SourceFault) → result ≡ Err (why.Source f) → HasImportFault u (Found before) g is f
  -- no file changes. The volume's fault is answered only where its count rose
  pub same : after ≡ before
  pub later : before_faults ≤ after_faults
  pub failed : result ≡ Err why.Volume → Rose before_faults after_faults
  pub quiet : gives_way result ≡ false → after_faults ≡ before_faults
