-- What a definition is compiled to, or which fault it has.
use Rattle.std.specs.Prelude.{◌≡◌, ◌⊎◌, ℕ, ◌+◌, ◌<◌, ◌≤◌, List, [], ◌∷◌, length, codes, Option, Some, None}
use Rattle.lil_base.specs.{Names.{book_file, file_of}, Faults.{fault, fault_about, fault_number}, declared.{name.FileKind.TheVariants.{Symbols as SymbolsFile}, fault.{FaultKind.TheVariants.{SymDamaged, BookFull}, SourceFault.SourceFault}}}
use Rattle.lil_language.specs.{Units.{Reads, HasReadFault}, declared.unit.Unit.Unit as Tree}
use Rattle.lil_language.specs.declared.unit.UnitKind.TheVariants.{Definition}
use Rattle.lil_report.specs.{declared.report.Fault.{Fault as Checked}, Told.tell}
use Rattle.lil_interfaces.specs.declared.surface.Interface.{Interface}
use Rattle.lil_check_unit.specs.Units.{naming_rows, told}
use Rattle.lil_format.specs.Format.{IsFile, spelling}
use Rattle.lil_symfile.specs.{declared.tree.SymbolFile.SymbolFile, Symbol.symbol_file}
use Rattle.lil_book.specs.{declared.book.{Book.Book, Entry.Entry}, Book.{book, no_entries}, Laws.with_entry}
use Rattle.lil_iface.specs.Iface.{HasInterfaceFault, IsInterface}
use Rattle.lil_imports.specs.{declared.gathering.Gathered.Gathered, Gathering.{modules_of, nothing_gathered, Gathers, HasImportFault}}

-- ---- the book of a volume by the bytes of its file: without entries where there is no file
abbrev pub IsBook : Option (List ℕ) → Book → Type 0
IsBook None b = b ≡ no_entries
IsBook (Some bytes) b = IsFile book bytes b

abbrev pub IsDamaged : Option (List ℕ) → Type 0
IsDamaged found = (b : Book) → IsBook found b → ⊥

-- the key of the next entry
abbrev pub next_key : Book → ℕ
next_key b = length b.entries + 1

-- ---- the test before all others: of the unit's name and kind
abbrev pub naming : List ℕ → Tree → Option Checked
naming x u = tell None (naming_rows Definition x u)

-- ---- faults, in the order in which they speak. `found` is what the volume's book holds, where it is there
-- 78 SymDamaged, about LILITH, at the unit's name: the book isn't of its format
abbrev pub damaged : Tree → SourceFault
damaged u = fault_about (fault_number SymDamaged) u.head.name.place (codes "LILITH")

-- 79 BookFull, at the unit's name
abbrev pub full : Tree → SourceFault
full u = fault (fault_number BookFull) u.head.name.place

abbrev pub OfNaming : List ℕ → Tree → SourceFault → Type 0
OfNaming x u f = (g : Checked) × (naming x u ≡ Some g) × (f ≡ told g)

abbrev pub OfDamage : List ℕ → Tree → Option (List ℕ) → SourceFault → Type 0
OfDamage x u found f = (naming x u ≡ None) × IsDamaged found × (f ≡ damaged u)

-- 65,535 entries are in the book
abbrev pub OfRoom : Tree → List Interface → Book → SourceFault → Type 0
OfRoom u is b f = (s : SymbolFile) × IsInterface u is (next_key b) s × (65535 ≤ length b.entries) × (f ≡ full u)

-- its interface has a fault, or there is no room for it, where these are the interfaces of what it imports
abbrev pub IsWrong : Tree → List Interface → Book → SourceFault → Type 0
IsWrong u is b f = HasInterfaceFault u is (next_key b) f ⊎ OfRoom u is b f

-- ---- P says what is found as a module's symbol file
module _ (P : List ℕ → Option (List ℕ) → Type 0) where
  -- no import has a fault, and this is gathered
  abbrev pub IsImported : Tree → Gathered → Type 0
  IsImported u g = Gathers u P nothing_gathered (modules_of u.head.imports) g

  -- over a book
  abbrev pub OfBook : List ℕ → Tree → Book → SourceFault → Type 0
  OfBook x u b f =
      (naming x u ≡ None)
      × (HasImportFault u P nothing_gathered (modules_of u.head.imports) f ⊎ ((g : Gathered) × IsImported u g × IsWrong u g.interfaces b f))

  abbrev pub HasUnitFault : List ℕ → Tree → Option (List ℕ) → SourceFault → Type 0
  HasUnitFault x u found f = OfNaming x u f ⊎ (OfDamage x u found f ⊎ ((b : Book) × IsBook found b × OfBook x u b f))

  -- the fault of a text, as the definition of the module x
  abbrev pub HasDefinitionFault : (x text : List ℕ) → Option (List ℕ) → SourceFault → Type 0
  HasDefinitionFault x text found f = HasReadFault text f ⊎ ((u : Tree) × Reads text u × HasUnitFault x u found f)

-- ---- what is written: the book with the entry, and then the symbol file
abbrev pub entry_of : (x text : List ℕ) → SymbolFile → Entry
entry_of x text s = record { name = x; text = text; rests = s.rests }

pub record Compiled : Type 0 where
  pub key : ℕ
  pub writes : List (List ℕ × List ℕ)

abbrev pub compiled : (x text : List ℕ) → Book → SymbolFile → Compiled
compiled x text b s = record {
  key = next_key b;
  writes = (book_file, spelling book (with_entry b (entry_of x text s))) ∷ (file_of x SymbolsFile, spelling symbol_file s) ∷ [];
}

-- a text without a fault, as the definition of the module x, where P says what is found as a module's symbol file
pub record IsCompiled (P : List ℕ → Option (List ℕ) → Type 0) (x text : List ℕ) (found : Option (List ℕ)) (c : Compiled) : Type 0 where
  pub unit : Tree
  pub read : Reads text unit
  pub named : naming x unit ≡ None
  pub entries : Book
  pub there : IsBook found entries
  pub gathered : Gathered
  pub imported : IsImported P unit gathered
  pub symbols : SymbolFile
  pub interface : IsInterface unit gathered.interfaces (next_key entries) symbols
  pub room : length entries.entries < 65535
  pub is : c ≡ compiled x text entries symbols
