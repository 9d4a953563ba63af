-- What earlier calls have left in a volume: its book has definitions without faults, and each symbol file is that of an entry.
use Rattle.std.specs.Prelude.{◌≡◌, ◌⊎◌, ℕ, zero, suc, true, List, length, Option, Some, None}
use Rattle.std.specs.FinMap.{get}
use Rattle.lil_base.specs.{Names.{is_name, book_file, file_of}, declared.name.FileKind.TheVariants.{Symbols as SymbolsFile}}
use Rattle.lil_language.specs.{Units.Reads, declared.unit.Unit.Unit as Tree}
use Rattle.lil_volume.specs.Told.{Files}
use Rattle.lil_format.specs.Format.{spelling}
use Rattle.lil_symfile.specs.{declared.tree.SymbolFile.SymbolFile, Symbol.symbol_file}
use Rattle.lil_book.specs.{declared.book.{Book.Book, Entry.Entry}, Book.entry_with}
use Rattle.lil_iface.specs.Iface.{IsInterface}
use Rattle.lil_imports.specs.declared.gathering.Gathered.{Gathered}
use Rattle.lil_compile.specs.Compiled.{naming, IsBook, IsImported}

-- an entry's text is the definition of its module, without a fault, where P says what is found as a module's symbol file. Its own
-- symbol file is s, and it rests on what that rests on
pub record IsOf (P : List ℕ → Option (List ℕ) → Type 0) (key : ℕ) (e : Entry) (s : SymbolFile) : Type 0 where
  pub unit : Tree
  pub read : Reads e.text unit
  pub named : naming e.name unit ≡ None
  pub gathered : Gathered
  pub imported : IsImported P unit gathered
  pub interface : IsInterface unit gathered.interfaces key s
  pub rests : e.rests ≡ s.rests

-- ---- these bytes are the symbol file of a module's entry, by one of the first so many. Each was compiled by those of earlier entries
abbrev pub IsSymbols : List Entry → ℕ → List ℕ → Option (List ℕ) → Type 0
IsSymbols es zero x o = ⊥
IsSymbols es (suc k) x o =
    IsSymbols es k x o
    ⊎ ((e : Entry) × (s : SymbolFile) × (entry_with es (suc k) ≡ Some e) × (e.name ≡ x) × IsOf (IsSymbols es k) (suc k) e s × (o ≡ Some (spelling symbol_file s)))

abbrev pub AreEntries : List Entry → Type 0
AreEntries es = (k : ℕ) (e : Entry) → entry_with es (suc k) ≡ Some e → (s : SymbolFile) × IsOf (IsSymbols es k) (suc k) e s

-- WHAT EARLIER CALLS LEAVE: a book, or none, whose entries are so, and symbol files of them alone
pub record Left (m : Files) : Type 0 where
  pub book : Book
  pub there : IsBook (get m book_file) book
  pub entries : AreEntries book.entries
  pub symbols : (x bytes : List ℕ) → is_name x ≡ true → get m (file_of x SymbolsFile) ≡ Some bytes → IsSymbols book.entries (length book.entries) x (Some bytes)
