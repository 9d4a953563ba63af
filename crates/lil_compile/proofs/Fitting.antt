-- What is written has a spelling.
use Rattle.std.proofs.Common.{◌≡◌, ℕ, ◌<◌, true, List, length, Option, None, Some, Result, Ok, Err, sym, subst}
use Rattle.lil_base.specs.Names.{is_name}
use Rattle.lil_format.specs.{Format.{any, Fits}, Reading.u2, Turns.list_fits}
use Rattle.lil_symfile.specs.{declared.tree.SymbolFile.SymbolFile, Symbol.symbol_file, Laws.rests_fit}
use Rattle.lil_base.specs.declared.fault.Key.{Key}
use Rattle.lil_book.specs.declared.book.BookStop.TheVariants as why
use Rattle.lil_book.specs.{declared.book.{Book.Book, BookStop.BookStop}, Book.{book, entry, entries}, Laws.{no_entries_fits, with_entry, with_entry_fits, entry_fits}}
use Rattle.lil_compile.specs.Compiled.{IsBook, entry_of}

-- the book of a volume has few entries
pub found_fits : (found : Option (List ℕ)) (b : Book) → IsBook found b → Fits book b
found_fits None b h = subst (Fits book) (sym h) no_entries_fits
found_fits (Some bytes) b h = h.0

pub entries_few : (b : Book) → Fits book b → length b.entries < 65536
unfolding book entries Fits
entries_few b h = (list_fits u2 any entry b.entries h.1).0

pub more_fits : (b : Book) (x text : List ℕ) (s : SymbolFile) → Fits book b → is_name x ≡ true → length text < 4294967296 → Fits symbol_file s → length b.entries < 65535
    → Fits book (with_entry b (entry_of x text s))
more_fits b x text s h named short spelled room = let rests = rests_fit s spelled in with_entry_fits b (entry_of x text s) h (entry_fits (entry_of x text s) named short rests.0 rests.1) room

pub never_full : {r : Result Key BookStop} {key : Key} → r ≡ Ok key → r ≡ Err why.Full → ⊥
never_full h k = cc
