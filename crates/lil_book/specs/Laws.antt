-- The book without entries, and a book with one entry more.
use Rattle.std.proofs.Common.{◌≡◌, ℕ, zero, suc, ◌<◌, ◌≤◌, true, List, [], ◌∷◌, ◌++◌, length, Some, refl, arith}
use Rattle.std.specs.List.{AllByRecursion}
use Rattle.lil_base.specs.Names.{is_name}
use Rattle.lil_format.specs.Reading.{u1, u2}
use Rattle.lil_format.specs.Format.{any, Fits}
use Rattle.lil_format.specs.Turns.{list_fits_from, list_fits_more}
use Rattle.lil_format.specs.Names.{wanted, name_fits}
use Rattle.lil_book.specs.declared.book.Entry.{Entry}
use Rattle.lil_book.specs.declared.book.Book.{Book}
use Rattle.lil_book.specs.Book.{source_text, rests, entry, entries, book, no_entries, entry_with}

-- the book without entries has a spelling
pub no_entries_fits : Fits book no_entries
unfolding book entries Fits
no_entries_fits = (refl, list_fits_from u2 any entry [] refl (omega arith) tt)

abbrev pub with_entry : Book → Entry → Book
with_entry b e = record { entries = b.entries ++ e ∷ [] }

-- it has a spelling
pub with_entry_fits : (b : Book) (e : Entry) → Fits book b → Fits entry e → length b.entries < 65535 → Fits book (with_entry b e)
unfolding book entries Fits
with_entry_fits b e h k l = (refl, list_fits_more u2 any entry b.entries e h.1 k refl (omega arith))

-- the entry has its key
pub new_entry : (es : List Entry) (e : Entry) → entry_with (es ++ e ∷ []) (suc (length es)) ≡ Some e
new_entry [] e = refl
new_entry (x ∷ xs) e = new_entry xs e

-- the others have theirs as before
pub old_entries : (es : List Entry) (e : Entry) (k : ℕ) → k ≤ length es → entry_with (es ++ e ∷ []) k ≡ entry_with es k
old_entries es e zero l = refl
old_entries [] e (suc k) l = absurd (omega (arith, l))
old_entries (x ∷ xs) e (suc zero) l = refl
old_entries (x ∷ xs) e (suc (suc k)) l = old_entries xs e (suc k) (omega (arith, l))

-- ---- what an entry needs to have a spelling
pub entry_fits : (e : Entry) → is_name e.name ≡ true → length e.text < 4294967296 → length e.rests < 256 → AllByRecursion (Fits wanted) e.rests → Fits entry e
unfolding entry source_text rests Fits
entry_fits e n t r each = (refl, (name_fits e.name n, ((refl, t, refl), list_fits_from u1 any wanted e.rests refl r each)))
