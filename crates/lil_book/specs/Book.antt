-- The format of the book, and its entries by their numbers.
use Rattle.std.specs.Prelude.{ℕ, zero, suc, List, [], ◌∷◌, slice_get, Option, None, codes}
use Rattle.std.proofs.Common.{refl}
use Rattle.lil_format.specs.declared.name.Wanted.{Wanted}
use Rattle.lil_format.specs.Reading.{u1, u2, u4}
use Rattle.lil_format.specs.Format.{Format, text, ◌▸◌, ◌>>=◌, shape, any, any_text, list_of}
use Rattle.lil_format.specs.Names.{name, wanted}
use Rattle.lil_book.specs.declared.book.Entry.{Entry}
use Rattle.lil_book.specs.declared.book.Book.{Book}

unfoldable pub source_text : Format (List ℕ)
source_text = text u4 any any_text

unfoldable pub rests : Format (List Wanted)
rests = list_of u1 any wanted

unfoldable pub entry : Format Entry
entry = shape (λ p. record { name = p.0; text = p.1.0; rests = p.1.1 }) (λ e. (e.name, (e.text, e.rests))) (λ p. refl) do
  n ← name
  t ← source_text
  rests

unfoldable pub entries : Format (List Entry)
entries = list_of u2 any entry

unfoldable pub book : Format Book
book = codes "LBOK" ▸ (1 ∷ []) ▸ shape (λ es. record { entries = es }) (λ b. b.entries) (λ es. refl) entries

abbrev pub no_entries : Book
no_entries = record { entries = [] }

-- entries have the numbers from 1 on
abbrev pub entry_with : List Entry → ℕ → Option Entry
entry_with es zero = None
entry_with es (suc k) = slice_get es k
