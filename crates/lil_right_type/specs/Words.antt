-- Tables of types whose words are measured: those of each type are those of its parts, which have lesser numbers.
use Rattle.std.specs.Prelude.{◌≡◌, ℕ, ◌*◌, ◌<◌, ◌≤◌, Some}
use Rattle.lil_types.specs.{Types.{Table, entry, known, fields_words, values, words}, declared.table.{Facts.Facts, Field.Field, Span.Span, TypeEntry.TypeEntry, TypeForm.{TypeForm, TheVariants.{Enumeration, Subrange, Array, Record, SetOf, Pointer, Procedure, Opaque}}}}
use Rattle.lil_kinds.specs.Forms.{span_in}
use Rattle.lil_shapes.specs.ListLaws.{AllFine}

abbrev pub FormMeasured : Table → ℕ → Facts → TypeForm → Type 0
FormMeasured t n f (Enumeration xs) = f.words ≡ 1
FormMeasured t n f (Subrange m s) = f.words ≡ 1
FormMeasured t n f (Array i e) = (e < n) × ((u : Span) × (span_in (known t i) ≡ Some u) × (f.words ≡ values u * words t e))
FormMeasured t n f (Record xs) = AllFine (λ (x : Field). x.sort < n) xs × (fields_words t xs ≡ Some f.words)
FormMeasured t n f (SetOf m) = f.words ≡ 1
FormMeasured t n f (Pointer m) = f.words ≡ 1
FormMeasured t n f (Procedure ps r) = f.words ≡ 1
FormMeasured t n f (Opaque o) = f.words ≡ 1

abbrev pub AreMeasured : Table → Type 0
AreMeasured t = (n : ℕ) (e : TypeEntry) → entry t n ≡ Some e → FormMeasured t n e.facts e.form × (e.facts.words ≤ 32000)
