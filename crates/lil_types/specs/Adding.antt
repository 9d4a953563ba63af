-- One more type at a table's end: which forms it takes, and what is then known.
use Rattle.std.specs.Prelude.{ℕ, ◌+◌, nat_le, nat_lt, min, pos, negsuc, int_lt, Bool, true, not, ◌&&◌, [], ◌∷◌, ◌++◌, length, Option, Some, None, if◌then◌else◌}
use Rattle.lil_types.specs.{declared.table.{Origin.Origin, Span.Span, Facts.Facts, TypeForm.TypeForm}, Types.{Table, facts, plain, facts_of}}

-- the number that the next type gets
abbrev pub next : Table → ℕ
next t = length t + 16

-- every value of an ordinal type is a number of one word
abbrev pub is_short : Option Span → Bool
is_short None = true
is_short (Some s) = not (int_lt s.low (negsuc 32767)) && not (int_lt (pos 65535) s.high)

-- a type has at most 32,000 words
abbrev pub fitting : Option Facts → Option Facts
fitting None = None
fitting (Some f) = if nat_le f.words 32000 && is_short f.span then Some f else None

-- sums of words stop at 4294967295
abbrev pub stopped : ℕ → ℕ
stopped words = min words 4294967295

abbrev pub stopped_some : Option ℕ → Option ℕ
stopped_some None = None
stopped_some (Some words) = Some (stopped words)

abbrev pub lasting : Option Facts → Option Facts
lasting None = None
lasting (Some f) = Some (facts f.base (stopped f.words) f.span)

-- whether there is a number left, below 4294967295
abbrev pub has_room : Table → Bool
has_room t = nat_lt (length t) 4294967279

-- the facts of a form as the next type of a table, None where its parts don't make a type, where it is too large, or where
-- there is no number left
abbrev pub next_facts : Table → TypeForm → Option Facts
next_facts t form = if has_room t then fitting (facts_of t (next t) form) else None

abbrev pub number_by : Table → Option Facts → Option ℕ
number_by t None = None
number_by t (Some f) = Some (next t)

abbrev pub with_facts : Table → Origin → TypeForm → Option Facts → Table
with_facts t origin form None = t
with_facts t origin form (Some f) = t ++ record { origin = origin; form = form; facts = f } ∷ []

-- the number of a form's type, where the table takes it
abbrev pub added_number : Table → TypeForm → Option ℕ
added_number t form = number_by t (next_facts t form)

-- the number of the next type, 0 where there is none left
abbrev pub next_number : Table → ℕ
next_number t = if has_room t then next t else 0

-- a next type of the module's own
abbrev pub own : Table → Origin
own t = record { «module» = 0; number = next_number t }

-- the table with the type, where it takes it, and else as before
abbrev pub added : Table → Origin → TypeForm → Table
added t origin form = with_facts t origin form (next_facts t form)

-- ---- a type of another module, which may have any length
abbrev pub facts_or : ℕ → Option Facts → Facts
facts_or n None = plain n
facts_or n (Some f) = f

-- the table with it. Where its parts don't make a type it has a word
abbrev pub appended : Table → Origin → TypeForm → Table
appended t origin form = t ++ record { origin = origin; form = form; facts = facts_or (next t) (lasting (facts_of t (next t) form)) } ∷ []
