-- How code has a place, as the translation table says it.
use Rattle.std.specs.Prelude.{ℕ}
use Rattle.lil_table.specs.Rows as rows
use Rattle.lil_expr.specs.declared.places.Access.{Access}
use Rattle.lil_expr.specs.declared.places.Access.TheVariants as a

abbrev pub access_view : Access → rows.Access
access_view (a.InData o) = rows.InData o
access_view (a.InFrame n o) = rows.InFrame n o
access_view a.OnTop = rows.OnTop
access_view (a.Behind o) = rows.Behind o

-- the words before it that the instructions say, but those of a frame, which they say as far as they can
abbrev pub words_in : rows.Access → ℕ
words_in (rows.InData o) = o
words_in (rows.InFrame n o) = 0
words_in rows.OnTop = 0
words_in (rows.Behind o) = o
