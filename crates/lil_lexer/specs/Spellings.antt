-- A table of spellings and words, looked through from its start.
use Rattle.std.specs.Prelude.{ℕ, List, [], ◌∷◌, Option, Some, None, if◌then◌else◌}
use Rattle.std.specs.{Borrow.Bor, Str.bytes_eq}
use Rattle.lil_text.specs.declared.token.Word.{Word}

abbrev pub look_up : List (Bor (List ℕ) × Word) → List ℕ → Option Word
look_up [] name = None
look_up (row ∷ rows) name = if bytes_eq name row.0.now then Some row.1 else look_up rows name
