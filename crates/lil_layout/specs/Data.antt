-- How many words the data of a module take: its own variables, and the strings of all its statements.
use Rattle.std.specs.Prelude.{ℕ, ◌+◌, List, Option, Some, None}
use Rattle.std.specs.List.{sum_by}
use Rattle.lil_types.specs.Types.{Table, words}
use Rattle.lil_declared.specs.declared.declared.RVar.{RVar}
use Rattle.lil_resolved.specs.declared.resolved.RStmt.{RStmt}
use Rattle.lil_layout.specs.Strings.{body_words}

abbrev pub variable_words : Table → RVar → ℕ
variable_words t v = words t v.sort

-- those of the strings of statements: none where a form of them has no code
abbrev pub text_words : Option (List RStmt) → ℕ
text_words None = 0
text_words (Some ss) = body_words ss

-- the statements of procedures, and those of the body, each where they have code
unfoldable pub data_words : Table → List RVar → List (Option (List RStmt)) → Option (List RStmt) → ℕ
data_words t vs procedures body = sum_by (variable_words t) vs + (sum_by text_words procedures + text_words body)
