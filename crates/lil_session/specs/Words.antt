-- The words of a command line.
use Rattle.std.specs.Prelude.{ℕ, Bool, ◌&&◌, nat_le, ◌-◌, ◌++◌, List, [], ◌∷◌, length, take, drop, codes, Option, Some, None, option_and_then, if◌then◌else◌}
use Rattle.std.specs.Str.{bytes_eq}
use Rattle.lil_base.specs.{Names.{is_name, ending, file_of}, declared.name.FileKind.{FileKind, TheVariants.{Definition, Module}}}

-- ---- a word that is the name of a file of a module, and that module's name
abbrev pub is_before : List ℕ → List ℕ → Bool
is_before end w = nat_le (length end) (length w) && (bytes_eq (drop (length w - length end) w) end && is_name (take (length w - length end) w))

abbrev pub name_before : FileKind → List ℕ → Option (List ℕ)
name_before kind w = if is_before (ending kind) w then Some (take (length w - length (ending kind)) w) else None

-- the second of two words, where the first is this command
abbrev pub word_behind : List ℕ → List (List ℕ) → Option (List ℕ)
word_behind command (c ∷ w ∷ []) = if bytes_eq c command then Some w else None
word_behind command words = None

-- ---- the module that the words ask to run, and the one whose definition they ask to compile
abbrev pub name_of_word : List ℕ → Option (List ℕ)
name_of_word w = name_before Module w

abbrev pub source_name : List (List ℕ) → Option (List ℕ)
source_name words = option_and_then name_of_word (word_behind (codes "once") words)

abbrev pub definition_of_word : List ℕ → Option (List ℕ)
definition_of_word w = name_before Definition w

abbrev pub definition_name : List (List ℕ) → Option (List ℕ)
definition_name words = option_and_then definition_of_word (word_behind (codes "compile") words)

-- the file of a program module
abbrev pub mod_file : List ℕ → List ℕ
mod_file name = file_of name Module
