-- Names of modules and files.
use Rattle.std.specs.Prelude.{ℕ, Bool, false, ◌||◌, ◌&&◌, nat_le, ◌==◌, List, [], ◌∷◌, ◌++◌, length, codes}
use Rattle.std.specs.List.{list_all}
use Rattle.lil_base.specs.declared.name.FileKind.{FileKind, TheVariants.{Definition, Module, Symbols}}

abbrev pub is_letter : ℕ → Bool
is_letter c = (nat_le 65 c && nat_le c 90) || (nat_le 97 c && nat_le c 122)

abbrev pub is_digit : ℕ → Bool
is_digit c = nat_le 48 c && nat_le c 57

-- a byte of a name
abbrev pub is_name_byte : ℕ → Bool
is_name_byte c = is_letter c || is_digit c

-- a byte of a file's name
abbrev pub is_file_byte : ℕ → Bool
is_file_byte c = is_letter c || (is_digit c || (c == 46))

-- from 1 to 64 letters and digits that begin with a letter
abbrev pub is_name : List ℕ → Bool
is_name [] = false
is_name (c ∷ cs) = is_letter c && (nat_le (length cs) 63 && list_all is_name_byte cs)

-- the same with full stops allowed after the first, and up to 68 characters
abbrev pub is_file_name : List ℕ → Bool
is_file_name [] = false
is_file_name (c ∷ cs) = is_letter c && (nat_le (length cs) 67 && list_all is_file_byte cs)

-- the files of a module: the source of its definition, that of its implementation or program, and its symbol file
abbrev pub ending : FileKind → List ℕ
ending Definition = codes ".DEF"
ending Module = codes ".MOD"
ending Symbols = codes ".SYM"

abbrev pub file_of : List ℕ → FileKind → List ℕ
file_of name kind = name ++ ending kind

-- the file of the volume's book
abbrev pub book_file : List ℕ
book_file = codes "LILITH.BOK"
