-- A name followed by the ending of a module's file is the name of a file.
use Rattle.std.proofs.Common.{◌≡◌, ℕ, Bool, true, false, ◌||◌, ◌&&◌, nat_le, ◌==◌, List, [], ◌∷◌, ◌++◌, length, refl, arith, length-append}
use Rattle.std.proofs.lemmas.Bool.{and_parts, and_from, Decides.nat_tests}
use Rattle.std.specs.List.{list_all}
use Rattle.lil_base.specs.{Names.{is_letter, is_digit, is_name_byte, is_file_byte, is_name, is_file_name, ending, file_of}, declared.name.FileKind.{FileKind, TheVariants.{Definition, Module, Symbols}}}

wider : (a b c : Bool) → (a || b) ≡ true → (a || (b || c)) ≡ true
wider true b c h = refl
wider false true c h = refl
wider false false c h = cc

fits : (k : FileKind) → list_all is_file_byte (ending k) ≡ true
fits Definition = refl
fits Module = refl
fits Symbols = refl

short : (k : FileKind) → length (ending k) ≡ 4
short Definition = refl
short Module = refl
short Symbols = refl

bytes_fit : (k : FileKind) (cs : List ℕ) → list_all is_name_byte cs ≡ true → list_all is_file_byte (cs ++ ending k) ≡ true
bytes_fit k [] h = fits k
bytes_fit k (c ∷ cs) h =
    let p = and_parts (is_name_byte c) (list_all is_name_byte cs) h in
    and_from (is_file_byte c) (list_all is_file_byte (cs ++ ending k)) (wider (is_letter c) (is_digit c) (c == 46) p.0) (bytes_fit k cs p.1)

pub file_is_file : (n : List ℕ) (k : FileKind) → is_name n ≡ true → is_file_name (file_of n k) ≡ true
file_is_file [] k h = cc
file_is_file (c ∷ cs) k h =
    let p = and_parts (is_letter c) (nat_le (length cs) 63 && list_all is_name_byte cs) h in
    let q = and_parts (nat_le (length cs) 63) (list_all is_name_byte cs) p.1 in
    let room : nat_le (length (cs ++ ending k)) 67 ≡ true = grind (arith, nat_tests, length-append cs (ending k), short k, q.0) in
    and_from (is_letter c) _ p.0 (and_from (nat_le (length (cs ++ ending k)) 67) (list_all is_file_byte (cs ++ ending k)) room (bytes_fit k cs q.1))
