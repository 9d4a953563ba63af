-- Small files, as they are read: what they say, or the offset of their fault.
use Rattle.std.proofs.Common.{refl}
use Rattle.std.specs.Prelude.{◌≡◌, ℕ, List, [], ◌∷◌, ◌++◌, Result, Ok, Err, codes, ℤ, pos, negsuc}
use Rattle.lil_format.specs.Reading.{whole, many}
use Rattle.lil_format.specs.Format.{reads}
use Rattle.lil_format.specs.Names.{name, name_but}
use Rattle.lil_symfile.specs.declared.tree.{Form.TheVariants.{Subrange}, SymbolFile.{SymbolFile}}
use Rattle.lil_symfile.specs.Symbol.{symbol_file, rests, sort, subrange, lower, upper, set_form, form, sym_type, types, names, rest, sym_name, shown, whole as whole_class, class_of}

-- what such a file says, or the offset of its fault
unfoldable said : List ℕ → Result SymbolFile ℕ
said bs = whole bs (reads symbol_file bs)

-- LSYM, 1, A, key 1
abbrev head : List ℕ
head = codes "LSYM" ++ 1 ∷ 1 ∷ 65 ∷ 0 ∷ 0 ∷ 0 ∷ 1 ∷ []

-- no rest, types, and no names
abbrev of_types : ℕ → List ℕ → List ℕ
of_types count bs = head ++ 0 ∷ 0 ∷ count ∷ (bs ++ 0 ∷ 0 ∷ [])

abbrev a_subrange : ℕ → ℕ → List ℕ → List ℕ
a_subrange at base bounds = 0 ∷ 0 ∷ at ∷ 2 ∷ 0 ∷ base ∷ bounds

abbrev of_subrange : ℕ → ℤ → ℤ → SymbolFile
of_subrange base low high = record {
  name = 65 ∷ [];
  key = record { 0 = 1 };
  rests = [];
  types = record { origin = 0; number = 16; form = Subrange base low high } ∷ [];
  names = [];
}

-- INTEGER [-1 .. 5] has bounds FFFFH and 5, and CARDINAL none such; a subrange counts as its base does
bounds :
    (said (of_types 1 (a_subrange 16 0 (255 ∷ 255 ∷ 0 ∷ 5 ∷ []))) ≡ Ok (of_subrange 0 (negsuc 0) (pos 5)))
    × (said (of_types 1 (a_subrange 16 1 (255 ∷ 255 ∷ 0 ∷ 5 ∷ []))) ≡ Err 22)
    × (said (of_types 1 (a_subrange 16 1 (0 ∷ 5 ∷ 255 ∷ 255 ∷ []))) ≡ Ok (of_subrange 1 (pos 5) (pos 65535)))
    × (said (of_types 2 (a_subrange 16 0 (0 ∷ 1 ∷ 0 ∷ 5 ∷ []) ++ a_subrange 17 16 (0 ∷ 2 ∷ 255 ∷ 255 ∷ []))) ≡ Err 32)
unfolding said symbol_file name rests sort subrange lower upper form sym_type types names reads many
bounds = (refl, refl, refl, refl)

abbrev of_set : ℕ → List ℕ
of_set base = 0 ∷ 0 ∷ 17 ∷ 5 ∷ 0 ∷ base ∷ []

-- a set's base: [0 .. 15] and no more, and no number from 8 to 15
bases :
    (said (of_types 2 (a_subrange 16 1 (0 ∷ 0 ∷ 0 ∷ 16 ∷ []) ++ of_set 16)) ≡ Err 28)
    × (said (of_types 2 (a_subrange 16 1 (0 ∷ 0 ∷ 0 ∷ 15 ∷ []) ++ of_set 1)) ≡ Err 28)
    × (said (of_types 1 (a_subrange 16 8 (0 ∷ 0 ∷ 0 ∷ 15 ∷ []))) ≡ Err 18)
    × (said (of_types 1 (a_subrange 17 1 (0 ∷ 0 ∷ 0 ∷ 15 ∷ []))) ≡ Err 15)
unfolding said symbol_file name rests sort subrange lower upper set_form form sym_type types names reads many
bases = (refl, refl, refl, refl)

-- a resident module has key 0, and no module stands twice
rested :
    (said (head ++ 1 ∷ 5 ∷ (codes "InOut" ++ 0 ∷ 0 ∷ 0 ∷ 1 ∷ [])) ≡ Err 18)
    × (said (head ++ 2 ∷ 1 ∷ 66 ∷ 0 ∷ 0 ∷ 0 ∷ 7 ∷ 1 ∷ 66 ∷ []) ≡ Err 19)
    × (said (head ++ 0 ∷ 0 ∷ 0 ∷ 0 ∷ 0 ∷ 9 ∷ []) ≡ Err 16)
    × (said (codes "LSYM" ++ 1 ∷ 1 ∷ 65 ∷ 0 ∷ 0 ∷ 0 ∷ 0 ∷ []) ≡ Err 7)
unfolding said symbol_file name name_but rest rests types names reads many
rested = (refl, refl, refl, refl)

abbrev of_whole : ℕ → List ℕ → List ℕ
of_whole b value = 1 ∷ 1 ∷ b ∷ 1 ∷ value

-- a whole constant is -32768 to 65535, and no name stands twice
named :
    (said (head ++ 0 ∷ 0 ∷ 0 ∷ 0 ∷ 1 ∷ of_whole 66 (0 ∷ 1 ∷ 0 ∷ 0 ∷ [])) ≡ Err 20)
    × (said (head ++ 0 ∷ 0 ∷ 0 ∷ 0 ∷ 1 ∷ of_whole 66 (255 ∷ 255 ∷ 127 ∷ 255 ∷ [])) ≡ Err 20)
    × (said (head ++ 0 ∷ 0 ∷ 0 ∷ 0 ∷ 2 ∷ (of_whole 66 (0 ∷ 0 ∷ 0 ∷ 1 ∷ []) ++ of_whole 66 (0 ∷ 0 ∷ 0 ∷ 1 ∷ []))) ≡ Err 26)
unfolding said symbol_file name name_but rests types names sym_name shown class_of whole_class reads many
named = (refl, refl, refl)
