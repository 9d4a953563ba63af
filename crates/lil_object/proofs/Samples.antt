-- Small files, as they are read: what they say, or the offset of their fault.
use Rattle.std.proofs.Common.{refl}
use Rattle.std.specs.Prelude.{◌≡◌, ℕ, List, [], ◌∷◌, ◌++◌, None, Result, Ok, Err, codes}
use Rattle.lil_format.specs.Reading.{whole, many}
use Rattle.lil_format.specs.Format.{reads}
use Rattle.lil_format.specs.Names.{name, wanted}
use Rattle.lil_object.specs.declared.object.{ObjectKind.TheVariants.{Program}, Object.{Object}}
use Rattle.lil_object.specs.Object.{object, head, kind, imports, procedures, procedure, no_name, some_name, code, fixups, string, strings, source_text, contents}

-- what such a file says, or the offset of its fault
unfoldable said : List ℕ → Result Object ℕ
said bs = whole bs (reads object bs)

-- the program P with key 0
abbrev program : List ℕ → List ℕ
program bs = codes "LOBJ" ++ 1 ∷ 1 ∷ 1 ∷ 80 ∷ 0 ∷ 0 ∷ 0 ∷ 0 ∷ bs

-- no imports and no data, a body at 0, the code RTN, and neither fixups nor strings nor text
abbrev smallest : List ℕ
smallest = program (0 ∷ 0 ∷ 0 ∷ 1 ∷ 0 ∷ 0 ∷ 0 ∷ 0 ∷ 1 ∷ 106 ∷ 0 ∷ 0 ∷ 0 ∷ 0 ∷ 0 ∷ 0 ∷ 0 ∷ 0 ∷ [])

abbrev smallest_object : Object
smallest_object = record {
  head = record { kind = Program; name = 80 ∷ []; key = record { 0 = 0 }; imports = []; data_words = 0 };
  contents = record { procedures = record { entry = 0; name = None } ∷ []; code = 106 ∷ []; fixups = []; strings = []; text = [] };
}

-- it is read to its last byte
whole_file :
    (said smallest ≡ Ok smallest_object)
    × (said (smallest ++ 0 ∷ []) ≡ Err 30)
    × (said [] ≡ Err 0)
unfolding said object head kind name imports procedures procedure no_name code fixups strings source_text contents reads many
whole_file = (refl, refl, refl)

-- its letters, version, kind, name and key. A program has no key, and an implementation has one
headed :
    (said (codes "LOBK" ++ 1 ∷ []) ≡ Err 0)
    × (said (codes "LOBJ" ++ 2 ∷ []) ≡ Err 4)
    × (said (codes "LOBJ" ++ 1 ∷ 3 ∷ []) ≡ Err 5)
    × (said (codes "LOBJ" ++ 1 ∷ 1 ∷ 65 ∷ []) ≡ Err 6)
    × (said (codes "LOBJ" ++ 1 ∷ 1 ∷ 1 ∷ 48 ∷ []) ≡ Err 7)
    × (said (codes "LOBJ" ++ 1 ∷ 1 ∷ 1 ∷ 80 ∷ 0 ∷ 0 ∷ 0 ∷ 1 ∷ []) ≡ Err 8)
    × (said (codes "LOBJ" ++ 1 ∷ 2 ∷ 1 ∷ 80 ∷ 0 ∷ 0 ∷ 0 ∷ 0 ∷ []) ≡ Err 8)
    × (said (program (61 ∷ [])) ≡ Err 12)
    × (said (program (1 ∷ 1 ∷ 65 ∷ 0 ∷ 0 ∷ 0 ∷ [])) ≡ Err 18)
    × (said (program (0 ∷ 125 ∷ 1 ∷ [])) ≡ Err 13)
unfolding said object head kind name wanted imports reads many
headed = (refl, refl, refl, refl, refl, refl, refl, refl, refl, refl)

-- behind 12 bytes: no imports, 2 data words, procedures
abbrev of_procedures : List ℕ → List ℕ
of_procedures bs = program (0 ∷ 0 ∷ 2 ∷ bs)

-- there is a body, and it has no name; each other procedure has one
named :
    (said (of_procedures (0 ∷ [])) ≡ Err 15)
    × (said (of_procedures (252 ∷ [])) ≡ Err 15)
    × (said (of_procedures (1 ∷ 0 ∷ 0 ∷ 1 ∷ [])) ≡ Err 18)
    × (said (of_procedures (2 ∷ 0 ∷ 0 ∷ 0 ∷ 0 ∷ 0 ∷ 0 ∷ [])) ≡ Err 21)
    × (said (of_procedures (2 ∷ 0 ∷ 0 ∷ 0 ∷ 0 ∷ 0 ∷ 1 ∷ 49 ∷ [])) ≡ Err 22)
unfolding said object head kind name imports procedures procedure no_name some_name contents reads many
named = (refl, refl, refl, refl, refl)

-- the code isn't empty, and longer than each entry
coded :
    (said (of_procedures (1 ∷ 0 ∷ 0 ∷ 0 ∷ 0 ∷ 0 ∷ [])) ≡ Err 19)
    × (said (of_procedures (1 ∷ 0 ∷ 2 ∷ 0 ∷ 0 ∷ 2 ∷ [])) ≡ Err 19)
    × (said (of_procedures (1 ∷ 0 ∷ 2 ∷ 0 ∷ 0 ∷ 3 ∷ [])) ≡ Err 21)
    × (said (of_procedures (1 ∷ 0 ∷ 2 ∷ 0 ∷ 128 ∷ 0 ∷ [])) ≡ Err 19)
unfolding said object head kind name imports procedures procedure no_name code contents reads many
coded = (refl, refl, refl, refl)

-- one import, no data, a body at 0, and code that has a module's number at 1 and at 3: the import's, and another
abbrev of_fixups : List ℕ → List ℕ
of_fixups bs = program (1 ∷ 1 ∷ 65 ∷ 0 ∷ 0 ∷ 0 ∷ 7 ∷ 0 ∷ 0 ∷ 1 ∷ 0 ∷ 0 ∷ 0 ∷ 0 ∷ 5 ∷ 0 ∷ 1 ∷ 0 ∷ 2 ∷ 106 ∷ bs)

-- fixups rise within the code, to the numbers of imports or 0
fixed :
    (said (of_fixups (0 ∷ 2 ∷ 0 ∷ 0 ∷ 0 ∷ 1 ∷ [])) ≡ Err 38)
    × (said (of_fixups (0 ∷ 1 ∷ 0 ∷ 3 ∷ [])) ≡ Err 34)
    × (said (of_fixups (0 ∷ 1 ∷ 0 ∷ 5 ∷ [])) ≡ Err 34)
    × (said (of_fixups (0 ∷ 2 ∷ 0 ∷ 1 ∷ 0 ∷ 1 ∷ [])) ≡ Err 36)
    × (said (of_fixups (0 ∷ 2 ∷ 0 ∷ 1 ∷ 0 ∷ 0 ∷ [])) ≡ Err 36)
unfolding said object head kind name wanted imports procedures procedure no_name code fixups strings contents reads many
fixed = (refl, refl, refl, refl, refl)

-- the smallest code behind 2 data words, and no fixups
abbrev of_strings : List ℕ → List ℕ
of_strings bs = of_procedures (1 ∷ 0 ∷ 0 ∷ 0 ∷ 0 ∷ 1 ∷ 106 ∷ 0 ∷ 0 ∷ bs)

-- each string lies in the data, and the empty one has a word too; the text has no more than 262,144 bytes
placed :
    (said (of_strings (0 ∷ 1 ∷ 0 ∷ 1 ∷ 0 ∷ 2 ∷ [])) ≡ Err 28)
    × (said (of_strings (0 ∷ 1 ∷ 0 ∷ 2 ∷ 0 ∷ 0 ∷ [])) ≡ Err 28)
    × (said (of_strings (0 ∷ 1 ∷ 0 ∷ 0 ∷ 0 ∷ 2 ∷ 72 ∷ [])) ≡ Err 31)
    × (said (of_strings (0 ∷ 0 ∷ 0 ∷ 4 ∷ 0 ∷ 1 ∷ [])) ≡ Err 26)
unfolding said object head kind name imports procedures procedure no_name code fixups string strings source_text contents reads many
placed = (refl, refl, refl, refl)
