-- What is written of each part behind the head, and which parts are short enough for their counts and lengths.
use Rattle.std.specs.Prelude.{ℕ, ◌<◌, List, [], ◌∷◌, ◌++◌, length, Option, Some, None}
use Rattle.std.specs.List.{flat_map, All}
use Rattle.lil_base.specs.Fields.{bytes16, bytes32}
use Rattle.lil_format.specs.Format.{spelling}
use Rattle.lil_format.specs.Names.{name}
use Rattle.lil_object.specs.declared.object.{ProcedureEntry.{ProcedureEntry}, DataString.{DataString}, Contents.{Contents}}

abbrev pub name_bytes : Option (List ℕ) → List ℕ
name_bytes None = 0 ∷ []
name_bytes (Some t) = spelling name t

abbrev pub procedure_bytes : ProcedureEntry → List ℕ
procedure_bytes p = bytes16 p.entry ++ name_bytes p.name

abbrev pub procedures_bytes : List ProcedureEntry → List ℕ
procedures_bytes ps = length ps ∷ flat_map procedure_bytes ps

abbrev pub fixups_bytes : List ℕ → List ℕ
fixups_bytes places = bytes16 (length places) ++ flat_map bytes16 places

abbrev pub string_bytes : DataString → List ℕ
string_bytes s = bytes16 s.offset ++ (bytes16 (length s.text) ++ s.text)

abbrev pub strings_bytes : List DataString → List ℕ
strings_bytes ss = bytes16 (length ss) ++ flat_map string_bytes ss

abbrev pub contents_bytes : Contents → List ℕ
contents_bytes c = procedures_bytes c.procedures ++ ((bytes16 (length c.code) ++ c.code) ++ (fixups_bytes c.fixups ++ (strings_bytes c.strings ++ (bytes32 (length c.text) ++ c.text))))

-- ---- counts and lengths that their fields hold
abbrev pub short_string : DataString → Type 0
short_string s = length s.text < 65536

abbrev pub short_strings : List DataString → Type 0
short_strings ss = All short_string ss

pub record IsShort (c : Contents) : Type 0 where
  pub procedures : length c.procedures < 256
  pub code : length c.code < 65536
  pub fixups : length c.fixups < 65536
  pub strings : length c.strings < 65536
  pub each_string : short_strings c.strings
  pub text : length c.text < 4294967296

abbrev pub is_short : Contents → Type 0
is_short c = IsShort c
