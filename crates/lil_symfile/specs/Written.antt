-- What is written of each part, and which parts are short enough for their counts and numbers.
use Rattle.std.specs.Prelude.{ℕ, ◌<◌, List, [], ◌∷◌, ◌++◌, length, Option, ⊤, codes}
use Rattle.std.specs.List.{flat_map, All}
use Rattle.lil_base.specs.Fields.{bytes16, bytes32}
use Rattle.lil_format.specs.Format.{spelling}
use Rattle.lil_format.specs.declared.name.Wanted.{Wanted}
use Rattle.lil_format.specs.Names.{name, wanted}
use Rattle.lil_symfile.specs.declared.tree.{Field.{Field}, Parameter.{Parameter}, SymType.{SymType}, SymName.{SymName}, SymbolFile.{SymbolFile}}
use Rattle.lil_symfile.specs.declared.tree.Form.{Form, TheVariants.{Enumeration, Subrange, Array, Record, Set, Pointer, Procedure, Opaque}}
use Rattle.lil_symfile.specs.declared.tree.Class.{Class}
use Rattle.lil_symfile.specs.declared.tree.Class.TheVariants as class
use Rattle.lil_symfile.specs.Numbers.{word_of, long_of}
use Rattle.lil_symfile.specs.Symbol.{flags_code, answer_code, shown_code}

abbrev pub rests_bytes : List Wanted → List ℕ
rests_bytes ws = length ws ∷ flat_map (spelling wanted) ws

-- ---- types
abbrev pub constants_bytes : List (List ℕ) → List ℕ
constants_bytes ns = bytes16 (length ns) ++ flat_map (spelling name) ns

abbrev pub field_bytes : Field → List ℕ
field_bytes f = spelling name f.name ++ bytes16 f.sort

abbrev pub fields_bytes : List Field → List ℕ
fields_bytes fs = bytes16 (length fs) ++ flat_map field_bytes fs

abbrev pub parameter_bytes : Parameter → List ℕ
parameter_bytes p = flags_code (p.by_place, p.open_array) ∷ bytes16 p.sort

abbrev pub parameters_bytes : List Parameter → List ℕ
parameters_bytes ps = length ps ∷ flat_map parameter_bytes ps

abbrev pub form_bytes : Form → List ℕ
form_bytes (Enumeration names) = 1 ∷ constants_bytes names
form_bytes (Subrange base lower upper) = 2 ∷ (bytes16 base ++ (bytes16 (word_of lower) ++ bytes16 (word_of upper)))
form_bytes (Array index element) = 3 ∷ (bytes16 index ++ bytes16 element)
form_bytes (Record fields) = 4 ∷ fields_bytes fields
form_bytes (Set base) = 5 ∷ bytes16 base
form_bytes (Pointer target) = 6 ∷ bytes16 target
form_bytes (Procedure parameters answer) = 7 ∷ (parameters_bytes parameters ++ bytes16 (answer_code answer))
form_bytes Opaque = 8 ∷ []

abbrev pub type_bytes : SymType → List ℕ
type_bytes t = t.origin ∷ (bytes16 t.number ++ form_bytes t.form)

abbrev pub types_bytes : List SymType → List ℕ
types_bytes ts = bytes16 (length ts) ++ flat_map type_bytes ts

-- ---- names
abbrev pub class_bytes : Class → List ℕ
class_bytes (class.Whole value) = 1 ∷ bytes32 (long_of value)
class_bytes (class.Scalar sort word) = 2 ∷ (bytes16 sort ++ bytes16 word)
class_bytes (class.Chars text) = 3 ∷ (bytes16 (length text) ++ text)
class_bytes (class.Sort sort) = 4 ∷ bytes16 sort
class_bytes (class.Variable sort offset) = 5 ∷ (bytes16 sort ++ bytes16 offset)
class_bytes (class.Procedure sort number) = 6 ∷ (bytes16 sort ++ number ∷ [])

abbrev pub name_bytes : SymName → List ℕ
name_bytes x = shown_code x.shown ∷ (spelling name x.name ++ class_bytes x.class)

abbrev pub names_bytes : List SymName → List ℕ
names_bytes xs = bytes16 (length xs) ++ flat_map name_bytes xs

abbrev pub file_bytes : SymbolFile → List ℕ
file_bytes f = codes "LSYM" ++ 1 ∷ (spelling name f.name ++ (bytes32 f.key.0 ++ (rests_bytes f.rests ++ (types_bytes f.types ++ names_bytes f.names))))

-- ---- counts, numbers and bounds that their fields hold
abbrev pub short_field : Field → Type 0
short_field f = f.sort < 65536

abbrev pub short_fields : List Field → Type 0
short_fields fs = All short_field fs

abbrev pub short_parameter : Parameter → Type 0
short_parameter p = p.sort < 65536

abbrev pub short_parameters : List Parameter → Type 0
short_parameters ps = All short_parameter ps

-- None has the number 65535
abbrev pub short_answer : Option ℕ → Type 0
short_answer a = answer_code a < 65536

abbrev pub short_form : Form → Type 0
short_form (Enumeration names) = length names < 65536
short_form (Subrange base lower upper) = (base < 65536) × (word_of lower < 65536) × (word_of upper < 65536)
short_form (Array index element) = (index < 65536) × (element < 65536)
short_form (Record fields) = (length fields < 65536) × short_fields fields
short_form (Set base) = base < 65536
short_form (Pointer target) = target < 65536
short_form (Procedure parameters answer) = (length parameters < 256) × short_parameters parameters × short_answer answer
short_form Opaque = ⊤

abbrev pub short_class : Class → Type 0
short_class (class.Whole value) = ⊤
short_class (class.Scalar sort word) = sort < 65536
short_class (class.Chars text) = length text < 65536
short_class (class.Sort sort) = sort < 65536
short_class (class.Variable sort offset) = (sort < 65536) × (offset < 65536)
short_class (class.Procedure sort number) = (sort < 65536) × (number < 256)

abbrev pub short_type : SymType → Type 0
short_type t = (t.origin < 256) × (t.number < 65536) × short_form t.form

abbrev pub short_name : SymName → Type 0
short_name x = short_class x.class

abbrev pub short_types : List SymType → Type 0
short_types ts = All short_type ts

abbrev pub short_names : List SymName → Type 0
short_names xs = All short_name xs

pub record IsShort (f : SymbolFile) : Type 0 where
  pub rests : length f.rests < 256
  pub types : length f.types < 65536
  pub each_type : short_types f.types
  pub names : length f.names < 65536
  pub each_name : short_names f.names

abbrev pub is_short : SymbolFile → Type 0
is_short f = IsShort f
