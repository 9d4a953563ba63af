-- The format of symbol files. Each rule stands at the field where it is tested.
use Rattle.std.proofs.Common.{sym, ap, ◌∙◌, refl}
use Rattle.std.specs.Prelude.{◌≡◌, ℕ, ◌<◌, ◌+◌, nat_lt, nat_le, ◌==◌, ℤ, pos, negsuc, int_lt, Bool, true, false, not, ◌&&◌, ◌||◌, cond, if◌then◌else◌, List, [], ◌∷◌, length, map, Option, Some, None, codes}
use Rattle.std.proofs.lemmas.Bool.{eqb-true}
use Rattle.lil_format.specs.Reading.{Parser, and_then, u1, u2, u4, such}
use Rattle.lil_format.specs.Format.{Format, give, number, text, ◌▸◌, ◌>>=◌, list, cases, shape, same, any, any_text, number_such, plain, list_of, one_of, tagged, reads}
use Rattle.lil_format.specs.declared.name.Wanted.{Wanted}
use Rattle.lil_format.specs.Names.{name, name_but}
use Rattle.lil_symfile.specs.declared.tree.{Field.{Field}, Parameter.{Parameter}, SymType.{SymType}, SymName.{SymName}, SymbolFile.{SymbolFile}}
use Rattle.lil_symfile.specs.declared.kinds.{Kind.{Kind}, Rule.{Rule}}
use Rattle.lil_symfile.specs.declared.tree.Form.{Form, TheVariants.{Enumeration, Subrange, Array, Record, Set, Pointer, Procedure, Opaque}}
use Rattle.lil_symfile.specs.declared.tree.Class.{Class}
use Rattle.lil_symfile.specs.declared.tree.Class.TheVariants as class
use Rattle.lil_symfile.specs.declared.kinds.Rule.TheVariants as rule
use Rattle.lil_symfile.specs.Kinds.{kinds, kind_at, is_signed, names_type}
use Rattle.lil_symfile.specs.Numbers.{word_such, long_such}

-- ---- the modules on which the definition rests, each once. The key of a resident one is 0
abbrev pub is_resident : List ℕ → Bool
is_resident t =
    same (codes "Terminal") t || (same (codes "InOut") t || (same (codes "FileSystem") t || (same (codes "Storage") t
    || (same (codes "Program") t || (same (codes "Channels") t || same (codes "SYSTEM") t)))))

abbrev pub key_fits : List ℕ → ℕ → Bool
key_fits t k = not (is_resident t) || (k == 0)

unfoldable pub rest : List (List ℕ) → Format Wanted
rest ns = shape (λ p. record { name = p.0; key = record { 0 = p.1 } }) (λ w. (w.name, w.key.0)) (λ p. refl) (name_but ns >>= λ n. number_such u4 (key_fits n))

abbrev pub rest_names : List Wanted → List (List ℕ)
rest_names ws = map (λ w. w.name) ws

unfoldable pub rests : Format (List Wanted)
rests = list u1 any (λ n done. rest (rest_names done))

-- ---- numbers of types
unfoldable pub sort : List Kind → Rule → Format ℕ
sort ks r = number_such u2 (names_type ks r)

-- any type of a file that has so many
abbrev pub in_file : ℕ → ℕ → Bool
in_file count n = nat_lt n 8 || (nat_le 16 n && nat_lt n (16 + count))

-- ---- fields of a record
unfoldable pub field : List Kind → List (List ℕ) → Format Field
field ks ns = shape (λ p. record { name = p.0; sort = p.1 }) (λ f. (f.name, f.sort)) (λ p. refl) (name_but ns >>= λ n. sort ks rule.Any)

abbrev pub field_names : List Field → List (List ℕ)
field_names fs = map (λ f. f.name) fs

unfoldable pub fields : List Kind → Format (List Field)
fields ks = list u2 any (λ n done. field ks (field_names done))

-- ---- parameters: VAR, an open array, both or neither; and a result, FFFFH for none
abbrev pub flags_code : Bool × Bool → ℕ
flags_code p = (if p.0 then 1 else 0) + (if p.1 then 2 else 0)

abbrev pub flags_table : List (ℕ × (Bool × Bool))
flags_table = (0, (false, false)) ∷ (1, (true, false)) ∷ (2, (false, true)) ∷ (3, (true, true)) ∷ []

unfoldable pub flags : Format (Bool × Bool)
flags = one_of u1 flags_code flags_table (refl, (refl, (refl, (refl, tt))))

unfoldable pub parameter : List Kind → Format Parameter
parameter ks = shape (λ p. record { by_place = p.0.0; open_array = p.0.1; sort = p.1 }) (λ x. ((x.by_place, x.open_array), x.sort)) (λ p. refl) do
  f ← flags
  sort ks rule.Any

unfoldable pub parameters : List Kind → Format (List Parameter)
parameters ks = list_of u1 any (parameter ks)

abbrev pub some_type : Option ℕ → Option (Option ℕ)
some_type None = None
some_type (Some n) = Some (Some n)

abbrev pub answer_value : List Kind → ℕ → Option (Option ℕ)
answer_value ks n = if n == 65535 then Some None else some_type (such (names_type ks rule.Any) n)

abbrev pub answer_code : Option ℕ → ℕ
answer_code None = 65535
answer_code (Some n) = n

some_of : (x y : Option ℕ) → Some x ≡ Some y → x ≡ y
some_of x y e = cc

answer_some : (n : ℕ) (b : Bool) (a : Option ℕ) → some_type (if b then Some n else None) ≡ Some a → answer_code a ≡ n
answer_some n true a e = ap answer_code (sym (some_of (Some n) a e))
answer_some n false a e = absurd cc

answer_by : (ks : List Kind) (n : ℕ) (b : Bool) (a : Option ℕ) → (n == 65535) ≡ b
    → (if b then Some None else some_type (such (names_type ks rule.Any) n)) ≡ Some a → answer_code a ≡ n
answer_by ks n true a t e = ap answer_code (sym (some_of None a e)) ∙ sym (eqb-true n 65535 t)
answer_by ks n false a t e = answer_some n (names_type ks rule.Any n) a e

pub answer_law : (ks : List Kind) (n : ℕ) (a : Option ℕ) → n < 65536 → answer_value ks n ≡ Some a → answer_code a ≡ n
answer_law ks n a l e = answer_by ks n (n == 65535) a refl e

unfoldable pub answer : List Kind → Format (Option ℕ)
answer ks = number u2 (answer_value ks) answer_code (answer_law ks)

-- ---- forms
abbrev pub at_least_one : ℕ → Bool
at_least_one n = nat_le 1 n

abbrev pub enumeration_in : Form → List (List ℕ)
enumeration_in (Enumeration names) = names
enumeration_in _ = []

unfoldable pub constants : Format (List (List ℕ))
constants = list_of u2 at_least_one name

unfoldable pub enumeration : Format Form
enumeration = shape Enumeration enumeration_in (λ p. refl) constants

abbrev pub any_bound : ℤ → Bool
any_bound z = true

abbrev pub from_lower : ℤ → ℤ → Bool
from_lower low z = not (int_lt z low)

unfoldable pub lower : Bool → Format ℤ
lower signed = word_such signed any_bound

unfoldable pub upper : Bool → ℤ → Format ℤ
upper signed low = word_such signed (from_lower low)

abbrev pub subrange_in : Form → ℕ × (ℤ × ℤ)
subrange_in (Subrange base low high) = (base, (low, high))
subrange_in _ = (0, (pos 0, pos 0))

abbrev pub base_signed : List Kind → ℕ → Bool
base_signed ks n = is_signed (kind_at ks n)

unfoldable pub subrange : List Kind → Format Form
subrange ks = shape (λ p. Subrange p.0 p.1.0 p.1.1) subrange_in (λ p. refl) do
  b ← sort ks rule.Ordinal
  l ← lower (base_signed ks b)
  upper (base_signed ks b) l

abbrev pub array_in : Form → ℕ × ℕ
array_in (Array index element) = (index, element)
array_in _ = (0, 0)

unfoldable pub array : List Kind → Format Form
array ks = shape (λ p. Array p.0 p.1) array_in (λ p. refl) (sort ks rule.Ordinal >>= λ i. sort ks rule.Any)

abbrev pub fields_in : Form → List Field
fields_in (Record fields) = fields
fields_in _ = []

unfoldable pub record_form : List Kind → Format Form
record_form ks = shape Record fields_in (λ p. refl) (fields ks)

abbrev pub type_in : Form → ℕ
type_in (Set base) = base
type_in (Pointer target) = target
type_in _ = 0

unfoldable pub set_form : List Kind → Format Form
set_form ks = shape Set type_in (λ p. refl) (sort ks rule.Small)

unfoldable pub pointer : ℕ → Format Form
pointer count = shape Pointer type_in (λ p. refl) (number_such u2 (in_file count))

abbrev pub heading_in : Form → List Parameter × Option ℕ
heading_in (Procedure parameters answer) = (parameters, answer)
heading_in _ = ([], None)

unfoldable pub procedure : List Kind → Format Form
procedure ks = shape (λ p. Procedure p.0 p.1) heading_in (λ p. refl) (parameters ks >>= λ ps. answer ks)

abbrev pub form_number : Form → ℕ
form_number (Enumeration names) = 1
form_number (Subrange base low high) = 2
form_number (Array index element) = 3
form_number (Record fields) = 4
form_number (Set base) = 5
form_number (Pointer target) = 6
form_number (Procedure parameters answer) = 7
form_number Opaque = 8

abbrev pub form_by : ℕ → List Kind → ℕ → Format Form
form_by count ks k =
    cond (k == 1) enumeration (cond (k == 2) (subrange ks) (cond (k == 3) (array ks) (cond (k == 4) (record_form ks)
    (cond (k == 5) (set_form ks) (cond (k == 6) (pointer count) (cond (k == 7) (procedure ks) (give Opaque)))))))

-- what stands behind a form's number, as it is read
abbrev pub form_arm : Format Form → ℕ → Parser Form
form_arm f k = λ bs. and_then (reads f bs) (λ a. tagged (form_number a == k) a)

abbrev pub is_form : ℕ → Bool
is_form k = nat_le 1 k && nat_le k 8

unfoldable pub form : ℕ → List Kind → Format Form
form count ks = cases u1 is_form form_number (form_by count ks)

-- ---- types: one of this module has its own number
abbrev pub is_origin : ℕ → ℕ → Bool
is_origin rested k = nat_le k rested

abbrev pub number_fits : ℕ → ℕ → ℕ → Bool
number_fits before origin n = if origin == 0 then n == 16 + before else nat_le 16 n

unfoldable pub sym_type : ℕ → ℕ → List Kind → Format SymType
sym_type rested count ks = shape (λ p. record { origin = p.0; number = p.1.0; form = p.1.1 }) (λ t. (t.origin, (t.number, t.form))) (λ p. refl) do
  o ← number_such u1 (is_origin rested)
  n ← number_such u2 (number_fits (length ks) o)
  form count ks

unfoldable pub types : ℕ → Format (List SymType)
types rested = list u2 any (λ count done. sym_type rested count (kinds done))

-- ---- classes
abbrev pub is_constant : ℤ → Bool
is_constant z = not (int_lt z (negsuc 32767)) && not (int_lt (pos 65535) z)

abbrev pub whole_in : Class → ℤ
whole_in (class.Whole value) = value
whole_in _ = pos 0

unfoldable pub whole : Format Class
whole = shape class.Whole whole_in (λ p. refl) (long_such is_constant)

abbrev pub two_in : Class → ℕ × ℕ
two_in (class.Scalar n word) = (n, word)
two_in (class.Variable n offset) = (n, offset)
two_in (class.Procedure n place) = (n, place)
two_in _ = (0, 0)

unfoldable pub scalar : List Kind → Format Class
scalar ks = shape (λ p. class.Scalar p.0 p.1) two_in (λ p. refl) (sort ks rule.Scalar >>= λ s. plain u2)

abbrev pub chars_in : Class → List ℕ
chars_in (class.Chars t) = t
chars_in _ = []

unfoldable pub chars : Format Class
chars = shape class.Chars chars_in (λ p. refl) (text u2 any any_text)

abbrev pub sort_in : Class → ℕ
sort_in (class.Sort n) = n
sort_in _ = 0

unfoldable pub type_name : List Kind → Format Class
type_name ks = shape class.Sort sort_in (λ p. refl) (sort ks rule.Any)

unfoldable pub variable : List Kind → Format Class
variable ks = shape (λ p. class.Variable p.0 p.1) two_in (λ p. refl) (sort ks rule.Any >>= λ s. plain u2)

unfoldable pub routine : List Kind → Format Class
routine ks = shape (λ p. class.Procedure p.0 p.1) two_in (λ p. refl) (sort ks rule.Procedure >>= λ s. number_such u1 at_least_one)

abbrev pub class_number : Class → ℕ
class_number (class.Whole value) = 1
class_number (class.Scalar n word) = 2
class_number (class.Chars t) = 3
class_number (class.Sort n) = 4
class_number (class.Variable n offset) = 5
class_number (class.Procedure n place) = 6

abbrev pub class_by : List Kind → ℕ → Format Class
class_by ks k =
    cond (k == 1) whole (cond (k == 2) (scalar ks) (cond (k == 3) chars (cond (k == 4) (type_name ks) (cond (k == 5) (variable ks) (routine ks)))))

-- what stands behind a class's number, as it is read
abbrev pub class_arm : Format Class → ℕ → Parser Class
class_arm f k = λ bs. and_then (reads f bs) (λ a. tagged (class_number a == k) a)

abbrev pub is_class : ℕ → Bool
is_class k = nat_le 1 k && nat_le k 6

unfoldable pub class_of : List Kind → Format Class
class_of ks = cases u1 is_class class_number (class_by ks)

-- ---- names
abbrev pub shown_code : Bool → ℕ
shown_code b = if b then 1 else 0

abbrev pub shown_table : List (ℕ × Bool)
shown_table = (0, false) ∷ (1, true) ∷ []

unfoldable pub shown : Format Bool
shown = one_of u1 shown_code shown_table (refl, (refl, tt))

unfoldable pub sym_name : List Kind → List (List ℕ) → Format SymName
sym_name ks ns = shape (λ p. record { shown = p.0; name = p.1.0; class = p.1.1 }) (λ x. (x.shown, (x.name, x.class))) (λ p. refl) do
  s ← shown
  n ← name_but ns
  class_of ks

abbrev pub declared_names : List SymName → List (List ℕ)
declared_names xs = map (λ x. x.name) xs

unfoldable pub names : List Kind → Format (List SymName)
names ks = list u2 any (λ n done. sym_name ks (declared_names done))

-- ---- the file
abbrev pub file_of : List ℕ × (ℕ × (List Wanted × (List SymType × List SymName))) → SymbolFile
file_of p = record { name = p.0; key = record { 0 = p.1.0 }; rests = p.1.1.0; types = p.1.1.1.0; names = p.1.1.1.1 }

unfoldable pub symbol_file : Format SymbolFile
symbol_file = codes "LSYM" ▸ (1 ∷ []) ▸ shape file_of (λ f. (f.name, (f.key.0, (f.rests, (f.types, f.names))))) (λ p. refl) do
  n ← name
  k ← number_such u4 at_least_one
  ws ← rests
  ts ← types (length ws)
  names (kinds ts)
