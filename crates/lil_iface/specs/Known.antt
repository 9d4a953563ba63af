-- The interface that a symbol file tells.
use Rattle.std.specs.Prelude.{ℕ, ◌+◌, List, [], ◌∷◌, length, map, None}
use Rattle.std.specs.List.{flat_map}
use Rattle.lil_types.specs.{declared.table.{Field.Field, Parameter.Parameter, TypeForm.TypeForm}, Types.{Table, span}, Adding.appended}
use Rattle.lil_types.specs.declared.table.TypeForm.TheVariants as f
use Rattle.lil_scope.specs.declared.thing.{Chars.Chars, Thing.Thing}
use Rattle.lil_scope.specs.declared.thing.Kind.TheVariants as k
use Rattle.lil_scope.specs.declared.thing.Thing.TheVariants as t
use Rattle.lil_interfaces.specs.declared.surface.{Interface.Interface, Exported.Exported}
use Rattle.lil_symfile.specs.declared.tree.{Class.Class, Form.Form, Field.{Field as SymField}, Parameter.{Parameter as SymParameter}, SymType.SymType, SymName.SymName, SymbolFile.SymbolFile}
use Rattle.lil_symfile.specs.declared.tree.Class.TheVariants as c
use Rattle.lil_symfile.specs.declared.tree.Form.TheVariants as s

-- ---- types
abbrev pub field_in : SymField → Field
field_in x = record { name = x.name; sort = x.sort }

abbrev pub parameter_in : SymParameter → Parameter
parameter_in x = record { by_place = x.by_place; open_array = x.open_array; sort = x.sort }

abbrev pub form_in : Form → TypeForm
form_in (s.Enumeration names) = f.Enumeration names
form_in (s.Subrange base lower upper) = f.Subrange base (span lower upper)
form_in (s.Array index element) = f.Array index element
form_in (s.Record fields) = f.Record (map field_in fields)
form_in (s.Set base) = f.SetOf base
form_in (s.Pointer target) = f.Pointer target
form_in (s.Procedure parameters answer) = f.Procedure (map parameter_in parameters) answer
form_in s.Opaque = f.Opaque None

abbrev pub with_type : Table → SymType → Table
with_type t x = appended t (record { «module» = x.origin; number = x.number }) (form_in x.form)

abbrev pub types_in : Table → List SymType → Table
types_in t [] = t
types_in t (x ∷ xs) = types_in (with_type t x) xs

-- ---- texts of constants, in the order of the names
abbrev pub first_of : List ℕ → ℕ
first_of [] = 0
first_of (b ∷ bs) = b

abbrev pub chars_in : List ℕ → Chars
chars_in text = record { length = length text; first = first_of text }

abbrev pub text_of : Class → List (List ℕ)
text_of (c.Whole value) = []
text_of (c.Scalar sort word) = []
text_of (c.Chars text) = text ∷ []
text_of (c.Sort sort) = []
text_of (c.Variable sort offset) = []
text_of (c.Procedure sort number) = []

-- ---- names, where so many texts stand before. What is external belongs to the module itself
abbrev pub thing_in : ℕ → Class → Thing
thing_in n (c.Whole value) = t.Constant (k.Whole value)
thing_in n (c.Scalar sort word) = t.Constant (k.Scalar sort word)
thing_in n (c.Chars text) = t.Named n (chars_in text)
thing_in n (c.Sort sort) = t.Type sort
thing_in n (c.Variable sort offset) = t.ExternalVariable (record { «module» = 0; offset = offset; sort = sort })
thing_in n (c.Procedure sort number) = t.ExternalProcedure (record { «module» = 0; number = number; sort = sort })

abbrev pub names_in : ℕ → List SymName → List Exported
names_in n [] = []
names_in n (x ∷ xs) = record { shown = x.shown; name = x.name; what = thing_in n x.class } ∷ names_in (n + length (text_of x.class)) xs

abbrev pub interface_in : SymbolFile → Interface
interface_in x = record {
  name = x.name;
  key = x.key;
  rests = x.rests;
  types = types_in [] x.types;
  texts = flat_map (λ y. text_of y.class) x.names;
  names = names_in 0 x.names;
}
