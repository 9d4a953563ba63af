-- The interface of a definition: what its symbol file says.
use Rattle.std.specs.Prelude.{◌≡◌, ◌⊎◌, ℕ, ◌+◌, nat_lt, nat_le, min, Bool, true, false, List, [], ◌∷◌, map, drop, slice_get, Option, Some, None, if◌then◌else◌}
use Rattle.std.specs.List.{flat_map, list_any, sum_by}
use Rattle.lil_base.specs.{declared.fault.{FaultKind.TheVariants.DataTooLong, SourceFault.SourceFault}, Faults.{fault, fault_number}}
use Rattle.lil_text.specs.declared.tree.Ident.{Ident}
use Rattle.lil_language.specs.declared.unit.Unit.{Unit as Tree}
use Rattle.lil_types.specs.declared.table.{Field.Field, Parameter.Parameter, TypeEntry.TypeEntry, TypeForm.TypeForm}
use Rattle.lil_types.specs.declared.table.TypeForm.TheVariants as f
use Rattle.lil_types.specs.Types.{Table}
use Rattle.lil_declared.specs.declared.declared.RVar.{RVar}
use Rattle.lil_scope.specs.{declared.{env.Env.Env, thing.{Bound.Bound, Kind.Kind, Thing.Thing}}, Names.{block_at, bound_of, same}}
use Rattle.lil_scope.specs.declared.thing.Kind.TheVariants as k
use Rattle.lil_scope.specs.declared.thing.Thing.TheVariants as t
use Rattle.lil_layout.specs.Data.{variable_words}
use Rattle.lil_interfaces.specs.declared.surface.Interface.{Interface}
use Rattle.lil_report.specs.declared.report.Fault.{Fault as Checked}
use Rattle.lil_check_unit.specs.Units.{declared, brought, imported_names, names_worst, told}
use Rattle.lil_format.specs.{declared.name.Wanted.Wanted, Format.Fits}
use Rattle.lil_symfile.specs.declared.tree.{Class.Class, Form.Form, Field.{Field as SymField}, Parameter.{Parameter as SymParameter}, SymType.SymType, SymName.SymName, SymbolFile.SymbolFile}
use Rattle.lil_symfile.specs.declared.tree.Class.TheVariants as c
use Rattle.lil_symfile.specs.declared.tree.Form.TheVariants as s
use Rattle.lil_symfile.specs.Symbol.{symbol_file}

-- ---- types. What an opaque type is in its implementation isn't told
abbrev pub field_of : Field → SymField
field_of x = record { name = x.name; sort = x.sort }

abbrev pub parameter_of : Parameter → SymParameter
parameter_of x = record { by_place = x.by_place; open_array = x.open_array; sort = x.sort }

abbrev pub form_of : TypeForm → Form
form_of (f.Enumeration names) = s.Enumeration names
form_of (f.Subrange base span) = s.Subrange base span.low span.high
form_of (f.Array index element) = s.Array index element
form_of (f.Record fields) = s.Record (map field_of fields)
form_of (f.SetOf base) = s.Set base
form_of (f.Pointer target) = s.Pointer target
form_of (f.Procedure parameters answer) = s.Procedure (map parameter_of parameters) answer
form_of (f.Opaque meant) = s.Opaque

abbrev pub type_of : TypeEntry → SymType
type_of e = record { origin = e.origin.module; number = e.origin.number; form = form_of e.form }

-- ---- where variables lie: each behind those before it. Sums of words end at 4294967295
abbrev pub offsets_from : ℕ → Table → List RVar → List ℕ
offsets_from at t [] = []
offsets_from at t (v ∷ vs) = at ∷ offsets_from (min (at + variable_words t v) 4294967295) t vs

abbrev pub offsets : Env → List ℕ
offsets e = offsets_from 0 e.types e.variables

-- ---- what a name stands for in a symbol file, where it may stand there
abbrev pub chars_class : Option (List ℕ) → Option Class
chars_class None = None
chars_class (Some text) = Some (c.Chars text)

abbrev pub variable_class : ℕ → Option ℕ → Option Class
variable_class sort None = None
variable_class sort (Some offset) = Some (c.Variable sort offset)

abbrev pub constant_class : Kind → Option Class
constant_class (k.Whole value) = Some (c.Whole value)
constant_class (k.Scalar sort word) = Some (c.Scalar sort word)
constant_class (k.Chars text) = None
constant_class k.Nil = None
constant_class (k.Of sort) = None
constant_class (k.Open sort) = None
constant_class (k.Routine sort) = None

-- procedures have numbers from 1
abbrev pub class_of : Env → List ℕ → Thing → Option Class
class_of e os (t.Constant kind) = constant_class kind
class_of e os (t.Named n chars) = chars_class (slice_get e.texts n)
class_of e os t.Nil = None
class_of e os (t.Variable v) = variable_class v.sort (slice_get os v.number)
class_of e os (t.Type sort) = Some (c.Sort sort)
class_of e os (t.Procedure p) = Some (c.Procedure p.sort (min (p.number + 1) 4294967295))
class_of e os (t.ExternalVariable v) = None
class_of e os (t.ExternalProcedure p) = None
class_of e os (t.Resident r sort) = None
class_of e os (t.Standard standard) = None
class_of e os (t.Module block) = None
class_of e os t.Hidden = None
class_of e os t.Broken = None

-- ---- its own names, in the order of their places
abbrev pub offset_of : Bound → ℕ
offset_of b = b.entry.place.offset

abbrev pub put : Bound → List Bound → List Bound
put x [] = x ∷ []
put x (y ∷ ys) = if nat_le (offset_of x) (offset_of y) then x ∷ y ∷ ys else y ∷ put x ys

abbrev pub by_place : List Bound → List Bound
by_place [] = []
by_place (x ∷ xs) = put x (by_place xs)

-- a block's names stand behind those that it imports
abbrev pub own_names : ℕ → Env → List Bound
own_names imported e = by_place (map bound_of (drop imported (block_at e.scopes.blocks e.scopes.inner)))

-- ---- which names are exported: those that the list names, and all where there is no list
abbrev pub is_shown : Option (List Ident) → List ℕ → Bool
is_shown None n = true
is_shown (Some exports) n = list_any (λ i. same n i.name) exports

abbrev pub name_by : Bool → List ℕ → Option Class → List SymName
name_by shown n None = []
name_by shown n (Some class) = record { shown = shown; name = n; class = class } ∷ []

abbrev pub name_of : Env → List ℕ → Option (List Ident) → Bound → List SymName
name_of e os exports b = name_by (is_shown exports b.name) b.name (class_of e os b.entry.thing)

-- ---- the symbol file of a definition under a key
abbrev pub symbols_by : Tree → ℕ → List Wanted → Env → ℕ → SymbolFile
symbols_by u key rests e imported = record {
  name = u.head.name.name;
  key = record { 0 = key };
  rests = rests;
  types = map type_of e.types;
  names = flat_map (name_of e (offsets e) u.head.exports) (own_names imported e);
}

-- ---- 61 DataTooLong, at the unit's name
abbrev pub too_long : Tree → SourceFault
too_long u = fault (fault_number DataTooLong) u.head.name.place

-- ---- where these are the interfaces of what it imports
module _ (u : Tree) (known : List Interface) where
  unfoldable pub symbols_of : ℕ → SymbolFile
  symbols_of key = symbols_by u key (brought known u).rests (declared known u).0 (imported_names known u)

  -- the words of its variables
  abbrev pub variables_words : ℕ
  variables_words = sum_by (variable_words (declared known u).0.types) (declared known u).0.variables

  -- a fault of its names and declarations; else counts that a symbol file has no room for; else more than 32,000 words of variables
  abbrev pub OfNames : SourceFault → Type 0
  OfNames f = (g : Checked) × (names_worst u known ≡ Some g) × (f ≡ told g)

  abbrev pub OfCounts : ℕ → SourceFault → Type 0
  OfCounts key f = (names_worst u known ≡ None) × (Fits symbol_file (symbols_of key) → ⊥) × (f ≡ too_long u)

  abbrev pub OfWords : ℕ → SourceFault → Type 0
  OfWords key f = (names_worst u known ≡ None) × Fits symbol_file (symbols_of key) × (nat_lt 32000 variables_words ≡ true) × (f ≡ too_long u)

  abbrev pub HasInterfaceFault : ℕ → SourceFault → Type 0
  HasInterfaceFault key f = OfNames f ⊎ (OfCounts key f ⊎ OfWords key f)

  -- the symbol file of a definition that has no fault
  pub record IsInterface (key : ℕ) (s : SymbolFile) : Type 0 where
    pub right : names_worst u known ≡ None
    pub is : s ≡ symbols_of key
    pub spelled : Fits symbol_file s
    pub words : nat_lt 32000 variables_words ≡ false
