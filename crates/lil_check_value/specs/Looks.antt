-- What names mean where they stand.
use Rattle.std.specs.Prelude.{◌≡◌, true, List, ◌∷◌, Option, ℕ, is_none, Bool, false, [], Some, None, if◌then◌else◌, ◌+◌, not}
use Rattle.std.proofs.Common.{◌∙◌, ap}
use Rattle.lil_base.specs.declared.fault.{Place.Place, FaultKind.TheVariants.{NotBuilt, WrongKind, Unknown, NotExported}}
use Rattle.lil_report.specs.{declared.report.Fault.Fault, Told.{Row, row, noted, tell, Said, after}}
use Rattle.lil_text.specs.declared.tree.{Qualident.Qualident, Ident.Ident}
use Rattle.lil_types.specs.{Types.{Table, bit_set}, declared.fields.FieldAt.FieldAt}
use Rattle.lil_scope.specs.{declared.{env.Env.Env, thing.Thing.Thing}, Built.built, Names.{find, member}}
use Rattle.lil_kinds.specs.Forms.{set_base, field}
use Rattle.lil_scope.specs.declared.thing.Thing.TheVariants as t
use Rattle.lil_check_value.specs.declared.names.Looked.{Looked, TheVariants.{Nothing, Field, Thing as Declared}}

-- ---- phrases whose form isn't built

-- 90 NotBuilt, at the phrase's first token, where its form isn't built: it means the same, and has this row before its own
unfoldable pub not_built : {A : Type 0} → Bool → Place → A × List Row → A × List Row
not_built b p m = (m.0, row b p NotBuilt ∷ m.1)

module _ {A : Type 0} where
  pub said_not_built : (b : Bool) (p : Place) {m : A × List Row} {r u s : Option Fault} {a : A} → u ≡ noted r (row b p NotBuilt) → Said m u a s → Said (not_built b p m) r a s
  unfolding not_built tell
  said_not_built b p {m = m} is h = record { value = h.value; told = h.told ∙ ap (λ u. tell u m.1) is }

-- ---- the nearest WITH whose record has a field of this name comes before all declarations
abbrev pub nearer : Option FieldAt → ℕ → Looked → Looked
nearer None number outer = outer
nearer (Some f) number outer = Field number f.number f.sort

-- what a name means in the records of WITH from a number on, where it means this in those outside of them
abbrev pub in_withs : Table → List ℕ → Looked → ℕ → List ℕ → Looked
in_withs types name outer number [] = outer
in_withs types name outer number (w ∷ ws) = in_withs types name (nearer (field types w name) number outer) (number + 1) ws

abbrev pub nearest : Table → List ℕ → List ℕ → Looked
nearest types name ws = in_withs types name Nothing 0 ws

abbrev pub looked_as : Option Thing → Looked
looked_as None = Nothing
looked_as (Some x) = Declared x

abbrev pub or_declared : Looked → Option Thing → Looked
or_declared Nothing o = looked_as o
or_declared (Field w f s) o = Field w f s
or_declared (Declared x) o = Declared x

unfoldable pub look : Env → List ℕ → Looked
look e n = or_declared (nearest e.types n e.withs) (find e.scopes n)

-- ---- 20 Unknown: nothing is declared of the name
abbrev pub is_nothing : Looked → Bool
is_nothing Nothing = true
is_nothing (Field w f s) = false
is_nothing (Declared x) = false

-- ---- 22 NotExported: the definition declares the name, but doesn't export it
abbrev pub is_hidden_thing : Thing → Bool
is_hidden_thing t.Hidden = true
is_hidden_thing _ = false

abbrev pub is_hidden : Looked → Bool
is_hidden Nothing = false
is_hidden (Field w f s) = false
is_hidden (Declared x) = is_hidden_thing x

-- ---- 24 WrongKind: the name means something else than a type
abbrev pub no_type_thing : Thing → Bool
no_type_thing (t.Type s) = false
no_type_thing t.Hidden = false
no_type_thing t.Broken = false
no_type_thing _ = true

abbrev pub no_type : Looked → Bool
no_type Nothing = false
no_type (Field w f s) = true
no_type (Declared x) = no_type_thing x

-- ---- 24 WrongKind: the name means something else than a module
abbrev pub no_module_thing : Thing → Bool
no_module_thing (t.Module k) = false
no_module_thing t.Hidden = false
no_module_thing t.Broken = false
no_module_thing _ = true

abbrev pub no_module : Looked → Bool
no_module Nothing = false
no_module (Field w f s) = true
no_module (Declared x) = no_module_thing x

abbrev pub type_of : Looked → Option ℕ
type_of (Declared (t.Type s)) = Some s
type_of _ = None

abbrev pub module_of : Looked → Option ℕ
module_of (Declared (t.Module k)) = Some k
module_of _ = None

-- ---- 90 NotBuilt: no program with this name may run
abbrev pub is_built_name : Looked → Bool
is_built_name Nothing = true
is_built_name (Field w f s) = true
is_built_name (Declared x) = built x

-- a name at p where a type's name is needed; the whole name begins at another place, where its module's name stands before it
unfoldable pub type_node : Place → Place → Looked → Option ℕ × List Row
type_node at p l = (
  type_of l,
  row (is_nothing l) p Unknown ∷ row (is_hidden l) p NotExported ∷ row (no_type l) p WrongKind
      -- 90 NotBuilt
      ∷ row (not (is_built_name l)) at NotBuilt ∷ [],
)

-- a name where a module's name is needed
unfoldable pub module_node : Place → Looked → Option ℕ × List Row
module_node p l = (module_of l, row (is_nothing l) p Unknown ∷ row (is_hidden l) p NotExported ∷ row (no_module l) p WrongKind ∷ [])

-- a name of a module, whose own name stands at a place, where a type's name is needed
abbrev pub member_type : Env → Place → Ident → Option ℕ → Option ℕ × List Row
member_type e at x None = (None, [])
member_type e at x (Some k) = type_node at x.place (looked_as (member e.scopes k x.name))

abbrev pub type_by : Env → Option Ident → Ident → Option ℕ × List Row
type_by e None x = type_node x.place x.place (look e x.name)
type_by e (Some m) x = after (module_node m.place (look e m.name)) (member_type e m.place x)

unfoldable pub type_named : Env → Qualident → Option ℕ × List Row
type_named e q = type_by e q.owner q.name

-- ---- types of sets

-- the set's type: BITSET where none is named
abbrev pub is_no_set : Table → ℕ → Bool
is_no_set types s = is_none (set_base types s)

abbrev pub set_only : Table → Option ℕ → Option ℕ
set_only types None = None
set_only types (Some s) = if is_no_set types s then None else Some s

abbrev pub no_set : Table → Option ℕ → Bool
no_set types None = false
no_set types (Some s) = is_no_set types s

-- 24 WrongKind: a type that is no set
unfoldable pub sort_node : Table → Place → Option ℕ → Option ℕ × List Row
sort_node types p o = (set_only types o, row (no_set types o) p WrongKind ∷ [])

abbrev pub set_sort : Env → Option Qualident → Option ℕ × List Row
set_sort e None = (Some bit_set, [])
set_sort e (Some q) = after (type_named e q) (sort_node e.types q.name.place)
