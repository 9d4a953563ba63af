-- The places that designators lead to, part by part, where code can be made of them.
use Rattle.std.specs.Prelude.{ℕ, ◌-◌, List, [], ◌∷◌, ◌++◌, length, slice_get, Option, Some, None}
use Rattle.lil_types.specs.Types.{Table, cardinal}
use Rattle.lil_declared.specs.declared.declared.{Mode.Mode, RVar.RVar}
use Rattle.lil_declared.specs.declared.declared.Mode.TheVariants as mode
use Rattle.lil_resolved.specs.declared.resolved.RNamed.TheVariants as named
use Rattle.lil_kinds.specs.declared.found.{Form.Form, Found.Found, Located.Located, OpenArray.OpenArray}
use Rattle.lil_kinds.specs.declared.found.Form.TheVariants as form
use Rattle.lil_resolved.specs.declared.resolved.{RExpr.RExpr, RKind.RKind, RNamed.RNamed, ROpening.{ROpening, TheVariants.{Copied, Lent}}, RPlace.{RPlace, roll-RPlace, out-RPlace}, RRoot.RRoot, RSelector.RSelector}
use Rattle.lil_resolved.specs.declared.resolved.RRoot.TheVariants as root
use Rattle.lil_resolved.specs.declared.resolved.RSelector.TheVariants as part
use Rattle.lil_shapes.specs.{declared.{composites.ArrayParts.ArrayParts, pointers.Target.Target}, Bases.{kind_at, field_at, array_at}, Pointers.target_at}
use Rattle.lil_forms.specs.{declared.places.Cell.Cell, Values.typed}

-- ---- with what a designator begins
abbrev pub at_root : RRoot → ℕ → Located
at_root r s = record { place = roll-RPlace (record { root = r; selectors = [] }); sort = s }

abbrev pub located_form : Option Located → Form
located_form None = form.Nothing
located_form (Some p) = form.Located p

abbrev pub located_in : Form → Option Located
located_in form.Nothing = None
located_in (form.Text cs) = None
located_in (form.Located p) = Some p
located_in (form.Open a) = None
located_in (form.Value x) = None
located_in (form.Routine n) = None

-- an open array, which is a parameter of a procedure
abbrev pub open_form : ROpening → ℕ → RNamed → Form
open_form o s (named.Module x) = form.Nothing
open_form o s (named.Level l x) = form.Open (record { opening = o; levels = l; number = x; sort = s })

-- what was handed in for a VAR parameter, which is one of a procedure
abbrev pub handed_form : ℕ → RNamed → Form
handed_form s (named.Module x) = form.Nothing
handed_form s (named.Level l x) = form.Located (at_root (root.Handed l x) s)

-- where a variable leads: to itself, to what was handed in, or it is an open array
abbrev pub variable_form : RNamed → Mode → ℕ → Form
variable_form n mode.Plain s = form.Located (at_root (root.Variable n) s)
variable_form n mode.Value s = form.Located (at_root (root.Variable n) s)
variable_form n mode.Place s = handed_form s n
variable_form n mode.OpenValue s = open_form Copied s n
variable_form n mode.OpenPlace s = open_form Lent s n

-- the same where it is seen
abbrev pub variable_at : RNamed → Option RVar → Form
variable_at n None = form.Nothing
variable_at n (Some v) = variable_form n v.mode v.sort

-- the record of a WITH, by its number from the outermost, by the types of all around
abbrev pub held_by : List ℕ → ℕ → Option ℕ → Option Located
held_by around w None = None
held_by around w (Some s) = Some (at_root (root.Held (length around - 1 - w)) s)

abbrev pub held_at : List ℕ → ℕ → Option Located
held_at around w = held_by around w (slice_get around w)

-- ---- parts
abbrev pub further : RPlace → RSelector → RPlace
further p x = roll-RPlace (record { root = (out-RPlace p).root; selectors = (out-RPlace p).selectors ++ x ∷ [] })

abbrev pub part_of : Located → RSelector → ℕ → Located
part_of p x s = record { place = further p.place x; sort = s }

-- a field, by its number
abbrev pub field_by : ℕ → Located → Option ℕ → Option Located
field_by i p None = None
field_by i p (Some s) = Some (part_of p (part.Field i) s)

abbrev pub field_of : Table → ℕ → Option Located → Option Located
field_of t i None = None
field_of t i (Some p) = field_by i p (field_at t p.sort i)

-- an element, by an index
abbrev pub element_as : Located → ℕ → Option RKind → Option RExpr → Option Located
element_as p s (Some j) (Some x) = Some (part_of p (part.Index j x) s)
element_as p s _ _ = None

abbrev pub element_by : Table → Found → Located → Option ArrayParts → Option Located
element_by t a p None = None
element_by t a p (Some parts) = element_as p parts.element (kind_at t parts.index) (typed t parts.index a)

-- one along an open array, by a CARDINAL
abbrev pub element_along : OpenArray → Option RExpr → Option Located
element_along o None = None
element_along o (Some x) = Some (at_root (root.Along o.levels o.number x) o.sort)

abbrev pub element_of : Table → Found → Form → Option Located
element_of t a form.Nothing = None
element_of t a (form.Text cs) = None
element_of t a (form.Located p) = element_by t a p (array_at t p.sort)
element_of t a (form.Open o) = element_along o (typed t cardinal a)
element_of t a (form.Value x) = None
element_of t a (form.Routine n) = None

-- what a pointer points to
abbrev pub target_by : Located → Option Target → Option Located
target_by p None = None
target_by p (Some x) = Some (part_of p (part.Follow x.pointer) x.sort)

abbrev pub target_of : Table → Option Located → Option Located
target_of t None = None
target_of t (Some p) = target_by p (target_at t p.sort)

-- ---- places of a kind, and their types
abbrev pub cell_as : Located → Option RKind → Option Cell
cell_as p None = None
cell_as p (Some j) = Some (record { place = p.place; kind = j; sort = p.sort })

unfoldable pub cell : Table → Option Located → Option Cell
cell t None = None
cell t (Some p) = cell_as p (kind_at t p.sort)
