-- What pointers point to.
use Rattle.std.specs.Prelude.{ℕ, zero, suc, Bool, ◌||◌, List, [], ◌∷◌, ◌++◌, length, map, is_some, Option, Some, None, if◌then◌else◌}
use Rattle.lil_types.specs.{Types.{Table, entry}, declared.table.{TypeForm.TypeForm, TypeEntry.TypeEntry}}
use Rattle.lil_types.specs.declared.table.TypeForm.TheVariants as form
use Rattle.lil_resolved.specs.{Kinds.{Objects, Kind, OfPointer, Shape, shape_at}, Views.kind_view, declared.resolved.RKind.RKind}
use Rattle.lil_shapes.specs.{declared.pointers.Target.Target, Bases.{kind_at, composite_at}}

abbrev pub pointed_in : TypeForm → Option ℕ
pointed_in (form.Pointer n) = Some n
pointed_in _ = None

abbrev pub pointed_by : Option TypeEntry → Option ℕ
pointed_by None = None
pointed_by (Some e) = pointed_in e.form

-- the type to which a pointer type points, None for any other type
abbrev pub pointed : Table → ℕ → Option ℕ
pointed t n = pointed_by (entry t n)

-- ---- the list of them
abbrev pub number_or : ℕ → Option ℕ → ℕ
number_or n None = n
number_or n (Some m) = m

-- by the numbers of types, below one: that of the type to which a pointer type points, and any other's own
unfoldable pub targets_below : Table → ℕ → List ℕ
targets_below t zero = []
targets_below t (suc n) = targets_below t n ++ number_or n (pointed t n) ∷ []

-- what lies there, by the shapes of all types
abbrev pub targets : Table → List Shape → List Shape
targets t ts = map (shape_at ts) (targets_below t (length ts))

-- ---- what a place of a pointer type leads to
-- something lies in a variable of the type
abbrev pub lies_at : Table → ℕ → Bool
lies_at t s = is_some (kind_at t s) || composite_at t s

abbrev pub target_with : Table → ℕ → Option ℕ → Option Target
target_with t n None = None
target_with t n (Some s) = if lies_at t s then Some (record { pointer = n; sort = s }) else None

abbrev pub target_of : Table → Kind → Option Target
target_of t (OfPointer (Objects n)) = target_with t n (pointed t n)
target_of t _ = None

abbrev pub target_by : Table → Option RKind → Option Target
target_by t None = None
target_by t (Some k) = target_of t (kind_view k)

-- the numbers of a pointer type and of the type to which it points, None for any other type, and where nothing lies there
abbrev pub target_at : Table → ℕ → Option Target
target_at t s = target_by t (kind_at t s)

abbrev pub target_sort : Target → ℕ
target_sort x = x.sort
