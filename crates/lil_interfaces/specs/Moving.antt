-- What an interface says, in the numbers of a unit to which its types and texts are added.
use Rattle.std.specs.Prelude.{ℕ, ◌+◌, ◌-◌, nat_lt, min, Bool, true, false, map, List, [], ◌∷◌, Option, Some, None, slice_get, if◌then◌else◌}
use Rattle.lil_types.specs.declared.table.{Field.Field, Parameter.Parameter, TypeForm.{TypeForm, TheVariants.{Enumeration, Subrange, Array, Record, SetOf, Pointer, Procedure, Opaque}}}
use Rattle.lil_scope.specs.{declared.thing.{Kind.Kind, Thing.Thing}, Names.bound_at}
use Rattle.lil_scope.specs.declared.thing.Kind.TheVariants as k
use Rattle.lil_scope.specs.declared.thing.Thing.TheVariants as t
use Rattle.lil_interfaces.specs.{declared.surface.Exported.Exported, Standard.{Block, known}}

-- ---- numbers: standard ones stay, and each of the interface's table gets its number in the unit's. No table has the number 4294967295
abbrev pub number_at : Option ℕ → ℕ
number_at None = 4294967295
number_at (Some n) = n

abbrev pub moved : List ℕ → ℕ → ℕ
moved ns n = if nat_lt n 16 then n else number_at (slice_get ns (n - 16))

abbrev pub moved_some : List ℕ → Option ℕ → Option ℕ
moved_some ns None = None
moved_some ns (Some n) = Some (moved ns n)

abbrev pub moved_field : List ℕ → Field → Field
moved_field ns f = record { name = f.name; sort = moved ns f.sort }

abbrev pub moved_parameter : List ℕ → Parameter → Parameter
moved_parameter ns p = record { by_place = p.by_place; open_array = p.open_array; sort = moved ns p.sort }

abbrev pub moved_form : List ℕ → TypeForm → TypeForm
moved_form ns (Enumeration names) = Enumeration names
moved_form ns (Subrange n span) = Subrange (moved ns n) span
moved_form ns (Array i n) = Array (moved ns i) (moved ns n)
moved_form ns (Record fs) = Record (map (moved_field ns) fs)
moved_form ns (SetOf n) = SetOf (moved ns n)
moved_form ns (Pointer n) = Pointer (moved ns n)
moved_form ns (Procedure ps r) = Procedure (map (moved_parameter ns) ps) (moved_some ns r)
moved_form ns (Opaque o) = Opaque (moved_some ns o)

-- ---- things
abbrev pub moved_kind : List ℕ → Kind → Kind
moved_kind ns (k.Scalar n w) = k.Scalar (moved ns n) w
moved_kind ns (k.Of n) = k.Of (moved ns n)
moved_kind ns (k.Open n) = k.Open (moved ns n)
moved_kind ns (k.Routine n) = k.Routine (moved ns n)
moved_kind ns kind = kind

-- texts move by as many as stood before. What is external belongs to the module whose names stand in block b
abbrev pub moved_text : ℕ → ℕ → ℕ
moved_text s n = min (s + n) 4294967295

module _ (ns : List ℕ) (s b : ℕ) where
  abbrev pub moved_thing : Thing → Thing
  moved_thing (t.Constant kind) = t.Constant (moved_kind ns kind)
  moved_thing (t.Named n chars) = t.Named (moved_text s n) chars
  moved_thing (t.Variable v) = t.Variable (record { number = v.number; level = v.level; sort = moved ns v.sort; mode = v.mode })
  moved_thing (t.Type n) = t.Type (moved ns n)
  moved_thing (t.Procedure p) = t.Procedure (record { number = p.number; block = p.block; level = p.level; sort = moved ns p.sort })
  moved_thing (t.ExternalVariable v) = t.ExternalVariable (record { «module» = b; offset = v.offset; sort = moved ns v.sort })
  moved_thing (t.ExternalProcedure p) = t.ExternalProcedure (record { «module» = b; number = p.number; sort = moved ns p.sort })
  moved_thing (t.Resident r n) = t.Resident r (moved ns n)
  moved_thing x = x

  -- a name that isn't exported is hidden
  abbrev pub seen_by : Bool → Thing → Thing
  seen_by true x = moved_thing x
  seen_by false x = t.Hidden

  -- ---- the names of an interface in block b
  unfoldable pub with_name : List Block → Exported → List Block
  with_name bs x = bound_at bs b x.name (known (seen_by x.shown x.what))

  abbrev pub with_names : List Block → List Exported → List Block
  with_names bs [] = bs
  with_names bs (x ∷ xs) = with_names (with_name bs x) xs
