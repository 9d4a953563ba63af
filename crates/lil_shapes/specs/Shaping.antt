-- What lies in variables of the types of a module: shapes by the types' numbers.
use Rattle.std.specs.Prelude.{ℕ, zero, suc, ◌+◌, ◌*◌, nat_le, List, [], ◌∷◌, ◌++◌, length, map, slice_get, Option, Some, None, if◌then◌else◌}
use Rattle.std.specs.Option.{option_map}
use Rattle.lil_types.specs.{Types.{Table, entry}, declared.table.{Field.Field, TypeForm.{TypeForm, TheVariants.{Array, Record}}, TypeEntry.TypeEntry}}
use Rattle.lil_declared.specs.declared.declared.{Mode.Mode, RVar.RVar}
use Rattle.lil_declared.specs.declared.declared.Mode.TheVariants as mode
use Rattle.lil_resolved.specs.{Kinds.{numbers, Shape, Absent, Word, Row, words, is_there, all_words, fields_of}, Views.{kind_view, held_by}, declared.resolved.{RKind.RKind, RPassing.{RPassing, TheVariants.{ByValue, ByPlace, Open}}, ROpening.TheVariants.{Copied, Lent}}}
use Rattle.lil_shapes.specs.Bases.{kind_at}

-- ---- lists
-- all values, if each is there
abbrev pub all_some : {A : Type 0} → List (Option A) → Option (List A)
all_some [] = Some []
all_some (None ∷ os) = None
all_some (Some a ∷ os) = option_map (λ rest. a ∷ rest) (all_some os)

-- shapes one behind another, where they have at most 32,000 words
abbrev pub within : Option (List Shape) → Option (List Shape)
within None = None
within (Some ts) = if nat_le (all_words ts) 32000 then Some ts else None

-- ---- the shape of a type, by those of the types with lesser numbers
-- a word, or nothing of which code is made
abbrev pub scalar : Option RKind → Shape
scalar (Some k) = Word (kind_view k)
scalar None = Absent

-- elements, by the kind of their indexes and the shape of each, where they have at most 32,000 words
abbrev pub row : Option RKind → Option Shape → Option Shape
row (Some k) (Some s) = if nat_le (numbers (kind_view k) * words s) 32000 then Some (Row (numbers (kind_view k)) s) else None
row _ _ = None

abbrev pub field_shape : List Shape → Field → Option Shape
field_shape before x = slice_get before x.sort

-- a type that has a kind is a word; other arrays and records have their parts
abbrev pub shape_in : Table → List Shape → Option RKind → TypeForm → Option Shape
shape_in t before (Some k) f = Some (Word (kind_view k))
shape_in t before None (Array i e) = row (kind_at t i) (slice_get before e)
shape_in t before None (Record xs) = option_map fields_of (within (all_some (map (field_shape before) xs)))
shape_in t before None _ = Some Absent

abbrev pub shape_by : Table → List Shape → Option RKind → Option TypeEntry → Option Shape
shape_by t before k None = Some (scalar k)
shape_by t before k (Some e) = shape_in t before k e.form

abbrev pub shape : Table → List Shape → ℕ → Option Shape
shape t before n = shape_by t before (kind_at t n) (entry t n)

-- ---- the shapes of all types
abbrev pub with_next : Table → ℕ → Option (List Shape) → Option (List Shape)
with_next t n None = None
with_next t n (Some before) = option_map (λ s. before ++ s ∷ []) (shape t before n)

-- those of the types below a number
unfoldable pub shapes_below : Table → ℕ → Option (List Shape)
shapes_below t zero = Some []
shapes_below t (suc n) = with_next t n (shapes_below t n)

-- a module has its own types from number 16 on
abbrev pub shapes : Table → Option (List Shape)
shapes t = shapes_below t (16 + length t)

-- ---- variables
abbrev pub there : Option Shape → Option Shape
there None = None
there (Some s) = if is_there s then Some s else None

-- how a variable holds what it means
abbrev pub passing_of : Mode → RPassing
passing_of mode.Plain = ByValue
passing_of mode.Value = ByValue
passing_of mode.Place = ByPlace
passing_of mode.OpenValue = Open Copied
passing_of mode.OpenPlace = Open Lent

-- what a variable of a mode and a type holds, where something lies in it, where it leads to, or in each element of an open array
abbrev pub held_in : List Shape → Mode → ℕ → Option Shape
held_in ts m s = option_map (held_by (passing_of m)) (there (slice_get ts s))

abbrev pub lying : List Shape → RVar → Option Shape
lying ts v = held_in ts v.mode v.sort

-- what lies in the variables of a module, one behind another
abbrev pub variables_by : Option (List Shape) → List RVar → Option (List Shape)
variables_by None vs = None
variables_by (Some ts) vs = within (all_some (map (lying ts) vs))
