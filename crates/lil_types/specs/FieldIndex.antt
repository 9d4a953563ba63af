-- An index of the fields of a record by their names, as an indexmap has it.
use Rattle.std.specs.Prelude.{◌≡◌, ℕ, List, Option, Some, None, if◌then◌else◌}
use Rattle.std.specs.{Map.lookup, declared.{vec.Vec.Vec, alloc.Global.Global}}
use Rattle.lil_types.specs.{declared.{table.Field.Field, fields.FieldAt.FieldAt}, Fields.{same_name, field_from}}

abbrev pub Index : Type 0
Index = List (Vec ℕ Global × FieldAt)

abbrev pub found_in : Index → List ℕ → Option FieldAt
found_in es n = lookup (λ k. same_name n k.items) es

-- for each name it has the first of the fields
abbrev pub IsIndex : Index → List Field → Type 0
IsIndex es xs = (n : List ℕ) → found_in es n ≡ field_from 0 xs n

-- what is found of a name n, or else one more field, if n is its name
abbrev pub or_named : Option FieldAt → List ℕ → FieldAt → List ℕ → Option FieldAt
or_named (Some f) name at n = Some f
or_named None name at n = if same_name name n then Some at else None
