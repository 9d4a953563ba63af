-- The fields of a record by their names.
use Rattle.std.specs.Prelude.{ℕ, ◌+◌, nat_eq, Bool, List, [], ◌∷◌, Option, Some, None, if◌then◌else◌}
use Rattle.std.specs.Cmp.Lexicographic.{pointwise}
use Rattle.lil_types.specs.declared.{table.Field.Field, fields.FieldAt.FieldAt}

abbrev pub same_name : List ℕ → List ℕ → Bool
same_name a b = pointwise nat_eq a b

-- the first field of a name, where the fields have numbers from this one on
abbrev pub field_from : ℕ → List Field → List ℕ → Option FieldAt
field_from k [] name = None
field_from k (x ∷ xs) name = if same_name x.name name then Some (record { number = k; sort = x.sort }) else field_from (k + 1) xs name
