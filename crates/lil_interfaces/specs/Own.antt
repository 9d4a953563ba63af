-- What a unit begins with. An implementation module begins with all names of its own definition, hidden ones too, in its own
-- block, before its first import (Programming in Modula-2, Definition and implementation parts).
use Rattle.std.specs.Prelude.{ℕ, Bool, true, false, List, [], ◌∷◌, ◌++◌, length, count_by, Option, Some, None}
use Rattle.lil_format.specs.declared.name.Wanted.{Wanted}
use Rattle.lil_types.specs.{Types.Table, declared.table.Origin.Origin}
use Rattle.lil_declared.specs.declared.declared.{Mode.TheVariants.Plain, RVar.RVar}
use Rattle.lil_scope.specs.{declared.{env.Env.Env, thing.Thing.Thing}, Names.{bound_at, with_blocks}}
use Rattle.lil_scope.specs.declared.thing.Thing.TheVariants as t
use Rattle.lil_interfaces.specs.declared.{surface.{Interface.Interface, Exported.Exported}, modules.Imported.Imported}
use Rattle.lil_interfaces.specs.{Entering.{and_rests, places, and_origins, numbers_in, with_types}, Imports.nothing_imported, Moving.moved_thing, Standard.{start, known}}

-- ---- its types. The definition is the unit itself, so what it declares belongs to module 0
module _ (i : Interface) where
  abbrev pub own_rests : List Wanted
  own_rests = and_rests [] i.rests

  abbrev pub own_places : List ℕ
  own_places = 0 ∷ places own_rests i.rests

  abbrev pub own_origins : List Origin
  own_origins = and_origins own_places [] i.types

  abbrev pub own_numbers : List ℕ
  own_numbers = numbers_in own_places own_origins i.types

  abbrev pub own_types : Table
  own_types = with_types own_places own_origins own_numbers [] i.types

-- ---- its names. Block 1 is the unit's own. A variable of the definition is the unit's, with the next number
abbrev pub own_thing : ℕ → Thing → Thing
own_thing n (t.ExternalVariable v) = t.Variable (record { number = n; level = 1; sort = v.sort; mode = Plain })
own_thing n x = x

abbrev pub own_variables : List ℕ → Thing → List RVar
own_variables name (t.ExternalVariable v) = record { name = name; sort = v.sort; mode = Plain } ∷ []
own_variables name x = []

unfoldable pub named_own : List ℕ → Thing → Env → Env
named_own name x e = record (with_blocks e (bound_at e.scopes.blocks 1 name (known (own_thing (length e.variables) x)))) {
  variables = e.variables ++ own_variables name x;
}

abbrev pub with_own_name : List ℕ → Env → Exported → Env
with_own_name ns e x = named_own x.name (moved_thing ns 0 1 x.what) e

abbrev pub with_own_names : List ℕ → Env → List Exported → Env
with_own_names ns e [] = e
with_own_names ns e (x ∷ xs) = with_own_names ns (with_own_name ns e x) xs

-- ---- its procedures, which the unit declares again
abbrev pub is_procedure : Thing → Bool
is_procedure (t.ExternalProcedure p) = true
is_procedure x = false

abbrev pub procedures_in : List Exported → ℕ
procedures_in xs = count_by (λ x. is_procedure x.what) xs

-- ---- all of it
abbrev pub unnamed : Table → Interface → Env
unnamed types i = record start { types = types; texts = i.texts; awaited = procedures_in i.names }

unfoldable pub implementing : Interface → Imported
implementing i = record {
  env = with_own_names (own_numbers i) (unnamed (own_types i) i) i.names;
  modules = [];
  taken = [];
  rests = own_rests i;
  origins = own_origins i;
  enumerations = [];
}

-- a program or a definition begins with nothing
abbrev pub beginning : Option Interface → Imported
beginning None = nothing_imported
beginning (Some i) = implementing i
