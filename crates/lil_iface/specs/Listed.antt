-- The names of a definition, where its exports are a list of names to look up.
use Rattle.std.specs.Prelude.{ℕ, Bool, true, List, Option, Some, None}
use Rattle.lil_scope.specs.{declared.{env.Env.Env, thing.Bound.Bound}, Names.is_among}
use Rattle.lil_symfile.specs.declared.tree.SymName.{SymName}
use Rattle.lil_iface.specs.Iface.{class_of, name_by}

abbrev pub shown_by : Option (List (List ℕ)) → List ℕ → Bool
shown_by None n = true
shown_by (Some names) n = is_among names n

abbrev pub name_in : Env → List ℕ → Option (List (List ℕ)) → Bound → List SymName
name_in e os names b = name_by (shown_by names b.name) b.name (class_of e os b.entry.thing)
