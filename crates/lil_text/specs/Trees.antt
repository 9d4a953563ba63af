-- A name as the grammar makes it.
use Rattle.std.specs.Prelude.{ℕ, List}
use Rattle.lil_base.specs.declared.fault.Place.{Place}
use Rattle.lil_text.specs.declared.tree.Ident.{Ident}

abbrev pub ident : Place → List ℕ → Ident
ident p name = record { place = p; name = name }
