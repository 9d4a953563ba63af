-- Where imported names come from: the first that comes under a name counts.
use Rattle.std.specs.Prelude.{ℕ, is_none, List, [], ◌∷◌, ◌++◌, Option, Some, None, if◌then◌else◌}
use Rattle.lil_scope.specs.Names.{same}
use Rattle.lil_interfaces.specs.declared.sources.Source.{Source}

abbrev pub Sources : Type 0
Sources = List (List ℕ × Source)

abbrev pub source_of : Sources → List ℕ → Option Source
source_of [] n = None
source_of (x ∷ xs) n = if same n x.0 then Some x.1 else source_of xs n

abbrev pub and_source : Sources → List ℕ → Source → Sources
and_source xs n q = if is_none (source_of xs n) then xs ++ (n, q) ∷ [] else xs
