-- Keys that are met: two for one module are a conflict.
use Rattle.std.specs.Prelude.{ℕ, ◌==◌, List, [], ◌∷◌, Option, Some, None, if◌then◌else◌}
use Rattle.lil_base.specs.{declared.fault.{Key.Key, Place.Place, SourceFault.SourceFault}, Faults.key_conflict}
use Rattle.lil_format.specs.declared.name.Wanted.{Wanted}
use Rattle.lil_scope.specs.Names.{same}
use Rattle.lil_interfaces.specs.Entering.{and_rest}

abbrev pub first_some : {A : Type 0} → Option A → Option A → Option A
first_some None o = o
first_some (Some a) o = Some a

abbrev pub number_of : Option Key → Option ℕ
number_of None = None
number_of (Some k) = Some k.0

-- the key with which a module was met first
abbrev pub key_in : List Wanted → List ℕ → Option ℕ
key_in [] n = None
key_in (w ∷ ws) n = if same n w.name then Some w.key.0 else key_in ws n

-- ---- 71 KeyConflict, at this place: a module was met with another key
abbrev pub conflict_by : Place → List ℕ → Option ℕ → ℕ → Option SourceFault
conflict_by p n None k = None
conflict_by p n (Some j) k = if j == k then None else Some (key_conflict p n j k)

-- the first of these modules, which are met one after the other
abbrev pub conflict : Place → List Wanted → List Wanted → Option SourceFault
conflict p met [] = None
conflict p met (w ∷ ws) = first_some (conflict_by p w.name (key_in met w.name) w.key.0) (conflict p (and_rest met w) ws)
