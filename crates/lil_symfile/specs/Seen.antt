-- Names in a set, as an indexmap has them.
use Rattle.std.specs.Prelude.{ℕ, List, map}
use Rattle.std.specs.declared.{vec.Vec.Vec, alloc.Global.Global}

abbrev pub bytes_in : Vec ℕ Global → List ℕ
bytes_in n = n.items

abbrev pub names_in : List (Vec ℕ Global) → List (List ℕ)
names_in ks = map bytes_in ks
