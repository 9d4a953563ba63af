use Rattle.std.proofs.Common.{◌≡◌, ◌++◌, ◌∷◌, length, take}
use Rattle.std.specs.List.{flat_map}
use Rattle.lil_format.specs.Format.{spelling}
use Rattle.lil_format.specs.Names.{wanted}
use Rattle.lil_object.proofs.writing.put_imports.Given as goal

abbrev pub invariant-loop-one : goal.invariant-loop-one
invariant-loop-one l = l.out ≡ l.fn.out ++ length l.all ∷ flat_map (spelling wanted) (take l.one-index l.all)
