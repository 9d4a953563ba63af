use Rattle.std.proofs.Common.{◌≡◌, ◌++◌, ◌∷◌, length, take}
use Rattle.std.specs.List.{flat_map}
use Rattle.lil_object.specs.Written as written
use Rattle.lil_object.proofs.writing.put_procedures.Given as goal

abbrev pub invariant-loop-one : goal.invariant-loop-one
invariant-loop-one l = l.out ≡ l.fn.out ++ length l.all ∷ flat_map written.procedure_bytes (take l.one-index l.all)
