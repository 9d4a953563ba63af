use Rattle.std.proofs.Common.{◌≡◌, ◌++◌, length, take}
use Rattle.std.specs.List.{flat_map}
use Rattle.lil_base.specs.Fields.{bytes16}
use Rattle.lil_format.specs.Format.{spelling}
use Rattle.lil_format.specs.Names.{name}
use Rattle.lil_symfile.proofs.writing.put_constants.Given as goal

abbrev pub invariant-loop-one : goal.invariant-loop-one
invariant-loop-one l = l.out ≡ l.fn.out ++ (bytes16 (length l.all) ++ flat_map (spelling name) (take l.one-index l.all))
