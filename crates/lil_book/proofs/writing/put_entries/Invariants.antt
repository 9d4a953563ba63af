use Rattle.std.proofs.Common.{◌≡◌, ◌++◌, length, take}
use Rattle.std.specs.List.{flat_map}
use Rattle.lil_base.specs.Fields.{bytes16}
use Rattle.lil_format.specs.Format.{spelling}
use Rattle.lil_book.specs.Book as spec
use Rattle.lil_book.proofs.writing.put_entries.Given as goal

abbrev pub invariant-loop-one : goal.invariant-loop-one
invariant-loop-one l = l.out ≡ l.fn.out ++ (bytes16 (length l.all) ++ flat_map (spelling spec.entry) (take l.one-index l.all))
