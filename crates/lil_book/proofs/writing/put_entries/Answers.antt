use Rattle.std.proofs.Common.{arith}
use Rattle.std.proofs.lemmas.Grind.{common_steps}
use Rattle.std.proofs.lemmas.List.Elements.{All-from_recursion}
use Rattle.lil_format.specs.Format.{Fits}
use Rattle.lil_book.specs.Book.{entry}
use Rattle.lil_book.proofs.Lists.{each_fits, entries_spelled}
use Rattle.lil_book.proofs.writing.put_entries.Goals as goal

pub put_entry-requires : goal.put_entry-requires
put_entry-requires c = rw c.one-item.is (All-from_recursion (Fits entry) c.args.all.now (each_fits _ c.requires) c.loop-one.one-index _ c.loop-one-test.true)

pub returns : goal.returns
returns c = rw (entries_spelled c.args.all.now) (grind (arith, common_steps))
