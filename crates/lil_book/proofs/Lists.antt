-- The two lists of the format, whose parts don't ask for those before.
use Rattle.std.proofs.Common.{◌≡◌, ◌<◌, List, ◌∷◌, ◌++◌, length}
use Rattle.std.specs.List.{flat_map, AllByRecursion}
use Rattle.lil_base.specs.Fields.{bytes16}
use Rattle.lil_format.specs.declared.name.Wanted.{Wanted}
use Rattle.lil_format.specs.Reading.{u1, u2}
use Rattle.lil_format.specs.Format.{any, Fits, spelling}
use Rattle.lil_format.specs.Names.{wanted}
use Rattle.lil_format.specs.Turns.{list_spelled, list_fits}
use Rattle.lil_book.specs.declared.book.Entry.{Entry}
use Rattle.lil_book.specs.Book.{rests, entry, entries}

pub rests_spelled : (ws : List Wanted) → spelling rests ws ≡ length ws ∷ flat_map (spelling wanted) ws
unfolding rests
rests_spelled ws = list_spelled u1 any wanted ws

pub rests_fit : (ws : List Wanted) → Fits rests ws → length ws < 256
unfolding rests
rests_fit ws h = (list_fits u1 any wanted ws h).0

pub entries_spelled : (es : List Entry) → spelling entries es ≡ bytes16 (length es) ++ flat_map (spelling entry) es
unfolding entries
entries_spelled es = list_spelled u2 any entry es

pub entries_fit : (es : List Entry) → Fits entries es → length es < 65536
unfolding entries
entries_fit es h = (list_fits u2 any entry es h).0

pub each_fits : (es : List Entry) → Fits entries es → AllByRecursion (Fits entry) es
unfolding entries
each_fits es h = (list_fits u2 any entry es h).1
