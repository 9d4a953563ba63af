use Rattle.std.proofs.Common.{◌≡◌, min, take}
use Rattle.std.specs.List.{sum_by}
use Rattle.lil_layout.specs.Data.{text_words}
use Rattle.lil_layout.proofs.data.procedures_words.Given as goal

abbrev pub invariant-loop-one : goal.invariant-loop-one
invariant-loop-one l = l.sum ≡ min (sum_by text_words (take l.one-index l.of)) 4294967295
