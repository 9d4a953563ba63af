use Rattle.std.proofs.Common.{◌≡◌, min, take}
use Rattle.std.specs.List.{sum_by}
use Rattle.lil_layout.specs.Data.{variable_words}
use Rattle.lil_layout.proofs.data.variables_words.Given as goal

abbrev pub invariant-loop-one : goal.invariant-loop-one
invariant-loop-one l = l.sum ≡ min (sum_by (variable_words l.t) (take l.one-index l.of)) 4294967295
