use Rattle.std.proofs.Common.{◌≡◌, min, take}
use Rattle.std.specs.List.{sum_by}
use Rattle.lil_layout.specs.Strings.{statement_words, guard_words, arm_words}
use Rattle.lil_layout.proofs.strings.+statement.Given as goal

abbrev pub invariant-body_words-loop-one : goal.invariant-body_words-loop-one
invariant-body_words-loop-one l = l.words ≡ min (sum_by statement_words (take l.one-index l.of)) 4294967295

abbrev pub invariant-guards_words-loop-one : goal.invariant-guards_words-loop-one
invariant-guards_words-loop-one l = l.words ≡ min (sum_by guard_words (take l.one-index l.of)) 4294967295

abbrev pub invariant-arms_words-loop-one : goal.invariant-arms_words-loop-one
invariant-arms_words-loop-one l = l.words ≡ min (sum_by arm_words (take l.one-index l.of)) 4294967295
