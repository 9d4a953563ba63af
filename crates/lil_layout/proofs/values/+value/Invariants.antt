use Rattle.std.proofs.Common.{◌≡◌, min, take}
use Rattle.std.specs.List.{sum_by}
use Rattle.lil_layout.specs.Strings.{selector_words, member_words, operation_words, argument_words}
use Rattle.lil_layout.proofs.values.+value.Given as goal

abbrev pub invariant-selectors_words-loop-one : goal.invariant-selectors_words-loop-one
invariant-selectors_words-loop-one l = l.words ≡ min (sum_by selector_words (take l.one-index l.of)) 4294967295

abbrev pub invariant-members_words-loop-one : goal.invariant-members_words-loop-one
invariant-members_words-loop-one l = l.words ≡ min (sum_by member_words (take l.one-index l.of)) 4294967295

abbrev pub invariant-operations_words-loop-one : goal.invariant-operations_words-loop-one
invariant-operations_words-loop-one l = l.words ≡ min (sum_by operation_words (take l.one-index l.of)) 4294967295

abbrev pub invariant-arguments_words-loop-one : goal.invariant-arguments_words-loop-one
invariant-arguments_words-loop-one l = l.words ≡ min (sum_by argument_words (take l.one-index l.of)) 4294967295
