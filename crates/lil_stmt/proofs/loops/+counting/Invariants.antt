use Rattle.std.proofs.Common.{◌≡◌, ◌+◌, ◌≤◌, min, [], None, drop}
use Rattle.lil_resolved.specs.{Sizes.{body_words, arms_words}, Views.{statements_of, guards_of, arms_of}}
use Rattle.lil_stmt.proofs.loops.+counting.Given as goal

-- the words so far and those of what is left are those of the whole, up to 65,535
abbrev pub invariant-arms_words-loop-arm : goal.invariant-arms_words-loop-arm
invariant-arms_words-loop-arm l = record {
  low : l.words ≤ 65535;
  whole : min 65535 (l.words + arms_words (arms_of (drop l.arm-index l.arms) None)) ≡ min 65535 (arms_words (arms_of l.arms None));
}

abbrev pub invariant-body_words-loop-statement : goal.invariant-body_words-loop-statement
invariant-body_words-loop-statement l = record {
  low : l.words ≤ 65535;
  whole : min 65535 (l.words + body_words (statements_of (drop l.statement-index l.body))) ≡ min 65535 (body_words (statements_of l.body));
}

abbrev pub invariant-guards_words-loop-guard : goal.invariant-guards_words-loop-guard
invariant-guards_words-loop-guard l = record {
  low : l.words ≤ 65535;
  whole : min 65535 (l.words + body_words (guards_of (drop l.guard-index l.guards) [])) ≡ min 65535 (body_words (guards_of l.guards []));
}
