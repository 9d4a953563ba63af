use Rattle.std.proofs.Common.{◌≡◌, ◌≤◌, drop}
use Rattle.lil_text.specs.Lexical.{value, value_behind}
use Rattle.lil_lexer.proofs.numbers.value_within.Given as goal

abbrev pub invariant-loop-digit : goal.invariant-loop-digit
invariant-loop-digit l = record {
  same : value_behind l.base l.value (drop l.digit-index l.digits) ≡ value l.base l.digits;
  fits : l.value ≤ l.limit;
}
