use Rattle.std.proofs.Common.{◌≡◌, ◌≤◌, drop}
use Rattle.lil_types.specs.{Types.fields_words, Adding.stopped_some}
use Rattle.lil_types.proofs.Sums.{plus}
use Rattle.lil_types.proofs.adding.fields_words.Given as goal

-- the words so far and those of what is left are those of all
abbrev pub invariant-loop-field : goal.invariant-loop-field
invariant-loop-field l = record {
  room : l.sum ≤ 4294967295;
  rest : stopped_some (plus l.sum (fields_words l.t (drop l.field-index l.fields))) ≡ stopped_some (fields_words l.t l.fields);
}
