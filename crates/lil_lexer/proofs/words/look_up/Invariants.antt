use Rattle.std.proofs.Common.{◌≡◌, drop}
use Rattle.lil_lexer.specs.Spellings as spec
use Rattle.lil_lexer.proofs.words.look_up.Given as goal

abbrev pub invariant-loop-spelling : goal.invariant-loop-spelling
invariant-loop-spelling l = spec.look_up (drop l.spelling-index l.table) l.name ≡ spec.look_up l.table l.name
