use Rattle.std.proofs.Common.{length}
use Rattle.lil_text.specs.Lexical.{start, CutsTo}
use Rattle.lil_lexer.specs.Pieces.{HasRoom}
use Rattle.lil_lexer.proofs.cutting.cut.Given as goal

abbrev pub invariant-loop-rest : goal.invariant-loop-rest
invariant-loop-rest l = record {
  cut : CutsTo start l.text l.found l.place l.rest;
  room : HasRoom l.place (length l.rest);
}

abbrev pub decreases-loop-rest : goal.decreases-loop-rest
decreases-loop-rest l = length l.rest
