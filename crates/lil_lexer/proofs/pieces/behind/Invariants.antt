use Rattle.std.proofs.Common.{◌≡◌, drop}
use Rattle.lil_text.specs.Lexical as lexical
use Rattle.lil_lexer.specs.Pieces.{IsWithin}
use Rattle.lil_lexer.proofs.pieces.behind.Given as goal

abbrev pub invariant-loop-b : goal.invariant-loop-b
invariant-loop-b l = record {
  same : lexical.behind l.at (drop l.b-index l.bytes) ≡ lexical.behind l.fn.place l.bytes;
  within : IsWithin l.fn.place l.at l.b-index;
}
