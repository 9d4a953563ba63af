use Rattle.lil_lexer.proofs.PieceLaws.{found_of}
use Rattle.lil_lexer.proofs.pieces.next_piece.Goals as goal

pub returns : goal.returns
returns c = found_of c.args.text.now c.args.place c.piece_at.result c.requires.some c.piece_at.ensures
