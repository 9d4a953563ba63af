use Rattle.std.proofs.Common.{◌≡◌, ◌≤◌, ◌+◌, length}
use Rattle.lil_lexer.specs.Pieces as spec
use Rattle.lil_lexer.proofs.pieces.after_comment.Given as goal

abbrev pub invariant-loop-left : goal.invariant-loop-left
invariant-loop-left l = record {
  same : spec.after_comment l.before l.depth l.left ≡ spec.after_comment 0 0 l.inside;
  deep : l.depth + length l.left ≤ length l.inside;
}

abbrev pub decreases-loop-left : goal.decreases-loop-left
decreases-loop-left l = length l.left
