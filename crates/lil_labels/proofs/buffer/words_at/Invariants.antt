use Rattle.std.proofs.Common.{◌≡◌, ◌+◌, []}
use Rattle.lil_resolved.specs.{Kinds.{words, shape_at}, Views.{AreMeasured, shapes_of}}
use Rattle.lil_labels.proofs.buffer.words_at.Given as goal

-- the words so far and those of the shape that is reached are all words
abbrev pub invariant-loop-field : goal.invariant-loop-field
invariant-loop-field l = AreMeasured [] l.shapes → l.before + words (shape_at (shapes_of l.shapes) l.inner) ≡ words (shape_at (shapes_of l.shapes) l.fn.number)

abbrev pub decreases-loop-field : goal.decreases-loop-field
decreases-loop-field l = l.inner
