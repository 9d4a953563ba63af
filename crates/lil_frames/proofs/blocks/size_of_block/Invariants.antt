use Rattle.std.proofs.Common.{◌≡◌, drop}
use Rattle.lil_frames.specs.Blocks.{size_at}
use Rattle.lil_frames.proofs.blocks.size_of_block.Given as goal

abbrev pub invariant-loop-block : goal.invariant-loop-block
invariant-loop-block l = size_at l.level l.at (drop l.block-index l.blocks) ≡ size_at l.level l.at l.fn.blocks
