-- The blocks that are taken, in the order in which they were taken: each lies below those before it.
use Rattle.std.specs.Prelude.{ℕ, ◌+◌, ◌-◌, ◌≤◌, ◌==◌, ◌&&◌, nat_lt, List, [], ◌∷◌, filter, Option, None, Some, if◌then◌else◌}
use Rattle.lil_frames.specs.declared.blocks.Block.{Block}

-- the first of the two words below the lowest block, or what stands above all blocks where there is none
abbrev pub lowest_of : ℕ → List Block → ℕ
lowest_of above [] = above
lowest_of above (b ∷ bs) = lowest_of (b.at - 2) bs

-- each block lies, with two words below it, below what stands above it
abbrev pub Apart : ℕ → List Block → Type 0
Apart above [] = Unit {0}
Apart above (b ∷ bs) = (2 ≤ b.at) × (b.at + b.words ≤ above) × Apart (b.at - 2) bs

-- the blocks of the levels below this one
abbrev pub of_lower : ℕ → List Block → List Block
of_lower level bs = filter (λ b. nat_lt b.level level) bs

-- how many words the block has that a level took and that begins at an address
abbrev pub size_at : ℕ → ℕ → List Block → Option ℕ
size_at level at [] = None
size_at level at (b ∷ bs) = if b.at == at && b.level == level then Some b.words else size_at level at bs
