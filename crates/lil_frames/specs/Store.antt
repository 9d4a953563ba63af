-- The main store, and what is done to it.
use Rattle.std.specs.Prelude.{ℕ, ◌+◌, ◌-◌, List, [], ◌∷◌, ◌++◌, Result, Ok, Err, nat_lt, if◌then◌else◌}
use Rattle.lil_frames.specs.{declared.{blocks.Block.Block, store.StoreFull.StoreFull}, Words.{zeros, cleared}, Blocks.{lowest_of, of_lower}}

-- its words, the blocks that are taken, and how many levels are open
pub record Store : Type 0 where
  pub words : List ℕ
  pub blocks : List Block
  pub levels : ℕ

abbrev pub empty : Store
empty = record { words = zeros 65536; blocks = []; levels = 0 }

abbrev pub with_words : Store → List ℕ → Store
with_words s words = record s { words = words }

-- the first word that belongs to a block
abbrev pub lowest : Store → ℕ
lowest s = lowest_of 65535 s.blocks

abbrev pub opened : Store → Store
opened s = record s { levels = s.levels + 1 }

-- the blocks of the highest level go back
abbrev pub closed : Store → Store
closed s = record s { blocks = of_lower s.levels s.blocks; levels = s.levels - 1 }

-- A block of so many zeros is taken for the highest level, right below what is taken, where it and its two words are free above
-- the top.
abbrev pub taken : ℕ → ℕ → Store → Result ℕ StoreFull × Store
taken top n s =
    if nat_lt (lowest s - top) (n + 2) then (Err (record { free = lowest s - top }), s)
    else (Ok (lowest s - n), record s { words = cleared s.words (lowest s - n) (lowest s); blocks = s.blocks ++ record { at = lowest s - n; words = n; level = s.levels } ∷ [] })
