-- Words that come to places of a list of words.
use Rattle.std.specs.Prelude.{ℕ, ◌+◌, ◌-◌, List, ◌++◌, length, take, drop, replicate}

-- words come to a place of the store
unfoldable pub spliced : List ℕ → ℕ → List ℕ → List ℕ
spliced store a words = take a store ++ (words ++ drop (a + length words) store)

-- So many zeros. It doesn't unfold, since its number may be large.
unfoldable pub zeros : ℕ → List ℕ
zeros n = replicate n 0

-- the words from one place to another become zero
abbrev pub cleared : List ℕ → ℕ → ℕ → List ℕ
cleared store from to = spliced store from (zeros (to - from))

-- so many words from a place, as they are, and zeros behind them
abbrev pub moved : List ℕ → ℕ → ℕ → ℕ → List ℕ
moved store from words zeros_behind = take words (drop from store) ++ zeros zeros_behind
