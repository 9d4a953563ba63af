-- What an object of the outside holds: Some of its content, or None where it does not tell.
use Rattle.std.specs.Prelude.{◌≡◌, ℕ, List, [], ◌∷◌, ◌++◌, take, Option, None, Some, ⊤}
use Rattle.std.specs.{Ordering.nat_cmp, Cmp.Lexicographic.slice_cmp, Option.option_map, FinMap.{FinMap, get, insert}}

-- the files of a volume: bytes by name
abbrev pub Files : Type 0
Files = FinMap (slice_cmp nat_cmp) (List ℕ)

-- what was found under a name is what the volume tells there
abbrev pub FileIs : Option Files → List ℕ → Option (List ℕ) → Type 0
FileIs None name found = ⊤
FileIs (Some files) name found = found ≡ get files name

-- the files after one was written
abbrev pub with_file : Option Files → List ℕ → List ℕ → Option Files
with_file files name content = option_map (λ held. insert held name content) files

-- the files after a list of writes
abbrev pub with_writes : Option Files → List (List ℕ × List ℕ) → Option Files
with_writes files [] = files
with_writes files (x ∷ xs) = with_writes (with_file files x.0 x.1) xs

-- the bytes of a sink after a whole piece
abbrev pub followed_by : Option (List ℕ) → List ℕ → Option (List ℕ)
followed_by written piece = option_map (λ bytes. bytes ++ piece) written

-- the bytes of a sink after a prefix of a piece
abbrev pub FollowedByPrefix : Option (List ℕ) → List ℕ → Option (List ℕ) → Type 0
FollowedByPrefix old piece new = (n : ℕ) × (new ≡ followed_by old (take n piece))

-- a key, and then the keys that are left behind it
abbrev pub preceded_by : ℕ → Option (List ℕ) → Option (List ℕ)
preceded_by key left = option_map (λ keys. key ∷ keys) left

-- no key is left, where that is told
abbrev pub NoneLeft : Option (List ℕ) → Type 0
NoneLeft None = ⊤
NoneLeft (Some keys) = keys ≡ []

-- None comes only where no key is left, and a key is the first of those that were left
abbrev pub KeyTaken : Option (List ℕ) → Option (List ℕ) → Option ℕ → Type 0
KeyTaken old new None = (new ≡ old) × NoneLeft old
KeyTaken old new (Some key) = old ≡ preceded_by key new
