-- Numbers of two and of four bytes in a list of bytes, the highest byte first.
use Rattle.std.specs.Prelude.{ℕ, ◌+◌, ◌*◌, ◌/◌, ◌%◌, List, [], ◌∷◌, ◌++◌, drop, Option, Some, None}

-- the two bytes of a number below 2 ^ 16
abbrev pub bytes16 : ℕ → List ℕ
bytes16 v = v / 256 ∷ v % 256 ∷ []

-- the four bytes of a number below 2 ^ 32
abbrev pub bytes32 : ℕ → List ℕ
bytes32 v = bytes16 (v / 65536) ++ bytes16 (v % 65536)

-- the number that a list's first two bytes make
abbrev pub first16 : List ℕ → Option ℕ
first16 (a ∷ b ∷ _) = Some (a * 256 + b)
first16 _ = None

-- the number that begins at a place from 0, or none where the list ends before its last byte
abbrev pub field16 : List ℕ → ℕ → Option ℕ
field16 bytes at = first16 (drop at bytes)
