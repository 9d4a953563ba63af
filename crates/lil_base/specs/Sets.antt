-- Sets of numbers from 0 to 15, each in a word: number i is in the set where the bit of weight 2 ^ i is 1.
use Rattle.std.specs.Prelude.{ℕ, zero, suc, ◌+◌, ◌*◌, Bool, true, false, not, ◌||◌, ◌&&◌, nat_le, ◌==◌, if◌then◌else◌}
use Rattle.std.specs.Int.{bit_at}

-- whether a number is in a set
abbrev pub has : ℕ → ℕ → Bool
has s i = bit_at s i == 1

-- one of the two and not both
abbrev pub either : Bool → Bool → Bool
either true b = not b
either false b = b

-- the set of the numbers below n that have a property
abbrev pub set_from : ℕ → (ℕ → Bool) → ℕ
set_from zero p = 0
set_from (suc n) p = (if p 0 then 1 else 0) + 2 * set_from n (λ i. p (suc i))

unfoldable pub set_word : (ℕ → Bool) → ℕ
set_word p = set_from 16 p

abbrev pub union : ℕ → ℕ → ℕ
union s t = set_word (λ i. has s i || has t i)

-- what is in the first and not in the second
abbrev pub minus : ℕ → ℕ → ℕ
minus s t = set_word (λ i. has s i && not (has t i))

abbrev pub meet : ℕ → ℕ → ℕ
meet s t = set_word (λ i. has s i && has t i)

-- what is in just one of the two
abbrev pub apart : ℕ → ℕ → ℕ
apart s t = set_word (λ i. either (has s i) (has t i))

-- the numbers from one to another, both included
abbrev pub span : ℕ → ℕ → ℕ
span low high = set_word (λ i. nat_le low i && nat_le i high)

-- whether all that is in the first is in the second
abbrev pub is_within : ℕ → ℕ → Bool
is_within s t = minus s t == 0
