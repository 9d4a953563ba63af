-- Sets: which numbers are in them. Those from 0 to 15 count.
use Rattle.std.specs.Prelude.{ℕ, zero, suc, ℤ, pos, negsuc, Bool, true, false, not, ◌&&◌, ◌||◌, nat_le, nat_lt}
use Rattle.lil_base.specs.Sets.{either}

-- all numbers below n have a property
abbrev pub all_below : ℕ → (ℕ → Bool) → Bool
all_below zero p = true
all_below (suc n) p = p 0 && all_below n (λ i. p (suc i))

-- the same numbers are in two sets
abbrev pub same_members : (ℕ → Bool) → (ℕ → Bool) → Bool
same_members s t = all_below 16 (λ i. not (either (s i) (t i)))

-- each number of the first is in the second
abbrev pub included : (ℕ → Bool) → (ℕ → Bool) → Bool
included s t = all_below 16 (λ i. not (s i && not (t i)))

-- a number is in a set
abbrev pub is_in : (ℕ → Bool) → ℤ → Bool
is_in s (pos n) = nat_lt n 16 && s n
is_in s (negsuc n) = false

abbrev pub no_members : ℕ → Bool
no_members i = false

abbrev pub united : (ℕ → Bool) → (ℕ → Bool) → ℕ → Bool
united s t i = s i || t i

-- what is in the first and not in the second
abbrev pub without : (ℕ → Bool) → (ℕ → Bool) → ℕ → Bool
without s t i = s i && not (t i)

abbrev pub shared_members : (ℕ → Bool) → (ℕ → Bool) → ℕ → Bool
shared_members s t i = s i && t i

-- what is in just one of the two
abbrev pub unshared : (ℕ → Bool) → (ℕ → Bool) → ℕ → Bool
unshared s t i = either (s i) (t i)

-- the numbers from one to another, both included
abbrev pub from_to : ℕ → ℕ → ℕ → Bool
from_to low high i = nat_le low i && nat_le i high
