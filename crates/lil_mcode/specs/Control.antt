-- What the instructions of control compute: the entry that CASE chooses, and the turns of FOR.
use Rattle.std.specs.Prelude.{ℕ, zero, suc, ◌+◌, ◌-◌, ◌%◌, ℤ, pos, ◌-ℤ◌, neg_ℤ, nat_abs, int_lt, Bool, nat_le, ◌==◌, List, Option, None, Some, if◌then◌else◌, slice_set}
use Rattle.lil_base.specs.Words.{Whole, Cardinal, Integer, whole_quotient}
use Rattle.lil_asm.specs.Bytes.{word_at, ◌>>=◌}

-- how far x lies above low, where 65535 is followed by 0
abbrev pub above : ℕ → ℕ → ℕ
above low x = (x + (65536 - low)) % 65536

-- x lies in the range that goes up from low to high
abbrev pub is_in : ℕ → ℕ → ℕ → Bool
is_in low high x = nat_le (above low x) (above low high)

-- the place of the first of n entries whose range has x, else the other one; none where the entries don't stand whole
abbrev pub chosen : List ℕ → ℕ → ℕ → ℕ → ℕ → Option ℕ
chosen code zero p x other = Some other
chosen code (suc n) p x other = do
  low ← word_at code p
  high ← word_at code (p + 2)
  target ← word_at code (p + 4)
  if is_in low high x then Some target else chosen code n (p + 6) x other

-- the type of a loop's bounds
abbrev pub loop_type : ℕ → Whole
loop_type f = if f == 0 then Cardinal else Integer

-- how often a loop turns that goes up from a to b by k
abbrev pub turns_up : ℤ → ℤ → ℤ → ℕ
turns_up a b k = if int_lt b a then 0 else nat_abs (whole_quotient (b -ℤ a) k) + 1

-- The same by a step of either sign: a loop that goes down turns as often as the one that goes back up.
abbrev pub turns : ℤ → ℤ → ℤ → ℕ
turns a b k = if int_lt k (pos 0) then turns_up b a (neg_ℤ k) else turns_up a b k

-- the turns that are left in the first one, where there is one
abbrev pub after_first : ℕ → Option ℕ
after_first zero = None
after_first (suc n) = Some n

-- the three words of a loop: its value, the turns that are left, and its step
abbrev pub loop_words : List ℕ → ℕ → ℕ → ℕ → ℕ → List ℕ
loop_words store at a n k = slice_set (slice_set (slice_set store at a) (at + 1) n) (at + 2) k
