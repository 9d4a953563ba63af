-- Spans, and the values that they have: searched from the begin, and looked up in sorted ones.
use Rattle.std.specs.Prelude.{ℕ, zero, suc, ℤ, int_lt, Bool, true, false, ◌||◌, List, [], ◌∷◌, ◌≡◌, if◌then◌else◌}
use Rattle.lil_types.specs.{declared.table.Span.{Span}, Types.meets}

-- whether a value of a span is in one of a list
abbrev pub has_value_of : List Span → Span → Bool
has_value_of [] s = false
has_value_of (u ∷ us) s = meets s u || has_value_of us s

-- all of them lie above a span
abbrev pub AreAbove : Span → List Span → Type 0
AreAbove u [] = Unit {0}
AreAbove u (v ∷ vs) = (int_lt u.high v.low ≡ true) × AreAbove u vs

-- none is empty, and all after one lie above it
abbrev pub AreSorted : List Span → Type 0
AreSorted [] = Unit {0}
AreSorted (u ∷ us) = (int_lt u.high u.low ≡ false) × (AreAbove u us × AreSorted us)

-- how many of the first lie below a value
abbrev pub below : List Span → ℤ → ℕ
below [] z = zero
below (u ∷ us) z = if int_lt u.high z then suc (below us z) else zero

-- the sorted ones have the values of all, if no two of them meet
abbrev pub IsIndex : Bool → List Span → List Span → Type 0
IsIndex true sorted us = AreSorted sorted × ((s : Span) → has_value_of us s ≡ has_value_of sorted s)
IsIndex false sorted us = Unit {0}
