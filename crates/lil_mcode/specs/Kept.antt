-- What the calls of the loader make of the state alone.
use Rattle.std.specs.Prelude.{ℕ, ◌+◌, ◌&&◌, nat_le, nat_lt, Bool, List, [], ◌∷◌, ◌++◌, Option, None, Some}
use Rattle.lil_mcode.specs.{Table.{State, Module, module_at}, Calls.begun_state}
use Rattle.lil_frames.specs.Words.{cleared}

-- one more module behind the others
abbrev pub with_loaded : State → Module → State
with_loaded s m = record s { modules = s.modules ++ m ∷ []; store = cleared s.store m.base (m.base + m.words) }

-- the first of the bodies begins
abbrev pub with_first : State → List ℕ → State
with_first s [] = s
with_first s (b ∷ bodies) = begun_state s b bodies (module_at s.modules b)

-- whether a procedure at this entry, not above the place, begins behind the one that was found before
abbrev pub is_better : ℕ → Option ℕ → ℕ → Bool
is_better place None e = nat_le e place
is_better place (Some f) e = nat_le e place && nat_lt f e
