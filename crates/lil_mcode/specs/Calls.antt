-- The machine with its counts, and what the calls of the loader and the kernel make of it.
use Rattle.std.specs.Prelude.{◌≡◌, ℕ, ◌+◌, ◌-◌, ◌^◌, ◌<◌, ◌≤◌, min, List, [], ◌∷◌, ◌++◌, length, Bool, true, false, Option, None, Some, nat_le, if◌then◌else◌, option_and_then, slice_get}
use Rattle.lil_mcode.specs.Table.{Module, State, module_at, body_entry, begun_body}
use Rattle.lil_frames.specs.Words.{zeros, spliced, cleared}

pub record Machine : Type 0 where
  pub state : State
  -- how many levels are open, and whether the highest was begun
  pub levels : ℕ
  pub begun : Bool
  -- the first word behind the data frames of the highest level
  pub data_end : ℕ
  -- the steps done, and the module and the place of the last one's instruction
  pub steps : ℕ
  pub at_module : ℕ
  pub at_place : ℕ

-- one step more, as far as the count goes
abbrev pub counted : ℕ → ℕ
counted n = min (n + 1) (2 ^ 64 - 1)

-- a machine in which nothing is loaded
abbrev pub fresh : Machine
fresh = record {
  state = record {
    modules = [];
    running = 0;
    place = 0;
    stack = [];
    store = zeros 65536;
    frame = 0;
    top = 0;
    base = 0;
    limit = 65535;
    bodies = [];
    marked = false;
    parked = [];
    waiting = [];
  };
  levels = 0;
  begun = false;
  data_end = 1;
  steps = 0;
  at_module = 0;
  at_place = 0;
}

-- bytes of code of all modules
abbrev pub code_used : List Module → ℕ
code_used [] = 0
code_used (m ∷ ms) = length m.code + code_used ms

-- a level is open, and modules come to it
abbrev pub with_level : Machine → Machine
with_level m = record m { levels = m.levels + 1; begun = false }

-- a module is added behind the others, its data words are zero
abbrev pub with_module : Machine → List ℕ → List (ℕ × Option (List ℕ)) → List ℕ → ℕ → Machine
with_module m name procedures code words =
    record m {
      state = record m.state {
        modules = m.state.modules ++ record { name = name; procedures = procedures; code = code; base = m.data_end; words = words } ∷ [];
        store = cleared m.state.store m.data_end (m.data_end + words);
      };
      data_end = m.data_end + words;
    }

-- words of the main store from an address on become these
abbrev pub with_words : Machine → ℕ → List ℕ → Machine
with_words m at words = record m { state = record m.state { store = spliced m.state.store at words } }

-- the main stack lies above the data frames, up to the lowest block
abbrev pub with_stack : Machine → State
with_stack m = record m.state { base = m.data_end }

abbrev pub begun_state : State → ℕ → List ℕ → Option Module → State
begun_state s b bodies None = s
begun_state s b bodies (Some m) =
    if nat_le (s.base + 4) s.limit
    then record (begun_body s b m bodies) { marked = true }
    else record s { running = b; place = body_entry m; bodies = bodies; frame = s.base; top = s.base; stack = []; marked = false }

abbrev pub with_bodies : Machine → List ℕ → Machine
with_bodies m [] = m
with_bodies m (b ∷ bodies) =
    let s = begun_state (with_stack m) b bodies (module_at m.state.modules b) in
    record m { state = s; begun = true; at_module = s.running; at_place = s.place }

-- Procedure p runs at a place: it has the greatest entry not above the place, and the smallest number of those;
-- it is procedure 0 where every entry is above the place.
pub record IsRunning (procedures : List (ℕ × Option (List ℕ))) (place p : ℕ) : Type 0 where
  pub none : ((k e : ℕ) (n : Option (List ℕ)) → slice_get procedures k ≡ Some (e, n) → place < e) → p ≡ 0
  pub some : (k e : ℕ) (n : Option (List ℕ)) → slice_get procedures k ≡ Some (e, n) → e ≤ place
      → (f : ℕ) × (o : Option (List ℕ)) × (slice_get procedures p ≡ Some (f, o)) × (f ≤ place) × (e ≤ f) × (e ≡ f → p ≤ k)

-- the names of a procedure and of its module
abbrev pub names_of : List Module → ℕ → ℕ → Option (List ℕ × Option (List ℕ))
names_of modules m p = option_and_then (λ x. option_and_then (λ e. Some (x.name, e.1)) (slice_get x.procedures p)) (module_at modules m)
