-- Runs of loaded modules: the state after n steps.
use Rattle.std.specs.Prelude.{ℕ, zero, suc, List, [], ◌∷◌, Option, None, Some}
use Rattle.lil_resolved.specs.Resolved.{Statements, Empty, Resolved}
use Rattle.lil_meaning.specs.{Items.{loaded_at, fresh_cells, doing, End, Item, Perform, Activation, Going, Source}, World.World, Steps.next}

abbrev pub body_of : Option Resolved → Statements
body_of None = Empty
body_of (Some m) = m.body

-- the bodies of loaded modules in the order in which they run, each with its end; the activations have numbers from a on
abbrev pub bodies : List Resolved → List ℕ → ℕ → List ℕ → List Item
bodies library loaded a [] = []
bodies library loaded a (n ∷ order) = doing (body_of (loaded_at library loaded n)) (Perform (End a) ∷ bodies library loaded (suc a) order)

-- the activations of the bodies of the modules with these numbers
abbrev pub body_activations : List ℕ → List Activation
body_activations [] = []
body_activations (n ∷ order) = record { owner = n; procedure = 0; outer = None; slots = [] } ∷ body_activations order

-- level 1, in a world: these modules of the library are loaded, and their bodies run in an order
abbrev pub begun : List Resolved → (loaded order : List ℕ) → World → Source
begun library loaded order w = record {
  loaded = loaded;
  cells = fresh_cells library loaded;
  activations = body_activations order;
  objects = [];
  workspaces = [];
  running = 0;
  items = bodies library loaded 0 order;
  parked = [];
  waiting = [];
  world = w;
  phase = Going;
}

-- n steps
abbrev pub after : List Resolved → ℕ → Source → Source
after library zero s = s
after library (suc n) s = after library n (next library s)

abbrev pub src : List Resolved → (loaded order : List ℕ) → World → ℕ → Source
src library loaded order w n = after library n (begun library loaded order w)

-- the state of the meaning of a program module that is loaded alone, after n steps
abbrev pub state_of : Resolved → World → ℕ → Source
state_of p w n = src (p ∷ []) (0 ∷ []) (1 ∷ []) w n
