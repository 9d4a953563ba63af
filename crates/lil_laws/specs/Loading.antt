-- The machine after modules were loaded: their data from word 1 one behind another, and the first body begun.
use Rattle.lil_meaning.specs.Need.{HasCalls}
use Rattle.std.specs.Prelude.{◌≡◌, ◌⊎◌, true, ℕ, suc, ◌+◌, ◌<◌, List, [], ◌∷◌, length, Option, None, Some}
use Rattle.lil_base.specs.declared.fault.LimitKind.{LimitKind}
use Rattle.lil_base.specs.declared.fault.LimitKind.TheVariants as limit
use Rattle.lil_resolved.specs.{Kinds.all_words, Resolved.{Procedure, Resolved}}
use Rattle.lil_meaning.specs.{Items.{Source, heap_words}, Need.chain_of, Steps.next}
use Rattle.lil_mcode.specs.{Table.{Module, State}, Calls.{Machine, fresh, with_level, with_module, with_words, with_bodies}}
use Rattle.lil_frames.specs.Words.{spliced, zeros, cleared}
use Rattle.lil_table.specs.Rows.{Translates}

-- A text with the words of its strings, where each procedure begins, and its code.
pub record Compiled : Type 0 where
  pub text : Resolved
  pub strings : List ℕ
  pub entries : List ℕ
  pub code : List ℕ
  pub translates : Translates text strings entries code

-- the table of procedures: the body, which has no name and stands at the beginning, and behind it each with its entry and its name
abbrev pub named_entries : List Procedure → List ℕ → List (ℕ × Option (List ℕ))
named_entries [] es = []
named_entries (p ∷ ps) [] = []
named_entries (p ∷ ps) (e ∷ es) = (e, Some p.name) ∷ named_entries ps es

abbrev pub procedure_table : Resolved → List ℕ → List (ℕ × Option (List ℕ))
procedure_table m entries = (0, None) ∷ named_entries m.procedures entries

abbrev pub text_of : Compiled → Resolved
text_of o = o.text

abbrev pub data_of : Compiled → ℕ
data_of o = all_words o.text.variables + length o.strings

-- the place behind the data of modules, which begin at a place
abbrev pub data_end : ℕ → List Compiled → ℕ
data_end base [] = base
data_end base (o ∷ os) = data_end (base + data_of o) os

-- their entries in the table of the machine
abbrev pub entry_for : Compiled → ℕ → Module
entry_for o base = record { name = o.text.name; procedures = procedure_table o.text o.entries; code = o.code; base = base; words = data_of o }

abbrev pub table_from : ℕ → List Compiled → List Module
table_from base [] = []
table_from base (o ∷ os) = entry_for o base ∷ table_from (base + data_of o) os

-- each is one of the library
abbrev pub numbers_from : ℕ → List Compiled → List ℕ
numbers_from n [] = []
numbers_from n (o ∷ os) = n ∷ numbers_from (suc n) os

-- the data of one, from a place on: its variables are zero, and its strings stand behind them
abbrev pub one_placed : List ℕ → ℕ → Compiled → List ℕ
one_placed store base o = spliced (cleared store base (base + data_of o)) (base + all_words o.text.variables) o.strings

abbrev pub data_placed : List ℕ → ℕ → List Compiled → List ℕ
data_placed store base [] = store
data_placed store base (o ∷ os) = data_placed (one_placed store base o) (base + data_of o) os

-- the machine, where the body of the module with this number is the first of those that run
abbrev pub image : List Compiled → (first : ℕ) (rest : List ℕ) → State
image os first rest = record {
  modules = table_from 1 os;
  running = first;
  place = 0;
  stack = [];
  store = spliced (data_placed (zeros 65536) 1 os) (data_end 1 os) (0 ∷ 0 ∷ 0 ∷ first ∷ []);
  frame = data_end 1 os;
  top = data_end 1 os + 4;
  base = data_end 1 os;
  limit = 65535;
  bodies = rest;
  marked = true;
  parked = [];
  waiting = [];
}

-- ---- a program module that is loaded alone
-- A state that comes to a limit of words: data, the calls of the next state with a whole expression stack and its length each, and its objects
-- and workspaces take more words than the store has. That of the stack comes only where a call has begun.
pub record IsSpent (p : Resolved) (strings : List ℕ) (k : LimitKind) (t : Source) : Type 0 where
  pub kind : ((k ≡ limit.Stack) × HasCalls (p ∷ []) (next (p ∷ []) t)) ⊎ (k ≡ limit.Store)
  pub short : 65535 < 1 + (all_words p.variables + length strings) + chain_of (p ∷ []) (next (p ∷ []) t) + heap_words (next (p ∷ []) t).objects (next (p ∷ []) t).workspaces

abbrev pub loaded : Resolved → (strings entries code : List ℕ) → Machine
loaded p strings entries code =
    with_bodies (with_words (with_module (with_level fresh) p.name (procedure_table p entries) code (all_words p.variables + length strings)) (1 + all_words p.variables) strings) (1 ∷ [])
