-- How the tables of the machine make the modules that are loaded.
use Rattle.std.specs.Prelude.{◌≡◌, ℕ, zero, suc, ◌+◌, ◌≤◌, List, [], ◌∷◌, length, take, drop, Option, None, Some, slice_get}
use Rattle.lil_mcode.specs.{declared.processor.LoadedModule.LoadedModule, Table.Module}

-- the part of the code store that is a module's code
abbrev pub part_of : List ℕ → LoadedModule → List ℕ
part_of code l = take l.size (drop l.start code)

abbrev pub module_of : List ℕ → LoadedModule → Module
module_of code l = record { name = l.name; procedures = l.procedures.items; code = part_of code l; base = l.base; words = l.words }

-- the entry of the table with this number, from 1
abbrev pub loaded_at : List LoadedModule → ℕ → Option LoadedModule
loaded_at loaded zero = None
loaded_at loaded (suc k) = slice_get loaded k

-- the parts of the code store lie one behind another, from one place to another
abbrev pub Lies : ℕ → List LoadedModule → ℕ → Type 0
Lies from [] end = from ≡ end
Lies from (l ∷ loaded) end = (l.start ≡ from) × (length l.procedures.items ≤ 251) × Lies (from + l.size) loaded end

-- the part of the code store and the data of a module that may be loaded
abbrev pub IsPartOf : Option LoadedModule → ℕ → ℕ → ℕ → Type 0
IsPartOf None start size base = (start ≡ 0) × (size ≡ 0) × (base ≡ 0)
IsPartOf (Some l) start size base = (start ≡ l.start) × (size ≡ l.size) × (base ≡ l.base)

-- they are kept for the module with this number, which is that of no module that comes later
abbrev pub Runs : List LoadedModule → ℕ → ℕ → ℕ → ℕ → Type 0
Runs loaded n start size base = (n ≤ length loaded) × IsPartOf (loaded_at loaded n) start size base
