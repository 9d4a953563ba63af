-- What a step reads of the running module.
use Rattle.std.specs.Prelude.{ℕ, List, [], Option, None, Some}
use Rattle.lil_mcode.specs.Table.{Module, State, module_at}

-- the code of the running module
abbrev pub code_in : Option Module → List ℕ
code_in None = []
code_in (Some m) = m.code

abbrev pub running_code : State → List ℕ
running_code s = code_in (module_at s.modules s.running)

-- where the data of the running module begins
abbrev pub base_in : Option Module → ℕ
base_in None = 0
base_in (Some m) = m.base

abbrev pub running_base : State → ℕ
running_base s = base_in (module_at s.modules s.running)

-- a row looks at no more of a module than its code and the base of its data
abbrev pub based : ℕ → List ℕ → Module
based base code = record { name = []; procedures = []; code = code; base = base; words = 0 }

-- the running module for rows that look at its code alone
abbrev pub own : State → Module
own s = based 0 (running_code s)

-- the running module for rows that look at its code and its data
abbrev pub current : State → Module
current s = based (running_base s) (running_code s)
