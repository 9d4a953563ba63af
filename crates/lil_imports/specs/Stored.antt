-- What a volume has of a module's symbol file.
use Rattle.std.specs.Prelude.{ℕ, Bool, true, false, List, [], Option, Some, None, Result, Ok, Err, if◌then◌else◌}
use Rattle.lil_format.specs.{declared.name.Wanted.Wanted, Format.reads, Reading.whole}
use Rattle.lil_scope.specs.Names.{same}
use Rattle.lil_interfaces.specs.{declared.surface.Interface.Interface, Entering.with_itself}
use Rattle.lil_symfile.specs.{declared.tree.SymbolFile.SymbolFile, Symbol.symbol_file}
use Rattle.lil_iface.specs.Known.{interface_in}
use Rattle.lil_imports.specs.declared.stored.Stored.{Stored}
use Rattle.lil_imports.specs.declared.stored.Stored.TheVariants as s

abbrev pub of_module : List ℕ → Interface → Stored
of_module n i = if same n i.name then s.There i else s.Damaged

abbrev pub of_read : List ℕ → Result SymbolFile ℕ → Stored
of_read n (Ok f) = of_module n (interface_in f)
of_read n (Err left) = s.Damaged

-- what was found under the name of its symbol file
abbrev pub stored : List ℕ → Option (List ℕ) → Stored
stored n None = s.Missing
stored n (Some bytes) = of_read n (whole bytes (reads symbol_file bytes))

abbrev pub is_missing : Stored → Bool
is_missing s.Missing = true
is_missing s.Damaged = false
is_missing (s.There i) = false

abbrev pub is_damaged : Stored → Bool
is_damaged s.Missing = false
is_damaged s.Damaged = true
is_damaged (s.There i) = false

-- the module with its key, and those on which it rests
abbrev pub wanted_in : Stored → List Wanted
wanted_in s.Missing = []
wanted_in s.Damaged = []
wanted_in (s.There i) = with_itself i
