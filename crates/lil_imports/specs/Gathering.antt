-- The interfaces of the modules that a unit imports, by their symbol files, and the faults of its imports.
use Rattle.std.specs.Prelude.{◌≡◌, ◌⊎◌, ℕ, nat_le, length, Bool, true, false, ◌||◌, is_some, List, [], ◌∷◌, ◌++◌, Option, Some, None, if◌then◌else◌}
use Rattle.lil_base.specs.{declared.fault.{FaultKind.TheVariants.{TooManyImports, NoSymbol, SelfImport, SymDamaged}, SourceFault.SourceFault}, Faults.{fault, fault_about, fault_number}}
use Rattle.lil_text.specs.declared.tree.Ident.{Ident}
use Rattle.lil_language.specs.declared.unit.{Import.Import, Unit.{Unit as Tree}}
use Rattle.lil_scope.specs.Names.{same}
use Rattle.lil_interfaces.specs.{Interfaces.{named, residents}, Entering.{has_rest, and_rests, with_itself}}
use Rattle.lil_imports.specs.{declared.{gathering.Gathered.Gathered, stored.Stored.Stored}, Stored.{stored, is_missing, is_damaged, wanted_in}, Meeting.{first_some, conflict}}
use Rattle.lil_imports.specs.declared.stored.Stored.TheVariants as s

-- ---- the modules that a unit imports, in the order of the text
abbrev pub modules_by : Option Ident → List Ident → List Ident
modules_by None names = names
modules_by (Some m) names = m ∷ []

abbrev pub modules_of : List Import → List Ident
modules_of [] = []
modules_of (x ∷ xs) = modules_by x.from x.names ++ modules_of xs

-- ---- before the first one there are the resident modules, and nothing is met
abbrev pub nothing_gathered : Gathered
nothing_gathered = record { interfaces = residents; met = [] }

-- a module whose interface is there
abbrev pub is_known : Gathered → List ℕ → Bool
is_known g n = is_some (named g.interfaces n)

abbrev pub and_stored : Gathered → Stored → Gathered
and_stored g s.Missing = g
and_stored g s.Damaged = g
and_stored g (s.There i) = record { interfaces = g.interfaces ++ i ∷ []; met = and_rests g.met (with_itself i) }

-- ---- the faults of an import
abbrev pub when : Bool → SourceFault → Option SourceFault
when b f = if b then Some f else None

-- 63 TooManyImports: a 61st module that isn't resident, beside the seven that are
abbrev pub too_many : Gathered → Ident → Option SourceFault
too_many g i = when (nat_le 67 (length g.interfaces)) (fault (fault_number TooManyImports) i.place)

-- 70 NoSymbol: it has no symbol file
abbrev pub absent : Ident → Stored → Option SourceFault
absent i st = when (is_missing st) (fault (fault_number NoSymbol) i.place)

-- 72 SelfImport: the unit imports itself, or the module rests on the unit
abbrev pub is_own : Tree → Ident → Stored → Bool
is_own u i st = same i.name u.head.name.name || has_rest (wanted_in st) u.head.name.name

abbrev pub own : Tree → Ident → Stored → Option SourceFault
own u i st = when (is_own u i st) (fault (fault_number SelfImport) i.place)

-- 78 SymDamaged: what stands there isn't the module's symbol file
abbrev pub damaged : Ident → Stored → Option SourceFault
damaged i st = when (is_damaged st) (fault_about (fault_number SymDamaged) i.place i.name)

-- they stand at one place, and the one of the least number speaks
abbrev pub import_fault : Tree → Gathered → Ident → Stored → Option SourceFault
import_fault u g i st = first_some (too_many g i) (first_some (absent i st) (first_some (conflict i.place g.met (wanted_in st)) (first_some (own u i st) (damaged i st))))

-- ---- one import after the other, where P says what is found as a module's symbol file. Each module is read once
module _ (u : Tree) (P : List ℕ → Option (List ℕ) → Type 0) where
  -- no import has a fault, and r is gathered
  abbrev pub Gathers : Gathered → List Ident → Gathered → Type 0
  Gathers g [] r = r ≡ g
  Gathers g (i ∷ is) r =
      ((is_known g i.name ≡ true) × Gathers g is r)
      ⊎ ((is_known g i.name ≡ false) × ((o : Option (List ℕ)) × P i.name o × (import_fault u g i (stored i.name o) ≡ None) × Gathers (and_stored g (stored i.name o)) is r))

  -- the first import that has a fault has this one
  abbrev pub HasImportFault : Gathered → List Ident → SourceFault → Type 0
  HasImportFault g [] f = ⊥
  HasImportFault g (i ∷ is) f =
      ((is_known g i.name ≡ true) × HasImportFault g is f)
      ⊎ ((is_known g i.name ≡ false) × ((o : Option (List ℕ)) × P i.name o
      × ((import_fault u g i (stored i.name o) ≡ Some f) ⊎ ((import_fault u g i (stored i.name o) ≡ None) × HasImportFault (and_stored g (stored i.name o)) is f))))
