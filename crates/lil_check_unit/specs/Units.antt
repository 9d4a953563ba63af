-- A unit as a whole: what it is resolved to, and which fault speaks.
use Rattle.std.specs.Prelude.{◌≡◌, ◌⊎◌, ℕ, nat_lt, length, Bool, true, false, not, ◌||◌, is_none, List, [], ◌∷◌, ◌++◌, Option, Some, None, codes}
use Rattle.std.specs.List.{list_any}
use Rattle.lil_base.specs.{declared.fault.{FaultKind.TheVariants.{DataTooLong, ReservedModule, FileName, UnitKind, NotBuilt}, SourceFault.SourceFault}, Faults.fault}
use Rattle.lil_text.specs.declared.tree.Ident.{Ident}
use Rattle.lil_language.specs.declared.unit.UnitKind.TheVariants as kind
use Rattle.lil_language.specs.declared.unit.{Import.Import, Unit.Unit as Tree, UnitKind.UnitKind as Sort}
use Rattle.lil_types.specs.declared.table.TypeForm.{TypeForm, TheVariants.Enumeration}
use Rattle.lil_report.specs.{declared.report.Fault.Fault, Least.{number, is_late, now_of, late_of, worse, IsLeast}, Told.{Row, row, Stands, after, tell}}
use Rattle.lil_resolved.specs.Resolved.{Resolved}
use Rattle.lil_scope.specs.{declared.env.Env.Env, Names.{block_at, same}}
use Rattle.lil_layout.specs.Data.{data_words}
use Rattle.lil_check_decl.specs.Decls.{decls_mean}
use Rattle.lil_check_stmt.specs.{Stmts.bodies_mean, declared.stmt.Stated.Stated}
use Rattle.lil_interfaces.specs.{declared.{surface.Interface.Interface, modules.Imported.Imported}, Interfaces.{named, residents}, Imports.{nothing_imported, imports_mean, exports_mean}}
use Rattle.lil_check_unit.specs.Modules.{in_no_with, assembled}

-- ---- classes: the first one that has a fault speaks
abbrev pub first_of : Option Fault → Option Fault → Option Fault
first_of None o = o
first_of (Some f) o = Some f

-- o is the least fault of the first of these classes that has one, and none where no class has one
abbrev pub Speaks : List (Fault → Type 0) → Option Fault → Type 0
Speaks [] o = o ≡ None
Speaks (C ∷ Cs) o = ((f : Fault) × (o ≡ Some f) × IsLeast C f) ⊎ (((f : Fault) → C f → ⊥) × Speaks Cs o)

-- the fault as it is told
abbrev pub told : Fault → SourceFault
told f = fault (number f) f.place

-- ---- class 4: the unit's name and kind
-- the names of all resident modules, of those that aren't built too
abbrev pub is_reserved : List ℕ → Bool
is_reserved n =
    same n (codes "Terminal")
    || (same n (codes "InOut")
    || (same n (codes "FileSystem")
    || (same n (codes "Storage")
    || (same n (codes "Program")
    || (same n (codes "Channels")
    || same n (codes "SYSTEM"))))))

abbrev pub same_kind : Sort → Sort → Bool
same_kind kind.Definition kind.Definition = true
same_kind kind.Implementation kind.Implementation = true
same_kind kind.Program kind.Program = true
same_kind _ _ = false

-- 80 UnitKind: the unit isn't of the kind that is wanted. 76 ReservedModule: it has a resident module's name. 77 FileName: it
-- hasn't its file's name
abbrev pub naming_rows : Sort → List ℕ → Tree → List Row
naming_rows wanted file u =
    row (not (same_kind wanted u.head.kind)) u.head.place UnitKind
    ∷ row (is_reserved u.head.name.name) u.head.name.place ReservedModule
    ∷ row (not (same u.head.name.name file)) u.head.name.place FileName
    ∷ []

-- ---- class 5. 90 NotBuilt: a module is imported whose interface isn't there
abbrev pub missing_row : List Interface → Ident → Row
missing_row is i = row (is_none (named is i.name)) i.place NotBuilt

abbrev pub missing_names : List Interface → List Ident → List Row
missing_names is [] = []
missing_names is (i ∷ xs) = missing_row is i ∷ missing_names is xs

abbrev pub missing_by : List Interface → Option Ident → List Ident → List Row
missing_by is None names = missing_names is names
missing_by is (Some m) names = missing_row is m ∷ []

abbrev pub missing_rows : List Interface → List Import → List Row
missing_rows is [] = []
missing_rows is (x ∷ xs) = missing_by is x.from x.names ++ missing_rows is xs

-- each module that is imported has an interface
abbrev pub HasInterfaces : List Interface → Tree → Type 0
HasInterfaces is u = (f : Fault) → Stands (missing_rows is u.head.imports) f → ⊥

-- ---- classes 6 and 7: imported and exported names and declarations, behind them an enumeration that is too long, and then
-- statements. A late fault isn't of these classes
unfoldable pub declared : List Interface → Tree → Env × List Row
declared is u = after (imports_mean is nothing_imported u.head.imports) (λ s. after (decls_mean s.env u.decls) (λ e. exports_mean s.taken e u.head.exports))

-- what the imports alone bind, and how many names of the unit's block they are
abbrev pub brought : List Interface → Tree → Imported
brought is u = (imports_mean is nothing_imported u.head.imports).0

abbrev pub imported_names : List Interface → Tree → ℕ
imported_names is u = length (block_at (brought is u).env.scopes.blocks (brought is u).env.scopes.inner)

abbrev pub stated : List Interface → Tree → Stated × List Row
stated is u = bodies_mean (in_no_with (declared is u).0) u.decls u.body

abbrev pub Now : List Row → Fault → Type 0
Now rs f = Stands rs f × (is_late f ≡ false)

abbrev pub is_long : TypeForm → Bool
is_long (Enumeration xs) = nat_lt 65535 (length xs)
is_long _ = false

-- 61 DataTooLong: an enumeration has more than 65,535 constants
abbrev pub long_rows : Tree → Env → List Row
long_rows u e = row (list_any (λ x. is_long x.form) e.types) u.head.name.place DataTooLong ∷ []

-- the fault of class 6, where o is what its tests tell
abbrev pub names_fault : Tree → Env → Option Fault → Option Fault
names_fault u e o = first_of (now_of o) (tell None (long_rows u e))

abbrev pub names_worst : Tree → List Interface → Option Fault
names_worst u is = names_fault u (declared is u).0 (tell None (declared is u).1)

abbrev pub ClassesOfNames : Tree → List Interface → List (Fault → Type 0)
ClassesOfNames u is = Now (declared is u).1 ∷ Stands (long_rows u (declared is u).0) ∷ []

-- the fault of a unit, of classes 6 and 7
unfoldable pub worst : Tree → List Interface → Option Fault
worst u is = first_of (names_worst u is) (now_of (tell None (stated is u).1))

-- ---- class 8. 61 DataTooLong: the data of the unit's module have more than 32,000 words
abbrev pub data_rows : Tree → Env → Stated → List Row
data_rows u e b = row (nat_lt 32000 (data_words e.types e.variables b.procedures b.body)) u.head.name.place DataTooLong ∷ []

-- ---- class 9: the late faults of declarations and statements
abbrev pub Late : List Row → Fault → Type 0
Late rs f = Stands rs f × (is_late f ≡ true)

abbrev pub LateInUnit : Tree → List Interface → Fault → Type 0
LateInUnit u is f = Late (declared is u).1 f ⊎ Late (stated is u).1 f

unfoldable pub late_fault : Tree → List Interface → Option Fault
late_fault u is = worse (late_of (tell None (declared is u).1)) (late_of (tell None (stated is u).1))

-- ---- the module of a unit that has no fault
unfoldable pub module_of : Tree → List Interface → Option Resolved
module_of u is = assembled (declared is u).0 u.head.name.name (stated is u).0

-- ---- a unit
-- the fault of classes 8 and 9, where o is the late fault
abbrev pub data_fault : Tree → Env → Stated → Option Fault → Option Fault
data_fault u e b o = first_of (tell None (data_rows u e b)) o

-- the fault of a unit, of classes 6 to 9
unfoldable pub unit_fault : Tree → List Interface → Option Fault
unit_fault u is = first_of (worst u is) (data_fault u (declared is u).0 (stated is u).0 (late_fault u is))

abbrev pub ClassesOfUnit : Tree → List Interface → List (Fault → Type 0)
ClassesOfUnit u is =
    Now (declared is u).1
    ∷ Stands (long_rows u (declared is u).0)
    ∷ Now (stated is u).1
    ∷ Stands (data_rows u (declared is u).0 (stated is u).0)
    ∷ LateInUnit u is
    ∷ []

-- something is there
abbrev pub IsThere : {A : Type 0} → Option A → Type 0
IsThere {A} o = (a : A) × (o ≡ Some a)

-- ---- a program
-- the fault of a program, of classes 5 to 9
unfoldable pub imports_fault : Tree → Option Fault
imports_fault u = first_of (tell None (missing_rows residents u.head.imports)) (unit_fault u residents)

-- the fault of a program in a file of this name, of classes 4 to 9
unfoldable pub program_fault : List ℕ → Tree → Option Fault
program_fault file u = first_of (tell None (naming_rows kind.Program file u)) (imports_fault u)

abbrev pub ClassesOfProgram : List ℕ → Tree → List (Fault → Type 0)
ClassesOfProgram file u = Stands (naming_rows kind.Program file u) ∷ Stands (missing_rows residents u.head.imports) ∷ ClassesOfUnit u residents
