-- Interfaces of modules, and those of the resident modules.
use Rattle.std.specs.Prelude.{ℕ, ◌+◌, min, true, false, List, [], ◌∷◌, ◌++◌, Option, Some, None, if◌then◌else◌, codes}
use Rattle.lil_types.specs.{declared.table.{Field.Field, Parameter.Parameter, TypeForm.{TypeForm, TheVariants.{Enumeration, Record, Procedure}}}, Types.{char, cardinal, integer, boolean, proc, address, process}, Adding.{own, added, added_number}}
use Rattle.lil_declared.specs.declared.standard.Resident.{Resident}
use Rattle.lil_declared.specs.declared.standard.Resident.TheVariants as r
use Rattle.lil_scope.specs.declared.thing.Kind.TheVariants as kind
use Rattle.lil_scope.specs.{declared.thing.Thing.Thing, Names.same}
use Rattle.lil_scope.specs.declared.thing.Thing.TheVariants as t
use Rattle.lil_interfaces.specs.declared.surface.{Interface.Interface, Exported.Exported}

-- the interface of this name
abbrev pub named : List Interface → List ℕ → Option Interface
named [] n = None
named (x ∷ xs) n = if same n x.name then Some x else named xs n

-- ---- how a resident module is written
abbrev pub value : ℕ → Parameter
value n = record { by_place = false; open_array = false; sort = n }

abbrev pub place : ℕ → Parameter
place n = record { by_place = true; open_array = false; sort = n }

abbrev pub open_value : ℕ → Parameter
open_value n = record { by_place = false; open_array = true; sort = n }

pub record Resided : Type 0 where
  pub name : List ℕ
  pub request : Resident
  pub parameters : List Parameter

abbrev pub resided : List ℕ → Resident → List Parameter → Resided
resided n r ps = record { name = n; request = r; parameters = ps }

-- the procedures of both Terminal and InOut
abbrev pub common_procedures : List Resided
common_procedures =
    resided (codes "Read") r.Read (place char ∷ [])
    ∷ resided (codes "Write") r.Write (value char ∷ [])
    ∷ resided (codes "WriteString") r.WriteString (open_value char ∷ [])
    ∷ resided (codes "WriteLn") r.WriteLn []
    ∷ []

-- the writers of numbers: what is written, and on how many places at least
abbrev pub number_writers : List Resided
number_writers =
    resided (codes "WriteCard") r.WriteCard (value cardinal ∷ value cardinal ∷ [])
    ∷ resided (codes "WriteInt") r.WriteInt (value integer ∷ value cardinal ∷ [])
    ∷ resided (codes "WriteOct") r.WriteOct (value cardinal ∷ value cardinal ∷ [])
    ∷ resided (codes "WriteHex") r.WriteHex (value cardinal ∷ value cardinal ∷ [])
    ∷ []

-- the procedures of Storage: a variable for an address, and a number of words
abbrev pub storers : List Resided
storers =
    resided (codes "ALLOCATE") r.Allocate (place address ∷ value cardinal ∷ [])
    ∷ resided (codes "DEALLOCATE") r.Deallocate (place address ∷ value cardinal ∷ [])
    ∷ []

-- the procedures of SYSTEM. A new coroutine has a procedure, the address and the number of its words, and a variable; a
-- transfer goes from one to another
abbrev pub coroutine_procedures : List Resided
coroutine_procedures =
    resided (codes "NEWPROCESS") r.NewProcess (value proc ∷ value address ∷ value cardinal ∷ place process ∷ [])
    ∷ resided (codes "TRANSFER") r.Transfer (place process ∷ place process ∷ [])
    ∷ []

-- ---- types of their own. The first has number 16
abbrev pub first_own : ℕ
first_own = 16

abbrev pub second_own : ℕ
second_own = 17

-- Response of FileSystem
abbrev pub responses : List (List ℕ)
responses = codes "done" ∷ codes "notdone" ∷ []

abbrev pub field : List ℕ → ℕ → Field
field n sort = record { name = n; sort = sort }

-- File of FileSystem
abbrev pub file_fields : List Field
file_fields = field (codes "id") cardinal ∷ field (codes "eof") boolean ∷ field (codes "res") first_own ∷ []

abbrev pub file_procedures : List Resided
file_procedures =
    resided (codes "Lookup") r.Lookup (place second_own ∷ open_value char ∷ value boolean ∷ [])
    ∷ resided (codes "Close") r.CloseFile (place second_own ∷ [])
    ∷ resided (codes "Reset") r.Reset (place second_own ∷ [])
    ∷ resided (codes "ReadChar") r.ReadChar (place second_own ∷ place char ∷ [])
    ∷ resided (codes "WriteChar") r.WriteChar (place second_own ∷ value char ∷ [])
    ∷ []

-- Status of Program: how a program ended, or why it wasn't loaded
abbrev pub statuses : List (List ℕ)
statuses =
    codes "normal" ∷ codes "range" ∷ codes "overflow" ∷ codes "divisor" ∷ codes "nil" ∷ codes "noprocedure" ∷ codes "noprocess"
    ∷ codes "case" ∷ codes "function" ∷ codes "halted" ∷ codes "workspace" ∷ codes "coroutineend" ∷ codes "missing"
    ∷ codes "damaged" ∷ codes "keydiffers" ∷ codes "tablefull" ∷ codes "notprogram" ∷ []

abbrev pub program_procedures : List Resided
program_procedures = resided (codes "Call") r.Call (open_value char ∷ place first_own ∷ []) ∷ []

abbrev pub channel_procedures : List Resided
channel_procedures =
    resided (codes "Open") r.OpenChannel (value cardinal ∷ place boolean ∷ [])
    ∷ resided (codes "Put") r.PutWord (value cardinal ∷ value cardinal ∷ place boolean ∷ [])
    ∷ resided (codes "Get") r.GetWord (value cardinal ∷ place cardinal ∷ place boolean ∷ [])
    ∷ resided (codes "Close") r.CloseChannel (value cardinal ∷ place boolean ∷ [])
    ∷ []

-- ---- interfaces as they are built
abbrev pub shown : List ℕ → Thing → Exported
shown n t = record { shown = true; name = n; what = t }

abbrev pub empty : List ℕ → Interface
empty n = record { name = n; key = record { 0 = 0 }; rests = []; types = []; texts = []; names = [] }

-- a name more that is shown
unfoldable pub with_shown : Interface → List ℕ → Thing → Interface
with_shown i n x = record i { names = i.names ++ shown n x ∷ [] }

-- a type more and its name
abbrev pub with_named : List Exported → List ℕ → Option ℕ → List Exported
with_named ns n None = ns
with_named ns n (Some sort) = ns ++ shown n (t.Type sort) ∷ []

unfoldable pub with_declared : Interface → List ℕ → TypeForm → Interface
with_declared i n form = record i {
  types = added i.types (own i.types) form;
  names = with_named i.names n (added_number i.types form);
}

-- the constants of an enumeration, from a number on
abbrev pub with_constants : Interface → ℕ → ℕ → List (List ℕ) → Interface
with_constants i sort k [] = i
with_constants i sort k (n ∷ ns) = with_constants (with_shown i n (t.Constant (kind.Scalar sort (min k 65535)))) sort (k + 1) ns

-- an enumeration, which is the first type
abbrev pub with_enumeration : Interface → List ℕ → List (List ℕ) → Interface
with_enumeration i n names = with_constants (with_declared i n (Enumeration names)) first_own 0 names

abbrev pub with_resident : List Exported → List ℕ → Resident → Option ℕ → List Exported
with_resident ns n r None = ns
with_resident ns n r (Some sort) = ns ++ shown n (t.Resident r sort) ∷ []

-- a procedure more, and the procedure type of its heading
unfoldable pub with_procedure : Interface → List ℕ → Resident → List Parameter → Interface
with_procedure i n r ps = record i {
  types = added i.types (own i.types) (Procedure ps None);
  names = with_resident i.names n r (added_number i.types (Procedure ps None));
}

abbrev pub with_procedures : Interface → List Resided → Interface
with_procedures i [] = i
with_procedures i (p ∷ ps) = with_procedures (with_procedure i p.name p.request p.parameters) ps

abbrev pub terminal : List ℕ → Interface
terminal n = with_procedures (empty n) common_procedures

-- EOL is 36C
abbrev pub in_out : List ℕ → Interface
in_out n = with_procedures (with_shown (terminal n) (codes "EOL") (t.Constant (kind.Scalar char 30))) number_writers

abbrev pub storage : List ℕ → Interface
storage n = with_procedures (empty n) storers

-- two types have their names here, and stand in no other module
abbrev pub with_system_types : Interface → Interface
with_system_types i = with_shown (with_shown i (codes "ADDRESS") (t.Type address)) (codes "PROCESS") (t.Type process)

abbrev pub system : List ℕ → Interface
system n = with_procedures (with_system_types (empty n)) coroutine_procedures

abbrev pub file_system : List ℕ → Interface
file_system n = with_procedures (with_declared (with_enumeration (empty n) (codes "Response") responses) (codes "File") (Record file_fields)) file_procedures

abbrev pub program : List ℕ → Interface
program n = with_procedures (with_enumeration (empty n) (codes "Status") statuses) program_procedures

abbrev pub channels : List ℕ → Interface
channels n = with_procedures (empty n) channel_procedures

-- the interfaces of resident modules
abbrev pub residents : List Interface
residents =
    terminal (codes "Terminal")
    ∷ in_out (codes "InOut")
    ∷ file_system (codes "FileSystem")
    ∷ storage (codes "Storage")
    ∷ program (codes "Program")
    ∷ channels (codes "Channels")
    ∷ system (codes "SYSTEM")
    ∷ []

unfoldable pub resident : List ℕ → Option Interface
resident n = named residents n
