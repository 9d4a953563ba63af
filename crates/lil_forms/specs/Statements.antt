-- The forms of statements that have no statements in them, and of arguments and calls.
use Rattle.std.specs.Prelude.{ℕ, zero, suc, nat_le, Bool, true, false, List, [], ◌∷◌, Option, Some, None, if◌then◌else◌, pos}
use Rattle.lil_base.specs.Lists.{joined}
use Rattle.lil_types.specs.{Types.Table, declared.table.Parameter.Parameter}
use Rattle.lil_declared.specs.declared.standard.Resident.{Resident}
use Rattle.lil_declared.specs.declared.standard.Resident.TheVariants as resident
use Rattle.lil_kinds.specs.declared.found.{Form.Form, Found.Found, Located.Located}
use Rattle.lil_kinds.specs.declared.found.Form.TheVariants as form
use Rattle.lil_resolved.specs.Views.{kind_view}
use Rattle.lil_resolved.specs.declared.resolved.{Allocation.{Allocation, TheVariants.{Takes, GivesBack}}, Direction.Direction, Membership.Membership, RArgument.{RArgument, out-RArgument, TheOpen.RArgument-F}, RExpr.RExpr, RKind.RKind, RMember.RMember, ROpening.{ROpening, TheVariants.{Copied, Lent}}, ROperation.ROperation, RPlace.RPlace, RRoot.RRoot, RSelector.RSelector, RStmt.RStmt}
use Rattle.lil_resolved.specs.declared.resolved.RArgument.TheVariants as given
use Rattle.lil_resolved.specs.declared.resolved.RArgument.TheOpen as x
use Rattle.lil_resolved.specs.declared.resolved.RExpr.TheVariants as e
use Rattle.lil_resolved.specs.declared.resolved.RStmt.TheVariants as s
use Rattle.lil_base.specs.declared.request.Request as requests
use Rattle.lil_base.specs.declared.request.Request.TheVariants as q
use Rattle.lil_shapes.specs.{Bases.{kind_at, elements_at, members_at, composite_at}, Operators.{counted, counted_base}, declared.{members.Members.Members, pointers.Target.Target}, Pointers.target_of}
use Rattle.lil_forms.specs.{declared.places.Cell.Cell, Values.typed, Places.{located_in, cell}}

-- ---- assignments
-- a value goes to a place of a kind
abbrev pub stored : Option Cell → Option RExpr → Option RStmt
stored (Some c) (Some x) = Some (s.Assign c.place c.kind x)
stored _ _ = None

-- a string, or all of another place, goes to a place
abbrev pub composed : Located → Form → Option RStmt
composed p form.Nothing = None
composed p (form.Text cs) = Some (s.Text p.place cs)
composed p (form.Located q) = Some (s.Copy p.place q.place)
composed p (form.Open a) = None
composed p (form.Value x) = None
composed p (form.Routine n) = None

-- a value goes to a place, by the place's type
unfoldable pub assigned : Table → Option Located → Found → Option RStmt
assigned t None v = None
assigned t (Some p) v = if composite_at t p.sort then composed p v.form else stored (cell t (Some p)) (typed t p.sort v)

-- ---- INC and DEC
-- by a number of the type that goes with the place
abbrev pub changed_by : Direction → Cell → Option RExpr → Option RStmt
changed_by way c None = None
changed_by way c (Some x) = Some (s.Change way c.place c.kind x)

abbrev pub changed_with : Table → Direction → Option Cell → Found → Option RStmt
changed_with t way None v = None
changed_with t way (Some c) v = changed_by way c (typed t (counted c.kind.base) v)

unfoldable pub changed : Table → Direction → Option Located → Found → Option RStmt
changed t way p v = changed_with t way (cell t p) v

-- by 1
abbrev pub changed_at : Direction → Option Cell → Option RStmt
changed_at way None = None
changed_at way (Some c) = Some (s.Change way c.place c.kind (e.Constant (counted_base c.kind.base) (pos 1)))

unfoldable pub changed_by_one : Table → Direction → Option Located → Option RStmt
changed_by_one t way p = changed_at way (cell t p)

-- ---- INCL and EXCL
abbrev pub turned_by : Membership → Members → Cell → Option RExpr → Option RStmt
turned_by way x c None = None
turned_by way x c (Some v) = Some (s.Member way c.place x.kind v)

abbrev pub turned_in : Table → Membership → Option Members → Cell → Found → Option RStmt
turned_in t way None c v = None
turned_in t way (Some x) c v = turned_by way x c (typed t x.sort v)

abbrev pub turned_at : Table → Membership → Option Cell → Found → Option RStmt
turned_at t way None v = None
turned_at t way (Some c) v = turned_in t way (members_at t c.sort) c v

-- a number joins the set at a place, or leaves it
unfoldable pub turned : Table → Membership → Option Located → Found → Option RStmt
turned t way p v = turned_at t way (cell t p) v

-- ---- NEW and DISPOSE
abbrev pub created_as : Cell → Option Target → Option RStmt
created_as c None = None
created_as c (Some x) = Some (s.New c.place x.pointer)

abbrev pub created_at : Table → Option Cell → Option RStmt
created_at t None = None
created_at t (Some c) = created_as c (target_of t (kind_view c.kind))

-- a pointer gets an object
unfoldable pub created : Table → Option Located → Option RStmt
created t p = created_at t (cell t p)

abbrev pub disposed_at : Option Cell → Option RStmt
disposed_at None = None
disposed_at (Some c) = Some (s.Assign c.place c.kind (e.Constant c.kind.base (pos 0)))

-- a pointer gets NIL
unfoldable pub disposed : Table → Option Located → Option RStmt
disposed t p = disposed_at (cell t p)

-- ---- ALLOCATE and DEALLOCATE
-- an address gets a workspace of so many words, or gives it back
abbrev pub allocated : Allocation → Option RPlace → Option RExpr → Option RStmt
allocated way (Some p) (Some x) = Some (s.Allocate way p x)
allocated way _ _ = None

-- ---- the forms of arguments, and of calls of resident procedures

-- ---- open arrays: an array, a string, or another one
-- one by place isn't copied
abbrev pub opening : Bool → ROpening
opening false = Copied
opening true = Lent

-- the number of the last of some elements
abbrev pub last_of : Option ℕ → Option ℕ
last_of None = None
last_of (Some zero) = None
last_of (Some (suc n)) = if nat_le n 65535 then Some n else None

abbrev pub array_as : ROpening → Located → Option ℕ → Option RArgument
array_as o p None = None
array_as o p (Some last) = Some (given.Array o p.place last)

abbrev pub array_given : Table → ROpening → Located → Option RArgument
array_given t o p = array_as o p (last_of (elements_at t p.sort))

abbrev pub open_given : Table → ROpening → Form → Option RArgument
open_given t o form.Nothing = None
open_given t o (form.Text cs) = Some (given.Text cs)
open_given t o (form.Located p) = array_given t o p
open_given t o (form.Open a) = Some (given.Opened o a.levels a.number)
open_given t o (form.Value x) = None
open_given t o (form.Routine n) = None

-- ---- places
abbrev pub place_given : Option Located → Option RArgument
place_given None = None
place_given (Some p) = Some (given.Place p.place)

-- ---- values
-- a string for an array of so many characters
abbrev pub spelled_as : List ℕ → Option ℕ → Option RArgument
spelled_as cs None = None
spelled_as cs (Some n) = if nat_le n 65535 then Some (given.Spelled cs n) else None

-- a string, or all that lies at a place, for an array or a record of a type
abbrev pub whole_given : Table → ℕ → Form → Option RArgument
whole_given t s form.Nothing = None
whole_given t s (form.Text cs) = spelled_as cs (elements_at t s)
whole_given t s (form.Located p) = Some (given.All p.place)
whole_given t s (form.Open a) = None
whole_given t s (form.Value x) = None
whole_given t s (form.Routine n) = None

abbrev pub value_as : RKind → Option RExpr → Option RArgument
value_as j None = None
value_as j (Some x) = Some (given.Value j x)

abbrev pub value_by : Table → ℕ → Option RKind → Found → Option RArgument
value_by t s None a = if composite_at t s then whole_given t s a.form else None
value_by t s (Some j) a = value_as j (typed t s a)

-- ---- what a call is handed, argument by argument, where all of it has code
abbrev pub argument_given : Table → Parameter → Found → Option RArgument
argument_given t p a =
    if p.open_array then open_given t (opening p.by_place) a.form
    else (if p.by_place then place_given (located_in a.form) else value_by t p.sort (kind_at t p.sort) a)

abbrev pub nothing_handed : Option (List RArgument)
nothing_handed = Some []

-- one argument more
unfoldable pub handed_over : Table → Parameter → Option (List RArgument) → Found → Option (List RArgument)
handed_over t p h a = joined h (argument_given t p a)

-- ---- requests
abbrev pub request_of : Resident → Option requests.Request
request_of resident.Read = None
request_of resident.Write = Some q.Write
request_of resident.WriteString = Some q.WriteString
request_of resident.WriteLn = Some q.WriteLn
request_of resident.WriteCard = Some q.WriteCard
request_of resident.WriteInt = Some q.WriteInt
request_of resident.WriteOct = Some q.WriteOct
request_of resident.WriteHex = Some q.WriteHex
request_of resident.Allocate = None
request_of resident.Deallocate = None
request_of resident.NewProcess = None
request_of resident.Transfer = None
request_of resident.Lookup = None
request_of resident.CloseFile = None
request_of resident.Reset = None
request_of resident.ReadChar = None
request_of resident.WriteChar = None
request_of resident.Call = None
request_of resident.OpenChannel = None
request_of resident.PutWord = None
request_of resident.GetWord = None
request_of resident.CloseChannel = None

abbrev pub allocation_of : Resident → Option Allocation
allocation_of resident.Allocate = Some Takes
allocation_of resident.Deallocate = Some GivesBack
allocation_of resident.Read = None
allocation_of resident.Write = None
allocation_of resident.WriteString = None
allocation_of resident.WriteLn = None
allocation_of resident.WriteCard = None
allocation_of resident.WriteInt = None
allocation_of resident.WriteOct = None
allocation_of resident.WriteHex = None
allocation_of resident.NewProcess = None
allocation_of resident.Transfer = None
allocation_of resident.Lookup = None
allocation_of resident.CloseFile = None
allocation_of resident.Reset = None
allocation_of resident.ReadChar = None
allocation_of resident.WriteChar = None
allocation_of resident.Call = None
allocation_of resident.OpenChannel = None
allocation_of resident.PutWord = None
allocation_of resident.GetWord = None
allocation_of resident.CloseChannel = None

-- ---- calls
abbrev pub request : Option requests.Request → List RArgument → Option RStmt
request None xs = None
request (Some r) xs = Some (s.Request r xs)

-- the place, and the value, that an argument is
abbrev pub place_of_layer : RArgument-F RArgument RExpr RMember RRoot RSelector ROperation RPlace → Option RPlace
place_of_layer (x.Value j a) = None
place_of_layer (x.Place p) = Some p
place_of_layer (x.All p) = None
place_of_layer (x.Array o p high) = None
place_of_layer (x.Text cs) = None
place_of_layer (x.Opened o n i) = None
place_of_layer (x.Spelled cs count) = None

abbrev pub place_in : RArgument → Option RPlace
place_in a = place_of_layer (out-RArgument a)

abbrev pub value_of_layer : RArgument-F RArgument RExpr RMember RRoot RSelector ROperation RPlace → Option RExpr
value_of_layer (x.Value j a) = Some a
value_of_layer (x.Place p) = None
value_of_layer (x.All p) = None
value_of_layer (x.Array o p high) = None
value_of_layer (x.Text cs) = None
value_of_layer (x.Opened o n i) = None
value_of_layer (x.Spelled cs count) = None

abbrev pub value_in : RArgument → Option RExpr
value_in a = value_of_layer (out-RArgument a)

-- of a place and a number of words
abbrev pub allocation : Allocation → List RArgument → Option RStmt
allocation way [] = None
allocation way (a ∷ []) = None
allocation way (a ∷ b ∷ []) = allocated way (place_in a) (value_in b)
allocation way (a ∷ b ∷ c ∷ xs) = None

abbrev pub called_by : Option Allocation → Option requests.Request → List RArgument → Option RStmt
called_by (Some way) r xs = allocation way xs
called_by None r xs = request r xs

-- a call of a resident procedure with arguments that are all there
unfoldable pub called : Resident → Option (List RArgument) → Option RStmt
called r None = None
called r (Some xs) = called_by (allocation_of r) (request_of r) xs
