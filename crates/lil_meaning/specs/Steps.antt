-- One step: the first item becomes what its row shows, or a value goes into the hole of the next item.
use Rattle.std.specs.Prelude.{ℕ, zero, suc, ◌+◌, ◌-◌, ◌/◌, ℤ, pos, negsuc, ◌+ℤ◌, ◌-ℤ◌, int_lt, nat_abs, Bool, true, false, not, ◌&&◌, ◌||◌, nat_le, List, [], ◌∷◌, ◌++◌, map, length, take, Option, Some, None, option_map, option_and_then, Result, Ok, Err, slice_get, if◌then◌else◌}
use Rattle.std.specs.List.{list_any}
use Rattle.lil_base.specs.{Words.{Whole, Cardinal, sum, difference, product, quotient, remainder, negation, absolute, whole_rest, is_zero, between}, Traps.arith_trap, declared.{fault.{ArithFault.ArithFault, TrapKind.TrapKind, TrapAt.TrapAt}, operator.{OneOp.OneOp, TwoOp.TwoOp}}}
use Rattle.lil_base.specs.declared.operator.TwoOp.TheVariants.{Equal, Unequal, Less, AtMost, Greater, AtLeast, In, Plus, Minus, Times, Slash, Div, Mod}
use Rattle.lil_base.specs.declared.fault.TrapKind.TheVariants as trap
use Rattle.lil_base.specs.declared.operator.OneOp.TheVariants as one
use Rattle.lil_resolved.specs.Kinds.{Kind, OfWhole, OfTruth, OfCharacter, OfEnumeration, OfRange, is_set, is_pointer, nat_of, position, Scalar, Number, Truth, Character, SetOf, ToObject, ToWorkspace, ToProcedure, Nil, Nothing, same_reference, within, scalar_word, value_with, ordinal_of, truth_number, truth_of, members_of, Shape, Opened, shape_at}
use Rattle.lil_resolved.specs.Members.{same_members, included, is_in, united, without, shared_members, unshared, from_to}
use Rattle.lil_resolved.specs.Resolved.{Named, OfModule, OfLevel, Designator, Variable, Handed, Along, Held, Field, Element, Follow, Function, Abs, Cap, Chr, Odd, Ord, Val, Expression, Constant, Taken, One, Two, Short, Apply, With, WithSpan, Invoke, High, Routine, InvokeValue, Argument, ByValue, OfPlace, OfAll, OfArray, OfText, OfOpened, Spelled, Arguments, NoMore, Also, Label, Statement, Assign, Copy, Text, Change, Member, New, Allocate, Request, If, Case, While, Repeat, Loop, Exit, Halt, Return, Answer, Call, CallValue, For, Inside, Statements, Arms, NoElse, Else, Arm, Procedure, Resolved, procedure_by, counted_as}
use Rattle.lil_meaning.specs.Items.{Cells, with_locals, Global, Local, Slot, Here, At, Along as Spread, Place, under, part_of, object_place, stored, got, alone, text_under, zeros_under, targets_of, loaded_at, Datum, Scalars, Places, Wholes, Opens, Texts, Hole, Get, Part, IndexBy, IndexAt, AlongAt, Pointed, SetTo, StoreAt, CopyTo, CopyFrom, TextTo, NewAt, AllocateBy, AllocateAt, ChangeBy, ChangeAt, OneOf, LeftOf, RightOf, ShortOf, ApplyTo, WithMember, MemberOf, WithMembers, MembersFrom, MembersTo, MemberBy, MemberAt, Callee, ByNumber, OfValue, callee_number, callee_levels, callee_owner, Receiver, Requested, Called, Pass, PassPlace, PassAll, PassArray, Calling, Returning, Choose, Turn, Again, Pick, Hold, StartOf, LimitOf, Task, Do, Passing, Spelling, Until, Looping, Turns, Holding, End, Item, Value, Evaluate, PlaceOf, Fill, Perform, doing, Activation, Parked, Level, Phase, Going, Closing, Ended, Trapped, Source}
use Rattle.lil_meaning.specs.World.{World, Given, Single, Characters, serve, closing}

-- the activation at hand: that of the nearest end
abbrev pub current : List Item → ℕ
current [] = 0
current (Perform (End a) ∷ k) = a
current (i ∷ k) = current k

abbrev pub owner_of : Option Activation → ℕ
owner_of None = 0
owner_of (Some a) = a.owner

-- the number of the module at hand
abbrev pub module_now : Source → ℕ
module_now s = owner_of (slice_get s.activations (current s.items))

-- the number of the procedure at hand, 0 for a body
abbrev pub procedure_of : Option Activation → ℕ
procedure_of None = 0
procedure_of (Some a) = a.procedure

abbrev pub name_of : Option Resolved → List ℕ
name_of None = []
name_of (Some m) = m.name

-- the name of a procedure of a module; a body has none
abbrev pub its_name : Procedure → List ℕ
its_name p = p.name

abbrev pub procedure_name : Option Resolved → ℕ → Option (List ℕ)
procedure_name m zero = None
procedure_name None (suc n) = None
procedure_name (Some m) (suc n) = option_map its_name (slice_get m.procedures n)

-- where a trap happens: in the procedure at hand
abbrev pub trap_in : Option Resolved → Option Activation → TrapKind → TrapAt
trap_in m a kind = record { kind = kind; «module» = name_of m; procedure = procedure_name m (procedure_of a) }

abbrev pub trap_at : List Resolved → Source → TrapKind → TrapAt
trap_at library s kind = trap_in (loaded_at library s.loaded (module_now s)) (slice_get s.activations (current s.items)) kind

abbrev pub trapped : List Resolved → Source → TrapKind → Source
trapped library s kind = record s { phase = Closing (Some (trap_at library s kind)) }

-- the number of the running level
abbrev pub level_of : Source → ℕ
level_of s = suc (length s.waiting)

abbrev pub with_items : Source → List Item → Source
with_items s k = record s { items = k }

-- the number that a scalar is
abbrev pub whole_of : Scalar → ℤ
whole_of (Number z) = z
whole_of _ = pos 0

-- the relations of numbers
abbrev pub is_same : ℤ → ℤ → Bool
is_same x y = not (int_lt x y) && not (int_lt y x)

abbrev pub is_other : ℤ → ℤ → Bool
is_other x y = int_lt x y || int_lt y x

abbrev pub is_at_most : ℤ → ℤ → Bool
is_at_most x y = not (int_lt y x)

abbrev pub is_greater : ℤ → ℤ → Bool
is_greater x y = int_lt y x

abbrev pub is_at_least : ℤ → ℤ → Bool
is_at_least x y = not (int_lt x y)

-- the relation of an operator that compares two numbers
abbrev pub relation_of : TwoOp → Option (ℤ → ℤ → Bool)
relation_of Equal = Some is_same
relation_of Unequal = Some is_other
relation_of Less = Some int_lt
relation_of AtMost = Some is_at_most
relation_of Greater = Some is_greater
relation_of AtLeast = Some is_at_least
relation_of _ = None

-- the operation of an operator on two whole numbers of a type
abbrev pub operation_of : TwoOp → Option (Whole → ℤ → ℤ → Result ℤ ArithFault)
operation_of Plus = Some sum
operation_of Minus = Some difference
operation_of Times = Some product
operation_of Div = Some quotient
operation_of Mod = Some remainder
operation_of _ = None

abbrev pub outcome : Result ℤ ArithFault → Result Scalar TrapKind
outcome (Ok z) = Ok (Number z)
outcome (Err e) = Err (arith_trap e)

-- an operator that takes no such operands has no value
abbrev pub operated : Option (Whole → ℤ → ℤ → Result ℤ ArithFault) → Kind → Scalar → Scalar → Result Scalar TrapKind
operated (Some f) (OfWhole t) u v = outcome (f t (whole_of u) (whole_of v))
operated _ _ u v = Ok Nothing

-- the number as which a value of a kind is compared, if it is one of those that are
abbrev pub compared_number : Kind → Scalar → Option ℤ
compared_number (OfWhole t) (Number z) = Some z
compared_number OfTruth (Truth b) = Some (pos (truth_number b))
compared_number OfCharacter (Character c) = Some (pos c)
compared_number (OfEnumeration n) (Number z) = Some z
compared_number (OfRange base low high) v = compared_number base v
compared_number _ _ = None

-- the relation of two numbers; what has none stands in no relation
abbrev pub related : (ℤ → ℤ → Bool) → Option ℤ → Option ℤ → Result Scalar TrapKind
related r (Some x) (Some y) = Ok (Truth (r x y))
related r _ _ = Ok Nothing

abbrev pub compared : Option (ℤ → ℤ → Bool) → TwoOp → Kind → Scalar → Scalar → Result Scalar TrapKind
compared (Some r) o k u v = related r (compared_number k u) (compared_number k v)
compared None o k u v = operated (operation_of o) k u v

-- an operator on two sets; one that takes none has no value
abbrev pub set_value : TwoOp → (ℕ → Bool) → (ℕ → Bool) → Scalar
set_value Equal s t = Truth (same_members s t)
set_value Unequal s t = Truth (not (same_members s t))
set_value AtMost s t = Truth (included s t)
set_value AtLeast s t = Truth (included t s)
set_value Plus s t = SetOf (united s t)
set_value Minus s t = SetOf (without s t)
set_value Times s t = SetOf (shared_members s t)
set_value Slash s t = SetOf (unshared s t)
set_value _ s t = Nothing

-- an operator on two pointers
abbrev pub pointer_value : TwoOp → Scalar → Scalar → Scalar
pointer_value Equal u v = Truth (same_reference u v)
pointer_value Unequal u v = Truth (not (same_reference u v))
pointer_value _ u v = Nothing

-- an operator on two values of a kind, or IN on one and a set: its value or its trap
abbrev pub applied : TwoOp → Kind → Scalar → Scalar → Result Scalar TrapKind
applied In k u v = Ok (Truth (is_in (members_of v) (ordinal_of u)))
applied o k u v = if is_set k then Ok (set_value o (members_of u) (members_of v)) else (if is_pointer k then Ok (pointer_value o u v) else compared (relation_of o) o k u v)

-- a set with the numbers from that of one value to that of another
abbrev pub with_span : Scalar → Scalar → Scalar → Scalar
with_span s u v = SetOf (united (members_of s) (from_to (nat_of (ordinal_of u)) (nat_of (ordinal_of v))))

-- a set that the number of a value has joined or left
abbrev pub with_member : Bool → Scalar → Scalar → Scalar
with_member false s v = with_span s v v
with_member true s v = SetOf (without (members_of s) (from_to (nat_of (ordinal_of v)) (nat_of (ordinal_of v))))

abbrev pub negated : Kind → Scalar → Result Scalar TrapKind
negated (OfWhole t) v = outcome (negation t (whole_of v))
negated _ v = Ok Nothing

-- an operator on one value of a kind
abbrev pub one_applied : OneOp → Kind → Scalar → Result Scalar TrapKind
one_applied one.Plus k v = Ok v
one_applied one.Minus k v = negated k v
one_applied one.Not k v = Ok (Truth (not (truth_of v)))

-- a small letter's code becomes its capital's
abbrev pub capital : ℕ → ℕ
capital c = if nat_le 97 c && nat_le c 122 then c - 32 else c

abbrev pub character_of : Scalar → ℕ
character_of (Character c) = c
character_of _ = 0

-- a value, or the trap where there is none
abbrev pub valued : Option Scalar → Result Scalar TrapKind
valued (Some v) = Ok v
valued None = Err trap.Range

-- the value of a kind with a number, if the kind has it
abbrev pub ranged : Kind → ℤ → Result Scalar TrapKind
ranged k z = valued (value_with k z)

-- a standard function of a value: its value or its trap
abbrev pub function_value : Function → Scalar → Result Scalar TrapKind
function_value (Abs t) v = outcome (absolute t (whole_of v))
function_value Cap v = Ok (Character (capital (character_of v)))
function_value Chr v = ranged OfCharacter (whole_of v)
function_value Odd v = Ok (Truth (not (is_zero (whole_rest (whole_of v) (pos 2)))))
function_value Ord v = ranged (OfWhole Cardinal) (ordinal_of v)
function_value (Val k) v = ranged k (ordinal_of v)

-- a number is among labels
abbrev pub is_label : ℤ → Label → Bool
is_label z l = between l.low z l.high

abbrev pub among : List Label → ℤ → Bool
among labels z = list_any (is_label z) labels

-- the first arm with the label, else what stands behind ELSE
abbrev pub chosen : Arms → ℤ → Option Statements
chosen NoElse z = None
chosen (Else body) z = Some body
chosen (Arm labels body rest) z = if among labels z then Some body else chosen rest z

-- the turns of a FOR from a to b
abbrev pub turns : ℤ → ℤ → ℤ → ℕ
turns a b (pos n) = if int_lt b a then 0 else nat_abs (b -ℤ a) / n + 1
turns a b (negsuc n) = if int_lt a b then 0 else nat_abs (a -ℤ b) / (n + 1) + 1

-- EXIT: all items up to and with the first LOOP's end go
abbrev pub exited : List Item → List Item
exited [] = []
exited (Perform (Looping body) ∷ k) = k
exited (i ∷ k) = exited k

-- RETURN: all items up to and with the first end go
abbrev pub returned : List Item → List Item
returned [] = []
returned (Perform (End a) ∷ k) = k
returned (i ∷ k) = returned k

abbrev pub answered : List Resolved → Result Scalar TrapKind → List Item → Source → Source
answered library (Ok v) k s = with_items s (Value (Scalars v) ∷ k)
answered library (Err t) k s = trapped library s t

-- the activation around another one
abbrev pub outer_of : Option Activation → Option ℕ
outer_of None = None
outer_of (Some a) = a.outer

abbrev pub surrounding : List Activation → ℕ → Option ℕ
surrounding acts a = outer_of (slice_get acts a)

-- the activation so many levels out of another one
abbrev pub level_out : List Activation → ℕ → ℕ → Option ℕ
level_out acts a zero = Some a
level_out acts a (suc n) = option_and_then (surrounding acts) (level_out acts a n)

-- a slot of an activation, as a place: its own cells, or the place that was handed in; an open array isn't one place
abbrev pub slot_place : (a x : ℕ) → Option Slot → Option Place
slot_place a x None = None
slot_place a x (Some Here) = Some (record { root = Local a x; path = [] })
slot_place a x (Some (At p)) = Some p
slot_place a x (Some (Spread p high)) = None

abbrev pub slots_of : Option Activation → List Slot
slots_of None = []
slots_of (Some a) = a.slots

abbrev pub local_place : List Activation → Option ℕ → ℕ → Option Place
local_place acts None x = None
local_place acts (Some a) x = slot_place a x (slice_get (slots_of (slice_get acts a)) x)

-- a variable of the module at hand, or of the activation so many levels out of the one at hand
abbrev pub variable_place : Source → Named → Option Place
variable_place s (OfModule x) = Some (record { root = Global (module_now s) x; path = [] })
variable_place s (OfLevel n x) = local_place s.activations (level_out s.activations (current s.items) n) x

-- a slot as an open array: its place, and the number of its last element
abbrev pub slot_array : Option Slot → Option (Place × ℕ)
slot_array None = None
slot_array (Some Here) = None
slot_array (Some (At p)) = None
slot_array (Some (Spread p high)) = Some (p, high)

abbrev pub local_array : List Activation → Option ℕ → ℕ → Option (Place × ℕ)
local_array acts None x = None
local_array acts (Some a) x = slot_array (slice_get (slots_of (slice_get acts a)) x)

-- an open array of the activation so many levels out of the one at hand
abbrev pub array_of : Source → (n x : ℕ) → Option (Place × ℕ)
array_of s n x = local_array s.activations (level_out s.activations (current s.items) n) x

-- without it nothing happens
abbrev pub indexed : Option (Place × ℕ) → Expression → List Item → Source → Source
indexed None e k s = s
indexed (Some o) e k s = with_items s (Evaluate e ∷ Fill (AlongAt o.0 o.1) ∷ k)

abbrev pub measured : Option (Place × ℕ) → List Item → Source → Source
measured None k s = s
measured (Some o) k s = with_items s (Value (Scalars (Number (pos o.1))) ∷ k)

abbrev pub handed_on : Option (Place × ℕ) → Receiver → List Datum → Arguments → List Item → Source → Source
handed_on None r done left k s = s
handed_on (Some o) r done left k s = with_items s (Perform (Passing r (done ++ Opens o.0 o.1 ∷ []) left) ∷ k)

-- the place that a WITH around holds, by how many others are between
abbrev pub nearest : Place → (ℕ → Option Place) → ℕ → Option Place
nearest p others zero = Some p
nearest p others (suc w) = others w

abbrev pub held_in : List Item → ℕ → Option Place
held_in [] w = None
held_in (Perform (Holding p) ∷ k) w = nearest p (held_in k) w
held_in (Perform (End a) ∷ k) w = None
held_in (i ∷ k) w = held_in k w

-- without such a place nothing happens
abbrev pub found_at : Option Place → List Item → Source → Source
found_at None k s = s
found_at (Some p) k s = with_items s (Value (Places p) ∷ k)

abbrev pub placed : Designator → List Item → Source → Source
placed (Variable v) k s = found_at (variable_place s v) k s
placed (Handed n x) k s = found_at (variable_place s (OfLevel n x)) k s
placed (Along n x e) k s = indexed (array_of s n x) e k s
placed (Held w) k s = found_at (held_in k w) k s
placed (Field d i) k s = with_items s (PlaceOf d ∷ Fill (Part i) ∷ k)
placed (Element d kind e) k s = with_items s (PlaceOf d ∷ Fill (IndexBy kind e) ∷ k)
placed (Follow d n) k s = with_items s (PlaceOf d ∷ Fill Pointed ∷ k)

abbrev pub evaluated : Expression → List Item → Source → Source
evaluated (Constant kind v) k s = with_items s (Value (Scalars v) ∷ k)
evaluated (Taken d kind) k s = with_items s (PlaceOf d ∷ Fill Get ∷ k)
evaluated (One o kind a) k s = with_items s (Evaluate a ∷ Fill (OneOf o kind) ∷ k)
evaluated (Two o kind a b) k s = with_items s (Evaluate a ∷ Fill (LeftOf o kind b) ∷ k)
evaluated (Short d a b) k s = with_items s (Evaluate a ∷ Fill (ShortOf d b) ∷ k)
evaluated (Apply f a) k s = with_items s (Evaluate a ∷ Fill (ApplyTo f) ∷ k)
evaluated (With e kind a) k s = with_items s (Evaluate e ∷ Fill (WithMember kind a) ∷ k)
evaluated (WithSpan e kind a b) k s = with_items s (Evaluate e ∷ Fill (WithMembers kind a b) ∷ k)
evaluated (Invoke p n kind given) k s = with_items s (Perform (Passing (Called (ByNumber p n)) [] given) ∷ k)
evaluated (High n x) k s = measured (array_of s n x) k s
evaluated (Routine p n) k s = with_items s (Value (Scalars (ToProcedure (module_now s) p)) ∷ k)
evaluated (InvokeValue e kind given) k s = with_items s (Evaluate e ∷ Fill (Calling given) ∷ k)

-- what INC and DEC make of two numbers
abbrev pub changed : Bool → Whole → ℤ → ℤ → Result ℤ ArithFault
changed false = sum
changed true = difference

-- a value is stored at a place, or there is none
abbrev pub stored_with : List Resolved → Place → Result Scalar TrapKind → List Item → Source → Source
stored_with library p (Ok v) k s = record s { items = k; cells = stored s.cells p (alone v) }
stored_with library p (Err t) k s = trapped library s t

-- a number of a whole type, where there is one, is stored as a value of a kind, if it has it
abbrev pub value_of : Kind → Result ℤ ArithFault → Result Scalar TrapKind
value_of k (Ok z) = ranged k z
value_of k (Err e) = Err (arith_trap e)

-- the chosen arm is done, or there is none
abbrev pub picked : List Resolved → Option Statements → List Item → Source → Source
picked library None k s = trapped library s trap.Case
picked library (Some body) k s = with_items s (doing body k)

-- a turn of a FOR: its value, if there is one, is stored as by an assignment, then comes the body and what is behind it
abbrev pub turned_at : Option Place → Scalar → Statements → List Item → Source → Source
turned_at None v body k s = s
turned_at (Some p) v body k s = record s { items = doing body k; cells = stored s.cells p (alone v) }

abbrev pub turned_with : List Resolved → Option Scalar → Named → Statements → List Item → Source → Source
turned_with library (Some v) x body k s = turned_at (variable_place s x) v body k s
turned_with library None x body k s = trapped library s trap.Range

abbrev pub turned_on : List Resolved → Named → Kind → ℤ → ℤ → ℕ → Statements → List Item → Source → Source
turned_on library x kind z step zero body k s = with_items s k
turned_on library x kind z step (suc left) body k s = turned_with library (value_with kind z) x body (Perform (Turns x kind (z +ℤ step) step left body) ∷ k) s

-- whether the left operand decides
abbrev pub decided : Bool → Bool → Bool
decided true b = b
decided false b = not b

-- a new workspace of so many words, to which the address at a place then leads; or it is NIL then
abbrev pub allocated : Bool → ℕ → Place → List Item → Source → Source
allocated false n p k s = record s { items = k; workspaces = s.workspaces ++ record { size = n; carries = None } ∷ []; cells = stored s.cells p (alone (ToWorkspace (length s.workspaces))) }
allocated true n p k s = record s { items = k; cells = stored s.cells p (alone Nil) }

-- the procedure that is a value is called, and where it is none that is a trap
abbrev pub value_called : List Resolved → Scalar → Arguments → List Item → Source → Source
value_called library (ToProcedure m p) given k s = with_items s (Perform (Passing (Called (OfValue m p)) [] given) ∷ k)
value_called library Nil given k s = trapped library s trap.NoProcedure
value_called library _ given k s = s

-- a scalar goes into a hole
abbrev pub filled : List Resolved → Hole → Scalar → List Item → Source → Source
filled library (IndexAt p kind) v k s = if within kind v then with_items s (Value (Places (part_of p (position kind (ordinal_of v)))) ∷ k) else trapped library s trap.Range
filled library (AlongAt p high) v k s = if between (pos 0) (ordinal_of v) (pos high) then with_items s (Value (Places (part_of p (nat_of (ordinal_of v)))) ∷ k) else trapped library s trap.Range
filled library (StoreAt p kind) v k s = if within kind v then record s { items = k; cells = stored s.cells p (alone v) } else trapped library s trap.Range
filled library (ChangeAt down p kind) v k s = stored_with library p (value_of kind (changed down (counted_as kind) (ordinal_of (got s.cells p)) (whole_of v))) k s
filled library (AllocateAt back p) v k s = if within (OfWhole Cardinal) v then allocated back (nat_of (ordinal_of v)) p k s else trapped library s trap.Range
filled library (OneOf o kind) v k s = answered library (one_applied o kind v) k s
filled library (LeftOf o kind f) v k s = with_items s (Evaluate f ∷ Fill (RightOf o kind v) ∷ k)
filled library (RightOf o kind u) v k s = answered library (applied o kind u v) k s
filled library (ShortOf d f) v k s = with_items s (if decided d (truth_of v) then Value (Scalars v) ∷ k else Evaluate f ∷ k)
filled library (ApplyTo f) v k s = answered library (function_value f v) k s
filled library (WithMember kind a) v k s = with_items s (Evaluate a ∷ Fill (MemberOf v kind) ∷ k)
filled library (MemberOf u kind) v k s = if within kind v then with_items s (Value (Scalars (with_span u v v)) ∷ k) else trapped library s trap.Range
filled library (WithMembers kind a b) v k s = with_items s (Evaluate a ∷ Fill (MembersFrom v kind b) ∷ k)
filled library (MembersFrom u kind b) v k s = if within kind v then with_items s (Evaluate b ∷ Fill (MembersTo u kind v) ∷ k) else trapped library s trap.Range
filled library (MembersTo u kind low) v k s = if within kind v then with_items s (Value (Scalars (with_span u low v)) ∷ k) else trapped library s trap.Range
filled library (MemberAt out p kind) v k s = if within kind v then record s { items = k; cells = stored s.cells p (alone (with_member out (got s.cells p) v)) } else trapped library s trap.Range
filled library (Pass r kind done left) v k s = if within kind v then with_items s (Perform (Passing r (done ++ Scalars v ∷ []) left) ∷ k) else trapped library s trap.Range
filled library (Returning kind) v k s = if within kind v then with_items s (Value (Scalars v) ∷ returned k) else trapped library s trap.Range
filled library (Choose a b) v k s = with_items s (if truth_of v then doing a k else doing b k)
filled library (Turn c body) v k s = with_items s (if truth_of v then doing body (Perform (Do (While c body)) ∷ k) else k)
filled library (Again body c) v k s = with_items s (if truth_of v then k else Perform (Do (Repeat body c)) ∷ k)
filled library (Pick arms) v k s = picked library (chosen arms (ordinal_of v)) k s
filled library (StartOf x kind b step body) v k s = with_items s (Evaluate b ∷ Fill (LimitOf x kind v step body) ∷ k)
filled library (Calling given) v k s = value_called library v given k s
filled library (LimitOf x kind u step body) v k s = with_items s (Perform (Turns x kind (ordinal_of u) step (turns (ordinal_of u) (ordinal_of v) step) body) ∷ k)
filled library _ v k s = s

-- the object that a pointer points to; NIL points to none
abbrev pub pointed : List Resolved → Scalar → List Item → Source → Source
pointed library (ToObject o) k s = with_items s (Value (Places (object_place o)) ∷ k)
pointed library Nil k s = trapped library s trap.Nil
pointed library _ k s = s

-- what pointers of the module at hand point to
abbrev pub target_of : List Resolved → Source → ℕ → Shape
target_of library s n = shape_at (targets_of (loaded_at library s.loaded (module_now s))) n

-- a new object of a shape, with zero in each scalar, to which the pointer at a place then points
abbrev pub made : Shape → Place → List Item → Source → Source
made t p k s =
    let o : ℕ = length s.objects in
    record s { items = k; objects = s.objects ++ t ∷ []; cells = stored (stored s.cells (object_place o) (zeros_under t)) p (alone (ToObject o)) }

-- a place goes into a hole
abbrev pub filled_place : List Resolved → Hole → Place → List Item → Source → Source
filled_place library Get p k s = with_items s (Value (Scalars (got s.cells p)) ∷ k)
filled_place library (Part i) p k s = with_items s (Value (Places (part_of p i)) ∷ k)
filled_place library (IndexBy kind e) p k s = with_items s (Evaluate e ∷ Fill (IndexAt p kind) ∷ k)
filled_place library (SetTo kind e) p k s = with_items s (Evaluate e ∷ Fill (StoreAt p kind) ∷ k)
filled_place library (CopyTo from) p k s = with_items s (PlaceOf from ∷ Fill (CopyFrom p) ∷ k)
filled_place library (CopyFrom to) p k s = record s { items = k; cells = stored s.cells to (under s.cells p) }
filled_place library Pointed p k s = pointed library (got s.cells p) k s
filled_place library (NewAt n) p k s = made (target_of library s n) p k s
filled_place library (AllocateBy back e) p k s = with_items s (Evaluate e ∷ Fill (AllocateAt back p) ∷ k)
filled_place library (TextTo cs) p k s = record s { items = k; cells = stored s.cells p (text_under cs) }
filled_place library (PassPlace r done left) p k s = with_items s (Perform (Passing r (done ++ Places p ∷ []) left) ∷ k)
filled_place library (PassAll r done left) p k s = with_items s (Perform (Passing r (done ++ Wholes (under s.cells p) ∷ []) left) ∷ k)
filled_place library (PassArray r high done left) p k s = with_items s (Perform (Passing r (done ++ Opens p high ∷ []) left) ∷ k)
filled_place library (Hold body) p k s = with_items s (doing body (Perform (Holding p) ∷ k))
filled_place library (MemberBy out kind e) p k s = with_items s (Evaluate e ∷ Fill (MemberAt out p kind) ∷ k)
filled_place library (ChangeBy down kind e) p k s = with_items s (Evaluate e ∷ Fill (ChangeAt down p kind) ∷ k)
filled_place library _ p k s = s

abbrev pub fill : List Resolved → Datum → Hole → List Item → Source → Source
fill library (Scalars v) h k s = filled library h v k s
fill library (Places p) h k s = filled_place library h p k s
fill library _ h k s = s

-- ---- calls
-- the activation around a called procedure which is declared so many levels out
abbrev pub declaring : List Activation → ℕ → ℕ → Option ℕ
declaring acts a zero = None
declaring acts a (suc n) = level_out acts a n

abbrev pub procedures_of : Option Resolved → List Procedure
procedures_of None = []
procedures_of (Some m) = m.procedures

-- a variable of a procedure is one of its own cells, what was handed in, or an open array
abbrev pub own_slot : Shape → Slot
own_slot t = Here

-- an open array by value is its copy
abbrev pub lent : Shape → (own given : Place) → Place
lent (Opened true t) own given = own
lent t own given = given

abbrev pub slot_of : Place → Shape → Datum → Slot
slot_of own t (Scalars v) = Here
slot_of own t (Places p) = At p
slot_of own t (Wholes u) = Here
slot_of own t (Opens p high) = Spread (lent t own p) high
slot_of own t (Texts cs) = Spread own (length cs - 1)

-- its variables from a number on, the first by what was given for them
abbrev pub slots_by : (a x : ℕ) → List Datum → List Shape → List Slot
slots_by a x [] ts = map own_slot ts
slots_by a x (d ∷ done) [] = []
slots_by a x (d ∷ done) (t ∷ ts) = slot_of (record { root = Local a x; path = [] }) t d ∷ slots_by a (suc x) done ts

-- the activation of a procedure of a module that the one at hand calls
abbrev pub called_by : List Activation → (owner here : ℕ) → Callee → List Datum → Procedure → Activation
called_by acts owner here c done its = record { owner = owner; procedure = callee_number c; outer = declaring acts here (callee_levels c); slots = slots_by (length acts) 0 done its.locals }

-- a procedure begins: its activation, whose other variables are zero, its statements and its end
abbrev pub entered : Option Procedure → (Procedure → Activation) → List Datum → List Item → Source → Source
entered None a done k s = s
entered (Some its) a done k s = record s {
  activations = s.activations ++ a its ∷ [];
  cells = with_locals s.cells (length s.activations) done its.locals;
  items = doing its.body (Perform (End (length s.activations)) ∷ k);
}

abbrev pub called_in : List Resolved → (owner : ℕ) → Callee → List Datum → List Item → Source → Source
called_in library owner c done k s =
    entered (procedure_by (procedures_of (loaded_at library s.loaded owner)) (callee_number c)) (called_by s.activations owner (current k) c done) done k s

abbrev pub called : List Resolved → Callee → List Datum → List Item → Source → Source
called library c done k s = called_in library (callee_owner (owner_of (slice_get s.activations (current k))) c) c done k s

-- a procedure or a body ends, by its end or by RETURN: what stands behind its end is next
abbrev pub activation_ended : List Item → Source → Source
activation_ended k s = with_items s k

-- the kind of what an activation's procedure returns; a body has none
abbrev pub procedure_result : Option Procedure → Option Kind
procedure_result None = None
procedure_result (Some its) = its.result

abbrev pub result_by : Option Resolved → ℕ → Option Kind
result_by m p = procedure_result (procedure_by (procedures_of m) p)

abbrev pub activation_result : List Resolved → List ℕ → Option Activation → Option Kind
activation_result library loaded None = None
activation_result library loaded (Some a) = result_by (loaded_at library loaded a.owner) a.procedure

-- a function that comes to its end has no value
abbrev pub end_reached : List Resolved → Option Kind → List Item → Source → Source
end_reached library None k s = activation_ended k s
end_reached library (Some kind) k s = trapped library s trap.Function

abbrev pub did : List Resolved → Statement → List Item → Source → Source
did library (Assign d kind e) k s = with_items s (PlaceOf d ∷ Fill (SetTo kind e) ∷ k)
did library (Copy d from) k s = with_items s (PlaceOf d ∷ Fill (CopyTo from) ∷ k)
did library (Text d cs) k s = with_items s (PlaceOf d ∷ Fill (TextTo cs) ∷ k)
did library (New d n) k s = with_items s (PlaceOf d ∷ Fill (NewAt n) ∷ k)
did library (Allocate back d e) k s = with_items s (PlaceOf d ∷ Fill (AllocateBy back e) ∷ k)
did library (Inside d body) k s = with_items s (PlaceOf d ∷ Fill (Hold body) ∷ k)
did library (Request r given) k s = with_items s (Perform (Passing (Requested r) [] given) ∷ k)
did library (If c a b) k s = with_items s (Evaluate c ∷ Fill (Choose a b) ∷ k)
did library (Case e arms) k s = with_items s (Evaluate e ∷ Fill (Pick arms) ∷ k)
did library (While c body) k s = with_items s (Evaluate c ∷ Fill (Turn c body) ∷ k)
did library (Repeat body c) k s = with_items s (doing body (Perform (Until body c) ∷ k))
did library (Loop body) k s = with_items s (doing body (Perform (Looping body) ∷ k))
did library (Change down d kind e) k s = with_items s (PlaceOf d ∷ Fill (ChangeBy down kind e) ∷ k)
did library (Member out d kind e) k s = with_items s (PlaceOf d ∷ Fill (MemberBy out kind e) ∷ k)
did library Halt k s = trapped library s trap.Halted
did library Return k s = activation_ended (returned k) s
did library (Answer kind e) k s = with_items s (Evaluate e ∷ Fill (Returning kind) ∷ k)
did library (Call p n given) k s = with_items s (Perform (Passing (Called (ByNumber p n)) [] given) ∷ k)
did library (CallValue e given) k s = with_items s (Evaluate e ∷ Fill (Calling given) ∷ k)
did library Exit k s = with_items s (exited k)
did library (For x kind a b step body) k s = with_items s (Evaluate a ∷ Fill (StartOf x kind b step body) ∷ k)

-- the characters of an array from an element on, so many
abbrev pub characters_from : Cells → Place → ℕ → ℕ → List ℕ
characters_from cells p i zero = []
characters_from cells p i (suc n) = character_of (got cells (part_of p i)) ∷ characters_from cells p (suc i) n

-- a string as an array: an empty one is one 0C
abbrev pub as_array : List ℕ → List ℕ
as_array [] = 0 ∷ []
as_array (c ∷ cs) = c ∷ cs

-- what a request is given of a datum; no request takes a place or all scalars under one
abbrev pub given_of : Cells → Datum → Given
given_of cells (Scalars v) = Single (scalar_word v)
given_of cells (Opens p high) = Characters (characters_from cells p 0 (suc high))
given_of cells (Texts cs) = Characters (as_array cs)
given_of cells (Places p) = Characters []
given_of cells (Wholes u) = Characters []

-- the next argument
abbrev pub passed : Receiver → List Datum → Arguments → Argument → List Item → Source → Source
passed r done left (ByValue kind e) k s = with_items s (Evaluate e ∷ Fill (Pass r kind done left) ∷ k)
passed r done left (OfPlace d) k s = with_items s (PlaceOf d ∷ Fill (PassPlace r done left) ∷ k)
passed r done left (OfAll d) k s = with_items s (PlaceOf d ∷ Fill (PassAll r done left) ∷ k)
passed r done left (OfArray copied d high) k s = with_items s (PlaceOf d ∷ Fill (PassArray r high done left) ∷ k)
passed r done left (OfText cs) k s = with_items s (Perform (Passing r (done ++ Texts cs ∷ []) left) ∷ k)
passed r done left (OfOpened copied n x) k s = handed_on (array_of s n x) r done left k s
passed r done left (Spelled cs count) k s = with_items s (Perform (Spelling r cs count done left) ∷ k)

-- a request was served; one that answers gets its row with its answers
abbrev pub replied : List Datum → List Given → World → List Item → Source → Source
replied done [] w k s = record s { items = k; world = w }
replied done answers w k s = s

abbrev pub served : List Datum → World × List Given → List Item → Source → Source
served done r k s = replied done r.1 r.0 k s

-- all arguments are there
abbrev pub received : List Resolved → Receiver → List Datum → List Item → Source → Source
received library (Requested r) done k s = served done (serve (level_of s) r (map (given_of s.cells) done) s.world) k s
received library (Called c) done k s = called library c done k s

abbrev pub passed_on : List Resolved → Receiver → List Datum → Arguments → List Item → Source → Source
passed_on library r done NoMore k s = received library r done k s
passed_on library r done (Also a left) k s = passed r done left a k s

-- one character more of a string has come to an array; at its end that is the argument
abbrev pub spelled : Receiver → List ℕ → ℕ → List Datum → Arguments → List Item → Source → Source
spelled r cs zero done left k s = with_items s (Perform (Passing r (done ++ Wholes (text_under cs) ∷ []) left) ∷ k)
spelled r cs (suc todo) done left k s = with_items s (Perform (Spelling r cs todo done left) ∷ k)

abbrev pub performed : List Resolved → Task → List Item → Source → Source
performed library (Do t) k s = did library t k s
performed library (Passing r done left) k s = passed_on library r done left k s
performed library (Spelling r cs todo done left) k s = spelled r cs todo done left k s
performed library (Until body c) k s = with_items s (Evaluate c ∷ Fill (Again body c) ∷ k)
performed library (Looping body) k s = with_items s (doing body (Perform (Looping body) ∷ k))
performed library (Turns x kind z step left body) k s = turned_on library x kind z step left body k s
performed library (Holding p) k s = with_items s k
performed library (End a) k s = end_reached library (activation_result library s.loaded (slice_get s.activations a)) k s

-- a value goes into the next item
abbrev pub given : List Resolved → Datum → Item → List Item → Source → Source
given library d (Fill h) k s = fill library d h k s
given library d _ k s = s

-- ---- the end of a level
-- the last step of a level: level 1 has ended or trapped; else all that is the level's goes, and the level below goes on with the status
abbrev pub over_by : Option TrapAt → Phase
over_by None = Ended
over_by (Some t) = Trapped t

-- the number of a trap; the status that a level leaves is 0 where it ended, else its trap's number
abbrev pub trap_number : TrapKind → ℕ
trap_number trap.Range = 1
trap_number trap.Overflow = 2
trap_number trap.Divisor = 3
trap_number trap.Nil = 4
trap_number trap.NoProcedure = 5
trap_number trap.NoProcess = 6
trap_number trap.Case = 7
trap_number trap.Function = 8
trap_number trap.Halted = 9
trap_number trap.Workspace = 10
trap_number trap.CoroutineEnd = 11

abbrev pub status_number : Option TrapAt → ℕ
status_number None = 0
status_number (Some t) = trap_number t.kind

-- the coroutines of the levels up to one
abbrev pub of_levels : ℕ → List Parked → List Parked
of_levels n [] = []
of_levels n (p ∷ ps) = if nat_le p.level n then p ∷ of_levels n ps else of_levels n ps

abbrev pub over : List Level → Option TrapAt → Source → Source
over [] end s = record s { phase = over_by end }
over (l ∷ ls) end s = record s {
  loaded = take l.loaded s.loaded;
  objects = take l.objects s.objects;
  workspaces = take l.workspaces s.workspaces;
  cells = stored s.cells l.status (alone (Number (pos (status_number end))));
  running = l.running;
  items = l.items;
  parked = of_levels (suc (length ls)) s.parked;
  waiting = ls;
  phase = Going;
}

-- a stream or a channel of the level is closed, or none is left
abbrev pub left_by : Option TrapAt → Option World → Source → Source
left_by end (Some w) s = record s { world = w; phase = Closing end }
left_by end None s = over s.waiting end s

abbrev pub leave : Option TrapAt → Source → Source
leave end s = left_by end (closing (level_of s) s.world) s

-- the row of the first item. Where nothing is left, the level ends
abbrev pub first : List Resolved → List Item → Source → Source
first library [] s = leave None s
first library (Value d ∷ []) s = s
first library (Value d ∷ i ∷ k) s = given library d i k s
first library (Evaluate e ∷ k) s = evaluated e k s
first library (PlaceOf d ∷ k) s = placed d k s
first library (Fill h ∷ k) s = s
first library (Perform t ∷ k) s = performed library t k s

-- after its end a state stays
abbrev pub by_phase : List Resolved → Phase → Source → Source
by_phase library Going s = first library s.items s
by_phase library (Closing end) s = leave end s
by_phase library Ended s = s
by_phase library (Trapped t) s = s

abbrev pub next : List Resolved → Source → Source
next library s = by_phase library s.phase s
