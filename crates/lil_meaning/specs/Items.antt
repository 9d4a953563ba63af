-- Cells, which hold the scalars of variables, and the items that are left to do.
use Rattle.std.specs.Prelude.{ℕ, zero, suc, ◌+◌, ◌==◌, Bool, false, ◌&&◌, List, [], ◌∷◌, ◌++◌, Option, Some, None, true, get_or, slice_get, option_and_then, if◌then◌else◌, ℤ}
use Rattle.lil_resolved.specs.{Kinds.{Scalar, Character, Nothing, zero_of, Shape, Absent, Word, Opened, words, part_at, shape_at, Kind}, Resolved.{Resolved, Named, Designator, Function, Expression, Arguments, Statement, Statements, Empty, Then, Arms}}
use Rattle.lil_base.specs.declared.{fault.TrapAt.TrapAt, operator.{OneOp.OneOp, TwoOp.TwoOp}, request.Request.Request}
use Rattle.lil_meaning.specs.World.{World}

-- ---- cells: what each variable and object holds, by its root and the fields and positions from there

-- a variable of a module that is loaded, a variable of an activation, or an object
pub data Root : Type 0 where
  Global : (m x : ℕ) → Root
  Local : (a x : ℕ) → Root
  Object : (o : ℕ) → Root

pub record Place : Type 0 where
  pub root : Root
  pub path : List ℕ

-- a field of a place, or an element of it, by its number from 0
abbrev pub part_of : Place → ℕ → Place
part_of p x = record { root = p.root; path = p.path ++ x ∷ [] }

abbrev pub Cells : Type 0
Cells = Root → List ℕ → Scalar

-- all scalars under a place, by the rest of their paths
abbrev pub Under : Type 0
Under = List ℕ → Scalar

abbrev pub same_root : Root → Root → Bool
same_root (Global m x) (Global n y) = (m == n) && (x == y)
same_root (Local a x) (Local b y) = (a == b) && (x == y)
same_root (Object m) (Object n) = m == n
same_root _ _ = false

-- what is left of a path behind another
abbrev pub rest_behind : List ℕ → List ℕ → Option (List ℕ)
rest_behind [] q = Some q
rest_behind (x ∷ p) [] = None
rest_behind (x ∷ p) (y ∷ q) = if x == y then rest_behind p q else None

abbrev pub at_rest : Under → Scalar → Option (List ℕ) → Scalar
at_rest u old None = old
at_rest u old (Some rest) = u rest

-- all scalars under a place become new ones
abbrev pub stored : Cells → Place → Under → Cells
stored cells p u r q = if same_root p.root r then at_rest u (cells r q) (rest_behind p.path q) else cells r q

-- the scalar at a place
abbrev pub got : Cells → Place → Scalar
got cells p = cells p.root p.path

-- one scalar as all that is under its place
abbrev pub alone : Scalar → Under
alone v q = v

-- all scalars under a place
abbrev pub under : Cells → Place → Under
under cells p q = cells p.root (p.path ++ q)

-- the characters of a string as the elements of an array, with 0C behind them
abbrev pub text_under : List ℕ → Under
text_under cs (i ∷ []) = Character (get_or cs i 0)
text_under cs _ = Nothing

-- zero of its kind in each scalar of a shape
abbrev pub zero_in : Shape → Scalar
zero_in (Word k) = zero_of k
zero_in _ = Nothing

-- the same under a place
abbrev pub zeros_under : Shape → Under
zeros_under t q = zero_in (part_at t q)

-- an object, as a place
abbrev pub object_place : ℕ → Place
object_place o = record { root = Object o; path = [] }

-- the words that objects take: their own, and two more each
abbrev pub object_words : List Shape → ℕ
object_words [] = 0
object_words (t ∷ ts) = 2 + words t + object_words ts

-- the module that is loaded with this number, from 1, by its number in the library
abbrev pub loaded_at : List Resolved → List ℕ → ℕ → Option Resolved
loaded_at library loaded zero = None
loaded_at library loaded (suc n) = option_and_then (slice_get library) (slice_get loaded n)

abbrev pub variables_of : Option Resolved → List Shape
variables_of None = []
variables_of (Some m) = m.variables

-- what its pointers point to
abbrev pub targets_of : Option Resolved → List Shape
targets_of None = []
targets_of (Some m) = m.targets

-- the shapes of the roots that live where the first level begins: the variables of its modules
abbrev pub first_shape : List Resolved → List ℕ → Root → Shape
first_shape library loaded (Global m x) = shape_at (variables_of (loaded_at library loaded m)) x
first_shape library loaded (Local a x) = Absent
first_shape library loaded (Object o) = Absent

-- fresh cells: zero of its kind in each scalar
abbrev pub fresh_cells : List Resolved → List ℕ → Cells
fresh_cells library loaded r q = zero_in (part_at (first_shape library loaded r) q)

-- what stands in a hole or is an argument: a scalar, a place, all scalars under a place, the place of an open array with the number of its
-- last element, or a string
pub data Datum : Type 0 where
  Scalars : (v : Scalar) → Datum
  Places : (p : Place) → Datum
  Wholes : (u : Under) → Datum
  Opens : (p : Place) (high : ℕ) → Datum
  Texts : (cs : List ℕ) → Datum

-- a parameter that is an open array by value has cells of its own: the copy
abbrev pub copy_in : Shape → Under → Under
copy_in (Opened true t) u = u
copy_in t u = zeros_under t

-- what lies in a variable of a new activation: the value that was given for it, or a copy, else zero of its kind in each scalar
abbrev pub begun : Cells → Option Datum → Shape → Under
begun cells None t = zeros_under t
begun cells (Some (Scalars v)) t = alone v
begun cells (Some (Places p)) t = zeros_under t
begun cells (Some (Wholes u)) t = u
begun cells (Some (Opens p high)) t = copy_in t (under cells p)
begun cells (Some (Texts cs)) t = copy_in t (text_under cs)

-- the cells of the variables of a new activation, by its number, with what was given for the first of them
abbrev pub with_locals : Cells → ℕ → List Datum → List Shape → Cells
with_locals cells a done ts (Local b x) q = if b == a then begun cells (slice_get done x) (shape_at ts x) q else cells (Local b x) q
with_locals cells a done ts (Global m x) q = cells (Global m x) q
with_locals cells a done ts (Object o) q = cells (Object o) q

-- what is called: a procedure of the module at hand, by its number, which is declared so many levels out, or one that is a value, by the numbers of
-- its module and its own
pub data Callee : Type 0 where
  ByNumber : (p n : ℕ) → Callee
  OfValue : (m p : ℕ) → Callee

abbrev pub callee_number : Callee → ℕ
callee_number (ByNumber p n) = p
callee_number (OfValue m p) = p

-- no procedure is around one that is a value
abbrev pub callee_levels : Callee → ℕ
callee_levels (ByNumber p n) = n
callee_levels (OfValue m p) = 0

-- its module, where this one is at hand
abbrev pub callee_owner : (here : ℕ) → Callee → ℕ
callee_owner here (ByNumber p n) = here
callee_owner here (OfValue m p) = m

-- what takes arguments: a resident procedure, by its request, or what is called
pub data Receiver : Type 0 where
  Requested : (r : Request) → Receiver
  Called : (c : Callee) → Receiver

-- the items with a hole
pub data Hole : Type 0 where
  -- the scalar at ·
  Get : Hole
  -- a field of the place ·
  Part : (i : ℕ) → Hole
  -- the element of the place · by an index of a kind
  IndexBy : (k : Kind) (e : Expression) → Hole
  -- the element of the place by the index ·
  IndexAt : (p : Place) (k : Kind) → Hole
  -- the element of an open array by the index ·; this one is its last
  AlongAt : (p : Place) (high : ℕ) → Hole
  -- the object that the pointer at the place · points to
  Pointed : Hole
  -- e goes to the place ·, of this kind
  SetTo : (k : Kind) (e : Expression) → Hole
  -- · goes to the place
  StoreAt : (p : Place) (k : Kind) → Hole
  -- what lies at another place goes to the place ·
  CopyTo : (from : Designator) → Hole
  -- all that lies at the place · goes to the place
  CopyFrom : (p : Place) → Hole
  -- a string goes to the array ·
  TextTo : (cs : List ℕ) → Hole
  -- a new object for the pointer at the place ·, of the type with this number
  NewAt : (n : ℕ) → Hole
  -- a workspace of e words for the address at the place ·, or it is given back
  AllocateBy : (back : Bool) (e : Expression) → Hole
  -- a workspace of · words for the address at the place, or it is given back
  AllocateAt : (back : Bool) (p : Place) → Hole
  -- the number of the place ·, of this kind, grows or falls by e
  ChangeBy : (down : Bool) (k : Kind) (e : Expression) → Hole
  -- the number at the place grows or falls by ·
  ChangeAt : (down : Bool) (p : Place) (k : Kind) → Hole
  -- op ·
  OneOf : (o : OneOp) (k : Kind) → Hole
  -- · op f
  LeftOf : (o : TwoOp) (k : Kind) (f : Expression) → Hole
  -- v op ·
  RightOf : (o : TwoOp) (k : Kind) (v : Scalar) → Hole
  -- · AND f, · OR f
  ShortOf : (decides : Bool) (f : Expression) → Hole
  -- a standard function of ·
  ApplyTo : (f : Function) → Hole
  -- to the set ·, a number of a kind is added
  WithMember : (k : Kind) (a : Expression) → Hole
  -- to the set, the number ·
  MemberOf : (s : Scalar) (k : Kind) → Hole
  -- to the set ·, the numbers of a kind from a to b
  WithMembers : (k : Kind) (a b : Expression) → Hole
  -- to the set, those from · to b
  MembersFrom : (s : Scalar) (k : Kind) (b : Expression) → Hole
  -- to the set, those from u to ·
  MembersTo : (s : Scalar) (k : Kind) (u : Scalar) → Hole
  -- the number e of a kind joins or leaves the set at the place ·
  MemberBy : (out : Bool) (k : Kind) (e : Expression) → Hole
  -- the number · joins or leaves the set at the place
  MemberAt : (out : Bool) (p : Place) (k : Kind) → Hole
  -- · is the next argument
  Pass : (r : Receiver) (k : Kind) (done : List Datum) (left : Arguments) → Hole
  -- the place · is the next argument
  PassPlace : (r : Receiver) (done : List Datum) (left : Arguments) → Hole
  -- all that lies at the place · is the next argument
  PassAll : (r : Receiver) (done : List Datum) (left : Arguments) → Hole
  -- the array ·, with this last element, is the next argument
  PassArray : (r : Receiver) (high : ℕ) (done : List Datum) (left : Arguments) → Hole
  -- the procedure that is the value · is called
  Calling : (given : Arguments) → Hole
  -- RETURN · of a function, whose values are of a kind
  Returning : (k : Kind) → Hole
  -- the first statements where · is TRUE, else the second
  Choose : (a b : Statements) → Hole
  -- the body and the whole WHILE again where · is TRUE
  Turn : (c : Expression) (body : Statements) → Hole
  -- the whole REPEAT again where · is FALSE
  Again : (body : Statements) (c : Expression) → Hole
  -- the arm with the label ·
  Pick : (arms : Arms) → Hole
  -- WITH · DO body END
  Hold : (body : Statements) → Hole
  -- FOR x := · TO b BY step DO body END
  StartOf : (x : Named) (k : Kind) (b : Expression) (step : ℤ) (body : Statements) → Hole
  -- FOR x := v TO · BY step DO body END
  LimitOf : (x : Named) (k : Kind) (v : Scalar) (step : ℤ) (body : Statements) → Hole

-- the items without one
pub data Task : Type 0 where
  Do : (s : Statement) → Task
  -- the arguments that are done, and those that are left
  Passing : (r : Receiver) (done : List Datum) (left : Arguments) → Task
  -- so many characters of a string, and 0C behind it, are left to come to the array by value that is the next argument
  Spelling : (r : Receiver) (cs : List ℕ) (todo : ℕ) (done : List Datum) (left : Arguments) → Task
  -- the condition of a REPEAT, behind its body
  Until : (body : Statements) (c : Expression) → Task
  -- the end of a LOOP's body, which begins again
  Looping : (body : Statements) → Task
  -- so many turns of a FOR, the next one with this value
  Turns : (x : Named) (k : Kind) (z step : ℤ) (left : ℕ) (body : Statements) → Task
  -- the end of a WITH's statements, which holds its record's place
  Holding : (p : Place) → Task
  -- closes the items of an activation
  End : (a : ℕ) → Task

pub data Item : Type 0 where
  Value : (d : Datum) → Item
  Evaluate : (e : Expression) → Item
  PlaceOf : (d : Designator) → Item
  Fill : (h : Hole) → Item
  Perform : (t : Task) → Item

-- statements, and what is left behind them
abbrev pub doing : Statements → List Item → List Item
doing Empty k = k
doing (Then s ss) k = Perform (Do s) ∷ doing ss k

-- what a parameter or variable of an activation is: one of its own cells, or the place that was handed in, with the number of its last
-- element where it is an open array
pub data Slot : Type 0 where
  Here : Slot
  At : (p : Place) → Slot
  Along : (p : Place) (high : ℕ) → Slot

-- a running procedure: its module's number, its own number, the activation that surrounds it, and its slots in order
pub record Activation : Type 0 where
  pub owner : ℕ
  pub procedure : ℕ
  pub outer : Option ℕ
  pub slots : List Slot

-- a workspace's words, and the words that NEWPROCESS gave to the coroutine that it carries
pub record Workspace : Type 0 where
  pub size : ℕ
  pub carries : Option ℕ

-- the words that workspaces take: their own, and two more each
abbrev pub workspace_words : List Workspace → ℕ
workspace_words [] = 0
workspace_words (w ∷ ws) = 2 + w.size + workspace_words ws

-- the words that objects and workspaces take
abbrev pub heap_words : List Shape → List Workspace → ℕ
heap_words ts ws = object_words ts + workspace_words ws

-- a coroutine that doesn't run
pub record Parked : Type 0 where
  pub number : ℕ
  pub level : ℕ
  pub items : List Item

-- A level that waits for the end of the next one: the coroutine that called it, with what that has left to do, the place that takes the
-- status, and how many modules, objects and workspaces there were.
pub record Level : Type 0 where
  pub running : ℕ
  pub items : List Item
  pub status : Place
  pub loaded : ℕ
  pub objects : ℕ
  pub workspaces : ℕ

pub data Phase : Type 0 where
  Going : Phase
  -- the running level has ended, or has trapped, and is to be closed
  Closing : (by : Option TrapAt) → Phase
  Ended : Phase
  Trapped : (t : TrapAt) → Phase

pub record Source : Type 0 where
  -- the modules that are loaded, by their numbers in the library; the k-th of them has number k
  pub loaded : List ℕ
  pub cells : Cells
  -- by their numbers
  pub activations : List Activation
  -- the shapes of the objects, by their numbers
  pub objects : List Shape
  pub workspaces : List Workspace
  -- the running coroutine: its number and its items
  pub running : ℕ
  pub items : List Item
  pub parked : List Parked
  -- the levels below the running one, the highest first
  pub waiting : List Level
  pub world : World
  pub phase : Phase
