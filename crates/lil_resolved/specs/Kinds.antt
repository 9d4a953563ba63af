-- The sorts of values that scalar variables, parameters and expressions have, the scalars themselves, and the shapes of what lies in variables.
use Rattle.std.specs.Prelude.{◌≡◌, ◌<◌, length, take, drop, ℕ, zero, suc, ◌+◌, ◌*◌, Bool, true, false, List, [], ◌∷◌, Option, Some, None, option_and_then, slice_get, nat_lt, if◌then◌else◌, ◌-◌, ◌==◌, ℤ, pos, not, ◌&&◌, nat_le, negsuc, ◌+ℤ◌, ◌-ℤ◌, int_lt, ◌||◌}
use Rattle.lil_base.specs.{Words.{in_type, between, is_zero, word_of, Whole, Cardinal, Integer}, Sets.{has, set_word}}
use Rattle.lil_resolved.specs.Members.{no_members}
use Rattle.lil_base.specs.Words as type

-- what the values of a kind of references lead to: objects of one type, by the number of the type of the pointers to them, or workspaces
pub data Pointee : Type 0 where
  Objects : (n : ℕ) → Pointee
  Workspaces : Pointee

pub data Kind : Type 0 where
  OfWhole : (t : Whole) → Kind
  OfTruth : Kind
  OfCharacter : Kind
  -- an enumeration with so many constants, whose values are their numbers from 0
  OfEnumeration : (count : ℕ) → Kind
  -- sets of numbers from 0 to 15
  OfSet : Kind
  -- pointers to objects, or the addresses of workspaces
  OfPointer : (to : Pointee) → Kind
  -- procedures, of the procedure type with this number
  OfProcedure : (n : ℕ) → Kind
  -- the part of a kind from one number to another
  OfRange : (base : Kind) (low high : ℤ) → Kind

-- the kind that a part was taken from
abbrev pub base_of : Kind → Kind
base_of (OfWhole t) = OfWhole t
base_of OfTruth = OfTruth
base_of OfCharacter = OfCharacter
base_of (OfEnumeration n) = OfEnumeration n
base_of OfSet = OfSet
base_of (OfPointer to) = OfPointer to
base_of (OfProcedure n) = OfProcedure n
base_of (OfRange base low high) = base_of base

-- kinds that aren't a part of another, whose values are words
abbrev pub is_base : Kind → Bool
is_base (OfWhole t) = true
is_base OfTruth = true
is_base OfCharacter = true
is_base (OfEnumeration n) = nat_le n 65535
is_base OfSet = true
is_base (OfPointer to) = true
is_base (OfProcedure n) = true
is_base (OfRange base low high) = false

-- those whose values are compared by their numbers
abbrev pub is_ordinal : Kind → Bool
is_ordinal OfSet = false
is_ordinal (OfPointer to) = false
is_ordinal (OfProcedure n) = false
is_ordinal k = is_base k

abbrev pub is_set : Kind → Bool
is_set OfSet = true
is_set _ = false

abbrev pub is_pointer : Kind → Bool
is_pointer (OfPointer to) = true
is_pointer _ = false

abbrev pub is_procedure : Kind → Bool
is_procedure (OfProcedure n) = true
is_procedure _ = false

-- those whose values are compared with = and #
abbrev pub is_compared : Kind → Bool
is_compared (OfProcedure n) = false
is_compared k = is_base k

-- a kind whose values are no references
abbrev pub is_plain : Kind → Bool
is_plain k = not (is_pointer (base_of k) || is_procedure (base_of k))

abbrev pub is_whole : Kind → Bool
is_whole (OfWhole t) = true
is_whole _ = false

-- values of the second kind, a base, may become values of the first: both are whole, or one kind
abbrev pub alike : Kind → Kind → Bool
alike (OfWhole s) (OfWhole t) = true
alike OfTruth OfTruth = true
alike OfCharacter OfCharacter = true
alike (OfEnumeration m) (OfEnumeration n) = (m == n) && nat_le n 65535
alike OfSet OfSet = true
alike _ _ = false

-- a value of the second kind may be stored where one of the first is wanted, if its number is there
abbrev pub takes_value : Kind → Kind → Bool
takes_value k j = alike (base_of k) j

abbrev pub same_pointee : Pointee → Pointee → Bool
same_pointee (Objects m) (Objects n) = m == n
same_pointee Workspaces Workspaces = true
same_pointee _ _ = false

abbrev pub same_pointer : Kind → Kind → Bool
same_pointer (OfPointer to) (OfPointer from) = same_pointee to from
same_pointer _ _ = false

abbrev pub same_procedures : Kind → Kind → Bool
same_procedures (OfProcedure m) (OfProcedure n) = m == n
same_procedures _ _ = false

-- a value of the second kind may be stored at a place of the first: a pointer too, where it leads to the same, and a procedure of the same type
abbrev pub stores_value : Kind → Kind → Bool
stores_value k j = takes_value k j || (same_pointer k j || same_procedures k j)

-- ---- numbers
-- the type as which the words of a kind are compared
abbrev pub compared_as : Kind → Whole
compared_as (OfWhole t) = t
compared_as _ = Cardinal

abbrev pub lesser : ℤ → ℤ → ℤ
lesser x y = if int_lt y x then y else x

abbrev pub larger : ℤ → ℤ → ℤ
larger x y = if int_lt x y then y else x

-- the least and the greatest number of a kind's values
abbrev pub least : Kind → ℤ
least (OfWhole t) = type.least t
least OfTruth = pos 0
least OfCharacter = pos 0
least (OfEnumeration n) = pos 0
least OfSet = pos 0
least (OfPointer to) = pos 0
least (OfProcedure n) = pos 0
least (OfRange base low high) = larger low (least base)

abbrev pub greatest : Kind → ℤ
greatest (OfWhole t) = type.greatest t
greatest OfTruth = pos 1
greatest OfCharacter = pos 255
greatest (OfEnumeration n) = pos (n - 1)
greatest OfSet = pos 65535
greatest (OfPointer to) = pos 0
greatest (OfProcedure n) = pos 0
greatest (OfRange base low high) = lesser high (greatest base)

-- each number of the second kind is one of the first
abbrev pub covers : Kind → Kind → Bool
covers k j = not (int_lt (least j) (least k)) && not (int_lt (greatest k) (greatest j))

-- each number of a kind may be in a set
abbrev pub is_element : Kind → Bool
is_element k = not (int_lt (least k) (pos 0)) && not (int_lt (pos 15) (greatest k))

-- Whether a start of FOR that isn't a number of the limit's type has turns: one below CARDINAL by a positive step, one above INTEGER by a
-- negative step.
abbrev pub outside_turns : Whole → ℤ → Bool
outside_turns Cardinal step = int_lt (pos 0) step
outside_turns Integer step = int_lt step (pos 0)

-- the numbers that two kinds share, as their least and their greatest; where they share none, from 1 to 0
abbrev pub shared_from : ℤ → ℤ → ℤ × ℤ
shared_from low high = if int_lt high low then (pos 1, pos 0) else (low, high)

abbrev pub shared : Kind → Kind → ℤ × ℤ
shared k j = shared_from (larger (least k) (least j)) (lesser (greatest k) (greatest j))

-- how many numbers a kind has, and how many of them come before one
abbrev pub nat_of : ℤ → ℕ
nat_of (pos n) = n
nat_of (negsuc n) = 0

abbrev pub numbers : Kind → ℕ
numbers k = nat_of ((greatest k -ℤ least k) +ℤ pos 1)

abbrev pub position : Kind → ℤ → ℕ
position k z = nat_of (z -ℤ least k)

-- ---- scalars: the values of cells and of expressions

-- a whole number, a truth value, a character, a set of numbers up to 15, a reference, or no value
pub data Scalar : Type 0 where
  Number : (z : ℤ) → Scalar
  Truth : (b : Bool) → Scalar
  Character : (c : ℕ) → Scalar
  SetOf : (s : ℕ → Bool) → Scalar
  ToObject : (o : ℕ) → Scalar
  ToWorkspace : (w : ℕ) → Scalar
  -- procedure p of the module with the number m
  ToProcedure : (m p : ℕ) → Scalar
  ToCoroutine : (c : ℕ) → Scalar
  -- the reference that leads nowhere, or no procedure
  Nil : Scalar
  -- no value: one of no kind
  Nothing : Scalar

-- the number of a truth value
abbrev pub truth_number : Bool → ℕ
truth_number false = 0
truth_number true = 1

-- the number of a value of a kind: that of a set is the sum of 2 ^ i of each i in it
abbrev pub ordinal_of : Scalar → ℤ
ordinal_of (Number z) = z
ordinal_of (Truth b) = pos (truth_number b)
ordinal_of (Character c) = pos c
ordinal_of (SetOf s) = pos (set_word s)
ordinal_of _ = pos 0

-- the value with this number, where the kind has one
abbrev pub scalar_of : Kind → ℤ → Scalar
scalar_of (OfWhole t) z = Number z
scalar_of OfTruth z = Truth (not (is_zero z))
scalar_of OfCharacter z = Character (word_of z)
scalar_of (OfEnumeration n) z = Number z
scalar_of OfSet z = SetOf (has (word_of z))
scalar_of (OfPointer to) z = Nil
scalar_of (OfProcedure n) z = Nil
scalar_of (OfRange base low high) z = scalar_of base z

-- a reference leads to an object, or a workspace, as is wanted
abbrev pub to_object : Pointee → Bool
to_object (Objects n) = true
to_object Workspaces = false

-- the value is one of the kind
abbrev pub within : Kind → Scalar → Bool
within (OfWhole t) (Number z) = in_type t z
within OfTruth (Truth b) = true
within OfCharacter (Character c) = nat_le c 255
within (OfEnumeration n) (Number z) = between (pos 0) z (pos (n - 1))
within OfSet (SetOf s) = true
within (OfPointer to) (ToObject o) = to_object to
within (OfPointer to) (ToWorkspace w) = not (to_object to)
within (OfPointer to) Nil = true
within (OfProcedure n) (ToProcedure m p) = true
within (OfProcedure n) Nil = true
within (OfRange base low high) v = within base v && between low (ordinal_of v) high
within _ _ = false

-- the value of a kind that has this number, if the kind has one
abbrev pub value_with : Kind → ℤ → Option Scalar
value_with (OfWhole t) z = if in_type t z then Some (Number z) else None
value_with OfTruth z = if between (pos 0) z (pos 1) then Some (Truth (not (is_zero z))) else None
value_with OfCharacter z = if between (pos 0) z (pos 255) then Some (Character (word_of z)) else None
value_with (OfEnumeration n) z = if between (pos 0) z (pos (n - 1)) then Some (Number z) else None
value_with OfSet z = if between (pos 0) z (pos 65535) then Some (SetOf (has (word_of z))) else None
value_with (OfPointer to) z = if between (pos 0) z (pos 0) then Some Nil else None
value_with (OfProcedure n) z = if between (pos 0) z (pos 0) then Some Nil else None
value_with (OfRange base low high) z = if between low z high then value_with base z else None

-- zero of a kind: what a fresh variable holds, also where its range leaves it out
abbrev pub zero_of : Kind → Scalar
zero_of (OfWhole t) = Number (pos 0)
zero_of OfTruth = Truth false
zero_of OfCharacter = Character 0
zero_of (OfEnumeration n) = Number (pos 0)
zero_of OfSet = SetOf no_members
zero_of (OfPointer to) = Nil
zero_of (OfProcedure n) = Nil
zero_of (OfRange base low high) = zero_of base

abbrev pub is_reference : Scalar → Bool
is_reference (ToObject o) = true
is_reference (ToWorkspace w) = true
is_reference (ToProcedure m p) = true
is_reference _ = false

-- a value of a kind that a text can name: NIL is the only reference
abbrev pub is_literal : Kind → Scalar → Bool
is_literal k v = within k v && not (is_reference v)

-- two references to one object or workspace, or two times NIL
abbrev pub same_reference : Scalar → Scalar → Bool
same_reference (ToObject m) (ToObject n) = m == n
same_reference (ToWorkspace m) (ToWorkspace n) = m == n
same_reference Nil Nil = true
same_reference _ _ = false

-- whether a truth value is TRUE
abbrev pub truth_of : Scalar → Bool
truth_of (Truth b) = b
truth_of _ = false

-- the numbers that are in a set
abbrev pub members_of : Scalar → ℕ → Bool
members_of (SetOf s) = s
members_of _ = no_members

-- the word of a procedure of a module
abbrev pub procedure_word : (m p : ℕ) → ℕ
procedure_word m p = 256 * m + p

-- the word that a value is that isn't a reference; that of NIL is 0
abbrev pub scalar_word : Scalar → ℕ
scalar_word (Number z) = word_of z
scalar_word (Truth b) = truth_number b
scalar_word (Character c) = c
scalar_word (SetOf s) = set_word s
scalar_word _ = 0

-- ---- shapes: which scalars lie in a variable or an object, by their paths, and how many words they take

-- No cell, a scalar of a kind, no field, a field before others, so many elements, the address of a place of a shape, which a VAR parameter
-- holds, or the address of the first of elements and the number of the last one, which an open array holds. One by value is copied where its
-- procedure is entered. What holds an address has no cells.
pub data Shape : Type 0 where
  Absent : Shape
  Word : (k : Kind) → Shape
  Blank : Shape
  Join : (first rest : Shape) → Shape
  Row : (count : ℕ) (element : Shape) → Shape
  Address : (to : Shape) → Shape
  Opened : (copied : Bool) (element : Shape) → Shape

abbrev pub words : Shape → ℕ
words Absent = 0
words (Word k) = 1
words Blank = 0
words (Join a b) = words a + words b
words (Row n t) = n * words t
words (Address t) = 1
words (Opened copied t) = 2

-- whether something with cells lies there
abbrev pub is_there : Shape → Bool
is_there Absent = false
is_there (Word k) = true
is_there Blank = true
is_there (Join a b) = true
is_there (Row n t) = true
is_there (Address t) = false
is_there (Opened copied t) = false

-- what lies at the end of a path; a field's number counts the fields before it
abbrev pub part_at : Shape → List ℕ → Shape
part_at t [] = t
part_at (Join a b) (zero ∷ p) = part_at a p
part_at (Join a b) (suc x ∷ p) = part_at b (x ∷ p)
part_at (Row n t) (x ∷ p) = if nat_lt x n then part_at t p else Absent
part_at _ (x ∷ p) = Absent

-- the words before it
abbrev pub offset : Shape → List ℕ → ℕ
offset t [] = 0
offset (Join a b) (zero ∷ p) = offset a p
offset (Join a b) (suc x ∷ p) = words a + offset b (x ∷ p)
offset (Row n t) (x ∷ p) = x * words t + offset t p
offset _ (x ∷ p) = 0

-- the words of variables one behind another
abbrev pub all_words : List Shape → ℕ
all_words [] = 0
all_words (t ∷ ts) = words t + all_words ts

-- where each of them begins, from a place on
abbrev pub offsets_from : ℕ → List Shape → List ℕ
offsets_from n [] = []
offsets_from n (t ∷ ts) = n ∷ offsets_from (n + words t) ts

-- a shape by its number
abbrev pub shape_by : Option Shape → Shape
shape_by None = Absent
shape_by (Some t) = t

abbrev pub shape_at : List Shape → ℕ → Shape
shape_at ts n = shape_by (slice_get ts n)

-- fields one behind another
abbrev pub fields_of : List Shape → Shape
fields_of [] = Blank
fields_of (t ∷ ts) = Join t (fields_of ts)

-- what each element is, and how many there are
abbrev pub element_of : Shape → Shape
element_of (Row n t) = t
element_of _ = Absent

abbrev pub count_of : Shape → ℕ
count_of (Row n t) = n
count_of _ = 0

-- what lies at the place to which an address leads
abbrev pub led_to : Shape → Shape
led_to (Address t) = t
led_to _ = Absent

-- what each element of an open array is
abbrev pub along : Shape → Shape
along (Opened copied t) = t
along _ = Absent

-- what names elsewhere need of a procedure: those around it by their numbers, the innermost first, the shapes of its variables, its parameters
-- first, how many of them are parameters, and the kind of what it returns
pub record Outline : Type 0 where
  pub around : List ℕ
  pub locals : List Shape
  pub parameters : ℕ
  pub result : Option Kind

-- what procedures of a procedure type have: the shapes of their parameters, and the kind of what they return
pub record Signature : Type 0 where
  pub parameters : List Shape
  pub result : Option Kind

-- What the names of statements reach: what pointers point to, and what procedures of procedure types have, by the numbers of these types, the
-- module's variables, and the records of the WITHs around, the innermost first; the procedures of the module, from number 1; and the procedure at
-- hand with those around it by their numbers, the innermost first, of which the body of the module has none.
pub record Scope : Type 0 where
  pub targets : List Shape
  pub signatures : List Signature
  pub variables : List Shape
  pub held : List Shape
  pub procedures : List Outline
  pub chain : List ℕ

abbrev pub outermost : (targets : List Shape) (signatures : List Signature) (variables : List Shape) (procedures : List Outline) (chain : List ℕ) → Scope
outermost targets signatures variables procedures chain = record { targets = targets; signatures = signatures; variables = variables; held = []; procedures = procedures; chain = chain }

-- inside of a WITH too
abbrev pub with_held : Scope → Shape → Scope
with_held ts t = record ts { held = t ∷ ts.held }

-- ---- calls
-- what is known of a procedure by its number, from 1
abbrev pub procedure_by : {A : Type 0} → List A → ℕ → Option A
procedure_by xs zero = None
procedure_by xs (suc n) = slice_get xs n

-- the procedures around one that is declared so many levels out of that at hand; those of the module are 0 levels out
abbrev pub Declared : List ℕ → ℕ → List ℕ → Type 0
Declared chain zero around = around ≡ []
Declared chain (suc n) around = (n < length chain) × (around ≡ drop n chain)

-- a procedure may be called by its number, where it is declared so many levels out
pub record MayCall (ts : Scope) (p n : ℕ) : Type 0 where
  pub its : Outline
  pub known : procedure_by ts.procedures p ≡ Some its
  pub declared : Declared ts.chain n its.around

-- ---- procedure types
abbrev pub outline_signature : Outline → Signature
outline_signature p = record { parameters = take p.parameters p.locals; result = p.result }

-- a procedure of the module, by its number, may be a value of the procedure type with this number: it is declared in no other, and has what that asks
pub record MayHold (ts : Scope) (p n : ℕ) : Type 0 where
  pub its : Outline
  pub known : procedure_by ts.procedures p ≡ Some its
  pub declared : its.around ≡ []
  pub same : slice_get ts.signatures n ≡ Some (outline_signature its)

-- ---- parameters and variables of procedures
abbrev pub parameters_of : Option Outline → List Shape
parameters_of None = []
parameters_of (Some p) = take p.parameters p.locals

abbrev pub result_of : Option Outline → Option Kind
result_of None = None
result_of (Some p) = p.result

abbrev pub locals_of : Option Outline → List Shape
locals_of None = []
locals_of (Some p) = p.locals

-- the shapes of those of the procedure so many levels out of that at hand
abbrev pub locals_at : Scope → ℕ → List Shape
locals_at ts n = locals_of (option_and_then (procedure_by ts.procedures) (slice_get ts.chain n))

-- and those of its parameters
abbrev pub parameters_at : Scope → ℕ → List Shape
parameters_at ts n = parameters_of (option_and_then (procedure_by ts.procedures) (slice_get ts.chain n))

-- the kind of what the procedure at hand returns
abbrev pub result_here : Scope → Option Kind
result_here ts = result_of (option_and_then (procedure_by ts.procedures) (slice_get ts.chain 0))
