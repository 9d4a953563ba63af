-- The translation table: which bytes from one place to another are a translation of a part. It has one row for each construct. The place
-- in a jump and how many entries a table has are written as they are, or in code that is too long for that cut to 16 bits.
use Rattle.std.specs.Prelude.{◌≡◌, ℕ, zero, suc, ◌+◌, ◌-◌, ◌*◌, ◌%◌, ◌<◌, ◌≤◌, min, max, ℤ, Bool, true, false, List, [], ◌∷◌, ◌++◌, length, take, get_or, Option, Some, None, slice_get, cond}
use Rattle.lil_base.specs.{Words.{Whole, Cardinal, Integer, word_of}, declared.operator.{OneOp.OneOp, TwoOp.{TwoOp, TheVariants.{Equal, Unequal, Less, AtMost, Greater, AtLeast, In, Plus, Minus, Times, Slash, Div, Mod}}}, Requests.request_number}
use Rattle.lil_base.specs.declared.operator.OneOp.TheVariants as one
use Rattle.lil_base.specs.declared.request.Request as request
use Rattle.lil_resolved.specs.Kinds.{Objects, Workspaces, Kind, OfWhole, OfTruth, OfCharacter, OfSet, OfPointer, OfProcedure, base_of, is_ordinal, is_set, is_plain, is_element, takes_value, stores_value, compared_as, covers, shared, outside_turns, least, numbers, Scalar, is_literal, scalar_word, procedure_word, Shape, Absent, Word, Blank, Join, Row, Address, Opened, Scope, with_held, MayCall, MayHold, parameters_of, result_of, result_here, parameters_at, locals_at, words, is_there, part_at, offset, all_words, offsets_from, shape_at, element_of, procedure_by}
use Rattle.lil_resolved.specs.Resolved.{Named, OfModule, OfLevel, variable_at, Designator, Variable, Handed, Along, Held, Field, Element, Follow, Function, Abs, Cap, Chr, Odd, Ord, Val, Expression, Constant, Taken, One, Two, Short, Apply, With, WithSpan, Invoke, High, Routine, InvokeValue, Argument, ByValue, OfPlace, OfAll, OfArray, OfText, OfOpened, Spelled, Arguments, NoMore, Also, Label, Statement, Assign, Copy, Text, Change, Member, New, Allocate, Request, If, Case, While, Repeat, Loop, Exit, Halt, Return, Answer, Call, CallValue, For, Inside, Statements, Empty, Then, Arms, NoElse, Else, Arm, Procedure, Resolved, scope_in, kind_of, right_kind, counted_as, shape_of}
use Rattle.lil_resolved.specs.{Sizes.{place_depth, depth, frame_words, argument_words}, Sound.{AreServed, takes_one, takes_two, takes_function, IsScalar, IsSoundLabel, IsStep, is_text, request_parameters, parameters_given}}
use Rattle.lil_asm.specs.declared.instr.Instr.{Instr}
use Rattle.lil_asm.specs.declared.instr.Instr.TheVariants.{Liw, Dup, Drp, Llw, Slw, Lgw, Sgw, Lnw, Snw, Lal, Lan, Lag, Ldi, Sti, Ldf, Adf, Mov, Mvz, Nlt, Ixc, Ixo, Swp, Rgc, Rgi, Cap, Adc, Sbc, Mlc, Dvc, Mdc, Adi, Sbi, Mli, Dvi, Mdi, Ngi, Abi, Uni, Dif, Its, Sym, Sin, Spn, Icl, Ecl, Sle, Not, Equ, Neq, Lsc, Lec, Lsi, Lei, Sav, Rst, Mrk, Mrf, Psh, Psm, Cll, Clf, Ent, Cpy, Rtn, Jmp, Jpf, Jan, Jor, Cas, Fri, Frn, Trp, Alc, Svc}
use Rattle.lil_asm.specs.{Bytes.{word_at, decoded}, Requests.request_words, Stretches.stretch}

-- Where the variables of a module lie in its data frame, by their numbers; the shapes that names reach, and the words of the frame that
-- have the addresses of the records of the WITHs around, the innermost first; how many words the variables take, and the words of the
-- strings behind them; the words of the frame; how a place in a jump and a number of entries are written; and the numbers under which modules
-- are loaded, by the numbers of imports, of which 0 is the module itself.
pub record Layout : Type 0 where
  pub offsets : List ℕ
  pub scope : Scope
  pub held : List ℕ
  pub words : ℕ
  pub strings : List ℕ
  pub frame : ℕ
  pub target : ℕ → ℕ
  pub numbers : ℕ → ℕ

-- a number as it is, and cut to 16 bits
abbrev pub exactly : ℕ → ℕ
exactly q = q

abbrev pub cut : ℕ → ℕ
cut q = q % 65536

-- the number of a module that is loaded alone
abbrev pub lone_number : ℕ
lone_number = 1

abbrev pub alone : ℕ → ℕ
alone n = lone_number

abbrev pub layout_by : (target numbers : ℕ → ℕ) → List ℕ → Resolved → Layout
layout_by target numbers strings m = record {
  offsets = offsets_from 0 m.variables;
  scope = scope_in m [];
  held = [];
  words = all_words m.variables;
  strings = strings;
  frame = frame_words [] m.body;
  target = target;
  numbers = numbers;
}

abbrev pub layout_of : (ℕ → ℕ) → List ℕ → Resolved → Layout
layout_of numbers strings m = layout_by exactly numbers strings m

-- in a procedure of the module, by its number
abbrev pub in_procedure : Layout → ℕ → Procedure → Layout
in_procedure l p its = record l { scope = record l.scope { chain = p ∷ its.around }; frame = frame_words its.locals its.body }

-- inside of a WITH too, whose record has this shape, and its address this word of the frame
abbrev pub holding : Layout → Shape → ℕ → Layout
holding l t n = record l { scope = with_held l.scope t; held = n ∷ l.held }

-- A word of a frame, as an instruction says it. A frame of more than 65,535 words is never entered, so what lies further is never reached.
abbrev pub framed : ℕ → ℕ
framed n = min 65535 n

-- the bytes of the instruction stand from place p to place q
abbrev pub IsAt : List ℕ → ℕ → Instr → ℕ → Type 0
IsAt code p i q = decoded code p ≡ Some (i, q)

-- what stands from one place to another
abbrev pub Span : Type 1
Span = ℕ → ℕ → Type 0

-- instructions one behind another
abbrev pub InstrsAt : List ℕ → List Instr → Span
InstrsAt code [] p q = p ≡ q
InstrsAt code (i ∷ is) p q = (r : ℕ) × IsAt code p i r × InstrsAt code is r q

abbrev pub less_code : Whole → Instr
less_code Cardinal = Lsc
less_code Integer = Lsi

abbrev pub at_most_code : Whole → Instr
at_most_code Cardinal = Lec
at_most_code Integer = Lei

-- the instructions of an operator on a value of a kind that it takes
abbrev pub one_code : OneOp → Kind → List Instr
one_code one.Plus k = []
one_code one.Minus k = Ngi ∷ []
one_code one.Not k = Not ∷ []

-- the instruction of an operation on two whole numbers of a type
abbrev pub whole_code : TwoOp → Whole → List Instr
whole_code Plus Cardinal = Adc ∷ []
whole_code Plus Integer = Adi ∷ []
whole_code Minus Cardinal = Sbc ∷ []
whole_code Minus Integer = Sbi ∷ []
whole_code Times Cardinal = Mlc ∷ []
whole_code Times Integer = Mli ∷ []
whole_code Div Cardinal = Dvc ∷ []
whole_code Div Integer = Dvi ∷ []
whole_code Mod Cardinal = Mdc ∷ []
whole_code Mod Integer = Mdi ∷ []
whole_code _ t = []

-- the instructions of an operator on two values with numbers
abbrev pub number_code : TwoOp → Whole → List Instr
number_code Equal t = Equ ∷ []
number_code Unequal t = Neq ∷ []
number_code Less t = less_code t ∷ []
number_code AtMost t = at_most_code t ∷ []
number_code Greater t = Swp ∷ less_code t ∷ []
number_code AtLeast t = Swp ∷ at_most_code t ∷ []
number_code o t = whole_code o t

-- those of an operator on two sets
abbrev pub set_code : TwoOp → List Instr
set_code Equal = Equ ∷ []
set_code Unequal = Neq ∷ []
set_code AtMost = Sle ∷ []
set_code AtLeast = Swp ∷ Sle ∷ []
set_code Plus = Uni ∷ []
set_code Minus = Dif ∷ []
set_code Times = Its ∷ []
set_code Slash = Sym ∷ []
set_code _ = []

-- those of an operator on two values of a kind that it takes, and of IN on one and a set
abbrev pub two_code : TwoOp → Kind → List Instr
two_code In k = Sin ∷ []
two_code o k = cond (is_set k) (set_code o) (number_code o (compared_as k))

-- the instruction that tests a number between two others
abbrev pub range_code : Whole → ℤ × ℤ → Instr
range_code Cardinal r = Rgc (word_of r.0) (word_of r.1)
range_code Integer r = Rgi (word_of r.0) (word_of r.1)

-- the test that the number of a value of the second kind is one of the first, where it isn't always
abbrev pub test_code : Kind → Kind → List Instr
test_code k j = cond (covers k j) [] (range_code (compared_as j) (shared k j) ∷ [])

-- The instructions of a standard function of a value of a kind that it takes. Also an INTEGER is odd where its word is.
abbrev pub function_code : Function → Kind → List Instr
function_code (Abs Cardinal) k = []
function_code (Abs Integer) k = Abi ∷ []
function_code Cap k = Cap ∷ []
function_code Chr k = test_code OfCharacter k
function_code Odd k = Liw 2 ∷ Mdc ∷ []
function_code Ord k = test_code (OfWhole Cardinal) k
function_code (Val j) k = test_code j k

-- ---- places
-- how code has a place: at an offset in the data of the module at hand, or in the frame of the procedure so many levels out, of which the one
-- at hand is 0; by its address on the expression stack, or so many words behind that address
pub data Access : Type 0 where
  InData : (offset : ℕ) → Access
  InFrame : (n offset : ℕ) → Access
  OnTop : Access
  Behind : (offset : ℕ) → Access

-- the place so many words further
abbrev pub further : ℕ → Access → Access
further n (InData o) = InData (o + n)
further n (InFrame i o) = InFrame i (framed (o + n))
further n OnTop = Behind n
further n (Behind o) = Behind (o + n)

abbrev pub offset_in : Option ℕ → ℕ
offset_in None = 0
offset_in (Some o) = o

-- where a variable lies among those of its owner: those of a procedure lie behind the mark of its frame
abbrev pub offset_at : Layout → Named → Option ℕ
offset_at l (OfModule x) = slice_get l.offsets x
offset_at l (OfLevel n x) = slice_get (offsets_from 4 (locals_at l.scope n)) x

abbrev pub access_at : Named → ℕ → Access
access_at (OfModule x) o = InData o
access_at (OfLevel n x) o = InFrame n (framed o)

-- how code has the place of a designator
abbrev pub access_of : Layout → Designator → Access
access_of l (Variable v) = access_at v (offset_in (offset_at l v))
access_of l (Handed n x) = OnTop
access_of l (Along n x e) = OnTop
access_of l (Held w) = OnTop
access_of l (Field d i) = further (offset (shape_of l.scope d) (i ∷ [])) (access_of l d)
access_of l (Element d k e) = OnTop
access_of l (Follow d n) = OnTop

-- the instructions that bring its address to the expression stack
abbrev pub address_code : Access → List Instr
address_code (InData o) = Lag o ∷ []
address_code (InFrame zero o) = Lal o ∷ []
address_code (InFrame (suc n) o) = Lan (suc n) o ∷ []
address_code OnTop = []
address_code (Behind o) = Adf o ∷ []

-- the instruction that brings the word that lies there
abbrev pub load_code : Access → Instr
load_code (InData o) = Lgw o
load_code (InFrame zero o) = Llw o
load_code (InFrame (suc n) o) = Lnw (suc n) o
load_code OnTop = Ldi
load_code (Behind o) = Ldf o

-- what makes it ready for a store, how code has it then, and the words of the expression stack that it takes
abbrev pub ready_code : Access → List Instr
ready_code (InData o) = []
ready_code (InFrame n o) = []
ready_code OnTop = []
ready_code (Behind o) = Adf o ∷ []

abbrev pub readied : Access → Access
readied (InData o) = InData o
readied (InFrame n o) = InFrame n o
readied OnTop = OnTop
readied (Behind o) = OnTop

abbrev pub held : Access → ℕ
held (InData o) = 0
held (InFrame n o) = 0
held OnTop = 1
held (Behind o) = 1

-- the store to a place that is ready
abbrev pub store_code : Access → Instr
store_code (InData o) = Sgw o
store_code (InFrame zero o) = Slw o
store_code (InFrame (suc n) o) = Snw (suc n) o
store_code OnTop = Sti
store_code (Behind o) = Sti

-- INC and DEC use it twice: what keeps it, the words that it then takes, and what brings the word that lies there below a number
abbrev pub again_code : Access → List Instr
again_code (InData o) = []
again_code (InFrame n o) = []
again_code OnTop = Dup ∷ []
again_code (Behind o) = Dup ∷ []

abbrev pub held_twice : Access → ℕ
held_twice (InData o) = 0
held_twice (InFrame n o) = 0
held_twice OnTop = 2
held_twice (Behind o) = 2

abbrev pub under_code : Access → List Instr
under_code (InData o) = Lgw o ∷ Swp ∷ []
under_code (InFrame n o) = load_code (InFrame n o) ∷ Swp ∷ []
under_code OnTop = Swp ∷ Ldi ∷ Swp ∷ []
under_code (Behind o) = Swp ∷ Ldi ∷ Swp ∷ []

-- the instructions of INC and DEC behind the number that they add or take away: the number at the place comes below it, the sum or the
-- difference is tested, and stored
abbrev pub change_operator : Bool → TwoOp
change_operator false = Plus
change_operator true = Minus

abbrev pub change_code : Bool → Kind → Access → List Instr
change_code down k a = under_code a ++ whole_code (change_operator down) (counted_as k) ++ test_code k (OfWhole (counted_as k)) ++ store_code a ∷ []

pub record ConstantRow (code : List ℕ) (k : Kind) (v : Scalar) (p q : ℕ) : Type 0 where
  pub fits : is_literal k v ≡ true
  pub load : IsAt code p (Liw (scalar_word v)) q

-- where a variable lies that has a kind, whose values have numbers
pub record KnownRow (l : Layout) (v : Named) (k : Kind) : Type 0 where
  pub offset : ℕ
  pub at : offset_at l v ≡ Some offset
  pub typed : variable_at l.scope v ≡ Some (Word k)
  pub base : is_ordinal (base_of k) ≡ true

pub record OneRow (code : List ℕ) (o : OneOp) (k : Kind) (a : Expression) (value : Span) (p q : ℕ) : Type 0 where
  pub middle : ℕ
  pub takes : takes_one o k ≡ true
  pub typed : kind_of a ≡ k
  pub first : value p middle
  pub by : InstrsAt code (one_code o k) middle q

pub record TwoRow (code : List ℕ) (o : TwoOp) (k : Kind) (a b : Expression) (left right : Span) (p q : ℕ) : Type 0 where
  pub middle : ℕ
  pub last : ℕ
  pub takes : takes_two o k ≡ true
  pub left_typed : kind_of a ≡ k
  pub right_typed : kind_of b ≡ right_kind o k
  pub first : left p middle
  pub second : right middle last
  pub by : InstrsAt code (two_code o k) last q

-- the jump over the right operand where the left one decides
abbrev pub short_code : Bool → ℕ → Instr
short_code true to = Jor to
short_code false to = Jan to

-- a jump over the right operand, where the left one decides
pub record ShortRow (l : Layout) (code : List ℕ) (d : Bool) (a b : Expression) (left right : Span) (p q : ℕ) : Type 0 where
  pub middle : ℕ
  pub start : ℕ
  pub left_typed : kind_of a ≡ OfTruth
  pub right_typed : kind_of b ≡ OfTruth
  pub first : left p middle
  pub test : IsAt code middle (short_code d (l.target q)) start
  pub second : right start q

pub record ApplyRow (code : List ℕ) (f : Function) (a : Expression) (value : Span) (p q : ℕ) : Type 0 where
  pub middle : ℕ
  pub takes : takes_function f (kind_of a) ≡ true
  pub first : value p middle
  pub by : InstrsAt code (function_code f (kind_of a)) middle q

-- a set, a number with its test, and what puts it in
pub record WithRow (code : List ℕ) (s : Expression) (k : Kind) (a : Expression) (set number : Span) (p q : ℕ) : Type 0 where
  pub start : ℕ
  pub middle : ℕ
  pub tested : ℕ
  pub typed : kind_of s ≡ OfSet
  pub element : is_element k ≡ true
  pub takes : takes_value k (kind_of a) ≡ true
  pub first : set p start
  pub value : number start middle
  pub test : InstrsAt code (test_code k (kind_of a)) middle tested
  pub by : InstrsAt code (Dup ∷ Spn ∷ []) tested q

-- a set, two numbers with their tests, and what puts all from one to the other in
pub record SpanRow (code : List ℕ) (s : Expression) (k : Kind) (a b : Expression) (set low high : Span) (p q : ℕ) : Type 0 where
  pub start : ℕ
  pub middle : ℕ
  pub tested : ℕ
  pub last : ℕ
  pub end : ℕ
  pub typed : kind_of s ≡ OfSet
  pub element : is_element k ≡ true
  pub takes : takes_value k (kind_of a) ≡ true
  pub takes_last : takes_value k (kind_of b) ≡ true
  pub first : set p start
  pub value : low start middle
  pub test : InstrsAt code (test_code k (kind_of a)) middle tested
  pub last_value : high tested last
  pub last_test : InstrsAt code (test_code k (kind_of b)) last end
  pub by : IsAt code end Spn q

-- a variable takes no code
pub record NamedRow (l : Layout) (v : Named) (p q : ℕ) : Type 0 where
  pub offset : ℕ
  pub shape : Shape
  pub at : offset_at l v ≡ Some offset
  pub typed : variable_at l.scope v ≡ Some shape
  pub there : is_there shape ≡ true
  pub stays : p ≡ q

-- what was handed in for a VAR parameter: a word of its procedure's frame has its address
pub record HandedRow (l : Layout) (code : List ℕ) (n x p q : ℕ) : Type 0 where
  pub offset : ℕ
  pub shape : Shape
  pub at : offset_at l (OfLevel n x) ≡ Some offset
  pub typed : slice_get (parameters_at l.scope n) x ≡ Some (Address shape)
  pub there : is_there shape ≡ true
  pub load : IsAt code p (load_code (access_at (OfLevel n x) offset)) q

-- where an open array that is a parameter lies: two words of its procedure's frame have its address and the number of its last element
pub record OpenedRow (l : Layout) (n x : ℕ) : Type 0 where
  pub offset : ℕ
  pub copied : Bool
  pub element : Shape
  pub at : offset_at l (OfLevel n x) ≡ Some offset
  pub typed : slice_get (parameters_at l.scope n) x ≡ Some (Opened copied element)
  pub there : is_there element ≡ true

-- the instruction that brings a word of the frame of the procedure so many levels out
abbrev pub frame_code : ℕ → ℕ → Instr
frame_code n o = load_code (InFrame n (framed o))

-- both words, an index and its test, and the address of the element
pub record AlongRow (l : Layout) (code : List ℕ) (n x : ℕ) (e : Expression) (index : Span) (p q : ℕ) : Type 0 where
  pub opened : OpenedRow l n x
  pub start : ℕ
  pub middle : ℕ
  pub tested : ℕ
  pub takes : takes_value (OfWhole Cardinal) (kind_of e) ≡ true
  pub load : InstrsAt code (frame_code n opened.offset ∷ frame_code n (opened.offset + 1) ∷ []) p start
  pub value : index start middle
  pub test : InstrsAt code (test_code (OfWhole Cardinal) (kind_of e)) middle tested
  pub by : IsAt code tested (Ixo (words opened.element)) q

-- HIGH
pub record HighRow (l : Layout) (code : List ℕ) (n x p q : ℕ) : Type 0 where
  pub opened : OpenedRow l n x
  pub load : IsAt code p (frame_code n (opened.offset + 1)) q

-- the record of a WITH: a word of the frame has its address
pub record HeldRow (l : Layout) (code : List ℕ) (w p q : ℕ) : Type 0 where
  pub word : ℕ
  pub shape : Shape
  pub at : slice_get l.held w ≡ Some word
  pub typed : slice_get l.scope.held w ≡ Some shape
  pub there : is_there shape ≡ true
  pub load : IsAt code p (Llw word) q

-- nor does a field
pub record FieldRow (l : Layout) (d : Designator) (i : ℕ) (record' : Span) (p q : ℕ) : Type 0 where
  pub there : is_there (part_at (shape_of l.scope d) (i ∷ [])) ≡ true
  pub here : record' p q

-- the address of an array, an index and its test, and the address of the element
pub record ElementRow (l : Layout) (code : List ℕ) (d : Designator) (k : Kind) (e : Expression) (array index : Span) (p q : ℕ) : Type 0 where
  pub found : ℕ
  pub start : ℕ
  pub middle : ℕ
  pub tested : ℕ
  pub rows : shape_of l.scope d ≡ Row (numbers k) (element_of (shape_of l.scope d))
  pub there : is_there (element_of (shape_of l.scope d)) ≡ true
  pub takes : takes_value k (kind_of e) ≡ true
  pub here : array p found
  pub address : InstrsAt code (address_code (access_of l d)) found start
  pub value : index start middle
  pub test : InstrsAt code (test_code k (kind_of e)) middle tested
  pub by : IsAt code tested (Ixc (cut (word_of (least k))) (words (element_of (shape_of l.scope d)))) q

-- a pointer's word, and the test that it isn't NIL
pub record FollowRow (l : Layout) (code : List ℕ) (d : Designator) (n : ℕ) (pointer : Span) (p q : ℕ) : Type 0 where
  pub found : ℕ
  pub loaded : ℕ
  pub typed : shape_of l.scope d ≡ Word (OfPointer (Objects n))
  pub there : is_there (shape_at l.scope.targets n) ≡ true
  pub here : pointer p found
  pub load : IsAt code found (load_code (access_of l d)) loaded
  pub test : IsAt code loaded Nlt q

-- a place, and the load of the word that lies there
pub record TakenRow (l : Layout) (code : List ℕ) (d : Designator) (k : Kind) (place : Span) (p q : ℕ) : Type 0 where
  pub found : ℕ
  pub scalar : IsScalar l.scope d k
  pub here : place p found
  pub load : IsAt code found (load_code (access_of l d)) q

-- how many words a string takes, at least one
abbrev pub text_words : List ℕ → ℕ
text_words cs = max 1 (length cs)

-- A string's words lie from an offset on in the data, one a character; those of an empty one have one 0.
pub record HasText (l : Layout) (cs : List ℕ) (offset : ℕ) : Type 0 where
  pub text : is_text cs ≡ true
  pub at : ℕ
  pub is : offset ≡ l.words + at
  pub inside : at + text_words cs ≤ length l.strings
  pub words : (i : ℕ) → i < text_words cs → get_or l.strings (at + i) 0 ≡ get_or cs i 0

-- an expression of a kind whose value is here, with n words of others below its own
pub record AloneRow (n : ℕ) (e : Expression) (k : Kind) (its : Span) (p q : ℕ) : Type 0 where
  pub typed : kind_of e ≡ k
  pub shallow : n + depth e ≤ 16
  pub value : its p q

-- a value that may be stored at a place of a kind, and its test
pub record TestedRow (code : List ℕ) (n : ℕ) (e : Expression) (k : Kind) (its : Span) (p q : ℕ) : Type 0 where
  pub middle : ℕ
  pub stores : stores_value k (kind_of e) ≡ true
  pub value : AloneRow n e (kind_of e) its p middle
  pub test : InstrsAt code (test_code k (kind_of e)) middle q

-- the address of a place, with n words of others below
pub record AddressRow (l : Layout) (code : List ℕ) (n : ℕ) (d : Designator) (place : Span) (p q : ℕ) : Type 0 where
  pub found : ℕ
  pub there : is_there (shape_of l.scope d) ≡ true
  pub shallow : n + place_depth d ≤ 16
  pub here : place p found
  pub address : InstrsAt code (address_code (access_of l d)) found q

-- the instructions that bring the second word of an open array; before that the first one goes to the frame that a call begins
abbrev pub second_code : (calls : Bool) → Instr → List Instr
second_code false i = i ∷ []
second_code true i = Psh ∷ i ∷ []

-- an array for an open array, with n words of others below: its address, and the number of its last element
pub record ArrayRow (l : Layout) (code : List ℕ) (calls : Bool) (n : ℕ) (d : Designator) (high : ℕ) (place : Span) (p q : ℕ) : Type 0 where
  pub found : ℕ
  pub start : ℕ
  pub rows : shape_of l.scope d ≡ Row (suc high) (element_of (shape_of l.scope d))
  pub there : is_there (element_of (shape_of l.scope d)) ≡ true
  pub low : high ≤ 65535
  pub shallow : n + place_depth d ≤ 16
  pub room : n + 2 ≤ 16
  pub here : place p found
  pub address : InstrsAt code (address_code (access_of l d)) found start
  pub by : InstrsAt code (second_code calls (Liw high)) start q

-- the same of a string
pub record StringRow (l : Layout) (code : List ℕ) (calls : Bool) (n : ℕ) (cs : List ℕ) (p q : ℕ) : Type 0 where
  pub offset : ℕ
  pub start : ℕ
  pub room : n + 2 ≤ 16
  pub text : HasText l cs offset
  pub address : IsAt code p (Lag offset) start
  pub by : InstrsAt code (second_code calls (Liw (text_words cs - 1))) start q

-- and of an open array that is a parameter
pub record HandedOnRow (l : Layout) (code : List ℕ) (calls : Bool) (k n x p q : ℕ) : Type 0 where
  pub start : ℕ
  pub room : k + 2 ≤ 16
  pub opened : OpenedRow l n x
  pub first : IsAt code p (frame_code n opened.offset) start
  pub by : InstrsAt code (second_code calls (frame_code n (opened.offset + 1))) start q

-- so many zeros go to the frame that a call begins: the number is counted down
pub record ZerosRow (l : Layout) (code : List ℕ) (count p q : ℕ) : Type 0 where
  pub turn : ℕ
  pub end : ℕ
  pub load : IsAt code p (Liw count) turn
  pub by : InstrsAt code (Liw 0 ∷ Psh ∷ Liw 1 ∷ Sbc ∷ []) turn end
  pub back : IsAt code end (Jor (l.target turn)) q

abbrev pub ZerosAt : Layout → List ℕ → ℕ → Span
ZerosAt l code zero p q = p ≡ q
ZerosAt l code (suc z) p q = ZerosRow l code (suc z) p q

-- a string for an array by value, which goes to the frame that a call begins, with zeros behind it to the array's end
pub record SpelledRow (l : Layout) (code : List ℕ) (n : ℕ) (cs : List ℕ) (count p q : ℕ) : Type 0 where
  pub offset : ℕ
  pub start : ℕ
  pub last : ℕ
  pub room : n + 2 ≤ 16
  pub fits : length cs ≤ count
  pub low : count ≤ 65535
  pub text : HasText l cs offset
  pub address : IsAt code p (Lag offset) start
  pub push : IsAt code start (Psm (length cs)) last
  pub fill : ZerosAt l code (count - length cs) last q

pub record ArgumentRow (argument rest : Span) (p q : ℕ) : Type 0 where
  pub middle : ℕ
  pub here : argument p middle
  pub then : rest middle q

-- what brings an argument from the expression stack to the frame that a call begins: its last word, or all that lies at its address
abbrev pub push_code : Scope → Argument → Instr
push_code ts (ByValue k e) = Psh
push_code ts (OfPlace d) = Psh
push_code ts (OfAll d) = Psm (words (shape_of ts d))
push_code ts (OfArray copied d high) = Psh
push_code ts (OfText cs) = Psh
push_code ts (OfOpened copied n x) = Psh
push_code ts (Spelled cs count) = Psm (length cs)

pub record PushedRow (l : Layout) (code : List ℕ) (a : Argument) (argument : Span) (p q : ℕ) : Type 0 where
  pub middle : ℕ
  pub here : argument p middle
  pub push : IsAt code middle (push_code l.scope a) q

-- a string for an array by value goes there with its address
abbrev pub PushedAt : Layout → List ℕ → Argument → Span → Span
PushedAt l code (ByValue k e) argument = PushedRow l code (ByValue k e) argument
PushedAt l code (OfPlace d) argument = PushedRow l code (OfPlace d) argument
PushedAt l code (OfAll d) argument = PushedRow l code (OfAll d) argument
PushedAt l code (OfArray copied d high) argument = PushedRow l code (OfArray copied d high) argument
PushedAt l code (OfText cs) argument = PushedRow l code (OfText cs) argument
PushedAt l code (OfOpened copied n x) argument = PushedRow l code (OfOpened copied n x) argument
PushedAt l code (Spelled cs count) argument = argument

-- how many words arguments take there
abbrev pub given_words : Scope → Arguments → ℕ
given_words ts given = all_words (parameters_given ts given)

-- a mark, the arguments, and a call of what returns nothing, or a value of a kind
pub record CallRow (l : Layout) (code : List ℕ) (x n : ℕ) (result : Option Kind) (given : Arguments) (pushes : Span) (p q : ℕ) : Type 0 where
  pub may : MayCall l.scope x n
  pub returns : result_of (procedure_by l.scope.procedures x) ≡ result
  pub takes : parameters_of (procedure_by l.scope.procedures x) ≡ parameters_given l.scope given
  pub start : ℕ
  pub middle : ℕ
  pub mark : IsAt code p (Mrk n) start
  pub arguments : pushes start middle
  pub call : IsAt code middle (Cll x (framed (given_words l.scope given))) q

-- a procedure as a value: the word of its module's number and its own
pub record RoutineRow (l : Layout) (code : List ℕ) (x n p q : ℕ) : Type 0 where
  pub may : MayHold l.scope x n
  pub low : x < 256
  pub load : IsAt code p (Liw (procedure_word (l.numbers 0) x)) q

-- what follows the value of a procedure type that is called: a mark, the arguments, and the call
pub record ValueCallRow (l : Layout) (code : List ℕ) (k : Kind) (result : Option Kind) (given : Arguments) (pushes : Span) (p q : ℕ) : Type 0 where
  pub number : ℕ
  pub kind : k ≡ OfProcedure number
  pub known : slice_get l.scope.signatures number ≡ Some (record { parameters = parameters_given l.scope given; result = result })
  pub start : ℕ
  pub middle : ℕ
  pub mark : IsAt code p Mrf start
  pub arguments : pushes start middle
  pub call : IsAt code middle (Clf (framed (given_words l.scope given))) q

-- the value, and then the call
pub record ValuedRow (l : Layout) (code : List ℕ) (e : Expression) (result : Option Kind) (given : Arguments) (its pushes : Span) (p q : ℕ) : Type 0 where
  pub start : ℕ
  pub value : AloneRow 0 e (kind_of e) its p start
  pub call : ValueCallRow l code (kind_of e) result given pushes start q

-- a call of a function: what stands on the expression stack is saved before, and is there again below the value
pub record InvokeRow (code : List ℕ) (call : Span) (p q : ℕ) : Type 0 where
  pub saved : ℕ
  pub end : ℕ
  pub save : IsAt code p Sav saved
  pub its : call saved end
  pub restore : IsAt code end (Rst 1) q

abbrev mutual
  pub PlaceAt : Layout → List ℕ → Designator → Span
  PlaceAt l code (Variable v) p q = NamedRow l v p q
  PlaceAt l code (Handed n x) p q = HandedRow l code n x p q
  PlaceAt l code (Along n x e) p q = AlongRow l code n x e (ExpressionAt l code e) p q
  PlaceAt l code (Held w) p q = HeldRow l code w p q
  PlaceAt l code (Field d i) p q = FieldRow l d i (PlaceAt l code d) p q
  PlaceAt l code (Element d k e) p q = ElementRow l code d k e (PlaceAt l code d) (ExpressionAt l code e) p q
  PlaceAt l code (Follow d n) p q = FollowRow l code d n (PlaceAt l code d) p q

  pub ExpressionAt : Layout → List ℕ → Expression → Span
  ExpressionAt l code (Constant k v) p q = ConstantRow code k v p q
  ExpressionAt l code (Taken d k) p q = TakenRow l code d k (PlaceAt l code d) p q
  ExpressionAt l code (One o k a) p q = OneRow code o k a (ExpressionAt l code a) p q
  ExpressionAt l code (Two o k a b) p q = TwoRow code o k a b (ExpressionAt l code a) (ExpressionAt l code b) p q
  ExpressionAt l code (Short d a b) p q = ShortRow l code d a b (ExpressionAt l code a) (ExpressionAt l code b) p q
  ExpressionAt l code (Apply f a) p q = ApplyRow code f a (ExpressionAt l code a) p q
  ExpressionAt l code (With s k a) p q = WithRow code s k a (ExpressionAt l code s) (ExpressionAt l code a) p q
  ExpressionAt l code (WithSpan s k a b) p q = SpanRow code s k a b (ExpressionAt l code s) (ExpressionAt l code a) (ExpressionAt l code b) p q
  ExpressionAt l code (Invoke x n k given) p q = InvokeRow code (CallRow l code x n (Some k) given (GivenAt l code given)) p q
  ExpressionAt l code (High n x) p q = HighRow l code n x p q
  ExpressionAt l code (Routine x n) p q = RoutineRow l code x n p q
  ExpressionAt l code (InvokeValue e k given) p q = InvokeRow code (ValuedRow l code e (Some k) given (ExpressionAt l code e) (GivenAt l code given)) p q

  -- an argument, of a call or a request, with n words of others below it
  pub ArgumentAt : Layout → List ℕ → Bool → ℕ → Argument → Span
  ArgumentAt l code calls n (ByValue k e) p q = TestedRow code n e k (ExpressionAt l code e) p q
  ArgumentAt l code calls n (OfPlace d) p q = AddressRow l code n d (PlaceAt l code d) p q
  ArgumentAt l code calls n (OfAll d) p q = AddressRow l code n d (PlaceAt l code d) p q
  ArgumentAt l code calls n (OfArray copied d high) p q = ArrayRow l code calls n d high (PlaceAt l code d) p q
  ArgumentAt l code calls n (OfText cs) p q = StringRow l code calls n cs p q
  ArgumentAt l code calls n (OfOpened copied i x) p q = HandedOnRow l code calls n i x p q
  ArgumentAt l code calls n (Spelled cs count) p q = SpelledRow l code n cs count p q

  -- the arguments of a call, one behind another
  pub GivenAt : Layout → List ℕ → Arguments → Span
  GivenAt l code NoMore p q = p ≡ q
  GivenAt l code (Also a given) p q = ArgumentRow (PushedAt l code a (ArgumentAt l code true 0 a)) (GivenAt l code given) p q

-- values, each by its code
abbrev pub WholeRow : Layout → List ℕ → ℕ → Expression → Kind → Span
WholeRow l code n e k = AloneRow n e k (ExpressionAt l code e)

abbrev pub ValueRow : Layout → List ℕ → ℕ → Expression → Kind → Span
ValueRow l code n e k = TestedRow code n e k (ExpressionAt l code e)

-- a place of a kind that is made ready for a store
pub record TargetRow (l : Layout) (code : List ℕ) (d : Designator) (k : Kind) (p q : ℕ) : Type 0 where
  pub found : ℕ
  pub scalar : IsScalar l.scope d k
  pub shallow : place_depth d ≤ 16
  pub here : PlaceAt l code d p found
  pub ready : InstrsAt code (ready_code (access_of l d)) found q

pub record AssignRow (l : Layout) (code : List ℕ) (d : Designator) (k : Kind) (e : Expression) (p q : ℕ) : Type 0 where
  pub start : ℕ
  pub middle : ℕ
  pub target : TargetRow l code d k p start
  pub value : ValueRow l code (held (readied (access_of l d))) e k start middle
  pub store : IsAt code middle (store_code (readied (access_of l d))) q

-- the addresses of both places, and the move of as many words as lie there
pub record CopyRow (l : Layout) (code : List ℕ) (d from : Designator) (p q : ℕ) : Type 0 where
  pub found : ℕ
  pub start : ℕ
  pub middle : ℕ
  pub last : ℕ
  pub same : shape_of l.scope from ≡ shape_of l.scope d
  pub there : is_there (shape_of l.scope d) ≡ true
  pub shallow : place_depth d ≤ 16
  pub source_shallow : 1 + place_depth from ≤ 16
  pub here : PlaceAt l code d p found
  pub address : InstrsAt code (address_code (access_of l d)) found start
  pub source : PlaceAt l code from start middle
  pub source_address : InstrsAt code (address_code (access_of l from)) middle last
  pub by : IsAt code last (Mov (words (shape_of l.scope d))) q

pub record ChangeRow (l : Layout) (code : List ℕ) (down : Bool) (d : Designator) (k : Kind) (e : Expression) (p q : ℕ) : Type 0 where
  pub start : ℕ
  pub kept : ℕ
  pub middle : ℕ
  pub plain : is_plain k ≡ true
  pub target : TargetRow l code d k p start
  pub again : InstrsAt code (again_code (readied (access_of l d))) start kept
  pub value : WholeRow l code (held_twice (readied (access_of l d))) e (OfWhole (counted_as k)) kept middle
  pub by : InstrsAt code (change_code down k (readied (access_of l d))) middle q

-- what puts a number into the set at an address, or takes it out
abbrev pub member_code : Bool → Instr
member_code false = Icl
member_code true = Ecl

-- the address of a set, a number with its test, and what puts it in or takes it out
pub record MemberRow (l : Layout) (code : List ℕ) (out : Bool) (d : Designator) (k : Kind) (e : Expression) (p q : ℕ) : Type 0 where
  pub found : ℕ
  pub start : ℕ
  pub middle : ℕ
  pub set : shape_of l.scope d ≡ Word OfSet
  pub element : is_element k ≡ true
  pub takes : takes_value k (kind_of e) ≡ true
  pub shallow : place_depth d ≤ 16
  pub here : PlaceAt l code d p found
  pub address : InstrsAt code (address_code (access_of l d)) found start
  pub value : ValueRow l code 1 e k start middle
  pub by : IsAt code middle (member_code out) q

-- the address of a pointer, and a block of as many words as what it points to
pub record NewRow (l : Layout) (code : List ℕ) (d : Designator) (n : ℕ) (p q : ℕ) : Type 0 where
  pub found : ℕ
  pub start : ℕ
  pub typed : shape_of l.scope d ≡ Word (OfPointer (Objects n))
  pub there : is_there (shape_at l.scope.targets n) ≡ true
  pub shallow : place_depth d ≤ 16
  pub here : PlaceAt l code d p found
  pub address : InstrsAt code (address_code (access_of l d)) found start
  pub by : InstrsAt code (Liw (words (shape_at l.scope.targets n)) ∷ Alc ∷ []) start q

-- what stands behind an address's place and a number of words: a block is taken, or the number goes and the address becomes NIL
abbrev pub allocate_code : Bool → List Instr
allocate_code false = Alc ∷ []
allocate_code true = Drp ∷ Liw 0 ∷ Sti ∷ []

-- the place of an address, and a number of words with its test
pub record AllocateRow (l : Layout) (code : List ℕ) (back : Bool) (d : Designator) (e : Expression) (p q : ℕ) : Type 0 where
  pub found : ℕ
  pub start : ℕ
  pub middle : ℕ
  pub typed : shape_of l.scope d ≡ Word (OfPointer Workspaces)
  pub takes : takes_value (OfWhole Cardinal) (kind_of e) ≡ true
  pub shallow : place_depth d ≤ 16
  pub here : PlaceAt l code d p found
  pub address : InstrsAt code (address_code (access_of l d)) found start
  pub value : ValueRow l code 1 e (OfWhole Cardinal) start middle
  pub by : InstrsAt code (allocate_code back) middle q

-- the addresses of an array and of a string, and the move of the string's words, with zeros behind them to the array's end
pub record TextRow (l : Layout) (code : List ℕ) (d : Designator) (cs : List ℕ) (p q : ℕ) : Type 0 where
  pub found : ℕ
  pub start : ℕ
  pub last : ℕ
  pub count : ℕ
  pub offset : ℕ
  pub rows : shape_of l.scope d ≡ Row count (Word OfCharacter)
  pub fits : length cs ≤ count
  pub shallow : place_depth d ≤ 16
  pub text : HasText l cs offset
  pub here : PlaceAt l code d p found
  pub address : InstrsAt code (address_code (access_of l d)) found start
  pub source : IsAt code start (Lag offset) last
  pub by : IsAt code last (Mvz (length cs) (count - length cs)) q

abbrev pub arguments_words : Arguments → ℕ
arguments_words NoMore = 0
arguments_words (Also a given) = argument_words a + arguments_words given

-- the arguments of a request, which stay on the expression stack, one behind another
abbrev pub ArgumentsAt : Layout → List ℕ → ℕ → Arguments → Span
ArgumentsAt l code n NoMore p q = p ≡ q
ArgumentsAt l code n (Also a given) p q = ArgumentRow (ArgumentAt l code false n a) (ArgumentsAt l code (argument_words a + n) given) p q

pub record RequestRow (l : Layout) (code : List ℕ) (r : request.Request) (given : Arguments) (p q : ℕ) : Type 0 where
  pub middle : ℕ
  pub takes : request_parameters r ≡ parameters_given l.scope given
  pub served : AreServed given
  pub words : request_words r ≡ arguments_words given
  pub arguments : ArgumentsAt l code 0 given p middle
  pub by : IsAt code middle (Svc (request_number r)) q

-- the condition, a jump to the second part where it is FALSE, the first part, and a jump over the second
pub record IfRow (l : Layout) (code : List ℕ) (c : Expression) (first second : Span) (p q : ℕ) : Type 0 where
  pub middle : ℕ
  pub start : ℕ
  pub end : ℕ
  pub other : ℕ
  pub condition : WholeRow l code 0 c OfTruth p middle
  pub jump : IsAt code middle (Jpf (l.target other)) start
  pub chosen : first start end
  pub skip : IsAt code end (Jmp (l.target q)) other
  pub otherwise : second other q

-- the condition, a jump behind all where it is FALSE, the body, and a jump back
pub record WhileRow (l : Layout) (code : List ℕ) (c : Expression) (body : Span) (p q : ℕ) : Type 0 where
  pub middle : ℕ
  pub start : ℕ
  pub end : ℕ
  pub condition : WholeRow l code 0 c OfTruth p middle
  pub jump : IsAt code middle (Jpf (l.target q)) start
  pub here : body start end
  pub back : IsAt code end (Jmp (l.target p)) q

-- the body, the condition, and a jump back where it is FALSE
pub record RepeatRow (l : Layout) (code : List ℕ) (body : Span) (c : Expression) (p q : ℕ) : Type 0 where
  pub end : ℕ
  pub middle : ℕ
  pub here : body p end
  pub condition : WholeRow l code 0 c OfTruth end middle
  pub back : IsAt code middle (Jpf (l.target p)) q

-- the body and a jump back
pub record LoopRow (l : Layout) (code : List ℕ) (body : Span) (p q : ℕ) : Type 0 where
  pub end : ℕ
  pub here : body p end
  pub back : IsAt code end (Jmp (l.target p)) q

-- a jump behind the LOOP around, by the word of that place
pub record ExitRow (code : List ℕ) (exit : Option ℕ) (p q : ℕ) : Type 0 where
  pub to : ℕ
  pub known : exit ≡ Some to
  pub jump : IsAt code p (Jmp to) q

-- an entry of a table: a range of labels, and the word of its arm's place
pub record EntryRow (code : List ℕ) (k : Kind) (label : Label) (to p : ℕ) : Type 0 where
  pub sound : IsSoundLabel k label
  pub low : word_at code p ≡ Some (word_of label.low)
  pub high : word_at code (p + 2) ≡ Some (word_of label.high)
  pub target : word_at code (p + 4) ≡ Some to

-- what stands from a place on, whose entries stand from another place on, of which so many are left
abbrev pub Arming : Type 1
Arming = ℕ → ℕ → ℕ → Type 0

-- an entry for each label, and then the others
abbrev pub EntriesAt : List ℕ → Kind → List Label → ℕ → (ℕ → ℕ → Type 0) → ℕ → ℕ → Type 0
EntriesAt code k [] to rest t w = rest t w
EntriesAt code k (label ∷ labels) to rest t zero = ⊥
EntriesAt code k (label ∷ labels) to rest t (suc w) = EntryRow code k label to t × EntriesAt code k labels to rest (t + 6) w

-- an arm, and a jump to the exit
pub record ArmRow (l : Layout) (code : List ℕ) (k : Kind) (exit : ℕ) (labels : List Label) (body : Span) (rest : Arming) (p t w : ℕ) : Type 0 where
  pub end : ℕ
  pub gap : ℕ
  pub here : body p end
  pub leave : IsAt code end (Jmp (l.target exit)) gap
  pub entries : EntriesAt code k labels (l.target p) (rest gap) t w

-- what stands behind ELSE ends where the table stands
pub record ElseRow (l : Layout) (code : List ℕ) (exit other table : ℕ) (body : Span) (p w : ℕ) : Type 0 where
  pub end : ℕ
  pub here : body p end
  pub leave : IsAt code end (Jmp (l.target exit)) table
  pub is : other ≡ p
  pub none : w ≡ 0

-- without ELSE a trap stands in its place
pub record NoElseRow (code : List ℕ) (other table p w : ℕ) : Type 0 where
  pub trap : IsAt code p (Trp 7) table
  pub is : other ≡ p
  pub none : w ≡ 0

-- The value, a jump to the table, the exit, the arms, and right behind them the table with its entries. The table stands last, so that
-- it knows the places of the arms, which know the exit, where the other values go, and where the table stands.
pub record CaseRow (l : Layout) (code : List ℕ) (e : Expression) (arms : ℕ → ℕ → ℕ → Arming) (p q : ℕ) : Type 0 where
  pub middle : ℕ
  pub exit : ℕ
  pub start : ℕ
  pub choices : ℕ
  pub entries : ℕ
  pub count : ℕ
  pub other : ℕ
  pub base : is_ordinal (kind_of e) ≡ true
  pub value : WholeRow l code 0 e (kind_of e) p middle
  pub dispatch : IsAt code middle (Jmp (l.target choices)) exit
  pub leave : IsAt code exit (Jmp (l.target q)) start
  pub bodies : arms exit other choices start entries count
  pub choice : IsAt code choices (Cas (l.target count) (l.target other)) entries
  pub whole : q ≡ entries + 6 * count

-- the value that a function returns, with its test, and the return
pub record AnswerRow (l : Layout) (code : List ℕ) (k : Kind) (e : Expression) (p q : ℕ) : Type 0 where
  pub middle : ℕ
  pub result : result_here l.scope ≡ Some k
  pub value : ValueRow l code 0 e k p middle
  pub leave : IsAt code middle Rtn q

-- the first word of a FOR or a WITH in the frame, where the variables and those around it take n words
abbrev pub loop_place : ℕ → ℕ
loop_place n = 4 + n

-- how the machine reads the bounds of a FOR
abbrev pub loop_sign : Whole → ℕ
loop_sign Cardinal = 0
loop_sign Integer = 1

-- each turn: its value is tested and stored in the variable, then comes the body, and the next turn
pub record RoundRow (l : Layout) (code : List ℕ) (n : ℕ) (v : Named) (k : Kind) (step : ℤ) (body : Span) (turn q : ℕ) : Type 0 where
  pub known : KnownRow l v k
  pub loaded : ℕ
  pub tested : ℕ
  pub start : ℕ
  pub end : ℕ
  pub room : loop_place n + 3 ≤ l.frame
  pub is_step : IsStep step
  pub load : IsAt code turn (Llw (framed (loop_place n))) loaded
  pub test : InstrsAt code (test_code k (base_of k)) loaded tested
  pub store : IsAt code tested (store_code (access_at v known.offset)) start
  pub here : body start end
  pub next : IsAt code end (Frn (framed (loop_place n)) (l.target turn)) q

-- a start that has no turn leaves the FOR
pub record LeaveRow (l : Layout) (code : List ℕ) (p start q : ℕ) : Type 0 where
  pub tested : ℕ
  pub skip : ℕ
  pub dropped : ℕ
  pub other : ℕ
  pub look : InstrsAt code (Swp ∷ Dup ∷ Liw 0 ∷ Lsi ∷ []) p tested
  pub jump : IsAt code tested (Jpf (l.target other)) skip
  pub drop : InstrsAt code (Drp ∷ Drp ∷ []) skip dropped
  pub leave : IsAt code dropped (Jmp (l.target q)) other
  pub back : IsAt code other Swp start

-- What brings a start to the limit's type, which is the same or the other type of whole numbers; the numbers of both are those from 0 to
-- 32767. Where another start has turns the first one traps.
abbrev pub AlignAt : Layout → List ℕ → (same turns : Bool) → ℕ → ℕ → ℕ → Type 0
AlignAt l code true turns p start q = p ≡ start
AlignAt l code false true p start q = InstrsAt code (Swp ∷ Rgc 0 32767 ∷ Swp ∷ []) p start
AlignAt l code false false p start q = LeaveRow l code p start q

-- both bounds stand on the expression stack, the start with a kind: the step, the beginning of the turns, and the turns
pub record TurnsRow (l : Layout) (code : List ℕ) (n : ℕ) (v : Named) (k j : Kind) (step : ℤ) (body : Span) (p q : ℕ) : Type 0 where
  pub aligned : ℕ
  pub stepped : ℕ
  pub turn : ℕ
  pub align : AlignAt l code (covers (base_of k) j) (outside_turns (compared_as (base_of k)) step) p aligned q
  pub load : IsAt code aligned (Liw (word_of step)) stepped
  pub enter : IsAt code stepped (Fri (framed (loop_place n)) (loop_sign (compared_as (base_of k))) (l.target q)) turn
  pub round : RoundRow l code n v k step body turn q

-- both bounds and the turns: a start that may be stored in the variable, and a limit of the kind that the variable's was taken from
pub record ForRow (l : Layout) (code : List ℕ) (n : ℕ) (v : Named) (k : Kind) (a b : Expression) (step : ℤ) (body : Span) (p q : ℕ) : Type 0 where
  pub middle : ℕ
  pub last : ℕ
  pub takes : takes_value k (kind_of a) ≡ true
  pub first : WholeRow l code 0 a (kind_of a) p middle
  pub limit : WholeRow l code 1 b (base_of k) middle last
  pub turns : TurnsRow l code n v k (kind_of a) step body last q

-- the address of a record, which goes to a word of the frame, and the statements
pub record InsideRow (l : Layout) (code : List ℕ) (n : ℕ) (d : Designator) (body : Span) (p q : ℕ) : Type 0 where
  pub found : ℕ
  pub start : ℕ
  pub kept : ℕ
  pub there : is_there (shape_of l.scope d) ≡ true
  pub shallow : place_depth d ≤ 16
  pub room : loop_place n + 1 ≤ l.frame
  pub here : PlaceAt l code d p found
  pub address : InstrsAt code (address_code (access_of l d)) found start
  pub keep : IsAt code start (Slw (framed (loop_place n))) kept
  pub within : body kept q

pub record ThenRow (first rest : Span) (p q : ℕ) : Type 0 where
  pub middle : ℕ
  pub here : first p middle
  pub then : rest middle q

-- Statements where the variables, and the FORs and WITHs around them take n words of the frame, and the word of the place behind the LOOP around them, if
-- there is one.
abbrev mutual
  pub StatementAt : Layout → List ℕ → ℕ → Option ℕ → Statement → Span
  StatementAt l code n exit (Assign d k e) p q = AssignRow l code d k e p q
  StatementAt l code n exit (Copy d from) p q = CopyRow l code d from p q
  StatementAt l code n exit (Text d cs) p q = TextRow l code d cs p q
  StatementAt l code n exit (Change down d k e) p q = ChangeRow l code down d k e p q
  StatementAt l code n exit (Member out d k e) p q = MemberRow l code out d k e p q
  StatementAt l code n exit (New d k) p q = NewRow l code d k p q
  StatementAt l code n exit (Allocate back d e) p q = AllocateRow l code back d e p q
  StatementAt l code n exit (Request r given) p q = RequestRow l code r given p q
  StatementAt l code n exit (If c a b) p q = IfRow l code c (BodyAt l code n exit a) (BodyAt l code n exit b) p q
  StatementAt l code n exit (Case e arms) p q = CaseRow l code e (ArmsAt l code n exit (kind_of e) arms) p q
  StatementAt l code n exit (While c body) p q = WhileRow l code c (BodyAt l code n exit body) p q
  StatementAt l code n exit (Repeat body c) p q = RepeatRow l code (BodyAt l code n exit body) c p q
  StatementAt l code n exit (Loop body) p q = LoopRow l code (BodyAt l code n (Some (l.target q)) body) p q
  StatementAt l code n exit Exit p q = ExitRow code exit p q
  StatementAt l code n exit Halt p q = IsAt code p (Trp 9) q
  StatementAt l code n exit Return p q = (result_here l.scope ≡ None) × IsAt code p Rtn q
  StatementAt l code n exit (Answer k e) p q = AnswerRow l code k e p q
  StatementAt l code n exit (Call x i given) p q = CallRow l code x i None given (GivenAt l code given) p q
  StatementAt l code n exit (CallValue e given) p q = ValuedRow l code e None given (ExpressionAt l code e) (GivenAt l code given) p q
  StatementAt l code n exit (For v k a b step body) p q = ForRow l code n v k a b step (BodyAt l code (3 + n) exit body) p q
  StatementAt l code n exit (Inside d body) p q = InsideRow l code n d (BodyAt (holding l (shape_of l.scope d) (framed (loop_place n))) code (suc n) exit body) p q

  -- one behind another
  pub BodyAt : Layout → List ℕ → ℕ → Option ℕ → Statements → Span
  BodyAt l code n exit Empty p q = p ≡ q
  BodyAt l code n exit (Then s ss) p q = ThenRow (StatementAt l code n exit s) (BodyAt l code n exit ss) p q

  pub ArmsAt : Layout → List ℕ → ℕ → Option ℕ → Kind → Arms → ℕ → ℕ → ℕ → Arming
  ArmsAt l code n exit k NoElse leave other table p t w = NoElseRow code other table p w
  ArmsAt l code n exit k (Else body) leave other table p t w = ElseRow l code leave other table (BodyAt l code n exit body) p w
  ArmsAt l code n exit k (Arm labels body rest) leave other table p t w = ArmRow l code k leave labels (BodyAt l code n exit body) (ArmsAt l code n exit k rest leave other table) p t w

-- how a body or a procedure is left at its end: a function has no value there
abbrev pub leave_code : Option Kind → Instr
leave_code None = Rtn
leave_code (Some k) = Trp 8

-- the instructions that copy its parameters that are open arrays by value, whose words lie from a word of the frame on
abbrev pub copy_code : ℕ → Shape → List Instr
copy_code o Absent = []
copy_code o (Word k) = []
copy_code o Blank = []
copy_code o (Join a b) = []
copy_code o (Row n t) = []
copy_code o (Address t) = []
copy_code o (Opened false t) = []
copy_code o (Opened true t) = Cpy (framed o) (words t) ∷ []

abbrev pub copies_code : ℕ → List Shape → List Instr
copies_code o [] = []
copies_code o (t ∷ ts) = copy_code o t ++ copies_code (o + words t) ts

-- a body or a procedure with these variables, of which the first are its parameters: its frame, its copies, its statements, and its end
pub record FramedRow (l : Layout) (code : List ℕ) (result : Option Kind) (locals parameters : List Shape) (ss : Statements) (p q : ℕ) : Type 0 where
  pub begun : ℕ
  pub start : ℕ
  pub end : ℕ
  pub enter : IsAt code p (Ent (framed (frame_words locals ss))) begun
  pub copies : InstrsAt code (copies_code 4 parameters) begun start
  pub body : BodyAt l code (all_words locals) None ss start end
  pub leave : IsAt code end (leave_code result) q

-- it stands by itself: nothing before or behind it is one of its instructions
abbrev pub StretchRow : Layout → List ℕ → Option Kind → (locals parameters : List Shape) → Statements → Span
StretchRow l code result locals parameters ss p q = FramedRow l (stretch p q code) result locals parameters ss p q

-- procedures from this number on, one behind another, and where each begins
abbrev pub ProceduresAt : Layout → List ℕ → ℕ → List Procedure → List ℕ → Span
ProceduresAt l code n [] [] p q = p ≡ q
ProceduresAt l code n (its ∷ ps) (e ∷ es) p q = (e ≡ l.target p) × ThenRow (StretchRow (in_procedure l n its) code its.result its.locals (take its.parameters its.locals) its.body) (ProceduresAt l code (suc n) ps es) p q
ProceduresAt l code n _ _ p q = ⊥

-- code of a program module: its body, and behind it the procedures, by where each begins
pub record TranslatesBy (l : Layout) (m : Resolved) (entries code : List ℕ) : Type 0 where
  pub middle : ℕ
  pub body : StretchRow l code None [] [] m.body 0 middle
  pub procedures : ProceduresAt l code 1 m.procedures entries middle (length code)

-- the strings and the code of a program module, whose numbers are written as they are, where modules are loaded under these numbers
abbrev pub TranslatesAs : (ℕ → ℕ) → Resolved → (strings entries code : List ℕ) → Type 0
TranslatesAs numbers m strings entries code = TranslatesBy (layout_of numbers strings m) m entries code

-- where it is loaded alone
abbrev pub Translates : Resolved → (strings entries code : List ℕ) → Type 0
Translates m strings entries code = TranslatesAs alone m strings entries code
