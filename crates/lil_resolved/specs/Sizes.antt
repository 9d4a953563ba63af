-- How much a module takes: words of the expression stack, of frames and of strings, and the bytes of its code; and modules that are small.
use Rattle.std.specs.Prelude.{ℕ, zero, suc, List, [], ◌∷◌, ◌++◌, Option, Some, None, ◌+◌, ◌-◌, max, Bool, true, false, ◌*◌, ◌≤◌, ℤ, length, take, if◌then◌else◌}
use Rattle.std.specs.List.{flat_map}
use Rattle.lil_resolved.specs.Resolved.{Named, OfModule, OfLevel, Argument, ByValue, OfPlace, OfAll, OfArray, OfText, OfOpened, Spelled, Arguments, NoMore, Also, Statement, Assign, Copy, Text, Change, Member, New, Allocate, Request, If, Case, While, Repeat, Loop, Exit, Halt, Return, Answer, Call, CallValue, For, Inside, Statements, Empty, Then, Arms, NoElse, Else, Arm, Procedure, Resolved, Designator, Variable, Handed, Along, Held, Field, Element, Follow, Function, Odd, Expression, Constant, Taken, One, Two, Short, Apply, With, WithSpan, Invoke, High, Routine, InvokeValue, Abs, Cap, Chr, Ord, Val, kind_of, counted_as}
use Rattle.lil_resolved.specs.Kinds.{Kind, OfWhole, OfCharacter, base_of, compared_as, covers, outside_turns, Shape, Absent, Word, Blank, Join, Row, Address, Opened, all_words}
use Rattle.lil_base.specs.{declared.operator.{OneOp.OneOp, TwoOp.{TwoOp, TheVariants.{Greater, AtLeast}}}, Words.{Cardinal, Integer}}
use Rattle.lil_base.specs.declared.operator.OneOp.TheVariants as one

-- ---- the words of the strings of statements, in the order of the text. Each use of a string has words of its own

-- the words of a string: one a character, and a 0 where it has none
abbrev pub words_of : List ℕ → List ℕ
words_of [] = 0 ∷ []
words_of (c ∷ cs) = c ∷ cs

abbrev mutual
  pub place_strings : Designator → List ℕ
  place_strings (Variable v) = []
  place_strings (Handed n x) = []
  place_strings (Along n x e) = expression_strings e
  place_strings (Held w) = []
  place_strings (Field d i) = place_strings d
  place_strings (Element d k e) = place_strings d ++ expression_strings e
  place_strings (Follow d n) = place_strings d

  pub expression_strings : Expression → List ℕ
  expression_strings (Constant k v) = []
  expression_strings (Taken d k) = place_strings d
  expression_strings (One o k a) = expression_strings a
  expression_strings (Two o k a b) = expression_strings a ++ expression_strings b
  expression_strings (Short d a b) = expression_strings a ++ expression_strings b
  expression_strings (Apply f a) = expression_strings a
  expression_strings (With s k a) = expression_strings s ++ expression_strings a
  expression_strings (WithSpan s k a b) = expression_strings s ++ expression_strings a ++ expression_strings b
  expression_strings (Invoke p n k given) = arguments_strings given
  expression_strings (High n x) = []
  expression_strings (Routine p n) = []
  expression_strings (InvokeValue e k given) = expression_strings e ++ arguments_strings given

  pub argument_strings : Argument → List ℕ
  argument_strings (ByValue k e) = expression_strings e
  argument_strings (OfPlace d) = place_strings d
  argument_strings (OfAll d) = place_strings d
  argument_strings (OfArray copied d high) = place_strings d
  argument_strings (OfText cs) = words_of cs
  argument_strings (OfOpened copied n x) = []
  argument_strings (Spelled cs count) = words_of cs

  pub arguments_strings : Arguments → List ℕ
  arguments_strings NoMore = []
  arguments_strings (Also a given) = argument_strings a ++ arguments_strings given

abbrev mutual
  pub statement_strings : Statement → List ℕ
  statement_strings (Assign d k e) = place_strings d ++ expression_strings e
  statement_strings (Copy d from) = place_strings d ++ place_strings from
  statement_strings (Text d cs) = place_strings d ++ words_of cs
  statement_strings (Change down d k e) = place_strings d ++ expression_strings e
  statement_strings (Member out d k e) = place_strings d ++ expression_strings e
  statement_strings (New d n) = place_strings d
  statement_strings (Allocate back d e) = place_strings d ++ expression_strings e
  statement_strings (Request r given) = arguments_strings given
  statement_strings (If c a b) = expression_strings c ++ body_strings a ++ body_strings b
  statement_strings (Case e arms) = expression_strings e ++ arms_strings arms
  statement_strings (While c body) = expression_strings c ++ body_strings body
  statement_strings (Repeat body c) = body_strings body ++ expression_strings c
  statement_strings (Loop body) = body_strings body
  statement_strings Exit = []
  statement_strings Halt = []
  statement_strings Return = []
  statement_strings (Answer k e) = expression_strings e
  statement_strings (Call p n given) = arguments_strings given
  statement_strings (CallValue e given) = expression_strings e ++ arguments_strings given
  statement_strings (For v k a b step body) = expression_strings a ++ expression_strings b ++ body_strings body
  statement_strings (Inside d body) = place_strings d ++ body_strings body

  pub body_strings : Statements → List ℕ
  body_strings Empty = []
  body_strings (Then s ss) = statement_strings s ++ body_strings ss

  pub arms_strings : Arms → List ℕ
  arms_strings NoElse = []
  arms_strings (Else body) = body_strings body
  arms_strings (Arm labels body rest) = body_strings body ++ arms_strings rest

abbrev pub procedure_strings : Procedure → List ℕ
procedure_strings p = body_strings p.body

abbrev pub procedures_strings : List Procedure → List ℕ
procedures_strings ps = flat_map procedure_strings ps

-- those of a module: of its body, and then of its procedures by their numbers
abbrev pub module_strings : Resolved → List ℕ
module_strings m = body_strings m.body ++ procedures_strings m.procedures

-- ---- the words that a body takes: those of the expression stack, and those of its frame

-- how many words of the expression stack the code of a standard function takes, its argument's included
abbrev pub function_depth : Function → ℕ
function_depth Odd = 2
function_depth _ = 1

-- how many words of the expression stack a place and an expression take
abbrev mutual
  pub place_depth : Designator → ℕ
  place_depth (Variable v) = 1
  place_depth (Handed n x) = 1
  place_depth (Along n x e) = 2 + depth e
  place_depth (Held w) = 1
  place_depth (Field d i) = place_depth d
  place_depth (Element d k e) = max (place_depth d) (2 + depth e)
  place_depth (Follow d n) = place_depth d

  pub depth : Expression → ℕ
  depth (Constant k v) = 1
  depth (Taken d k) = place_depth d
  depth (One o k a) = depth a
  depth (Two o k a b) = max (depth a) (1 + depth b)
  depth (Short d a b) = max (depth a) (1 + depth b)
  depth (Apply f a) = max (depth a) (function_depth f)
  depth (With s k a) = max (depth s) (max 3 (1 + depth a))
  depth (WithSpan s k a b) = max (depth s) (max (1 + depth a) (2 + depth b))
  -- what stood on the expression stack is saved until it has returned
  depth (Invoke p n k given) = 1
  depth (High n x) = 1
  depth (Routine p n) = 1
  depth (InvokeValue e k given) = 1

-- how many words of the frame the FORs and the WITHs in statements take: three each FOR, and one each WITH
abbrev mutual
  pub statement_words : Statement → ℕ
  statement_words (Assign d k e) = 0
  statement_words (Copy d from) = 0
  statement_words (Text d cs) = 0
  statement_words (Change down d k e) = 0
  statement_words (Member out d k e) = 0
  statement_words (New d n) = 0
  statement_words (Allocate back d e) = 0
  statement_words (Request r given) = 0
  statement_words (If c a b) = body_words a + body_words b
  statement_words (Case e arms) = arms_words arms
  statement_words (While c body) = body_words body
  statement_words (Repeat body c) = body_words body
  statement_words (Loop body) = body_words body
  statement_words Exit = 0
  statement_words Halt = 0
  statement_words Return = 0
  statement_words (Answer k e) = 0
  statement_words (Call p n given) = 0
  statement_words (CallValue e given) = 0
  statement_words (For v k a b step body) = 3 + body_words body
  statement_words (Inside d body) = 1 + body_words body

  pub body_words : Statements → ℕ
  body_words Empty = 0
  body_words (Then s ss) = statement_words s + body_words ss

  pub arms_words : Arms → ℕ
  arms_words NoElse = 0
  arms_words (Else body) = body_words body
  arms_words (Arm labels body rest) = body_words body + arms_words rest

-- the words of the frame of a body or a procedure: its mark, its variables, and those of its FORs and WITHs
abbrev pub frame_words : List Shape → Statements → ℕ
frame_words locals body = 4 + all_words locals + body_words body

-- how many bytes the code of an operator takes
abbrev pub one_size : OneOp → ℕ
one_size one.Plus = 0
one_size one.Minus = 1
one_size one.Not = 1

abbrev pub two_size : TwoOp → ℕ
two_size Greater = 2
two_size AtLeast = 2
two_size _ = 1

-- how many bytes the test takes that a value of the second kind is one of the first, where it isn't always
abbrev pub test_size : Kind → Kind → ℕ
test_size k j = if covers k j then 0 else 5

-- how many bytes it takes to bring the start of a FOR to its limit's type, where it is a whole number of the other
abbrev pub align_size : Kind → Kind → ℤ → ℕ
align_size k j step = if covers (base_of k) j then 0 else (if outside_turns (compared_as (base_of k)) step then 7 else 15)

-- how many bytes the code of a standard function of a value of a kind takes
abbrev pub function_size : Function → Kind → ℕ
function_size (Abs Cardinal) k = 0
function_size (Abs Integer) k = 1
function_size Cap k = 1
function_size Chr k = test_size OfCharacter k
function_size Odd k = 4
function_size Ord k = test_size (OfWhole Cardinal) k
function_size (Val j) k = test_size j k

-- how code has a place: at an offset in the data of the module or in the frame at hand, in the frame of a procedure around, by its address on
-- the expression stack, or so many words behind that
pub data Form : Type 0 where
  Direct : Form
  Outward : Form
  Exact : Form
  Beyond : Form

abbrev pub field_form : Form → Form
field_form Direct = Direct
field_form Outward = Outward
field_form Exact = Beyond
field_form Beyond = Beyond

abbrev pub variable_form : Named → Form
variable_form (OfModule x) = Direct
variable_form (OfLevel zero x) = Direct
variable_form (OfLevel (suc n) x) = Outward

abbrev pub form_of : Designator → Form
form_of (Variable v) = variable_form v
form_of (Handed n x) = Exact
form_of (Along n x e) = Exact
form_of (Held w) = Exact
form_of (Field d i) = field_form (form_of d)
form_of (Element d k e) = Exact
form_of (Follow d n) = Exact

-- how many bytes it takes to bring its address to the expression stack, to load its word, to make it ready for a store, and to store
abbrev pub address_size : Form → ℕ
address_size Direct = 3
address_size Outward = 4
address_size Exact = 0
address_size Beyond = 3

abbrev pub load_size : Form → ℕ
load_size Direct = 3
load_size Outward = 4
load_size Exact = 1
load_size Beyond = 3

abbrev pub ready_size : Form → ℕ
ready_size Direct = 0
ready_size Outward = 0
ready_size Exact = 0
ready_size Beyond = 3

abbrev pub store_size : Form → ℕ
store_size Direct = 3
store_size Outward = 4
store_size _ = 1

-- to keep a place that is ready for a second use, and then to load its word below the topmost one
abbrev pub again_size : Form → ℕ
again_size Direct = 0
again_size Outward = 0
again_size _ = 1

abbrev pub under_size : Form → ℕ
under_size Direct = 4
under_size Outward = 5
under_size _ = 3

-- how many bytes it takes to bring the address that a VAR parameter holds to the expression stack, or each of the words of an open array
abbrev pub handed_size : ℕ → ℕ
handed_size zero = 3
handed_size (suc n) = 4

-- how many words an argument takes on the expression stack: of what goes by its address, one, and none of a string that goes to the frame at once
abbrev pub argument_words : Argument → ℕ
argument_words (ByValue k e) = 1
argument_words (OfPlace d) = 1
argument_words (OfAll d) = 1
argument_words (OfArray copied d high) = 2
argument_words (OfText cs) = 2
argument_words (OfOpened copied n x) = 2
argument_words (Spelled cs count) = 0

-- how many bytes it takes to bring so many zeros to the frame that a call begins
abbrev pub zeros_size : ℕ → ℕ
zeros_size zero = 0
zeros_size (suc z) = 14

-- how many bytes it takes to bring the words of an argument there from the expression stack
abbrev pub push_size : Argument → ℕ
push_size (ByValue k e) = 1
push_size (OfPlace d) = 1
push_size (OfAll d) = 3
push_size (OfArray copied d high) = 2
push_size (OfText cs) = 2
push_size (OfOpened copied n x) = 2
push_size (Spelled cs count) = 0

-- how many bytes the code of a place, of an expression, and of arguments that go to a frame takes
abbrev mutual
  pub place_size : Designator → ℕ
  place_size (Variable v) = 0
  place_size (Handed n x) = handed_size n
  place_size (Along n x e) = handed_size n + handed_size n + size e + test_size (OfWhole Cardinal) (kind_of e) + 3
  place_size (Held w) = 3
  place_size (Field d i) = place_size d
  place_size (Element d k e) = place_size d + address_size (form_of d) + size e + test_size k (kind_of e) + 5
  place_size (Follow d n) = place_size d + load_size (form_of d) + 1

  pub size : Expression → ℕ
  size (Constant k v) = 3
  size (Taken d k) = place_size d + load_size (form_of d)
  size (One o k a) = size a + one_size o
  size (Two o k a b) = size a + size b + two_size o
  size (Short d a b) = size a + size b + 3
  size (Apply f a) = size a + function_size f (kind_of a)
  size (With s k a) = size s + size a + test_size k (kind_of a) + 2
  size (WithSpan s k a b) = size s + size a + test_size k (kind_of a) + size b + test_size k (kind_of b) + 1
  size (Invoke p n k given) = 9 + pushed_size given
  size (High n x) = handed_size n
  size (Routine p n) = 3
  size (InvokeValue e k given) = 7 + size e + pushed_size given

  pub argument_size : Argument → ℕ
  argument_size (ByValue k e) = size e + test_size k (kind_of e)
  argument_size (OfPlace d) = place_size d + address_size (form_of d)
  argument_size (OfAll d) = place_size d + address_size (form_of d)
  argument_size (OfArray copied d high) = place_size d + address_size (form_of d) + 3
  argument_size (OfText cs) = 6
  argument_size (OfOpened copied n x) = handed_size n + handed_size n
  argument_size (Spelled cs count) = 6 + zeros_size (count - length cs)

  pub pushed_size : Arguments → ℕ
  pushed_size NoMore = 0
  pushed_size (Also a given) = argument_size a + push_size a + pushed_size given

-- those of a request stay on the expression stack
abbrev pub arguments_size : Arguments → ℕ
arguments_size NoMore = 0
arguments_size (Also a given) = argument_size a + arguments_size given

-- the code of a place that is ready for a store
abbrev pub target_size : Designator → ℕ
target_size d = place_size d + ready_size (form_of d)

-- the code of ALLOCATE and DEALLOCATE behind the address and the number of words
abbrev pub allocate_size : Bool → ℕ
allocate_size false = 1
allocate_size true = 5

-- how many bytes the code of a statement takes
abbrev mutual
  pub statement_size : Statement → ℕ
  statement_size (Assign d k e) = target_size d + size e + test_size k (kind_of e) + store_size (form_of d)
  statement_size (Copy d from) = place_size d + address_size (form_of d) + place_size from + address_size (form_of from) + 3
  statement_size (Text d cs) = place_size d + address_size (form_of d) + 3 + 5
  statement_size (Change down d k e) =
      target_size d + again_size (form_of d) + size e + under_size (form_of d) + 1 + test_size k (OfWhole (counted_as k)) + store_size (form_of d)
  statement_size (Member out d k e) = place_size d + address_size (form_of d) + size e + test_size k (kind_of e) + 1
  statement_size (New d n) = place_size d + address_size (form_of d) + 4
  statement_size (Allocate back d e) = place_size d + address_size (form_of d) + size e + test_size (OfWhole Cardinal) (kind_of e) + allocate_size back
  statement_size (Request r given) = arguments_size given + 2
  statement_size (If c a b) = size c + 3 + body_size a + 3 + body_size b
  statement_size (Case e arms) = size e + 3 + 3 + arms_size arms + 5
  statement_size (While c body) = size c + 3 + body_size body + 3
  statement_size (Repeat body c) = body_size body + size c + 3
  statement_size (Loop body) = body_size body + 3
  statement_size Exit = 3
  statement_size Halt = 2
  statement_size Return = 1
  statement_size (Answer k e) = size e + test_size k (kind_of e) + 1
  statement_size (Call p n given) = 6 + pushed_size given
  statement_size (CallValue e given) = 4 + size e + pushed_size given
  statement_size (For v k a b step body) = size a + size b + align_size k (kind_of a) step + 12 + test_size k (base_of k) + store_size (variable_form v) + body_size body + 5
  statement_size (Inside d body) = place_size d + address_size (form_of d) + 3 + body_size body

  pub body_size : Statements → ℕ
  body_size Empty = 0
  body_size (Then s ss) = statement_size s + body_size ss

  -- the bodies of the arms, each with a jump behind it, and the entries of their labels
  pub arms_size : Arms → ℕ
  arms_size NoElse = 2
  arms_size (Else body) = body_size body + 3
  arms_size (Arm labels body rest) = body_size body + 3 + 6 * length labels + arms_size rest

-- with the instructions that enter and leave a body or a procedure, of which a function traps at its end
abbrev pub leave_size : Option Kind → ℕ
leave_size None = 1
leave_size (Some k) = 2

-- with those that copy its parameters that are open arrays by value
abbrev pub copy_size : Shape → ℕ
copy_size Absent = 0
copy_size (Word k) = 0
copy_size Blank = 0
copy_size (Join a b) = 0
copy_size (Row n t) = 0
copy_size (Address t) = 0
copy_size (Opened false t) = 0
copy_size (Opened true t) = 5

abbrev pub copies_size : List Shape → ℕ
copies_size [] = 0
copies_size (t ∷ ts) = copy_size t + copies_size ts

abbrev pub framed_size : Option Kind → List Shape → Statements → ℕ
framed_size result parameters ss = 3 + copies_size parameters + body_size ss + leave_size result

abbrev pub procedures_size : List Procedure → ℕ
procedures_size [] = 0
procedures_size (p ∷ ps) = framed_size p.result (take p.parameters p.locals) p.body + procedures_size ps

abbrev pub code_size : Resolved → ℕ
code_size m = framed_size None [] m.body + procedures_size m.procedures

-- code, and the words of strings behind the variables
pub record IsSmall (m : Resolved) (strings : List ℕ) : Type 0 where
  pub code : code_size m ≤ 32767
  pub words : all_words m.variables + length strings ≤ 32000
