-- Samples of the definitions, computed.
use Rattle.std.proofs.Common.{◌≡◌, ℕ, pos, negsuc, Bool, true, false, List, [], ◌∷◌, ◌++◌, Some, None, refl, ap}
use Rattle.std.specs.Prelude.{◌&&◌, Ok, Err, codes}
use Rattle.lil_base.specs.{Words.{Cardinal, Integer, between}, declared.{operator.TwoOp.TheVariants.{Equal, Less, AtLeast, Plus, Minus, Times, Div, Mod}, request.Request.TheVariants.{Write, WriteCard, WriteInt, WriteOct, WriteHex}}}
use Rattle.lil_base.specs.declared.fault.TrapKind.TheVariants as trap
use Rattle.lil_resolved.specs.Kinds.{Workspaces, Kind, OfWhole, OfTruth, OfCharacter, OfPointer, OfProcedure, OfRange, Scalar, Number, Truth, Character, SetOf, ToObject, Nil, Nothing, within, value_with, Shape, Word, Row, Address, Opened, fields_of}
use Rattle.lil_resolved.specs.Resolved.{Named, OfModule, OfLevel, Designator, Variable, Handed, Along, Field, Element, Chr, Val, Expression, Constant, Taken, Two, Invoke, High, Routine, ByValue, OfPlace, OfAll, OfArray, OfText, OfOpened, Spelled, NoMore, given_in, Answer, If, Statement, Assign, Change, Request, Loop, Halt, Return, Call, CallValue, For, Statements, Empty, Then, Arms, NoElse, Else, Arm, Procedure, Resolved, in_order}
use Rattle.lil_meaning.specs.{Items.{Phase, Global, got, Do, Looping, Turns, End, Item, Perform, Ended, Trapped}, World.{World, Single, piece_of, Stream, Channel, OpenBy, Closed, all_closed}, Steps.{applied, function_value, chosen, turns, exited}, Runs.{src, state_of}, Need.chain_of}

-- ---- the turns of FOR: up to the greatest number, none downward, down by two, and past the limit
turn_counts : turns (pos 65534) (pos 65535) (pos 1) ∷ turns (pos 3) (pos 1) (pos 1) ∷ turns (pos 5) (pos 1) (negsuc 1) ∷ turns (pos 1) (pos 6) (pos 2) ∷ [] ≡ 2 ∷ 0 ∷ 3 ∷ 3 ∷ []
turn_counts = refl

-- ---- DIV rounds toward zero, and MOD is what it leaves
whole_numbers : applied Div (OfWhole Integer) (Number (negsuc 6)) (Number (pos 2)) ∷ applied Mod (OfWhole Integer) (Number (negsuc 6)) (Number (pos 2)) ∷ applied Div (OfWhole Integer) (Number (negsuc 32767)) (Number (negsuc 0))
    ∷ applied Mod (OfWhole Cardinal) (Number (pos 7)) (Number (pos 0)) ∷ [] ≡ Ok (Number (negsuc 2)) ∷ Ok (Number (negsuc 0)) ∷ Err trap.Overflow ∷ Err trap.Divisor ∷ []
whole_numbers = refl

-- ---- a number that no value of a kind has is tested before it becomes one
no_values : function_value (Val OfTruth) (Number (pos 2)) ∷ function_value (Val OfTruth) (Number (negsuc 0)) ∷ function_value (Val OfTruth) (Number (pos 1)) ∷ function_value (Val (OfRange OfTruth (pos 1) (pos 1))) (Number (pos 2))
    ∷ function_value (Val (OfRange OfTruth (pos 1) (pos 1))) (Number (pos 0)) ∷ function_value Chr (Number (pos 256)) ∷ []
    ≡ Err trap.Range ∷ Err trap.Range ∷ Ok (Truth true) ∷ Err trap.Range ∷ Err trap.Range ∷ Err trap.Range ∷ []
no_values = refl

a_character_of_a_range : value_with (OfRange OfCharacter (pos 65) (pos 90)) (pos 65) ≡ Some (Character 65)
a_character_of_a_range = refl

-- ---- values are compared as their kind says, and what has no number isn't compared
comparisons : applied Equal OfCharacter (Character 65) (Character 65) ∷ applied Less OfTruth (Truth false) (Truth true) ∷ applied AtLeast (OfRange (OfWhole Integer) (negsuc 4) (pos 4)) (Number (negsuc 0)) (Number (pos 3)) ∷ []
    ≡ Ok (Truth true) ∷ Ok (Truth true) ∷ Ok (Truth false) ∷ []
comparisons = refl

sets_are_no_numbers : (s t : ℕ → Bool) → applied Equal (OfWhole Cardinal) (SetOf s) (SetOf t) ≡ Ok Nothing
sets_are_no_numbers s t = refl

objects_are_no_characters : (m n : ℕ) → applied Equal OfCharacter (ToObject m) (ToObject n) ≡ Ok Nothing
objects_are_no_characters m n = refl

none_is_no_truth_value : applied Equal OfTruth Nothing (Truth false) ≡ Ok Nothing
none_is_no_truth_value = refl

-- ---- no value is of no kind, and it isn't NIL
no_value : (k : Kind) → within k Nothing ≡ false
no_value (OfRange base low high) = ap (λ (b : Bool). b && between low (pos 0) high) (no_value base)
no_value _ = refl

nil_is_a_value : applied Equal (OfPointer Workspaces) Nil Nil ∷ applied Equal (OfPointer Workspaces) Nil Nothing ∷ applied Equal (OfPointer Workspaces) Nothing Nothing ∷ [] ≡ Ok (Truth true) ∷ Ok (Truth false) ∷ Ok (Truth false) ∷ []
nil_is_a_value = refl

-- ---- CASE takes the first arm with the label, or what stands behind ELSE
abbrev arms : Statements → Statements → Arms → Arms
arms a b other = Arm (record { low = pos 1; high = pos 3 } ∷ []) a (Arm (record { low = pos 3; high = pos 5 } ∷ []) b other)

first_arm : (a b : Statements) → chosen (arms a b NoElse) (pos 3) ≡ Some a
first_arm a b = refl

second_arm : (a b : Statements) → chosen (arms a b NoElse) (pos 4) ≡ Some b
second_arm a b = refl

other_arm : (a b c : Statements) → chosen (arms a b (Else c)) (pos 7) ≡ Some c
other_arm a b c = refl

no_arm : (a b : Statements) → chosen (arms a b NoElse) (pos 7) ≡ None
no_arm a b = refl

-- ---- EXIT leaves all that stands before the end of the LOOP around, and that end
out_of_turns : (x : Named) (kind : Kind) (body inner : Statements) (k : List Item) → exited (Perform (Turns x kind (pos 2) (pos 1) 7 body) ∷ Perform (Looping inner) ∷ k) ≡ k
out_of_turns x kind body inner k = refl

-- ---- whole runs, in a world where nothing is open
abbrev idle : World → World
idle w = record w { streams = []; channels = [] }

abbrev c : Designator
c = Variable (OfModule 0)

abbrev kc : Kind
kc = OfWhole Cardinal

abbrev cardinal : ℕ → Expression
cardinal n = Constant (OfWhole Cardinal) (Number (pos n))

abbrev program : List Statement → Resolved
program statements = record { name = []; targets = []; signatures = []; names = (99 ∷ []) ∷ []; variables = Word kc ∷ []; procedures = []; body = in_order statements }

abbrev writes_x : Statement
writes_x = Request Write (given_in (ByValue OfCharacter (Constant OfCharacter (Character 120)) ∷ []))

a_character : (w : World) → (state_of (program (writes_x ∷ [])) w 5).world.screen ≡ w.screen ++ 120 ∷ []
a_character w = refl

an_end : (w : World) → (state_of (program (writes_x ∷ [])) (idle w) 7).phase ≡ Ended
an_end w = refl

-- a FOR without a turn leaves its variable
no_turn : (w : World) → got (state_of (program (Assign c kc (cardinal 7) ∷ For (OfModule 0) kc (cardinal 3) (cardinal 1) (pos 1) Empty ∷ [])) (idle w) 20).cells (record { root = Global 1 0; path = [] }) ≡ Number (pos 7)
no_turn w = refl

-- a FOR with turns leaves the value of the last one
last_turn : (w : World) → got (state_of (program (For (OfModule 0) kc (cardinal 1) (cardinal 6) (pos 2) Empty ∷ [])) (idle w) 20).cells (record { root = Global 1 0; path = [] }) ≡ Number (pos 5)
last_turn w = refl

-- a FOR over truth values stops where its kind has no more
a_turn_too_many : (w : World) → (state_of (program (For (OfModule 0) OfTruth (cardinal 0) (cardinal 2) (pos 1) Empty ∷ [])) (idle w) 20).phase ≡ Trapped (record { kind = trap.Range; «module» = []; procedure = None })
a_turn_too_many w = refl

-- ---- INC, DEC, HALT and RETURN
-- INC tests the sum against its type first, and then against the variable's
past_the_last : (w : World) → (state_of (program (Change false c OfTruth (cardinal 2) ∷ [])) (idle w) 20).phase ≡ Trapped (record { kind = trap.Range; «module» = []; procedure = None })
past_the_last w = refl

below_zero : (w : World) → (state_of (program (Change true c kc (cardinal 1) ∷ [])) (idle w) 20).phase ≡ Trapped (record { kind = trap.Overflow; «module» = []; procedure = None })
below_zero w = refl

a_halt : (w : World) → (state_of (program (Halt ∷ writes_x ∷ [])) (idle w) 20).phase ≡ Trapped (record { kind = trap.Halted; «module» = []; procedure = None })
a_halt w = refl

abbrev returning : Resolved
returning = program (Loop (Then Return Empty) ∷ writes_x ∷ [])

a_return : (w : World) → (state_of returning (idle w) 20).phase ≡ Ended
a_return w = refl

-- RETURN is the end of its body, out of a LOOP too: after its one step nothing is left, or the next body is at hand
a_return_at_once : (w : World) → ((state_of returning (idle w) 2).items ≡ []) × ((state_of returning (idle w) 3).phase ≡ Ended)
a_return_at_once w = (refl, refl)

a_next_body : (w : World) → (src (returning ∷ program (writes_x ∷ []) ∷ []) (0 ∷ 1 ∷ []) (1 ∷ 2 ∷ []) w 2).items ≡ Perform (Do writes_x) ∷ Perform (End 1) ∷ []
a_next_body w = refl

-- ---- elements and fields: a place is fixed before the value, an index outside its kind traps, and other parts stay
abbrev digit : Kind
digit = OfRange (OfWhole Cardinal) (pos 3) (pos 5)

abbrev pairs : Shape
pairs = Row 3 (fields_of (Word OfTruth ∷ Word kc ∷ []))

abbrev table : List Statement → Resolved
table statements = record { name = []; targets = []; signatures = []; names = (97 ∷ []) ∷ (99 ∷ []) ∷ []; variables = pairs ∷ Word kc ∷ []; procedures = []; body = in_order statements }

abbrev second : Expression → Designator
second e = Field (Element (Variable (OfModule 0)) digit e) 1

abbrev held : World → List Statement → List ℕ → Scalar
held w statements path = got (state_of (table statements) (idle w) 60).cells (record { root = Global 1 0; path = path })

an_element : (w : World) → held w (Assign (second (cardinal 4)) kc (cardinal 7) ∷ []) (1 ∷ 1 ∷ []) ∷ held w (Assign (second (cardinal 4)) kc (cardinal 7) ∷ []) (1 ∷ 0 ∷ []) ∷ held w (Assign (second (cardinal 4)) kc (cardinal 7) ∷ []) (0 ∷ 1 ∷ []) ∷ []
    ≡ Number (pos 7) ∷ Truth false ∷ Number (pos 0) ∷ []
an_element w = refl

no_element : (w : World) → (state_of (table (Assign (second (cardinal 6)) kc (cardinal 7) ∷ [])) (idle w) 30).phase ≡ Trapped (record { kind = trap.Range; «module» = []; procedure = None })
no_element w = refl

an_index_that_changes : (w : World)
    → held w (Assign (Variable (OfModule 1)) kc (cardinal 3) ∷ Change false (second (Taken (Variable (OfModule 1)) kc)) kc (cardinal 2) ∷ Assign (second (cardinal 5)) kc (Taken (second (Taken (Variable (OfModule 1)) kc)) kc) ∷ []) (2 ∷ 1 ∷ []) ≡ Number (pos 2)
an_index_that_changes w = refl

-- ---- variables of procedures: zero at each call, also at one from inside; each call has its own, and a procedure inside has those of the call
-- around it. An outer one that a FOR counts holds its last value afterwards.
abbrev own : Designator
own = Variable (OfLevel 0 0)

abbrev outer : Designator
outer = Variable (OfLevel 1 0)

abbrev procedure : List ℕ → List Statement → Procedure
procedure around statements = record { name = 112 ∷ []; around = around; locals = Word kc ∷ []; parameters = 0; result = None; body = in_order statements }

-- p adds its variable to c, changes it, calls q inside, which changes p's variable and has one of its own, and adds p's variable to c again
abbrev nested : Resolved
nested = record (program (Call 1 0 NoMore ∷ [])) {
  procedures =
      procedure [] (Change false c kc (Taken own kc) ∷ Change false own kc (cardinal 3) ∷ Call 2 1 NoMore ∷ Change false c kc (Taken own kc) ∷ [])
      ∷ procedure (1 ∷ []) (Change false outer kc (cardinal 4) ∷ Change false own kc (cardinal 9) ∷ For (OfLevel 1 0) kc (cardinal 5) (cardinal 6) (pos 1) Empty ∷ Change false outer kc (Taken own kc) ∷ [])
      ∷ [];
}

a_nested_call : (w : World) → got (state_of nested (idle w) 60).cells (record { root = Global 1 0; path = [] }) ≡ Number (pos 15)
a_nested_call w = refl

-- each of two calls begins with zero
abbrev twice : Resolved
twice = record (program (Call 1 0 NoMore ∷ Call 1 0 NoMore ∷ [])) { procedures = procedure [] (Change false own kc (cardinal 3) ∷ Change false c kc (Taken own kc) ∷ []) ∷ [] }

two_calls : (w : World) → got (state_of twice (idle w) 40).cells (record { root = Global 1 0; path = [] }) ≡ Number (pos 6)
two_calls w = refl

-- ---- parameters: p(n: CARDINAL; VAR v: CARDINAL) adds n to v, and has a variable besides, which is zero
abbrev adds : Procedure
adds = record { name = 112 ∷ []; around = []; locals = Word kc ∷ Address (Word kc) ∷ Word kc ∷ []; parameters = 2; result = None; body = in_order (Change false (Handed 0 1) kc (Taken own kc) ∷ Change false (Handed 0 1) kc (Taken (Variable (OfLevel 0 2)) kc) ∷ Change false own kc (cardinal 90) ∷ []) }

abbrev calls : List Statement → Resolved
calls statements = record (program statements) { procedures = adds ∷ [] }

abbrev adding : Expression → Designator → Statement
adding e d = Call 1 0 (given_in (ByValue kc e ∷ OfPlace d ∷ []))

-- a value is taken at its turn, and a place stays
two_arguments : (w : World) → got (state_of (calls (Assign c kc (cardinal 7) ∷ adding (Taken c kc) c ∷ adding (Taken c kc) c ∷ [])) (idle w) 60).cells (record { root = Global 1 0; path = [] }) ≡ Number (pos 28)
two_arguments w = refl

-- arguments are taken from left to right, and a trap there is the caller's
from_left_to_right : (w : World)
    → (state_of (record (table (adding (Two Div kc (cardinal 1) (cardinal 0)) (second (cardinal 6)) ∷ [])) { procedures = adds ∷ [] }) (idle w) 40).phase ≡ Trapped (record { kind = trap.Divisor; «module» = []; procedure = None })
from_left_to_right w = refl

-- an argument outside its parameter's kind is a trap of the caller
outside_the_parameter : (w : World) → (state_of (calls (Call 1 0 (given_in (ByValue digit (cardinal 6) ∷ OfPlace c ∷ [])) ∷ [])) (idle w) 40).phase ≡ Trapped (record { kind = trap.Range; «module» = []; procedure = None })
outside_the_parameter w = refl

-- a call counts from its arguments on: its frame of seven words and 17 more, beside the body's four and 17
a_pending_call : (w : World) → chain_of (calls (adding (cardinal 3) c ∷ []) ∷ []) (state_of (calls (adding (cardinal 3) c ∷ [])) (idle w) 1) ∷ chain_of (calls (adding (cardinal 3) c ∷ []) ∷ []) (state_of (calls (adding (cardinal 3) c ∷ [])) (idle w) 3) ∷ chain_of (calls (adding (cardinal 3) c ∷ []) ∷ []) (state_of (calls (adding (cardinal 3) c ∷ [])) (idle w) 6) ∷ []
    ≡ 45 ∷ 45 ∷ 45 ∷ []
a_pending_call w = refl

-- ---- an array by value: the call has its own
abbrev numbers : Shape
numbers = Row 3 (Word kc)

abbrev third : Designator → Designator
third d = Element d digit (cardinal 3)

abbrev takes_all : Procedure
takes_all = record { name = 112 ∷ []; around = []; locals = numbers ∷ []; parameters = 1; result = None; body = in_order (Assign (third own) kc (cardinal 9) ∷ Assign (Variable (OfModule 1)) kc (Taken (third own) kc) ∷ []) }

abbrev hands_all : Resolved
hands_all = record (table (Assign (third (Variable (OfModule 0))) kc (cardinal 2) ∷ Call 1 0 (given_in (OfAll (Variable (OfModule 0)) ∷ [])) ∷ [])) { variables = numbers ∷ Word kc ∷ []; procedures = takes_all ∷ [] }

a_copy : (w : World) → (got (state_of hands_all (idle w) 60).cells (record { root = Global 1 1; path = [] }) ≡ Number (pos 9)) × (got (state_of hands_all (idle w) 60).cells (record { root = Global 1 0; path = 0 ∷ [] }) ≡ Number (pos 2))
a_copy w = (refl, refl)

-- ---- open arrays: p(VAR a: ARRAY OF CARDINAL), or by value, is called with the three numbers of the module, whose other variable is c
abbrev element : ℕ → Designator
element i = Along 0 0 (cardinal i)

abbrev counted : Designator
counted = Variable (OfModule 1)

abbrev opened : Bool → List Statement → Procedure
opened copied statements = record { name = 112 ∷ []; around = []; locals = Opened copied (Word kc) ∷ Word kc ∷ []; parameters = 1; result = None; body = in_order statements }

abbrev first_number : Designator
first_number = Element (Variable (OfModule 0)) digit (cardinal 3)

abbrev hands_array : Bool → List Procedure → Resolved
hands_array copied procedures = record (table (Assign first_number kc (cardinal 2) ∷ Assign (Element (Variable (OfModule 0)) digit (cardinal 5)) kc (cardinal 5) ∷ Call 1 0 (given_in (OfArray copied (Variable (OfModule 0)) 2 ∷ [])) ∷ [])) { variables = numbers ∷ Word kc ∷ []; procedures = procedures }

abbrev left_in : World → Resolved → ℕ → List ℕ → Scalar
left_in w m x path = got (state_of m (idle w) 150).cells (record { root = Global 1 x; path = path })

-- the sum from 0 to HIGH
abbrev sums : Statement
sums = For (OfLevel 0 1) kc (cardinal 0) (High 0 0) (pos 1) (in_order (Change false counted kc (Taken (Along 0 0 (Taken (Variable (OfLevel 0 1)) kc)) kc) ∷ []))

a_sum : (w : World) → (left_in w (hands_array false (opened false (sums ∷ []) ∷ [])) 1 [] ≡ Number (pos 7)) × (left_in w (hands_array true (opened true (sums ∷ []) ∷ [])) 1 [] ≡ Number (pos 7))
a_sum w = (refl, refl)

a_high : (w : World) → left_in w (hands_array false (opened false (Assign counted kc (High 0 0) ∷ []) ∷ [])) 1 [] ≡ Number (pos 2)
a_high w = refl

-- the array that was handed in changes with a VAR parameter, and not with one by value, which has its change
abbrev changes_first : List Statement
changes_first = Assign (element 0) kc (cardinal 9) ∷ Assign counted kc (Taken (element 0) kc) ∷ []

a_change : (w : World) → (left_in w (hands_array false (opened false changes_first ∷ [])) 0 (0 ∷ []) ≡ Number (pos 9)) × (left_in w (hands_array true (opened true changes_first ∷ [])) 0 (0 ∷ []) ≡ Number (pos 2)) × (left_in w (hands_array true (opened true changes_first ∷ [])) 1 [] ≡ Number (pos 9))
a_change w = (refl, refl, refl)

-- an index above HIGH, or below zero, is a trap
abbrev indexed_by : World → Expression → Phase
indexed_by w e = (state_of (hands_array false (opened false (Assign (Along 0 0 e) kc (cardinal 1) ∷ []) ∷ [])) (idle w) 150).phase

no_such_element : (w : World) → indexed_by w (cardinal 3) ∷ indexed_by w (Constant (OfWhole Integer) (Number (negsuc 0))) ∷ indexed_by w (cardinal 2) ∷ []
    ≡ Trapped (record { kind = trap.Range; «module» = []; procedure = Some (112 ∷ []) }) ∷ Trapped (record { kind = trap.Range; «module» = []; procedure = Some (112 ∷ []) }) ∷ Ended ∷ []
no_such_element w = refl

-- it is handed on to another procedure, as it is or as a copy
abbrev handed_over : Bool → List Procedure
handed_over copied = opened false (Call 2 0 (given_in (OfOpened copied 0 0 ∷ [])) ∷ Assign counted kc (Taken (element 0) kc) ∷ []) ∷ opened copied changes_first ∷ []

a_handing_on : (w : World) → (left_in w (hands_array false (handed_over false)) 1 [] ≡ Number (pos 9)) × (left_in w (hands_array false (handed_over true)) 1 [] ≡ Number (pos 2))
a_handing_on w = (refl, refl)

-- a call's copy counts from its first statement on: its frame of 4 + 2 + 1 + 3 words, the copy of three and 17 more, beside the body's four and 17
a_copy_counts : (w : World) → chain_of (hands_array true (opened true (sums ∷ []) ∷ []) ∷ []) (state_of (hands_array true (opened true (sums ∷ []) ∷ [])) (idle w) 20) ∷ chain_of (hands_array true (opened true (sums ∷ []) ∷ []) ∷ []) (state_of (hands_array true (opened true (sums ∷ []) ∷ [])) (idle w) 24) ∷ []
    ≡ 48 ∷ 51 ∷ []
a_copy_counts w = refl

-- a string goes to an open array as it is, and an empty one as one 0C
abbrev text_high : List ℕ → Resolved
text_high cs = record (table (Call 1 0 (given_in (OfText cs ∷ [])) ∷ [])) {
  variables = Word OfCharacter ∷ Word kc ∷ [];
  procedures = record (opened true (Assign (Variable (OfModule 0)) OfCharacter (Taken (element 0) OfCharacter) ∷ Assign counted kc (High 0 0) ∷ [])) { locals = Opened true (Word OfCharacter) ∷ [] } ∷ [];
}

a_string : (w : World) → (left_in w (text_high (98 ∷ 99 ∷ [])) 0 [] ≡ Character 98) × (left_in w (text_high (98 ∷ 99 ∷ [])) 1 [] ≡ Number (pos 1)) × (left_in w (text_high []) 0 [] ≡ Character 0) × (left_in w (text_high []) 1 [] ≡ Number (pos 0))
a_string w = (refl, refl, refl, refl)

-- ---- functions: f(n) is 1 where n is 0, else n * f(n - 1)
abbrev factorial_of : Expression → Expression
factorial_of e = Invoke 1 0 kc (given_in (ByValue kc e ∷ []))

abbrev factorial : Procedure
factorial = record { name = 102 ∷ []; around = []; locals = Word kc ∷ []; parameters = 1; result = Some kc; body = in_order (If (Two Equal kc (Taken own kc) (cardinal 0)) (in_order (Answer kc (cardinal 1) ∷ [])) Empty ∷ Answer kc (Two Times kc (Taken own kc) (factorial_of (Two Minus kc (Taken own kc) (cardinal 1)))) ∷ []) }

a_recursive_function : (w : World) → got (state_of (record (program (Assign c kc (factorial_of (cardinal 4)) ∷ [])) { procedures = factorial ∷ [] }) (idle w) 200).cells (record { root = Global 1 0; path = [] }) ≡ Number (pos 24)
a_recursive_function w = refl

-- a left operand is taken before the function of the right one changes it
abbrev changes : Procedure
changes = record { name = 103 ∷ []; around = []; locals = []; parameters = 0; result = Some kc; body = in_order (Assign c kc (cardinal 9) ∷ Answer kc (cardinal 1) ∷ []) }

a_left_operand_first : (w : World) → got (state_of (record (program (Assign c kc (cardinal 3) ∷ Assign c kc (Two Plus kc (Taken c kc) (Invoke 1 0 kc NoMore)) ∷ [])) { procedures = changes ∷ [] }) (idle w) 60).cells (record { root = Global 1 0; path = [] }) ≡ Number (pos 4)
a_left_operand_first w = refl

-- one that comes to its end has no value, and a value outside the function's kind is its trap too
abbrev function_with : List Statement → Resolved
function_with statements = record (program (Assign c kc (Invoke 1 0 digit NoMore) ∷ [])) { procedures = record changes { result = Some digit; body = in_order statements } ∷ [] }

a_function_without_value : (w : World) → (state_of (function_with []) (idle w) 40).phase ≡ Trapped (record { kind = trap.Function; «module» = []; procedure = Some (103 ∷ []) })
a_function_without_value w = refl

a_value_outside : (w : World) → (state_of (function_with (Answer digit (cardinal 77) ∷ [])) (idle w) 40).phase ≡ Trapped (record { kind = trap.Range; «module» = []; procedure = Some (103 ∷ []) })
a_value_outside w = refl

-- ---- procedures as values: a variable that holds none traps, before the arguments; else the one that it holds is called, with a string cell by cell
abbrev pv : Kind
pv = OfProcedure 20

abbrev letters : Shape
letters = Row 3 (Word OfCharacter)

-- writes the second character of what it is given
abbrev writes_second : Procedure
writes_second = record { name = 112 ∷ []; around = []; locals = letters ∷ []; parameters = 1; result = None; body = Then (Request Write (given_in (ByValue OfCharacter (Taken (Element (Variable (OfLevel 0 0)) (OfRange kc (pos 0) (pos 2)) (cardinal 1)) OfCharacter) ∷ []))) Empty }

abbrev of_values : List Statement → Resolved
of_values statements = record { name = []; targets = []; signatures = []; names = (102 ∷ []) ∷ []; variables = Word pv ∷ []; procedures = writes_second ∷ []; body = in_order statements }

abbrev calls_it : Statement
calls_it = CallValue (Taken c pv) (given_in (Spelled (72 ∷ 73 ∷ []) 3 ∷ []))

no_procedure : (w : World) → (state_of (of_values (calls_it ∷ [])) (idle w) 20).phase ≡ Trapped (record { kind = trap.NoProcedure; «module» = []; procedure = None })
no_procedure w = refl

a_value_called : (w : World) → (state_of (of_values (Assign c pv (Routine 1 20) ∷ calls_it ∷ [])) (idle w) 40).world.screen ≡ w.screen ++ 73 ∷ []
a_value_called w = refl

-- ---- the end of a level closes its stream first, and then its channels, a step each; a channel of another level stays
abbrev stream : Stream
stream = record { number = 1; level = 1; name = 70 ∷ []; content = 72 ∷ []; place = 0; changed = true }

abbrev channel : ℕ → Channel
channel level = record { phase = OpenBy level; taken = []; give = [] }

abbrev busy : World → World
busy w = record w { streams = stream ∷ []; channels = channel 2 ∷ channel 1 ∷ [] }

abbrev halts : Resolved
halts = program (Halt ∷ [])

a_stream_first : (w : World) → ((state_of halts (busy w) 2).world.writes ≡ w.writes ++ (70 ∷ [], 72 ∷ []) ∷ []) × ((state_of halts (busy w) 2).world.channels ≡ channel 2 ∷ channel 1 ∷ [])
a_stream_first w = (refl, refl)

a_last_closing : (w : World) → ((state_of halts (busy w) 3).world ≡ all_closed 1 (busy w)) × ((state_of halts (busy w) 3).world.channels ≡ channel 2 ∷ record (channel 1) { phase = Closed } ∷ [])
a_last_closing w = (refl, refl)

a_trap_behind_closings : (w : World) → (state_of halts (busy w) 4).phase ≡ Trapped (record { kind = trap.Halted; «module» = []; procedure = None })
a_trap_behind_closings w = refl

an_end_behind_closings : (w : World) → (state_of (program []) (busy w) 4).phase ≡ Ended
an_end_behind_closings w = refl

-- ---- pieces: a number with blanks before it, the least INTEGER, the greatest word in octal, and one in hexadecimal
pieces : piece_of WriteCard (Single 17 ∷ Single 4 ∷ []) ∷ piece_of WriteInt (Single 32768 ∷ Single 1 ∷ []) ∷ piece_of WriteOct (Single 65535 ∷ Single 0 ∷ []) ∷ piece_of WriteHex (Single 48879 ∷ Single 5 ∷ []) ∷ []
    ≡ codes "  17" ∷ codes "-32768" ∷ codes "177777" ∷ codes " BEEF" ∷ []
pieces = refl
