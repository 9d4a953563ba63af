-- What items need from the code: where they stand, and where the items behind them go on. This speaks of homes and of the expression
-- stack, and never of the store or of the cells.
use Rattle.std.proofs.Common.{◌≡◌, ℕ, zero, suc, ◌+◌, ◌-◌, ◌%◌, ◌<◌, ◌≤◌, ◌⊎◌, min, true, false, Some, None, List, [], ◌∷◌, ◌++◌, length, map, get_or, reverse, Bool, refl}
use Rattle.std.specs.Prelude.{ℤ, ◌+ℤ◌, Option, ◌==◌, slice_get}
use Rattle.std.specs.List.{list_any}
use Rattle.lil_base.specs.{Words.{between, word_of}, declared.operator.{TwoOp.TwoOp}, Requests.request_number}
use Rattle.lil_resolved.specs.Kinds.{result_of, result_here, Workspaces, Kind, OfTruth, OfCharacter, OfSet, OfPointer, base_of, is_plain, takes_value, stores_value, least, greatest, numbers, Scalar, within, scalar_word, procedure_word, Shape, Word, Row, Address, Opened, words, is_there, part_at, offset, element_of, all_words, locals_at, Scope, MayCall, parameters_of, parameters_at, procedure_by}
use Rattle.lil_resolved.specs.{Resolved.{Named, Designator, Variable, Handed, Along, Held, Field, Element, Follow, Expression, Constant, Taken, One, Two, Short, Apply, With, WithSpan, Invoke, High, Routine, InvokeValue, Argument, Arguments, NoMore, Also, ByValue, OfPlace, OfAll, OfArray, OfText, OfOpened, Spelled, Statement, Assign, Copy, Text, Change, Member, New, Allocate, Request, Inside, If, Case, While, Repeat, Loop, Exit, Halt, Return, Answer, Call, CallValue, For, Statements, Empty, Then, Resolved, kind_of, is_relation, result_kind, function_kind, shape_of}, Sizes.{place_depth, depth}}
use Rattle.lil_resolved.specs.Sound.{is_text, request_parameters, parameters_given, AreServed}
use Rattle.lil_meaning.specs.Items.{Root, Local, Place, Under, alone, Datum, Scalars, Places, Wholes, Opens, Texts, Hole, Get, IndexBy, IndexAt, AlongAt, Pointed, SetTo, StoreAt, CopyTo, CopyFrom, TextTo, NewAt, AllocateBy, AllocateAt, ChangeBy, ChangeAt, OneOf, LeftOf, RightOf, ShortOf, ApplyTo, WithMember, MemberOf, WithMembers, MembersFrom, MembersTo, MemberBy, MemberAt, Callee, ByNumber, OfValue, callee_number, callee_levels, callee_owner, Requested, Called, Pass, PassPlace, PassAll, PassArray, Calling, Returning, Choose, Turn, Again, Pick, Hold, StartOf, LimitOf, Task, Do, Passing, Spelling, Until, Looping, Turns, Holding, End, Item, Value, Evaluate, PlaceOf, Fill, Perform, Activation, Parked, loaded_at, Part as PartOf}
use Rattle.lil_meaning.specs.{Steps.{turns}, Need.{frame_of as words_of}}
use Rattle.lil_asm.specs.{declared.instr.Instr.{Instr, TheVariants.{Liw, Psh, Psm, Cll, Clf, Ent, Rtn, Rst, Jmp, Svc}}, Requests.request_words}
use Rattle.lil_mcode.specs.Table.{Module, Kept, body_entry}
use Rattle.lil_base.specs.declared.request.Request as request
use Rattle.lil_table.specs.Rows.{Layout, ValueCallRow, ZerosRow, leave_code, copies_code, holding, framed, exactly, HasText, text_words, arguments_words, IsAt, InstrsAt, second_code, test_code, Access, InData, InFrame, OnTop, access_of, address_code, readied, PlaceAt, ExpressionAt, ArgumentsAt, GivenAt, given_words, StatementAt, BodyAt, TurnsRow, RoundRow, loop_place, Behind as Past}
use Rattle.lil_match.specs.Homes.{word_for, Refers, IsWord, Home, address, shape_there}

-- whether a parameter and a datum are open arrays
abbrev pub is_open : Shape → Bool
is_open (Opened copied t) = true
is_open _ = false

abbrev pub is_array : Datum → Bool
is_array (Opens p high) = true
is_array (Texts cs) = true
is_array _ = false

-- what a request may take: a value that is no reference, or an open array of characters
abbrev pub IsTaken : Shape → Type 0
IsTaken (Word k) = is_plain k ≡ true
IsTaken (Opened copied t) = t ≡ Word OfCharacter
IsTaken _ = ⊥

abbrev pub AreTaken : List Shape → Type 0
AreTaken [] = Unit {0}
AreTaken (t ∷ ts) = IsTaken t × AreTaken ts

-- the arguments of a request, those that are done, by whether they are arrays, and those that are left, are arrays where its parameters are
pub record TakesAll (ts : Scope) (r : request.Request) (done : List Bool) (left : Arguments) : Type 0 where
  pub same : map is_open (request_parameters r) ≡ done ++ map is_open (parameters_given ts left)
  pub taken : AreTaken (parameters_given ts left)
  pub served : AreServed left

-- What comes from the items before: nothing, a value of a kind, or the place of a designator, as the code has it.
pub data Mode : Type 0 where
  Quiet : Mode
  ValueOf : (k : Kind) → Mode
  AtPlace : (d : Designator) → Mode

-- the address of a place on an expression stack with others below it, over the data from a word on and the frames of the procedures at hand
abbrev pub Reaches : (data' : ℕ) → (display : List ℕ) → Access → ℕ → List ℕ → List ℕ → Type 0
Reaches data' display (InData o) address stack below = (address ≡ data' + o) × (stack ≡ below)
Reaches data' display (InFrame n o) address stack below = (first : ℕ) × (slice_get display n ≡ Some first) × (address ≡ first + o) × (stack ≡ below)
Reaches data' display OnTop address stack below = stack ≡ address ∷ below
Reaches data' display (Past o) address stack below = (u : ℕ) × (address ≡ u + o) × (stack ≡ u ∷ below)

-- the expression stack where a place is kept for a second use
abbrev pub doubled : Access → List ℕ → List ℕ
doubled (InData o) stack = stack
doubled (InFrame n o) stack = stack
doubled OnTop stack = stack ++ stack
doubled (Past o) stack = stack ++ stack

-- what is around the items that are left: the place behind the LOOP, if there is one, and how many words of the frame the variables, the FORs
-- and the WITHs take
pub record Around : Type 0 where
  pub exit : Option ℕ
  pub taken : ℕ

-- from a place of the code, with an expression stack, with so many jumps owed, inside of what is around
abbrev pub Reach : Type 1
Reach = Mode → ℕ → List ℕ → ℕ → Around → Type 0

-- so many jumps lead from one place to another
abbrev pub Jumps : List ℕ → ℕ → ℕ → ℕ → Type 0
Jumps code zero p q = p ≡ q
Jumps code (suc j) p q = (to : ℕ) × (gap : ℕ) × IsAt code p (Jmp to) gap × (to < length code) × Jumps code j to q

-- each of so many turns has a number of the kind, from x on
abbrev pub TurnsFit : Kind → ℤ → ℤ → ℕ → Type 0
TurnsFit k x step zero = Unit {0}
TurnsFit k x step (suc left) = (between (least k) x (greatest k) ≡ true) × TurnsFit k (x +ℤ step) step left

-- Where the items behind go on: with what, and from which place and expression stack.
pub record Onward : Type 0 where
  pub mode : Mode
  pub place : ℕ
  pub stack : List ℕ

-- what an item needs at its place, and where it leads
pub record Part : Type 1 where
  pub Here : Type 0
  pub onto : Here → Onward

abbrev pub part : (Here : Type 0) → (Here → Onward) → Part
part Here onto = record { Here = Here; onto = onto }

abbrev pub never : Part
never = record { Here = ⊥; onto = λ x. absurd x }

abbrev pub on : Mode → ℕ → List ℕ → Onward
on t p stack = record { mode = t; place = p; stack = stack }

-- an item whose part is met, and then the rows of the items behind it
pub record Waits (w : Part) (rest : Reach) (c : ℕ) (a : Around) : Type 0 where
  pub part : w.Here
  pub then : rest (w.onto part).mode (w.onto part).place (w.onto part).stack c a

-- A procedure or a body that runs or is to run: its activation, its module's number, its own number in there, its module's entry in the
-- table, where its code begins and what is behind it, the code by itself, its layout, the first word of its frame, how many words its copies of
-- open arrays, and above them its pending calls, have put above that, how many of these the copies have, the first words of the frames from it
-- on outwards by its static links, and the place where its return goes on.
pub record Frame : Type 0 where
  pub activation : ℕ
  pub number : ℕ
  pub procedure : ℕ
  pub own : Module
  pub entry : ℕ
  pub after : ℕ
  pub piece : List ℕ
  pub layout : Layout
  pub at : ℕ
  pub pushed : ℕ
  pub copied : ℕ
  pub display : List ℕ
  pub back : ℕ

-- the shapes of its variables and those of its parameters, and how many words the variables take
abbrev pub locals_in : Frame → List Shape
locals_in f = locals_at f.layout.scope 0

abbrev pub parameters_in : Frame → List Shape
parameters_in f = parameters_at f.layout.scope 0

abbrev pub own_words : Frame → ℕ
own_words f = all_words (locals_in f)

-- the first word above a frame and above what copies and pending calls have put there
abbrev pub top_of : Frame → ℕ
top_of f = f.at + (f.layout.frame + f.pushed)

-- what is around its first and its last item
abbrev pub outside : Frame → Around
outside f = record { exit = None; taken = own_words f }

-- a stack of frames: its words, the running frame, those under it from the topmost down, and the bodies that are to run behind
pub record Stack : Type 0 where
  pub base : ℕ
  pub limit : ℕ
  pub frame : Frame
  pub callers : List Frame
  pub bodies : List Frame

-- all its frames, those of the bodies last
abbrev pub frames_of : Stack → List Frame
frames_of s = s.frame ∷ (s.callers ++ s.bodies)

-- What all stands in: the library of the source, the table of library, the activations, what doesn't run on both sides, where the cells
-- lie, and the stack that runs.
pub record Setting : Type 0 where
  pub library : List Resolved
  pub loaded : List ℕ
  pub table : List Module
  pub activations : List Activation
  pub parked : List Parked
  pub kept : List Kept
  pub home : Home
  pub stack : Stack

abbrev pub frame_of : Setting → Frame
frame_of ctx = ctx.stack.frame

-- the layout of the running frame, where jumps have the places themselves
abbrev pub laid : Frame → record { layout : Layout }
laid f = record { layout = record (f.layout) { target = exactly } }

abbrev pub laid_out : Setting → record { layout : Layout }
laid_out ctx = laid ctx.stack.frame

-- the same with another home
abbrev pub at_home : Setting → Home → Setting
at_home ctx h = record ctx { home = h }

-- the same with another home and another limit of the stack
abbrev pub moved : Setting → Home → ℕ → Setting
moved ctx x n = record ctx { home = x; stack = record (ctx.stack) { limit = n } }

-- the same with more activations too
abbrev pub renewed : Setting → List Activation → Home → ℕ → Setting
renewed ctx more x n = record ctx { activations = more; home = x; stack = record (ctx.stack) { limit = n } }

-- inside of a WITH too: the running frame's layout has its record, of this shape, whose address is in this word
abbrev pub inside_with : Setting → Shape → ℕ → Setting
inside_with ctx t n = record ctx { stack = record (ctx.stack) { frame = record (ctx.stack.frame) { layout = holding ctx.stack.frame.layout t n } } }

-- a pending call has put so many words more above the running frame
abbrev pub pushing : Setting → ℕ → Setting
pushing ctx n = record ctx { stack = record (ctx.stack) { frame = record (ctx.stack.frame) { pushed = n + ctx.stack.frame.pushed } } }

-- another frame runs, with these under it and these bodies behind
abbrev pub with_frames : Setting → Frame → List Frame → List Frame → Setting
with_frames ctx f gs bs = record ctx { stack = record (ctx.stack) { frame = f; callers = gs; bodies = bs } }

abbrev pub is_of : ℕ → Frame → Bool
is_of a f = f.activation == a

-- the roots that the items of frames can name
abbrev pub sees : List Frame → Root → Bool
sees fs (Local a x) = list_any (is_of a) fs
sees fs _ = true

-- jumps, and then a row
pub record AfterJumps (code : List ℕ) (row : Reach) (t : Mode) (p : ℕ) (stack : List ℕ) (c : ℕ) (a : Around) : Type 0 where
  pub start : ℕ
  pub jumps : ℕ
  pub later : ℕ
  pub way : Jumps code jumps p start
  pub there : row t start stack later a
  pub count : c ≡ jumps + later

-- the static link of a procedure that is declared so many levels out is the first word of the frame around it
abbrev pub IsLink : (display : List ℕ) → ℕ → ℕ → Type 0
IsLink display zero w = Unit {0}
IsLink display (suc i) w = slice_get display i ≡ Some w

-- ---- what is called
-- the fourth word of the mark of one that is a value: the value
abbrev pub HasValue : Callee → ℕ → Type 0
HasValue (ByNumber p n) w = Unit {0}
HasValue (OfValue m p) w = (w ≡ procedure_word m p) × (p < 256)

abbrev pub call_code : Callee → ℕ → Instr
call_code (ByNumber p n) w = Cll p w
call_code (OfValue m p) w = Clf w

-- ---- with what the one who calls goes on
-- nothing, or the value of a function, of a kind, and below it the words that were saved before the call
pub data Resumed : Type 0 where
  AStatement : Resumed
  AValue : (k : Kind) (saved : List ℕ) → Resumed

abbrev pub resumed_mode : Resumed → Mode
resumed_mode AStatement = Quiet
resumed_mode (AValue k saved) = ValueOf (base_of k)

abbrev pub resumed_stack : Resumed → List ℕ
resumed_stack AStatement = []
resumed_stack (AValue k saved) = saved

abbrev pub result_in : Resumed → Option Kind
result_in AStatement = None
result_in (AValue k saved) = Some k

-- they and their number stand in the stack of frames, the lowest first
abbrev pub saved_words : Resumed → ℕ
saved_words AStatement = 0
saved_words (AValue k saved) = length saved + 1

abbrev pub AreSaved : (ℕ → ℕ) → Resumed → ℕ → Type 0
AreSaved shadow AStatement at = Unit {0}
AreSaved shadow (AValue k saved) at = (length saved ≤ 15) × ((i : ℕ) → i < length saved + 1 → shadow (at + i) ≡ get_or (reverse saved ++ length saved ∷ []) i 0)

-- the instruction that brings the saved words back below a function's value
abbrev pub RestoresAt : List ℕ → Resumed → ℕ → ℕ → Type 0
RestoresAt code AStatement end after = end ≡ after
RestoresAt code (AValue k saved) end after = IsAt code end (Rst 1) after

-- what items need of the code of a frame alone
module _ (frame : Frame) where
  open frame use {own, piece}
  open laid frame use {layout as l}

  pub record DoPart (s : Statement) (p : ℕ) (stack : List ℕ) (a : Around) : Type 0 where
    pub empty : stack ≡ []
    pub end : ℕ
    pub here : StatementAt l piece (a.taken) a.exit s p end
    pub within : end < length piece

  -- an item in the midst of a statement, at a place of its row
  pub record AmidPart (s : Statement) (a : Around) (to : (p q : ℕ) → StatementAt l piece (a.taken) a.exit s p q → ℕ) (p : ℕ) : Type 0 where
    pub from : ℕ
    pub end : ℕ
    pub here : StatementAt l piece (a.taken) a.exit s from end
    pub within : end < length piece
    pub at : p ≡ to from end here

  -- behind the first place that the statement names
  pub record PlacedPart (s : Statement) (a : Around) (to : (p q : ℕ) → StatementAt l piece (a.taken) a.exit s p q → ℕ) (p : ℕ) (stack : List ℕ) : Type 0 where
    pub empty : stack ≡ []
    pub amid : AmidPart s a to p

  abbrev pub placed : (s : Statement) (a : Around) (to : (p q : ℕ) → StatementAt l piece (a.taken) a.exit s p q → ℕ) (p : ℕ) (stack : List ℕ) (did : DoPart s p stack a) → PlacedPart s a to (to p did.end did.here) stack
  placed s a to p stack did = record { empty = did.empty; amid = record { from = p; end = did.end; here = did.here; within = did.within; at = refl } }

  -- the value that a function returns is to come, of a kind: its test, and the return
  pub record ReturningPart (j k : Kind) (p : ℕ) (stack : List ℕ) : Type 0 where
    pub empty : stack ≡ []
    pub stores : stores_value k j ≡ true
    pub result : result_here l.scope ≡ Some k
    pub tested : ℕ
    pub test : InstrsAt piece (test_code k j) p tested
    pub end : ℕ
    pub leave : IsAt piece tested Rtn end
    pub within : end < length piece

  pub record EvaluatePart (e : Expression) (p : ℕ) (stack : List ℕ) : Type 0 where
    pub end : ℕ
    pub here : ExpressionAt l piece e p end
    pub shallow : length stack + depth e ≤ 16
    pub within : end < length piece

  -- an item in the midst of an expression, behind an operand
  pub record OperandPart (whole : Expression → Expression) (to : (e : Expression) (p q : ℕ) → ExpressionAt l piece (whole e) p q → ℕ) (j : Kind) (p : ℕ) (stack : List ℕ) : Type 0 where
    pub of : Expression
    pub same : j ≡ kind_of of
    pub from : ℕ
    pub did : EvaluatePart (whole of) from stack
    pub at : p ≡ to of from did.end did.here

  pub record PlacePart (d : Designator) (p : ℕ) (stack : List ℕ) : Type 0 where
    pub end : ℕ
    pub here : PlaceAt l piece d p end
    pub shallow : length stack + place_depth d ≤ 16

  -- the value at a place, or what a pointer there points to
  pub record GetPart (d : Designator) (p : ℕ) (stack : List ℕ) : Type 0 where
    pub kind : Kind
    pub from : ℕ
    pub did : EvaluatePart (Taken d kind) from stack
    pub at : p ≡ did.here.found

  pub record PointedPart (d : Designator) (p : ℕ) (stack : List ℕ) : Type 0 where
    pub number : ℕ
    pub from : ℕ
    pub did : PlacePart (Follow d number) from stack
    pub at : p ≡ did.here.found

  -- the index of an element is to come
  pub record IndexByPart (d : Designator) (k : Kind) (e : Expression) (p : ℕ) (stack : List ℕ) : Type 0 where
    pub from : ℕ
    pub did : PlacePart (Element d k e) from stack
    pub at : p ≡ did.here.found

  -- what follows the last argument of a request
  pub record ServePart (r : request.Request) (count p : ℕ) : Type 0 where
    pub words : request_words r ≡ count
    pub end : ℕ
    pub by : IsAt piece p (Svc (request_number r)) end
    pub within : end < length piece

  -- the arguments of a request that are left, above so many words, and what follows the last one
  pub record LeftPart (r : request.Request) (done : List Bool) (left : Arguments) (count p : ℕ) : Type 0 where
    pub middle : ℕ
    pub given : ArgumentsAt l piece count left p middle
    pub forms : TakesAll l.scope r done left
    pub serve : ServePart r (count + arguments_words left) middle

  -- behind an expression of a statement
  pub record ValuePart (a : Around) (whole : Expression → Statement) (to : (e : Expression) (p q : ℕ) → StatementAt l piece (a.taken) a.exit (whole e) p q → ℕ) (j : Kind) (p : ℕ) (stack : List ℕ) : Type 0 where
    pub of : Expression
    pub same : j ≡ kind_of of
    pub from : ℕ
    pub did : DoPart (whole of) from stack a
    pub at : p ≡ to of from did.end did.here

  -- behind the condition of a loop
  pub record TestPart (s : Statement) (a : Around) (to : (p q : ℕ) → StatementAt l piece (a.taken) a.exit s p q → ℕ) (j : Kind) (p : ℕ) (stack : List ℕ) : Type 0 where
    pub same : j ≡ OfTruth
    pub from : ℕ
    pub did : DoPart s from stack a
    pub at : p ≡ to from did.end did.here

  -- the end of a LOOP's body: what is around the body, and what is around the LOOP
  pub record LoopingWaits (body : Statements) (rest : Reach) (t : Mode) (p : ℕ) (stack : List ℕ) (c : ℕ) (a : Around) : Type 0 where
    pub quiet : t ≡ Quiet
    pub empty : stack ≡ []
    pub outer : Around
    pub top : ℕ
    pub end : ℕ
    pub is : a ≡ record { exit = Some end; taken = outer.taken }
    pub back : IsAt piece p (Jmp top) end
    pub again : StatementAt l piece (outer.taken) outer.exit (Loop body) top end
    pub within : end < length piece
    pub then : rest Quiet end [] c outer

-- what they need of the home too
module _ (ctx : Setting) where
  open ctx use {home as h}
  open frame_of ctx use {own, piece}
  open laid_out ctx use {layout as l}

  abbrev active : Frame
  active = ctx.stack.frame

  pub record ScalarPart (v : Scalar) (stack : List ℕ) : Type 0 where
    pub kind : Kind
    pub fits : within kind v ≡ true
    pub refers : Refers h kind v
    pub below : List ℕ
    pub is : stack ≡ word_for h v ∷ below

  pub record RightPart (j : Kind) (o : TwoOp) (k : Kind) (u : Scalar) (p : ℕ) (stack : List ℕ) : Type 0 where
    pub left : Expression
    pub below : List ℕ
    pub row : OperandPart active (Two o k left) (λ f p q r. r.last) j p below
    pub fits : within k u ≡ true
    pub refers : Refers h k u
    pub is : stack ≡ word_for h u ∷ below

  -- a set on an expression stack
  pub record HasSet (u : Scalar) (stack below : List ℕ) : Type 0 where
    pub fits : within OfSet u ≡ true
    pub is : stack ≡ word_for h u ∷ below

  -- the number that a set gets is there
  pub record MemberPart (j : Kind) (u : Scalar) (k : Kind) (p : ℕ) (stack : List ℕ) : Type 0 where
    pub to : Expression
    pub below : List ℕ
    pub row : OperandPart active (With to k) (λ e p q r. r.middle) j p below
    pub set : HasSet u stack below

  -- the first of the numbers is there, and the last is to come
  pub record FromPart (j : Kind) (u : Scalar) (k : Kind) (f : Expression) (p : ℕ) (stack : List ℕ) : Type 0 where
    pub to : Expression
    pub below : List ℕ
    pub row : OperandPart active (λ e. WithSpan to k e f) (λ e p q r. r.middle) j p below
    pub set : HasSet u stack below

  -- both are there
  pub record ToPart (j : Kind) (u : Scalar) (k : Kind) (v : Scalar) (p : ℕ) (stack : List ℕ) : Type 0 where
    pub to : Expression
    pub first : Expression
    pub below : List ℕ
    pub row : OperandPart active (WithSpan to k first) (λ f p q r. r.last) j p below
    pub low_fits : within k v ≡ true
    pub under : List ℕ
    pub is : stack ≡ word_for h v ∷ under
    pub set : HasSet u under below

  -- the limit of a FOR is there
  pub record LimitPart (j : Kind) (x : Named) (k : Kind) (v : Scalar) (step : ℤ) (body : Statements) (p : ℕ) (stack : List ℕ) (a : Around) : Type 0 where
    pub first : Expression
    pub row : ValuePart active a (λ b. For x k first b step body) (λ b p q r. r.last) j p []
    pub fits : within (kind_of first) v ≡ true
    pub is : stack ≡ word_for h v ∷ []

  -- the turns of a FOR are to begin: its bounds stand on the expression stack
  pub record BeginWaits (x : Named) (k : Kind) (first step : ℤ) (left : ℕ) (body : Statements) (rest : Reach) (t : Mode) (p : ℕ) (stack : List ℕ) (c : ℕ) (a : Around) : Type 0 where
    pub quiet : t ≡ Quiet
    pub from : Kind
    pub takes : takes_value k from ≡ true
    pub limit : ℤ
    pub fits : between (least from) first (greatest from) ≡ true
    pub limit_fits : between (least (base_of k)) limit (greatest (base_of k)) ≡ true
    pub stack_is : stack ≡ word_of limit ∷ word_of first ∷ []
    pub count : left ≡ turns first limit step
    pub end : ℕ
    pub turns : TurnsRow l piece (a.taken) x k from step (BodyAt l piece (3 + a.taken) a.exit body) p end
    pub within : end < length piece
    pub then : rest Quiet end [] c a

  -- the words of a FOR, where those around it take so many: its value, the turns that are left, and its step
  pub record LoopWords (n left step : ℕ) : Type 0 where
    pub now : ℕ
    pub now_is : h.shadow (active.at + loop_place n) ≡ now
    pub left_is : h.shadow (active.at + loop_place n + 1) ≡ left
    pub step_is : h.shadow (active.at + loop_place n + 2) ≡ step

  -- a turn of a FOR is done: what is around its body, and what is around the FOR
  pub record NextWaits (x : Named) (k : Kind) (z step : ℤ) (left : ℕ) (body : Statements) (rest : Reach) (t : Mode) (p : ℕ) (stack : List ℕ) (c : ℕ) (a : Around) : Type 0 where
    pub quiet : t ≡ Quiet
    pub empty : stack ≡ []
    pub outer : Around
    pub around : a ≡ record { exit = outer.exit; taken = 3 + outer.taken }
    -- its words in the frame: the value that it stored last, the turns left, and the step
    pub words : LoopWords outer.taken left (word_of step)
    pub small : left < 65536
    pub next_is : (words.now + word_of step) % 65536 ≡ word_of z % 65536
    pub fit : TurnsFit (base_of k) z step left
    pub turn : ℕ
    pub end : ℕ
    pub round : RoundRow l piece (outer.taken) x k step (BodyAt l piece (3 + outer.taken) outer.exit body) turn end
    pub at : p ≡ round.end
    pub within : end < length piece
    pub then : rest Quiet end [] c outer

  abbrev pub TurnsTask : Named → Kind → ℤ → ℤ → ℕ → Statements → Reach → Reach
  TurnsTask x k z step left body rest t p stack c a = BeginWaits x k z step left body rest t p stack c a ⊎ NextWaits x k z step left body rest t p stack c a

  -- a place of a shape that the stack's items may name, as the code has it
  pub record HasPlace (b : Access) (place : Place) (t : Shape) (stack below : List ℕ) : Type 0 where
    pub seen : sees (frames_of ctx.stack) place.root ≡ true
    pub living : shape_there h place ≡ t
    pub there : is_there t ≡ true
    pub at : Reaches own.base active.display b (address h place) stack below

  -- the place of a designator
  abbrev pub Designates : Designator → Place → List ℕ → List ℕ → Type 0
  Designates d place stack below = HasPlace (access_of l d) place (shape_of l.scope d) stack below

  pub record FoundPart (place : Place) (stack : List ℕ) : Type 0 where
    pub of : Designator
    pub below : List ℕ
    pub has : Designates of place stack below

  -- the index of an element is there
  pub record IndexAtPart (j : Kind) (place : Place) (k : Kind) (p : ℕ) (stack : List ℕ) : Type 0 where
    pub of : Designator
    pub index : Expression
    pub same : j ≡ kind_of index
    pub from : ℕ
    pub below : List ℕ
    pub did : PlacePart active (Element of k index) from below
    pub at : p ≡ did.here.middle
    pub has : HasPlace OnTop place (Row (numbers k) (element_of (shape_of l.scope of))) stack below

  -- an array, as the address and the number of the last element that an open array is
  pub record ArrayOn (t : Shape) (place : Place) (high : ℕ) (stack below : List ℕ) : Type 0 where
    pub has : HasPlace OnTop place (Row (suc high) t) (address h place ∷ below) below
    pub low : high ≤ 65535
    pub is : stack ≡ high ∷ address h place ∷ below

  -- the index of an element of an open array is there
  pub record AlongAtPart (j : Kind) (place : Place) (high p : ℕ) (stack : List ℕ) : Type 0 where
    pub n : ℕ
    pub x : ℕ
    pub index : Expression
    pub same : j ≡ kind_of index
    pub from : ℕ
    pub below : List ℕ
    pub did : PlacePart active (Along n x index) from below
    pub at : p ≡ did.here.middle
    pub on : ArrayOn did.here.opened.element place high stack below

  -- the value that is stored is there
  pub record StorePart (j : Kind) (place : Place) (k : Kind) (p : ℕ) (stack : List ℕ) (a : Around) : Type 0 where
    pub of : Designator
    pub value : Expression
    pub same : j ≡ kind_of value
    pub amid : AmidPart active (Assign of k value) a (λ p q r. r.value.middle) p
    pub has : HasPlace (readied (access_of l of)) place (Word k) stack []

  -- the place of what is copied is there
  pub record CopyFromPart (from : Designator) (to : Place) (p : ℕ) (stack : List ℕ) (a : Around) : Type 0 where
    pub of : Designator
    pub amid : AmidPart active (Copy of from) a (λ p q r. r.middle) p
    pub has : HasPlace OnTop to (shape_of l.scope from) stack []

  -- the number that a set gets or loses is there
  pub record MemberAtPart (j : Kind) (out : Bool) (place : Place) (k : Kind) (p : ℕ) (stack : List ℕ) (a : Around) : Type 0 where
    pub of : Designator
    pub value : Expression
    pub same : j ≡ kind_of value
    pub amid : AmidPart active (Member out of k value) a (λ p q r. r.value.middle) p
    pub has : HasPlace OnTop place (Word OfSet) stack []

  -- the number of words of a workspace is there
  pub record AllocateAtPart (j : Kind) (back : Bool) (place : Place) (p : ℕ) (stack : List ℕ) (a : Around) : Type 0 where
    pub of : Designator
    pub value : Expression
    pub same : j ≡ kind_of value
    pub amid : AmidPart active (Allocate back of value) a (λ p q r. r.value.middle) p
    pub has : HasPlace OnTop place (Word (OfPointer Workspaces)) stack []

  -- the number that INC or DEC takes is there
  pub record ChangePart (j : Kind) (down : Bool) (place : Place) (k : Kind) (p : ℕ) (stack : List ℕ) (a : Around) : Type 0 where
    pub of : Designator
    pub value : Expression
    pub same : j ≡ kind_of value
    pub amid : AmidPart active (Change down of k value) a (λ p q r. r.middle) p
    pub once : List ℕ
    pub has : HasPlace (readied (access_of l of)) place (Word k) once []
    pub twice : stack ≡ doubled (readied (access_of l of)) once

  -- a string, as the address and the number of the last element that an open array is
  pub record TextOn (cs : List ℕ) (stack below : List ℕ) : Type 0 where
    pub offset : ℕ
    pub text : HasText l cs offset
    pub is : stack ≡ (text_words cs - 1) ∷ (own.base + offset) ∷ below

  -- the words of a datum of a request, above others
  abbrev pub DatumOn : Datum → List ℕ → List ℕ → Type 0
  DatumOn (Scalars v) stack below = stack ≡ scalar_word v ∷ below
  DatumOn (Opens place high) stack below = ArrayOn (Word OfCharacter) place high stack below
  DatumOn (Texts cs) stack below = TextOn cs stack below
  DatumOn (Places place) stack below = ⊥
  DatumOn (Wholes u) stack below = ⊥

  -- those of several, the first lowest
  abbrev pub DataOn : List Datum → List ℕ → List ℕ → Type 0
  DataOn [] stack below = stack ≡ below
  DataOn (d ∷ ds) stack below = (middle : List ℕ) × DatumOn d middle below × DataOn ds stack middle

  -- the value of the next argument is there
  pub record PassPart (j : Kind) (r : request.Request) (k : Kind) (done : List Datum) (left : Arguments) (p : ℕ) (stack : List ℕ) : Type 0 where
    pub takes : takes_value k j ≡ true
    pub on : DataOn done stack []
    pub tested : ℕ
    pub test : InstrsAt piece (test_code k j) p tested
    pub rest : LeftPart active r (map is_array done ++ false ∷ []) left (1 + length stack) tested

  -- its place is there, an array
  pub record PassArrayPart (d : Designator) (r : request.Request) (high : ℕ) (done : List Datum) (left : Arguments) (p : ℕ) (stack : List ℕ) : Type 0 where
    pub rows : shape_of l.scope d ≡ Row (suc high) (Word OfCharacter)
    pub low : high ≤ 65535
    pub room : length stack + 2 ≤ 16
    pub on : DataOn done stack []
    pub start : ℕ
    pub last : ℕ
    pub address : InstrsAt piece (address_code (access_of l d)) p start
    pub by : IsAt piece start (Liw high) last
    pub rest : LeftPart active r (map is_array done ++ true ∷ []) left (2 + length stack) last

  pub record PassingPart (r : request.Request) (done : List Datum) (left : Arguments) (p : ℕ) (stack : List ℕ) : Type 0 where
    pub on : DataOn done stack []
    pub rest : LeftPart active r (map is_array done) left (length stack) p

  -- what an item needs, by what comes from the items before
  abbrev pub needs : Mode → Item → ℕ → List ℕ → Around → Part
  needs Quiet (Value (Scalars v)) p stack a = part (ScalarPart v stack) (λ r. on (ValueOf r.kind) p r.below)
  needs Quiet (Value (Places place)) p stack a = part (FoundPart place stack) (λ r. on (AtPlace r.of) p r.below)
  needs Quiet (Evaluate e) p stack a = part (EvaluatePart active e p stack) (λ r. on (ValueOf (kind_of e)) r.end stack)
  needs Quiet (PlaceOf d) p stack a = part (PlacePart active d p stack) (λ r. on (AtPlace d) r.end stack)
  needs Quiet (Perform (Do s)) p stack a = part (DoPart active s p stack a) (λ r. on Quiet r.end [])
  needs Quiet (Perform (Passing (Requested q) done left)) p stack a = part (PassingPart q done left p stack) (λ r. on Quiet r.rest.serve.end [])
  needs Quiet (Perform (Until body e)) p stack a = part (PlacedPart active (Repeat body e) a (λ p q r. r.end) p stack) (λ r. on Quiet r.amid.end [])
  needs (AtPlace d) (Fill Get) p stack a = part (GetPart active d p stack) (λ r. on (ValueOf (base_of r.kind)) r.did.end stack)
  needs (AtPlace d) (Fill (PartOf i)) p stack a = part (is_there (part_at (shape_of l.scope d) (i ∷ [])) ≡ true) (λ r. on (AtPlace (Field d i)) p stack)
  needs (AtPlace d) (Fill (IndexBy k e)) p stack a = part (IndexByPart active d k e p stack) (λ r. on (AtPlace (Element d k e)) r.did.end stack)
  needs (AtPlace d) (Fill Pointed) p stack a = part (PointedPart active d p stack) (λ r. on (AtPlace (Follow d r.number)) r.did.end stack)
  needs (AtPlace d) (Fill (NewAt n)) p stack a = part (PlacedPart active (New d n) a (λ p q r. r.found) p stack) (λ r. on Quiet r.amid.end [])
  needs (AtPlace d) (Fill (AllocateBy back e)) p stack a = part (PlacedPart active (Allocate back d e) a (λ p q r. r.found) p stack) (λ r. on Quiet r.amid.end [])
  needs (AtPlace d) (Fill (SetTo k e)) p stack a = part (PlacedPart active (Assign d k e) a (λ p q r. r.target.found) p stack) (λ r. on Quiet r.amid.end [])
  needs (AtPlace d) (Fill (CopyTo from)) p stack a = part (PlacedPart active (Copy d from) a (λ p q r. r.found) p stack) (λ r. on Quiet r.amid.end [])
  needs (AtPlace d) (Fill (CopyFrom to)) p stack a = part (CopyFromPart d to p stack a) (λ r. on Quiet r.amid.end [])
  needs (AtPlace d) (Fill (TextTo cs)) p stack a = part (PlacedPart active (Text d cs) a (λ p q r. r.found) p stack) (λ r. on Quiet r.amid.end [])
  needs (AtPlace d) (Fill (PassArray (Requested q) high done left)) p stack a = part (PassArrayPart d q high done left p stack) (λ r. on Quiet r.rest.serve.end [])
  needs (AtPlace d) (Fill (Hold body)) p stack a = part (PlacedPart active (Inside d body) a (λ p q r. r.found) p stack) (λ r. on Quiet r.amid.end [])
  needs (AtPlace d) (Fill (ChangeBy down k e)) p stack a = part (PlacedPart active (Change down d k e) a (λ p q r. r.target.found) p stack) (λ r. on Quiet r.amid.end [])
  needs (AtPlace d) (Fill (MemberBy out k e)) p stack a = part (PlacedPart active (Member out d k e) a (λ p q r. r.found) p stack) (λ r. on Quiet r.amid.end [])
  needs (ValueOf j) (Fill (MemberAt out place k)) p stack a = part (MemberAtPart j out place k p stack a) (λ r. on Quiet r.amid.end [])
  needs (ValueOf j) (Fill (AllocateAt back place)) p stack a = part (AllocateAtPart j back place p stack a) (λ r. on Quiet r.amid.end [])
  needs (ValueOf j) (Fill (WithMember k e)) p stack a = part (OperandPart active (λ u. With u k e) (λ u p q r. r.start) j p stack) (λ r. on (ValueOf OfSet) r.did.end stack)
  needs (ValueOf j) (Fill (MemberOf u k)) p stack a = part (MemberPart j u k p stack) (λ r. on (ValueOf OfSet) r.row.did.end r.below)
  needs (ValueOf j) (Fill (WithMembers k e f)) p stack a = part (OperandPart active (λ u. WithSpan u k e f) (λ u p q r. r.start) j p stack) (λ r. on (ValueOf OfSet) r.did.end stack)
  needs (ValueOf j) (Fill (MembersFrom u k f)) p stack a = part (FromPart j u k f p stack) (λ r. on (ValueOf OfSet) r.row.did.end r.below)
  needs (ValueOf j) (Fill (MembersTo u k v)) p stack a = part (ToPart j u k v p stack) (λ r. on (ValueOf OfSet) r.row.did.end r.below)
  needs (ValueOf j) (Fill (IndexAt place k)) p stack a = part (IndexAtPart j place k p stack) (λ r. on (AtPlace (Element r.of k r.index)) r.did.end r.below)
  needs (ValueOf j) (Fill (AlongAt place high)) p stack a = part (AlongAtPart j place high p stack) (λ r. on (AtPlace (Along r.n r.x r.index)) r.did.end r.below)
  needs (ValueOf j) (Fill (ChangeAt down place k)) p stack a = part (ChangePart j down place k p stack a) (λ r. on Quiet r.amid.end [])
  needs (ValueOf j) (Fill (StoreAt place k)) p stack a = part (StorePart j place k p stack a) (λ r. on Quiet r.amid.end [])
  needs (ValueOf j) (Fill (OneOf o k)) p stack a = part (OperandPart active (One o k) (λ e p q r. r.middle) j p stack) (λ r. on (ValueOf k) r.did.end stack)
  needs (ValueOf j) (Fill (LeftOf o k f)) p stack a = part (OperandPart active (λ e. Two o k e f) (λ e p q r. r.middle) j p stack) (λ r. on (ValueOf (result_kind (is_relation o) k)) r.did.end stack)
  needs (ValueOf j) (Fill (RightOf o k u)) p stack a = part (RightPart j o k u p stack) (λ r. on (ValueOf (result_kind (is_relation o) k)) r.row.did.end r.below)
  needs (ValueOf j) (Fill (ShortOf d f)) p stack a = part (OperandPart active (λ e. Short d e f) (λ e p q r. r.middle) j p stack) (λ r. on (ValueOf OfTruth) r.did.end stack)
  needs (ValueOf j) (Fill (ApplyTo f)) p stack a = part (OperandPart active (Apply f) (λ e p q r. r.middle) j p stack) (λ r. on (ValueOf (function_kind f)) r.did.end stack)
  needs (ValueOf j) (Fill (Returning k)) p stack a = part (ReturningPart active j k p stack) (λ r. on Quiet r.end [])
  needs (ValueOf j) (Fill (Pass (Requested q) k done left)) p stack a = part (PassPart j q k done left p stack) (λ r. on Quiet r.rest.serve.end [])
  needs (ValueOf j) (Fill (Choose first second)) p stack a = part (ValuePart active a (λ e. If e first second) (λ e p q r. r.middle) j p stack) (λ r. on Quiet r.did.end [])
  needs (ValueOf j) (Fill (Turn e body)) p stack a = part (TestPart active (While e body) a (λ p q r. r.middle) j p stack) (λ r. on Quiet r.did.end [])
  needs (ValueOf j) (Fill (Again body e)) p stack a = part (TestPart active (Repeat body e) a (λ p q r. r.middle) j p stack) (λ r. on Quiet r.did.end [])
  needs (ValueOf j) (Fill (Pick arms)) p stack a = part (ValuePart active a (λ e. Case e arms) (λ e p q r. r.middle) j p stack) (λ r. on Quiet r.did.end [])
  needs (ValueOf j) (Fill (StartOf x k b step body)) p stack a = part (ValuePart active a (λ e. For x k e b step body) (λ e p q r. r.middle) j p stack) (λ r. on Quiet r.did.end [])
  needs (ValueOf j) (Fill (LimitOf x k v step body)) p stack a = part (LimitPart j x k v step body p stack a) (λ r. on Quiet r.row.did.end [])
  needs t i p stack a = never

  abbrev pub Waiting : Item → Reach → Reach
  Waiting i rest t p stack c a = Waits (needs t i p stack a) rest c a

  pub record EndedWaits (t : Mode) (p : ℕ) (stack : List ℕ) (c : ℕ) (a : Around) : Type 0 where
    pub empty : stack ≡ []
    pub callers : ctx.stack.callers ≡ []
    pub bodies : ctx.stack.bodies ≡ []
    pub end : ℕ
    pub leave : IsAt piece p Rtn end

  -- the body that is to run next begins by its ENT, and then come its items
  pub record NextBody (b : Frame) (rest : Reach) (c : ℕ) : Type 0 where
    pub body : active.procedure ≡ 0
    pub low : b.at ≤ active.at
    pub plain : own_words active ≡ 0
    pub bare : own_words b ≡ 0
    pub idle : b.pushed ≡ 0
    pub start : ℕ
    pub enter : IsAt b.piece (body_entry b.own) (Ent (framed b.layout.frame)) start
    pub then : rest Quiet start [] c (outside b)

  -- the frame under this one goes on where the mark says, with its own FORs around, where so many words are pushed
  pub record Back (g : Frame) (rest : ℕ → Reach) (c : ℕ) : Type 0 where
    pub before : ℕ
    pub called : active.procedure ≡ suc before
    pub resumed : Resumed
    pub returns : result_here l.scope ≡ result_in resumed
    pub under_saved : ℕ
    pub pushed_is : g.pushed ≡ saved_words resumed + under_saved
    pub saved : AreSaved h.shadow resumed (g.at + (g.layout.frame + under_saved))
    pub after : ℕ
    pub restore : RestoresAt g.piece resumed active.back after
    pub within : after < length g.piece
    pub outer : Around
    pub under : g.at + loop_place outer.taken ≤ active.at
    pub mark : 4 ≤ g.layout.frame
    pub pushed : top_of g ≤ active.at
    pub frame : h.shadow (active.at + 1) ≡ g.at
    pub place : h.shadow (active.at + 2) ≡ active.back
    pub module' : h.shadow (active.at + 3) ≡ g.number
    pub then : rest under_saved (resumed_mode resumed) after (resumed_stack resumed) c outer

  -- What is left behind the end of the running frame: the items of the frame under it, those of the next body, or none.
  abbrev pub Behind : List Item → (Setting → Reach) → ℕ → List Frame → List Frame → Type 0
  Behind k rest c (g ∷ gs) bs = Back g (λ n. rest (with_frames ctx (record g { pushed = n }) gs bs)) c
  Behind k rest c [] (b ∷ bs) = NextBody b (rest (with_frames ctx b [] bs)) c
  Behind k rest c [] [] = (k ≡ []) × (active.procedure ≡ 0)

  -- the end of a WITH's statements: what is around them, and what is around the WITH. The address of its record stands in the frame.
  pub record HoldingWaits (place : Place) (rest : Setting → Reach) (t : Mode) (p : ℕ) (stack : List ℕ) (c : ℕ) (a : Around) : Type 0 where
    pub quiet : t ≡ Quiet
    pub empty : stack ≡ []
    pub outer : Around
    pub around : a ≡ record { exit = outer.exit; taken = suc outer.taken }
    pub before : Setting
    pub shape : Shape
    pub is : ctx ≡ inside_with before shape (loop_place outer.taken)
    pub room : loop_place outer.taken + 1 ≤ before.stack.frame.layout.frame
    pub seen : sees (frames_of ctx.stack) place.root ≡ true
    pub living : shape_there h place ≡ shape
    pub there : is_there shape ≡ true
    pub word : h.shadow (active.at + loop_place outer.taken) ≡ address h place
    pub then : rest before Quiet p [] c outer

  -- ---- calls whose arguments are at hand
  -- What was given for a parameter, as words of the frame to come: all scalars of a shape with cells, the address of a place, an open array or
  -- a string.
  pub record GivenAll (t : Shape) (u : Under) (at : ℕ) : Type 0 where
    pub there : is_there t ≡ true
    pub cells : (q : List ℕ) (k : Kind) → part_at t q ≡ Word k → IsWord h k (u q) (h.shadow (at + offset t q))

  pub record GivenPlace (t : Shape) (place : Place) (at : ℕ) : Type 0 where
    pub to : Shape
    pub is : t ≡ Address to
    pub seen : sees (frames_of ctx.stack) place.root ≡ true
    pub living : shape_there h place ≡ to
    pub there : is_there to ≡ true
    pub word : h.shadow at ≡ address h place

  -- an open array: the address of its place, and the number of its last element
  pub record GivenArray (t : Shape) (place : Place) (high at : ℕ) : Type 0 where
    pub copied : Bool
    pub to : Shape
    pub is : t ≡ Opened copied to
    pub seen : sees (frames_of ctx.stack) place.root ≡ true
    pub living : shape_there h place ≡ Row (suc high) to
    pub there : is_there to ≡ true
    pub low : high ≤ 65535
    pub word : h.shadow at ≡ address h place
    pub word_high : h.shadow (at + 1) ≡ high

  -- a string for one that is copied
  pub record GivenText (t : Shape) (cs : List ℕ) (at : ℕ) : Type 0 where
    pub is : t ≡ Opened true (Word OfCharacter)
    pub offset : ℕ
    pub text : HasText l cs offset
    pub word : h.shadow at ≡ own.base + offset
    pub word_high : h.shadow (at + 1) ≡ text_words cs - 1

  abbrev pub GivenWords : Shape → Datum → ℕ → Type 0
  GivenWords t (Scalars v) at = GivenAll t (alone v) at
  GivenWords t (Wholes u) at = GivenAll t u at
  GivenWords t (Places place) at = GivenPlace t place at
  GivenWords t (Opens place high) at = GivenArray t place high at
  GivenWords t (Texts cs) at = GivenText t cs at

  -- the same of several, from a word of the store on
  abbrev pub AllGiven : List Shape → List Datum → ℕ → Type 0
  AllGiven [] [] at = Unit {0}
  AllGiven (t ∷ ts) (d ∷ ds) at = GivenWords t d at × AllGiven ts ds (at + words t)
  AllGiven ts ds at = ⊥

  -- What is called has its mark and what is done of its arguments above the frame. Those that are left stand behind what is at hand, in no LOOP, and
  -- then comes the call.
  pub record Pending (q : Callee) (done : List Datum) (next : List Shape) (left : Arguments) (rest : Setting → Reach) (p : ℕ) (c : ℕ) (a : Around) : Type 0 where
    pub before : Setting
    pub shapes : List Shape
    pub resumed : Resumed
    pub is : ctx ≡ pushing before (saved_words resumed + (4 + all_words shapes))
    pub saved : AreSaved h.shadow resumed (top_of before.stack.frame)
    pub outer : Around
    pub around : a ≡ record { exit = None; taken = outer.taken }
    -- each copy of what is done is owed
    pub later : ℕ
    pub count : c ≡ length (copies_code 4 shapes) + later
    pub may : MayCall l.scope (callee_number q) (callee_levels q)
    pub here : callee_owner active.number q ≡ active.number
    pub returns : result_of (procedure_by l.scope.procedures (callee_number q)) ≡ result_in resumed
    pub takes : parameters_of (procedure_by l.scope.procedures (callee_number q)) ≡ shapes ++ (next ++ parameters_given l.scope left)
    pub room : saved_words resumed + (4 + (all_words shapes + (all_words next + given_words l.scope left))) ≤ words_of (loaded_at ctx.library ctx.loaded active.number) (callee_number q) + 17
    pub link : IsLink active.display (callee_levels q) (h.shadow (top_of before.stack.frame + saved_words resumed))
    pub value : HasValue q (h.shadow (top_of before.stack.frame + saved_words resumed + 3))
    pub given : AllGiven shapes done (top_of before.stack.frame + saved_words resumed + 4)
    pub middle : ℕ
    pub arguments : GivenAt l piece left p middle
    pub end : ℕ
    pub call : IsAt piece middle (call_code q (framed (all_words shapes + (all_words next + given_words l.scope left)))) end
    pub after : ℕ
    pub restore : RestoresAt piece resumed end after
    pub within : after < length piece
    pub then : rest before (resumed_mode resumed) after (resumed_stack resumed) later outer

  -- the next argument is at hand, or the call
  pub record PendingWaits (q : Callee) (done : List Datum) (left : Arguments) (rest : Setting → Reach) (t : Mode) (p : ℕ) (stack : List ℕ) (c : ℕ) (a : Around) : Type 0 where
    pub quiet : t ≡ Quiet
    pub empty : stack ≡ []
    pub pending : Pending q done [] left rest p c a

  -- the value of the next argument is to come, which is tested and goes to the frame to come
  pub record ValueWaits (q : Callee) (k : Kind) (done : List Datum) (left : Arguments) (rest : Setting → Reach) (t : Mode) (p : ℕ) (stack : List ℕ) (c : ℕ) (a : Around) : Type 0 where
    pub from : Kind
    pub mode : t ≡ ValueOf from
    pub empty : stack ≡ []
    pub stores : stores_value k from ≡ true
    pub tested : ℕ
    pub test : InstrsAt piece (test_code k from) p tested
    pub start : ℕ
    pub push : IsAt piece tested Psh start
    pub pending : Pending q done (Word k ∷ []) left rest start c a

  -- its place is to come, whose address does
  pub record PlaceWaits (q : Callee) (done : List Datum) (left : Arguments) (rest : Setting → Reach) (t : Mode) (p : ℕ) (stack : List ℕ) (c : ℕ) (a : Around) : Type 0 where
    pub of : Designator
    pub mode : t ≡ AtPlace of
    pub empty : stack ≡ []
    pub tested : ℕ
    pub address : InstrsAt piece (address_code (access_of l of)) p tested
    pub start : ℕ
    pub push : IsAt piece tested Psh start
    pub pending : Pending q done (Address (shape_of l.scope of) ∷ []) left rest start c a

  -- the place of the next argument is to come, and all that lies there goes to the frame to come
  pub record AllWaits (q : Callee) (done : List Datum) (left : Arguments) (rest : Setting → Reach) (t : Mode) (p : ℕ) (stack : List ℕ) (c : ℕ) (a : Around) : Type 0 where
    pub of : Designator
    pub mode : t ≡ AtPlace of
    pub empty : stack ≡ []
    pub tested : ℕ
    pub address : InstrsAt piece (address_code (access_of l of)) p tested
    pub start : ℕ
    pub push : IsAt piece tested (Psm (words (shape_of l.scope of))) start
    pub pending : Pending q done (shape_of l.scope of ∷ []) left rest start c a

  -- the place of the next argument is to come, an array, whose address and the number of its last element go to the frame to come
  pub record ArrayWaits (q : Callee) (high : ℕ) (done : List Datum) (left : Arguments) (rest : Setting → Reach) (t : Mode) (p : ℕ) (stack : List ℕ) (c : ℕ) (a : Around) : Type 0 where
    pub of : Designator
    pub mode : t ≡ AtPlace of
    pub empty : stack ≡ []
    pub rows : shape_of l.scope of ≡ Row (suc high) (element_of (shape_of l.scope of))
    pub there : is_there (element_of (shape_of l.scope of)) ≡ true
    pub low : high ≤ 65535
    pub tested : ℕ
    pub address : InstrsAt piece (address_code (access_of l of)) p tested
    pub first : ℕ
    pub by : InstrsAt piece (second_code true (Liw high)) tested first
    pub start : ℕ
    pub push : IsAt piece first Psh start
    pub copied : Bool
    pub pending : Pending q done (Opened copied (element_of (shape_of l.scope of)) ∷ []) left rest start c a

  -- the value of what is called is to come: then come the mark, the arguments and the call. What was saved before stands above the frame
  pub record CallingWaits (given : Arguments) (rest : Setting → Reach) (t : Mode) (p : ℕ) (stack : List ℕ) (c : ℕ) (a : Around) : Type 0 where
    pub kind : Kind
    pub mode : t ≡ ValueOf kind
    pub empty : stack ≡ []
    pub before : Setting
    pub resumed : Resumed
    pub is : ctx ≡ pushing before (saved_words resumed)
    pub saved : AreSaved h.shadow resumed (top_of before.stack.frame)
    pub outer : Around
    pub around : a ≡ record { exit = None; taken = outer.taken }
    pub end : ℕ
    pub here : ValueCallRow l piece kind (result_in resumed) given (GivenAt l piece given) p end
    pub after : ℕ
    pub restore : RestoresAt piece resumed end after
    pub within : after < length piece
    pub then : rest before (resumed_mode resumed) after (resumed_stack resumed) c outer

  -- so many zeros of a string's array are left to come: they are counted on the expression stack
  abbrev pub ZerosLeft : (count left p end : ℕ) → List ℕ → Type 0
  ZerosLeft count zero p end stack = (p ≡ end) × (stack ≡ [])
  ZerosLeft count (suc left) p end stack = (from : ℕ) × (row : ZerosRow l piece count from end) × (p ≡ row.turn) × (stack ≡ suc left ∷ [])

  -- the end of a procedure or a body
  pub record EndWaits (n : ℕ) (k : List Item) (rest : Setting → Reach) (t : Mode) (p : ℕ) (stack : List ℕ) (c : ℕ) (a : Around) : Type 0 where
    pub quiet : t ≡ Quiet
    pub empty : stack ≡ []
    pub activation : n ≡ active.activation
    pub alone : a ≡ outside active
    pub free : active.layout.held ≡ []
    pub idle : active.pushed ≡ active.copied
    pub end : ℕ
    pub leave : IsAt piece p (leave_code (result_here l.scope)) end
    pub behind : Behind k rest c ctx.stack.callers ctx.stack.bodies

  -- the row of an item, with what is left behind it
  abbrev pub ItemWaits : Item → List Item → (Setting → Reach) → Reach
  ItemWaits (Perform (Looping body)) k rest = LoopingWaits active body (rest ctx)
  ItemWaits (Perform (Turns x kind z step left body)) k rest = TurnsTask x kind z step left body (rest ctx)
  ItemWaits (Perform (Holding place)) k rest = HoldingWaits place rest
  ItemWaits (Perform (End n)) k rest = EndWaits n k rest
  ItemWaits (Fill (Pass (Called q) kind done left)) k rest = ValueWaits q kind done left rest
  ItemWaits (Fill (PassPlace (Called q) done left)) k rest = PlaceWaits q done left rest
  ItemWaits (Fill (PassAll (Called q) done left)) k rest = AllWaits q done left rest
  ItemWaits (Fill (PassArray (Called q) high done left)) k rest = ArrayWaits q high done left rest
  ItemWaits (Fill (Calling given)) k rest = CallingWaits given rest
  ItemWaits i k rest = Waiting i (rest ctx)

-- the characters of a string and some of the zeros behind it stand above a pending call: those words are the next argument, when all are there
pub record SpellingWaits (ctx : Setting) (q : Callee) (cs : List ℕ) (todo : ℕ) (done : List Datum) (left : Arguments) (rest : Setting → Reach) (t : Mode) (p : ℕ) (stack : List ℕ) (c : ℕ) (a : Around) : Type 0 where
  pub quiet : t ≡ Quiet
  pub count : ℕ
  pub fits : length cs ≤ count
  pub low : count ≤ 65535
  pub text : is_text cs ≡ true
  pub zeros : ℕ
  pub zeros_are : zeros ≡ min todo (count - length cs)
  pub inner : Setting
  pub is : ctx ≡ pushing inner (count - zeros)
  pub words : (i : ℕ) → i < count - zeros → ctx.home.shadow (top_of inner.stack.frame + i) ≡ get_or cs i 0
  pub end : ℕ
  pub at : ZerosLeft ctx (count - length cs) zeros p end stack
  pub pending : Pending inner q done (Row count (Word OfCharacter) ∷ []) left rest end c a

-- Items that are left; the last is an end. Jumps may lead to the code of each.
abbrev pub RowsOf : List Item → Setting → Reach
RowsOf [] ctx = λ t p stack c a. ⊥
RowsOf (i ∷ k) ctx = AfterJumps ctx.stack.frame.piece (ItemWaits ctx i k (RowsOf k))

abbrev pub Rows : Setting → List Item → Reach
Rows ctx k = RowsOf k ctx

-- all that is left, or nothing. A call whose next argument is at hand comes first, and so does a string that comes to one
abbrev pub Ahead : Setting → List Item → Reach
Ahead ctx [] = EndedWaits ctx
Ahead ctx (Perform (Passing (Called q) done left) ∷ k) = AfterJumps ctx.stack.frame.piece (PendingWaits ctx q done left (RowsOf k))
Ahead ctx (Perform (Spelling (Called q) cs todo done left) ∷ k) = AfterJumps ctx.stack.frame.piece (SpellingWaits ctx q cs todo done left (RowsOf k))
Ahead ctx (i ∷ k) = Rows ctx (i ∷ k)

-- ---- how long items can stutter: a count that falls at each step of the source that takes no step of the machine
abbrev mutual
  pub place_stutter : Designator → ℕ
  place_stutter (Variable x) = 2
  place_stutter (Handed n x) = 2
  place_stutter (Along n x e) = 1 + value_stutter e
  place_stutter (Held w) = 2
  place_stutter (Field d i) = 2 + place_stutter d
  place_stutter (Element d k e) = 1 + place_stutter d + value_stutter e
  place_stutter (Follow d n) = 1 + place_stutter d

  pub value_stutter : Expression → ℕ
  value_stutter (Constant k v) = 1
  value_stutter (Taken d k) = 1 + place_stutter d
  value_stutter (One o k a) = 2 + value_stutter a
  value_stutter (Two o k a b) = 1 + value_stutter a + value_stutter b
  value_stutter (Short d a b) = 1 + value_stutter a + value_stutter b
  value_stutter (Apply f a) = 2 + value_stutter a
  value_stutter (With s k a) = 1 + value_stutter s + value_stutter a
  value_stutter (WithSpan s k a b) = 1 + value_stutter s + (value_stutter a + value_stutter b)
  value_stutter (Invoke p n k given) = 2 + passing_stutter given
  value_stutter (High n x) = 1
  value_stutter (Routine p n) = 1
  value_stutter (InvokeValue e k given) = 1 + value_stutter e + passing_stutter given

  pub argument_stutter : Argument → ℕ
  argument_stutter (ByValue k e) = value_stutter e
  argument_stutter (OfPlace d) = place_stutter d
  argument_stutter (OfAll d) = place_stutter d
  argument_stutter (OfArray copied d high) = place_stutter d
  argument_stutter (OfText cs) = 0
  argument_stutter (OfOpened copied n x) = 0
  argument_stutter (Spelled cs count) = 0

  pub passing_stutter : Arguments → ℕ
  passing_stutter NoMore = 0
  passing_stutter (Also a given) = 1 + argument_stutter a + passing_stutter given

abbrev mutual
  pub statement_stutter : Statement → ℕ
  statement_stutter (Assign d k e) = 1 + place_stutter d + value_stutter e
  statement_stutter (Text d cs) = 1 + place_stutter d
  statement_stutter (New d n) = 1 + place_stutter d
  statement_stutter (Allocate back d e) = 1 + place_stutter d + value_stutter e
  statement_stutter (Inside d body) = 1 + place_stutter d
  statement_stutter (Copy d from) = 1 + place_stutter d + place_stutter from
  statement_stutter (Change down d k e) = 1 + place_stutter d + value_stutter e
  statement_stutter (Member out d k e) = 1 + place_stutter d + value_stutter e
  statement_stutter (Request r given) = 1 + passing_stutter given
  statement_stutter (If c a b) = 1 + value_stutter c
  statement_stutter (Case e arms) = 1 + value_stutter e
  statement_stutter (While c body) = 1 + value_stutter c
  statement_stutter (Repeat body c) = 2 + body_stutter body + value_stutter c
  statement_stutter (Loop body) = 1 + body_stutter body
  statement_stutter Exit = 1
  statement_stutter Halt = 1
  statement_stutter Return = 1
  statement_stutter (Answer k e) = 1 + value_stutter e
  statement_stutter (Call p n given) = 1 + passing_stutter given
  statement_stutter (CallValue e given) = 1 + value_stutter e + passing_stutter given
  statement_stutter (For x k a b step body) = 1 + value_stutter a + value_stutter b

  pub body_stutter : Statements → ℕ
  body_stutter Empty = 0
  body_stutter (Then s ss) = statement_stutter s + body_stutter ss

abbrev pub hole_stutter : Hole → ℕ
hole_stutter Get = 0
hole_stutter (PartOf i) = 1
hole_stutter (IndexBy k e) = value_stutter e
hole_stutter (IndexAt place k) = 0
hole_stutter (AlongAt place high) = 0
hole_stutter (SetTo k e) = value_stutter e
hole_stutter (StoreAt place k) = 0
hole_stutter (CopyTo from) = place_stutter from
hole_stutter (CopyFrom place) = 0
hole_stutter (TextTo cs) = 0
hole_stutter Pointed = 0
hole_stutter (NewAt n) = 0
hole_stutter (AllocateBy back e) = value_stutter e
hole_stutter (AllocateAt back place) = 0
hole_stutter (PassPlace r done left) = passing_stutter left
hole_stutter (PassAll r done left) = passing_stutter left
hole_stutter (PassArray r high done left) = passing_stutter left
hole_stutter (Hold body) = 0
hole_stutter (ChangeBy down k e) = value_stutter e
hole_stutter (ChangeAt down place k) = 0
hole_stutter (OneOf o k) = 1
hole_stutter (LeftOf o k f) = value_stutter f
hole_stutter (RightOf o k u) = 0
hole_stutter (ShortOf d f) = value_stutter f
hole_stutter (ApplyTo f) = 1
hole_stutter (WithMember k a) = value_stutter a
hole_stutter (MemberOf s k) = 0
hole_stutter (WithMembers k a b) = value_stutter a + value_stutter b
hole_stutter (MembersFrom s k b) = value_stutter b
hole_stutter (MembersTo s k u) = 0
hole_stutter (MemberBy out k e) = value_stutter e
hole_stutter (MemberAt out p k) = 0
hole_stutter (Pass r k done left) = passing_stutter left
hole_stutter (Calling given) = passing_stutter given
hole_stutter (Returning k) = 0
hole_stutter (Choose a b) = 0
hole_stutter (Turn c body) = 0
hole_stutter (Again body c) = 0
hole_stutter (Pick arms) = 0
hole_stutter (StartOf x k b step body) = value_stutter b
hole_stutter (LimitOf x k v step body) = 0

abbrev pub task_stutter : Task → ℕ
task_stutter (Do s) = statement_stutter s
task_stutter (Passing r done left) = passing_stutter left
task_stutter (Spelling r cs todo done left) = 1 + todo + passing_stutter left
task_stutter (Until body c) = 1 + value_stutter c
task_stutter (Looping body) = 0
task_stutter (Turns x k z step left body) = 0
task_stutter (Holding p) = 1
task_stutter (End a) = 1

abbrev pub item_stutter : Item → ℕ
item_stutter (Value d) = 1
item_stutter (Evaluate e) = value_stutter e
item_stutter (PlaceOf d) = place_stutter d
item_stutter (Fill o) = hole_stutter o
item_stutter (Perform t) = task_stutter t

abbrev pub stutter : List Item → ℕ
stutter [] = 0
stutter (i ∷ k) = item_stutter i + stutter k
