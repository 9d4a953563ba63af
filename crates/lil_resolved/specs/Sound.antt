-- Sound resolved modules: places have the kinds that their uses say, indexes choose from all elements, operands have their operator's kind, and constants fit theirs.
use Rattle.std.specs.Prelude.{◌≡◌, ◌≢◌, ℕ, suc, ◌≤◌, nat_le, length, ℤ, pos, negsuc, ◌≤ℤ◌, Bool, true, false, ◌&&◌, ◌||◌, List, [], ◌∷◌, Option, Some, None, slice_get}
use Rattle.std.specs.List.{list_all}
use Rattle.lil_base.specs.{Words.{Cardinal, Integer}, declared.operator.{OneOp.OneOp, TwoOp.{TwoOp, TheVariants.{Equal, Unequal, Less, AtMost, Greater, AtLeast, In, Plus, Minus, Or, Times, Slash, Div, Mod, And}}}}
use Rattle.lil_base.specs.declared.operator.OneOp.TheVariants as one
use Rattle.lil_base.specs.declared.request.Request as request
use Rattle.lil_base.specs.declared.request.Request.TheVariants as r
pub use Rattle.lil_resolved.specs.Kinds.{is_base, is_ordinal, is_set, is_whole, is_plain, is_element, alike, takes_value, stores_value}
use Rattle.lil_resolved.specs.Kinds.{Objects, Workspaces, Kind, OfWhole, OfTruth, OfCharacter, OfSet, OfPointer, OfProcedure, is_compared, base_of, numbers, within, is_literal, scalar_of, ordinal_of, Shape, Word, Row, Address, Opened, Scope, with_held, MayCall, MayHold, result_of, result_here, parameters_of, parameters_at, shape_at, is_there, element_of, count_of, along}
use Rattle.lil_resolved.specs.Resolved.{Named, variable_at, Designator, Variable, Handed, Along, Held, Field, Element, Follow, Function, Abs, Cap, Chr, Odd, Ord, Val, Expression, Constant, Taken, One, Two, Short, Apply, With, WithSpan, Invoke, High, Routine, InvokeValue, Label, Argument, ByValue, OfPlace, OfAll, OfArray, OfText, OfOpened, Spelled, Arguments, NoMore, Also, Statement, Assign, Copy, Text, Change, Member, New, Allocate, Request, If, Case, While, Repeat, Loop, Exit, Halt, Return, Answer, Call, CallValue, For, Inside, Statements, Empty, Then, Arms, NoElse, Else, Arm, Procedure, Resolved, procedure_by, scope_in, kind_of, right_kind, counted_as, shape_of}
use Rattle.lil_resolved.specs.Sizes.{place_depth, depth}

-- an operator takes operands of this kind, and IN a left one
abbrev pub takes_one : OneOp → Kind → Bool
takes_one one.Plus k = is_whole k
takes_one one.Minus (OfWhole Integer) = true
takes_one one.Minus _ = false
takes_one one.Not OfTruth = true
takes_one one.Not _ = false

abbrev pub takes_two : TwoOp → Kind → Bool
takes_two Equal k = is_compared k
takes_two Unequal k = is_compared k
takes_two Less k = is_ordinal k
takes_two AtMost k = is_ordinal k || is_set k
takes_two Greater k = is_ordinal k
takes_two AtLeast k = is_ordinal k || is_set k
takes_two In k = is_ordinal k
takes_two Plus k = is_whole k || is_set k
takes_two Minus k = is_whole k || is_set k
takes_two Times k = is_whole k || is_set k
takes_two Slash k = is_set k
takes_two Div k = is_whole k
takes_two Mod k = is_whole k
takes_two Or k = false
takes_two And k = false

-- a standard function takes a value of this kind
abbrev pub takes_function : Function → Kind → Bool
takes_function (Abs Cardinal) (OfWhole Cardinal) = true
takes_function (Abs Integer) (OfWhole Integer) = true
takes_function (Abs t) k = false
takes_function Cap OfCharacter = true
takes_function Cap k = false
takes_function Chr k = is_whole k
takes_function Odd k = is_whole k
takes_function Ord k = is_ordinal k
takes_function (Val j) k = is_ordinal k && is_ordinal (base_of j)

-- a variable, by its number, has a kind whose values have numbers
pub record IsSoundVariable (ts : Scope) (v : Named) (k : Kind) : Type 0 where
  pub known : variable_at ts v ≡ Some (Word k)
  pub base : is_ordinal (base_of k) ≡ true

-- a place has a kind whose values are words
pub record IsScalar (ts : Scope) (d : Designator) (k : Kind) : Type 0 where
  pub shape : shape_of ts d ≡ Word k
  pub base : is_base (base_of k) ≡ true

-- what the parameter of an argument holds
abbrev pub parameter_of : Scope → Argument → Shape
parameter_of ts (ByValue k e) = Word k
parameter_of ts (OfPlace d) = Address (shape_of ts d)
parameter_of ts (OfAll d) = shape_of ts d
parameter_of ts (OfArray copied d high) = Opened copied (element_of (shape_of ts d))
parameter_of ts (OfText cs) = Opened true (Word OfCharacter)
parameter_of ts (OfOpened copied n x) = Opened copied (along (shape_at (parameters_at ts n) x))
parameter_of ts (Spelled cs count) = Row count (Word OfCharacter)

abbrev pub parameters_given : Scope → Arguments → List Shape
parameters_given ts NoMore = []
parameters_given ts (Also a given) = parameter_of ts a ∷ parameters_given ts given

-- a parameter is an open array
abbrev pub IsSoundOpened : Scope → (n x : ℕ) → Type 0
IsSoundOpened ts n x = (copied : Bool) × (t : Shape) × (slice_get (parameters_at ts n) x ≡ Some (Opened copied t)) × (is_there t ≡ true)

-- the value of an expression is a procedure of a type with these parameters and this result
pub record IsSoundCallee (ts : Scope) (e : Expression) (parameters : List Shape) (result : Option Kind) : Type 0 where
  pub number : ℕ
  pub kind : kind_of e ≡ OfProcedure number
  pub known : slice_get ts.signatures number ≡ Some (record { parameters = parameters; result = result })
  pub shallow : depth e ≤ 13

-- what a string holds are characters
abbrev pub is_character : ℕ → Bool
is_character c = nat_le c 255

abbrev pub is_text : List ℕ → Bool
is_text cs = list_all is_character cs

-- An index chooses from all elements, operands have their operator's kind, constants fit theirs, and the record of a WITH is one around.
-- What an argument is stands alone: the code of what stands alone takes up to 13 words of the expression stack.
abbrev mutual
  pub IsSoundPlace : Scope → Designator → Type 0
  IsSoundPlace ts (Variable v) = Unit {0}
  IsSoundPlace ts (Handed n x) = (t : Shape) × (slice_get (parameters_at ts n) x ≡ Some (Address t)) × (is_there t ≡ true)
  IsSoundPlace ts (Along n x e) = IsSoundOpened ts n x × (takes_value (OfWhole Cardinal) (kind_of e) ≡ true) × IsSoundExpression ts e
  IsSoundPlace ts (Held w) = (t : Shape) × (slice_get ts.held w ≡ Some t) × (is_there t ≡ true)
  IsSoundPlace ts (Field d i) = IsSoundPlace ts d
  IsSoundPlace ts (Element d k e) = (count_of (shape_of ts d) ≡ numbers k) × (takes_value k (kind_of e) ≡ true) × IsSoundPlace ts d × IsSoundExpression ts e
  IsSoundPlace ts (Follow d n) = (shape_of ts d ≡ Word (OfPointer (Objects n))) × (is_there (shape_at ts.targets n) ≡ true) × IsSoundPlace ts d

  pub IsSoundExpression : Scope → Expression → Type 0
  IsSoundExpression ts (Constant k v) = is_literal k v ≡ true
  IsSoundExpression ts (Taken d k) = IsScalar ts d k × IsSoundPlace ts d
  IsSoundExpression ts (One o k a) = (takes_one o k ≡ true) × (kind_of a ≡ k) × IsSoundExpression ts a
  IsSoundExpression ts (Two o k a b) = (takes_two o k ≡ true) × (kind_of a ≡ k) × (kind_of b ≡ right_kind o k) × IsSoundExpression ts a × IsSoundExpression ts b
  IsSoundExpression ts (Short d a b) = (kind_of a ≡ OfTruth) × (kind_of b ≡ OfTruth) × IsSoundExpression ts a × IsSoundExpression ts b
  IsSoundExpression ts (Apply f a) = (takes_function f (kind_of a) ≡ true) × IsSoundExpression ts a
  IsSoundExpression ts (With s k a) = (kind_of s ≡ OfSet) × IsSoundExpression ts s × (is_element k ≡ true) × (takes_value k (kind_of a) ≡ true) × IsSoundExpression ts a
  IsSoundExpression ts (WithSpan s k a b) =
      (kind_of s ≡ OfSet) × IsSoundExpression ts s × (is_element k ≡ true) × (takes_value k (kind_of a) ≡ true) × (takes_value k (kind_of b) ≡ true) × IsSoundExpression ts a × IsSoundExpression ts b
  IsSoundExpression ts (Invoke p n k given) =
      MayCall ts p n × (result_of (procedure_by ts.procedures p) ≡ Some k) × (parameters_of (procedure_by ts.procedures p) ≡ parameters_given ts given) × AreSoundArguments ts given
  IsSoundExpression ts (High n x) = IsSoundOpened ts n x
  IsSoundExpression ts (Routine p n) = MayHold ts p n
  IsSoundExpression ts (InvokeValue e k given) = IsSoundCallee ts e (parameters_given ts given) (Some k) × IsSoundExpression ts e × AreSoundArguments ts given

  pub IsSoundArgument : Scope → Argument → Type 0
  IsSoundArgument ts (ByValue k e) = (stores_value k (kind_of e) ≡ true) × (depth e ≤ 13) × IsSoundExpression ts e
  IsSoundArgument ts (OfPlace d) = (is_there (shape_of ts d) ≡ true) × (place_depth d ≤ 13) × IsSoundPlace ts d
  IsSoundArgument ts (OfAll d) = (is_there (shape_of ts d) ≡ true) × (place_depth d ≤ 13) × IsSoundPlace ts d
  IsSoundArgument ts (OfArray copied d high) =
      (shape_of ts d ≡ Row (suc high) (element_of (shape_of ts d))) × (is_there (element_of (shape_of ts d)) ≡ true) × (high ≤ 65535) × (place_depth d ≤ 13) × IsSoundPlace ts d
  IsSoundArgument ts (OfText cs) = is_text cs ≡ true
  IsSoundArgument ts (OfOpened copied n x) = IsSoundOpened ts n x
  IsSoundArgument ts (Spelled cs count) = (is_text cs ≡ true) × (length cs ≤ count) × (count ≤ 65535)

  pub AreSoundArguments : Scope → Arguments → Type 0
  AreSoundArguments ts NoMore = Unit {0}
  AreSoundArguments ts (Also a given) = IsSoundArgument ts a × AreSoundArguments ts given

-- The code of what stands alone takes up to 13 words of the expression stack: that of a text has a depth of at most 12, and ODD and an
-- element of a set take one word more than the texts' rule says.

-- a place of a kind to which values may be stored
pub record IsSoundTarget (ts : Scope) (d : Designator) (k : Kind) : Type 0 where
  pub scalar : IsScalar ts d k
  pub place : IsSoundPlace ts d
  pub shallow : place_depth d ≤ 13

-- two places of one shape
pub record IsSoundCopy (ts : Scope) (d from : Designator) : Type 0 where
  pub same : shape_of ts from ≡ shape_of ts d
  pub there : is_there (shape_of ts d) ≡ true
  pub place : IsSoundPlace ts d
  pub source : IsSoundPlace ts from
  pub shallow : place_depth d ≤ 13
  pub source_shallow : place_depth from ≤ 13

-- an array of at least as many characters as a string has
pub record IsSoundText (ts : Scope) (d : Designator) (cs : List ℕ) : Type 0 where
  pub count : ℕ
  pub shape : shape_of ts d ≡ Row count (Word OfCharacter)
  pub fits : length cs ≤ count
  pub text : is_text cs ≡ true
  pub place : IsSoundPlace ts d
  pub shallow : place_depth d ≤ 13

-- a place that is fixed: that of the record of a WITH
pub record IsSoundHeld (ts : Scope) (d : Designator) : Type 0 where
  pub there : is_there (shape_of ts d) ≡ true
  pub place : IsSoundPlace ts d
  pub shallow : place_depth d ≤ 13

-- an expression of a kind that stands alone
pub record IsSoundWhole (ts : Scope) (e : Expression) (k : Kind) : Type 0 where
  pub kind : kind_of e ≡ k
  pub shallow : depth e ≤ 13
  pub sound : IsSoundExpression ts e

-- an expression whose value may be stored where one of a kind is wanted
pub record IsSoundValue (ts : Scope) (e : Expression) (k : Kind) : Type 0 where
  pub takes : takes_value k (kind_of e) ≡ true
  pub whole : IsSoundWhole ts e (kind_of e)

-- an expression whose value may be stored at a place of a kind
pub record IsSoundStored (ts : Scope) (e : Expression) (k : Kind) : Type 0 where
  pub stores : stores_value k (kind_of e) ≡ true
  pub whole : IsSoundWhole ts e (kind_of e)

-- a pointer that gets an object
pub record IsSoundNew (ts : Scope) (d : Designator) (n : ℕ) : Type 0 where
  pub shape : shape_of ts d ≡ Word (OfPointer (Objects n))
  pub there : is_there (shape_at ts.targets n) ≡ true
  pub place : IsSoundPlace ts d
  pub shallow : place_depth d ≤ 13

-- a range of labels isn't empty, and its ends are numbers of values of the kind
pub record IsSoundLabel (k : Kind) (l : Label) : Type 0 where
  pub order : l.low ≤ℤ l.high
  pub lower : within k (scalar_of k l.low) ≡ true
  pub upper : within k (scalar_of k l.high) ≡ true
  pub lower_number : ordinal_of (scalar_of k l.low) ≡ l.low
  pub upper_number : ordinal_of (scalar_of k l.high) ≡ l.high

abbrev pub AreSoundLabels : Kind → List Label → Type 0
AreSoundLabels k [] = Unit {0}
AreSoundLabels k (l ∷ ls) = IsSoundLabel k l × AreSoundLabels k ls

-- a step of FOR isn't zero and is an INTEGER
pub record IsStep (z : ℤ) : Type 0 where
  pub some : z ≢ pos 0
  pub lower : negsuc 32767 ≤ℤ z
  pub upper : z ≤ℤ pos 32767

-- what the parameters of a request hold
abbrev pub request_parameters : request.Request → List Shape
request_parameters r.Write = Word OfCharacter ∷ []
request_parameters r.WriteString = Opened true (Word OfCharacter) ∷ []
request_parameters r.WriteLn = []
request_parameters r.WriteCard = Word (OfWhole Cardinal) ∷ Word (OfWhole Cardinal) ∷ []
request_parameters r.WriteInt = Word (OfWhole Integer) ∷ Word (OfWhole Cardinal) ∷ []
request_parameters r.WriteOct = Word (OfWhole Cardinal) ∷ Word (OfWhole Cardinal) ∷ []
request_parameters r.WriteHex = Word (OfWhole Cardinal) ∷ Word (OfWhole Cardinal) ∷ []

-- an argument of a request: a value, or an open array
abbrev pub IsServed : Argument → Type 0
IsServed (ByValue k e) = Unit {0}
IsServed (OfPlace d) = ⊥
IsServed (OfAll d) = ⊥
IsServed (OfArray copied d high) = Unit {0}
IsServed (OfText cs) = Unit {0}
IsServed (OfOpened copied n x) = Unit {0}
IsServed (Spelled cs count) = ⊥

abbrev pub AreServed : Arguments → Type 0
AreServed NoMore = Unit {0}
AreServed (Also a given) = IsServed a × AreServed given

-- arguments are those of parameters which hold this
pub record IsGiven (ts : Scope) (parameters : List Shape) (given : Arguments) : Type 0 where
  pub takes : parameters ≡ parameters_given ts given
  pub sound : AreSoundArguments ts given

-- statements inside a LOOP or not
abbrev mutual
  pub IsSoundStatement : Scope → Bool → Statement → Type 0
  IsSoundStatement ts looping (Assign d k e) = IsSoundTarget ts d k × IsSoundStored ts e k
  IsSoundStatement ts looping (Copy d from) = IsSoundCopy ts d from
  IsSoundStatement ts looping (Text d cs) = IsSoundText ts d cs
  IsSoundStatement ts looping (Change down d k e) = IsSoundTarget ts d k × (is_plain k ≡ true) × IsSoundWhole ts e (OfWhole (counted_as k))
  IsSoundStatement ts looping (Member out d k e) = IsSoundTarget ts d OfSet × (is_element k ≡ true) × IsSoundValue ts e k
  IsSoundStatement ts looping (New d n) = IsSoundNew ts d n
  IsSoundStatement ts looping (Allocate back d e) = IsSoundTarget ts d (OfPointer Workspaces) × IsSoundValue ts e (OfWhole Cardinal)
  IsSoundStatement ts looping (Request r given) = IsGiven ts (request_parameters r) given × AreServed given
  IsSoundStatement ts looping (If c a b) = IsSoundWhole ts c OfTruth × IsSoundBody ts looping a × IsSoundBody ts looping b
  IsSoundStatement ts looping (Case e arms) = (is_ordinal (kind_of e) ≡ true) × IsSoundWhole ts e (kind_of e) × AreSoundArms ts looping (kind_of e) arms
  IsSoundStatement ts looping (While c body) = IsSoundWhole ts c OfTruth × IsSoundBody ts looping body
  IsSoundStatement ts looping (Repeat body c) = IsSoundBody ts looping body × IsSoundWhole ts c OfTruth
  IsSoundStatement ts looping (Loop body) = IsSoundBody ts true body
  IsSoundStatement ts looping Exit = looping ≡ true
  IsSoundStatement ts looping Halt = Unit {0}
  IsSoundStatement ts looping Return = result_here ts ≡ None
  IsSoundStatement ts looping (Answer k e) = (result_here ts ≡ Some k) × IsSoundStored ts e k
  IsSoundStatement ts looping (Call p n given) = MayCall ts p n × (result_of (procedure_by ts.procedures p) ≡ None) × IsGiven ts (parameters_of (procedure_by ts.procedures p)) given
  IsSoundStatement ts looping (CallValue e given) = IsSoundCallee ts e (parameters_given ts given) None × IsSoundExpression ts e × AreSoundArguments ts given
  IsSoundStatement ts looping (For v k a b step body) = IsSoundVariable ts v k × IsSoundValue ts a k × IsSoundWhole ts b (base_of k) × IsStep step × IsSoundBody ts looping body
  IsSoundStatement ts looping (Inside d body) = IsSoundHeld ts d × IsSoundBody (with_held ts (shape_of ts d)) looping body

  pub IsSoundBody : Scope → Bool → Statements → Type 0
  IsSoundBody ts looping Empty = Unit {0}
  IsSoundBody ts looping (Then s ss) = IsSoundStatement ts looping s × IsSoundBody ts looping ss

  pub AreSoundArms : Scope → Bool → Kind → Arms → Type 0
  AreSoundArms ts looping k NoElse = Unit {0}
  AreSoundArms ts looping k (Else body) = IsSoundBody ts looping body
  AreSoundArms ts looping k (Arm labels body rest) = AreSoundLabels k labels × IsSoundBody ts looping body × AreSoundArms ts looping k rest

-- the statements of the body and of each procedure, by its number, of which there are at most 250
pub record IsSound (m : Resolved) : Type 0 where
  pub few : length m.procedures ≤ 250
  pub body : IsSoundBody (scope_in m []) false m.body
  pub procedures : (p : ℕ) (its : Procedure) → procedure_by m.procedures p ≡ Some its → IsSoundBody (scope_in m (p ∷ its.around)) false its.body
