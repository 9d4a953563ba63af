-- Resolved modules: each name is replaced by the thing that it means, and each constant expression by its value.
use Rattle.std.specs.Prelude.{ℕ, ℤ, Bool, true, false, List, [], ◌∷◌, Option, map, slice_get}
use Rattle.lil_base.specs.{Words.{Whole, Cardinal}, declared.operator.{OneOp.OneOp, TwoOp.{TwoOp, TheVariants.{Equal, Unequal, Less, AtMost, Greater, AtLeast, In, Plus, Minus, Or, Times, Slash, Div, Mod, And}}}}
use Rattle.lil_base.specs.declared.request.Request as request
use Rattle.lil_resolved.specs.Kinds.{Kind, OfWhole, OfTruth, OfCharacter, OfSet, OfProcedure, base_of, compared_as, Scalar, Shape, Signature, Outline, Scope, locals_at, parameters_at, outermost, part_at, shape_by, shape_at, element_of, led_to, along}
pub use Rattle.lil_resolved.specs.Kinds.{procedure_by}

-- standard functions of one value
pub data Function : Type 0 where
  Abs : (t : Whole) → Function
  Cap : Function
  Chr : Function
  Odd : Function
  Ord : Function
  Val : (k : Kind) → Function

-- a variable, by its number among those of its owner: the module, or the procedure so many levels out, of which the one at hand is 0
pub data Named : Type 0 where
  OfModule : (x : ℕ) → Named
  OfLevel : (n x : ℕ) → Named

mutual
  -- what names a place
  pub data Designator : Type 0 where
    Variable : (v : Named) → Designator
    -- what was handed in for a VAR parameter, which is a variable of the procedure so many levels out
    Handed : (n x : ℕ) → Designator
    -- an element of the open array that is a parameter, a variable of the procedure so many levels out
    Along : (n x : ℕ) (e : Expression) → Designator
    -- the record of a WITH around, by how many others are between
    Held : (w : ℕ) → Designator
    -- a field of a record, by its number
    Field : (d : Designator) (i : ℕ) → Designator
    -- an element of an array, by an index of a kind
    Element : (d : Designator) (k : Kind) (e : Expression) → Designator
    -- the object that a pointer points to, by the number of its type
    Follow : (d : Designator) (n : ℕ) → Designator

  pub data Expression : Type 0 where
    Constant : (k : Kind) (v : Scalar) → Expression
    -- the value of a kind at a place
    Taken : (d : Designator) (k : Kind) → Expression
    -- an operator on a value of a kind
    One : (o : OneOp) (k : Kind) (a : Expression) → Expression
    -- an operator on two values of a kind; the right one of IN is a set
    Two : (o : TwoOp) (k : Kind) (a b : Expression) → Expression
    -- a AND b, a OR b
    -- the right operand counts only where the left one is not the value that decides: TRUE for OR, FALSE for AND
    Short : (decides : Bool) (a b : Expression) → Expression
    -- a standard function of a value
    Apply : (f : Function) (a : Expression) → Expression
    -- a set, and a number of a kind in it
    With : (s : Expression) (k : Kind) (a : Expression) → Expression
    -- a set, and the numbers of a kind from a to b in it
    WithSpan : (s : Expression) (k : Kind) (a b : Expression) → Expression
    -- what a procedure returns, of a kind: it is called by its number, and is declared so many levels out
    Invoke : (p n : ℕ) (k : Kind) (given : Arguments) → Expression
    -- HIGH: the number of the last element of the open array that is a parameter, a variable of the procedure so many levels out
    High : (n x : ℕ) → Expression
    -- a procedure of the module, by its number, as a value of the procedure type with this number
    Routine : (p n : ℕ) → Expression
    -- what the procedure returns, of a kind, that is the value of e
    InvokeValue : (e : Expression) (k : Kind) (given : Arguments) → Expression

  -- an argument: a value, with its parameter's kind; a place for a VAR parameter; all that lies at a place, for an array or a record by value;
  -- for an open array, which may be copied, an array with the number of its last element, a string, or the open array that is a parameter; or a
  -- string for an array of so many characters by value
  pub data Argument : Type 0 where
    ByValue : (k : Kind) (e : Expression) → Argument
    OfPlace : (d : Designator) → Argument
    OfAll : (d : Designator) → Argument
    OfArray : (copied : Bool) (d : Designator) (high : ℕ) → Argument
    OfText : (cs : List ℕ) → Argument
    OfOpened : (copied : Bool) (n x : ℕ) → Argument
    Spelled : (cs : List ℕ) (count : ℕ) → Argument

  -- the arguments of a call, from left to right
  pub data Arguments : Type 0 where
    NoMore : Arguments
    Also : (a : Argument) (rest : Arguments) → Arguments

-- arguments in a list, in its order
abbrev pub given_in : List Argument → Arguments
given_in [] = NoMore
given_in (a ∷ given) = Also a (given_in given)

-- the labels from one number to another
pub record Label : Type 0 where
  pub low : ℤ
  pub high : ℤ

mutual
  pub data Statement : Type 0 where
    -- to a place of a kind
    Assign : (d : Designator) (k : Kind) (e : Expression) → Statement
    -- all scalars at one place go to another
    Copy : (d from : Designator) → Statement
    -- the characters of a string go to an array, and 0C to its other elements
    Text : (d : Designator) (cs : List ℕ) → Statement
    -- INC(d, e) adds e to d's number, DEC(d, e) takes it away
    Change : (down : Bool) (d : Designator) (k : Kind) (e : Expression) → Statement
    -- INCL(d, e) puts the number e, of a kind, into the set at d, EXCL(d, e) takes it out
    Member : (out : Bool) (d : Designator) (k : Kind) (e : Expression) → Statement
    -- NEW of a pointer, by the number of its type
    New : (d : Designator) (n : ℕ) → Statement
    -- ALLOCATE(d, e) has the address at d lead to a new workspace of e words, DEALLOCATE(d, e) makes it NIL
    Allocate : (back : Bool) (d : Designator) (e : Expression) → Statement
    -- a call of the resident procedure with this request
    Request : (r : request.Request) (given : Arguments) → Statement
    If : (c : Expression) (a b : Statements) → Statement
    Case : (e : Expression) (arms : Arms) → Statement
    While : (c : Expression) (body : Statements) → Statement
    Repeat : (body : Statements) (c : Expression) → Statement
    Loop : (body : Statements) → Statement
    Exit : Statement
    -- HALT
    Halt : Statement
    -- RETURN
    Return : Statement
    -- RETURN of a value of a kind
    Answer : (k : Kind) (e : Expression) → Statement
    -- a call of a procedure, by its number, which is declared so many levels out; those of the module are 0 levels out
    Call : (p n : ℕ) (given : Arguments) → Statement
    -- a call of the procedure that is the value of e
    CallValue : (e : Expression) (given : Arguments) → Statement
    -- FOR v := a TO b BY step DO body END, with a variable of a kind
    For : (v : Named) (k : Kind) (a b : Expression) (step : ℤ) (body : Statements) → Statement
    -- WITH d DO body END
    Inside : (d : Designator) (body : Statements) → Statement

  -- one behind another
  pub data Statements : Type 0 where
    Empty : Statements
    Then : (s : Statement) (rest : Statements) → Statements

  -- the arms of a CASE, and what stands behind ELSE
  pub data Arms : Type 0 where
    NoElse : Arms
    Else : (body : Statements) → Arms
    Arm : (labels : List Label) (body : Statements) (rest : Arms) → Arms

-- a list of statements, in its order
abbrev pub in_order : List Statement → Statements
in_order [] = Empty
in_order (s ∷ ss) = Then s (in_order ss)

-- a procedure: its name, the procedures around it by their numbers, the innermost first, the shapes of its variables, its parameters first,
-- how many of them are parameters, the kind of what it returns, and its statements
pub record Procedure : Type 0 where
  pub name : List ℕ
  pub around : List ℕ
  pub locals : List Shape
  pub parameters : ℕ
  pub result : Option Kind
  pub body : Statements

abbrev pub outline_of : Procedure → Outline
outline_of p = record { around = p.around; locals = p.locals; parameters = p.parameters; result = p.result }

pub record Resolved : Type 0 where
  pub name : List ℕ
  -- what pointers point to, and what procedures of procedure types have, by the numbers of these types
  pub targets : List Shape
  pub signatures : List Signature
  -- the names of the variables in order, and their shapes
  pub names : List (List ℕ)
  pub variables : List Shape
  -- the procedures, from number 1; the body has number 0
  pub procedures : List Procedure
  pub body : Statements

-- what names reach in the statements of a procedure, by it and those around it, and in the body, where there are none
abbrev pub scope_in : Resolved → List ℕ → Scope
scope_in m chain = outermost m.targets m.signatures m.variables (map outline_of m.procedures) chain

-- an operator that compares
abbrev pub is_relation : TwoOp → Bool
is_relation Equal = true
is_relation Unequal = true
is_relation Less = true
is_relation AtMost = true
is_relation Greater = true
is_relation AtLeast = true
is_relation In = true
is_relation Plus = false
is_relation Minus = false
is_relation Or = false
is_relation Times = false
is_relation Slash = false
is_relation Div = false
is_relation Mod = false
is_relation And = false

-- the kind of the value of an operator on operands of a kind
abbrev pub result_kind : Bool → Kind → Kind
result_kind true k = OfTruth
result_kind false k = k

-- the kind of its right operand, where the left one's is known
abbrev pub right_kind : TwoOp → Kind → Kind
right_kind In k = OfSet
right_kind _ k = k

abbrev pub function_kind : Function → Kind
function_kind (Abs t) = OfWhole t
function_kind Cap = OfCharacter
function_kind Chr = OfCharacter
function_kind Odd = OfTruth
function_kind Ord = OfWhole Cardinal
function_kind (Val k) = base_of k

-- the kind of the numbers that INC and DEC of a variable compute with: INTEGERs beside one of INTEGER, else CARDINALs
abbrev pub counted_as : Kind → Whole
counted_as k = compared_as (base_of k)

-- the kind of an expression's value
abbrev pub kind_of : Expression → Kind
kind_of (Constant k v) = k
kind_of (Taken d k) = base_of k
kind_of (One o k a) = k
kind_of (Two o k a b) = result_kind (is_relation o) k
kind_of (Short d a b) = OfTruth
kind_of (Apply f a) = function_kind f
kind_of (With s k a) = OfSet
kind_of (WithSpan s k a b) = OfSet
kind_of (Invoke p n k given) = base_of k
kind_of (High n x) = OfWhole Cardinal
kind_of (Routine p n) = OfProcedure n
kind_of (InvokeValue e k given) = base_of k

-- the shape of a variable, if there is one
abbrev pub variable_at : Scope → Named → Option Shape
variable_at ts (OfModule x) = slice_get ts.variables x
variable_at ts (OfLevel n x) = slice_get (locals_at ts n) x

-- what lies at the place that a designator names
abbrev pub shape_of : Scope → Designator → Shape
shape_of ts (Variable v) = shape_by (variable_at ts v)
shape_of ts (Handed n x) = led_to (shape_at (parameters_at ts n) x)
shape_of ts (Along n x e) = along (shape_at (parameters_at ts n) x)
shape_of ts (Held w) = shape_at ts.held w
shape_of ts (Field d i) = part_at (shape_of ts d) (i ∷ [])
shape_of ts (Element d k e) = element_of (shape_of ts d)
shape_of ts (Follow d n) = shape_at ts.targets n
