-- The views of the program's trees: which resolved module each one is, form by form.
use Rattle.std.proofs.Common.{◌≡◌, ℕ, ℤ, List, map, Option, None, Some, sym, ap, ◌∙◌}
use Rattle.lil_base.specs.{declared.operator.{OneOp.OneOp, TwoOp.{TwoOp, TheVariants.{Equal, Unequal, Less, AtMost, Greater, AtLeast, In, Plus, Minus, Or, Times, Slash, Div, Mod, And}}}, Words.{Cardinal, Integer}}
use Rattle.lil_resolved.specs.declared.resolved.{RExpr.RExpr, RArgument.TheOpen.{RExpr-F, RMember-F, RSelector-F, ROperation-F, RArgument-F, RPlace-F, RRoot-F}}
use Rattle.lil_resolved.specs.declared.resolved.RArgument.TheFolds.{map-RExpr, map-RArgument, map-RSelector, map-RMember, fold-roll-RExpr, fold-roll-RMember, fold-roll-RSelector, fold_out-RSelector, fold_out-RMember, fold_out-ROperation, fold_out-RPlace, fold-RExpr, fold-RSelector, fold-RMember, fold-ROperation, fold-RArgument, fold-roll-RArgument, fold-RPlace, fold-RRoot, fold-roll-RRoot, map-RRoot}
use Rattle.lil_resolved.specs.declared.resolved.{RArgument.TheViews.{roll-RExpr, roll-RMember, roll-RSelector, roll-RArgument, roll-RRoot}, ROperation.{ROperation, out-ROperation}, RPlace.{RPlace, out-RPlace}, RSelector.{RSelector, out-RSelector}, RMember.{RMember, out-RMember}, Membership.Membership, Allocation.Allocation, RKind.RKind}
use Rattle.lil_resolved.specs.{Kinds.{Kind, Objects, Workspaces, OfWhole, OfTruth, OfCharacter, OfEnumeration, OfSet, OfPointer, OfProcedure, OfRange, compared_as, scalar_of, SetOf, Shape, Absent, Word, Row, Address, Opened, Signature, all_words, offsets_from, shape_at, fields_of, words}, declared.resolved.RStmt.{RStmt, TheOpen.{RStmt-F, RArm-F, RGuard-F}}}
use Rattle.lil_resolved.specs.declared.resolved.{RStmt.{TheFolds.{map-RStmt, fold-roll-RStmt, fold-roll-RArm, fold-roll-RGuard, fold-RStmt, fold-RArm, fold-RGuard}, TheViews.roll-RStmt}, RGuard.RGuard, RArm.RArm, RBase.RBase, RVariable.RVariable, RNamed.RNamed, RFunction.RFunction, Direction.Direction, RArgument.RArgument}
use Rattle.lil_resolved.specs.Resolved.{Named, OfModule, OfLevel, Designator, Field, Element, Follow, Expression, Constant, Taken, Apply, With, WithSpan, Assign, Copy, Text, Change, Member, New, Allocate, Request, If, Case, While, Repeat, Loop, Exit, Halt, Return, Answer, Call, CallValue, For, Inside, Statements, Empty, Then, Arms, Arm, kind_of, Variable, Handed, Along, Held, Function, Abs, Cap, Chr, Odd, Ord, Val, One, Two, Short, Argument, ByValue, OfPlace, OfAll, OfArray, OfText, OfOpened, Spelled, Arguments, given_in, Invoke, High, Routine, InvokeValue, Label, NoElse, Else, Procedure, Resolved}
use Rattle.lil_resolved.specs.{Members.no_members, declared.{resolved.{RRange.RRange, RRoot.RRoot, RPassing.RPassing, ROpening.ROpening, RPassed.RPassed, RSignature.RSignature, RDeclared.RDeclared, RLabel.RLabel, RHeading.RHeading, RProcedure.RProcedure, RModule.RModule}, shapes.{RField.RField, RShape.RShape}}}
use Rattle.lil_resolved.specs.declared.resolved.RExpr.TheVariants as e
use Rattle.lil_resolved.specs.declared.resolved.RArgument.TheOpen as x
use Rattle.lil_resolved.specs.declared.resolved.RSelector.TheVariants as l
use Rattle.lil_resolved.specs.declared.resolved.RMember.TheVariants as c
use Rattle.lil_resolved.specs.declared.resolved.RStmt.TheVariants as s
use Rattle.lil_resolved.specs.declared.resolved.RStmt.TheOpen as o
use Rattle.lil_base.specs.declared.request.Request as request
use Rattle.std.specs.{Option.option_map, Prelude.{◌+◌, ◌<◌, ◌≤◌, min, Bool, [], ◌∷◌, ◌++◌, length, true, false}, List.All}
use Rattle.lil_resolved.specs.declared.resolved.RBase.TheVariants as b
use Rattle.lil_resolved.specs.declared.resolved.RFunction.TheVariants as f
use Rattle.lil_resolved.specs.declared.resolved.Direction.TheVariants as d
use Rattle.lil_resolved.specs.declared.resolved.Membership.TheVariants as j
use Rattle.lil_resolved.specs.declared.resolved.Allocation.TheVariants as w
use Rattle.lil_resolved.specs.declared.resolved.RRoot.TheVariants as t
use Rattle.lil_resolved.specs.declared.resolved.RNamed.TheVariants as n
use Rattle.lil_resolved.specs.declared.resolved.RArgument.TheVariants as g
use Rattle.lil_resolved.specs.declared.resolved.RPassing.TheVariants as h
use Rattle.lil_resolved.specs.declared.resolved.ROpening.TheVariants as v
use Rattle.lil_resolved.specs.declared.shapes.RShape.TheVariants as r

-- ---- kinds, functions and requests
abbrev pub base_view : RBase → Kind
base_view b.Cardinal = OfWhole Cardinal
base_view b.Integer = OfWhole Integer
base_view b.Truth = OfTruth
base_view b.Character = OfCharacter
base_view (b.Enumeration n) = OfEnumeration n
base_view b.Set = OfSet
base_view (b.Pointer n) = OfPointer (Objects n)
base_view b.Address = OfPointer Workspaces
base_view (b.Procedure n) = OfProcedure n

abbrev pub ranged_view : Kind → Option RRange → Kind
ranged_view k None = k
ranged_view k (Some r) = OfRange k r.low r.high

abbrev pub kind_view : RKind → Kind
kind_view k = ranged_view (base_view k.base) k.range

abbrev pub named_view : RNamed → Named
named_view (n.Module x) = OfModule x
named_view (n.Level l x) = OfLevel l x

abbrev pub variable_kind : RVariable → Kind
variable_kind v = kind_view v.kind

-- a function of a value of a kind
abbrev pub function_of : RFunction → Kind → Function
function_of f.Abs k = Abs (compared_as k)
function_of f.Cap k = Cap
function_of f.Chr k = Chr
function_of f.Odd k = Odd
function_of f.Ord k = Ord
function_of (f.Val j) k = Val (kind_view j)

-- whether the number leaves
abbrev pub is_out : Membership → Bool
is_out j.Joins = false
is_out j.Leaves = true

-- whether a workspace is given back
abbrev pub is_back : Allocation → Bool
is_back w.Takes = false
is_back w.GivesBack = true

-- whether an open array is copied
abbrev pub is_copied : ROpening → Bool
is_copied v.Copied = true
is_copied v.Lent = false

abbrev pub is_down : Direction → Bool
is_down d.Up = false
is_down d.Down = true

-- ---- expressions
-- an operator on two expressions; AND and OR take their right one only where it is needed
abbrev pub two_of : TwoOp → Expression → Expression → Expression
two_of And a b = Short false a b
two_of Or a b = Short true a b
two_of Equal a b = Two Equal (kind_of a) a b
two_of Unequal a b = Two Unequal (kind_of a) a b
two_of Less a b = Two Less (kind_of a) a b
two_of AtMost a b = Two AtMost (kind_of a) a b
two_of Greater a b = Two Greater (kind_of a) a b
two_of AtLeast a b = Two AtLeast (kind_of a) a b
two_of In a b = Two In (kind_of a) a b
two_of Plus a b = Two Plus (kind_of a) a b
two_of Minus a b = Two Minus (kind_of a) a b
two_of Times a b = Two Times (kind_of a) a b
two_of Slash a b = Two Slash (kind_of a) a b
two_of Div a b = Two Div (kind_of a) a b
two_of Mod a b = Two Mod (kind_of a) a b

abbrev pub one_of : OneOp → Expression → Expression
one_of o a = One o (kind_of a) a

-- operations, each on what stands before it
abbrev pub chained : Expression → List (Expression → Expression) → Expression
chained a [] = a
chained a (f ∷ fs) = chained (f a) fs

-- parts, each of what stands before it
abbrev pub selected : Designator → List (Designator → Designator) → Designator
selected d [] = d
selected d (f ∷ fs) = selected (f d) fs

-- elements of a kind, each behind the set of those before it
abbrev pub with_members : Kind → Expression → List (Kind → Expression → Expression) → Expression
with_members k s [] = s
with_members k s (f ∷ fs) = with_members k (f k s) fs

abbrev pub empty_set : Expression
empty_set = Constant OfSet (SetOf no_members)

-- what an expression, a selector, an element, an operation and a place are, where their parts are known
abbrev pub expression_layer : RExpr-F Argument Expression (Kind → Expression → Expression) Designator (Designator → Designator) (Expression → Expression) Designator → Expression
expression_layer (x.Constant base z) = Constant (base_view base) (scalar_of (base_view base) z)
expression_layer (x.Taken d k) = Taken d (kind_view k)
expression_layer (x.One o a) = one_of o a
expression_layer (x.Chain a os) = chained a os
expression_layer (x.Apply f a) = Apply (function_of f (kind_of a)) a
expression_layer (x.Set k es) = with_members (kind_view k) empty_set es
expression_layer (x.Invoke p n k given) = Invoke p n (kind_view k) (given_in given)
expression_layer (x.High n i) = High n i
expression_layer (x.Routine p n) = Routine p n
expression_layer (x.InvokeValue e k given) = InvokeValue e (kind_view k) (given_in given)

abbrev pub selector_layer : RSelector-F Argument Expression (Kind → Expression → Expression) Designator (Designator → Designator) (Expression → Expression) Designator → Designator → Designator
selector_layer (x.Field i) d = Field d i
selector_layer (x.Index k e) d = Element d (kind_view k) e
selector_layer (x.Follow n) d = Follow d n

abbrev pub member_layer : RMember-F Argument Expression (Kind → Expression → Expression) Designator (Designator → Designator) (Expression → Expression) Designator → Kind → Expression → Expression
member_layer (x.Single a) k s = With s k a
member_layer (x.Span a b) k s = WithSpan s k a b

abbrev pub root_layer : RRoot-F Argument Expression (Kind → Expression → Expression) Designator (Designator → Designator) (Expression → Expression) Designator → Designator
root_layer (x.Variable v) = Variable (named_view v)
root_layer (x.Handed n i) = Handed n i
root_layer (x.Along n i e) = Along n i e
root_layer (x.Held w) = Held w

abbrev pub operation_layer : ROperation-F Argument Expression (Kind → Expression → Expression) Designator (Designator → Designator) (Expression → Expression) Designator → Expression → Expression
operation_layer o a = two_of o.operator a o.operand

abbrev pub place_layer : RPlace-F Argument Expression (Kind → Expression → Expression) Designator (Designator → Designator) (Expression → Expression) Designator → Designator
place_layer p = selected p.root p.selectors

abbrev pub argument_layer : RArgument-F Argument Expression (Kind → Expression → Expression) Designator (Designator → Designator) (Expression → Expression) Designator → Argument
argument_layer (x.Value k e) = ByValue (kind_view k) e
argument_layer (x.Place p) = OfPlace p
argument_layer (x.All p) = OfAll p
argument_layer (x.Array o p high) = OfArray (is_copied o) p high
argument_layer (x.Text cs) = OfText cs
argument_layer (x.Opened o n i) = OfOpened (is_copied o) n i
argument_layer (x.Spelled cs count) = Spelled cs count

abbrev pub expression_of : RExpr → Expression
expression_of = fold-RExpr Argument Expression (Kind → Expression → Expression) Designator (Designator → Designator) (Expression → Expression) Designator argument_layer expression_layer member_layer root_layer selector_layer operation_layer place_layer

abbrev pub selector_of : RSelector → Designator → Designator
selector_of = fold-RSelector Argument Expression (Kind → Expression → Expression) Designator (Designator → Designator) (Expression → Expression) Designator argument_layer expression_layer member_layer root_layer selector_layer operation_layer place_layer

abbrev pub member_of : RMember → Kind → Expression → Expression
member_of = fold-RMember Argument Expression (Kind → Expression → Expression) Designator (Designator → Designator) (Expression → Expression) Designator argument_layer expression_layer member_layer root_layer selector_layer operation_layer place_layer

abbrev pub operation_of : ROperation → Expression → Expression
operation_of = fold-ROperation Argument Expression (Kind → Expression → Expression) Designator (Designator → Designator) (Expression → Expression) Designator argument_layer expression_layer member_layer root_layer selector_layer operation_layer place_layer

abbrev pub place_of : RPlace → Designator
place_of = fold-RPlace Argument Expression (Kind → Expression → Expression) Designator (Designator → Designator) (Expression → Expression) Designator argument_layer expression_layer member_layer root_layer selector_layer operation_layer place_layer

abbrev pub root_of : RRoot → Designator
root_of = fold-RRoot Argument Expression (Kind → Expression → Expression) Designator (Designator → Designator) (Expression → Expression) Designator argument_layer expression_layer member_layer root_layer selector_layer operation_layer place_layer

abbrev pub argument_of : RArgument → Argument
argument_of = fold-RArgument Argument Expression (Kind → Expression → Expression) Designator (Designator → Designator) (Expression → Expression) Designator argument_layer expression_layer member_layer root_layer selector_layer operation_layer place_layer

abbrev pub arguments_of : List RArgument → Arguments
arguments_of given = given_in (map argument_of given)

abbrev pub label_of : RLabel → Label
label_of l = record { low = l.low; high = l.high }

-- statements behind statements
abbrev pub joined : Statements → Statements → Statements
joined Empty more = more
joined (Then s ss) more = Then s (joined ss more)

-- one behind another
abbrev pub all_of : List Statements → Statements
all_of [] = Empty
all_of (s ∷ ss) = joined s (all_of ss)

-- guards, each before what is done where its condition is FALSE; without any that is done
abbrev pub guarded : List (Statements → Statements) → Statements → Statements
guarded [] other = other
guarded (g ∷ gs) other = g (guarded gs other)

-- arms, each before the others
abbrev pub armed : List (Arms → Arms) → Arms → Arms
armed [] other = other
armed (a ∷ rest) other = a (armed rest other)

abbrev pub otherwise_of : Option (List Statements) → Arms
otherwise_of None = NoElse
otherwise_of (Some ss) = Else (all_of ss)

-- what a statement, an arm and a guard are, where their parts are known
abbrev pub statement_layer : RStmt-F Statements (Arms → Arms) (Statements → Statements) → Statements
statement_layer (o.Assign p k e) = Then (Assign (place_of p) (kind_view k) (expression_of e)) Empty
statement_layer (o.Copy p from) = Then (Copy (place_of p) (place_of from)) Empty
statement_layer (o.Text p cs) = Then (Text (place_of p) cs) Empty
statement_layer (o.Change way p k e) = Then (Change (is_down way) (place_of p) (kind_view k) (expression_of e)) Empty
statement_layer (o.Member m d k e) = Then (Member (is_out m) (place_of d) (kind_view k) (expression_of e)) Empty
statement_layer (o.New p n) = Then (New (place_of p) n) Empty
statement_layer (o.Allocate w p e) = Then (Allocate (is_back w) (place_of p) (expression_of e)) Empty
statement_layer (o.Request r given) = Then (Request r (arguments_of given)) Empty
statement_layer (o.If gs ss) = guarded gs (all_of ss)
statement_layer (o.Case e cases other) = Then (Case (expression_of e) (armed cases (otherwise_of other))) Empty
statement_layer (o.While e ss) = Then (While (expression_of e) (all_of ss)) Empty
statement_layer (o.Repeat ss e) = Then (Repeat (all_of ss) (expression_of e)) Empty
statement_layer (o.Loop ss) = Then (Loop (all_of ss)) Empty
statement_layer o.Exit = Then Exit Empty
statement_layer o.Halt = Then Halt Empty
statement_layer o.Return = Then Return Empty
statement_layer (o.Answer k e) = Then (Answer (kind_view k) (expression_of e)) Empty
statement_layer (o.Call p n given) = Then (Call p n (arguments_of given)) Empty
statement_layer (o.CallValue e given) = Then (CallValue (expression_of e) (arguments_of given)) Empty
statement_layer (o.For v a b step ss) = Then (For (named_view v.named) (variable_kind v) (expression_of a) (expression_of b) step (all_of ss)) Empty
statement_layer (o.With p ss) = Then (Inside (place_of p) (all_of ss)) Empty

abbrev pub arm_layer : RArm-F Statements (Arms → Arms) (Statements → Statements) → Arms → Arms
arm_layer a other = Arm (map label_of a.labels) (all_of a.body) other

abbrev pub guard_layer : RGuard-F Statements (Arms → Arms) (Statements → Statements) → Statements → Statements
guard_layer g other = Then (If (expression_of g.condition) (all_of g.body) other) Empty

-- the statements that a statement is: one, or for an IF without a condition those behind its ELSE
abbrev pub statement_of : RStmt → Statements
statement_of = fold-RStmt Statements (Arms → Arms) (Statements → Statements) statement_layer arm_layer guard_layer

abbrev pub arm_of : RArm → Arms → Arms
arm_of = fold-RArm Statements (Arms → Arms) (Statements → Statements) statement_layer arm_layer guard_layer

abbrev pub guard_of : RGuard → Statements → Statements
guard_of = fold-RGuard Statements (Arms → Arms) (Statements → Statements) statement_layer arm_layer guard_layer

abbrev pub statements_of : List RStmt → Statements
statements_of ss = all_of (map statement_of ss)

-- guards with what stands behind ELSE, and arms with it
abbrev pub guards_of : List RGuard → List RStmt → Statements
guards_of gs other = guarded (map guard_of gs) (statements_of other)

abbrev pub else_of : Option (List RStmt) → Arms
else_of None = NoElse
else_of (Some ss) = Else (statements_of ss)

abbrev pub arms_of : List RArm → Option (List RStmt) → Arms
arms_of cases other = armed (map arm_of cases) (else_of other)

-- ---- shapes
abbrev pub number_of : RField → ℕ
number_of f = f.shape

-- what a shape is, by those with lesser numbers
abbrev pub shape_with : List Shape → RShape → Shape
shape_with before r.Absent = Absent
shape_with before (r.Word k) = Word (kind_view k)
shape_with before (r.Fields fs) = fields_of (map (shape_at before) (map number_of fs))
shape_with before (r.Elements e) = Row e.count (shape_at before e.shape)

abbrev pub shapes_behind : List Shape → List RShape → List Shape
shapes_behind before [] = before
shapes_behind before (t ∷ ts) = shapes_behind (before ++ shape_with before t ∷ []) ts

abbrev pub shapes_of : List RShape → List Shape
shapes_of ts = shapes_behind [] ts

-- fields have lesser numbers, and lie one behind another from a word on
abbrev pub AreMeasuredFields : List Shape → ℕ → List RField → Type 0
AreMeasuredFields before n [] = Unit {0}
AreMeasuredFields before n (f ∷ fs) = (f.offset ≡ n) × (f.shape < length before) × AreMeasuredFields before (n + words (shape_at before f.shape)) fs

-- so do elements, each of so many words
abbrev pub IsMeasuredShape : List Shape → RShape → Type 0
IsMeasuredShape before (r.Fields fs) = AreMeasuredFields before 0 fs
IsMeasuredShape before (r.Elements e) = (e.words ≡ words (shape_at before e.shape)) × (e.shape < length before)
IsMeasuredShape before r.Absent = Unit {0}
IsMeasuredShape before (r.Word k) = Unit {0}

-- no shape has more than 32,000 words
abbrev pub AreMeasured : List Shape → List RShape → Type 0
AreMeasured before [] = Unit {0}
AreMeasured before (t ∷ ts) = IsMeasuredShape before t × (words (shape_with before t) ≤ 32000) × AreMeasured (before ++ shape_with before t ∷ []) ts

-- ---- modules
abbrev pub name_of : RDeclared → List ℕ
name_of v = v.name

abbrev pub offset_of : RDeclared → ℕ
offset_of v = v.offset

-- what a variable holds: what lies in it, for a VAR parameter the address of what was handed in, or for an open array that and its last number
abbrev pub held_by : RPassing → Shape → Shape
held_by h.ByValue t = t
held_by h.ByPlace t = Address t
held_by (h.Open o) t = Opened (is_copied o) t

-- what a parameter of a procedure type holds
abbrev pub shape_passed : List RShape → RPassed → Shape
shape_passed ts p = held_by p.passing (shape_at (shapes_of ts) p.shape)

abbrev pub signature_of : List RShape → RSignature → Signature
signature_of ts s = record { parameters = map (shape_passed ts) s.parameters; result = option_map kind_view s.result }

abbrev pub shape_declared : List RShape → RDeclared → Shape
shape_declared ts v = held_by v.passing (shape_at (shapes_of ts) v.shape)

abbrev pub locals_of : List RShape → RHeading → List Shape
locals_of ts h = map (shape_declared ts) h.locals

abbrev pub procedure_of : List RShape → RProcedure → Procedure
procedure_of ts p = record { name = p.heading.name; around = p.heading.around; locals = locals_of ts p.heading; parameters = p.heading.parameters; result = option_map kind_view p.heading.result; body = statements_of p.body }

abbrev pub heading_of : RProcedure → RHeading
heading_of p = p.heading

abbrev pub module_of : RModule → Resolved
module_of m = record { name = m.name; targets = map (shape_at (shapes_of m.shapes)) m.targets; signatures = map (signature_of m.shapes) m.signatures; names = map name_of m.variables; variables = map (shape_declared m.shapes) m.variables; procedures = map (procedure_of m.shapes) m.procedures; body = statements_of m.body }

-- the words of the variables of a procedure, from the fifth of its frame on, up to 65,535
pub record IsMeasuredHeading (ts : List RShape) (h : RHeading) : Type 0 where
  pub offsets : map offset_of h.locals ≡ map (min 65535) (offsets_from 4 (locals_of ts h))
  pub words : h.words ≡ min 65535 (all_words (locals_of ts h))

-- the words of a module's shapes and variables are counted
pub record IsMeasured (m : RModule) : Type 0 where
  pub shapes : AreMeasured [] m.shapes
  pub offsets : map offset_of m.variables ≡ offsets_from 0 (module_of m).variables
  pub words : m.words ≡ all_words (module_of m).variables
  pub procedures : All (IsMeasuredHeading m.shapes) (map heading_of m.procedures)

-- ---- what each form of expression, an operation, a place, each form of selector and of statement, a guard and an arm are

-- a layer's value comes from the values of its parts
rolled_value : (y : RExpr-F RArgument RExpr RMember RRoot RSelector ROperation RPlace) → expression_of (roll-RExpr y) ≡ expression_layer (map-RExpr RArgument RExpr RMember RRoot RSelector ROperation RPlace Argument Expression (Kind → Expression → Expression) Designator (Designator → Designator) (Expression → Expression) Designator argument_of expression_of member_of root_of selector_of operation_of place_of y)
rolled_value = fold-roll-RExpr Argument Expression (Kind → Expression → Expression) Designator (Designator → Designator) (Expression → Expression) Designator argument_layer expression_layer member_layer root_layer selector_layer operation_layer place_layer

pub constant_is : (b : RBase) (z : ℤ) → expression_of (e.Constant b z) ≡ Constant (base_view b) (scalar_of (base_view b) z)
constant_is b z = ap expression_of (sym (e.rolls-Constant b z)) ∙ rolled_value (x.Constant b z)

pub invoke_is : (p n : ℕ) (k : RKind) (given : List RArgument) → expression_of (e.Invoke p n k given) ≡ Invoke p n (kind_view k) (arguments_of given)
invoke_is p n k given = ap expression_of (sym (e.rolls-Invoke p n k given)) ∙ rolled_value (x.Invoke p n k given)

-- arguments
rolled_argument : (y : RArgument-F RArgument RExpr RMember RRoot RSelector ROperation RPlace) → argument_of (roll-RArgument y) ≡ argument_layer (map-RArgument RArgument RExpr RMember RRoot RSelector ROperation RPlace Argument Expression (Kind → Expression → Expression) Designator (Designator → Designator) (Expression → Expression) Designator argument_of expression_of member_of root_of selector_of operation_of place_of y)
rolled_argument = fold-roll-RArgument Argument Expression (Kind → Expression → Expression) Designator (Designator → Designator) (Expression → Expression) Designator argument_layer expression_layer member_layer root_layer selector_layer operation_layer place_layer

pub by_value_is : (k : RKind) (a : RExpr) → argument_of (g.Value k a) ≡ ByValue (kind_view k) (expression_of a)
by_value_is k a = ap argument_of (sym (g.rolls-Value k a)) ∙ rolled_argument (x.Value k a)

pub of_place_is : (p : RPlace) → argument_of (g.Place p) ≡ OfPlace (place_of p)
of_place_is p = ap argument_of (sym (g.rolls-Place p)) ∙ rolled_argument (x.Place p)

pub of_all_is : (p : RPlace) → argument_of (g.All p) ≡ OfAll (place_of p)
of_all_is p = ap argument_of (sym (g.rolls-All p)) ∙ rolled_argument (x.All p)

pub of_array_is : (o : ROpening) (p : RPlace) (high : ℕ) → argument_of (g.Array o p high) ≡ OfArray (is_copied o) (place_of p) high
of_array_is o p high = ap argument_of (sym (g.rolls-Array o p high)) ∙ rolled_argument (x.Array o p high)

pub of_text_is : (cs : List ℕ) → argument_of (g.Text cs) ≡ OfText cs
of_text_is cs = ap argument_of (sym (g.rolls-Text cs)) ∙ rolled_argument (x.Text cs)

pub of_opened_is : (o : ROpening) (n i : ℕ) → argument_of (g.Opened o n i) ≡ OfOpened (is_copied o) n i
of_opened_is o n i = ap argument_of (sym (g.rolls-Opened o n i)) ∙ rolled_argument (x.Opened o n i)

pub spelled_is : (cs : List ℕ) (count : ℕ) → argument_of (g.Spelled cs count) ≡ Spelled cs count
spelled_is cs count = ap argument_of (sym (g.rolls-Spelled cs count)) ∙ rolled_argument (x.Spelled cs count)

pub high_is : (n i : ℕ) → expression_of (e.High n i) ≡ High n i
high_is n i = ap expression_of (sym (e.rolls-High n i)) ∙ rolled_value (x.High n i)

pub routine_is : (p n : ℕ) → expression_of (e.Routine p n) ≡ Routine p n
routine_is p n = ap expression_of (sym (e.rolls-Routine p n)) ∙ rolled_value (x.Routine p n)

pub invoke_value_is : (a : RExpr) (k : RKind) (given : List RArgument) → expression_of (e.InvokeValue a k given) ≡ InvokeValue (expression_of a) (kind_view k) (arguments_of given)
invoke_value_is a k given = ap expression_of (sym (e.rolls-InvokeValue a k given)) ∙ rolled_value (x.InvokeValue a k given)

pub taken_is : (p : RPlace) (k : RKind) → expression_of (e.Taken p k) ≡ Taken (place_of p) (kind_view k)
taken_is p k = ap expression_of (sym (e.rolls-Taken p k)) ∙ rolled_value (x.Taken p k)

pub one_is : (o : OneOp) (a : RExpr) → expression_of (e.One o a) ≡ one_of o (expression_of a)
one_is o a = ap expression_of (sym (e.rolls-One o a)) ∙ rolled_value (x.One o a)

pub apply_is : (f : RFunction) (a : RExpr) → expression_of (e.Apply f a) ≡ Apply (function_of f (kind_of (expression_of a))) (expression_of a)
apply_is f a = ap expression_of (sym (e.rolls-Apply f a)) ∙ rolled_value (x.Apply f a)

pub chain_is : (a : RExpr) (os : List ROperation) → expression_of (e.Chain a os) ≡ chained (expression_of a) (map operation_of os)
chain_is a os = ap expression_of (sym (e.rolls-Chain a os)) ∙ rolled_value (x.Chain a os)

pub set_is : (k : RKind) (ms : List RMember) → expression_of (e.Set k ms) ≡ with_members (kind_view k) empty_set (map member_of ms)
set_is k ms = ap expression_of (sym (e.rolls-Set k ms)) ∙ rolled_value (x.Set k ms)

pub operation_is : (o : ROperation) (a : Expression) → operation_of o a ≡ two_of (out-ROperation o).operator a (expression_of (out-ROperation o).operand)
operation_is o a = ap (λ (f : Expression → Expression). f a) (fold_out-ROperation Argument Expression (Kind → Expression → Expression) Designator (Designator → Designator) (Expression → Expression) Designator argument_layer expression_layer member_layer root_layer selector_layer operation_layer place_layer o)

pub place_is : (p : RPlace) → place_of p ≡ selected (root_of (out-RPlace p).root) (map selector_of (out-RPlace p).selectors)
place_is = fold_out-RPlace Argument Expression (Kind → Expression → Expression) Designator (Designator → Designator) (Expression → Expression) Designator argument_layer expression_layer member_layer root_layer selector_layer operation_layer place_layer

-- a layer's root comes from its parts
rolled_root : (y : RRoot-F RArgument RExpr RMember RRoot RSelector ROperation RPlace) → root_of (roll-RRoot y) ≡ root_layer (map-RRoot RArgument RExpr RMember RRoot RSelector ROperation RPlace Argument Expression (Kind → Expression → Expression) Designator (Designator → Designator) (Expression → Expression) Designator argument_of expression_of member_of root_of selector_of operation_of place_of y)
rolled_root = fold-roll-RRoot Argument Expression (Kind → Expression → Expression) Designator (Designator → Designator) (Expression → Expression) Designator argument_layer expression_layer member_layer root_layer selector_layer operation_layer place_layer

pub variable_is : (v : RNamed) → root_of (t.Variable v) ≡ Variable (named_view v)
variable_is v = ap root_of (sym (t.rolls-Variable v)) ∙ rolled_root (x.Variable v)

pub handed_is : (n i : ℕ) → root_of (t.Handed n i) ≡ Handed n i
handed_is n i = ap root_of (sym (t.rolls-Handed n i)) ∙ rolled_root (x.Handed n i)

pub along_is : (n i : ℕ) (a : RExpr) → root_of (t.Along n i a) ≡ Along n i (expression_of a)
along_is n i a = ap root_of (sym (t.rolls-Along n i a)) ∙ rolled_root (x.Along n i a)

pub held_is : (w : ℕ) → root_of (t.Held w) ≡ Held w
held_is w = ap root_of (sym (t.rolls-Held w)) ∙ rolled_root (x.Held w)

-- a layer's selector comes from those of its parts
rolled_selector : (y : RSelector-F RArgument RExpr RMember RRoot RSelector ROperation RPlace) → selector_of (roll-RSelector y) ≡ selector_layer (map-RSelector RArgument RExpr RMember RRoot RSelector ROperation RPlace Argument Expression (Kind → Expression → Expression) Designator (Designator → Designator) (Expression → Expression) Designator argument_of expression_of member_of root_of selector_of operation_of place_of y)
rolled_selector = fold-roll-RSelector Argument Expression (Kind → Expression → Expression) Designator (Designator → Designator) (Expression → Expression) Designator argument_layer expression_layer member_layer root_layer selector_layer operation_layer place_layer

-- a selector by its form
pub selector_is : (s : RSelector) (d : Designator) → selector_of s d ≡ selector_layer (map-RSelector RArgument RExpr RMember RRoot RSelector ROperation RPlace Argument Expression (Kind → Expression → Expression) Designator (Designator → Designator) (Expression → Expression) Designator argument_of expression_of member_of root_of selector_of operation_of place_of (out-RSelector s)) d
selector_is s d = ap (λ (f : Designator → Designator). f d) (fold_out-RSelector Argument Expression (Kind → Expression → Expression) Designator (Designator → Designator) (Expression → Expression) Designator argument_layer expression_layer member_layer root_layer selector_layer operation_layer place_layer s)

-- a member by its form
pub member_is : (m : RMember) (k : Kind) (s : Expression) → member_of m k s ≡ member_layer (map-RMember RArgument RExpr RMember RRoot RSelector ROperation RPlace Argument Expression (Kind → Expression → Expression) Designator (Designator → Designator) (Expression → Expression) Designator argument_of expression_of member_of root_of selector_of operation_of place_of (out-RMember m)) k s
member_is m k s = ap (λ (f : Kind → Expression → Expression). f k s) (fold_out-RMember Argument Expression (Kind → Expression → Expression) Designator (Designator → Designator) (Expression → Expression) Designator argument_layer expression_layer member_layer root_layer selector_layer operation_layer place_layer m)

-- a layer's member comes from its parts
rolled_member : (y : RMember-F RArgument RExpr RMember RRoot RSelector ROperation RPlace) → member_of (roll-RMember y) ≡ member_layer (map-RMember RArgument RExpr RMember RRoot RSelector ROperation RPlace Argument Expression (Kind → Expression → Expression) Designator (Designator → Designator) (Expression → Expression) Designator argument_of expression_of member_of root_of selector_of operation_of place_of y)
rolled_member = fold-roll-RMember Argument Expression (Kind → Expression → Expression) Designator (Designator → Designator) (Expression → Expression) Designator argument_layer expression_layer member_layer root_layer selector_layer operation_layer place_layer

pub single_is : (a : RExpr) → member_of (c.Single a) ≡ (λ k s. With s k (expression_of a))
single_is a = ap member_of (sym (c.rolls-Single a)) ∙ rolled_member (x.Single a)

pub span_is : (a b : RExpr) → member_of (c.Span a b) ≡ (λ k s. WithSpan s k (expression_of a) (expression_of b))
span_is a b = ap member_of (sym (c.rolls-Span a b)) ∙ rolled_member (x.Span a b)

pub field_is : (i : ℕ) (d : Designator) → selector_of (l.Field i) d ≡ Field d i
field_is i d = ap (λ s. selector_of s d) (sym (l.rolls-Field i)) ∙ ap (λ f. f d) (rolled_selector (x.Field i))

pub index_is : (k : RKind) (a : RExpr) (d : Designator) → selector_of (l.Index k a) d ≡ Element d (kind_view k) (expression_of a)
index_is k a d = ap (λ s. selector_of s d) (sym (l.rolls-Index k a)) ∙ ap (λ f. f d) (rolled_selector (x.Index k a))

pub follow_is : (n : ℕ) (d : Designator) → selector_of (l.Follow n) d ≡ Follow d n
follow_is n d = ap (λ s. selector_of s d) (sym (l.rolls-Follow n)) ∙ ap (λ f. f d) (rolled_selector (x.Follow n))

-- a layer's value comes from the values of its parts
rolled : (x : RStmt-F RStmt RArm RGuard)
    → statement_of (roll-RStmt x) ≡ statement_layer (map-RStmt RStmt RArm RGuard Statements (Arms → Arms) (Statements → Statements) statement_of arm_of guard_of x)
rolled = fold-roll-RStmt Statements (Arms → Arms) (Statements → Statements) statement_layer arm_layer guard_layer

pub assign_is : (p : RPlace) (k : RKind) (e : RExpr) → statement_of (s.Assign p k e) ≡ Then (Assign (place_of p) (kind_view k) (expression_of e)) Empty
assign_is p k e = ap statement_of (sym (s.rolls-Assign p k e)) ∙ rolled (o.Assign p k e)

pub copy_is : (p from : RPlace) → statement_of (s.Copy p from) ≡ Then (Copy (place_of p) (place_of from)) Empty
copy_is p from = ap statement_of (sym (s.rolls-Copy p from)) ∙ rolled (o.Copy p from)

pub text_is : (p : RPlace) (cs : List ℕ) → statement_of (s.Text p cs) ≡ Then (Text (place_of p) cs) Empty
text_is p cs = ap statement_of (sym (s.rolls-Text p cs)) ∙ rolled (o.Text p cs)

pub change_is : (d : Direction) (p : RPlace) (k : RKind) (e : RExpr) → statement_of (s.Change d p k e) ≡ Then (Change (is_down d) (place_of p) (kind_view k) (expression_of e)) Empty
change_is d p k e = ap statement_of (sym (s.rolls-Change d p k e)) ∙ rolled (o.Change d p k e)

pub member_changed_is : (m : Membership) (p : RPlace) (k : RKind) (e : RExpr) → statement_of (s.Member m p k e) ≡ Then (Member (is_out m) (place_of p) (kind_view k) (expression_of e)) Empty
member_changed_is m p k e = ap statement_of (sym (s.rolls-Member m p k e)) ∙ rolled (o.Member m p k e)

pub new_is : (p : RPlace) (n : ℕ) → statement_of (s.New p n) ≡ Then (New (place_of p) n) Empty
new_is p n = ap statement_of (sym (s.rolls-New p n)) ∙ rolled (o.New p n)

pub allocate_is : (w : Allocation) (p : RPlace) (e : RExpr) → statement_of (s.Allocate w p e) ≡ Then (Allocate (is_back w) (place_of p) (expression_of e)) Empty
allocate_is w p e = ap statement_of (sym (s.rolls-Allocate w p e)) ∙ rolled (o.Allocate w p e)

pub request_is : (r : request.Request) (given : List RArgument) → statement_of (s.Request r given) ≡ Then (Request r (arguments_of given)) Empty
request_is r given = ap statement_of (sym (s.rolls-Request r given)) ∙ rolled (o.Request r given)

pub if_is : (gs : List RGuard) (other : List RStmt) → statement_of (s.If gs other) ≡ guards_of gs other
if_is gs other = ap statement_of (sym (s.rolls-If gs other)) ∙ rolled (o.If gs other)

pub case_is : (e : RExpr) (arms : List RArm) (other : Option (List RStmt)) → statement_of (s.Case e arms other) ≡ Then (Case (expression_of e) (arms_of arms other)) Empty
case_is e arms None = ap statement_of (sym (s.rolls-Case e arms None)) ∙ rolled (o.Case e arms None)
case_is e arms (Some ss) = ap statement_of (sym (s.rolls-Case e arms (Some ss))) ∙ rolled (o.Case e arms (Some ss))

pub while_is : (e : RExpr) (ss : List RStmt) → statement_of (s.While e ss) ≡ Then (While (expression_of e) (statements_of ss)) Empty
while_is e ss = ap statement_of (sym (s.rolls-While e ss)) ∙ rolled (o.While e ss)

pub repeat_is : (ss : List RStmt) (e : RExpr) → statement_of (s.Repeat ss e) ≡ Then (Repeat (statements_of ss) (expression_of e)) Empty
repeat_is ss e = ap statement_of (sym (s.rolls-Repeat ss e)) ∙ rolled (o.Repeat ss e)

pub loop_is : (ss : List RStmt) → statement_of (s.Loop ss) ≡ Then (Loop (statements_of ss)) Empty
loop_is ss = ap statement_of (sym (s.rolls-Loop ss)) ∙ rolled (o.Loop ss)

pub exit_is : statement_of s.Exit ≡ Then Exit Empty
exit_is = ap statement_of (sym s.rolls-Exit) ∙ rolled o.Exit

pub halt_is : statement_of s.Halt ≡ Then Halt Empty
halt_is = ap statement_of (sym s.rolls-Halt) ∙ rolled o.Halt

pub return_is : statement_of s.Return ≡ Then Return Empty
return_is = ap statement_of (sym s.rolls-Return) ∙ rolled o.Return

pub answer_is : (k : RKind) (e : RExpr) → statement_of (s.Answer k e) ≡ Then (Answer (kind_view k) (expression_of e)) Empty
answer_is k e = ap statement_of (sym (s.rolls-Answer k e)) ∙ rolled (o.Answer k e)

pub call_is : (p n : ℕ) (given : List RArgument) → statement_of (s.Call p n given) ≡ Then (Call p n (arguments_of given)) Empty
call_is p n given = ap statement_of (sym (s.rolls-Call p n given)) ∙ rolled (o.Call p n given)

pub call_value_is : (a : RExpr) (given : List RArgument) → statement_of (s.CallValue a given) ≡ Then (CallValue (expression_of a) (arguments_of given)) Empty
call_value_is a given = ap statement_of (sym (s.rolls-CallValue a given)) ∙ rolled (o.CallValue a given)

pub for_is : (v : RVariable) (a b : RExpr) (step : ℤ) (ss : List RStmt)
    → statement_of (s.For v a b step ss) ≡ Then (For (named_view v.named) (variable_kind v) (expression_of a) (expression_of b) step (statements_of ss)) Empty
for_is v a b step ss = ap statement_of (sym (s.rolls-For v a b step ss)) ∙ rolled (o.For v a b step ss)

pub inside_is : (p : RPlace) (ss : List RStmt) → statement_of (s.With p ss) ≡ Then (Inside (place_of p) (statements_of ss)) Empty
inside_is p ss = ap statement_of (sym (s.rolls-With p ss)) ∙ rolled (o.With p ss)

pub guard_is : (g : RGuard) (other : Statements) → guard_of g other ≡ Then (If (expression_of g.condition) (statements_of g.body) other) Empty
guard_is g other =
    ap (λ f. f other) (fold-roll-RGuard Statements (Arms → Arms) (Statements → Statements) statement_layer arm_layer guard_layer (record { condition = g.condition; body = g.body }))

pub arm_is : (a : RArm) (rest : Arms) → arm_of a rest ≡ Arm (map label_of a.labels) (statements_of a.body) rest
arm_is a rest =
    ap (λ f. f rest) (fold-roll-RArm Statements (Arms → Arms) (Statements → Statements) statement_layer arm_layer guard_layer (record { labels = a.labels; body = a.body }))
