-- The values of operands: expressions that run, where there are any, and the forms of operators, sets and standard functions over them.
use Rattle.std.specs.Prelude.{ℕ, ◌+◌, nat_lt, List, [], ◌∷◌, ◌++◌, Option, Some, None, if◌then◌else◌, ℤ, pos}
use Rattle.std.specs.Option.{option_map}
use Rattle.lil_base.specs.declared.operator.{OneOp.OneOp, TwoOp.TwoOp}
use Rattle.lil_types.specs.Types.{Table, base, cardinal}
use Rattle.lil_declared.specs.declared.standard.Standard.{Standard}
use Rattle.lil_declared.specs.declared.standard.Standard.TheVariants as standard
use Rattle.lil_scope.specs.declared.thing.Kind.{Kind}
use Rattle.lil_scope.specs.declared.thing.Kind.TheVariants as k
use Rattle.lil_kinds.specs.declared.found.{Form.Form, Found.Found, Located.Located}
use Rattle.lil_kinds.specs.declared.found.Form.TheVariants as form
use Rattle.lil_resolved.specs.Views.{kind_view}
use Rattle.lil_resolved.specs.Kinds as kinds
use Rattle.lil_resolved.specs.declared.resolved.{RBase.RBase, RExpr.RExpr, RFunction.RFunction, RKind.RKind, RMember.RMember, ROperation.{ROperation, roll-ROperation}}
use Rattle.lil_resolved.specs.declared.resolved.RBase.TheVariants as b
use Rattle.lil_resolved.specs.declared.resolved.RExpr.TheVariants as e
use Rattle.lil_resolved.specs.declared.resolved.RFunction.TheVariants as f
use Rattle.lil_resolved.specs.declared.resolved.RMember.TheVariants as m
use Rattle.lil_shapes.specs.{declared.members.Members.Members, Bases.{kind_at, base_at, members_at}, Signatures.kind_returned}
use Rattle.lil_forms.specs.declared.operators.Built.{Built}

-- ---- the kind of what a procedure returns, by the type of its result
abbrev pub returned : Table → Option ℕ → Option kinds.Kind
returned t r = option_map kind_view (kind_returned t r)

-- ---- constants of a base, by their numbers
abbrev pub constant : Option RBase → ℤ → Option RExpr
constant None z = None
constant (Some k) z = Some (e.Constant k z)

-- ---- the value at a place, whose type has a kind
abbrev pub taken_as : Located → Option RKind → Option RExpr
taken_as p None = None
taken_as p (Some j) = Some (e.Taken p.place j)

abbrev pub taken : Table → Located → Option RExpr
taken t p = taken_as p (kind_at t p.sort)

-- ---- operands: one that has a type is of that type, and a constant that has none is of another
abbrev pub own : Table → Form → Option RExpr
own t form.Nothing = None
own t (form.Text cs) = None
own t (form.Located p) = taken t p
own t (form.Open a) = None
own t (form.Value x) = Some x
own t (form.Routine n) = None

-- a procedure of the text as a value of a procedure type: the code has its number from 1, as a byte
abbrev pub routine_by : ℕ → ℕ → Option RExpr
routine_by s n = if nat_lt n 255 then Some (e.Routine (n + 1) s) else None

abbrev pub routine_in : ℕ → Form → Option RExpr
routine_in s form.Nothing = None
routine_in s (form.Text cs) = None
routine_in s (form.Located p) = None
routine_in s (form.Open a) = None
routine_in s (form.Value x) = None
routine_in s (form.Routine n) = routine_by s n

abbrev pub typed_by : Table → ℕ → Kind → Form → Option RExpr
typed_by t s (k.Whole z) f = constant (base_at t (base t s)) z
typed_by t s (k.Scalar r w) f = constant (base_at t (base t r)) (pos w)
typed_by t s (k.Chars c) f = Some (e.Constant b.Character (pos c.first))
typed_by t s k.Nil f = constant (base_at t (base t s)) (pos 0)
typed_by t s (k.Of r) f = own t f
typed_by t s (k.Open r) f = None
typed_by t s (k.Routine r) f = routine_in (base t s) f

unfoldable pub typed : Table → ℕ → Found → Option RExpr
typed t s a = typed_by t s a.kind a.form

-- the form of a value, where there is one
abbrev pub value_form : Option RExpr → Form
value_form None = form.Nothing
value_form (Some x) = form.Value x

-- ---- a sign, or NOT
abbrev pub one_of : OneOp → Option RExpr → Option RExpr
one_of op None = None
one_of op (Some x) = Some (e.One op x)

-- ---- chains of operators
-- a first operand
abbrev pub begun : Option RExpr → Option Built
begun None = None
begun (Some x) = Some (record { begin = x; operations = [] })

abbrev pub operation : TwoOp → RExpr → ROperation
operation op x = roll-ROperation (record { operator = op; operand = x })

-- an operation behind those before it
abbrev pub with_operation : TwoOp → Built → RExpr → Built
with_operation op b x = record { begin = b.begin; operations = b.operations ++ operation op x ∷ [] }

abbrev pub operated : TwoOp → Option Built → Option RExpr → Option Built
operated op (Some b) (Some x) = Some (with_operation op b x)
operated op _ _ = None

abbrev pub chain_form : Option Built → Form
chain_form None = form.Nothing
chain_form (Some b) = form.Value (e.Chain b.begin b.operations)

-- ---- sets
abbrev pub single : Option RExpr → Option RMember
single None = None
single (Some x) = Some (m.Single x)

abbrev pub span : Option RExpr → Option RExpr → Option RMember
span (Some x) (Some y) = Some (m.Span x y)
span _ _ = None

-- a number alone
abbrev pub single_by : Table → Option Members → Found → Option RMember
single_by t None a = None
single_by t (Some x) a = single (typed t x.sort a)

-- all numbers from one to another
abbrev pub span_by : Table → Option Members → Found → Found → Option RMember
span_by t None a b = None
span_by t (Some x) a b = span (typed t x.sort a) (typed t x.sort b)

abbrev pub set_by : Option Members → Option (List RMember) → Form
set_by (Some x) (Some ms) = form.Value (e.Set x.kind ms)
set_by _ _ = form.Nothing

-- a set of a type
abbrev pub set_form : Table → ℕ → Option (List RMember) → Form
set_form t s ms = set_by (members_at t s) ms

-- ---- standard functions of one value
-- the function; VAL gives values of a type
abbrev pub function_by : Table → Standard → ℕ → Option RFunction
function_by t standard.Abs s = Some f.Abs
function_by t standard.Cap s = Some f.Cap
function_by t standard.Chr s = Some f.Chr
function_by t standard.Odd s = Some f.Odd
function_by t standard.Ord s = Some f.Ord
function_by t standard.Val s = option_map f.Val (kind_at t s)
function_by t _ s = None

abbrev pub applied : Option RFunction → Option RExpr → Option RExpr
applied (Some g) (Some x) = Some (e.Apply g x)
applied _ _ = None

-- HIGH of an open array
abbrev pub high_of : Form → Option RExpr
high_of form.Nothing = None
high_of (form.Text cs) = None
high_of (form.Located p) = None
high_of (form.Open a) = Some (e.High a.levels a.number)
high_of (form.Value x) = None
high_of (form.Routine n) = None

-- what a standard function makes of a value
abbrev pub function_value : Table → Standard → ℕ → Found → Option RExpr
function_value t standard.High s x = high_of x.form
function_value t of s x = applied (function_by t of s) (typed t cardinal x)
