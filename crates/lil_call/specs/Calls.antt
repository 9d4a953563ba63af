-- What calls mean, from what is known of their arguments.
use Rattle.std.specs.Prelude.{ℕ, ◌+◌, ◌==◌, nat_lt, Bool, true, false, not, is_some, ◌&&◌, if◌then◌else◌, List, [], ◌∷◌, length, Option, Some, None}
use Rattle.lil_base.specs.declared.fault.{Place.Place, FaultKind.TheVariants.{ArgCount, NotCallable, ExprDeep}}
use Rattle.lil_types.specs.Types.{Table}
use Rattle.lil_declared.specs.declared.standard.Resident.{Resident}
use Rattle.lil_resolved.specs.declared.resolved.{RArgument.RArgument, RExpr.RExpr, RKind.RKind, RStmt.RStmt}
use Rattle.lil_resolved.specs.declared.resolved.RExpr.TheVariants as e
use Rattle.lil_report.specs.Told.{Row, row, after}
use Rattle.lil_scope.specs.declared.thing.Kind.TheVariants as kind
use Rattle.lil_kinds.specs.{Forms.{is_routine, arity, result}, declared.found.Found.Found}
use Rattle.lil_kinds.specs.declared.found.Standing.TheVariants as standing
use Rattle.lil_shapes.specs.Bases.{kind_at}
use Rattle.lil_forms.specs.{Statements.called, Values.value_form}
use Rattle.lil_call.specs.{declared.{call.{Callee.Callee, Argument.Argument}, passing.Passed.Passed, routines.{Invoked.Invoked, Target.Target}}, Passing.{all_have_values, nothing_passed, arguments_mean}, Procedures.{agrees, function_mean, procedure_mean}}
use Rattle.lil_call.specs.declared.call.Callee.TheVariants as callee
use Rattle.lil_call.specs.declared.routines.Target.TheVariants as target
use Rattle.lil_resolved.specs.declared.resolved.RStmt.TheVariants as statement

-- ---- calls of procedures
-- where a value is wanted a function is called, else a proper procedure
abbrev pub is_callable : Table → Bool → ℕ → Bool
is_callable t wanted sort = is_routine t sort && agrees wanted (is_some (result t sort))

-- 32 ArgCount: another number of arguments than of parameters
-- 34 NotCallable: no procedure, a function as a statement, or a proper procedure in an expression
unfoldable pub heading_node : Table → Place → Bool → ℕ → ℕ → Bool × List Row
heading_node t p wanted sort count = (
  is_callable t wanted sort && arity t sort == count,
  row (is_routine t sort && not (arity t sort == count)) p ArgCount ∷ row (not (is_callable t wanted sort)) p NotCallable ∷ [],
)

-- 60 ExprDeep: a depth above 12
unfoldable pub depth_node : Place → Passed → Option Passed × List Row
depth_node p s = (
  if s.is_right && not (nat_lt 12 s.depth) then Some s else None,
  row (nat_lt 12 s.depth) p ExprDeep ∷ [],
)

abbrev pub is_resident : Target → Bool
is_resident (target.Resident r) = true
is_resident (target.Own n levels) = false
is_resident (target.Value x) = false

-- the arguments are looked at where their number is right
abbrev pub passed_if : Table → Place → Invoked → List Argument → Bool → Option Passed × List Row
passed_if t p v xs false = (None, [])
passed_if t p v xs true = after (arguments_mean t (is_resident v.target) v.sort (nothing_passed v.depth) xs) (depth_node p)

abbrev pub routine_mean : Table → Place → Bool → Invoked → List Argument → Option Passed × List Row
routine_mean t p wanted v xs = after (heading_node t p wanted v.sort (length xs)) (passed_if t p v xs)

-- a function of the module, by its number, how many procedures out it is declared and the kind of what it returns; the code has its number
-- from 1, and both numbers as bytes
abbrev pub own_value : ℕ → ℕ → Option RKind → Option (List RArgument) → Option RExpr
own_value n levels None h = None
own_value n levels (Some j) None = None
own_value n levels (Some j) (Some xs) = if nat_lt n 255 && nat_lt levels 256 then Some (e.Invoke (n + 1) levels j xs) else None

-- a function that is a value
abbrev pub invoked_value : Option RExpr → Option RKind → Option (List RArgument) → Option RExpr
invoked_value (Some x) (Some j) (Some xs) = Some (e.InvokeValue x j xs)
invoked_value _ _ _ = None

-- resident procedures return nothing
abbrev pub value_by : Target → Option RKind → Option (List RArgument) → Option RExpr
value_by (target.Resident r) k h = None
value_by (target.Own n levels) k h = own_value n levels k h
value_by (target.Value x) k h = invoked_value x k h

abbrev pub call_found : Table → Place → Target → Option ℕ → Option Passed → Option Found
call_found t p of None s = None
call_found t p of (Some sort) None = None
call_found t p of (Some sort) (Some s) = Some (record { form = value_form (value_by of (kind_at t sort) s.handed); kind = kind.Of sort; first = p; depth = s.depth; standing = standing.Value })

abbrev pub routine_value : Table → Place → Invoked → List Argument → Option Found × List Row
routine_value t p v xs = after (routine_mean t p true v xs) (λ s. (call_found t p v.target (result t v.sort) s, []))

-- a proper procedure of the module, likewise
abbrev pub own_call : ℕ → ℕ → Option (List RArgument) → Option RStmt
own_call n levels None = None
own_call n levels (Some xs) = if nat_lt n 255 && nat_lt levels 256 then Some (statement.Call (n + 1) levels xs) else None

-- a proper procedure that is a value
abbrev pub called_value : Option RExpr → Option (List RArgument) → Option RStmt
called_value (Some x) (Some xs) = Some (statement.CallValue x xs)
called_value _ _ = None

abbrev pub call_of : Target → Option (List RArgument) → Option RStmt
call_of (target.Resident r) h = called r h
call_of (target.Own n levels) h = own_call n levels h
call_of (target.Value x) h = called_value x h

abbrev pub call_statement : Invoked → Option Passed → Option RStmt
call_statement v None = None
call_statement v (Some s) = call_of v.target s.handed

abbrev pub routine_statement : Table → Place → Invoked → List Argument → Option RStmt × List Row
routine_statement t p v xs = after (routine_mean t p false v xs) (λ s. (call_statement v s, []))

-- ---- what is called
-- 34 NotCallable: what is no procedure
unfoldable pub no_call : {A : Type 0} → Place → Option A × List Row
no_call p = (None, row true p NotCallable ∷ [])

abbrev pub of_procedure : ℕ → ℕ → ℕ → Invoked
of_procedure sort n levels = record { sort = sort; depth = 1; target = target.Own n levels }

abbrev pub of_variable : ℕ → ℕ → Option RExpr → Invoked
of_variable sort depth x = record { sort = sort; depth = depth; target = target.Value x }

abbrev pub of_resident : Resident → ℕ → Invoked
of_resident r sort = record { sort = sort; depth = 1; target = target.Resident r }

abbrev pub value_of : Table → Place → Callee → List Argument → Option Found × List Row
value_of t p (callee.Procedure sort n levels) xs = routine_value t p (of_procedure sort n levels) xs
value_of t p (callee.Variable sort depth x) xs = routine_value t p (of_variable sort depth x) xs
value_of t p (callee.Resident r sort) xs = routine_value t p (of_resident r sort) xs
value_of t p (callee.Standard of) xs = function_mean t p of xs
value_of t p callee.Other xs = no_call p

abbrev pub statement_of : Table → Place → Callee → List Argument → Option RStmt × List Row
statement_of t p (callee.Procedure sort n levels) xs = routine_statement t p (of_procedure sort n levels) xs
statement_of t p (callee.Variable sort depth x) xs = routine_statement t p (of_variable sort depth x) xs
statement_of t p (callee.Resident r sort) xs = routine_statement t p (of_resident r sort) xs
statement_of t p (callee.Standard of) xs = procedure_mean t p of xs
statement_of t p callee.Other xs = no_call p

-- a call in an expression, at its designator's first token: it is tested only where all its parts have values
unfoldable pub call_node : Table → Place → Option Callee → List Argument → Option Found × List Row
call_node t p None xs = (None, [])
call_node t p (Some c) xs = if all_have_values xs then value_of t p c xs else (None, [])

-- a call that is a statement
unfoldable pub statement_node : Table → Place → Option Callee → List Argument → Option RStmt × List Row
statement_node t p None xs = (None, [])
statement_node t p (Some c) xs = if all_have_values xs then statement_of t p c xs else (None, [])
