-- What stands between FOR and DO.
use Rattle.std.specs.Prelude.{ℤ, pos, negsuc, int_lt, Bool, true, false, not, ◌&&◌, ◌||◌, List, [], ◌∷◌, Option, Some, None, if◌then◌else◌}
use Rattle.lil_base.specs.Words.{Integer, in_type, is_zero}
use Rattle.lil_base.specs.declared.fault.{Place.Place, FaultKind.TheVariants.{Unknown, WrongKind, ForVariable, Assign, ConstRange, NotConst, Operands}}
use Rattle.lil_types.specs.Types.{Table}
use Rattle.lil_language.specs.declared.tree.{Expr.Expr, ForHead.ForHead}
use Rattle.lil_declared.specs.declared.{declared.Mode.{Mode, TheVariants.Plain}, RVar.RVar}
use Rattle.lil_resolved.specs.declared.resolved.{RExpr.RExpr, RKind.RKind, RNamed.RNamed, RStmt.RStmt, RVariable.RVariable}
use Rattle.lil_resolved.specs.declared.resolved.RStmt.TheVariants as r
use Rattle.lil_report.specs.Told.{Row, row, after, pure}
use Rattle.lil_scope.specs.declared.{env.Env.Env, thing.{Kind.Kind, Thing.Thing, Variable.Variable}}
use Rattle.lil_scope.specs.declared.thing.Kind.TheVariants as k
use Rattle.lil_scope.specs.declared.thing.Thing.TheVariants as t
use Rattle.lil_kinds.specs.{declared.found.Found.Found, Kinds.{assignable, misses, compatible, is_ordinal, is_constant}}
use Rattle.lil_shapes.specs.Bases.{kind_at}
use Rattle.lil_forms.specs.{Values.typed, Variables.{named_at, seen}}
use Rattle.lil_check_value.specs.{declared.names.Looked.Looked, Looks.look, Values.means}
use Rattle.lil_check_value.specs.declared.names.Looked.TheVariants as l
use Rattle.lil_check_type.specs.Nodes.{node}
use Rattle.lil_check_stmt.specs.declared.counting.{Bounds.Bounds, Counter.Counter, Count.Count}

-- ---- the variable
abbrev pub is_nothing : Looked → Bool
is_nothing l.Nothing = true
is_nothing _ = false

-- a name whose declaration has a fault isn't asked for
abbrev pub is_other_thing : Thing → Bool
is_other_thing (t.Variable v) = false
is_other_thing (t.ExternalVariable v) = false
is_other_thing t.Broken = false
is_other_thing _ = true

abbrev pub is_other : Looked → Bool
is_other (l.Thing th) = is_other_thing th
is_other _ = false

abbrev pub is_plain : Mode → Bool
is_plain Plain = true
is_plain _ = false

abbrev pub is_unfit_thing : Table → Thing → Bool
is_unfit_thing ts (t.Variable v) = not (is_plain v.mode) || not (is_ordinal ts (k.Of v.sort))
is_unfit_thing ts (t.ExternalVariable v) = true
is_unfit_thing ts _ = false

-- a field, a parameter, a variable of another module, or one that isn't ordinal
abbrev pub is_unfit : Table → Looked → Bool
is_unfit ts l.Nothing = false
is_unfit ts (l.Field at n s) = true
is_unfit ts (l.Thing th) = is_unfit_thing ts th

abbrev pub variable_by : RNamed → Option RKind → Option RVariable
variable_by n None = None
variable_by n (Some j) = Some (record { named = n; kind = j })

-- one that is seen
unfoldable pub counted_variable : Table → RNamed → Option RVar → Option RVariable
counted_variable t n None = None
counted_variable t n (Some v) = variable_by n (kind_at t v.sort)

abbrev pub counting_named : Env → Option RNamed → Option RVariable
counting_named e None = None
counting_named e (Some n) = counted_variable e.types n (seen e n)

abbrev pub counting_with : Env → Variable → Option RVariable
counting_with e v = counting_named e (named_at e v)

abbrev pub counter_thing : Env → Thing → Option Counter
counter_thing e (t.Variable v) = Some (record { variable = counting_with e v; sort = v.sort })
counter_thing e _ = None

abbrev pub counter_of : Env → Looked → Option Counter
counter_of e (l.Thing th) = counter_thing e th
counter_of e _ = None

-- 20 Unknown
-- 24 WrongKind: a name of no variable
-- 27 ForVariable
abbrev pub counter_tests : Table → Place → Looked → List Row
counter_tests ts p o =
    row (is_nothing o) p Unknown
    ∷ row (is_other o) p WrongKind
    ∷ row (is_unfit ts o) p ForVariable
    ∷ []

unfoldable pub counter_node : Env → Place → Looked → Option Counter × List Row
counter_node e p o = node (counter_tests e.types p o) (counter_of e o)

-- ---- the first value is assigned
-- 31 Assign, at `:=`
-- 50 ConstRange
unfoldable pub start_node : Table → Place → Option Counter → Option Found → Option RExpr × List Row
start_node ts p (Some c) (Some a) = (typed ts c.sort a, row (not (assignable ts c.sort a.kind)) p Assign ∷ row (misses ts c.sort a.kind) a.first ConstRange ∷ [])
start_node ts p (Some c) None = (None, [])
start_node ts p None a = (None, [])

-- ---- the last value is counted to
-- 31 Assign: a limit that isn't compatible with the variable
unfoldable pub limit_node : Table → Option Counter → Option Found → Option RExpr × List Row
limit_node ts (Some c) (Some a) = (typed ts c.sort a, row (not (compatible ts (k.Of c.sort) a.kind)) a.first Assign ∷ [])
limit_node ts (Some c) None = (None, [])
limit_node ts None a = (None, [])

-- ---- the step
abbrev pub step_of : Kind → Option ℤ
step_of (k.Whole z) = Some z
step_of _ = None

abbrev pub is_other_constant : Kind → Bool
is_other_constant (k.Whole z) = false
is_other_constant kind = is_constant kind

abbrev pub is_no_step : Kind → Bool
is_no_step (k.Whole z) = (not (int_lt z (pos 0)) && not (int_lt (pos 0) z)) || (int_lt z (negsuc 32767) || int_lt (pos 32767) z)
is_no_step _ = false

-- 51 NotConst
-- 30 Operands: a constant that is no whole number
-- 50 ConstRange: zero, or a number that no INTEGER has
unfoldable pub step_node : Option Found → Option ℤ × List Row
step_node (Some a) = (step_of a.kind, row (not (is_constant a.kind)) a.first NotConst ∷ row (is_other_constant a.kind) a.first Operands ∷ row (is_no_step a.kind) a.first ConstRange ∷ [])
step_node None = (None, [])

-- without BY it is 1
abbrev pub step_means : Env → Option Expr → Option ℤ × List Row
step_means e None = pure (Some (pos 1))
step_means e (Some x) = after (means e x) step_node

-- ---- the whole head
abbrev pub bounds_of : Option RVariable → Option RExpr → Option RExpr → Option Bounds
bounds_of (Some v) (Some a) (Some c) = Some (record { variable = v; from = a; to = c })
bounds_of _ _ _ = None

abbrev pub count_of : Option Counter → Option RExpr → Option RExpr → Option ℤ → Option Count
count_of (Some c) a b (Some n) = Some (record { bounds = bounds_of c.variable a b; by = n })
count_of (Some c) a b None = None
count_of None a b n = None

unfoldable pub count_means : Env → ForHead → Option Count × List Row
count_means e h =
    after (counter_node e h.variable.place (look e h.variable.name)) (λ c.
    after (means e h.from) (λ a.
    after (start_node e.types h.becomes c a) (λ a.
    after (means e h.to) (λ b.
    after (limit_node e.types c b) (λ b.
    after (step_means e h.by) (λ n. pure (count_of c a b n)))))))

-- a step isn't zero, and is an INTEGER
abbrev pub is_step : ℤ → Bool
is_step z = not (is_zero z) && in_type Integer z

abbrev pub counted_by : Bounds → ℤ → Option (List RStmt) → Option RStmt
counted_by x z None = None
counted_by x z (Some ss) = if is_step z then Some (r.For x.variable x.from x.to z ss) else None

abbrev pub counted_with : Option Bounds → ℤ → Option (List RStmt) → Option RStmt
counted_with None z ss = None
counted_with (Some x) z ss = counted_by x z ss

abbrev pub counted : Option Count → Option (List RStmt) → Option RStmt
counted (Some c) ss = counted_with c.bounds c.by ss
counted None ss = None
