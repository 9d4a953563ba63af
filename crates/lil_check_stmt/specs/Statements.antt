-- What each form of statement means, from what its parts mean.
use Rattle.std.specs.Prelude.{ℕ, pos, int_lt, Bool, true, List, [], ◌∷◌, ◌++◌, slice_get, Option, Some, None, if◌then◌else◌}
use Rattle.lil_base.specs.{declared.fault.Place.Place, Lists.joined}
use Rattle.lil_types.specs.Types.{Table, integer, cardinal}
use Rattle.lil_language.specs.declared.tree.{Expr.Expr, Arm.Arm, Guard.Guard, Stmt.{Stmt, TheOpen.{Stmt-F, Arm-F, Guard-F}, TheFolds.{fold-Stmt, fold-Guard, fold-Arm}}}
use Rattle.lil_language.specs.declared.tree.Stmt.TheOpen as s
use Rattle.lil_declared.specs.declared.declared.RProc.{RProc}
use Rattle.lil_resolved.specs.declared.resolved.{RArm.{RArm, roll-RArm}, RExpr.RExpr, RGuard.{RGuard, roll-RGuard}, RLabel.RLabel, RStmt.RStmt}
use Rattle.lil_resolved.specs.declared.resolved.RStmt.TheVariants as r
use Rattle.lil_report.specs.Told.{Row, after, pure, walk}
use Rattle.lil_scope.specs.declared.{env.Env.Env, thing.Kind.Kind}
use Rattle.lil_scope.specs.declared.thing.Kind.TheVariants as k
use Rattle.lil_kinds.specs.{declared.found.{Found.Found, Located.Located}, Forms.result}
use Rattle.lil_forms.specs.Values.{typed}
use Rattle.lil_check_value.specs.Values.{means, variable_means, call_means}
use Rattle.lil_check_stmt.specs.{declared.{nodes.Opened.Opened, labels.{Labels.Labels, Arms.Arms}}, Nodes.{assign_node, condition_node, selector_node, record_node, exit_node, end_node, return_node}, Labels.labels_mean, Counting.{count_means, counted}}

-- a statement in its surroundings, inside of a LOOP or not
abbrev pub Meaning : Type 0
Meaning = Env → Bool → Option RStmt × List Row

-- a condition and the statements behind it
abbrev pub GuardMeaning : Type 0
GuardMeaning = Env → Bool → Option RGuard × List Row

-- an arm behind others, by what the CASE selects by
abbrev pub ArmMeaning : Type 0
ArmMeaning = Env → Bool → Option Kind → Arms → Arms × List Row

-- ---- the forms of statements with statements in them
-- a condition and the statements behind it
abbrev pub guard_of : Option RExpr → Option (List RStmt) → Option RGuard
guard_of (Some x) (Some ss) = Some (roll-RGuard (record { condition = x; body = ss }))
guard_of _ _ = None

-- without ELSE nothing stands behind it
abbrev pub conditional : Option (List RGuard) → Option (Option (List RStmt)) → Option RStmt
conditional (Some gs) (Some (Some ss)) = Some (r.If gs ss)
conditional (Some gs) (Some None) = Some (r.If gs [])
conditional _ _ = None

abbrev pub repeated_while : Option RExpr → Option (List RStmt) → Option RStmt
repeated_while (Some x) (Some ss) = Some (r.While x ss)
repeated_while _ _ = None

abbrev pub repeated_until : Option (List RStmt) → Option RExpr → Option RStmt
repeated_until (Some ss) (Some x) = Some (r.Repeat ss x)
repeated_until _ _ = None

abbrev pub looped : Option (List RStmt) → Option RStmt
looped None = None
looped (Some ss) = Some (r.Loop ss)

-- ---- WITH
abbrev pub inside : Option Located → Option (List RStmt) → Option RStmt
inside (Some p) (Some ss) = Some (r.With p.place ss)
inside _ _ = None

-- ---- CASE
abbrev pub arm_of : List RLabel → Option (List RStmt) → Option RArm
arm_of ls None = None
arm_of ls (Some ss) = Some (roll-RArm (record { labels = ls; body = ss }))

abbrev pub selected_by : Option RExpr → Option (List RArm) → Option (Option (List RStmt)) → Option RStmt
selected_by (Some x) (Some arms) (Some other) = Some (r.Case x arms other)
selected_by _ _ _ = None

-- ---- lists: they have code where all in them have
abbrev pub list_step : Env → Bool → Option (List RStmt) → Meaning → Option (List RStmt) × List Row
list_step e looping out m = after (m e looping) (λ o. pure (joined out o))

abbrev pub list_means : Env → Bool → List Meaning → Option (List RStmt) × List Row
list_means e looping ms = walk (list_step e looping) (Some []) ms

abbrev pub behind : Option (List RStmt) → Option (Option (List RStmt))
behind None = None
behind (Some ss) = Some (Some ss)

-- there is no ELSE, or one with statements
abbrev pub else_means : Env → Bool → Option (List Meaning) → Option (Option (List RStmt)) × List Row
else_means e looping None = pure (Some None)
else_means e looping (Some ms) = after (list_means e looping ms) (λ ss. pure (behind ss))

abbrev pub guards_step : Env → Bool → Option (List RGuard) → GuardMeaning → Option (List RGuard) × List Row
guards_step e looping out m = after (m e looping) (λ g. pure (joined out g))

abbrev pub guards_mean : Env → Bool → List GuardMeaning → Option (List RGuard) × List Row
guards_mean e looping ms = walk (guards_step e looping) (Some []) ms

abbrev pub no_arms : Arms
no_arms = record { seen = []; arms = Some [] }

abbrev pub arms_step : Env → Bool → Option Kind → Arms → ArmMeaning → Arms × List Row
arms_step e looping selector out m = m e looping selector out

abbrev pub arms_mean : Env → Bool → Option Kind → List ArmMeaning → Arms × List Row
arms_mean e looping selector ms = walk (arms_step e looping selector) no_arms ms

-- ---- parts
abbrev pub condition_means : Env → Expr → Option RExpr × List Row
condition_means e x = after (means e x) (condition_node e.types)

abbrev pub selector_means : Env → Expr → Option Found × List Row
selector_means e x = after (means e x) (selector_node e.types)

abbrev pub kind_of : Option Found → Option Kind
kind_of (Some a) = Some a.kind
kind_of None = None

-- the names in a WITH are also those of its record's fields
abbrev pub within : Option Opened → Env → Env
within (Some r) e = record e { withs = e.withs ++ r.sort ∷ [] }
within None e = e

abbrev pub result_of : Table → Option RProc → Option ℕ
result_of t (Some p) = result t p.sort
result_of t None = None

abbrev pub result_by : Env → Option ℕ → Option ℕ
result_by e (Some n) = result_of e.types (slice_get e.procedures n)
result_by e None = None

-- the type of what the procedure at hand returns, where it is a function
abbrev pub result_at : Env → Option ℕ
result_at e = result_by e e.procedure

abbrev pub return_means : Env → Place → Option Expr → Option RStmt × List Row
return_means e p None = end_node p (result_at e)
return_means e p (Some x) = after (means e x) (λ v. return_node e.types p (result_at e) v)

-- ---- what statements are made of the values of their parts
-- the type of a selector that has none
abbrev pub selector_type : Kind → ℕ
selector_type (k.Whole z) = if int_lt z (pos 0) then integer else cardinal
selector_type _ = cardinal

abbrev pub selector_value : Table → Option Found → Option RExpr
selector_value t None = None
selector_value t (Some a) = typed t (selector_type a.kind) a

abbrev pub selected : Table → Option Found → Option (List RArm) → Option (Option (List RStmt)) → Option RStmt
selected t v arms other = selected_by (selector_value t v) arms other

abbrev pub with_record : Option Opened → Option (List RStmt) → Option RStmt
with_record (Some r) ss = inside r.place ss
with_record None ss = None

abbrev pub armed : Option (List RLabel) → Option (List RStmt) → Option RArm
armed None ss = None
armed (Some ls) ss = arm_of ls ss

abbrev pub with_arm : Option (List RArm) → Labels → Option (List RStmt) → Arms
with_arm arms ls ss = record { seen = ls.seen; arms = joined arms (armed ls.own ss) }

-- ---- each form
abbrev pub statement_layer : Stmt-F Meaning ArmMeaning GuardMeaning → Meaning
statement_layer (s.Assign d p x) e looping = after (variable_means e d) (λ a. after (means e x) (λ v. assign_node e.types p a v))
statement_layer (s.Call d xs) e looping = call_means e d xs
statement_layer (s.If p gs other) e looping = after (guards_mean e looping gs) (λ gs. after (else_means e looping other) (λ ss. pure (conditional gs ss)))
statement_layer (s.Case p x arms other) e looping =
    after (selector_means e x) (λ v.
    after (arms_mean e looping (kind_of v) arms) (λ out.
    after (else_means e looping other) (λ ss. pure (selected e.types v out.arms ss))))
statement_layer (s.While p x ms) e looping = after (condition_means e x) (λ c. after (list_means e looping ms) (λ ss. pure (repeated_while c ss)))
statement_layer (s.Repeat p ms x) e looping = after (list_means e looping ms) (λ ss. after (condition_means e x) (λ c. pure (repeated_until ss c)))
statement_layer (s.Loop p ms) e looping = after (list_means e true ms) (λ ss. pure (looped ss))
statement_layer (s.For p h ms) e looping = after (count_means e h) (λ c. after (list_means e looping ms) (λ ss. pure (counted c ss)))
statement_layer (s.With p d ms) e looping =
    after (variable_means e d) (λ a.
    after (record_node e.types p a) (λ r.
    after (list_means (within r e) looping ms) (λ ss. pure (with_record r ss))))
statement_layer (s.Exit p) e looping = exit_node p looping
statement_layer (s.Return p o) e looping = return_means e p o

abbrev pub guard_layer : Guard-F Meaning ArmMeaning GuardMeaning → GuardMeaning
guard_layer g e looping = after (condition_means e g.condition) (λ c. after (list_means e looping g.body) (λ ss. pure (guard_of c ss)))

abbrev pub arm_layer : Arm-F Meaning ArmMeaning GuardMeaning → ArmMeaning
arm_layer a e looping selector out = after (labels_mean e selector out.seen a.labels) (λ ls. after (list_means e looping a.body) (λ ss. pure (with_arm out.arms ls ss)))

unfoldable pub statement_means : Stmt → Meaning
statement_means = fold-Stmt Meaning ArmMeaning GuardMeaning statement_layer arm_layer guard_layer

unfoldable pub guard_means : Guard → GuardMeaning
guard_means = fold-Guard Meaning ArmMeaning GuardMeaning statement_layer arm_layer guard_layer

unfoldable pub arm_means : Arm → ArmMeaning
arm_means = fold-Arm Meaning ArmMeaning GuardMeaning statement_layer arm_layer guard_layer

-- ---- the same of lists of trees
abbrev pub statement_step : Env → Bool → Option (List RStmt) → Stmt → Option (List RStmt) × List Row
statement_step e looping out x = list_step e looping out (statement_means x)

unfoldable pub statements_mean : Env → Bool → List Stmt → Option (List RStmt) × List Row
statements_mean e looping xs = walk (statement_step e looping) (Some []) xs

abbrev pub behind_else : Env → Bool → Option (List Stmt) → Option (Option (List RStmt)) × List Row
behind_else e looping None = pure (Some None)
behind_else e looping (Some xs) = after (statements_mean e looping xs) (λ ss. pure (behind ss))

abbrev pub guard_step : Env → Bool → Option (List RGuard) → Guard → Option (List RGuard) × List Row
guard_step e looping out x = guards_step e looping out (guard_means x)

abbrev pub arm_step : Env → Bool → Option Kind → Arms → Arm → Arms × List Row
arm_step e looping selector out x = arms_step e looping selector out (arm_means x)
