-- What expressions mean: their value where they have a type, and the tests of their nodes.
use Rattle.std.specs.Prelude.{ℕ, ◌==◌, nat_lt, pos, Bool, true, false, not, List, [], ◌∷◌, ◌++◌, length, Option, Some, None, is_none, ◌&&◌}
use Rattle.lil_base.specs.declared.fault.{FaultKind.TheVariants.{ConstRange, NotConst}, Place.Place}
use Rattle.lil_language.specs.declared.tree.{Expr.{Expr, TheOpen.{Expr-F, Selector-F, Designator-F, Operation-F, Range-F}, TheFolds.{fold-Expr, fold-Selector, fold-Designator, fold-Operation, fold-Range}}, Designator.{Designator, out-Designator}, Selector.Selector, Operation.Operation, Range.Range}
use Rattle.lil_language.specs.declared.tree.Expr.TheOpen as x
use Rattle.lil_language.specs.Trees.{first_place}
use Rattle.lil_types.specs.Types.{Table, char}
use Rattle.lil_resolved.specs.{declared.resolved.RStmt.RStmt, Sound.is_text}
use Rattle.lil_declared.specs.declared.standard.Standard.{Standard, TheVariants.{Max, Min, Val}}
use Rattle.lil_report.specs.Told.{Row, row, has_no_fault, after, walk}
use Rattle.lil_scope.specs.declared.{thing.Chars.Chars, env.Env.Env}
use Rattle.lil_scope.specs.declared.thing.Kind.TheVariants as k
use Rattle.lil_kinds.specs.declared.found.Form.TheVariants as form
use Rattle.lil_kinds.specs.declared.found.Found.{Found}
use Rattle.lil_call.specs.{declared.call.{Callee.Callee, Argument.Argument}, Calls.{call_node, statement_node}}
use Rattle.lil_call.specs.declared.call.Callee.TheVariants as callee
use Rattle.lil_call.specs.declared.call.Argument.TheVariants as argument
use Rattle.lil_check_value.specs.{declared.{designators.Reached.Reached, asked.Asked.Asked}, Designators.{Reaches, root_means, field_node, index_node, follow_node, value_node, variable_node, callee_node, typed_node}, Looks.set_sort}
use Rattle.lil_operators.specs.{declared.operations.Chained.Chained, Operations.{Elements, Meaning, constant_found, plain_found, one_node, begun, two_node, chain_found, no_elements, joined_one, joined_range, set_node}}
use Rattle.lil_check_value.specs.declared.asked.Asked.TheVariants as asked

-- An expression means a value, and something as an argument where a type's name may stand. A selector leads from what is
-- reached to what it selects. A designator has its first token, and reaches something, where it or its expression begins at
-- a place. An operation goes on with a chain that begins at a place, and a range with the elements before it.
pub record Sense : Type 0 where
  pub value : Option Found × List Row
  pub typed : Argument × List Row

pub record Way : Type 0 where
  pub first : Place
  pub reach : Place → Option Reached × List Row

abbrev pub Step : Type 0
Step = Option Reached → Option Reached × List Row

abbrev pub Operates : Type 0
Operates = Place → Option Chained → Option Chained × List Row

abbrev pub Joins : Type 0
Joins = Option ℕ → Option Elements → Option Elements × List Row

-- ---- texts
abbrev pub first_of : List ℕ → ℕ
first_of [] = 0
first_of (c ∷ cs) = c

abbrev pub chars_of : List ℕ → Chars
chars_of text = record { length = length text; first = first_of text }

abbrev pub text_found : Place → List ℕ → Found
text_found p text = plain_found p (form.Text text) (k.Chars (chars_of text))

-- ---- literals. 50 ConstRange: a number that no word has, and a character that no byte has; no text says one
unfoldable pub whole_node : Place → ℕ → Meaning
whole_node p n = (Some (constant_found p (k.Whole (pos n))), row (nat_lt 65535 n) p ConstRange ∷ [])

unfoldable pub code_node : Place → ℕ → Meaning
code_node p c = (Some (constant_found p (k.Scalar char c)), row (nat_lt 255 c) p ConstRange ∷ [])

unfoldable pub text_node : Place → List ℕ → Meaning
text_node p text = (Some (text_found p text), row (not (is_text text)) p ConstRange ∷ [])

-- ---- arguments: the first of MAX, MIN and VAL should be a type's name
abbrev pub standard_asks : Standard → Asked
standard_asks Max = asked.First
standard_asks Min = asked.First
standard_asks Val = asked.First
standard_asks _ = asked.Never

abbrev pub asks : Option Callee → Asked
asks (Some (callee.Standard s)) = standard_asks s
asks _ = asked.Never

abbrev pub asks_at : Asked → ℕ → Bool
asks_at asked.First n = n == 0
asks_at asked.Never n = false

abbrev pub as_argument : Option Found × List Row → Argument × List Row
as_argument m = after m (λ o. (argument.Value o, []))

abbrev pub argument_by : Bool → Sense → Argument × List Row
argument_by true s = s.typed
argument_by false s = as_argument s.value

abbrev pub argument_step : Asked → List Argument → Sense → List Argument × List Row
argument_step a out s = after (argument_by (asks_at a (length out)) s) (λ one. (out ++ one ∷ [], []))

abbrev pub given : Asked → List Sense → List Argument × List Row
given a ss = walk (argument_step a) [] ss

-- ---- calls
abbrev pub begun_at : Place → Option Found → Option Found
begun_at p None = None
begun_at p (Some a) = Some (record { form = a.form; kind = a.kind; first = p; depth = a.depth; standing = a.standing })

abbrev pub call_of : Env → Place → Place → Option Callee → List Sense → Meaning
call_of e p q c ss = after (after (given (asks c) ss) (λ as'. call_node e.types q c as')) (λ o. (begun_at p o, []))

abbrev pub called : Env → Place → Way → List Sense → Meaning
called e p d ss = after (after (d.reach d.first) (callee_node e)) (λ c. call_of e p d.first c ss)

-- ---- all forms
abbrev pub of_value : Meaning → Sense
of_value m = record { value = m; typed = as_argument m }

abbrev pub chain_means : Place → Meaning → List Operates → Meaning
chain_means p a os = after (after a (λ a. walk (λ s o. o p s) (begun a) os)) (λ o. (chain_found p o, []))

abbrev pub expression_layer : Env → Expr-F Sense Step Way Operates Joins → Sense
expression_layer e (x.Whole p n) = of_value (whole_node p n)
expression_layer e (x.Code p c) = of_value (code_node p c)
expression_layer e (x.Chars p text) = of_value (text_node p text)
expression_layer e (x.SetOf p q rs) = of_value (after (set_sort e q) (λ s. after (walk (λ es j. j s es) (Some no_elements) rs) (set_node e.types p s)))
expression_layer e (x.Desig p d) = record { value = after (d.reach p) (value_node e.texts); typed = after (d.reach p) (typed_node p) }
expression_layer e (x.Call p d xs) = of_value (called e p d xs)
expression_layer e (x.One p op at a) = of_value (after a.value (one_node e.types p op at))
expression_layer e (x.Chain p a os) = of_value (chain_means p a.value os)

abbrev pub index_step : Env → Place → Option Reached → Sense → Reaches
index_step e bracket o i = after i.value (index_node e.types bracket o)

abbrev pub selector_layer : Env → Selector-F Sense Step Way Operates Joins → Step
selector_layer e (x.Field dot i) o = field_node e dot i o
selector_layer e (x.Index bracket is) o = walk (index_step e bracket) o is
selector_layer e (x.Follow arrow) o = follow_node e arrow o

abbrev pub designator_layer : Env → Designator-F Sense Step Way Operates Joins → Way
designator_layer e d = record { first = d.first.place; reach = λ p. after (root_means e p d.first) (λ o. walk (λ o s. s o) o d.selectors) }

abbrev pub operation_layer : Env → Operation-F Sense Step Way Operates Joins → Operates
operation_layer e o p a = after o.operand.value (two_node e.types p o.operator o.place a)

abbrev pub joined : Table → Meaning → Option Sense → Joins
joined types low None s es = after low (λ a. (joined_one types s es a, []))
joined types low (Some high) s es = after low (λ a. after high.value (λ b. (joined_range types s es a b, [])))

abbrev pub range_layer : Env → Range-F Sense Step Way Operates Joins → Joins
range_layer e g = joined e.types g.low.value g.high

-- ---- the fold
module _ (e : Env) where
  unfoldable pub sense : Expr → Sense
  sense = fold-Expr Sense Step Way Operates Joins (expression_layer e) (selector_layer e) (designator_layer e) (operation_layer e) (range_layer e)

  unfoldable pub step : Selector → Step
  step = fold-Selector Sense Step Way Operates Joins (expression_layer e) (selector_layer e) (designator_layer e) (operation_layer e) (range_layer e)

  unfoldable pub way : Designator → Way
  way = fold-Designator Sense Step Way Operates Joins (expression_layer e) (selector_layer e) (designator_layer e) (operation_layer e) (range_layer e)

  unfoldable pub operates : Operation → Operates
  operates = fold-Operation Sense Step Way Operates Joins (expression_layer e) (selector_layer e) (designator_layer e) (operation_layer e) (range_layer e)

  unfoldable pub joins : Range → Joins
  joins = fold-Range Sense Step Way Operates Joins (expression_layer e) (selector_layer e) (designator_layer e) (operation_layer e) (range_layer e)

unfoldable pub means : Env → Expr → Option Found × List Row
means e x = (sense e x).value

-- what must be constant. 51 NotConst, at its first token: it has no type though none of its tests finds a fault, as what lies
-- behind a pointer whose target is declared later
unfoldable pub as_constant : {A : Type 0} → Place → Option A × List Row → Option A × List Row
as_constant p m = (m.0, m.1 ++ row (is_none m.0 && has_no_fault m.1) p NotConst ∷ [])

abbrev pub asked_means : Env → Expr → Option Found × List Row
asked_means e x = as_constant (first_place x) (means e x)

unfoldable pub typed_means : Env → Expr → Argument × List Row
typed_means e x = (sense e x).typed

unfoldable pub reach_means : Env → Place → Designator → Option Reached × List Row
reach_means e p d = (way e d).reach p

-- what lists mean
abbrev pub index_means : Env → Place → Option Reached → Expr → Option Reached × List Row
index_means e bracket o x = after (means e x) (index_node e.types bracket o)

abbrev pub step_means : Env → Option Reached → Selector → Option Reached × List Row
step_means e o s = step e s o

abbrev pub operation_means : Env → Place → Option Chained → Operation → Option Chained × List Row
operation_means e p a o = operates e o p a

abbrev pub joins_mean : Env → Option ℕ → Option Elements → Range → Option Elements × List Row
joins_mean e s es g = joins e g s es

abbrev pub elements_mean : Env → Option ℕ → List Range → Option Elements × List Row
elements_mean e s gs = walk (joins_mean e s) (Some no_elements) gs

-- where a designator begins
abbrev pub begins : Designator → Place
begins d = (out-Designator d).first.place

-- an argument, which may have to be a type's name
abbrev pub argument_in : Env → Bool → Expr → Argument × List Row
argument_in e true x = typed_means e x
argument_in e false x = as_argument (means e x)

abbrev pub argument_means : Env → Asked → List Argument → Expr → List Argument × List Row
argument_means e a out x = after (argument_in e (asks_at a (length out)) x) (λ one. (out ++ one ∷ [], []))

abbrev pub arguments_mean : Env → Asked → List Expr → List Argument × List Row
arguments_mean e a xs = walk (argument_means e a) [] xs

unfoldable pub variable_means : Env → Designator → Option Found × List Row
variable_means e d = after (reach_means e (begins d) d) variable_node

unfoldable pub call_means : Env → Designator → List Expr → Option RStmt × List Row
call_means e d xs = after (after (reach_means e (begins d) d) (callee_node e)) (λ c. after (arguments_mean e (asks c) xs) (statement_node e.types (begins d) c))
