-- Places with a part more, chains with an operation more, and sets with a member more.
use Rattle.std.proofs.Common.{◌≡◌, List, [], ◌∷◌, ◌++◌, map, refl, sym, ap, ◌∙◌}
use Rattle.lil_base.specs.declared.operator.TwoOp.{TwoOp}
use Rattle.lil_resolved.specs.{Kinds.Kind, Resolved.{Designator, Expression, Argument}, Views.{place_is, root_of, two_of, chained, selected, with_members, argument_layer, expression_layer, root_layer, selector_layer, member_layer, operation_layer, place_layer, expression_of, selector_of, member_of, operation_of, place_of}}
use Rattle.lil_resolved.specs.declared.resolved.{RArgument.TheFolds.{fold-roll-RPlace, fold-roll-ROperation}, RExpr.RExpr, RMember.RMember, ROperation.ROperation, RPlace.{RPlace, roll-RPlace, out-RPlace}, RRoot.RRoot, RSelector.RSelector}
use Rattle.lil_forms.specs.{Places.further, Values.operation}

-- ---- places
selected_more : (d : Designator) (ss : List RSelector) (s : RSelector) → selected d (map selector_of (ss ++ s ∷ [])) ≡ selector_of s (selected d (map selector_of ss))
selected_more d [] s = refl
selected_more d (t ∷ ss) s = selected_more (selector_of t d) ss s

pub placed_is : (r : RRoot) (ss : List RSelector) → place_of (roll-RPlace (record { root = r; selectors = ss })) ≡ selected (root_of r) (map selector_of ss)
placed_is r ss = fold-roll-RPlace Argument Expression (Kind → Expression → Expression) Designator (Designator → Designator) (Expression → Expression) Designator argument_layer expression_layer member_layer root_layer selector_layer operation_layer place_layer (record { root = r; selectors = ss })

pub further_is : (p : RPlace) (s : RSelector) → place_of (further p s) ≡ selector_of s (place_of p)
further_is p s =
    placed_is (out-RPlace p).root ((out-RPlace p).selectors ++ s ∷ [])
    ∙ selected_more (root_of (out-RPlace p).root) (out-RPlace p).selectors s
    ∙ ap (selector_of s) (sym (place_is p))

-- ---- chains
pub operated_is : (op : TwoOp) (y : RExpr) (a : Expression) → operation_of (operation op y) a ≡ two_of op a (expression_of y)
operated_is op y a = ap (λ (f : Expression → Expression). f a)
    (fold-roll-ROperation Argument Expression (Kind → Expression → Expression) Designator (Designator → Designator) (Expression → Expression) Designator argument_layer expression_layer member_layer root_layer selector_layer operation_layer place_layer (record { operator = op; operand = y }))

pub chained_more : (a : Expression) (os : List ROperation) (op : TwoOp) (y : RExpr)
    → chained a (map operation_of (os ++ operation op y ∷ [])) ≡ two_of op (chained a (map operation_of os)) (expression_of y)
chained_more a [] op y = operated_is op y a
chained_more a (p ∷ os) op y = chained_more (operation_of p a) os op y

-- ---- sets
pub members_more : (k : Kind) (s : Expression) (ms : List RMember) (m : RMember) → with_members k s (map member_of (ms ++ m ∷ [])) ≡ member_of m k (with_members k s (map member_of ms))
members_more k s [] m = refl
members_more k s (n ∷ ms) m = members_more k (member_of n k s) ms m
