-- How many words the strings of each form of expression take, as sums over its lists.
use Rattle.std.proofs.Common.{◌≡◌, ℕ, ◌+◌, List, [], ◌∷◌, ◌++◌, length, map, refl, ap, ◌∙◌, arith, length-append}
use Rattle.std.specs.List.{sum_by}
use Rattle.std.proofs.lemmas.List.Sums.{sum_by-cons}
use Rattle.lil_base.specs.declared.operator.{OneOp.OneOp, TwoOp.{TwoOp, TheVariants.{Or, And}}}
use Rattle.lil_resolved.specs.{declared.resolved.{RExpr.RExpr, RRoot.RRoot, RPlace.{RPlace, out-RPlace}, RSelector.{RSelector, out-RSelector}, RMember.{RMember, out-RMember}, ROperation.{ROperation, out-ROperation}, RArgument.{RArgument, TheOpen.{RMember-F, RSelector-F}, TheFolds.{map-RMember, map-RSelector}}, RKind.RKind, RFunction.RFunction}, Kinds.{Kind, OfSet}, Resolved.{Argument, Designator, Held, Expression}, Sizes.{place_strings, expression_strings, argument_strings, arguments_strings}}
use Rattle.lil_resolved.specs.Views.{empty_set, two_of, chained, selected, with_members, kind_view, member_layer, selector_layer, expression_of, root_of, place_of, selector_of, member_of, operation_of, argument_of, arguments_of, taken_is, one_is, chain_is, apply_is, set_is, invoke_is, invoke_value_is, operation_is, place_is, along_is, member_is, selector_is, single_is, span_is, index_is}
use Rattle.lil_resolved.specs.declared.resolved.RArgument.TheOpen as o
use Rattle.lil_resolved.specs.declared.resolved.RExpr.TheVariants as e
use Rattle.lil_resolved.specs.declared.resolved.RRoot.TheVariants as t
use Rattle.lil_resolved.specs.declared.resolved.RSelector.TheVariants as l
use Rattle.lil_resolved.specs.declared.resolved.RMember.TheVariants as c
use Rattle.lil_layout.specs.Strings.{expression_words, root_words, place_words, selector_words, member_words, operation_words, argument_words}

-- ---- lists
two_long : (o : TwoOp) (a b : Expression) → length (expression_strings (two_of o a b)) ≡ length (expression_strings a) + length (expression_strings b)
two_long Or a b = length-append (expression_strings a) (expression_strings b)
two_long And a b = length-append (expression_strings a) (expression_strings b)
two_long _ a b = length-append (expression_strings a) (expression_strings b)

chained_words : (a : Expression) (os : List ROperation) → length (expression_strings (chained a (map operation_of os))) ≡ length (expression_strings a) + sum_by operation_words os
chained_words a [] = omega arith
chained_words a (p ∷ os) =
    omega (arith, chained_words (operation_of p a) os, ap (λ (e : Expression). length (expression_strings e)) (operation_is p a), two_long (out-ROperation p).operator a (expression_of (out-ROperation p).operand), sum_by-cons operation_words p os)

layer_long : (y : RMember-F Argument Expression (Kind → Expression → Expression) Designator (Designator → Designator) (Expression → Expression) Designator) (k : Kind) (s : Expression)
    → length (expression_strings (member_layer y k s)) ≡ length (expression_strings s) + length (expression_strings (member_layer y OfSet empty_set))
layer_long (o.Single a) k s = length-append (expression_strings s) (expression_strings a)
layer_long (o.Span a b) k s =
    omega (arith, length-append (expression_strings s ++ expression_strings a) (expression_strings b), length-append (expression_strings s) (expression_strings a), length-append (expression_strings a) (expression_strings b))

member_long : (m : RMember) (k : Kind) (s : Expression) → length (expression_strings (member_of m k s)) ≡ length (expression_strings s) + member_words m
member_long m k s =
    let y = map-RMember RArgument RExpr RMember RRoot RSelector ROperation RPlace Argument Expression (Kind → Expression → Expression) Designator (Designator → Designator) (Expression → Expression) Designator argument_of expression_of member_of root_of selector_of operation_of place_of (out-RMember m) in
    omega (arith, ap (λ (e : Expression). length (expression_strings e)) (member_is m k s), ap (λ (e : Expression). length (expression_strings e)) (member_is m OfSet empty_set), layer_long y k s)

joined_words : (k : Kind) (s : Expression) (ms : List RMember) → length (expression_strings (with_members k s (map member_of ms))) ≡ length (expression_strings s) + sum_by member_words ms
joined_words k s [] = omega arith
joined_words k s (m ∷ ms) = omega (arith, joined_words k (member_of m k s) ms, member_long m k s, sum_by-cons member_words m ms)

part_long : (y : RSelector-F Argument Expression (Kind → Expression → Expression) Designator (Designator → Designator) (Expression → Expression) Designator) (d : Designator)
    → length (place_strings (selector_layer y d)) ≡ length (place_strings d) + length (place_strings (selector_layer y (Held 0)))
part_long (o.Field i) d = omega arith
part_long (o.Index k a) d = length-append (place_strings d) (expression_strings a)
part_long (o.Follow n) d = omega arith

selector_long : (s : RSelector) (d : Designator) → length (place_strings (selector_of s d)) ≡ length (place_strings d) + selector_words s
selector_long s d =
    let y = map-RSelector RArgument RExpr RMember RRoot RSelector ROperation RPlace Argument Expression (Kind → Expression → Expression) Designator (Designator → Designator) (Expression → Expression) Designator argument_of expression_of member_of root_of selector_of operation_of place_of (out-RSelector s) in
    omega (arith, ap (λ (e : Designator). length (place_strings e)) (selector_is s d), ap (λ (e : Designator). length (place_strings e)) (selector_is s (Held 0)), part_long y d)

selected_words : (d : Designator) (ss : List RSelector) → length (place_strings (selected d (map selector_of ss))) ≡ length (place_strings d) + sum_by selector_words ss
selected_words d [] = omega arith
selected_words d (s ∷ ss) = omega (arith, selected_words (selector_of s d) ss, selector_long s d, sum_by-cons selector_words s ss)

pub given_words : (given : List RArgument) → length (arguments_strings (arguments_of given)) ≡ sum_by argument_words given
given_words [] = refl
given_words (a ∷ given) =
    omega (arith, length-append (argument_strings (argument_of a)) (arguments_strings (arguments_of given)), given_words given, sum_by-cons argument_words a given)

-- ---- expressions and places
pub taken_words : (p : RPlace) (k : RKind) → expression_words (e.Taken p k) ≡ place_words p
taken_words p k = ap (λ (e : Expression). length (expression_strings e)) (taken_is p k)

pub one_words : (o : OneOp) (a : RExpr) → expression_words (e.One o a) ≡ expression_words a
one_words o a = ap (λ (e : Expression). length (expression_strings e)) (one_is o a)

pub chain_words : (a : RExpr) (os : List ROperation) → expression_words (e.Chain a os) ≡ expression_words a + sum_by operation_words os
chain_words a os = ap (λ (e : Expression). length (expression_strings e)) (chain_is a os) ∙ chained_words (expression_of a) os

pub apply_words : (f : RFunction) (a : RExpr) → expression_words (e.Apply f a) ≡ expression_words a
apply_words f a = ap (λ (e : Expression). length (expression_strings e)) (apply_is f a)

pub set_words : (k : RKind) (ms : List RMember) → expression_words (e.Set k ms) ≡ sum_by member_words ms
set_words k ms = omega (arith, ap (λ (e : Expression). length (expression_strings e)) (set_is k ms), joined_words (kind_view k) empty_set ms)

pub invoke_words : (p n : ℕ) (k : RKind) (given : List RArgument) → expression_words (e.Invoke p n k given) ≡ sum_by argument_words given
invoke_words p n k given = ap (λ (e : Expression). length (expression_strings e)) (invoke_is p n k given) ∙ given_words given

pub invoke_value_words : (a : RExpr) (k : RKind) (given : List RArgument)
    → expression_words (e.InvokeValue a k given) ≡ expression_words a + sum_by argument_words given
invoke_value_words a k given =
    let both = length-append (expression_strings (expression_of a)) (arguments_strings (arguments_of given)) in
    omega (arith, ap (λ (e : Expression). length (expression_strings e)) (invoke_value_is a k given), both, given_words given)

pub place_is_words : (p : RPlace) → place_words p ≡ root_words (out-RPlace p).root + sum_by selector_words (out-RPlace p).selectors
place_is_words p = ap (λ (d : Designator). length (place_strings d)) (place_is p) ∙ selected_words (root_of (out-RPlace p).root) (out-RPlace p).selectors

pub along_words : (n i : ℕ) (a : RExpr) → root_words (t.Along n i a) ≡ expression_words a
along_words n i a = ap (λ (d : Designator). length (place_strings d)) (along_is n i a)

pub index_words : (k : RKind) (a : RExpr) → selector_words (l.Index k a) ≡ expression_words a
index_words k a = ap (λ (d : Designator). length (place_strings d)) (index_is k a (Held 0))

pub single_words : (a : RExpr) → member_words (c.Single a) ≡ expression_words a
single_words a = ap (λ (f : Kind → Expression → Expression). length (expression_strings (f OfSet empty_set))) (single_is a)

pub span_words : (a b : RExpr) → member_words (c.Span a b) ≡ expression_words a + expression_words b
span_words a b = ap (λ (f : Kind → Expression → Expression). length (expression_strings (f OfSet empty_set))) (span_is a b) ∙ length-append (expression_strings (expression_of a)) (expression_strings (expression_of b))
