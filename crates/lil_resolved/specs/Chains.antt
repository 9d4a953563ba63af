-- What kind of values chains and sets have.
use Rattle.std.proofs.Common.{◌≡◌, ℕ, ◌+◌, ◌<◌, Bool, true, false, ◌&&◌, if◌then◌else◌, List, [], ◌∷◌, map, drop, length, get_or, refl, sym, ap, ◌∙◌}
use Rattle.std.proofs.lemmas.List.{drop_more}
use Rattle.lil_base.specs.declared.operator.TwoOp.{TwoOp, TheVariants.{Plus, Minus, Times, Slash, Div, Mod, And}}
use Rattle.lil_resolved.specs.{declared.resolved.{RExpr.RExpr, RArgument.{TheOpen.{RSelector-F, RMember-F}, TheFolds.map-RMember}, ROperation.{ROperation, out-ROperation}, RMember.{RMember, out-RMember}, RKind.RKind, RPlace.RPlace, RRoot.RRoot, RArgument.RArgument, RSelector.RSelector}, Kinds.{Kind, OfTruth, OfSet}, Resolved.{Designator, Expression, Argument, kind_of}}
use Rattle.lil_resolved.specs.Views.{chain_is, set_is, operation_is, member_is, two_of, chained, with_members, empty_set, kind_view, member_layer, expression_of, selector_of, member_of, operation_of, argument_of, place_of, root_of}
use Rattle.lil_resolved.specs.declared.resolved.RExpr.TheVariants as e
use Rattle.lil_resolved.specs.declared.resolved.RArgument.TheOpen as x

-- an operator whose value is of the kind of its operands
abbrev pub is_arithmetic : TwoOp → Bool
is_arithmetic Plus = true
is_arithmetic Minus = true
is_arithmetic Times = true
is_arithmetic Slash = true
is_arithmetic Div = true
is_arithmetic Mod = true
is_arithmetic _ = false

abbrev pub all_arithmetic : List ROperation → Bool
all_arithmetic [] = true
all_arithmetic (o ∷ os) = is_arithmetic (out-ROperation o).operator && all_arithmetic os

-- ---- chains
two_kind : (o : TwoOp) (a b : Expression) → kind_of (two_of o a b) ≡ (if is_arithmetic o then kind_of a else OfTruth)
two_kind And a b = refl
two_kind _ a b = refl

operation_kind : (o : ROperation) (a : Expression) → kind_of (operation_of o a) ≡ (if is_arithmetic (out-ROperation o).operator then kind_of a else OfTruth)
operation_kind o a = ap kind_of (operation_is o a) ∙ two_kind (out-ROperation o).operator a (expression_of (out-ROperation o).operand)

twice : (b c : Bool) (k : Kind) → (if c then (if b then k else OfTruth) else OfTruth) ≡ (if b && c then k else OfTruth)
twice true c k = refl
twice false true k = refl
twice false false k = refl

chained_kind : (a : Expression) (os : List ROperation) → kind_of (chained a (map operation_of os)) ≡ (if all_arithmetic os then kind_of a else OfTruth)
chained_kind a [] = refl
chained_kind a (o ∷ os) =
    chained_kind (operation_of o a) os ∙ ap (λ (k : Kind). if all_arithmetic os then k else OfTruth) (operation_kind o a)
    ∙ twice (is_arithmetic (out-ROperation o).operator) (all_arithmetic os) (kind_of a)

pub chain_kind : (a : RExpr) (os : List ROperation) → kind_of (expression_of (e.Chain a os)) ≡ (if all_arithmetic os then kind_of (expression_of a) else OfTruth)
chain_kind a os = ap kind_of (chain_is a os) ∙ chained_kind (expression_of a) os

-- what is left of operations from one on
pub arithmetic_left : (os : List ROperation) (i : ℕ) (o : ROperation) → i < length os → o ≡ get_or os i o
    → all_arithmetic (drop i os) ≡ (is_arithmetic (out-ROperation o).operator && all_arithmetic (drop (i + 1) os))
arithmetic_left os i o inside is = ap all_arithmetic (drop_more os i o inside ∙ ap (λ y. y ∷ drop (i + 1) os) (sym is))

-- ---- sets
member_layer_kind : (y : RMember-F RArgument RExpr RMember RRoot RSelector ROperation RPlace) (k : Kind) (s : Expression)
    → kind_of (member_layer (map-RMember RArgument RExpr RMember RRoot RSelector ROperation RPlace Argument Expression (Kind → Expression → Expression) Designator (Designator → Designator) (Expression → Expression) Designator argument_of expression_of member_of root_of selector_of operation_of place_of y) k s) ≡ OfSet
member_layer_kind (x.Single a) k s = refl
member_layer_kind (x.Span a b) k s = refl

with_kind : (k : Kind) (s : Expression) (ms : List RMember) → kind_of s ≡ OfSet → kind_of (with_members k s (map member_of ms)) ≡ OfSet
with_kind k s [] h = h
with_kind k s (m ∷ ms) h = with_kind k (member_of m k s) ms (ap kind_of (member_is m k s) ∙ member_layer_kind (out-RMember m) k s)

pub set_kind : (k : RKind) (ms : List RMember) → kind_of (expression_of (e.Set k ms)) ≡ OfSet
set_kind k ms = ap kind_of (set_is k ms) ∙ with_kind (kind_view k) empty_set ms refl
