-- The extent of statements, in a text and in a module: how many statements there are, guards of IF, arms of CASE and labels of
-- arms, however deep. Each counts 1. Nothing is left out: statements that have a form have at least the extent that they have in
-- the text.
use Rattle.std.proofs.Common.{◌≡◌, ℕ, suc, ◌+◌, ◌≤◌, Bool, true, List, [], ◌∷◌, length, map, Option, Some, None, IfSome, refl, sym, ap, subst, ◌∙◌, arith}
use Rattle.std.specs.List.{sum}
use Rattle.std.proofs.lemmas.List.{map-append, Sums.{sum_by-cons, sum_by_push}}
use Rattle.lil_base.specs.Lists.{joined}
use Rattle.lil_language.specs.declared.tree.{Range.Range, Arm.Arm, Guard.Guard, Stmt.{Stmt, TheOpen.{Stmt-F, Arm-F, Guard-F}, TheFolds.{fold-Stmt, fold-Arm, fold-Guard, map-Stmt, map-Arm, map-Guard, fold-roll-Stmt, fold-roll-Arm, fold-roll-Guard}}}
use Rattle.lil_language.specs.declared.tree.Stmt.TheOpen as s
use Rattle.lil_resolved.specs.declared.resolved.{RArm.RArm, RExpr.RExpr, RGuard.RGuard, RLabel.RLabel, RStmt.{RStmt, TheOpen.{RStmt-F, RArm-F, RGuard-F}, TheFolds.{fold-RStmt, fold-RArm, fold-RGuard, map-RStmt, ind-RStmt, fold-roll-RStmt, fold-roll-RArm, fold-roll-RGuard}, TheViews.roll-RStmt}}
use Rattle.lil_types.specs.declared.table.Span.{Span}
use Rattle.lil_resolved.specs.declared.resolved.RStmt.TheVariants as r
use Rattle.lil_resolved.specs.declared.resolved.RStmt.TheOpen as o
use Rattle.lil_report.specs.{Told.{Row, after, walk}, Laws.walk_map}
use Rattle.lil_shapes.specs.{BaseLaws.if_true, ListLaws.map_of_map}
use Rattle.lil_scope.specs.declared.{env.Env.Env, thing.Kind.Kind}
use Rattle.lil_kinds.specs.declared.found.Located.{Located}
use Rattle.lil_check_value.specs.Values.{means, variable_means, call_means}
use Rattle.lil_check_type.specs.Labels.{label_means}
use Rattle.lil_check_stmt.specs.{declared.{counting.{Bounds.Bounds, Count.Count}, labels.{Arms.Arms, Labels.Labels}, nodes.Opened.Opened}, Nodes.{assign_node, record_node, exit_node}, Labels.{tag_of, as_label, label_step, labels_mean}, Counting.{count_means, is_step, counted_with, counted}}
use Rattle.lil_check_stmt.specs.Statements.{Meaning, GuardMeaning, ArmMeaning, guard_of, conditional, repeated_while, repeated_until, looped, inside, selected_by, list_step, list_means, behind, else_means, guards_step, guards_mean, no_arms, arms_step, arms_mean, condition_means, selector_means, selector_value, kind_of, return_means, with_record, armed, statement_layer, guard_layer, arm_layer, statement_means, guard_means, arm_means, statement_step, statements_mean, within}
use Rattle.lil_check_stmt.specs.Induction.{meant, arm_meant, guard_meant, statement_rolled, arm_rolled, guard_rolled, bare, bare_arm, bare_guard, by_forms}

-- what stands behind an ELSE, where there is one
abbrev pub otherwise : Option (List ℕ) → ℕ
otherwise None = 0
otherwise (Some ns) = sum ns

-- ---- in a text, from the extents of its parts
abbrev pub text_layer : Stmt-F ℕ ℕ ℕ → ℕ
text_layer (s.If p guards other) = suc (sum guards + otherwise other)
text_layer (s.Case p x arms other) = suc (sum arms + otherwise other)
text_layer (s.While p x body) = suc (sum body)
text_layer (s.Repeat p body x) = suc (sum body)
text_layer (s.Loop p body) = suc (sum body)
text_layer (s.For p h body) = suc (sum body)
text_layer (s.With p d body) = suc (sum body)
text_layer _ = 1

abbrev pub text_arm_layer : Arm-F ℕ ℕ ℕ → ℕ
text_arm_layer a = suc (length a.labels + sum a.body)

abbrev pub text_guard_layer : Guard-F ℕ ℕ ℕ → ℕ
text_guard_layer g = suc (sum g.body)

abbrev pub text_extent_of : Stmt → ℕ
text_extent_of = fold-Stmt ℕ ℕ ℕ text_layer text_arm_layer text_guard_layer

abbrev pub text_arm_extent : Arm → ℕ
text_arm_extent = fold-Arm ℕ ℕ ℕ text_layer text_arm_layer text_guard_layer

abbrev pub text_guard_extent : Guard → ℕ
text_guard_extent = fold-Guard ℕ ℕ ℕ text_layer text_arm_layer text_guard_layer

unfoldable pub text_extent : List Stmt → ℕ
text_extent xs = sum (map text_extent_of xs)

-- ---- in a module, likewise
abbrev pub extent_layer : RStmt-F ℕ ℕ ℕ → ℕ
extent_layer (o.If guards other) = suc (sum guards + sum other)
extent_layer (o.Case x arms other) = suc (sum arms + otherwise other)
extent_layer (o.While x body) = suc (sum body)
extent_layer (o.Repeat body x) = suc (sum body)
extent_layer (o.Loop body) = suc (sum body)
extent_layer (o.For v from to by body) = suc (sum body)
extent_layer (o.With p body) = suc (sum body)
extent_layer _ = 1

abbrev pub arm_extent_layer : RArm-F ℕ ℕ ℕ → ℕ
arm_extent_layer a = suc (length a.labels + sum a.body)

abbrev pub guard_extent_layer : RGuard-F ℕ ℕ ℕ → ℕ
guard_extent_layer g = suc (sum g.body)

abbrev pub extent_of : RStmt → ℕ
extent_of = fold-RStmt ℕ ℕ ℕ extent_layer arm_extent_layer guard_extent_layer

abbrev pub arm_extent : RArm → ℕ
arm_extent = fold-RArm ℕ ℕ ℕ extent_layer arm_extent_layer guard_extent_layer

abbrev pub guard_extent : RGuard → ℕ
guard_extent = fold-RGuard ℕ ℕ ℕ extent_layer arm_extent_layer guard_extent_layer

unfoldable pub extent : List RStmt → ℕ
extent ss = sum (map extent_of ss)

-- ---- nothing is left out
-- at least an extent, where all are there
abbrev Has : {A : Type 0} → (A → ℕ) → ℕ → Option (List A) → Type 0
Has size n o = IfSome o (λ xs. n ≤ sum (map size xs))

-- a statement of at least an extent, where there is one
abbrev Of : ℕ → Option RStmt → Type 0
Of n o = IfSome o (λ x. n ≤ extent_of x)

joined_has : {A : Type 0} (size : A → ℕ) (k n : ℕ) (o : Option (List A)) (x : Option A) → Has size k o → IfSome x (λ x. n ≤ size x) → Has size (k + n) (joined o x)
joined_has size k n (Some xs) (Some x) h j = omega (arith, ap sum (map-append size xs (x ∷ [])), sum_by_push (λ m. m) (map size xs) (size x), h, j)
joined_has size k n _ _ h j = tt

-- what each step of a walk adds is there at its end
walked : {S X : Type 0} (P : ℕ → S → Type 0) (size : X → ℕ) (f : S → X → S × List Row) → ((k : ℕ) (s : S) (x : X) → P k s → P (k + size x) (f s x).0)
    → (xs : List X) (k n : ℕ) (s : S) → k + sum (map size xs) ≡ n → P k s → P n (walk f s xs).0
unfolding after
walked P size f one [] k n s is h = subst (λ m. P m s) (omega (arith, is)) h
walked P size f one (x ∷ xs) k n s is h = walked P size f one xs (k + size x) n (f s x).0 (omega (arith, is, sum_by-cons (λ m. m) (size x) (map size xs))) (one k s x h)

-- the same, where the walk goes over what trees mean
walked_by : {S T U X : Type 0} (P : ℕ → S → Type 0) (size : U → ℕ) (f : S → X → S × List Row) (g : U → X) (of : T → U) → ((k : ℕ) (s : S) (t : T) → P k s → P (k + size (of t)) (f s (g (of t))).0)
    → (ts : List T) (s : S) → P 0 s → P (sum (map size (map of ts))) (walk f s (map g (map of ts))).0
walked_by P size f g of one ts s h =
    subst (λ w. P (sum (map size (map of ts))) w.0) (sym (walk_map f g s (map of ts) ∙ walk_map (λ s u. f s (g u)) of s ts))
    (walked P (λ t. size (of t)) (λ s t. f s (g (of t))) one ts 0 _ s (omega (arith, ap sum (map_of_map size of ts))) h)

-- each label counts 1
abbrev one : {A : Type 0} → A → ℕ
one x = 1

ones : {A : Type 0} (xs : List A) → sum (map one xs) ≡ length xs
ones [] = refl
ones (x ∷ xs) = omega (arith, sum_by-cons (λ m. m) 1 (map one xs), ones xs)

-- the extent of a form is that of its layer
counts : (y : RStmt-F RStmt RArm RGuard) {x : RStmt} → roll-RStmt y ≡ x → extent_of x ≡ extent_layer (map-RStmt RStmt RArm RGuard ℕ ℕ ℕ extent_of arm_extent guard_extent y)
counts y is = ap extent_of (sym is) ∙ fold-roll-RStmt ℕ ℕ ℕ extent_layer arm_extent_layer guard_extent_layer y

from : {a b c : ℕ} → a ≡ b → c ≤ b → c ≤ a
from e h = omega (arith, e, h)

-- ---- each form, from the extents of its lists
-- behind an ELSE, where it has code, or where there is none
abbrev Other : ℕ → Option (Option (List RStmt)) → Type 0
Other n None = Unit {0}
Other n (Some None) = n ≤ 0
Other n (Some (Some ss)) = n ≤ sum (map extent_of ss)

behind_kept : (n : ℕ) (o : Option (List RStmt)) → Has extent_of n o → Other n (behind o)
behind_kept n None h = tt
behind_kept n (Some ss) h = h

if_kept : (m n : ℕ) (gs : Option (List RGuard)) (other : Option (Option (List RStmt))) → Has guard_extent m gs → Other n other → Of (suc (m + n)) (conditional gs other)
if_kept m n (Some gs) (Some None) h j = from (counts _ (r.rolls-If gs [])) (omega (arith, h, j))
if_kept m n (Some gs) (Some (Some ss)) h j = from (counts _ (r.rolls-If gs ss)) (omega (arith, h, j))
if_kept m n _ _ h j = tt

case_kept : (m n : ℕ) (x : Option RExpr) (arms : Option (List RArm)) (other : Option (Option (List RStmt))) → Has arm_extent m arms → Other n other → Of (suc (m + n)) (selected_by x arms other)
case_kept m n (Some x) (Some arms) (Some None) h j = from (counts _ (r.rolls-Case x arms None)) (omega (arith, h, j))
case_kept m n (Some x) (Some arms) (Some (Some ss)) h j = from (counts _ (r.rolls-Case x arms (Some ss))) (omega (arith, h, j))
case_kept m n _ _ _ h j = tt

while_kept : (n : ℕ) (x : Option RExpr) (o : Option (List RStmt)) → Has extent_of n o → Of (suc n) (repeated_while x o)
while_kept n (Some x) (Some ss) h = from (counts _ (r.rolls-While x ss)) (omega (arith, h))
while_kept n _ _ h = tt

repeat_kept : (n : ℕ) (o : Option (List RStmt)) (x : Option RExpr) → Has extent_of n o → Of (suc n) (repeated_until o x)
repeat_kept n (Some ss) (Some x) h = from (counts _ (r.rolls-Repeat ss x)) (omega (arith, h))
repeat_kept n _ _ h = tt

loop_kept : (n : ℕ) (o : Option (List RStmt)) → Has extent_of n o → Of (suc n) (looped o)
loop_kept n None h = tt
loop_kept n (Some ss) h = from (counts _ (r.rolls-Loop ss)) (omega (arith, h))

for_kept : (n : ℕ) (c : Option Count) (o : Option (List RStmt)) → Has extent_of n o → Of (suc n) (counted c o)
for_kept n None o h = tt
for_kept n (Some c) o h = by c.bounds o h
  where
    by : (b : Option Bounds) (o : Option (List RStmt)) → Has extent_of n o → Of (suc n) (counted_with b c.by o)
    by (Some b) (Some ss) h = if_true (λ y. suc n ≤ extent_of y) (is_step c.by) _ (λ e. from (counts _ (r.rolls-For b.variable b.from b.to c.by ss)) (omega (arith, h)))
    by _ _ h = tt

with_kept : (n : ℕ) (q : Option Opened) (o : Option (List RStmt)) → Has extent_of n o → Of (suc n) (with_record q o)
with_kept n None o h = tt
with_kept n (Some q) o h = by q.place o h
  where
    by : (p : Option Located) (o : Option (List RStmt)) → Has extent_of n o → Of (suc n) (inside p o)
    by (Some p) (Some ss) h = from (counts _ (r.rolls-With p.place ss)) (omega (arith, h))
    by _ _ h = tt

guard_kept : (n : ℕ) (x : Option RExpr) (o : Option (List RStmt)) → Has extent_of n o → IfSome (guard_of x o) (λ g. suc n ≤ guard_extent g)
guard_kept n (Some x) (Some ss) h = from (fold-roll-RGuard ℕ ℕ ℕ extent_layer arm_extent_layer guard_extent_layer (record { condition = x; body = ss })) (omega (arith, h))
guard_kept n _ _ h = tt

arm_kept : (m n : ℕ) (ls : Option (List RLabel)) (o : Option (List RStmt)) → Has one m ls → Has extent_of n o → IfSome (armed ls o) (λ a. suc (m + n) ≤ arm_extent a)
arm_kept m n (Some ls) (Some ss) h j = from (fold-roll-RArm ℕ ℕ ℕ extent_layer arm_extent_layer guard_extent_layer (record { labels = ls; body = ss })) (omega (arith, ones ls, h, j))
arm_kept m n _ _ h j = tt

labels_kept : (e : Env) (k : Option Kind) (seen : List Span) (rs : List Range) → Has one (length rs) (labels_mean e k seen rs).0.own
unfolding after
labels_kept e k seen rs =
    walked (λ n (ls : Labels). Has one n ls.own) one (label_step e k) (λ n ls r h. joined_has one n 1 ls.own (as_label (label_means e (tag_of e.types k) ls.seen r).0) h (by (as_label (label_means e (tag_of e.types k) ls.seen r).0))) rs 0 _ _ (omega (arith, ones rs)) (omega arith)
  where
    by : (o : Option RLabel) → IfSome o (λ l. 1 ≤ one l)
    by None = tt
    by (Some l) = omega arith

-- any statement counts
layer_counts : (y : RStmt-F ℕ ℕ ℕ) → 1 ≤ extent_layer y
layer_counts (o.If guards other) = omega arith
layer_counts (o.Case x arms other) = omega arith
layer_counts (o.While x body) = omega arith
layer_counts (o.Repeat body x) = omega arith
layer_counts (o.Loop body) = omega arith
layer_counts (o.For v from to by body) = omega arith
layer_counts (o.With p body) = omega arith
layer_counts _ = omega arith

statement_counts : (x : RStmt) → 1 ≤ extent_of x
statement_counts = ind-RStmt (λ x. 1 ≤ extent_of x) (λ a. Unit {0}) (λ g. Unit {0})
    (λ x y is. subst (λ z. 1 ≤ extent_of (roll-RStmt z)) is (from (counts (map-RStmt ((x : RStmt) × (1 ≤ extent_of x)) (RArm × Unit {0}) (RGuard × Unit {0}) RStmt RArm RGuard (λ x. x.0) (λ a. a.0) (λ g. g.0) y) refl) (layer_counts _)))
    (λ a y is. tt) (λ g y is. tt)

some_kept : (q : Option RStmt) → Of 1 q
some_kept None = tt
some_kept (Some x) = statement_counts x

-- ---- what is kept in all surroundings, of a tree
abbrev Kept : Meaning → ℕ → Type 0
Kept m n = (e : Env) (looping : Bool) → Of n (m e looping).0

abbrev GuardKept : GuardMeaning → ℕ → Type 0
GuardKept m n = (e : Env) (looping : Bool) → IfSome (m e looping).0 (λ g. n ≤ guard_extent g)

-- an arm behind others
abbrev ArmKept : ArmMeaning → ℕ → Type 0
ArmKept m n = (e : Env) (looping : Bool) (selector : Option Kind) (k : ℕ) (out : Arms) → Has arm_extent k out.arms → Has arm_extent (k + n) (m e looping selector out).0.arms

abbrev Tree : Type 0
Tree = (x : Stmt) × Kept (statement_means x) (text_extent_of x)

abbrev ArmTree : Type 0
ArmTree = (a : Arm) × ArmKept (arm_means a) (text_arm_extent a)

abbrev GuardTree : Type 0
GuardTree = (g : Guard) × GuardKept (guard_means g) (text_guard_extent g)

-- what lists of trees mean
abbrev means_of : List Tree → List Meaning
means_of xs = map statement_means (map (λ x. x.0) xs)

abbrev guards_of : List GuardTree → List GuardMeaning
guards_of gs = map guard_means (map (λ g. g.0) gs)

abbrev arms_of : List ArmTree → List ArmMeaning
arms_of as' = map arm_means (map (λ a. a.0) as')

module _ (e : Env) (looping : Bool) where
  list_kept : (xs : List Tree) → Has extent_of (sum (map text_extent_of (map (λ x. x.0) xs))) (list_means e looping (means_of xs)).0
  unfolding after
  list_kept xs = walked_by (Has extent_of) text_extent_of (list_step e looping) statement_means (λ x. x.0) (λ k o x h. joined_has extent_of k (text_extent_of x.0) o (statement_means x.0 e looping).0 h (x.1 e looping)) xs (Some []) (omega arith)

  guards_kept : (gs : List GuardTree) → Has guard_extent (sum (map text_guard_extent (map (λ g. g.0) gs))) (guards_mean e looping (guards_of gs)).0
  unfolding after
  guards_kept gs = walked_by (Has guard_extent) text_guard_extent (guards_step e looping) guard_means (λ g. g.0) (λ k o g h. joined_has guard_extent k (text_guard_extent g.0) o (guard_means g.0 e looping).0 h (g.1 e looping)) gs (Some []) (omega arith)

  arms_kept : (selector : Option Kind) (as' : List ArmTree) → Has arm_extent (sum (map text_arm_extent (map (λ a. a.0) as'))) (arms_mean e looping selector (arms_of as')).0.arms
  arms_kept selector as' = walked_by (λ n (out : Arms). Has arm_extent n out.arms) text_arm_extent (arms_step e looping selector) arm_means (λ a. a.0) (λ k out a h. a.1 e looping selector k out h) as' no_arms (omega arith)

  else_kept : (xs : List Tree) → Other (sum (map text_extent_of (map (λ x. x.0) xs))) (else_means e looping (Some (means_of xs))).0
  unfolding after
  else_kept xs = behind_kept _ (list_means e looping (means_of xs)).0 (list_kept xs)

-- ---- each layer
abbrev sized : Stmt-F Stmt Arm Guard → Stmt-F ℕ ℕ ℕ
sized = map-Stmt Stmt Arm Guard ℕ ℕ ℕ text_extent_of text_arm_extent text_guard_extent

abbrev arm_sized : Arm-F Stmt Arm Guard → Arm-F ℕ ℕ ℕ
arm_sized = map-Arm Stmt Arm Guard ℕ ℕ ℕ text_extent_of text_arm_extent text_guard_extent

abbrev guard_sized : Guard-F Stmt Arm Guard → Guard-F ℕ ℕ ℕ
guard_sized = map-Guard Stmt Arm Guard ℕ ℕ ℕ text_extent_of text_arm_extent text_guard_extent

layer_kept : (y : Stmt-F Tree ArmTree GuardTree) → Kept (statement_layer (meant (bare y))) (text_layer (sized (bare y)))
unfolding after
layer_kept (s.Assign d p x) e looping = some_kept (assign_node e.types p (variable_means e d).0 (means e x).0).0
layer_kept (s.Call d xs) e looping = some_kept (call_means e d xs).0
layer_kept (s.If p gs None) e looping = if_kept _ 0 _ (Some None) (guards_kept e looping gs) (omega arith)
layer_kept (s.If p gs (Some xs)) e looping = if_kept _ _ _ _ (guards_kept e looping gs) (else_kept e looping xs)
layer_kept (s.Case p x as' None) e looping = case_kept _ 0 (selector_value e.types (selector_means e x).0) _ (Some None) (arms_kept e looping (kind_of (selector_means e x).0) as') (omega arith)
layer_kept (s.Case p x as' (Some xs)) e looping = case_kept _ _ (selector_value e.types (selector_means e x).0) _ _ (arms_kept e looping (kind_of (selector_means e x).0) as') (else_kept e looping xs)
layer_kept (s.While p x xs) e looping = while_kept _ (condition_means e x).0 _ (list_kept e looping xs)
layer_kept (s.Repeat p xs x) e looping = repeat_kept _ _ (condition_means e x).0 (list_kept e looping xs)
layer_kept (s.Loop p xs) e looping = loop_kept _ _ (list_kept e true xs)
layer_kept (s.For p h xs) e looping = for_kept _ (count_means e h).0 _ (list_kept e looping xs)
layer_kept (s.With p d xs) e looping = let q = (record_node e.types p (variable_means e d).0).0 in with_kept _ q _ (list_kept (within q e) looping xs)
layer_kept (s.Exit p) e looping = some_kept (exit_node p looping).0
layer_kept (s.Return p o) e looping = some_kept (return_means e p o).0

guard_layer_kept : (y : Guard-F Tree ArmTree GuardTree) → GuardKept (guard_layer (guard_meant (bare_guard y))) (text_guard_layer (guard_sized (bare_guard y)))
unfolding after
guard_layer_kept y e looping = guard_kept _ (condition_means e y.condition).0 _ (list_kept e looping y.body)

arm_layer_kept : (y : Arm-F Tree ArmTree GuardTree) → ArmKept (arm_layer (arm_meant (bare_arm y))) (text_arm_layer (arm_sized (bare_arm y)))
unfolding after
arm_layer_kept y e looping selector k out h = joined_has arm_extent k _ out.arms _ h (arm_kept _ _ _ _ (labels_kept e selector out.seen y.labels) (list_kept e looping y.body))

-- ---- by induction
same : {M : Type 0} (P : M → ℕ → Type 0) {a b : M} {m n : ℕ} → a ≡ b → m ≡ n → P b n → P a m
same P {a = a} {b = b} {m = m} {n = n} e is h = subst (λ z. P z m) (sym e) (subst (P b) (sym is) h)

statement_kept : (x : Stmt) → Kept (statement_means x) (text_extent_of x)
statement_kept = by_forms
    (λ (y : Stmt-F Tree ArmTree GuardTree). same Kept (statement_rolled (bare y)) (fold-roll-Stmt ℕ ℕ ℕ text_layer text_arm_layer text_guard_layer (bare y)) (layer_kept y))
    (λ (y : Arm-F Tree ArmTree GuardTree). same ArmKept (arm_rolled (bare_arm y)) (fold-roll-Arm ℕ ℕ ℕ text_layer text_arm_layer text_guard_layer (bare_arm y)) (arm_layer_kept y))
    (λ (y : Guard-F Tree ArmTree GuardTree). same GuardKept (guard_rolled (bare_guard y)) (fold-roll-Guard ℕ ℕ ℕ text_layer text_arm_layer text_guard_layer (bare_guard y)) (guard_layer_kept y))

pub statements_kept : (e : Env) (looping : Bool) (xs : List Stmt) → IfSome (statements_mean e looping xs).0 (λ ss. text_extent xs ≤ extent ss)
unfolding statements_mean after extent text_extent
statements_kept e looping xs =
    walked (Has extent_of) text_extent_of (statement_step e looping) (λ k o x h. joined_has extent_of k (text_extent_of x) o (statement_means x e looping).0 h (statement_kept x e looping)) xs 0 _ (Some []) (omega arith) (omega arith)
