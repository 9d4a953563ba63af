-- What each form of statement means, from what its parts mean.
use Rattle.std.proofs.Common.{◌≡◌, ℕ, ℤ, List, Option, Some, None, Result, Ok, Err, IfOk, subst, sym, Bool, true, [], map, refl, ap, ◌∙◌}
use Rattle.lil_base.specs.{declared.fault.Place.Place, Lists.joined}
use Rattle.lil_language.specs.declared.tree.{Expr.Expr, ForHead.ForHead, Range.Range, Designator.Designator, Guard.Guard, Arm.Arm, Stmt.{Stmt, TheOpen.Stmt-F, TheFolds.{map-Stmt, fold-roll-Stmt, fold-roll-Guard, fold-roll-Arm}, TheViews.roll-Stmt}}
use Rattle.lil_resolved.specs.declared.resolved.{RExpr.RExpr, RStmt.RStmt, RArm.RArm, RGuard.RGuard}
use Rattle.lil_report.specs.{declared.report.Fault.Fault, Told.{Said, Row, after, pure, walk}, Laws.{said_to, said_after, said_map, said_as, said_value, walk_map}}
use Rattle.lil_scope.specs.declared.{env.Env.Env, thing.Kind.Kind}
use Rattle.lil_kinds.specs.declared.found.Found.{Found}
use Rattle.lil_check_value.specs.{declared.names.Looked.Looked, Looks.look, Values.{means, variable_means, call_means}}
use Rattle.lil_check_stmt.specs.{declared.{labels.Labels.Labels, counting.{Counter.Counter, Count.Count}}, Labels.{tag_of, with_label, label_step, labels_mean}, Counting.{counter_node, start_node, limit_node, step_node, step_means, count_of, count_means, counted}}
use Rattle.lil_check_stmt.specs.Nodes.{return_node, assign_node, record_node, exit_node}
use Rattle.lil_check_stmt.specs.Statements.{guard_of, conditional, repeated_while, repeated_until, looped, result_at, return_means, behind, no_arms, Meaning, GuardMeaning, ArmMeaning, list_step, list_means, else_means, guards_step, guards_mean, arms_step, arms_mean, condition_means, selector_means, kind_of, within, selected, with_record, with_arm, statement_layer, guard_layer, arm_layer, statement_means, guard_means, arm_means, statement_step, statements_mean, behind_else, guard_step, arm_step}
use Rattle.lil_check_stmt.specs.declared.{nodes.Opened.Opened, labels.Arms.Arms}
use Rattle.lil_language.specs.declared.tree.Stmt.TheVariants as st
use Rattle.lil_language.specs.declared.tree.Stmt.TheOpen as layer
use Rattle.lil_types.specs.{declared.table.Span.Span, Types.Table}
use Rattle.lil_check_type.specs.Labels.{label_means}

-- ---- what labels, the head of a FOR and a RETURN mean, from what their parts mean

-- of what a call gave, when it gave something
pub is_given : {A E : Type 0} {r : Result A E} {a : A} (P : A → Type 0) → r ≡ Ok a → IfOk r P → P a
is_given P is h = subst (λ r. IfOk r P) is h

pub on_ok : {A E : Type 0} (P Q : A → Type 0) (r : Result A E) → ((a : A) → P a → Q a) → IfOk r P → IfOk r Q
on_ok P Q (Ok a) more h = more a h
on_ok P Q (Err e) more h = h

pub is_label : (e : Env) (k : Option Kind) (ls : Labels) (of : Range) (n : Option ℕ) {o : Option Span} {more : Labels} {r s : Option Fault} → n ≡ tag_of e.types k → Said (label_means e n ls.seen of) r o s → more ≡ with_label ls o
    → Said (label_step e k ls of) r more s
is_label e k ls of n {o = o} {r = r} {s = s} tag h value = said_to (said_map (with_label ls) (subst (λ n. Said (label_means e n ls.seen of) r o s) tag h)) value

pub is_count : (e : Env) (h : ForHead) {x : Looked} {c : Option Counter} {a b : Option Found} {from to : Option RExpr} {n : Option ℤ} {o : Option Count} {r s t u v w y : Option Fault} → x ≡ look e h.variable.name
    → Said (counter_node e h.variable.place x) r c s → Said (means e h.from) s a t → Said (start_node e.types h.becomes c a) t from u → Said (means e h.to) u b v → Said (limit_node e.types c b) v to w → Said (step_means e h.by) w n y
    → o ≡ count_of c from to n → Said (count_means e h) r o y
unfolding count_means
is_count e h {c = c} {from = from} {to = to} {r = r} {s = s} found i j k l m n value = said_after _ _ (subst (λ x. Said (counter_node e h.variable.place x) r c s) found i)
    (said_after _ _ j (said_after _ _ k (said_after _ _ l (said_after _ _ m (said_to (said_map (count_of c from to) n) value)))))

pub is_step : (e : Env) (by : Option Expr) (x : Expr) {a : Option Found} {n : Option ℤ} {r s t : Option Fault} → by ≡ Some x → Said (means e x) r a t → Said (step_node a) t n s → Said (step_means e by) r n s
is_step e by x {n = n} {r = r} {s = s} some h k = subst (λ z. Said (step_means e z) r n s) (sym some) (said_after _ _ h k)

-- ---- RETURN
module _ (e : Env) (p : Place) (of : Option Expr) {q : Option ℕ} {o : Option RStmt} {r s : Option Fault} where
  pub is_value : (x : Expr) {v : Option Found} {t : Option Fault} → of ≡ Some x → Said (means e x) r v t → q ≡ result_at e → Said (return_node e.types p q v) t o s → Said (return_means e p of) r o s
  is_value x {v = v} {t = t} some h at k = subst (λ z. Said (return_means e p z) r o s) (sym some) (said_after _ _ h (subst (λ q. Said (return_node e.types p q v) t o s) at k))

rolled : (x : Stmt-F Stmt Arm Guard) → statement_means (roll-Stmt x) ≡ statement_layer (map-Stmt Stmt Arm Guard Meaning ArmMeaning GuardMeaning statement_means arm_means guard_means x)
unfolding statement_means arm_means guard_means
rolled = fold-roll-Stmt Meaning ArmMeaning GuardMeaning statement_layer arm_layer guard_layer

-- ---- lists
list_is : (e : Env) (l : Bool) (xs : List Stmt) → list_means e l (map statement_means xs) ≡ statements_mean e l xs
unfolding statements_mean
list_is e l xs = walk_map (list_step e l) statement_means (Some []) xs

guards_are : (e : Env) (l : Bool) (gs : List Guard) → guards_mean e l (map guard_means gs) ≡ walk (guard_step e l) (Some []) gs
guards_are e l gs = walk_map (guards_step e l) guard_means (Some []) gs

arms_are : (e : Env) (l : Bool) (k : Option Kind) (bs : List Arm) → arms_mean e l k (map arm_means bs) ≡ walk (arm_step e l k) no_arms bs
arms_are e l k bs = walk_map (arms_step e l k) arm_means no_arms bs

else_is : (e : Env) (l : Bool) (xs : List Stmt) → else_means e l (Some (map statement_means xs)) ≡ behind_else e l (Some xs)
else_is e l xs = λ j. after (list_is e l xs j) (λ ss. pure (behind ss))

-- ---- each form
module _ (e : Env) (l : Bool) where
  at : {f g : Meaning} → f ≡ g → f e l ≡ g e l
  at h = ap (λ (f : Meaning). f e l) h

  assign_is : (d : Designator) (p : Place) (x : Expr) → statement_means (st.Assign d p x) e l ≡ after (variable_means e d) (λ a. after (means e x) (λ v. assign_node e.types p a v))
  assign_is d p x = at (ap statement_means (sym (st.rolls-Assign d p x)) ∙ rolled (layer.Assign d p x))

  call_is : (d : Designator) (xs : List Expr) → statement_means (st.Call d xs) e l ≡ call_means e d xs
  call_is d xs = at (ap statement_means (sym (st.rolls-Call d xs)) ∙ rolled (layer.Call d xs))

  if_is : (p : Place) (gs : List Guard) (other : Option (List Stmt)) → statement_means (st.If p gs other) e l ≡ after (walk (guard_step e l) (Some []) gs) (λ gs. after (behind_else e l other) (λ ss. pure (conditional gs ss)))
  if_is p gs None = at (ap statement_means (sym (st.rolls-If p gs None)) ∙ rolled (layer.If p gs None))
      ∙ (λ j. after (guards_are e l gs j) (λ gs. after (behind_else e l None) (λ ss. pure (conditional gs ss))))
  if_is p gs (Some xs) = at (ap statement_means (sym (st.rolls-If p gs (Some xs))) ∙ rolled (layer.If p gs (Some xs)))
      ∙ (λ j. after (guards_are e l gs j) (λ gs. after (else_is e l xs j) (λ ss. pure (conditional gs ss))))

  case_is : (p : Place) (x : Expr) (bs : List Arm) (other : Option (List Stmt)) → statement_means (st.Case p x bs other) e l
      ≡ after (selector_means e x) (λ v. after (walk (arm_step e l (kind_of v)) no_arms bs) (λ bs. after (behind_else e l other) (λ ss. pure (selected e.types v bs.arms ss))))
  case_is p x bs None = at (ap statement_means (sym (st.rolls-Case p x bs None)) ∙ rolled (layer.Case p x bs None))
      ∙ (λ j. after (selector_means e x) (λ v. after (arms_are e l (kind_of v) bs j) (λ bs. after (behind_else e l None) (λ ss. pure (selected e.types v bs.arms ss)))))
  case_is p x bs (Some xs) = at (ap statement_means (sym (st.rolls-Case p x bs (Some xs))) ∙ rolled (layer.Case p x bs (Some xs)))
      ∙ (λ j. after (selector_means e x) (λ v. after (arms_are e l (kind_of v) bs j) (λ bs. after (else_is e l xs j) (λ ss. pure (selected e.types v bs.arms ss)))))

  while_is : (p : Place) (x : Expr) (xs : List Stmt) → statement_means (st.While p x xs) e l ≡ after (condition_means e x) (λ c. after (statements_mean e l xs) (λ ss. pure (repeated_while c ss)))
  while_is p x xs = at (ap statement_means (sym (st.rolls-While p x xs)) ∙ rolled (layer.While p x xs)) ∙ (λ j. after (condition_means e x) (λ c. after (list_is e l xs j) (λ ss. pure (repeated_while c ss))))

  repeat_is : (p : Place) (xs : List Stmt) (x : Expr) → statement_means (st.Repeat p xs x) e l ≡ after (statements_mean e l xs) (λ ss. after (condition_means e x) (λ c. pure (repeated_until ss c)))
  repeat_is p xs x = at (ap statement_means (sym (st.rolls-Repeat p xs x)) ∙ rolled (layer.Repeat p xs x)) ∙ (λ j. after (list_is e l xs j) (λ ss. after (condition_means e x) (λ c. pure (repeated_until ss c))))

  loop_is : (p : Place) (xs : List Stmt) → statement_means (st.Loop p xs) e l ≡ after (statements_mean e true xs) (λ ss. pure (looped ss))
  loop_is p xs = at (ap statement_means (sym (st.rolls-Loop p xs)) ∙ rolled (layer.Loop p xs)) ∙ (λ j. after (list_is e true xs j) (λ ss. pure (looped ss)))

  for_is : (p : Place) (h : ForHead) (xs : List Stmt) → statement_means (st.For p h xs) e l ≡ after (count_means e h) (λ c. after (statements_mean e l xs) (λ ss. pure (counted c ss)))
  for_is p h xs = at (ap statement_means (sym (st.rolls-For p h xs)) ∙ rolled (layer.For p h xs)) ∙ (λ j. after (count_means e h) (λ c. after (list_is e l xs j) (λ ss. pure (counted c ss))))

  with_is : (p : Place) (d : Designator) (xs : List Stmt) → statement_means (st.With p d xs) e l
      ≡ after (variable_means e d) (λ a. after (record_node e.types p a) (λ r. after (statements_mean (within r e) l xs) (λ ss. pure (with_record r ss))))
  with_is p d xs = at (ap statement_means (sym (st.rolls-With p d xs)) ∙ rolled (layer.With p d xs))
      ∙ (λ j. after (variable_means e d) (λ a. after (record_node e.types p a) (λ r. after (list_is (within r e) l xs j) (λ ss. pure (with_record r ss)))))

  exit_is : (p : Place) → statement_means (st.Exit p) e l ≡ exit_node p l
  exit_is p = at (ap statement_means (sym (st.rolls-Exit p)) ∙ rolled (layer.Exit p))

  return_is : (p : Place) (o : Option Expr) → statement_means (st.Return p o) e l ≡ return_means e p o
  return_is p None = at (ap statement_means (sym (st.rolls-Return p None)) ∙ rolled (layer.Return p None))
  return_is p (Some x) = at (ap statement_means (sym (st.rolls-Return p (Some x))) ∙ rolled (layer.Return p (Some x)))

  guard_is : (g : Guard) → guard_means g e l ≡ after (condition_means e g.condition) (λ c. after (statements_mean e l g.body) (λ ss. pure (guard_of c ss)))
  unfolding statement_means arm_means guard_means
  guard_is g = ap (λ (f : GuardMeaning). f e l) (fold-roll-Guard Meaning ArmMeaning GuardMeaning statement_layer arm_layer guard_layer (record { condition = g.condition; body = g.body }))
      ∙ (λ j. after (condition_means e g.condition) (λ c. after (list_is e l g.body j) (λ ss. pure (guard_of c ss))))

  arm_is : (k : Option Kind) (out : Arms) (a : Arm) → arm_means a e l k out ≡ after (labels_mean e k out.seen a.labels) (λ ls. after (statements_mean e l a.body) (λ ss. pure (with_arm out.arms ls ss)))
  unfolding statement_means arm_means guard_means
  arm_is k out a = ap (λ (f : ArmMeaning). f e l k out) (fold-roll-Arm Meaning ArmMeaning GuardMeaning statement_layer arm_layer guard_layer (record { labels = a.labels; body = a.body }))
      ∙ (λ j. after (labels_mean e k out.seen a.labels) (λ ls. after (list_is e l a.body j) (λ ss. pure (with_arm out.arms ls ss))))

pub selected_as : (t : Table) {o : Option RStmt} {p q : Option Found × Option (List RArm)} (ss : Option (Option (List RStmt))) → p ≡ q → o ≡ selected t p.0 p.1 ss → o ≡ selected t q.0 q.1 ss
selected_as t ss same value = value ∙ ap (λ (p : Option Found × Option (List RArm)). selected t p.0 p.1 ss) same

-- ---- as the code has them
module _ (e : Env) (l : Bool) {r : Option Fault} where
  module _ {of : Stmt} {o : Option RStmt} where
    as_is : {x : Stmt} {m : Option RStmt × List Row} {s : Option Fault} → of ≡ x → statement_means x e l ≡ m → Said m r o s → Said (statement_means of e l) r o s
    as_is is meant h = said_as (ap (λ (x : Stmt). statement_means x e l) is ∙ meant) h

    pub is_assign : (d : Designator) (p : Place) (x : Expr) {s : Option Fault} → of ≡ st.Assign d p x → Said (after (variable_means e d) (λ a. after (means e x) (λ v. assign_node e.types p a v))) r o s → Said (statement_means of e l) r o s
    is_assign d p x is h = as_is is (assign_is e l d p x) h

    pub is_call : (d : Designator) (xs : List Expr) {s : Option Fault} → of ≡ st.Call d xs → Said (call_means e d xs) r o s → Said (statement_means of e l) r o s
    is_call d xs is h = as_is is (call_is e l d xs) h

    pub is_if : (p : Place) (gs given : List Guard) (other : Option (List Stmt)) {f : Env} {cs : Option (List RGuard)} {ss : Option (Option (List RStmt))} {s t : Option Fault} → of ≡ st.If p gs other
        → given ≡ gs → Said (walk (guard_step e l) (Some []) given) r cs t → f ≡ e → Said (behind_else f l other) t ss s → o ≡ conditional cs ss → Said (statement_means of e l) r o s
    is_if p gs given other {cs = cs} {ss = ss} {s = s} {t = t} is these h same k value = as_is is (if_is e l p gs other)
        (said_after _ _ (subst (λ z. Said (walk (guard_step e l) (Some []) z) r cs t) these h) (said_to (said_map (λ ss. conditional cs ss) (subst (λ f. Said (behind_else f l other) t ss s) same k)) value))

    pub is_case : (p : Place) (x : Expr) (bs given : List Arm) (other : Option (List Stmt)) {v : Option Found} {k : Option Kind} {f : Env} {out : Arms} {ss : Option (Option (List RStmt))} {s t u : Option Fault} → of ≡ st.Case p x bs other
        → Said (selector_means e x) r v t → k ≡ kind_of v → given ≡ bs → Said (walk (arm_step e l k) no_arms given) t out u → f ≡ e → Said (behind_else f l other) u ss s → {g : Env} → g ≡ f → o ≡ selected g.types v out.arms ss
        → Said (statement_means of e l) r o s
    is_case p x bs given other {v = v} {k = k} {out = out} {ss = ss} {s = s} {t = t} {u = u} is h kind these m same n {g = g} kept value = as_is is (case_is e l p x bs other)
        (said_after _ _ h (said_after _ _ (subst (λ k. Said (walk (arm_step e l k) no_arms bs) t out u) kind (subst (λ z. Said (walk (arm_step e l k) no_arms z) t out u) these m))
        (said_to (said_map (λ ss. selected e.types v out.arms ss) (subst (λ f. Said (behind_else f l other) u ss s) same n)) (value ∙ ap (λ (g : Env). selected g.types v out.arms ss) (kept ∙ same)))))

    pub is_while : (p : Place) (x : Expr) (xs : List Stmt) {s : Option Fault} → of ≡ st.While p x xs → Said (after (condition_means e x) (λ c. after (statements_mean e l xs) (λ ss. pure (repeated_while c ss)))) r o s → Said (statement_means of e l) r o s
    is_while p x xs is h = as_is is (while_is e l p x xs) h

    pub is_repeat : (p : Place) (xs : List Stmt) (x : Expr) {s : Option Fault} → of ≡ st.Repeat p xs x → Said (after (statements_mean e l xs) (λ ss. after (condition_means e x) (λ c. pure (repeated_until ss c)))) r o s → Said (statement_means of e l) r o s
    is_repeat p xs x is h = as_is is (repeat_is e l p xs x) h

    pub is_loop : (p : Place) (xs : List Stmt) {s : Option Fault} → of ≡ st.Loop p xs → Said (after (statements_mean e true xs) (λ ss. pure (looped ss))) r o s → Said (statement_means of e l) r o s
    is_loop p xs is h = as_is is (loop_is e l p xs) h

    pub is_for : (p : Place) (h : ForHead) (xs : List Stmt) {s : Option Fault} → of ≡ st.For p h xs → Said (after (count_means e h) (λ c. after (statements_mean e l xs) (λ ss. pure (counted c ss)))) r o s → Said (statement_means of e l) r o s
    is_for p head xs is h = as_is is (for_is e l p head xs) h

    pub is_with : (p : Place) (d : Designator) (xs : List Stmt) {s : Option Fault} → of ≡ st.With p d xs
        → Said (after (variable_means e d) (λ a. after (record_node e.types p a) (λ r. after (statements_mean (within r e) l xs) (λ ss. pure (with_record r ss))))) r o s → Said (statement_means of e l) r o s
    is_with p d xs is h = as_is is (with_is e l p d xs) h

    pub is_exit : (p : Place) {s : Option Fault} → of ≡ st.Exit p → Said (exit_node p l) r o s → Said (statement_means of e l) r o s
    is_exit p is h = as_is is (exit_is e l p) h

    pub is_return : (p : Place) (x : Option Expr) {s : Option Fault} → of ≡ st.Return p x → Said (return_means e p x) r o s → Said (statement_means of e l) r o s
    is_return p x is h = as_is is (return_is e l p x) h

  -- of the parts of each
  module _ {o : Option RStmt} where
    pub of_while : (x : Expr) (xs given : List Stmt) {c : Option RExpr} {ss : Option (List RStmt)} {s t : Option Fault} → Said (condition_means e x) r c t → given ≡ xs → Said (statements_mean e l given) t ss s → o ≡ repeated_while c ss
        → Said (after (condition_means e x) (λ c. after (statements_mean e l xs) (λ ss. pure (repeated_while c ss)))) r o s
    of_while x xs given {c = c} {ss = ss} {s = s} {t = t} h these k value = said_after _ _ h (said_to (said_map (repeated_while c) (subst (λ z. Said (statements_mean e l z) t ss s) these k)) value)

    pub of_repeat : (xs given : List Stmt) (x : Expr) {f : Env} {c : Option RExpr} {ss : Option (List RStmt)} {s t : Option Fault} → given ≡ xs → Said (statements_mean e l given) r ss t → f ≡ e → Said (condition_means f x) t c s → o ≡ repeated_until ss c
        → Said (after (statements_mean e l xs) (λ ss. after (condition_means e x) (λ c. pure (repeated_until ss c)))) r o s
    of_repeat xs given x {c = c} {ss = ss} {s = s} {t = t} these h same k value =
        said_after _ _ (subst (λ z. Said (statements_mean e l z) r ss t) these h) (said_to (said_map (repeated_until ss) (subst (λ f. Said (condition_means f x) t c s) same k)) value)

    pub of_loop : (xs given : List Stmt) {ss : Option (List RStmt)} {s : Option Fault} → given ≡ xs → Said (statements_mean e true given) r ss s → o ≡ looped ss → Said (after (statements_mean e true xs) (λ ss. pure (looped ss))) r o s
    of_loop xs given {ss = ss} {s = s} these h value = said_to (said_map looped (subst (λ z. Said (statements_mean e true z) r ss s) these h)) value

    pub of_for : (h : ForHead) (xs given : List Stmt) {c : Option Count} {ss : Option (List RStmt)} {s t : Option Fault} → Said (count_means e h) r c t → given ≡ xs → Said (statements_mean e l given) t ss s → o ≡ counted c ss
        → Said (after (count_means e h) (λ c. after (statements_mean e l xs) (λ ss. pure (counted c ss)))) r o s
    of_for head xs given {c = c} {ss = ss} {s = s} {t = t} h these k value = said_after _ _ h (said_to (said_map (counted c) (subst (λ z. Said (statements_mean e l z) t ss s) these k)) value)

    pub of_with : (p : Place) (d : Designator) (xs given : List Stmt) {a : Option Found} {v : Option Opened} {f : Env} {ss : Option (List RStmt)} {s t u : Option Fault}
        → Said (variable_means e d) r a t → Said (record_node e.types p a) t v u → f ≡ within v e → given ≡ xs → Said (statements_mean f l given) u ss s → o ≡ with_record v ss
        → Said (after (variable_means e d) (λ a. after (record_node e.types p a) (λ r. after (statements_mean (within r e) l xs) (λ ss. pure (with_record r ss))))) r o s
    of_with p d xs given {v = v} {f = f} {ss = ss} {s = s} {u = u} h k enters these m value =
        said_after _ _ h (said_after _ _ k (said_to (said_map (with_record v) (subst (λ f. Said (statements_mean f l xs) u ss s) enters (subst (λ z. Said (statements_mean f l z) u ss s) these m))) value))

  -- without ELSE, and with it
  pub no_else : {other : Option (List Stmt)} → other ≡ None → Said (behind_else e l other) r (Some None) r
  no_else none = subst (λ z. Said (behind_else e l z) r (Some None) r) (sym none) (said_value refl)

  pub is_else : (xs given : List Stmt) {other : Option (List Stmt)} {ss : Option (List RStmt)} {s : Option Fault} → other ≡ Some xs → given ≡ xs → Said (statements_mean e l given) r ss s → Said (behind_else e l other) r (behind ss) s
  is_else xs given {ss = ss} {s = s} some these h = subst (λ z. Said (behind_else e l z) r (behind ss) s) (sym some) (said_map behind (subst (λ z. Said (statements_mean e l z) r ss s) these h))

  pub is_guard : (g : Guard) (given : List Stmt) {c : Option RExpr} {ss : Option (List RStmt)} {o : Option RGuard} {s t : Option Fault} → Said (condition_means e g.condition) r c t → given ≡ g.body → Said (statements_mean e l given) t ss s
      → o ≡ guard_of c ss → Said (guard_means g e l) r o s
  is_guard g given {c = c} {ss = ss} {s = s} {t = t} h these k value = said_as (guard_is e l g)
      (said_after _ _ h (said_to (said_map (guard_of c) (subst (λ z. Said (statements_mean e l z) t ss s) these k)) value))

  pub is_arm : (k : Option Kind) (out : Arms) (a : Arm) (labels : List Range) (given : List Stmt) {ls : Labels} {ss : Option (List RStmt)} {new : Arms} {s t : Option Fault} → labels ≡ a.labels → Said (labels_mean e k out.seen labels) r ls t
      → given ≡ a.body → Said (statements_mean e l given) t ss s → new ≡ with_arm out.arms ls ss → Said (arm_means a e l k out) r new s
  is_arm k out a labels given {ls = ls} {ss = ss} {s = s} {t = t} these h those m value = said_as (arm_is e l k out a)
      (said_after _ _ (subst (λ z. Said (labels_mean e k out.seen z) r ls t) these h) (said_to (said_map (with_arm out.arms ls) (subst (λ z. Said (statements_mean e l z) t ss s) those m)) value))

  -- one more, where nothing around has changed
  pub is_statement : (out : Option (List RStmt)) (x : Stmt) {f : Env} {o : Option RStmt} {more : Option (List RStmt)} {s : Option Fault} → f ≡ e → Said (statement_means x f l) r o s → more ≡ joined out o → Said (statement_step e l out x) r more s
  is_statement out x {o = o} {s = s} same h value = said_to (said_map (joined out) (subst (λ f. Said (statement_means x f l) r o s) same h)) value

  pub is_guard_more : (out : Option (List RGuard)) (x : Guard) {f : Env} {o : Option RGuard} {more : Option (List RGuard)} {s : Option Fault} → f ≡ e → Said (guard_means x f l) r o s → more ≡ joined out o → Said (guard_step e l out x) r more s
  is_guard_more out x {o = o} {s = s} same h value = said_to (said_map (joined out) (subst (λ f. Said (guard_means x f l) r o s) same h)) value

  pub is_arm_more : (k : Option Kind) (out : Arms) (x : Arm) {f : Env} {more : Arms} {s : Option Fault} → f ≡ e → Said (arm_means x f l k out) r more s → Said (arm_step e l k out x) r more s
  is_arm_more k out x {more = more} {s = s} same h = subst (λ f. Said (arm_means x f l k out) r more s) same h

  pub is_statements : (xs : List Stmt) {out : Option (List RStmt)} {s : Option Fault} → Said (walk (statement_step e l) (Some []) xs) r out s → Said (statements_mean e l xs) r out s
  unfolding statements_mean
  is_statements xs h = h
