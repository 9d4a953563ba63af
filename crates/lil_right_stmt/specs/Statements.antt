-- Statements in which no test finds a fault are there, and sound in what lies in the variables and in the records of the WITHs around: by induction over the text.
use Rattle.std.proofs.Common.{◌≡◌, ℕ, Bool, true, List, [], ◌∷◌, ◌++◌, map, Option, Some, None, refl, sym, subst, ◌∙◌}
use Rattle.lil_base.specs.{Lists.joined, declared.fault.Place.Place}
use Rattle.lil_language.specs.declared.tree.{Expr.Expr, ForHead.ForHead, Range.Range, Arm.Arm, Guard.Guard, Stmt.{Stmt, TheOpen.{Stmt-F, Arm-F, Guard-F}}}
use Rattle.lil_language.specs.declared.tree.Stmt.TheOpen as s
use Rattle.lil_types.specs.declared.table.Span.{Span}
use Rattle.lil_report.specs.Told.{Row, after, pure, walk}
use Rattle.lil_resolved.specs.{Kinds.{Scope, Shape, OfTruth, with_held}, Resolved.{Statements, shape_of}, Sound.{IsSoundWhole, IsSoundBody}, Views.{if_is, while_is, repeat_is, loop_is, inside_is, guard_is, guarded, expression_of, place_of, statements_of}, declared.resolved.{RArm.RArm, RBase.RBase, RGuard.RGuard, RLabel.RLabel, RStmt.RStmt}}
use Rattle.lil_resolved.specs.Views as views
use Rattle.lil_shapes.specs.ListLaws.{AllFine}
use Rattle.lil_scope.specs.{declared.{env.Env.Env, thing.Kind.Kind}}
use Rattle.lil_kinds.specs.declared.found.{Found.Found, Located.Located}
use Rattle.lil_forms.specs.{Scopes.{Fits, fine_more, deeper}, Soundness.soundness, StatementSound.{StatementSound, AllSound, body_sound, made_sound}, Variables.seen}
use Rattle.lil_check_value.specs.{Looks.look, Values.means}
use Rattle.lil_right_type.specs.{Found.{reach, IsFound, IsPlaced, EnvTold}, Right.{Right, IsThere, after_right, walk_right, IsAny}}
use Rattle.lil_check_type.specs.Labels.{label_means}
use Rattle.lil_check_stmt.specs.{Nodes.{condition_node, return_node}, Labels.{tag_of, as_label, label_step, labels_mean, with_label}, Counting.{step_node, step_means, count_means}}
use Rattle.lil_check_stmt.specs.Statements.{conditional, Meaning, GuardMeaning, ArmMeaning, list_means, else_means, guards_mean, no_arms, arms_step, arms_mean, condition_means, selector_means, kind_of, within, result_by, result_at, return_means, selected, with_record, statement_layer, guard_layer, arm_layer, statement_means, guard_means, arm_means, statements_mean}
use Rattle.lil_check_stmt.specs.Induction.{meant, arm_meant, guard_meant, statement_rolled, arm_rolled, guard_rolled, bare, bare_arm, bare_guard, by_forms}
use Rattle.lil_check_stmt.specs.Statements as statements
use Rattle.lil_right_value.specs.{Names.look_told, Values.{means_right, variable_means_right, call_means_right}}
use Rattle.lil_right_sort.specs.{Ranges.Numbered, Labels.label_right}
use Rattle.lil_right_stmt.specs.{Assignments.assign_right, Counting.{IsCounter, IsCount, Starts, Ends, Steps, step_right, counted_right, counter_right, start_right, limit_right, count_right}}
use Rattle.lil_right_stmt.specs.Nodes.{Taken, First, TypeOf, Opens, IsOpened, IsCondition, OtherSound, Selects, IsLabel, IsArm, labels_sound, Returns, exit_right, end_right, return_right, condition_right, record_right, selector_right, selected_right, as_sound}

-- ---- phrases behind a value that is there, and lists of what is there
module _ {A B : Type 0} (P : A → Type 0) (Q : B → Type 0) where
  behind_right : (m : Option A × List Row) (k : Option A → B × List Row) → Right (IsThere P) m → ((a : A) → P a → Right Q (k (Some a))) → Right Q (after m k)
  behind_right m k h g = after_right (IsThere P) Q m k h by
    where
      by : (o : Option A) → IsThere P o → Right Q (k o)
      by None j = absurd j
      by (Some a) j = g a j

joined_right : {A : Type 0} (P : A → Type 0) (xs : Option (List A)) (x : Option A) → IsThere (AllFine P) xs → IsThere P x → IsThere (AllFine P) (joined xs x)
joined_right P None x h j = h
joined_right P (Some xs) None h j = absurd j
joined_right P (Some xs) (Some x) h j = fine_more P xs x h j

module _ {A X : Type 0} (P : A → Type 0) (Q : X → Type 0) (step : X → Option A × List Row) (keeps : (x : X) → Q x → Right (IsThere P) (step x)) where
  list_right : (xs : List X) → AllFine Q xs → Right (IsThere (AllFine P)) (walk (λ out x. after (step x) (λ o. pure (joined out o))) (Some []) xs)
  list_right xs all = walk_right (IsThere (AllFine P)) Q _ (λ out x h j. after_right (IsThere P) (IsThere (AllFine P)) (step x) (λ o. pure (joined out o)) (keeps x j) (λ o i clear. joined_right P out o h i)) (Some []) xs tt all

all_of : {A : Type 0} (P : A → Type 0) (xs : List A) → ((x : A) → P x) → AllFine P xs
all_of P [] h = tt
all_of P (x ∷ xs) h = (h x, all_of P xs h)

-- ---- a condition and the statements behind it
abbrev GuardSound : Scope → Bool → RGuard → Type 0
GuardSound ts looping g = IsSoundWhole ts (expression_of g.condition) OfTruth × AllSound ts looping g.body

module _ (ts : Scope) (looping : Bool) where
  guarded_sound : (gs : List RGuard) (other : Statements) → AllFine (GuardSound ts looping) gs → IsSoundBody ts looping other → IsSoundBody ts looping (guarded (map views.guard_of gs) other)
  guarded_sound [] other h j = j
  guarded_sound (g ∷ gs) other h j = subst (IsSoundBody ts looping) (sym (guard_is g (guarded (map views.guard_of gs) other))) ((h.0.0, body_sound ts looping g.body h.0.1, guarded_sound gs other h.1 j), tt)

  conditional_right : (gs : List RGuard) (other : Option (List RStmt)) → AllFine (GuardSound ts looping) gs → OtherSound ts looping other → IsThere (StatementSound ts looping) (conditional (Some gs) (Some other))
  conditional_right gs None h j = subst (IsSoundBody ts looping) (sym (if_is gs [])) (guarded_sound gs (statements_of []) h tt)
  conditional_right gs (Some ss) h j = subst (IsSoundBody ts looping) (sym (if_is gs ss)) (guarded_sound gs (statements_of ss) h (body_sound ts looping ss j))

-- ---- what the labels and the arms of a CASE are so far, by the base of what it selects by
abbrev AreLabels : RBase → First with_label → Type 0
AreLabels g ls = IsThere (AllFine (IsLabel g)) ls.own

abbrev AreArms : Scope → Bool → RBase → TypeOf no_arms → Type 0
AreArms ts looping g out = IsThere (AllFine (IsArm ts looping g)) out.arms

-- ---- the body of a module, or of a procedure, by what it returns
abbrev pub InBody : Env → Scope → Type 0
InBody e ts = Returns e.types ts (result_at e)

in_with : (e : Env) (ts : Scope) (r : Taken within) (x : Shape) → InBody e ts → InBody (within (Some r) e) (with_held ts x)
in_with e ts r x h = subst (λ o. Returns e.types (with_held ts x) o) (sym (same e.procedure)) (h.0, h.1)
  where
    same : (o : Option ℕ) → result_by (within (Some r) e) o ≡ result_by e o
    same None = refl
    same (Some n) = refl

-- ---- what is right in all surroundings: a statement, or a guard, and an arm behind right ones
abbrev IsRight : {A : Type 0} → (Scope → Bool → A → Type 0) → (Env → Bool → Option A × List Row) → Type 0
IsRight S m = (e : Env) (ts : Scope) → Fits e.types (seen e) e.withs (reach e) ts → EnvTold e → e.waits ≡ [] → InBody e ts → (looping : Bool) → Right (IsThere (S ts looping)) (m e looping)

abbrev IsRightArm : ArmMeaning → Type 0
IsRightArm m = (e : Env) (ts : Scope) → Fits e.types (seen e) e.withs (reach e) ts → EnvTold e → e.waits ≡ [] → InBody e ts → (looping : Bool) (kind : Kind) (s : Selects e.types kind) (out : TypeOf no_arms) → AreArms ts looping s.over out → Right (AreArms ts looping s.over) (m e looping (Some kind) out)

-- ---- trees, each with its proof
abbrev Tree : Type 0
Tree = (x : Stmt) × IsRight StatementSound (statement_means x)

abbrev ArmTree : Type 0
ArmTree = (a : Arm) × IsRightArm (arm_means a)

abbrev GuardTree : Type 0
GuardTree = (g : Guard) × IsRight GuardSound (guard_means g)

module _ {X M : Type 0} (of : X → M) (P : M → Type 0) where
  abbrev meanings : List ((x : X) × P (of x)) → List M
  meanings xs = map of (map (λ x. x.0) xs)

  each : (xs : List ((x : X) × P (of x))) → AllFine P (meanings xs)
  each [] = tt
  each (x ∷ xs) = (x.1, each xs)

abbrev means_of : List Tree → List Meaning
means_of xs = meanings statement_means (IsRight StatementSound) xs

abbrev arms_of : List ArmTree → List ArmMeaning
arms_of xs = meanings arm_means IsRightArm xs

abbrev guards_of : List GuardTree → List GuardMeaning
guards_of xs = meanings guard_means (IsRight GuardSound) xs

module _ (e : Env) (ts : Scope) (fits : Fits e.types (seen e) e.withs (reach e) ts) (told : EnvTold e) (settled : e.waits ≡ []) where
  -- a value, and what stands behind it
  behind_found : {B : Type 0} (Q : B → Type 0) (x : Expr) (k : Option Found → B × List Row) → ((a : Found) → IsFound (soundness fits) a → Right Q (k (Some a))) → Right Q (after (means e x) k)
  behind_found Q x k = behind_right (IsFound (soundness fits)) Q (means e x) k (means_right e (soundness fits) told settled x)

  condition_there : (x : Expr) → Right (IsThere (IsCondition fits told.types)) (condition_means e x)
  condition_there x = behind_found (IsThere (IsCondition fits told.types)) x (condition_node e.types) (condition_right fits told.types)

  -- ---- FOR
  step_there : (o : Option Expr) → Right (IsThere Steps) (step_means e o)
  step_there None = λ clear. refl
  step_there (Some x) = behind_found (IsThere Steps) x step_node (λ a h. step_right a)

  count_there : (h : ForHead) → Right (IsThere (IsCount e fits told)) (count_means e h)
  unfolding count_means
  count_there h =
      behind_right (IsCounter e fits told) (IsThere (IsCount e fits told)) _ _ (counter_right e fits told h.variable.place (look e h.variable.name) (look_told e told h.variable.name)) (λ c counter.
      behind_found (IsThere (IsCount e fits told)) h.from _ (λ a i.
      behind_right (Starts e fits told c counter) (IsThere (IsCount e fits told)) _ _ (start_right e fits told c counter a i h.becomes) (λ x first.
      behind_found (IsThere (IsCount e fits told)) h.to _ (λ d j.
      behind_right (Ends e fits told c counter) (IsThere (IsCount e fits told)) _ _ (limit_right e fits told c counter d j) (λ y last.
      behind_right Steps (IsThere (IsCount e fits told)) _ _ (step_there h.by) (λ z step clear. count_right e fits told c counter x y z first last step))))))

  -- ---- the labels of an arm
  module _ (kind : Kind) (s : Selects e.types kind) where
    -- they go together with a type of that base
    tagged : (before : List Span) (r : Range) → Right (IsThere (Numbered s.over)) (label_means e (tag_of e.types (Some kind)) before r)
    tagged before r = subst (λ o. Right (IsThere (Numbered s.over)) (label_means e o before r)) (sym s.tag) (label_right e told s.below (s.over, s.under, s.ordinal) before r)

    labels_there : (before : List Span) (rs : List Range) → Right (AreLabels s.over) (labels_mean e (Some kind) before rs)
    labels_there before rs =
        walk_right (AreLabels s.over) IsAny (label_step e (Some kind))
        (λ ls r h j. after_right (IsThere (Numbered s.over)) (AreLabels s.over) (label_means e (tag_of e.types (Some kind)) ls.seen r) _ (tagged ls.seen r) (λ o i clear. joined_right (IsLabel s.over) ls.own (as_label o) h (as_sound s.over o i)))
        _ rs tt (all_of IsAny rs (λ r. tt))

-- ---- each form
module _ (e : Env) (ts : Scope) (fits : Fits e.types (seen e) e.withs (reach e) ts) (told : EnvTold e) (settled : e.waits ≡ []) (none : InBody e ts) (looping : Bool) where
  abbrev There : Option RStmt → Type 0
  There = IsThere (StatementSound ts looping)

  -- statements behind others
  behind_body : {B : Type 0} (Q : B → Type 0) (xs : List Tree) (k : Option (List RStmt) → B × List Row) → ((ss : List RStmt) → AllSound ts looping ss → Right Q (k (Some ss))) → Right Q (after (list_means e looping (means_of xs)) k)
  behind_body Q xs k = behind_right (AllSound ts looping) Q (list_means e looping (means_of xs)) k (list_right (StatementSound ts looping) (IsRight StatementSound) (λ m. m e looping) (λ m h. h e ts fits told settled none looping) (means_of xs) (each statement_means (IsRight StatementSound) xs))

  else_there : (xs : List Tree) → Right (IsThere (OtherSound ts looping)) (else_means e looping (Some (means_of xs)))
  else_there xs = behind_body (IsThere (OtherSound ts looping)) xs _ (λ ss all clear. all)

  if_there : (gs : List GuardTree) (other : Option (List Meaning)) → Right (IsThere (OtherSound ts looping)) (else_means e looping other)
      → Right There (after (guards_mean e looping (guards_of gs)) (λ gs. after (else_means e looping other) (λ ss. pure (conditional gs ss))))
  if_there gs other h =
      behind_right (AllFine (GuardSound ts looping)) There _ _ (list_right (GuardSound ts looping) (IsRight GuardSound) (λ m. m e looping) (λ m h. h e ts fits told settled none looping) (guards_of gs) (each guard_means (IsRight GuardSound) gs))
      (λ gs all. behind_right (OtherSound ts looping) There _ _ h (λ ss some clear. conditional_right ts looping gs ss all some))

  case_there : (x : Expr) (xs : List ArmTree) (other : Option (List Meaning)) → Right (IsThere (OtherSound ts looping)) (else_means e looping other)
      → Right There (after (selector_means e x) (λ v. after (arms_mean e looping (kind_of v) (arms_of xs)) (λ out. after (else_means e looping other) (λ ss. pure (selected e.types v out.arms ss)))))
  case_there x xs other h =
      behind_right Selected There _ _ (behind_found e ts fits told settled (IsThere Selected) x _ (selector_right fits told.types)) (λ a i.
      after_right (AreArms ts looping i.1.over) There _ _ (walk_right (AreArms ts looping i.1.over) IsRightArm (arms_step e looping (Some a.kind)) (λ out m h j. j e ts fits told settled none looping a.kind i.1 out h) no_arms (arms_of xs) tt (each arm_means IsRightArm xs)) (λ out arms.
      behind_right (OtherSound ts looping) There _ _ h (λ ss some clear. by a i.0 i.1 out.arms arms ss some)))
    where
      Selected : Found → Type 0
      Selected a = IsFound (soundness fits) a × Selects e.types a.kind

      by : (a : Found) → IsFound (soundness fits) a → (s : Selects e.types a.kind) (o : Option (List RArm)) → IsThere (AllFine (IsArm ts looping s.over)) o → (ss : Option (List RStmt)) → OtherSound ts looping ss → There (selected e.types (Some a) o (Some ss))
      by a h s None arms ss some = absurd arms
      by a h s (Some xs) arms ss some = selected_right fits told.types looping a h s xs ss arms some

  return_there : (p : Place) (o : Option Expr) → Right There (return_means e p o)
  return_there p None = end_right e.types ts looping p (result_at e) none
  return_there p (Some x) = behind_found e ts fits told settled There x _ (λ v h. return_right fits told.types looping p (result_at e) v none h)

-- statements inside of a WITH
with_there : (e : Env) (ts : Scope) (fits : Fits e.types (seen e) e.withs (reach e) ts) (told : EnvTold e) → e.waits ≡ [] → InBody e ts → (looping : Bool) (r : Taken within) (xs : List Tree) → IsOpened fits told.types r
    → Right (IsThere (StatementSound ts looping)) (after (list_means (within (Some r) e) looping (means_of xs)) (λ ss. pure (with_record (Some r) ss)))
with_there e ts fits told settled none looping r xs h = by r.place h
  where
    by : (o : Option Located) → IsThere (Opens fits told.types r.sort) o → Right (IsThere (StatementSound ts looping)) (after (list_means (within (Some r) e) looping (means_of xs)) (λ ss. pure (statements.inside o ss)))
    by None h = absurd h
    by (Some p) h =
        let held = with_held ts (shape_of ts (place_of p.place)) in
        behind_body (within (Some r) e) held (subst (λ s. Fits e.types (seen e) (e.withs ++ s ∷ []) (reach e) held) h.1 (deeper fits p h.0 h.2.there)) (record { types = told.types; words = told.words; names = told.names; homed = told.homed; stands = told.stands }) settled (in_with e ts r (shape_of ts (place_of p.place)) none) looping
        (IsThere (StatementSound ts looping)) xs _ (λ ss all clear. made_sound ts looping _ _ (inside_is p.place ss) (h.2, body_sound held looping ss all))

layer_right : (y : Stmt-F Tree ArmTree GuardTree) → IsRight StatementSound (statement_layer (meant (bare y)))
layer_right (s.Assign d p x) e ts fits told settled none looping =
    behind_right (λ a. IsFound (soundness fits) a × IsPlaced a.kind a.form) (IsThere (StatementSound ts looping)) _ _ (variable_means_right e (soundness fits) told settled d) (λ a h.
    behind_found e ts fits told settled (IsThere (StatementSound ts looping)) x _ (λ v j. assign_right fits told.types looping p a v h.0 h.1 j))
layer_right (s.Call d xs) e ts fits told settled none looping = call_means_right e fits told settled looping d xs
layer_right (s.If p gs None) e ts fits told settled none looping = if_there e ts fits told settled none looping gs None (λ clear. tt)
layer_right (s.If p gs (Some xs)) e ts fits told settled none looping = if_there e ts fits told settled none looping gs (Some (means_of xs)) (else_there e ts fits told settled none looping xs)
layer_right (s.Case p x as' None) e ts fits told settled none looping = case_there e ts fits told settled none looping x as' None (λ clear. tt)
layer_right (s.Case p x as' (Some xs)) e ts fits told settled none looping = case_there e ts fits told settled none looping x as' (Some (means_of xs)) (else_there e ts fits told settled none looping xs)
layer_right (s.While p x xs) e ts fits told settled none looping =
    behind_right (IsCondition fits told.types) (IsThere (StatementSound ts looping)) _ _ (condition_there e ts fits told settled x) (λ c h. behind_body e ts fits told settled none looping (IsThere (StatementSound ts looping)) xs _ (λ ss all clear. made_sound ts looping _ _ (while_is c ss) (h, body_sound ts looping ss all)))
layer_right (s.Repeat p xs x) e ts fits told settled none looping =
    behind_body e ts fits told settled none looping (IsThere (StatementSound ts looping)) xs _ (λ ss all. behind_right (IsCondition fits told.types) (IsThere (StatementSound ts looping)) _ _ (condition_there e ts fits told settled x) (λ c h clear. made_sound ts looping _ _ (repeat_is ss c) (body_sound ts looping ss all, h)))
layer_right (s.Loop p xs) e ts fits told settled none looping = behind_body e ts fits told settled none true (IsThere (StatementSound ts looping)) xs _ (λ ss all clear. made_sound ts looping _ _ (loop_is ss) (body_sound ts true ss all))
layer_right (s.For p h xs) e ts fits told settled none looping =
    behind_right (IsCount e fits told) (IsThere (StatementSound ts looping)) _ _ (count_there e ts fits told settled h) (λ c count. behind_body e ts fits told settled none looping (IsThere (StatementSound ts looping)) xs _ (λ ss all clear. counted_right e fits told looping c ss count all))
layer_right (s.With p d xs) e ts fits told settled none looping =
    behind_right (λ a. IsFound (soundness fits) a × IsPlaced a.kind a.form) (IsThere (StatementSound ts looping)) _ _ (variable_means_right e (soundness fits) told settled d) (λ a h.
    behind_right (IsOpened fits told.types) (IsThere (StatementSound ts looping)) _ _ (record_right fits told.types p a h.0 h.1) (λ r opened. with_there e ts fits told settled none looping r xs opened))
layer_right (s.Exit p) e ts fits told settled none looping = exit_right ts p looping
layer_right (s.Return p None) e ts fits told settled none looping = return_there e ts fits told settled none looping p None
layer_right (s.Return p (Some x)) e ts fits told settled none looping = return_there e ts fits told settled none looping p (Some x)

arm_layer_right : (y : Arm-F Tree ArmTree GuardTree) → IsRightArm (arm_layer (arm_meant (bare_arm y)))
arm_layer_right y e ts fits told settled none looping kind s out h =
    after_right (AreLabels s.over) (AreArms ts looping s.over) _ _ (labels_there e ts fits told settled kind s out.seen y.labels) (λ ls labels.
    behind_body e ts fits told settled none looping (AreArms ts looping s.over) y.body _ (λ ss all clear. joined_right (IsArm ts looping s.over) out.arms _ h (armed ls.own ss labels all)))
  where
    armed : (o : Option (List RLabel)) (ss : List RStmt) → IsThere (AllFine (IsLabel s.over)) o → AllSound ts looping ss → IsThere (IsArm ts looping s.over) (statements.armed o (Some ss))
    armed None ss labels all = labels
    armed (Some ls) ss labels all = (labels_sound ts looping s.over ls labels, all)

guard_layer_right : (y : Guard-F Tree ArmTree GuardTree) → IsRight GuardSound (guard_layer (guard_meant (bare_guard y)))
guard_layer_right y e ts fits told settled none looping =
    behind_right (IsCondition fits told.types) (IsThere (GuardSound ts looping)) _ _ (condition_there e ts fits told settled y.condition) (λ c h. behind_body e ts fits told settled none looping (IsThere (GuardSound ts looping)) y.body _ (λ ss all clear. (h, all)))

-- by induction
statement_right : (x : Stmt) → IsRight StatementSound (statement_means x)
statement_right = by_forms
    (λ y. subst (IsRight StatementSound) (sym (statement_rolled (bare y))) (layer_right y))
    (λ y. subst IsRightArm (sym (arm_rolled (bare_arm y))) (arm_layer_right y))
    (λ y. subst (IsRight GuardSound) (sym (guard_rolled (bare_guard y))) (guard_layer_right y))

pub statements_right : (e : Env) (ts : Scope) → Fits e.types (seen e) e.withs (reach e) ts → EnvTold e → e.waits ≡ [] → InBody e ts → (looping : Bool) (xs : List Stmt) → Right (IsThere (AllSound ts looping)) (statements_mean e looping xs)
unfolding statements_mean
statements_right e ts fits told settled none looping xs =
    list_right (StatementSound ts looping) (λ x. IsRight StatementSound (statement_means x)) (λ x. statement_means x e looping) (λ x h. h e ts fits told settled none looping) xs (all_of (λ x. IsRight StatementSound (statement_means x)) xs statement_right)
