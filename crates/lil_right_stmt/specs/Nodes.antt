-- The nodes of statements in which no test finds a fault: conditions, the record of a WITH, EXIT, RETURN, and what a CASE selects by with its labels.
use Rattle.std.proofs.Common.{◌≡◌, ℕ, Bool, true, false, not, List, [], ◌∷◌, map, Option, Some, None, if◌then◌else◌, refl, sym, ap, subst, ◌∙◌, arith, true≢false}
use Rattle.std.specs.Option.{option_map}
use Rattle.std.specs.Prelude.{ℤ, pos, ◌&&◌, ◌||◌, int_lt, is_some}
use Rattle.std.proofs.lemmas.Int.{ints}
use Rattle.lil_base.specs.declared.fault.Place.{Place}
use Rattle.lil_types.specs.{Types.{Table, integer, cardinal, boolean, char, base}, Folding.fits, declared.table.Span.Span}
use Rattle.lil_declared.specs.declared.declared.RVar.{RVar}
use Rattle.lil_resolved.specs.{Kinds.{Kind, Scope, OfTruth, is_ordinal, result_here}, Sound.{IsSoundWhole, IsSoundHeld, IsSoundLabel, AreSoundLabels, AreSoundArms}, Resolved.Arms, Views.{case_is, exit_is, return_is, answer_is, kind_view, arm_is, base_view, label_of, armed, else_of, expression_of, place_of}, declared.resolved.{RArm.{RArm, out-RArm}, RBase.RBase, RExpr.RExpr, RLabel.RLabel, RNamed.RNamed, RStmt.RStmt}}
use Rattle.lil_resolved.specs.Views as views
use Rattle.lil_resolved.specs.declared.resolved.RBase.TheVariants as b
use Rattle.lil_shapes.specs.{BaseLaws.{same_sort, number_sound}, Bases.{base_at, kind_at, composite_at}, ListLaws.AllFine}
use Rattle.lil_scope.specs.declared.thing.Kind as scope
use Rattle.lil_scope.specs.declared.thing.Kind.TheVariants as k
use Rattle.lil_kinds.specs.{Forms.{span_of, is_record}, Kinds.{suits, compatible, assignable, misses}, declared.found.{Form.Form, Found.Found, Located.Located}}
use Rattle.lil_kinds.specs.Kinds as Kinds
use Rattle.lil_kinds.specs.declared.found.Form.TheVariants as form
use Rattle.lil_forms.specs.Properties.{Reach}
use Rattle.lil_forms.specs.{Scopes.Fits, Soundness.{Lies, soundness, composite_there}, StatementSound.{StatementSound, AllSound, body_sound, made_sound}, Values.{typed_by, typed, returned}}
use Rattle.lil_right_type.specs.{Found.{GoesWith, IsPlaced, IsFound, ResultTold}, Parts.{base_itself, record_is}, Right.{Right, IsThere, is_so}, Sound.{whole_sound, stored_sound}, Typed.{Yields, Stores, mapped, kind_yields, suits_yields, assignable_stores}, Types.{IsTold, ordinal_is}}
use Rattle.lil_check_type.specs.Bounds.{whole_type, type_below}
use Rattle.lil_check_stmt.specs.{Labels.as_label, Nodes.{is_truth, condition_node, selector_node, is_record_kind, opening, record_node, exit_node, end_node, answer, return_node}, Statements.{selected_by, selector_type, selector_value, within}}
use Rattle.lil_right_sort.specs.Ranges.{Numbered, node_right}
use Rattle.lil_right_stmt.specs.Assignments.{equal}

-- ---- EXIT and RETURN
pub exit_right : (ts : Scope) (p : Place) (looping : Bool) → Right (IsThere (StatementSound ts looping)) (exit_node p looping)
unfolding exit_node
exit_right ts p looping clear = made_sound ts looping _ _ exit_is (is_so looping clear.0)

-- what the procedure at hand returns, by the type of its result
abbrev pub Returns : Table → Scope → Option ℕ → Type 0
Returns t ts r = (result_here ts ≡ returned t r) × ResultTold t r

pub end_right : (t : Table) (ts : Scope) (looping : Bool) (p : Place) (result : Option ℕ) → Returns t ts result → Right (IsThere (StatementSound ts looping)) (end_node p result)
unfolding end_node
end_right t ts looping p None h clear = made_sound ts looping _ _ return_is h.0
end_right t ts looping p (Some r) h clear = absurd (true≢false clear.0)

-- ---- records to which the check gives no name outside of it: what a function takes, or a value is
abbrev pub Taken : {A B : Type 0} → (Option A → B) → Type 0
Taken {A} f = A

abbrev pub First : {A B : Type 0} → (A → B) → Type 0
First {A} f = A

abbrev pub TypeOf : {A : Type 0} → A → Type 0
TypeOf {A} x = A

-- ---- what a CASE selects by, and all its labels beside it: values of a type whose base has numbers
pub record Selects (t : Table) (kind : scope.Kind) : Type 0 where
  pub sort : ℕ
  pub over : RBase
  pub at : base_at t (base t sort) ≡ Some over
  pub ordinal : is_ordinal (base_view over) ≡ true
  pub own : suits t sort kind ≡ true
  pub typed : (f : Form) → typed_by t (selector_type kind) kind f ≡ typed_by t sort kind f
  pub below : ℕ
  pub tag : type_below t kind ≡ Some below
  pub under : base_at t (base t below) ≡ Some over

-- a label whose ends are numbers of a base, and isn't empty
abbrev pub IsLabel : RBase → RLabel → Type 0
IsLabel g l = IsSoundLabel (base_view g) (label_of l)

below_integers : (z : ℤ) → int_lt z (pos 0) ≡ true → not (int_lt (pos 32767) z) ≡ true
below_integers z h = grind (arith, ints)

-- what its values are
pub as_sound : (g : RBase) (o : Option Span) → IsThere (Numbered g) o → IsThere (IsLabel g) (as_label o)
as_sound g None h = absurd h
as_sound g (Some s) h =
    let low = number_sound g s.low h.low in
    let high = number_sound g s.high h.high in
    record { order = h.ordered; lower = low.0; upper = high.0; lower_number = low.1; upper_number = high.1 }

-- ---- arms
module _ (ts : Scope) (looping : Bool) (g : RBase) where
  -- its labels are those of a base, and its statements are sound
  abbrev pub IsArm : RArm → Type 0
  IsArm a = AreSoundLabels (base_view g) (map label_of (out-RArm a).labels) × AllSound ts looping (out-RArm a).body

  pub labels_sound : (ls : List RLabel) → AllFine (IsLabel g) ls → AreSoundLabels (base_view g) (map label_of ls)
  labels_sound [] h = tt
  labels_sound (l ∷ ls) h = (h.0, labels_sound ls h.1)

  arms_sound : (arms : List RArm) (other : Arms) → AllFine IsArm arms → AreSoundArms ts looping (base_view g) other → AreSoundArms ts looping (base_view g) (armed (map views.arm_of arms) other)
  arms_sound [] other h j = j
  arms_sound (a ∷ rest) other h j = subst (AreSoundArms ts looping (base_view g)) (sym (arm_is a (armed (map views.arm_of rest) other))) (h.0.0, body_sound ts looping (out-RArm a).body h.0.1, arms_sound rest other h.1 j)

-- what stands behind ELSE, if anything does
abbrev pub OtherSound : Scope → Bool → Option (List RStmt) → Type 0
OtherSound ts looping None = Unit {0}
OtherSound ts looping (Some xs) = AllSound ts looping xs

else_sound : (ts : Scope) (looping : Bool) (k : Kind) (other : Option (List RStmt)) → OtherSound ts looping other → AreSoundArms ts looping k (else_of other)
else_sound ts looping k None h = tt
else_sound ts looping k (Some xs) h = body_sound ts looping xs h

module _ (t : Table) (told : IsTold t) where
  -- ---- conditions
  truth_suits : (kind : scope.Kind) → is_truth t kind ≡ true → suits t boolean kind ≡ true
  unfolding suits
  truth_suits (k.Of s) h = equal boolean (base t s) (sym (same_sort (base t s) boolean h))
  truth_suits (k.Scalar s w) h = equal boolean (base t s) (sym (same_sort (base t s) boolean h))
  truth_suits _ h = cc

  -- ---- CASE
  selects_span : (s : ℕ) (kind : scope.Kind) (below : ℕ) → is_some (span_of t s) ≡ true → suits t s kind ≡ true → ((f : Form) → typed_by t (selector_type kind) kind f ≡ typed_by t s kind f)
      → type_below t kind ≡ Some below → ((g : RBase) → base_at t (base t s) ≡ Some g → base_at t (base t below) ≡ Some g) → Selects t kind
  selects_span s kind below some own typed tag under = by (span_of t s) refl some
    where
      by : (o : Option Span) → span_of t s ≡ o → is_some o ≡ true → Selects t kind
      by None is some = cc
      by (Some u) is some = let o = ordinal_is t told s u is in record { sort = s; over = o.kind.base; at = o.base; ordinal = o.ordinal; own = own; typed = typed; below = below; tag = tag; under = under o.kind.base o.base }

  -- the base itself is below a type
  itself : (s : ℕ) (g : RBase) → base_at t (base t s) ≡ Some g → base_at t (base t (base t s)) ≡ Some g
  itself s g h = ap (base_at t) (base_itself t told (base t s) g h).0 ∙ h

  same_whole : (z : ℤ) → whole_type z ≡ (if int_lt z (pos 0) then integer else cardinal)
  same_whole z = grind (arith, ints)

  whole_selects : (z : ℤ) (c : Bool) → int_lt z (pos 0) ≡ c → (is_some (span_of t (if c then integer else cardinal)) ≡ true) × (fits (base t (if c then integer else cardinal)) z ≡ true)
  unfolding span_of
  whole_selects z true is = (refl, λ i. below_integers z is i || false)
  whole_selects z false is = (refl, λ i. not (is i))

  selects : (kind : scope.Kind) → Kinds.is_ordinal t kind ≡ true → Selects t kind
  unfolding Kinds.is_ordinal suits compatible span_of
  selects (k.Whole z) h = let both = whole_selects z (int_lt z (pos 0)) refl in selects_span (selector_type (k.Whole z)) (k.Whole z) (selector_type (k.Whole z)) both.0 both.1 (λ f. refl) (ap Some (same_whole z)) (λ g h. h)
  selects (k.Scalar s w) h = selects_span s (k.Scalar s w) (base t s) h (equal (base t s) (base t s) refl) (λ f. refl) refl (itself s)
  selects (k.Chars c) h = selects_span char (k.Chars c) char refl (λ i. h i && true) (λ f. refl) refl (λ g h. h)
  selects (k.Of s) h = selects_span s (k.Of s) (base t s) h (equal (base t s) (base t s) refl) (λ f. refl) refl (itself s)
  selects _ h = cc

module _ {t : Table} {vs : RNamed → Option RVar} {around : List ℕ} {R : Reach} {ts : Scope} (fits : Fits t vs around R ts) (told : IsTold t) where
  -- ---- RETURN of a value: that of a function
  pub return_right : (looping : Bool) (p : Place) (result : Option ℕ) (v : Found) → Returns t ts result → IsFound (soundness fits) v → Right (IsThere (StatementSound ts looping)) (return_node t p result (Some v))
  unfolding return_node
  return_right looping p None v r h clear = absurd (true≢false clear.0)
  return_right looping p (Some s) v r h clear =
      by (typed t s v) (assignable_stores (soundness fits) told s r.1.0 v r.1.1 h (is_so (assignable t s v.kind) clear.0) clear.1.0)
    where
      by : (o : Option RExpr) → IsThere (Stores (soundness fits) r.1.0 v.depth) o → IsThere (StatementSound ts looping) (answer (kind_at t s) o)
      by None y = absurd y
      by (Some x) y = subst (λ k. IsThere (StatementSound ts looping) (answer k (Some x))) (sym r.1.1)
          (made_sound ts looping _ _ (answer_is r.1.0 x) (r.0 ∙ ap (option_map kind_view) r.1.1, stored_sound fits v.depth h.few r.1.0 x y))

  -- ---- conditions
  abbrev pub IsCondition : RExpr → Type 0
  IsCondition x = IsSoundWhole ts (expression_of x) OfTruth

  pub condition_right : (a : Found) → IsFound (soundness fits) a → Right (IsThere IsCondition) (condition_node t (Some a))
  unfolding condition_node
  condition_right a h clear =
      mapped (Yields (soundness fits) b.Truth a.depth) IsCondition (typed t boolean a) (whole_sound fits a.depth h.few b.Truth) (suits_yields (soundness fits) told boolean b.Truth a refl h (truth_suits t told a.kind (is_so (is_truth t a.kind) clear.0)))

  -- ---- WITH: the record is there
  abbrev pub Opens : ℕ → Located → Type 0
  Opens s p = Lies fits p × (p.sort ≡ s) × IsSoundHeld ts (place_of p.place)

  abbrev pub IsOpened : Taken within → Type 0
  IsOpened r = IsThere (Opens r.sort) r.place

  pub record_right : (at : Place) (a : Found) → IsFound (soundness fits) a → IsPlaced a.kind a.form → Right (IsThere IsOpened) (record_node t at (Some a))
  unfolding record_node
  record_right at a h located = node_right IsOpened (record_node t at (Some a)).1 (opening a.kind a.form) (λ clear. by a.kind a.form h.form located clear.0)
    where
      by : (kind : scope.Kind) (f : Form) → GoesWith (soundness fits) a.depth kind f → IsPlaced kind f → not (is_record_kind t kind) ≡ false → IsThere IsOpened (opening kind f)
      by (k.Of s) (form.Located p) goes located is = (
        goes.good,
        goes.sort,
        record { there = composite_there fits p goes.good (ap (composite_at t) goes.sort ∙ (record_is t told s (is_so (is_record t s) is)).composite); place = goes.good.good; shallow = omega (arith, goes.deep, h.few) },
      )
      by (k.Of s) _ goes located is = absurd located
      by _ f goes located is = cc

  -- ---- CASE
  pub selector_right : (a : Found) → IsFound (soundness fits) a → Right (IsThere (λ a. IsFound (soundness fits) a × Selects t a.kind)) (selector_node t (Some a))
  unfolding selector_node
  selector_right a h = node_right (λ a. IsFound (soundness fits) a × Selects t a.kind) (selector_node t (Some a)).1 (Some a) (λ clear. (h, selects t told a.kind (is_so (Kinds.is_ordinal t a.kind) clear.0)))

  -- a value that is compared by its number, and arms whose labels are numbers of its base
  pub selected_right : (looping : Bool) (a : Found) → IsFound (soundness fits) a → (s : Selects t a.kind) (arms : List RArm) (other : Option (List RStmt)) → AllFine (IsArm ts looping s.over) arms → OtherSound ts looping other
      → IsThere (StatementSound ts looping) (selected_by (selector_value t (Some a)) (Some arms) (Some other))
  unfolding typed
  selected_right looping a h s arms other all behind =
      by (selector_value t (Some a)) (subst (IsThere (Yields (soundness fits) s.over a.depth)) (sym (s.typed a.form)) (kind_yields (soundness fits) told s.sort s.over a.depth a.kind a.form s.at h.kind h.form s.own))
    where
      by : (o : Option RExpr) → IsThere (Yields (soundness fits) s.over a.depth) o → IsThere (StatementSound ts looping) (selected_by o (Some arms) (Some other))
      by None y = absurd y
      by (Some x) y = made_sound ts looping _ _ (case_is x arms other) (
        ap is_ordinal y.0 ∙ s.ordinal,
        record { kind = refl; shallow = omega (arith, y.1, h.few); sound = y.2 },
        subst (λ j. AreSoundArms ts looping j (views.arms_of arms other)) (sym y.0) (arms_sound ts looping s.over arms (else_of other) all (else_sound ts looping (base_view s.over) other behind)),
      )
