-- Induction over the statements of a text: what holds of each form that is made of trees of which it holds, holds of each tree.
use Rattle.std.proofs.Common.{◌≡◌, subst}
use Rattle.lil_language.specs.declared.tree.{Arm.{Arm, roll-Arm}, Guard.{Guard, roll-Guard}, Stmt.{Stmt, TheOpen.{Stmt-F, Arm-F, Guard-F}, TheFolds.{map-Stmt, map-Arm, map-Guard, ind-Stmt, fold-roll-Stmt, fold-roll-Arm, fold-roll-Guard}, TheViews.roll-Stmt}}
use Rattle.lil_check_stmt.specs.Statements.{Meaning, GuardMeaning, ArmMeaning, statement_layer, guard_layer, arm_layer, statement_means, guard_means, arm_means}

-- ---- what a form means comes from what its parts mean
abbrev pub meant : Stmt-F Stmt Arm Guard → Stmt-F Meaning ArmMeaning GuardMeaning
meant = map-Stmt Stmt Arm Guard Meaning ArmMeaning GuardMeaning statement_means arm_means guard_means

abbrev pub arm_meant : Arm-F Stmt Arm Guard → Arm-F Meaning ArmMeaning GuardMeaning
arm_meant = map-Arm Stmt Arm Guard Meaning ArmMeaning GuardMeaning statement_means arm_means guard_means

abbrev pub guard_meant : Guard-F Stmt Arm Guard → Guard-F Meaning ArmMeaning GuardMeaning
guard_meant = map-Guard Stmt Arm Guard Meaning ArmMeaning GuardMeaning statement_means arm_means guard_means

pub statement_rolled : (x : Stmt-F Stmt Arm Guard) → statement_means (roll-Stmt x) ≡ statement_layer (meant x)
unfolding statement_means arm_means guard_means
statement_rolled = fold-roll-Stmt Meaning ArmMeaning GuardMeaning statement_layer arm_layer guard_layer

pub arm_rolled : (x : Arm-F Stmt Arm Guard) → arm_means (roll-Arm x) ≡ arm_layer (arm_meant x)
unfolding statement_means arm_means guard_means
arm_rolled = fold-roll-Arm Meaning ArmMeaning GuardMeaning statement_layer arm_layer guard_layer

pub guard_rolled : (x : Guard-F Stmt Arm Guard) → guard_means (roll-Guard x) ≡ guard_layer (guard_meant x)
unfolding statement_means arm_means guard_means
guard_rolled = fold-roll-Guard Meaning ArmMeaning GuardMeaning statement_layer arm_layer guard_layer

-- ---- trees, each with its proof
module _ {P : Stmt → Type 0} {Q : Arm → Type 0} {R : Guard → Type 0} where
  abbrev pub bare : Stmt-F ((x : Stmt) × P x) ((a : Arm) × Q a) ((g : Guard) × R g) → Stmt-F Stmt Arm Guard
  bare = map-Stmt _ _ _ Stmt Arm Guard (λ x. x.0) (λ a. a.0) (λ g. g.0)

  abbrev pub bare_arm : Arm-F ((x : Stmt) × P x) ((a : Arm) × Q a) ((g : Guard) × R g) → Arm-F Stmt Arm Guard
  bare_arm = map-Arm _ _ _ Stmt Arm Guard (λ x. x.0) (λ a. a.0) (λ g. g.0)

  abbrev pub bare_guard : Guard-F ((x : Stmt) × P x) ((a : Arm) × Q a) ((g : Guard) × R g) → Guard-F Stmt Arm Guard
  bare_guard = map-Guard _ _ _ Stmt Arm Guard (λ x. x.0) (λ a. a.0) (λ g. g.0)

  pub by_forms : ((y : Stmt-F ((x : Stmt) × P x) ((a : Arm) × Q a) ((g : Guard) × R g)) → P (roll-Stmt (bare y)))
      → ((y : Arm-F ((x : Stmt) × P x) ((a : Arm) × Q a) ((g : Guard) × R g)) → Q (roll-Arm (bare_arm y)))
      → ((y : Guard-F ((x : Stmt) × P x) ((a : Arm) × Q a) ((g : Guard) × R g)) → R (roll-Guard (bare_guard y)))
      → (x : Stmt) → P x
  by_forms p q r = ind-Stmt P Q R (λ x y is. subst (λ z. P (roll-Stmt z)) is (p y)) (λ a y is. subst (λ z. Q (roll-Arm z)) is (q y)) (λ g y is. subst (λ z. R (roll-Guard z)) is (r y))
