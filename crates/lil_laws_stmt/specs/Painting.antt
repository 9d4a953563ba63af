-- Words from one place to another that come to another owner, or become others.
use Rattle.std.proofs.Common.{◌≡◌, ℕ, ◌<◌, ◌≤◌, ◌⊎◌, inl, inr, cond, ◌∙◌}
use Rattle.std.specs.Prelude.{nat_lt}
use Rattle.std.proofs.lemmas.Bool.{lt-ltb, le-ltb, cases_lt}
use Rattle.lil_meaning.specs.Items.{Root}
use Rattle.lil_match.specs.{Parts.{yes, no}, Homes.{Of, Own, Fixed, Free}}

pub own_free : (b : ℕ) → Own ≡ Free b → ⊥
own_free b e = cc

pub free_fixed : (b : ℕ) → Free b ≡ Fixed → ⊥
free_fixed b e = cc

pub of_own : (r : Root) → Of r ≡ Own → ⊥
of_own r e = cc

-- a function that is another one from one place to another
abbrev pub painted : {A : Type 0} → (ℕ → A) → ℕ → ℕ → (ℕ → A) → ℕ → A
painted f from to g a = cond (nat_lt a from) (f a) (cond (nat_lt a to) (g a) (f a))

pub painted_there : {A : Type 0} (f : ℕ → A) (from to : ℕ) (g : ℕ → A) (a : ℕ) → from ≤ a → a < to → painted f from to g a ≡ g a
painted_there f from to g a low high = no (nat_lt a from) _ _ (le-ltb a from low) ∙ yes (nat_lt a to) _ _ (lt-ltb a to high)

pub painted_beside : {A : Type 0} (f : ℕ → A) (from to : ℕ) (g : ℕ → A) (a : ℕ) → (a < from) ⊎ ((from ≤ a) × (to ≤ a)) → painted f from to g a ≡ f a
painted_beside f from to g a (inl low) = yes (nat_lt a from) _ _ (lt-ltb a from low)
painted_beside f from to g a (inr high) = no (nat_lt a from) _ _ (le-ltb a from high.0) ∙ no (nat_lt a to) _ _ (le-ltb a to high.1)

-- before, between or behind two places
pub data Side (from to a : ℕ) : Type 0 where
  Before : a < from → Side from to a
  Between : from ≤ a → a < to → Side from to a
  Behind' : from ≤ a → to ≤ a → Side from to a

pub side : (from to a : ℕ) → Side from to a
side from to a = by (cases_lt a from) (cases_lt a to)
  where
    by : (a < from) ⊎ (from ≤ a) → (a < to) ⊎ (to ≤ a) → Side from to a
    by (inl l) z = Before l
    by (inr g) (inl l) = Between g l
    by (inr g) (inr o) = Behind' g o
