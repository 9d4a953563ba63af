-- Tables where a pointer points to another type in which something lies: all else of their types is as before.
use Rattle.std.proofs.Common.{◌≡◌, ℕ, zero, suc, ◌<◌, ◌≤◌, Bool, true, false, [], ◌∷◌, length, slice_get, Option, Some, None, if◌then◌else◌, refl, sym, subst, ◌∙◌, arith, inl, inr}
use Rattle.std.specs.Prelude.{◌-◌, nat_lt, slice_set}
use Rattle.std.proofs.lemmas.{List.length-set, Option.{none-some, same_Some}}
use Rattle.lil_types.specs.{Types.{Table, entry, aimed_by, aimed, is_pointer}, Adding.next, declared.table.{Facts.Facts, TypeEntry.TypeEntry, TypeForm.{TypeForm, TheVariants.Pointer}}}
use Rattle.lil_scope.specs.declared.env.Env.{Env}
use Rattle.lil_shapes.specs.Pointers.{lies_at}
use Rattle.lil_right_type.specs.{Types.{FormTold, IsTold}, Words.{FormMeasured, AreMeasured}}
use Rattle.lil_right_sort.specs.Growth.{Few, entry_below, Turned, Kept, form_stays, measured_stays, lies_stays, Declared, declared_kept}

-- ---- the pointer that is turned
module _ (to : ℕ) (e : TypeEntry) (a : ℕ) (form : e.form ≡ Pointer a) where
  one_turned : (xs : Table) (i j : ℕ) → slice_get xs i ≡ Some e → Turned to (slice_get xs j) (slice_get (slice_set xs i (record e { form = Pointer to })) j)
  one_turned [] i j is = absurd (none-some e is)
  one_turned (x ∷ xs) zero zero is = inr (e, a, is, form, refl)
  one_turned (x ∷ xs) zero (suc j) is = inl refl
  one_turned (x ∷ xs) (suc i) zero is = inl refl
  one_turned (x ∷ xs) (suc i) (suc j) is = one_turned xs i j is

entry_turned : (t : Table) (p to n : ℕ) → Turned to (entry t n) (entry (aimed t p to) n)
entry_turned t p to n = by (nat_lt p 16) (slice_get t (p - 16)) refl
  where
    low_or : (c : Bool) (o u : Option TypeEntry) → Turned to o u → Turned to (if c then None else o) (if c then None else u)
    low_or true o u h = inl refl
    low_or false o u h = h

    of_form : (e : TypeEntry) (form : TypeForm) → slice_get t (p - 16) ≡ Some e → e.form ≡ form → Turned to (entry t n) (entry (if is_pointer form then slice_set t (p - 16) (record e { form = Pointer to }) else t) n)
    of_form e (Pointer a) is form = low_or (nat_lt n 16) _ _ (one_turned to e a form t (p - 16) (n - 16) is)
    of_form e _ is form = inl refl

    by : (c : Bool) (o : Option TypeEntry) → slice_get t (p - 16) ≡ o → Turned to (entry t n) (entry (if c then t else aimed_by o t (p - 16) to) n)
    by true o is = inl refl
    by false None is = inl refl
    by false (Some e) is = of_form e e.form is refl

same_length : (t : Table) (p to : ℕ) → length (aimed t p to) ≡ length t
same_length t p to = by (nat_lt p 16) (slice_get t (p - 16))
  where
    by : (c : Bool) (o : Option TypeEntry) → length (if c then t else aimed_by o t (p - 16) to) ≡ length t
    by c o = grind (arith, length-set)

module _ (t : Table) (p to : ℕ) where
  abbrev now : Table
  now = aimed t p to

  turned : (n : ℕ) → Turned to (entry t n) (entry now n)
  turned n = entry_turned t p to n

  kept : Kept to t now
  kept = record { below = λ n h. let same : length now ≡ length t = same_length t p to in omega arith; at = λ n h. turned n }

  -- what holds of each type whatever a pointer points to
  module _ (P Q : ℕ → Facts → TypeForm → Type 0) (goes : (n : ℕ) (e : TypeEntry) → entry t n ≡ Some e → P n e.facts e.form → Q n e.facts e.form) (turns : (n : ℕ) (f : Facts) (a : ℕ) → P n f (Pointer a) → Q n f (Pointer to)) where
    all_types : ((n : ℕ) (e : TypeEntry) → entry t n ≡ Some e → P n e.facts e.form) → (n : ℕ) (e : TypeEntry) → entry now n ≡ Some e → Q n e.facts e.form
    all_types told n e is = by (turned n)
      where
        by : Turned to (entry t n) (entry now n) → Q n e.facts e.form
        by (inl h) = let before : entry t n ≡ Some e = sym h ∙ is in goes n e before (told n e before)
        by (inr h) = subst (λ (e : TypeEntry). Q n e.facts e.form) (same_Some _ e (sym h.4 ∙ is)) (turns n h.0.facts h.1 (subst (P n h.0.facts) h.3 (told n h.0 h.2)))

  aimed_told : IsTold t → lies_at t to ≡ true → IsTold now
  aimed_told told there = all_types (FormTold t) (FormTold now) (λ n e is. form_stays t now told kept n e.facts e.form) (λ n f a h. (h.0, h.1, lies_stays t now told kept to there)) told

  aimed_measured : IsTold t → AreMeasured t → AreMeasured now
  aimed_measured told = all_types (λ n f form. FormMeasured t n f form × (f.words ≤ 32000)) (λ n f form. FormMeasured now n f form × (f.words ≤ 32000))
      (λ n e is h. let below : n < next t = entry_below t n e is in (measured_stays t now told kept n e.facts e.form (omega arith) h.0, h.1)) (λ n f a h. h)

  pub few_aimed : Few now → Few t
  few_aimed few n e xs is form = by (turned n)
    where
      by : Turned to (entry t n) (entry now n) → length xs ≤ 65535
      by (inl h) = few n e xs (h ∙ is) form
      by (inr h) = absurd (cc (same_Some h.0 e (sym h.2 ∙ is)))

pub aimed_declared : (e : Env) → Declared e → (p to : ℕ) → lies_at e.types to ≡ true → Declared (record e { types = aimed e.types p to })
aimed_declared e h p to there = declared_kept e h (aimed e.types p to) (kept e.types p to) (aimed_told e.types p to h.told.types there) (aimed_measured e.types p to h.told.types h.told.words)
