-- Opaque types whose pointer types are told: what is told of the other types of a table stays.
use Rattle.std.proofs.Common.{◌≡◌, ℕ, zero, suc, ◌≤◌, Bool, true, false, List, [], ◌∷◌, length, slice_get, Option, Some, None, if◌then◌else◌, refl, sym, ap, subst, ◌∙◌, true≢false, ◌⊎◌, inl, inr}
use Rattle.std.specs.Prelude.{◌-◌, nat_lt, slice_set}
use Rattle.std.proofs.lemmas.{Option.{none-some, same_Some}}
use Rattle.lil_types.specs.{Types.{Table, entry, is_form_in, is_untold, is_untold_type, revealed_by, revealed}, declared.table.{TypeEntry.TypeEntry, TypeForm.{TypeForm, TheVariants.{Enumeration, Opaque}}}}
use Rattle.lil_scope.specs.{Names.{is_in_no_text, type_of, untold_in, type_awaited}, declared.thing.Entry.Entry}
use Rattle.lil_right_type.specs.Types.{FormTold, IsTold}
use Rattle.lil_right_sort.specs.Growth.{Few}

-- an entry is as before, or that of an opaque type that is told now
abbrev Shown : Option TypeEntry → Option TypeEntry → Type 0
Shown o u = (u ≡ o) ⊎ ((e : TypeEntry) × (o ≡ Some e) × (e.form ≡ Opaque None))

module _ (e : TypeEntry) (form : e.form ≡ Opaque None) (new : TypeEntry) where
  one_shown : (xs : Table) (i j : ℕ) → slice_get xs i ≡ Some e → Shown (slice_get xs j) (slice_get (slice_set xs i new) j)
  one_shown [] i j is = absurd (none-some e is)
  one_shown (x ∷ xs) zero zero is = inr (e, is, form)
  one_shown (x ∷ xs) zero (suc j) is = inl refl
  one_shown (x ∷ xs) (suc i) zero is = inl refl
  one_shown (x ∷ xs) (suc i) (suc j) is = one_shown xs i j is

entry_shown : (t : Table) (k to n : ℕ) → Shown (entry t n) (entry (revealed t k to) n)
entry_shown t k to n = by (nat_lt k 16) (slice_get t (k - 16)) refl
  where
    low_or : (c : Bool) (o u : Option TypeEntry) → Shown o u → Shown (if c then None else o) (if c then None else u)
    low_or true o u h = inl refl
    low_or false o u h = h

    of_form : (e : TypeEntry) (form : TypeForm) → slice_get t (k - 16) ≡ Some e → e.form ≡ form
        → Shown (entry t n) (entry (if is_untold form then slice_set t (k - 16) (record e { form = Opaque (Some to) }) else t) n)
    of_form e (Opaque None) is form = low_or (nat_lt n 16) _ _ (one_shown e form (record e { form = Opaque (Some to) }) t (k - 16) (n - 16) is)
    of_form e (Opaque (Some m)) is form = inl refl
    of_form e _ is form = inl refl

    by : (c : Bool) (o : Option TypeEntry) → slice_get t (k - 16) ≡ o → Shown (entry t n) (entry (if c then t else revealed_by o t (k - 16) to) n)
    by true o is = inl refl
    by false None is = inl refl
    by false (Some e) is = of_form e e.form is refl

pub few_revealed : (t : Table) (k to : ℕ) → Few (revealed t k to) → Few t
few_revealed t k to few n e xs is form = by (entry_shown t k to n)
  where
    by : Shown (entry t n) (entry (revealed t k to) n) → length xs ≤ 65535
    by (inl h) = few n e xs (h ∙ is) form
    by (inr h) = absurd (cc (same_Some h.0 e (sym h.1 ∙ is)))

-- no table that is told has an opaque type
pub never_untold : (t : Table) → IsTold t → (k : ℕ) → is_untold_type t k ≡ true → ⊥
never_untold t told k untold = by (entry t k) refl untold
  where
    of_form : (e : TypeEntry) (form : TypeForm) → FormTold t k e.facts form → is_untold form ≡ true → ⊥
    of_form e (Opaque None) h is = h
    of_form e (Opaque (Some m)) h is = h
    of_form e _ h is = true≢false (sym is)

    by : (o : Option TypeEntry) → entry t k ≡ o → is_form_in is_untold o ≡ true → ⊥
    by None at is = true≢false (sym is)
    by (Some e) at is = of_form e e.form (told k e at) is

-- a type that awaits its declaration is opaque
pub untold_awaited : (t : Table) (o : Option Entry) (k : ℕ) → type_awaited t o ≡ Some k → is_untold_type t k ≡ true
untold_awaited t None k h = absurd (none-some k h)
untold_awaited t (Some e) k h = by (is_in_no_text e.place) (type_of e.thing) h
  where
    one : (n : ℕ) (c : Bool) → is_untold_type t n ≡ c → (if c then Some n else None) ≡ Some k → is_untold_type t k ≡ true
    one n true is h = subst (λ (k : ℕ). is_untold_type t k ≡ true) (same_Some n k h) is
    one n false is h = absurd (none-some k h)

    by : (c : Bool) (o : Option ℕ) → (if c then untold_in t o else None) ≡ Some k → is_untold_type t k ≡ true
    by false o h = absurd (none-some k h)
    by true None h = absurd (none-some k h)
    by true (Some n) h = one n (is_untold_type t n) refl h
