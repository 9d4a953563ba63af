-- Of lists with the same items, in the same order where their numbers are the same, only one is in the order of the numbers.
use Rattle.std.proofs.Common.{◌≡◌, ℕ, zero, suc, ◌+◌, ◌≤◌, ◌<◌, Bool, true, false, cond, if◌then◌else◌, List, [], ◌∷◌, length, map, get_or, nat_le, nat_lt, nat_eq, refl, sym, ap, subst, ◌∙◌, arith}
use Rattle.std.specs.List.{filter}
use Rattle.std.specs.Ordering.{is_lt, nat_cmp}
use Rattle.std.specs.List.Sorted.{IsNonDecreasingBy, ties, IsStableByKey}
use Rattle.std.proofs.lemmas.List.Sorted.{IsNonDecreasingBy-drop}
use Rattle.std.proofs.lemmas.Bool.Decides.{nat_tests}
use Rattle.lil_scope.specs.declared.thing.Bound.{Bound}
use Rattle.lil_iface.specs.Iface.{offset_of, put, by_place}

module _ {X : Type 0} (n : X → ℕ) where
  -- insertion by number
  abbrev into : X → List X → List X
  into x [] = x ∷ []
  into x (y ∷ ys) = if nat_le (n x) (n y) then x ∷ y ∷ ys else y ∷ into x ys

  abbrev pub by_number : List X → List X
  by_number [] = []
  by_number (x ∷ xs) = into x (by_number xs)

  -- the numbers rise from k on
  abbrev Rises : ℕ → List X → Type 0
  Rises k [] = Unit {0}
  Rises k (x ∷ xs) = (k ≤ n x) × Rises (n x) xs

  abbrev tie : ℕ → X → Bool
  tie k x = nat_eq k (n x)

  rises_lower : (j k : ℕ) (xs : List X) → j ≤ k → Rises k xs → Rises j xs
  rises_lower j k [] le h = tt
  rises_lower j k (x ∷ xs) le h = (omega (arith, h.0), h.1)

  into_by : (k : ℕ) (x y : X) (ys : List X) (b : Bool) → nat_le (n x) (n y) ≡ b → k ≤ n x → k ≤ n y → Rises (n y) ys → (n y ≤ n x → Rises (n y) (into x ys))
      → Rises k (if b then x ∷ y ∷ ys else y ∷ into x ys)
  into_by k x y ys true e le lf h rest = (le, (grind (arith, nat_tests), h))
  into_by k x y ys false e le lf h rest = (lf, rest (grind (arith, nat_tests)))

  into_rises : (k : ℕ) (x : X) (ys : List X) → k ≤ n x → Rises k ys → Rises k (into x ys)
  into_rises k x [] le h = (le, tt)
  into_rises k x (y ∷ ys) le h = into_by k x y ys (nat_le (n x) (n y)) refl le h.0 h.1 (λ l. into_rises (n y) x ys l h.1)

  pub by_number_rises : (xs : List X) → Rises 0 (by_number xs)
  by_number_rises [] = tt
  by_number_rises (x ∷ xs) = into_rises 0 x (by_number xs) (omega arith) (by_number_rises xs)

  -- ---- those of one number, in their order
  tied : (x : X) → tie (n x) x ≡ true
  tied x = grind (arith, nat_tests)

  swap_by : (m : ℕ) (x y : X) (ys : List X) (a b : Bool) → tie m x ≡ a → tie m y ≡ b → n y < n x
      → cond b (y ∷ cond a (x ∷ ys) ys) (cond a (x ∷ ys) ys) ≡ cond a (x ∷ cond b (y ∷ ys) ys) (cond b (y ∷ ys) ys)
  swap_by m x y ys true true e f lt = absurd (grind (arith, nat_tests))
  swap_by m x y ys true false e f lt = refl
  swap_by m x y ys false true e f lt = refl
  swap_by m x y ys false false e f lt = refl

  into_tied_by : (m : ℕ) (x y : X) (ys : List X) (b : Bool) → nat_le (n x) (n y) ≡ b → filter (tie m) (into x ys) ≡ filter (tie m) (x ∷ ys)
      → filter (tie m) (if b then x ∷ y ∷ ys else y ∷ into x ys) ≡ filter (tie m) (x ∷ y ∷ ys)
  into_tied_by m x y ys true e rest = refl
  into_tied_by m x y ys false e rest =
      ap (λ zs. cond (tie m y) (y ∷ zs) zs) rest ∙ swap_by m x y (filter (tie m) ys) (tie m x) (tie m y) refl refl (grind (arith, nat_tests))

  into_tied : (m : ℕ) (x : X) (ys : List X) → filter (tie m) (into x ys) ≡ filter (tie m) (x ∷ ys)
  into_tied m x [] = refl
  into_tied m x (y ∷ ys) = into_tied_by m x y ys (nat_le (n x) (n y)) refl (into_tied m x ys)

  pub by_number_tied : (m : ℕ) (xs : List X) → filter (tie m) (by_number xs) ≡ filter (tie m) xs
  by_number_tied m [] = refl
  by_number_tied m (x ∷ xs) = into_tied m x (by_number xs) ∙ ap (λ zs. cond (tie m x) (x ∷ zs) zs) (by_number_tied m xs)

  -- ---- two lists that rise
  none_tied : (m k : ℕ) (xs : List X) → m < k → Rises k xs → filter (tie m) xs ≡ []
  none_tied m k [] lt h = refl
  none_tied m k (x ∷ xs) lt h =
      let other : tie m x ≡ false = grind (arith, nat_tests, h.0) in
      ap (λ b. cond b (x ∷ filter (tie m) xs) (filter (tie m) xs)) other ∙ none_tied m (n x) xs (omega (arith, h.0)) h.1

  first_tied : (x : X) (xs : List X) → filter (tie (n x)) (x ∷ xs) ≡ x ∷ filter (tie (n x)) xs
  first_tied x xs = ap (λ b. cond b (x ∷ filter (tie (n x)) xs) (filter (tie (n x)) xs)) (tied x)

  some_none : (x : X) (xs : List X) → x ∷ xs ≡ [] → ⊥
  some_none x xs e = cc

  heads : (x y : X) (xs ys : List X) → x ∷ xs ≡ y ∷ ys → x ≡ y
  heads x y xs ys e = cc

  tails : (x y : X) (xs ys : List X) → x ∷ xs ≡ y ∷ ys → xs ≡ ys
  tails x y xs ys e = cc

  -- one list has its first item below all of the other
  below : (x y : X) (xs ys : List X) → n x < n y → Rises (n y) ys → filter (tie (n x)) (x ∷ xs) ≡ filter (tie (n x)) (y ∷ ys) → ⊥
  below x y xs ys lt h e = some_none x (filter (tie (n x)) xs) (sym (first_tied x xs) ∙ e ∙ none_tied (n x) (n y) (y ∷ ys) lt (omega arith, h))

  behind_by : (m : ℕ) (x : X) (xs ys : List X) (b : Bool) → cond b (x ∷ filter (tie m) xs) (filter (tie m) xs) ≡ cond b (x ∷ filter (tie m) ys) (filter (tie m) ys) → filter (tie m) xs ≡ filter (tie m) ys
  behind_by m x xs ys true e = tails x x (filter (tie m) xs) (filter (tie m) ys) e
  behind_by m x xs ys false e = e

  order_by : (x y : X) (xs ys : List X) (a b : Bool) → nat_lt (n x) (n y) ≡ a → nat_lt (n y) (n x) ≡ b → Rises (n x) xs → Rises (n y) ys
      → ((z : X) → filter (tie (n z)) (x ∷ xs) ≡ filter (tie (n z)) (y ∷ ys)) → (((z : X) → filter (tie (n z)) xs ≡ filter (tie (n z)) ys) → xs ≡ ys) → x ∷ xs ≡ y ∷ ys
  order_by x y xs ys true b p q h g e rest = absurd (below x y xs ys (grind (arith, nat_tests)) g (e x))
  order_by x y xs ys false true p q h g e rest = absurd (below y x ys xs (grind (arith, nat_tests)) h (sym (e y)))
  order_by x y xs ys false false p q h g e rest =
      let same : n x ≡ n y = grind (arith, nat_tests) in
      let both : x ∷ filter (tie (n x)) xs ≡ y ∷ filter (tie (n y)) ys = sym (first_tied x xs) ∙ e x ∙ ap (λ m. filter (tie m) (y ∷ ys)) same ∙ first_tied y ys in
      let head : x ≡ y = heads x y (filter (tie (n x)) xs) (filter (tie (n y)) ys) both in
      let behind : xs ≡ ys = rest (λ z. behind_by (n z) x xs ys (tie (n z) x) (e z ∙ ap (λ v. filter (tie (n z)) (v ∷ ys)) (sym head))) in
      λ i. head i ∷ behind i

  one_order : (j k : ℕ) (xs ys : List X) → Rises j xs → Rises k ys → ((z : X) → filter (tie (n z)) xs ≡ filter (tie (n z)) ys) → xs ≡ ys
  one_order j k [] [] h g e = refl
  one_order j k [] (y ∷ ys) h g e = absurd (some_none y (filter (tie (n y)) ys) (sym (first_tied y ys) ∙ sym (e y)))
  one_order j k (x ∷ xs) [] h g e = absurd (some_none x (filter (tie (n x)) xs) (sym (first_tied x xs) ∙ e x))
  one_order j k (x ∷ xs) (y ∷ ys) h g e = order_by x y xs ys (nat_lt (n x) (n y)) (nat_lt (n y) (n x)) refl refl h.1 g.1 e (one_order (n x) (n y) xs ys h.1 g.1)

  -- ---- what a stable sort gives
  rises_of : (k : ℕ) (xs : List X) → ((d : X) → 0 < length xs → k ≤ n (get_or xs 0 d)) → IsNonDecreasingBy n xs → Rises k xs
  rises_of k [] h up = tt
  rises_of k (x ∷ xs) h up = (h x (omega arith), rises_of (n x) xs (λ d lt. up 0 1 d (omega arith) (omega arith)) (IsNonDecreasingBy-drop n 1 (x ∷ xs) up))

  same_kept : (p q : X → Bool) (xs : List X) → ((x : X) → p x ≡ q x) → filter p xs ≡ filter q xs
  same_kept p q [] e = refl
  same_kept p q (x ∷ xs) e = λ i. cond (e x i) (x ∷ same_kept p q xs e i) (same_kept p q xs e i)

  ties_are : (x y : X) → ties (λ x y. is_lt (nat_cmp (n x) (n y))) x y ≡ tie (n x) y
  ties_are x y = grind (arith, nat_tests)

  pub sorted_is : (xs ys : List X) → IsNonDecreasingBy n ys → IsStableByKey n nat_cmp xs ys → ys ≡ by_number xs
  sorted_is xs ys up stable = one_order 0 0 ys (by_number xs) (rises_of 0 ys (λ d lt. omega arith) up) (by_number_rises xs)
      (λ z. same_kept _ _ ys (λ y. sym (ties_are z y)) ∙ stable z ∙ same_kept _ _ xs (ties_are z) ∙ sym (by_number_tied (n z) xs))

-- ---- names by their places
module _ {B : Type 0} (now : B → Bound) where
  into_now_by : (x y : B) (ys : List B) (b : Bool) → map now (into (λ b. offset_of (now b)) x ys) ≡ put (now x) (map now ys)
      → map now (if b then x ∷ y ∷ ys else y ∷ into (λ b. offset_of (now b)) x ys) ≡ (if b then now x ∷ now y ∷ map now ys else now y ∷ put (now x) (map now ys))
  into_now_by x y ys true rest = refl
  into_now_by x y ys false rest = ap (λ zs. now y ∷ zs) rest

  into_now : (x : B) (ys : List B) → map now (into (λ b. offset_of (now b)) x ys) ≡ put (now x) (map now ys)
  into_now x [] = refl
  into_now x (y ∷ ys) = into_now_by x y ys (nat_le (offset_of (now x)) (offset_of (now y))) (into_now x ys)

  pub by_number_now : (xs : List B) → map now (by_number (λ b. offset_of (now b)) xs) ≡ by_place (map now xs)
  by_number_now [] = refl
  by_number_now (x ∷ xs) = into_now x (by_number (λ b. offset_of (now b)) xs) ∙ ap (put (now x)) (by_number_now xs)
