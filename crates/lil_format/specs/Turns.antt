-- A loop that reads a part in each of its turns, which it counts up; and one that writes a list's parts.
use Rattle.std.proofs.Common.{◌≡◌, ℕ, suc, ◌+◌, ◌-◌, ◌<◌, ◌≤◌, Bool, true, List, [], ◌∷◌, ◌++◌, length, Ok, Err, refl, sym, ap, subst, ◌∙◌, arith}
use Rattle.std.proofs.lemmas.List.{length_push}
use Rattle.std.specs.List.{flat_map, AllByRecursion}
use Rattle.lil_format.specs.declared.stop.Stop.{Stop}
use Rattle.lil_format.specs.Reading.{Outcome, Parser, and_then, Width, limit, number_bytes, many}
use Rattle.lil_format.specs.Format.{Format, list_of, each_fits, each_spelled, Fits, spelling}

-- the whole list's outcome is that of the parts that are left after i of n, behind those that are done
module _ {A : Type 0} (each : List A → Parser A) (done : List A) (bs : List ℕ) {all : Outcome (List A)} {n i : ℕ} where
  pub many_done : all ≡ many each (n - i) done bs → n ≤ i → all ≡ Ok (done, bs)
  unfolding many
  many_done so_far over = let none : n - i ≡ 0 = omega arith in so_far ∙ ap (λ k. many each k done bs) none

  turn : {o : Outcome A} → all ≡ many each (n - i) done bs → i < n → each done bs ≡ o → all ≡ and_then o (λ a. many each (n - (i + 1)) (done ++ a ∷ []))
  unfolding many
  turn so_far below is =
      let left : n - i ≡ suc (n - (i + 1)) = omega arith in
      so_far ∙ ap (λ k. many each k done bs) left ∙ ap (λ o. and_then o (λ a. many each (n - (i + 1)) (done ++ a ∷ []))) is

  pub many_on : all ≡ many each (n - i) done bs → i < n → (a : A) (mid : List ℕ) → each done bs ≡ Ok (a, mid) → all ≡ many each (n - (i + 1)) (done ++ a ∷ []) mid
  many_on so_far below a mid is = turn so_far below is

  pub many_fails : all ≡ many each (n - i) done bs → i < n → (stop : Stop) → each done bs ≡ Err stop → all ≡ Err stop
  many_fails so_far below stop is = turn so_far below is

pub ruleset turns = (many_done, many_on, many_fails)

-- ---- parts that don't ask for those before
pub spelled_flat : {A : Type 0} (spell : A → List ℕ) (done xs : List A) → each_spelled (λ d. spell) done xs ≡ flat_map spell xs
spelled_flat spell done [] = refl
spelled_flat spell done (x ∷ xs) = ap (λ (r : List ℕ). spell x ++ r) (spelled_flat spell (done ++ x ∷ []) xs)

pub fit_all : {A : Type 0} (fits : A → Type 0) (done xs : List A) → each_fits (λ d. fits) done xs → AllByRecursion fits xs
fit_all fits done [] h = tt
fit_all fits done (x ∷ xs) h = (h.0, fit_all fits (done ++ x ∷ []) xs h.1)

pub fit_each : {A : Type 0} (fits : A → Type 0) (done xs : List A) → AllByRecursion fits xs → each_fits (λ d. fits) done xs
fit_each fits done [] h = tt
fit_each fits done (x ∷ xs) h = (h.0, fit_each fits (done ++ x ∷ []) xs h.1)

fit_more : {A : Type 0} (fits : A → Type 0) (done xs : List A) (x : A) → each_fits (λ d. fits) done xs → fits x → each_fits (λ d. fits) done (xs ++ x ∷ [])
fit_more fits done [] x h k = (k, tt)
fit_more fits done (y ∷ ys) x h k = (h.0, fit_more fits (done ++ y ∷ []) ys x h.1 k)

module _ {A : Type 0} (w : Width) (long : ℕ → Bool) (f : Format A) (xs : List A) where
  pub list_spelled : spelling (list_of w long f) xs ≡ number_bytes w (length xs) ++ flat_map (spelling f) xs
  unfolding spelling
  list_spelled = ap (λ (r : List ℕ). number_bytes w (length xs) ++ r) (spelled_flat (spelling f) [] xs)

  pub list_fits : Fits (list_of w long f) xs → (length xs < limit w) × AllByRecursion (Fits f) xs
  unfolding Fits
  list_fits h = (h.1, fit_all (Fits f) [] xs h.2)

  pub list_fits_from : long (length xs) ≡ true → length xs < limit w → AllByRecursion (Fits f) xs → Fits (list_of w long f) xs
  unfolding Fits
  list_fits_from l s h = (l, s, fit_each (Fits f) [] xs h)

  -- one part more at the end
  pub list_fits_more : (x : A) → Fits (list_of w long f) xs → Fits f x → long (length xs + 1) ≡ true → length xs + 1 < limit w → Fits (list_of w long f) (xs ++ x ∷ [])
  unfolding Fits
  list_fits_more x h k l s = subst (λ (n : ℕ). (long n ≡ true) × (n < limit w) × each_fits (λ d. Fits f) [] (xs ++ x ∷ [])) (sym (length_push xs x)) (l, s, fit_more (Fits f) [] xs x h.2 k)
