-- The search for the running procedure.
use Rattle.std.proofs.Common.{◌≡◌, ℕ, ◌+◌, ◌<◌, ◌≤◌, true, false, List, length, Option, None, Some, slice_get, refl, arith}
use Rattle.std.proofs.lemmas.{Bool.Decides.nat_tests, Option.slice_get_within}
use Rattle.lil_mcode.specs.{Calls.IsRunning, Kept.is_better}

-- what the search has found among the first n procedures: the number and the entry of the best
pub record Best (procedures : List (ℕ × Option (List ℕ))) (place n p : ℕ) (found : Option ℕ) : Type 0 where
  pub low : p ≤ n
  pub none : found ≡ None → p ≡ 0
  pub above : (k e : ℕ) (o : Option (List ℕ)) → k < n → slice_get procedures k ≡ Some (e, o) → e ≤ place → found ≡ None → ⊥
  pub some : (f : ℕ) → found ≡ Some f → (o : Option (List ℕ)) × (slice_get procedures p ≡ Some (f, o)) × (f ≤ place)
  pub best : (f : ℕ) → found ≡ Some f → (k e : ℕ) (o : Option (List ℕ)) → k < n → slice_get procedures k ≡ Some (e, o) → e ≤ place → (e ≤ f) × (e ≡ f → p ≤ k)

-- the n-th procedure is the best so far
pub best_taken : (procedures : List (ℕ × Option (List ℕ))) (place n p : ℕ) (found : Option ℕ) (e : ℕ) (o : Option (List ℕ))
    → Best procedures place n p found → slice_get procedures n ≡ Some (e, o) → is_better place found e ≡ true → Best procedures place (n + 1) n (Some e)
best_taken procedures place n p found e o b here better = record {
  low = omega arith;
  none = λ h. cc;
  above = λ k g q l h m none. cc;
  some = λ f h. (o, grind (arith, nat_tests), grind (arith, nat_tests));
  best = λ f h k g q l at m. (grind (arith, nat_tests, b.above, b.best), grind (arith, nat_tests, b.above, b.best));
}

-- the n-th procedure is no better than what was found
pub best_kept : (procedures : List (ℕ × Option (List ℕ))) (place n p : ℕ) (found : Option ℕ) (e : ℕ) (o : Option (List ℕ))
    → Best procedures place n p found → slice_get procedures n ≡ Some (e, o) → is_better place found e ≡ false → Best procedures place (n + 1) p found
best_kept procedures place n p found e o b here worse = record {
  low = let l : p ≤ n = b.low in omega arith;
  none = b.none;
  above = λ k g q l at m none. grind (arith, nat_tests, b.above);
  some = b.some;
  best = λ f h k g q l at m. (grind (arith, nat_tests, b.best), grind (arith, nat_tests, b.best, b.low));
}

pub best_runs : (procedures : List (ℕ × Option (List ℕ))) (place p : ℕ) (found : Option ℕ) → Best procedures place (length procedures) p found → IsRunning procedures place p
best_runs procedures place p None b = record {
  none = λ _. b.none refl;
  some = λ k e n g l. absurd (b.above k e n (slice_get_within procedures k (e, n) g) g l refl);
}
best_runs procedures place p (Some f) b =
    let s = b.some f refl in
    record {
      none = λ h. let l : place < f = h p f s.0 s.1 in let m : f ≤ place = s.2 in absurd (omega arith);
      some = λ k e n g l. let t = b.best f refl k e n (slice_get_within procedures k (e, n) g) g l in (f, s.0, s.1, s.2, t.0, t.1);
    }
