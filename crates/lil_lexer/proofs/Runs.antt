-- Runs of bytes that pass a test.
use Rattle.std.proofs.Common.{◌≡◌, ℕ, Bool, true, List, [], ◌∷◌, ◌++◌, length, take, drop, refl, ap, sym, ⊎_elim}
use Rattle.std.proofs.{lemmas.{Bool.{and_parts, cases_Bool}, List.{take_at, drop_at}}, Math.Numerals.one-add}
use Rattle.std.specs.List.{list_all, prefix_len}
use Rattle.lil_text.specs.Cuts.{Stops}

-- a text is its longest run that passes, and what is behind it
pub record Cut (test : ℕ → Bool) (text : List ℕ) : Type 0 where
  pub front : List ℕ
  pub rest : List ℕ
  pub cut : text ≡ front ++ rest
  pub all : list_all test front ≡ true
  pub stops : Stops test rest

module _ (test : ℕ → Bool) where
  pub cut_at : (text : List ℕ) → Cut test text
  cut_at [] = record { front = []; rest = []; cut = refl; all = refl; stops = tt }
  cut_at (b ∷ bs) =
      let x = cut_at bs in
      ⊎_elim
      (λ is. record { front = b ∷ x.front; rest = x.rest; cut = ap (λ (bs : List ℕ). b ∷ bs) x.cut; all = rw is x.all; stops = x.stops })
      (λ is. record { front = []; rest = b ∷ bs; cut = refl; all = refl; stops = is }) (cases_Bool (test b))

  pub run_length : (bs rest : List ℕ) → list_all test bs ≡ true → Stops test rest → prefix_len test (bs ++ rest) ≡ length bs
  run_length [] [] h s = refl
  run_length [] (b ∷ rest) h s = rw s
  run_length (b ∷ bs) rest h s = let t = and_parts (test b) (list_all test bs) h in rw (t.0, run_length bs rest t.1 s, one-add)

  pub run_taken : (bs rest : List ℕ) → list_all test bs ≡ true → Stops test rest → take (prefix_len test (bs ++ rest)) (bs ++ rest) ≡ bs
  run_taken bs rest h s = take_at bs rest (prefix_len test (bs ++ rest)) (sym (run_length bs rest h s))

  pub run_left : (bs rest : List ℕ) → list_all test bs ≡ true → Stops test rest → drop (prefix_len test (bs ++ rest)) (bs ++ rest) ≡ rest
  run_left bs rest h s = drop_at bs rest (prefix_len test (bs ++ rest)) (sym (run_length bs rest h s))
