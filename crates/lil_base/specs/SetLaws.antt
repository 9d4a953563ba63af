-- A word is the set of the numbers that it has.
use Rattle.std.proofs.Common.{◌≡◌, ℕ, zero, suc, ◌+◌, ◌*◌, ◌/◌, ◌^◌, ◌<◌, ◌≤◌, Bool, true, false, cond, ◌==◌, refl, sym, ap, ◌∙◌, arith, inl, inr, pow-suc}
use Rattle.std.specs.Int.{bit_at}
use Rattle.std.proofs.lemmas.{Bool.{cases_lt, Decides.nat_tests}, Nat.Bits.{bit_at_lowest, bit_at-suc, bit_at-lt, bit_at_above, same_from_bits}}
use Rattle.lil_base.specs.Sets.{has, set_from, set_word}

abbrev bit_of : Bool → ℕ
bit_of b = cond b 1 0

bit_small : (b : Bool) → bit_of b < 2
bit_small true = omega arith
bit_small false = omega arith

bit_is : (x : ℕ) (b : Bool) → x < 2 → (x == 1) ≡ b → x ≡ bit_of b
bit_is x true h e = grind (arith, nat_tests)
bit_is x false h e = grind (arith, nat_tests)

bit_from : (n i : ℕ) (p : ℕ → Bool) → i < n → bit_at (set_from n p) i ≡ bit_of (p i)
bit_from zero i p h = absurd (omega arith)
bit_from (suc n) zero p h = bit_at_lowest (bit_of (p 0) + 2 * set_from n (λ j. p (suc j))) ∙ omega (arith, bit_small (p 0))
bit_from (suc n) (suc i) p h =
    let rest = set_from n (λ j. p (suc j)) in
    let half : (bit_of (p 0) + 2 * rest) / 2 ≡ rest = omega (arith, bit_small (p 0)) in
    bit_at-suc (bit_of (p 0) + 2 * rest) i ∙ ap (λ (x : ℕ). bit_at x i) half ∙ bit_from n i (λ j. p (suc j)) (omega arith)

below_from : (n : ℕ) (p : ℕ → Bool) → set_from n p < 2 ^ n
below_from zero p = omega arith
below_from (suc n) p = omega (arith, bit_small (p 0), below_from n (λ j. p (suc j)), pow-suc 2 n)

pub set_below : (p : ℕ → Bool) → set_word p < 65536
unfolding set_word
set_below p = below_from 16 p

-- what is in the set of the numbers that have a property
pub has_set : (p : ℕ → Bool) (i : ℕ) → i < 16 → has (set_word p) i ≡ p i
unfolding set_word
has_set p i h = ap (λ (x : ℕ). x == 1) (bit_from 16 i p h) ∙ turn (p i)
  where
    turn : (b : Bool) → (bit_of b == 1) ≡ b
    turn true = refl
    turn false = refl

pub has_no : (p : ℕ → Bool) (i : ℕ) → 16 ≤ i → has (set_word p) i ≡ false
has_no p i h = ap (λ (x : ℕ). x == 1) (bit_at_above (set_word p) 16 i (set_below p) h)

-- a word that has the numbers of a property is their set
pub set_is : (s : ℕ) (p : ℕ → Bool) → ((i : ℕ) → has s i ≡ p i) → ((i : ℕ) → 16 ≤ i → p i ≡ false) → s ≡ set_word p
unfolding set_word
set_is s p same none = same_from_bits s (set_word p) each
  where
    each : (i : ℕ) → bit_at s i ≡ bit_at (set_word p) i
    each i = elim (cases_lt i 16) [
      | inl h ↦ bit_is (bit_at s i) (p i) (bit_at-lt s i) (same i) ∙ sym (bit_from 16 i p h)
      | inr h ↦ bit_is (bit_at s i) false (bit_at-lt s i) (same i ∙ none i h) ∙ sym (bit_at_above (set_word p) 16 i (below_from 16 p) h)
    ]
