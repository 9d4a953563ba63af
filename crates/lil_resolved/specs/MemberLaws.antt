-- The words of sets.
use Rattle.std.proofs.Common.{◌≡◌, ℕ, zero, suc, ◌+◌, ◌*◌, ◌<◌, ◌≤◌, Bool, true, false, not, ◌&&◌, ◌||◌, ◌==◌, cond, refl, sym, ap, ◌∙◌, arith, ⊎_elim}
use Rattle.std.specs.Prelude.{pos, nat_lt}
use Rattle.std.proofs.lemmas.{Bool.{cases_lt, Decides.nat_tests}, Nat.Bits.bit_at_above}
use Rattle.lil_base.specs.{Sets.{has, either, set_from, set_word, union, minus, meet, apart, is_within}, SetLaws.{has_set, has_no, set_is}}
use Rattle.lil_resolved.specs.Members.{all_below, same_members, included, is_in, united, without, shared_members, unshared}

-- sets of the same numbers below 16 have one word
from_same : (n : ℕ) (p q : ℕ → Bool) → ((i : ℕ) → i < n → p i ≡ q i) → set_from n p ≡ set_from n q
from_same zero p q same = refl
from_same (suc n) p q same =
    ap (λ (b : Bool). cond b 1 0 + 2 * set_from n (λ i. p (suc i))) (same 0 (omega arith))
    ∙ ap (λ (x : ℕ). cond (q 0) 1 0 + 2 * x) (from_same n (λ i. p (suc i)) (λ i. q (suc i)) (λ i less. same (suc i) (omega (arith, less))))

pub word_same : (p q : ℕ → Bool) → ((i : ℕ) → i < 16 → p i ≡ q i) → set_word p ≡ set_word q
unfolding set_word
word_same p q same = from_same 16 p q same

-- the words of two sets are the same where their numbers are
first_bit : (a b : Bool) (x y : ℕ) → (cond a 1 0 + 2 * x == cond b 1 0 + 2 * y) ≡ (not (either a b) && (x == y))
first_bit true true x y = grind (arith, nat_tests)
first_bit true false x y = grind (arith, nat_tests)
first_bit false true x y = grind (arith, nat_tests)
first_bit false false x y = grind (arith, nat_tests)

from_equal : (n : ℕ) (p q : ℕ → Bool) → (set_from n p == set_from n q) ≡ all_below n (λ i. not (either (p i) (q i)))
from_equal zero p q = refl
from_equal (suc n) p q =
    first_bit (p 0) (q 0) (set_from n (λ i. p (suc i))) (set_from n (λ i. q (suc i)))
    ∙ ap (λ (b : Bool). not (either (p 0) (q 0)) && b) (from_equal n (λ i. p (suc i)) (λ i. q (suc i)))

pub words_equal : (p q : ℕ → Bool) → (set_word p == set_word q) ≡ same_members p q
unfolding set_word
words_equal p q = from_equal 16 p q

-- the word is 0 where nothing is in the set
no_bit : (a : Bool) (x : ℕ) → (cond a 1 0 + 2 * x == 0) ≡ (not a && (x == 0))
no_bit true x = grind (arith, nat_tests)
no_bit false x = grind (arith, nat_tests)

from_none : (n : ℕ) (p : ℕ → Bool) → (set_from n p == 0) ≡ all_below n (λ i. not (p i))
from_none zero p = refl
from_none (suc n) p = no_bit (p 0) (set_from n (λ i. p (suc i))) ∙ ap (λ (b : Bool). not (p 0) && b) (from_none n (λ i. p (suc i)))

pub word_none : (p : ℕ → Bool) → (set_word p == 0) ≡ all_below 16 (λ i. not (p i))
unfolding set_word
word_none p = from_none 16 p

-- ---- what the operations on words make of the words of sets
module _ (s t : ℕ → Bool) where
  -- a truth of what is in both words is that of what is in both sets
  of_both : (f : Bool → Bool → Bool) (i : ℕ) → i < 16 → f (has (set_word s) i) (has (set_word t) i) ≡ f (s i) (t i)
  of_both f i less = ap (λ (b : Bool). f b (has (set_word t) i)) (has_set s i less) ∙ ap (f (s i)) (has_set t i less)

  pub word_united : union (set_word s) (set_word t) ≡ set_word (united s t)
  word_united = word_same _ _ (of_both (λ a b. a || b))

  pub word_without : minus (set_word s) (set_word t) ≡ set_word (without s t)
  word_without = word_same _ _ (of_both (λ a b. a && not b))

  pub word_shared : meet (set_word s) (set_word t) ≡ set_word (shared_members s t)
  word_shared = word_same _ _ (of_both (λ a b. a && b))

  pub word_unshared : apart (set_word s) (set_word t) ≡ set_word (unshared s t)
  word_unshared = word_same _ _ (of_both (λ a b. either a b))

  pub word_included : is_within (set_word s) (set_word t) ≡ included s t
  word_included = ap (λ (w : ℕ). w == 0) word_without ∙ word_none (without s t)

-- a number is in the word of a set where it is in the set
pub word_has : (s : ℕ → Bool) (n : ℕ) → has (set_word s) n ≡ is_in s (pos n)
word_has s n =
    ⊎_elim
    (λ (less : n < 16). has_set s n less ∙ ap (λ (b : Bool). b && s n) (let e : true ≡ nat_lt n 16 = grind (arith, nat_tests) in e))
    (λ (more : 16 ≤ n). has_no s n more ∙ ap (λ (b : Bool). b && s n) (let e : false ≡ nat_lt n 16 = grind (arith, nat_tests) in e))
    (cases_lt n 16)

-- a word is that of the set of what it has
pub word_of_set : (w : ℕ) → w < 65536 → set_word (has w) ≡ w
word_of_set w less = sym (set_is w (has w) (λ i. refl) (λ i more. ap (λ (x : ℕ). x == 1) (bit_at_above w 16 i less more)))
