-- The start of a FOR of another type of whole numbers than its limit.
use Rattle.std.proofs.Common.{◌≡◌, ℕ, zero, suc, ◌-◌, ◌==◌, Bool, true, false, not, refl, sym, ◌∙◌, subst, arith}
use Rattle.std.specs.Prelude.{ℤ, pos, negsuc, int_lt, nat_lt, nat_le}
use Rattle.std.proofs.lemmas.{Bool.{and_parts, eqb-true, lt-ltb, true≢false, Decides.nat_tests}, Int.ints}
use Rattle.lil_base.specs.{Words.{Whole, Cardinal, Integer, between, number_of, word_of}, Laws.{bounds}}
use Rattle.lil_resolved.specs.{Kinds.{Kind, OfWhole, OfTruth, OfCharacter, OfEnumeration, OfSet, OfRange, base_of, takes_value, compared_as, covers, outside_turns}, Sound.IsStep}
use Rattle.lil_meaning.specs.Steps.{turns}
use Rattle.lil_match.specs.{Parts.{yes, no}, Ranges.has}

no_less : (x : ℤ) → not (int_lt x x) ≡ true
no_less x = grind (arith, ints)

same_covers : (m n : ℕ) → m ≡ n → covers (OfEnumeration m) (OfEnumeration n) ≡ true
same_covers m n e = subst (λ (n : ℕ). covers (OfEnumeration m) (OfEnumeration n) ≡ true) e (no_less (pos (m - 1)))

abbrev pub is_small : ℤ → Bool
is_small z = nat_lt (word_of z) 32768

-- it is one of the limit's numbers where its word is small
pub small_has : (k j : Kind) (z : ℤ) → takes_value k j ≡ true → covers (base_of k) j ≡ false → has j z ≡ true → has (base_of k) z ≡ is_small z
small_has (OfRange base low high) j z takes apart there = small_has base j z takes apart there
small_has (OfWhole Cardinal) (OfWhole Integer) (pos n) takes apart there = grind (arith, nat_tests, ints)
small_has (OfWhole Cardinal) (OfWhole Integer) (negsuc n) takes apart there = grind (arith, nat_tests, ints)
small_has (OfWhole Integer) (OfWhole Cardinal) (pos n) takes apart there = grind (arith, nat_tests)
small_has (OfWhole Integer) (OfWhole Cardinal) (negsuc n) takes apart there = cc
small_has (OfWhole Cardinal) (OfWhole Cardinal) z takes apart there = cc
small_has (OfWhole Integer) (OfWhole Integer) z takes apart there = cc
small_has OfTruth OfTruth z takes apart there = cc
small_has OfSet OfSet z takes apart there = cc
small_has OfCharacter OfCharacter z takes apart there = cc
small_has (OfEnumeration m) (OfEnumeration n) z takes apart there =
    let p = and_parts (m == n) (nat_le n 65535) takes in
    absurd (true≢false (sym (same_covers m n (eqb-true m n p.0)) ∙ apart))
small_has k j z takes apart there = cc

-- where such a start lies: below CARDINAL or above INTEGER, and so is the limit on its other side
abbrev pub IsOutside : Whole → ℤ → ℤ → Type 0
IsOutside Cardinal a b = int_lt a b ≡ true
IsOutside Integer a b = int_lt b a ≡ true

pub outside : (k j : Kind) (a b : ℤ) → takes_value k j ≡ true → covers (base_of k) j ≡ false → has j a ≡ true → has (base_of k) a ≡ false → has (base_of k) b ≡ true → IsOutside (compared_as (base_of k)) a b
outside (OfRange base low high) j a b takes apart there none limit = outside base j a b takes apart there none limit
outside (OfWhole Cardinal) (OfWhole Integer) (pos n) b takes apart there none limit =
    absurd (true≢false (sym (small_has (OfWhole Cardinal) (OfWhole Integer) (pos n) takes apart there ∙ lt-ltb n 32768 (let c = bounds (negsuc 32767) (pos n) (pos 32767) there in omega (arith, ints, c.1))) ∙ none))
outside (OfWhole Cardinal) (OfWhole Integer) (negsuc n) (pos m) takes apart there none limit = refl
outside (OfWhole Cardinal) (OfWhole Integer) (negsuc n) (negsuc m) takes apart there none limit = cc
outside (OfWhole Integer) (OfWhole Cardinal) (pos n) b takes apart there none limit = grind (arith, ints)
outside (OfWhole Integer) (OfWhole Cardinal) (negsuc n) b takes apart there none limit = cc
outside (OfEnumeration m) (OfEnumeration n) a b takes apart there none limit =
    let p = and_parts (m == n) (nat_le n 65535) takes in
    absurd (true≢false (sym (same_covers m n (eqb-true m n p.0)) ∙ apart))
outside (OfWhole Cardinal) (OfWhole Cardinal) a b takes apart there none limit = cc
outside (OfWhole Integer) (OfWhole Integer) a b takes apart there none limit = cc
outside OfTruth OfTruth a b takes apart there none limit = cc
outside OfSet OfSet a b takes apart there none limit = cc
outside OfCharacter OfCharacter a b takes apart there none limit = cc
outside k j a b takes apart there none limit = cc

-- it has no turn, or one
pub outside_none : (t : Whole) (a b step : ℤ) → IsOutside t a b → outside_turns t step ≡ false → IsStep step → turns a b step ≡ 0
outside_none Cardinal a b (pos zero) lies way s = absurd (s.some refl)
outside_none Cardinal a b (pos (suc n)) lies way s = grind (arith, ints)
outside_none Cardinal a b (negsuc n) lies way s = yes (int_lt a b) _ _ lies
outside_none Integer a b (pos n) lies way s = yes (int_lt b a) _ _ lies
outside_none Integer a b (negsuc n) lies way s = cc

pub outside_some : (t : Whole) (a b step : ℤ) → IsOutside t a b → outside_turns t step ≡ true → turns a b step ≡ 0 → ⊥
outside_some Cardinal a b (pos n) lies way none =
    let other : int_lt b a ≡ false = grind (arith, ints) in
    let more = sym (no (int_lt b a) _ _ other) ∙ none in
    omega (arith, more)
outside_some Cardinal a b (negsuc n) lies way none = absurd (let e : true ≡ false = sym way in true≢false e)
outside_some Integer a b (pos n) lies way none = grind (arith, ints)
outside_some Integer a b (negsuc n) lies way none =
    let other : int_lt a b ≡ false = grind (arith, ints) in
    let more = sym (no (int_lt a b) _ _ other) ∙ none in
    omega (arith, more)

-- the words that show where it lies
pub small_between : (z : ℤ) → between (pos 0) (pos (word_of z)) (pos 32767) ≡ is_small z
small_between z = grind (arith, nat_tests)

pub small_less : (z : ℤ) → int_lt (number_of Integer (word_of z)) (pos 0) ≡ not (is_small z)
small_less z = grind (arith, ints, nat_tests)
