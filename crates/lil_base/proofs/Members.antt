-- What is in a set that was made by one operation on words.
use Rattle.std.proofs.Common.{◌≡◌, ℕ, ◌+◌, ◌-◌, ◌*◌, ◌%◌, ◌^◌, ◌<◌, ◌≤◌, min, max, Bool, true, false, cond, not, ◌||◌, ◌&&◌, nat_le, ◌==◌, bit_and, bit_or, bit_xor, refl, ap, ◌∙◌, sym, arith, inl, inr}
use Rattle.std.specs.Int.{bit_at, w16}
use Rattle.std.proofs.lemmas.{Bool.{cases_lt, eq-eqb, Decides.nat_tests}, Nat.{one_shl, pow_below, pow-add, Bits.{bit_at-zero, bit_at_and, bit_at_or, bit_at_xor, bit_at_not, bit_at-lt, bit_at_above, bit_at_mask_inside, bit_at_mask_below, bit_at_mask_above}}}
use Rattle.lil_base.specs.{Sets.{has, either, union, minus, meet, apart, span}, SetLaws.set_is}

one_of : (x y : ℕ) → x < 2 → y < 2 → (max x y == 1) ≡ ((x == 1) || (y == 1))
one_of x y p q = grind (arith, nat_tests)

both_of : (x y : ℕ) → x < 2 → y < 2 → (min x y == 1) ≡ ((x == 1) && (y == 1))
both_of x y p q = grind (arith, nat_tests)

just_one : (x y : ℕ) → x < 2 → y < 2 → ((x + y) % 2 == 1) ≡ either (x == 1) (y == 1)
just_one x y p q = grind (arith, nat_tests)

not_one : (x : ℕ) → x < 2 → (1 - x == 1) ≡ not (x == 1)
not_one x p = grind (arith, nat_tests)

has_or : (s t i : ℕ) → has (bit_or s t) i ≡ (has s i || has t i)
has_or s t i = rw (bit_at_or s t i) (one_of (bit_at s i) (bit_at t i) (bit_at-lt s i) (bit_at-lt t i))

has_and : (s t i : ℕ) → has (bit_and s t) i ≡ (has s i && has t i)
has_and s t i = rw (bit_at_and s t i) (both_of (bit_at s i) (bit_at t i) (bit_at-lt s i) (bit_at-lt t i))

has_xor : (s t i : ℕ) → has (bit_xor s t) i ≡ either (has s i) (has t i)
has_xor s t i = rw (bit_at_xor s t i) (just_one (bit_at s i) (bit_at t i) (bit_at-lt s i) (bit_at-lt t i))

-- a word has no bit past its sixteen
has_above : (s i : ℕ) → s < 2 ^ 16 → 16 ≤ i → has s i ≡ false
has_above s i h k = rw (bit_at_above s 16 i h k) refl

has_not : (t i : ℕ) → t < 2 ^ 16 → i < 16 → has (65535 - t) i ≡ not (has t i)
has_not t i h k = rw (bit_at_not w16 t i h k) (not_one (bit_at t i) (bit_at-lt t i))

-- `65535 - t` is t with each of its sixteen bits turned
has_and_not : (s t i : ℕ) → s < 2 ^ 16 → t < 2 ^ 16 → has (bit_and s (65535 - t)) i ≡ (has s i && not (has t i))
has_and_not s t i h k = elim (cases_lt i 16) [
  | inl p ↦ has_and s (65535 - t) i ∙ ap (λ (b : Bool). has s i && b) (has_not t i k p)
  | inr p ↦ has_and s (65535 - t) i ∙ rw (has_above s i h p) refl
]

pub none_above : (s i : ℕ) → s < 2 ^ 16 → 16 ≤ i → false ≡ has s i
none_above s i h k = sym (has_above s i h k)

bit_of : (x : ℕ) (b : Bool) → x ≡ cond b 1 0 → (x == 1) ≡ b
bit_of x true h = eq-eqb x 1 h
bit_of x false h = rw h refl

mask_bit : (lo hi i : ℕ) → bit_at (2 ^ (hi + 1) - 2 ^ lo) i ≡ cond (nat_le lo i && nat_le i hi) 1 0
mask_bit lo hi i = elim (cases_lt i lo) [
  | inl p ↦ bit_at_mask_below lo (hi + 1) i p ∙ grind (arith, nat_tests)
  | inr p ↦ elim (cases_lt i (hi + 1)) [
    | inl q ↦ bit_at_mask_inside lo (hi + 1) i p q ∙ grind (arith, nat_tests)
    | inr q ↦ bit_at_mask_above lo (hi + 1) i q ∙ grind (arith, nat_tests)
  ]
]

double : (hi : ℕ) → hi ≤ 15 → 2 * 2 ^ hi % 4294967296 ≡ 2 ^ (hi + 1)
double hi h = omega (arith, pow-add 2 hi 1, pow_below hi 16 (omega arith))

single : (lo : ℕ) → lo ≤ 15 → 1 * 2 ^ lo % 4294967296 ≡ 2 ^ lo
single lo h = one_shl lo 32 (omega arith)

pub span_room : (lo hi : ℕ) → lo ≤ hi → hi ≤ 15 → 1 * 2 ^ lo % 4294967296 ≤ 2 * 2 ^ hi % 4294967296
span_room lo hi h k = rw (double hi k, single lo (omega arith)) (omega (arith, pow_below lo (hi + 1) (omega arith)))

has_span : (lo hi i : ℕ) → lo ≤ hi → hi ≤ 15 → has (2 * 2 ^ hi % 4294967296 - 1 * 2 ^ lo % 4294967296) i ≡ (nat_le lo i && nat_le i hi)
has_span lo hi i h k = rw (double hi k, single lo (omega arith)) (bit_of (bit_at (2 ^ (hi + 1) - 2 ^ lo) i) (nat_le lo i && nat_le i hi) (mask_bit lo hi i))

pub union_is : (s t : ℕ) → s < 2 ^ 16 → t < 2 ^ 16 → bit_or s t ≡ union s t
union_is s t h k = set_is (bit_or s t) _ (has_or s t) (λ i far. rw (has_above s i h far, has_above t i k far) refl)

pub meet_is : (s t : ℕ) → s < 2 ^ 16 → bit_and s t ≡ meet s t
meet_is s t h = set_is (bit_and s t) _ (has_and s t) (λ i far. rw (has_above s i h far) refl)

pub apart_is : (s t : ℕ) → s < 2 ^ 16 → t < 2 ^ 16 → bit_xor s t ≡ apart s t
apart_is s t h k = set_is (bit_xor s t) _ (has_xor s t) (λ i far. rw (has_above s i h far, has_above t i k far) refl)

pub minus_is : (s t : ℕ) → s < 2 ^ 16 → t < 2 ^ 16 → bit_and s (65535 - t) ≡ minus s t
minus_is s t h k = set_is (bit_and s (65535 - t)) _ (λ i. has_and_not s t i h k) (λ i far. rw (has_above s i h far) refl)

pub span_is : (lo hi : ℕ) → lo ≤ hi → hi ≤ 15 → 2 * 2 ^ hi % 4294967296 - 1 * 2 ^ lo % 4294967296 ≡ span lo hi
span_is lo hi h k = set_is _ _ (λ i. has_span lo hi i h k) (λ i far. grind (arith, nat_tests))

pub no_span : (lo hi : ℕ) → hi < lo → 0 ≡ span lo hi
no_span lo hi h = set_is 0 _ (λ i. rw (bit_at-zero i) (grind (arith, nat_tests))) (λ i far. grind (arith, nat_tests))
