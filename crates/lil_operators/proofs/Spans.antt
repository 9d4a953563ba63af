-- The word of all numbers from one to another.
use Rattle.std.proofs.Common.{◌≡◌, ℕ, ◌+◌, ◌-◌, ◌*◌, ◌%◌, ◌^◌, ◌≤◌, refl, arith}
use Rattle.std.proofs.lemmas.Nat.{one_shl, pow_below, pow-add}

double : (hi : ℕ) → hi ≤ 15 → 2 * 2 ^ hi % 4294967296 ≡ 2 ^ (hi + 1)
double hi h = omega (arith, pow-add 2 hi 1, pow_below hi 16 (omega arith))

single : (lo : ℕ) → lo ≤ 15 → 1 * 2 ^ lo % 4294967296 ≡ 2 ^ lo
single lo h = one_shl lo 32 (omega arith)

pub span_room : (lo hi : ℕ) → lo ≤ hi → hi ≤ 15 → 1 * 2 ^ lo % 4294967296 ≤ 2 * 2 ^ hi % 4294967296
span_room lo hi h k = rw (double hi k, single lo (omega arith)) (omega (arith, pow_below lo (hi + 1) (omega arith)))

pub span_is : (lo hi : ℕ) → lo ≤ hi → hi ≤ 15 → 2 * 2 ^ hi % 4294967296 - 1 * 2 ^ lo % 4294967296 ≡ 2 ^ (hi + 1) - 2 ^ lo
span_is lo hi h k = rw (double hi k, single lo (omega arith)) refl
