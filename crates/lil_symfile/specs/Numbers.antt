-- Whole numbers in two's complement, as fields of two and of four bytes hold them.
use Rattle.std.proofs.Common.{◌≡◌, ℕ, ◌<◌, ◌≤◌, Bool, true, false, Some, refl, sym, ap, ◌∙◌, arith}
use Rattle.std.specs.Prelude.{◌-◌, nat_le, ◌&&◌, ℤ, pos, negsuc, if◌then◌else◌}
use Rattle.lil_format.specs.Reading.{u2, u4, such}
use Rattle.lil_format.specs.FieldLaws.{such_some}
use Rattle.lil_format.specs.Format.{Format, number}

-- the number that a word means, where words from 8000H on are below 0 or aren't
abbrev pub word_value : Bool → ℕ → ℤ
word_value signed n = if signed && nat_le 32768 n then negsuc (65535 - n) else pos n

abbrev pub word_of : ℤ → ℕ
word_of (pos n) = n
word_of (negsuc n) = 65535 - n

abbrev pub long_value : ℕ → ℤ
long_value n = if nat_le 2147483648 n then negsuc (4294967295 - n) else pos n

abbrev pub long_of : ℤ → ℕ
long_of (pos n) = n
long_of (negsuc n) = 4294967295 - n

back_from : (top n : ℕ) → n ≤ top → top - (top - n) ≡ n
back_from top n h = omega arith

word_by : (b : Bool) (n : ℕ) → n ≤ 65535 → word_of (if b then negsuc (65535 - n) else pos n) ≡ n
word_by true n h = back_from 65535 n h
word_by false n h = refl

long_by : (b : Bool) (n : ℕ) → n ≤ 4294967295 → long_of (if b then negsuc (4294967295 - n) else pos n) ≡ n
long_by true n h = back_from 4294967295 n h
long_by false n h = refl

pub word_law : (signed : Bool) (ok : ℤ → Bool) (n : ℕ) (z : ℤ) → n < 65536 → such ok (word_value signed n) ≡ Some z → word_of z ≡ n
word_law signed ok n z l e = ap word_of (sym (such_some ok (word_value signed n) z e).1) ∙ word_by (signed && nat_le 32768 n) n (omega arith)

pub long_law : (ok : ℤ → Bool) (n : ℕ) (z : ℤ) → n < 4294967296 → such ok (long_value n) ≡ Some z → long_of z ≡ n
long_law ok n z l e = ap long_of (sym (such_some ok (long_value n) z e).1) ∙ long_by (nat_le 2147483648 n) n (omega arith)

-- a number that keeps a rule, of two bytes or of four
abbrev pub word_such : Bool → (ℤ → Bool) → Format ℤ
word_such signed ok = number u2 (λ n. such ok (word_value signed n)) word_of (word_law signed ok)

abbrev pub long_such : (ℤ → Bool) → Format ℤ
long_such ok = number u4 (λ n. such ok (long_value n)) long_of (long_law ok)
