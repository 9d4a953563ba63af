-- Results as words, and the step of a loop that goes down.
use Rattle.std.proofs.Common.{◌≡◌, ℕ, ◌-◌, ◌<◌, ◌≤◌, ℤ, pos, negsuc, ◌-ℤ◌, neg_ℤ, int_lt, nat_lt, FitsSigned, to_z, of_z, Bool, true, false, if◌then◌else◌, Result, Ok, Err, arith, refl, sym, ap, subst, ◌∙◌}
use Rattle.std.specs.Int.{w16, w32}
use Rattle.std.proofs.lemmas.{Int.ints, Bool.{cond-true, ltb-true, ltb-false}}
use Rattle.lil_base.specs.{declared.fault.ArithFault.ArithFault, Words.{Whole, Cardinal, Integer, number_of, cardinal_result}}
use Rattle.lil_mcode.specs.{Control.{turns, turns_up}, Operators.word_result}

pub of_cardinal : (r : Result ℕ ArithFault) (v : Result ℤ ArithFault) → cardinal_result r ≡ v → r ≡ word_result v
of_cardinal (Ok n) v h = cc
of_cardinal (Err e) v h = cc

pub turns_down : (a b k : ℤ) → int_lt k (pos 0) ≡ true → turns a b k ≡ turns_up b a (neg_ℤ k)
turns_down a b k h = cond-true (int_lt k (pos 0)) (turns_up b a (neg_ℤ k)) (turns_up a b k) h

number_fits : (w : ℕ) → w < 65536 → FitsSigned w16 (number_of Integer w)
number_fits w h = by (nat_lt w 32768) refl
  where
    by : (b : Bool) → nat_lt w 32768 ≡ b → FitsSigned w16 (if b then pos w else negsuc (65535 - w))
    by true e = let l : w < 32768 = ltb-true w 32768 e in omega arith
    by false e = let l : 32768 ≤ w = ltb-false w 32768 e in omega arith

same_step : (k r : ℤ) → FitsSigned w16 k → r ≡ to_z w16 (of_z w16 k) → to_z w32 (of_z w32 r) ≡ k
same_step k r f e = omega (arith, ints)

wide_number : (t : Whole) (w : ℕ) → w < 65536 → to_z w32 (of_z w32 (number_of t w)) ≡ number_of t w
wide_number Cardinal w h = omega (arith, ints)
wide_number Integer w h = by (nat_lt w 32768) refl
  where
    by : (b : Bool) → nat_lt w 32768 ≡ b → to_z w32 (of_z w32 (if b then pos w else negsuc (65535 - w))) ≡ (if b then pos w else negsuc (65535 - w))
    by true e = omega (arith, ints)
    by false e = omega (arith, ints)

-- the number of a word as 32 bits have it
pub wide : (t : Whole) (w : ℕ) (z : ℤ) → w < 65536 → z ≡ number_of t w → to_z w32 (of_z w32 z) ≡ z
wide t w z h e = ap (λ (x : ℤ). to_z w32 (of_z w32 x)) e ∙ (wide_number t w h ∙ sym e)

-- a negative step as 32 bits have it
pub negative_step : (w : ℕ) (k r : ℤ) → w < 65536 → k ≡ number_of Integer w → r ≡ to_z w16 (of_z w16 k) → int_lt (to_z w32 (of_z w32 r)) (pos 0) ≡ true
    → (int_lt k (pos 0) ≡ true) × (to_z w32 (of_z w32 (pos 0 -ℤ to_z w32 (of_z w32 r))) ≡ neg_ℤ k)
negative_step w k r room e f h =
    let fits : FitsSigned w16 k = subst (FitsSigned w16) (sym e) (number_fits w room) in
    let same = same_step k r fits f in
    (ap (λ (z : ℤ). int_lt z (pos 0)) (sym same) ∙ h, rw same (omega (arith, ints)))
