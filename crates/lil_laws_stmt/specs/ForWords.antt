-- The turns of a FOR: the machine counts them as the meaning does, each value fits, and the words follow one another as the values do.
use Rattle.std.proofs.Common.{◌≡◌, ℕ, zero, suc, ◌+◌, ◌-◌, ◌*◌, ◌/◌, ◌%◌, ◌<◌, ◌≤◌, ℤ, pos, negsuc, ◌+ℤ◌, ◌-ℤ◌, nat_abs, int_lt, int_div, Bool, true, false, cond, ◌==◌, refl, sym, ap, ◌∙◌, subst, arith}
use Rattle.std.proofs.{lemmas.{Int.ints, Bool.{ne_eqb, le-ltb}}, Math.Nat.{mul-div-le, div-le_self}}
use Rattle.lil_base.specs.{Words.{Whole, Cardinal, Integer, in_type, number_of, word_of}, Laws.{number_of-word, bounds, in_range}}
use Rattle.lil_resolved.specs.{Kinds.{Kind, is_base, compared_as}, Sound.IsStep}
use Rattle.lil_meaning.specs.Steps as meaning
use Rattle.lil_mcode.specs.Control as machine
use Rattle.lil_table.specs.Rows.{loop_sign}
use Rattle.lil_match.specs.{Parts.no, Ranges.{has, has_type}, Waits.TurnsFit}

-- a number in its type has a word of 16 bits
pub word_small : (t : Whole) (z : ℤ) → in_type t z ≡ true → word_of z < 65536
word_small Cardinal (pos n) h = let b = bounds (pos 0) (pos n) (pos 65535) h in omega (arith, ints)
word_small Integer (pos n) h = let b = bounds (negsuc 32767) (pos n) (pos 32767) h in omega (arith, ints)
word_small _ _ h = omega arith

-- the word of what is left of n, less k and one
less_word : (n k : ℕ) → n < 65536 → k < 65536 → (n + (65535 - k)) % 65536 ≡ word_of (pos n +ℤ negsuc k) % 65536
less_word n k small less = grind (arith, ints)

negative_small : (t : Whole) (n : ℕ) → in_type t (negsuc n) ≡ true → n < 32768
negative_small Cardinal n h = cc
negative_small Integer n h = let b = bounds (negsuc 32767) (negsuc n) (pos 32767) h in omega (arith, ints)

-- the value of the next turn has the word that the machine's sum is
pub next_word : (t : Whole) (z step : ℤ) → in_type t z ≡ true → IsStep step → (word_of z + word_of step) % 65536 ≡ word_of (z +ℤ step) % 65536
next_word t (pos n) (pos k) h s = refl
next_word t (pos n) (negsuc k) h s = less_word n k (word_small t (pos n) h) (omega (arith, ints, s.lower))
next_word t (negsuc n) (pos k) h s = grind (arith, ints, s.upper, negative_small t n h)
next_word t (negsuc n) (negsuc k) h s = grind (arith, ints, s.lower, negative_small t n h)

-- a step's word isn't zero
pub step_some : (step : ℤ) → IsStep step → (word_of step == 0) ≡ false
step_some (pos zero) s = absurd (s.some refl)
step_some (pos (suc n)) s = ne_eqb (suc n) 0 (λ e. omega arith)
step_some (negsuc n) s = ne_eqb (65535 - n) 0 (λ e. omega (arith, ints, s.lower))

step_in : (step : ℤ) → IsStep step → in_type Integer step ≡ true
step_in step s = in_range (negsuc 32767) step (pos 32767) s.lower s.upper

-- how far a bound lies above the other one
distance : (a b : ℤ) → int_lt b a ≡ false → (d : ℕ) × (b -ℤ a ≡ pos d)
distance a b h = by (b -ℤ a) refl
  where
    by : (z : ℤ) → b -ℤ a ≡ z → (d : ℕ) × (b -ℤ a ≡ pos d)
    by (pos d) e = (d, e)
    by (negsuc d) e = absurd (omega (arith, ints))

-- how often a loop turns that goes up
abbrev climb : ℤ → ℤ → ℕ → ℕ
climb a b n = cond (int_lt b a) 0 (nat_abs (b -ℤ a) / n + 1)

climbs : (a b : ℤ) (n : ℕ) → machine.turns_up a b (pos n) ≡ climb a b n
climbs a b n = by (int_lt b a) refl
  where
    by : (t : Bool) → int_lt b a ≡ t → cond t 0 (nat_abs (int_div (b -ℤ a) (pos n)) + 1) ≡ cond t 0 (nat_abs (b -ℤ a) / n + 1)
    by true e = refl
    by false e = let d = distance a b e in ap (λ (z : ℤ). nat_abs (int_div z (pos n)) + 1) d.1 ∙ ap (λ (z : ℤ). nat_abs z / n + 1) (sym d.1)

same_turns : (a b step : ℤ) → machine.turns a b step ≡ meaning.turns a b step
same_turns a b (pos n) = no (int_lt (pos n) (pos 0)) _ _ (le-ltb n 0 (omega arith)) ∙ climbs a b n
same_turns a b (negsuc n) = climbs b a (suc n) ∙ ap (climb b a) (let e : suc n ≡ n + 1 = omega arith in e)

sign_type : (t : Whole) → machine.loop_type (loop_sign t) ≡ t
sign_type Cardinal = refl
sign_type Integer = refl

-- the machine reads the bounds and the step from their words
pub turns_read : (t : Whole) (a b step : ℤ) → in_type t a ≡ true → in_type t b ≡ true → IsStep step
    → machine.turns (number_of (machine.loop_type (loop_sign t)) (word_of a)) (number_of (machine.loop_type (loop_sign t)) (word_of b)) (number_of Integer (word_of step)) ≡ meaning.turns a b step
turns_read t a b step fits limit s =
    ap (λ (u : Whole). machine.turns (number_of u (word_of a)) (number_of u (word_of b)) (number_of Integer (word_of step))) (sign_type t)
    ∙ ap (λ (x : ℤ). machine.turns x (number_of t (word_of b)) (number_of Integer (word_of step))) (number_of-word t a fits)
    ∙ ap (λ (x : ℤ). machine.turns a x (number_of Integer (word_of step))) (number_of-word t b limit)
    ∙ ap (machine.turns a b) (number_of-word Integer step (step_in step s))
    ∙ same_turns a b step

-- So many turns up, whose steps pass no limit, have numbers of the kind
fits_up : (k : Kind) (n left d : ℕ) (x : ℤ) → n * left ≤ d → has k x ≡ true → has k (x +ℤ pos d) ≡ true → TurnsFit k (x +ℤ pos n) (pos n) left
fits_up k n zero d x few low high = tt
fits_up k n (suc left) d x few low high =
    let e : n * suc left ≡ n + n * left = omega arith in
    let same : (x +ℤ pos n) +ℤ pos (d - n) ≡ x +ℤ pos d = omega (arith, ints) in
    let here : has k (x +ℤ pos n) ≡ true = grind (arith, ints) in
    (here, fits_up k n left (d - n) (x +ℤ pos n) (omega arith) here (ap (has k) same ∙ high))

fits_down : (k : Kind) (n left d : ℕ) (x : ℤ) → suc n * left ≤ d → has k x ≡ true → has k (x -ℤ pos d) ≡ true → TurnsFit k (x +ℤ negsuc n) (negsuc n) left
fits_down k n zero d x few low high = tt
fits_down k n (suc left) d x few low high =
    let e : suc n * suc left ≡ suc n + suc n * left = omega arith in
    let same : (x +ℤ negsuc n) -ℤ pos (d - suc n) ≡ x -ℤ pos d = omega (arith, ints) in
    let here : has k (x +ℤ negsuc n) ≡ true = grind (arith, ints) in
    (here, fits_down k n left (d - suc n) (x +ℤ negsuc n) (omega arith) here (ap (has k) same ∙ high))

-- the turns behind the first one come as far as the distance of the bounds at most
climbed : (a b : ℤ) (n left : ℕ) → climb a b n ≡ suc left → (d : ℕ) × (b -ℤ a ≡ pos d) × (n * left ≤ d) × (left ≤ d)
climbed a b n left = by (int_lt b a) refl
  where
    by : (c : Bool) → int_lt b a ≡ c → cond c 0 (nat_abs (b -ℤ a) / n + 1) ≡ suc left → (d : ℕ) × (b -ℤ a ≡ pos d) × (n * left ≤ d) × (left ≤ d)
    by true e h = absurd (omega (arith, h))
    by false e h =
        let d = distance a b e in
        let is : left ≡ d.0 / n = omega (arith, h, ap (λ (z : ℤ). nat_abs z / n) d.1) in
        (d.0, d.1, subst (λ (x : ℕ). n * x ≤ d.0) (sym is) (mul-div-le d.0 n), omega (arith, is, div-le_self d.0 n))

-- numbers of a type lie less than 65536 apart
apart : (t : Whole) (a b : ℤ) (d : ℕ) → in_type t a ≡ true → in_type t b ≡ true → b -ℤ a ≡ pos d → d < 65536
apart Cardinal a b d low high e = grind (arith, ints)
apart Integer a b d low high e = grind (arith, ints)

-- the turns behind the first one have numbers of the kind, and are fewer than 65536
pub turns_few : (k : Kind) (a b step : ℤ) (left : ℕ) → is_base k ≡ true → has k a ≡ true → has k b ≡ true → meaning.turns a b step ≡ suc left → TurnsFit k (a +ℤ step) step left × (left < 65536)
turns_few k a b (pos n) left base fits limit h =
    let c = climbed a b n left h in
    let same : a +ℤ pos c.0 ≡ b = omega (arith, ints, c.1) in
    (fits_up k n left c.0 a c.2 fits (ap (has k) same ∙ limit), omega (arith, c.3, apart (compared_as k) a b c.0 (has_type k a base fits) (has_type k b base limit) c.1))
turns_few k a b (negsuc n) left base fits limit h =
    let c = climbed b a (n + 1) left h in
    let same : a -ℤ pos c.0 ≡ b = omega (arith, ints, c.1) in (
      fits_down k n left c.0 a (subst (λ (i : ℕ). i * left ≤ c.0) (let e : n + 1 ≡ suc n = omega arith in e) c.2) fits (ap (has k) same ∙ limit),
      omega (arith, c.3, apart (compared_as k) b a c.0 (has_type k b base limit) (has_type k a base fits) c.1),
    )
