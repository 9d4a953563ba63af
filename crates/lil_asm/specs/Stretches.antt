-- A stretch of some code where it stands: zeros before it, with which no instruction begins, and nothing behind it. So its instructions are
-- those of the code, and lie in the stretch.
use Rattle.std.proofs.Common.{◌≡◌, ℕ, zero, suc, ◌+◌, ◌*◌, ◌<◌, ◌≤◌, ◌⊎◌, inl, inr, Bool, true, false, List, [], ◌∷◌, length, Option, Some, None, option_and_then, slice_get, if◌then◌else◌, refl, sym, ap, ◌∙◌, subst, ⊎_elim, arith}
use Rattle.std.specs.Prelude.{nat_le}
use Rattle.std.proofs.lemmas.{Bool.{cases_lt, le-leb, leb-true}, Option.slice_get_within}
use Rattle.lil_asm.specs.declared.instr.Instr.{Instr}
use Rattle.lil_asm.specs.declared.instr.Instr.TheVariants.{Clx, Cas, Fri}
use Rattle.lil_asm.specs.Bytes.{word_at, with_byte, with_word, with_two_words, with_byte_word, with_call, with_entries, with_loop, row, row_0, row_2, row_3, row_4, row_5, row_6, row_7, decoded}

-- the bytes from a place up to another one
abbrev pub stretch : (from to : ℕ) → List ℕ → List ℕ
stretch from zero code = []
stretch from (suc to) [] = []
stretch zero (suc to) (b ∷ code) = b ∷ stretch zero to code
stretch (suc from) (suc to) (b ∷ code) = 0 ∷ stretch from to code

pub stretch_long : (from to : ℕ) (code : List ℕ) → to ≤ length code → length (stretch from to code) ≡ to
stretch_long from zero code h = refl
stretch_long from (suc to) [] h = absurd (omega arith)
stretch_long zero (suc to) (b ∷ code) h = ap suc (stretch_long zero to code (omega arith))
stretch_long (suc from) (suc to) (b ∷ code) h = ap suc (stretch_long from to code (omega arith))

pub stretch_short : (from to : ℕ) (code : List ℕ) → length (stretch from to code) ≤ length code
stretch_short from zero code = omega arith
stretch_short from (suc to) [] = omega arith
stretch_short zero (suc to) (b ∷ code) = omega (arith, stretch_short zero to code)
stretch_short (suc from) (suc to) (b ∷ code) = omega (arith, stretch_short from to code)

pub stretch_has : (from to : ℕ) (code : List ℕ) (j : ℕ) → from ≤ j → j < to → slice_get (stretch from to code) j ≡ slice_get code j
stretch_has from zero code j low high = absurd (omega arith)
stretch_has from (suc to) [] j low high = refl
stretch_has zero (suc to) (b ∷ code) zero low high = refl
stretch_has zero (suc to) (b ∷ code) (suc j) low high = stretch_has zero to code j (omega arith) (omega arith)
stretch_has (suc from) (suc to) (b ∷ code) zero low high = absurd (omega arith)
stretch_has (suc from) (suc to) (b ∷ code) (suc j) low high = stretch_has from to code j (omega arith) (omega arith)

-- its bytes are those of the code
pub stretch_kept : (from to : ℕ) (code : List ℕ) → to ≤ length code → (j b : ℕ) → from ≤ j → slice_get (stretch from to code) j ≡ Some b → slice_get code j ≡ Some b
stretch_kept from to code within j b low at =
    let l = slice_get_within (stretch from to code) j b at in
    sym (stretch_has from to code j low (omega (arith, l, stretch_long from to code within))) ∙ at

stretch_zero : (from to : ℕ) (code : List ℕ) (j b : ℕ) → j < from → slice_get (stretch from to code) j ≡ Some b → b ≡ 0
stretch_zero from zero code j b low is = cc
stretch_zero from (suc to) [] j b low is = cc
stretch_zero zero (suc to) (a ∷ code) j b low is = absurd (omega arith)
stretch_zero (suc from) (suc to) (a ∷ code) zero b low is = cc
stretch_zero (suc from) (suc to) (a ∷ code) (suc j) b low is = stretch_zero from to code j b (omega arith) is

-- ---- what is read in one list is read in another one
pub record IsKept {A : Type 0} (o q : Option A) : Type 0 where
  pub each : (a : A) → o ≡ Some a → q ≡ Some a

pub all_kept : {A : Type 0} (o : Option A) → IsKept o o
all_kept o = record { each = λ a h. h }

none_kept : {A : Type 0} (q : Option A) → IsKept None q
none_kept q = record { each = λ a h. cc }

pub then_kept : {A B : Type 0} (o q : Option A) (f g : A → Option B) → IsKept o q → ((a : A) → IsKept (f a) (g a)) → IsKept (option_and_then f o) (option_and_then g q)
then_kept None q f g h k = none_kept (option_and_then g q)
then_kept (Some a) q f g h k = subst (λ (q : Option _). IsKept (f a) (option_and_then g q)) (sym (h.each a refl)) (k a)

pub choice_kept : {A : Type 0} (test : Bool) (x y u v : Option A) → IsKept x u → IsKept y v → IsKept (if test then x else y) (if test then u else v)
choice_kept true x y u v f g = f
choice_kept false x y u v f g = g

module _ (part code : List ℕ) (p : ℕ) (same : (j b : ℕ) → p ≤ j → slice_get part j ≡ Some b → slice_get code j ≡ Some b) (long : length part ≤ length code) where
  byte_kept : (j : ℕ) → p ≤ j → IsKept (slice_get part j) (slice_get code j)
  byte_kept j low = record { each = λ b h. same j b low h }

  pub word_kept : (j : ℕ) → p ≤ j → IsKept (word_at part j) (word_at code j)
  word_kept j low = then_kept _ _ _ _ (byte_kept j low) (λ high. then_kept _ _ _ _ (byte_kept (j + 1) (omega arith)) (λ low. all_kept _))

  with_byte_kept : (make : ℕ → Instr) → IsKept (with_byte make part p) (with_byte make code p)
  with_byte_kept make = then_kept _ _ _ _ (byte_kept (p + 1) (omega arith)) (λ b. all_kept _)

  with_word_kept : (make : ℕ → Instr) → IsKept (with_word make part p) (with_word make code p)
  with_word_kept make = then_kept _ _ _ _ (word_kept (p + 1) (omega arith)) (λ w. all_kept _)

  two_kept : (make : ℕ → ℕ → Instr) → IsKept (with_two_words make part p) (with_two_words make code p)
  two_kept make = then_kept _ _ _ _ (word_kept (p + 1) (omega arith)) (λ v. then_kept _ _ _ _ (word_kept (p + 3) (omega arith)) (λ w. all_kept _))

  byte_word_kept : (make : ℕ → ℕ → Instr) → IsKept (with_byte_word make part p) (with_byte_word make code p)
  byte_word_kept make = then_kept _ _ _ _ (byte_kept (p + 1) (omega arith)) (λ n. then_kept _ _ _ _ (word_kept (p + 2) (omega arith)) (λ w. all_kept _))

  call_kept : IsKept (with_call part p) (with_call code p)
  call_kept = then_kept _ _ _ _ (byte_kept (p + 1) (omega arith)) (λ m. then_kept _ _ _ _ (byte_kept (p + 2) (omega arith)) (λ n. then_kept _ _ _ _ (word_kept (p + 3) (omega arith)) (λ a. all_kept _)))

  loop_kept : IsKept (with_loop part p) (with_loop code p)
  loop_kept = then_kept _ _ _ _ (word_kept (p + 1) (omega arith)) (λ o. then_kept _ _ _ _ (byte_kept (p + 3) (omega arith)) (λ s. then_kept _ _ _ _ (word_kept (p + 4) (omega arith)) (λ t. all_kept _)))

  room_kept : (n : ℕ) (o : Option (Instr × ℕ)) → IsKept (if nat_le n (length part) then o else None) (if nat_le n (length code) then o else None)
  room_kept n o = by (nat_le n (length part)) refl
    where
      by : (c : Bool) → nat_le n (length part) ≡ c → IsKept (if c then o else None) (if nat_le n (length code) then o else None)
      by true is = subst (λ (d : Bool). IsKept o (if d then o else None)) (sym (le-leb n (length code) (let l = leb-true n (length part) is in omega arith))) (all_kept o)
      by false is = none_kept _

  entries_kept : IsKept (with_entries part p) (with_entries code p)
  entries_kept = then_kept _ _ _ _ (word_kept (p + 1) (omega arith)) (λ n. then_kept _ _ _ _ (word_kept (p + 3) (omega arith)) (λ t. room_kept (p + 5 + 6 * n) (Some (Cas n t, p + 5))))

  row_kept : (b : ℕ) → IsKept (row b part p) (row b code p)
  unfolding row_0 row_2 row_3 row_4 row_5 row_6 row_7
  row_kept b = search (choice_kept, all_kept, with_byte_kept, with_word_kept, two_kept, byte_word_kept, call_kept, loop_kept, entries_kept) depth 60 fits 5000

  pub decoded_kept : (d : Instr × ℕ) → decoded part p ≡ Some d → decoded code p ≡ Some d
  unfolding decoded
  decoded_kept d h = (then_kept _ _ _ _ (byte_kept p (omega arith)) row_kept).each d h

no_row : (p : ℕ) (part : List ℕ) (d : Instr × ℕ) → row 0 part p ≡ Some d → ⊥
unfolding row_0
no_row p part d h = cc

-- an instruction of a stretch lies in it, and is one of the code
pub record IsInside (from to : ℕ) (code : List ℕ) (p : ℕ) (d : Instr × ℕ) : Type 0 where
  pub low : from ≤ p
  pub high : p < to
  pub there : decoded code p ≡ Some d

pub decoded_inside : (from to : ℕ) (code : List ℕ) (p : ℕ) (d : Instr × ℕ) → to ≤ length code → decoded (stretch from to code) p ≡ Some d → IsInside from to code p d
unfolding decoded
decoded_inside from to code p d within h = by (slice_get (stretch from to code) p) refl h
  where
    by : (o : Option ℕ) → slice_get (stretch from to code) p ≡ o → option_and_then (λ (b : ℕ). row b (stretch from to code) p) o ≡ Some d → IsInside from to code p d
    by None is h = absurd (cc)
    by (Some b) is h = ⊎_elim
        (λ (low : p < from). absurd (no_row p (stretch from to code) d (subst (λ (b : ℕ). row b (stretch from to code) p ≡ Some d) (stretch_zero from to code p b low is) h)))
        (λ (low : from ≤ p).
        let high : p < to = let l = slice_get_within (stretch from to code) p b is in omega (arith, l, stretch_long from to code within) in
        record {
          low = low;
          high = high;
          there = decoded_kept (stretch from to code) code p (λ j b above at. stretch_kept from to code within j b (omega (arith, low, above)) at)
              (omega (arith, stretch_long from to code within)) d (ap (option_and_then (λ (b : ℕ). row b (stretch from to code) p)) is ∙ h);
        })
        (cases_lt p from)
