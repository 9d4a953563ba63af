-- An instruction stands whole in the code, with as many bytes as it has.
use Rattle.std.proofs.Common.{◌≡◌, ℕ, ◌+◌, ◌*◌, ◌<◌, ◌≤◌, List, Option, Some, None, Bool, true, false, if◌then◌else◌, option_and_then, slice_get, length, refl, subst, arith}
use Rattle.std.proofs.lemmas.Option.{slice_get_within}
use Rattle.lil_asm.specs.declared.instr.Instr.{Instr}
use Rattle.lil_asm.specs.declared.instr.Instr.TheVariants.{Clx, Cas, Fri}
use Rattle.lil_asm.specs.Bytes.{word_at, with_byte, with_word, with_two_words, with_byte_word, with_call, with_entries, with_loop, row, row_0, row_2, row_3, row_4, row_5, row_6, row_7, decoded, bytes_of}

-- it begins at a place, lies within the code, and ends behind its bytes
pub record Stands (code : List ℕ) (p : ℕ) (d : Instr × ℕ) : Type 0 where
  pub later : p < d.1
  pub within : d.1 ≤ length code
  pub long : d.1 ≡ p + length (bytes_of d.0)

some_same : {A : Type 0} (x y : A) → Some x ≡ Some y → x ≡ y
some_same x y h = cc

bound : {A B : Type 0} (o : Option A) (f : A → Option B) (b : B) → option_and_then f o ≡ Some b → (a : A) × (o ≡ Some a) × (f a ≡ Some b)
bound None f b h = cc
bound (Some a) f b h = (a, refl, h)

word_within : (code : List ℕ) (p w : ℕ) → word_at code p ≡ Some w → p + 1 < length code
word_within code p w h =
    let x = bound (slice_get code p) (λ (high : ℕ). option_and_then (λ (low : ℕ). Some (high * 256 + low)) (slice_get code (p + 1))) w h in
    let y = bound (slice_get code (p + 1)) (λ (low : ℕ). Some (x.0 * 256 + low)) w x.2 in
    slice_get_within code (p + 1) y.0 y.1

-- what is read here, if anything is, stands
record AllStand (code : List ℕ) (p : ℕ) (o : Option (Instr × ℕ)) : Type 0 where
  each : (d : Instr × ℕ) → o ≡ Some d → Stands code p d

module _ (code : List ℕ) (p : ℕ) where
  -- an instruction of so many bytes
  stands : (i : Instr) (size : ℕ) → length (bytes_of i) ≡ size → 0 < size → p + size ≤ length code → AllStand code p (Some (i, p + size))
  stands i size is some room = record {
    each = λ d h. subst (Stands code p) (some_same (i, p + size) d h) (record { later = omega arith; within = omega arith; long = omega arith });
  }

  nothing : AllStand code p None
  nothing = record { each = λ d h. cc }

  behind : {A : Type 0} (o : Option A) (f : A → Option (Instr × ℕ)) → ((a : A) → o ≡ Some a → AllStand code p (f a)) → AllStand code p (option_and_then f o)
  behind None f g = nothing
  behind (Some a) f g = g a refl

  choice : (test : Bool) (x y : Option (Instr × ℕ)) → AllStand code p x → AllStand code p y → AllStand code p (if test then x else y)
  choice true x y f g = f
  choice false x y f g = g

  byte_stands : (make : ℕ → Instr) → ((b : ℕ) → length (bytes_of (make b)) ≡ 2) → AllStand code p (with_byte make code p)
  byte_stands make is = behind (slice_get code (p + 1)) _ (λ b e. let l = slice_get_within code (p + 1) b e in stands (make b) 2 (is b) (omega arith) (omega arith))

  word_stands : (make : ℕ → Instr) → ((w : ℕ) → length (bytes_of (make w)) ≡ 3) → AllStand code p (with_word make code p)
  word_stands make is = behind (word_at code (p + 1)) _ (λ w e. let l = word_within code (p + 1) w e in stands (make w) 3 (is w) (omega arith) (omega arith))

  two_stand : (make : ℕ → ℕ → Instr) → ((v w : ℕ) → length (bytes_of (make v w)) ≡ 5) → AllStand code p (with_two_words make code p)
  two_stand make is =
      behind (word_at code (p + 1)) _ (λ v _. behind (word_at code (p + 3)) _ (λ w e.
      let l = word_within code (p + 3) w e in stands (make v w) 5 (is v w) (omega arith) (omega arith)))

  byte_word_stands : (make : ℕ → ℕ → Instr) → ((n w : ℕ) → length (bytes_of (make n w)) ≡ 4) → AllStand code p (with_byte_word make code p)
  byte_word_stands make is =
      behind (slice_get code (p + 1)) _ (λ n _. behind (word_at code (p + 2)) _ (λ w e.
      let l = word_within code (p + 2) w e in stands (make n w) 4 (is n w) (omega arith) (omega arith)))

  loop_stands : AllStand code p (with_loop code p)
  loop_stands =
      behind (word_at code (p + 1)) _ (λ o _. behind (slice_get code (p + 3)) _ (λ s _. behind (word_at code (p + 4)) _ (λ t e.
      let l = word_within code (p + 4) t e in stands (Fri o s t) 6 refl (omega arith) (omega arith))))

  call_stands : AllStand code p (with_call code p)
  call_stands =
      behind (slice_get code (p + 1)) _ (λ m _. behind (slice_get code (p + 2)) _ (λ n _. behind (word_at code (p + 3)) _ (λ a e.
      let l = word_within code (p + 3) a e in stands (Clx m n a) 5 refl (omega arith) (omega arith))))

  entries_stand : AllStand code p (with_entries code p)
  entries_stand =
      behind (word_at code (p + 1)) _ (λ n _. behind (word_at code (p + 3)) _ (λ t e.
      let l = word_within code (p + 3) t e in choice _ _ _ (stands (Cas n t) 5 refl (omega arith) (omega arith)) nothing))

  row_stands : (b : ℕ) → p < length code → AllStand code p (row b code p)
  unfolding row_0 row_2 row_3 row_4 row_5 row_6 row_7
  row_stands b l =
      let one : (i : Instr) → length (bytes_of i) ≡ 1 → AllStand code p (Some (i, p + 1)) = λ i is. stands i 1 is (omega arith) (omega arith) in
      search (choice, nothing, one, byte_stands, word_stands, two_stand, byte_word_stands, loop_stands, call_stands, entries_stand) depth 60 fits 5000

pub decoded_stands : (code : List ℕ) (p : ℕ) (d : Instr × ℕ) → decoded code p ≡ Some d → Stands code p d
unfolding decoded
decoded_stands code p d h = (behind code p (slice_get code p) (λ (b : ℕ). row b code p) (λ b e. row_stands code p b (slice_get_within code p b e))).each d h
