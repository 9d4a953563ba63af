-- The digits of a number, from the last one on.
use Rattle.std.proofs.Common.{◌≡◌, ℕ, zero, suc, ◌+◌, ◌*◌, ◌/◌, ◌%◌, ◌<◌, ◌≤◌, Bool, if◌then◌else◌, List, [], ◌∷◌, ◌++◌, length, reverse, sym, ap, ◌∙◌, arith, append_assoc, length-append}
use Rattle.std.proofs.lemmas.{Bool.{lt-ltb, le-ltb}, List.{append-nil, reverse-append}, Nat.{div_below, mul-le}}
use Rattle.lil_meaning.specs.World.{digit, digits, natural}

-- what is below has at most so many digits more than one, to each base of at least 8
abbrev pub most : ℕ → ℕ
most zero = 2
most (suc more) = most more * 8

-- the digits of the rest, and then those that are there, are those of the number
pub record Left (base number : ℕ) (text : List ℕ) (rest : ℕ) : Type 0 where
  pub more : ℕ
  pub count : more + length text ≡ 5
  pub below : rest < most more
  pub same : digits base more rest ++ reverse text ≡ natural base number

pub all_left : (base number : ℕ) (text : List ℕ) → text ≡ [] → number < 65536 → Left base number text number
all_left base number text none small = record {
  more = 5;
  count = ap (λ (l : List ℕ). 5 + length l) none;
  below = small;
  same = ap (λ (l : List ℕ). natural base number ++ reverse l) none ∙ append-nil (natural base number);
}

module _ (base number : ℕ) (text : List ℕ) (rest : ℕ) (left : Left base number text rest) where
  -- one digit goes to the others
  pub next_left : 8 ≤ base → base ≤ rest → Left base number (text ++ digit (rest % base) ∷ []) (rest / base)
  next_left least more = by left.more left.count left.below left.same
    where
      by : (m : ℕ) → m + length text ≡ 5 → rest < most m → digits base m rest ++ reverse text ≡ natural base number → Left base number (text ++ digit (rest % base) ∷ []) (rest / base)
      by zero count below same = absurd (omega arith)
      by (suc m) count below same =
          let wide : most m * 8 ≤ most m * base = mul-le (most m) 8 (most m) base (omega arith) least in
          let split : digits base (suc m) rest ≡ digits base m (rest / base) ++ digit (rest % base) ∷ [] =
          ap (λ (b : Bool). if b then digit rest ∷ [] else (digits base m (rest / base) ++ digit (rest % base) ∷ [])) (le-ltb rest base more) in
          record {
            more = m;
            count = omega (arith, count, length-append text (digit (rest % base) ∷ []));
            below = div_below rest base (most m) (omega arith) (omega arith);
            same =
                ap (λ (l : List ℕ). digits base m (rest / base) ++ l) (reverse-append text (digit (rest % base) ∷ []))
                ∙ sym (append_assoc (digits base m (rest / base)) (digit (rest % base) ∷ []) (reverse text))
                ∙ ap (λ (l : List ℕ). l ++ reverse text) (sym split) ∙ same;
          }

  -- the last one to come is the first of the text
  pub none_left : rest < base → reverse (text ++ digit rest ∷ []) ≡ natural base number
  none_left less = reverse-append text (digit rest ∷ []) ∙ by left.more left.same
    where
      by : (m : ℕ) → digits base m rest ++ reverse text ≡ natural base number → digit rest ∷ reverse text ≡ natural base number
      by zero same = same
      by (suc m) same =
          let one : digits base (suc m) rest ≡ digit rest ∷ [] =
          ap (λ (b : Bool). if b then digit rest ∷ [] else (digits base m (rest / base) ++ digit (rest % base) ∷ [])) (lt-ltb rest base less) in
          ap (λ (l : List ℕ). l ++ reverse text) (sym one) ∙ same
