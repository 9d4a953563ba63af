-- Comments, byte by byte, and as they are defined.
use Rattle.std.proofs.Common.{◌≡◌, ℕ, zero, suc, Bool, true, false, cond, ◌==◌, List, [], ◌∷◌, ◌++◌, Option, Some, refl, ap, sym, ◌∙◌, append_assoc}
use Rattle.std.proofs.lemmas.Bool.{eqb-true, and_parts}
use Rattle.lil_text.specs.Lexical.{opens, closes, IsAlone, IsInside, close, nested, other}
use Rattle.lil_lexer.specs.Pieces.{after_comment}

-- what a comment's end leaves, inside so many others
abbrev pub closed : ℕ → List ℕ → Option (List ℕ)
closed depth rest = elim depth [ zero ↦ Some rest | suc d ↦ after_comment 0 d rest ]

-- the insides of so many comments and one more, one after another
abbrev Insides : ℕ → List ℕ → List ℕ → Type 0
Insides zero bs rest = IsInside bs rest
Insides (suc d) bs rest = (mid : List ℕ) × IsInside bs mid × Insides d mid rest

open_more : (d : ℕ) (bs rest : List ℕ) → Insides (suc d) bs rest → Insides d (40 ∷ 42 ∷ bs) rest
open_more zero bs rest h = nested h.1 h.2
open_more (suc d) bs rest h = (h.2.0, nested h.1 h.2.1, h.2.2)

one_more : (d b : ℕ) (bs rest : List ℕ) → IsAlone b bs → Insides d bs rest → Insides d (b ∷ bs) rest
one_more zero b bs rest a h = other a h
one_more (suc d) b bs rest a h = (h.0, other a h.1, h.2)

abbrev Sound : List ℕ → List ℕ → Type 0
Sound bs rest = ((d : ℕ) → after_comment 0 d bs ≡ Some rest → Insides d bs rest) × ((p d : ℕ) → after_comment p d bs ≡ Some rest → Insides d (p ∷ bs) rest)

close_here : (d : ℕ) (bs rest : List ℕ) → Sound bs rest → closed d bs ≡ Some rest → Insides d (42 ∷ 41 ∷ bs) rest
close_here zero bs rest h e = let same : rest ≡ bs = cc in rw same close
close_here (suc d) bs rest h e = (bs, close, h.0 d e)

sound_by : (p c d : ℕ) (bs rest : List ℕ) → Sound bs rest → (o k : Bool) → opens p c ≡ o → closes p c ≡ k
    → cond o (after_comment 0 (suc d) bs) (cond k (closed d bs) (after_comment c d bs)) ≡ Some rest → Insides d (p ∷ c ∷ bs) rest
sound_by p c d bs rest h true k is is' e = let t = and_parts (p == 40) (c == 42) is in rw (eqb-true p 40 t.0, eqb-true c 42 t.1) (open_more d bs rest (h.0 (suc d) e))
sound_by p c d bs rest h false true is is' e = let t = and_parts (p == 42) (c == 41) is' in rw (eqb-true p 42 t.0, eqb-true c 41 t.1) (close_here d bs rest h e)
sound_by p c d bs rest h false false is is' e = one_more d p (c ∷ bs) rest (is, is') (h.1 c d e)

sound : (bs rest : List ℕ) → Sound bs rest
sound [] rest = (λ d e. absurd (cc), λ p d e. absurd (cc))
sound (c ∷ bs) rest = let h = sound bs rest in (λ d e. h.1 c d e, λ p d e. sound_by p c d bs rest h (opens p c) (closes p c) refl refl e)

pub comment_sound : (bs rest : List ℕ) → after_comment 0 0 bs ≡ Some rest → IsInside bs rest
comment_sound bs rest e = (sound bs rest).0 0 e

alone : (b d : ℕ) (bs : List ℕ) → IsAlone b bs → after_comment b d bs ≡ after_comment 0 d bs
alone b d [] h = refl
alone b d (c ∷ bs) h = rw (h.0, h.1)

pub comment_complete : {bs rest : List ℕ} → IsInside bs rest → (d : ℕ) → after_comment 0 d bs ≡ closed d rest
comment_complete close d = refl
comment_complete (nested h h') d = comment_complete h (suc d) ∙ comment_complete h' d
comment_complete (other {b = b} {bs = bs} a h) d = alone b d bs a ∙ comment_complete h d

-- the bytes of a comment before what is behind it
pub inside_splits : {bs rest : List ℕ} → IsInside bs rest → (inside : List ℕ) × (bs ≡ inside ++ rest)
inside_splits close = (42 ∷ 41 ∷ [], refl)
inside_splits (nested h h') =
    let a = inside_splits h in
    let b = inside_splits h' in
    (40 ∷ 42 ∷ (a.0 ++ b.0), ap (λ (bs : List ℕ). 40 ∷ 42 ∷ bs) (a.1 ∙ ap (λ (r : List ℕ). a.0 ++ r) b.1 ∙ sym (append_assoc a.0 b.0 _)))
inside_splits (other {b = b} a h) = let x = inside_splits h in (b ∷ x.0, ap (λ (bs : List ℕ). b ∷ bs) x.1)
