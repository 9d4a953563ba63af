-- Bytes are characters.
use Rattle.std.proofs.Common.{◌≡◌, ℕ, suc, ◌<◌, Bool, true, ◌&&◌, List, [], ◌∷◌, get_or, Fits, w8, refl, arith}
use Rattle.std.proofs.lemmas.Bool.Decides.{nat_tests}
use Rattle.lil_resolved.specs.Sound.{is_character, is_text}

one_more : (c : ℕ) (b : Bool) → c < 256 → b ≡ true → (is_character c && b) ≡ true
one_more c b h j = grind (arith, nat_tests, h, j)

pub bytes_are : (cs : List ℕ) → ((i : ℕ) → Fits w8 (get_or cs i 0)) → is_text cs ≡ true
bytes_are [] h = refl
bytes_are (c ∷ cs) h = one_more c (is_text cs) (h 0).fits (bytes_are cs (λ i. h (suc i)))
