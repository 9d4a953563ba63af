-- Code some of whose bytes are numbers of imports, and what loading makes of it.
use Rattle.std.proofs.Common.{◌≡◌, ℕ, List, [], ◌∷◌, length, get_or, refl, ◌∙◌}
use Rattle.std.specs.Prelude.{slice_set}
use Rattle.std.proofs.lemmas.List.{length-set}

-- the code where the byte at each of these places, one after another, is what a function makes of it
abbrev pub patched : (ℕ → ℕ) → List ℕ → List ℕ → List ℕ
patched f code [] = code
patched f code (p ∷ ps) = patched f (slice_set code p (f (get_or code p 0))) ps

-- it has as many bytes
pub patched_long : (f : ℕ → ℕ) (code ps : List ℕ) → length (patched f code ps) ≡ length code
patched_long f code [] = refl
patched_long f code (p ∷ ps) = patched_long f (slice_set code p (f (get_or code p 0))) ps ∙ length-set code p (f (get_or code p 0))
