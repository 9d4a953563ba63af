-- Names and wanteds, which several formats have.
use Rattle.std.proofs.Common.{◌≡◌, ℕ, ◌<◌, ◌≤◌, Bool, true, ◌&&◌, not, List, [], ◌∷◌, length, refl, arith}
use Rattle.std.specs.Prelude.{nat_le}
use Rattle.std.specs.List.{list_any, list_all}
use Rattle.std.proofs.lemmas.Bool.{and_parts, Decides.nat_tests}
use Rattle.lil_base.specs.Names.{is_letter, is_name_byte, is_name}
use Rattle.lil_format.specs.declared.name.Wanted.{Wanted}
use Rattle.lil_format.specs.Format.{Format, text, ◌>>=◌, shape, same, plain, Fits}
use Rattle.lil_format.specs.Reading.{u1, u4}

abbrev pub name_long : ℕ → Bool
name_long n = nat_le 1 n && nat_le n 64

unfoldable pub name : Format (List ℕ)
name = text u1 name_long is_name

-- ---- a name that none of those before is
abbrev pub is_among : List (List ℕ) → List ℕ → Bool
is_among names t = list_any (λ n. same t n) names

abbrev pub is_new : List (List ℕ) → List ℕ → Bool
is_new names t = is_name t && not (is_among names t)

unfoldable pub name_but : List (List ℕ) → Format (List ℕ)
name_but seen = text u1 name_long (is_new seen)

-- ---- a module with the key of its definition
unfoldable pub wanted : Format Wanted
wanted = shape (λ p. record { name = p.0; key = record { 0 = p.1 } }) (λ w. (w.name, w.key.0)) (λ p. refl) (name >>= λ n. plain u4)

-- ---- what has these forms
few : (c : ℕ) (cs : List ℕ) → is_name (c ∷ cs) ≡ true → length cs ≤ 63
few c cs h =
    let short : nat_le (length cs) 63 ≡ true = (and_parts (nat_le (length cs) 63) (list_all is_name_byte cs) (and_parts (is_letter c) _ h).1).0 in
    grind (arith, nat_tests)

pub name_short : (t : List ℕ) → is_name t ≡ true → length t < 256
name_short [] h = omega arith
name_short (c ∷ cs) h = omega (arith, few c cs h)

pub name_fits : (t : List ℕ) → is_name t ≡ true → Fits name t
unfolding name Fits
name_fits [] h = absurd cc
name_fits (c ∷ cs) h =
    let size : length cs ≤ 63 = few c cs h in
    (grind (arith, nat_tests), name_short (c ∷ cs) h, h)

pub wanted_fits : (w : Wanted) → is_name w.name ≡ true → w.key.0 < 4294967296 → Fits wanted w
unfolding wanted Fits
wanted_fits w h k = (refl, (name_fits w.name h, (refl, k)))
