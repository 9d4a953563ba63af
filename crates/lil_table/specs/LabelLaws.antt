-- The labels of a sound arm are numbers of the type as which words are compared.
use Rattle.std.proofs.Common.{◌≡◌, ◌-◌, pos, true, false, refl, sym, ap, ◌∙◌, arith}
use Rattle.std.proofs.lemmas.{Int.ints, Bool.leb-true}
use Rattle.lil_base.specs.{Words.in_type, Laws.{in_range, bounds}}
use Rattle.lil_resolved.specs.{Kinds.{Kind, OfWhole, OfTruth, OfCharacter, OfEnumeration, is_ordinal, compared_as, Scalar, Number, Truth, Character, within, scalar_of, ordinal_of}, Resolved.Label, Sound.IsSoundLabel}

-- the number of a value of a kind is a number of the type as which the kind's words are compared
pub ordinal_in : (k : Kind) (v : Scalar) → is_ordinal k ≡ true → within k v ≡ true → in_type (compared_as k) (ordinal_of v) ≡ true
ordinal_in (OfWhole t) (Number z) base h = h
ordinal_in OfTruth (Truth true) base h = refl
ordinal_in OfTruth (Truth false) base h = refl
ordinal_in OfCharacter (Character c) base h = in_range (pos 0) (pos c) (pos 65535) (omega (arith, ints)) (let e = leb-true c 255 h in omega (arith, ints))
ordinal_in (OfEnumeration n) (Number z) base h =
    let e = leb-true n 65535 base in
    let b = bounds (pos 0) z (pos (n - 1)) h in
    in_range (pos 0) z (pos 65535) (omega (arith, ints, b.0)) (omega (arith, ints, b.1))
ordinal_in k v base h = cc

pub label_in : (k : Kind) (label : Label) → is_ordinal k ≡ true → IsSoundLabel k label → (in_type (compared_as k) label.low ≡ true) × (in_type (compared_as k) label.high ≡ true)
label_in k label base sound = (
  ap (in_type (compared_as k)) (sym sound.lower_number) ∙ ordinal_in k (scalar_of k label.low) base sound.lower,
  ap (in_type (compared_as k)) (sym sound.upper_number) ∙ ordinal_in k (scalar_of k label.high) base sound.upper,
)
