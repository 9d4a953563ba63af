-- The words of numbers.
use Rattle.std.proofs.Common.{◌≡◌, ℕ, sym, ap, ◌∙◌, subst, ℤ, pos, negsuc, ◌≤ℤ◌, rules, w32, to_z, of_z}
use mir.Val.{SFits}
use Rattle.std.proofs.lemmas.Int.{ints, to_z-of_z}
use Rattle.lil_base.specs.Words.{word_of}

-- what is said of the word of a number that is held in 32 bits
pub number_word : (z : ℤ) (w : ℕ) → (to_z w32 (of_z w32 z) ≤ℤ pos 65535 → w ≡ word_of (to_z w32 (of_z w32 z)))
    → (negsuc 32767 ≤ℤ z) × (z ≤ℤ pos 65535) → w ≡ word_of z
number_word z w told ends =
    let small : SFits w32 z = search (rules, ints, ends.0, ends.1) in
    let number = to_z-of_z w32 z small in
    told (subst (λ (z : ℤ). z ≤ℤ pos 65535) (sym number) ends.1) ∙ ap word_of number
