-- Which bytes begin a piece: letters, digits, marks of strings, and marks.
use Rattle.std.proofs.Common.{◌≡◌, ℕ, false, true, List, [], ◌∷◌, Some, None, arith}
use Rattle.std.proofs.lemmas.Bool.Decides.{nat_tests}
use Rattle.lil_base.specs.Names.{is_letter, is_digit}
use Rattle.lil_text.specs.{declared.token.TokenKind.TokenKind, Cuts.is_blank, Lexical.{opens, is_quote, pair, single, NoPair}}

pub letter_plain : (b : ℕ) → is_letter b ≡ true → is_blank b ≡ false
letter_plain b h = grind (arith, nat_tests)

pub digit_plain : (b : ℕ) → is_digit b ≡ true → (is_blank b ≡ false) × (is_letter b ≡ false)
digit_plain b h = grind (arith, nat_tests)

pub quote_plain : (b : ℕ) → is_quote b ≡ true → (is_blank b ≡ false) × (is_letter b ≡ false) × (is_digit b ≡ false)
quote_plain b h = grind (arith, nat_tests)

-- the byte of a mark
abbrev pub Plain : ℕ → Type 0
Plain b = (is_blank b ≡ false) × (is_letter b ≡ false) × (is_digit b ≡ false) × (is_quote b ≡ false)

pub single_plain : (b : ℕ) (x : TokenKind) → single b ≡ Some x → Plain b
single_plain b x e = grind (arith, nat_tests)

pub pair_plain : (b c : ℕ) (x : TokenKind) → pair b c ≡ Some x → Plain b × (opens b c ≡ false)
pair_plain b c x e = grind (arith, nat_tests)

never_pairs : (b c : ℕ) → single b ≡ None → (pair b c ≡ None) × (opens b c ≡ false)
never_pairs b c e = grind (arith, nat_tests)

pub no_pair : (b : ℕ) (bs : List ℕ) → single b ≡ None → NoPair b bs
no_pair b [] e = tt
no_pair b (c ∷ cs) e = never_pairs b c e
