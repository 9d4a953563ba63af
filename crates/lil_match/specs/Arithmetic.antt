-- The words of values say their numbers, and results lie in their type.
use Rattle.std.proofs.Common.{◌≡◌, ◌==◌, Bool, true, false, cond, not, Result, Ok, Err, refl, sym, ap, ◌∙◌, arith}
use Rattle.std.specs.Prelude.{ℤ, pos, ◌-ℤ◌, ◌≤ℤ◌, nat_abs}
use Rattle.std.proofs.lemmas.{Int.ints}
use Rattle.lil_base.specs.{Words.{Whole, Cardinal, Integer, in_type, is_zero, kept, sum, difference, product, quotient, remainder, negation, absolute, number_of, word_of}, declared.fault.ArithFault.{ArithFault, TheVariants.DivZero}, Laws.{number_of-word, kept_ok}}
use Rattle.lil_resolved.specs.Kinds.{Kind, OfWhole, OfTruth, OfCharacter, OfEnumeration, OfSet, OfPointer, OfProcedure, is_base, compared_as, Scalar, Number, Truth, Character, SetOf, ToObject, ToWorkspace, ToProcedure, Nil, within, scalar_word, ordinal_of}
use Rattle.lil_meaning.specs.Steps.{whole_of, is_same, is_other}
use Rattle.lil_mcode.specs.Control.{above}

-- a value's word is its number's
pub word_is : (v : Scalar) → scalar_word v ≡ word_of (ordinal_of v)
word_is (Number z) = refl
word_is _ = refl

-- the word of a value of a kind that compares says its number
pub reads_ordinal : (k : Kind) (v : Scalar) → is_base k ≡ true → within k v ≡ true → number_of (compared_as k) (scalar_word v) ≡ ordinal_of v
reads_ordinal (OfWhole t) (Number z) base h = number_of-word t z h
reads_ordinal OfTruth (Truth b) base h = refl
reads_ordinal OfCharacter (Character c) base h = refl
reads_ordinal (OfEnumeration n) (Number (pos z)) base h = refl
reads_ordinal OfSet (SetOf s) base h = refl
reads_ordinal (OfPointer to) (ToObject o) base h = refl
reads_ordinal (OfPointer to) (ToWorkspace w) base h = refl
reads_ordinal (OfPointer to) Nil base h = refl
reads_ordinal (OfProcedure n) (ToProcedure m p) base h = refl
reads_ordinal (OfProcedure n) Nil base h = refl
reads_ordinal k v base h = cc

pub reads : (t : Whole) (v : Scalar) → within (OfWhole t) v ≡ true → number_of t (scalar_word v) ≡ whole_of v
reads t (Number z) h = number_of-word t z h
reads t v h = cc

self_same : (x : ℤ) → is_same x x ≡ true
self_same x = grind (arith, ints)

same_is : (x y : ℤ) → is_same x y ≡ true → x ≡ y
same_is x y h = grind (arith, ints)

-- numbers that their words say are the same where their words are
pub same_words : (t : Whole) (x y : ℤ) → number_of t (word_of x) ≡ x → number_of t (word_of y) ≡ y → (word_of x == word_of y) ≡ is_same x y
same_words t x y first second = grind (arith, ints)

pub other_is : (x y : ℤ) → is_other x y ≡ not (is_same x y)
other_is x y = grind (arith, ints)

-- a result lies in its type
kept_fits : (t : Whole) (z y : ℤ) → kept t z ≡ Ok y → in_type t y ≡ true
kept_fits t z y e =
    let p = kept_ok t z y e in
    ap (in_type t) (sym p.0) ∙ p.1

divided_fits : (t : Whole) (none : Bool) (z y : ℤ) → cond none (Err DivZero) (kept t z) ≡ Ok y → in_type t y ≡ true
divided_fits t true z y e = cc
divided_fits t false z y e = kept_fits t z y e

-- an operation whose results lie in their type
abbrev pub Fitting : (Whole → ℤ → ℤ → Result ℤ ArithFault) → Type 0
Fitting f = (t : Whole) (x y z : ℤ) → f t x y ≡ Ok z → in_type t z ≡ true

pub sum_fits : Fitting sum
sum_fits t x y z e = kept_fits t _ z e

pub difference_fits : Fitting difference
difference_fits t x y z e = kept_fits t _ z e

pub product_fits : Fitting product
product_fits t x y z e = kept_fits t _ z e

pub quotient_fits : Fitting quotient
quotient_fits t x y z e = divided_fits t (is_zero y) _ z e

pub remainder_fits : Fitting remainder
remainder_fits t x y z e = divided_fits t (is_zero y) _ z e

pub negation_fits : (t : Whole) (x z : ℤ) → negation t x ≡ Ok z → in_type t z ≡ true
negation_fits t x z e = kept_fits t _ z e

pub absolute_fits : (t : Whole) (x z : ℤ) → absolute t x ≡ Ok z → in_type t z ≡ true
absolute_fits t x z e = kept_fits t (pos (nat_abs x)) z e

-- how far a word lies above another one
pub above_more : (t : Whole) (low z : ℤ) → in_type t low ≡ true → in_type t z ≡ true → low ≤ℤ z → pos (above (word_of low) (word_of z)) ≡ z -ℤ low
above_more Cardinal low z first second order = grind (arith, ints)
above_more Integer low z first second order = grind (arith, ints)
