-- The numbers of a kind: its values are those from its least to its greatest.
use Rattle.std.proofs.Common.{◌≡◌, ℕ, zero, suc, ◌==◌, Bool, true, false, cond, ◌&&◌, Some, None, refl, sym, ap, ◌∙◌, arith}
use Rattle.std.specs.Prelude.{ℤ, pos, negsuc, ◌≤ℤ◌, nat_le}
use Rattle.std.proofs.lemmas.{Bool.{and_parts, and_from, eqb-true, leb-true, Decides.nat_tests}, Int.ints}
use Rattle.lil_base.specs.{Words.{in_type, between}, Laws.{in_range, bounds}, SetLaws.set_below}
use Rattle.lil_base.specs.Sets as sets
use Rattle.lil_resolved.specs.MemberLaws.{word_of_set}
use Rattle.lil_resolved.specs.Kinds.{Pointee, Objects, Workspaces, Kind, OfWhole, OfTruth, OfCharacter, OfEnumeration, OfSet, OfPointer, OfProcedure, OfRange, base_of, is_base, is_ordinal, is_plain, same_pointee, same_pointer, same_procedures, takes_value, compared_as, larger, least, greatest, Scalar, Number, Truth, Character, SetOf, ToObject, ToWorkspace, ToProcedure, Nil, within, scalar_of, ordinal_of, value_with}

-- a number is one of the kind's
abbrev pub has : Kind → ℤ → Bool
has k z = between (least k) z (greatest k)

-- the larger of two
pub larger_right : (x y : ℤ) → y ≤ℤ larger x y
larger_right x y = grind (arith, ints)

-- a number lies in a part exactly where it lies in the range and in what the part was taken from
pub has_range : (base : Kind) (low high z : ℤ) → has (OfRange base low high) z ≡ (between low z high && has base z)
has_range base low high z = grind (arith, ints)

-- ---- values
-- the value with a number is there exactly where the number is the kind's
pub value_where : (k : Kind) (z : ℤ) → value_with k z ≡ cond (has k z) (Some (scalar_of k z)) None
value_where (OfWhole t) z = refl
value_where OfTruth z = refl
value_where OfCharacter z = refl
value_where (OfEnumeration n) z = refl
value_where OfSet z = refl
value_where (OfPointer n) z = refl
value_where (OfProcedure n) z = refl
value_where (OfRange base low high) z =
    by (between low z high) (value_where base z)
    ∙ ap (λ (b : Bool). cond b (Some (scalar_of base z)) None) (sym (has_range base low high z))
  where
    by : (a : Bool) → value_with base z ≡ cond (has base z) (Some (scalar_of base z)) None → cond a (value_with base z) None ≡ cond (a && has base z) (Some (scalar_of base z)) None
    by true e = e
    by false e = refl

pub value_is : (k : Kind) (z : ℤ) → has k z ≡ true → value_with k z ≡ Some (scalar_of k z)
value_is k z h = value_where k z ∙ ap (λ (b : Bool). cond b (Some (scalar_of k z)) None) h

pub value_none : (k : Kind) (z : ℤ) → has k z ≡ false → value_with k z ≡ None
value_none k z h = value_where k z ∙ ap (λ (b : Bool). cond b (Some (scalar_of k z)) None) h

-- it has that number
pub number_is : (k : Kind) (z : ℤ) → has k z ≡ true → ordinal_of (scalar_of k z) ≡ z
number_is (OfWhole t) z h = refl
number_is OfTruth (pos zero) h = refl
number_is OfTruth (pos (suc zero)) h = refl
number_is OfTruth (pos (suc (suc n))) h = let b = bounds (pos 0) (pos (suc (suc n))) (pos 1) h in absurd (omega (arith, ints, b.1))
number_is OfTruth (negsuc n) h = cc
number_is OfCharacter (pos n) h = refl
number_is OfCharacter (negsuc n) h = cc
number_is (OfEnumeration n) z h = refl
number_is OfSet (pos n) h = let b = bounds (pos 0) (pos n) (pos 65535) h in ap pos (word_of_set n (omega (arith, ints, b.1)))
number_is OfSet (negsuc n) h = cc
number_is (OfPointer n) (pos zero) h = refl
number_is (OfPointer n) (pos (suc m)) h = let b = bounds (pos 0) (pos (suc m)) (pos 0) h in absurd (omega (arith, ints, b.1))
number_is (OfPointer n) (negsuc m) h = cc
number_is (OfProcedure n) (pos zero) h = refl
number_is (OfProcedure n) (pos (suc m)) h = let b = bounds (pos 0) (pos (suc m)) (pos 0) h in absurd (omega (arith, ints, b.1))
number_is (OfProcedure n) (negsuc m) h = cc
number_is (OfRange base low high) z h = number_is base z (and_parts (between low z high) (has base z) (sym (has_range base low high z) ∙ h)).1

-- and is one of the kind
pub value_fits : (k : Kind) (z : ℤ) → has k z ≡ true → within k (scalar_of k z) ≡ true
value_fits (OfWhole t) z h = h
value_fits OfTruth z h = refl
value_fits OfCharacter (pos n) h = grind (arith, nat_tests)
value_fits OfCharacter (negsuc n) h = cc
value_fits (OfEnumeration n) z h = h
value_fits OfSet z h = refl
value_fits (OfPointer n) z h = refl
value_fits (OfProcedure n) z h = refl
value_fits (OfRange base low high) z h =
    let p = and_parts (between low z high) (has base z) (sym (has_range base low high z) ∙ h) in
    and_from (within base (scalar_of base z)) (between low (ordinal_of (scalar_of base z)) high)
    (value_fits base z p.1)
    (ap (λ (y : ℤ). between low y high) (number_is base z p.1) ∙ p.0)

-- a value of a kind has one of its numbers
pub fits_has : (k : Kind) (v : Scalar) → within k v ≡ true → has k (ordinal_of v) ≡ true
fits_has (OfWhole t) (Number z) h = h
fits_has OfTruth (Truth true) h = refl
fits_has OfTruth (Truth false) h = refl
fits_has OfCharacter (Character c) h = let e = leb-true c 255 h in in_range (pos 0) (pos c) (pos 255) (omega (arith, ints)) (omega (arith, ints, e))
fits_has (OfEnumeration n) (Number z) h = h
fits_has OfSet (SetOf s) h = in_range (pos 0) (pos (sets.set_word s)) (pos 65535) (omega (arith, ints)) (omega (arith, ints, set_below s))
fits_has (OfPointer to) (ToObject o) h = refl
fits_has (OfPointer to) (ToWorkspace w) h = refl
fits_has (OfPointer to) Nil h = refl
fits_has (OfProcedure n) (ToProcedure m p) h = refl
fits_has (OfProcedure n) Nil h = refl
fits_has (OfRange base low high) v h =
    let p = and_parts (within base v) (between low (ordinal_of v) high) h in
    has_range base low high (ordinal_of v) ∙ and_from (between low (ordinal_of v) high) (has base (ordinal_of v)) p.1 (fits_has base v p.0)
fits_has k v h = cc

-- kinds that compare by their numbers have words
pub ordinal_base : (k : Kind) → is_ordinal k ≡ true → is_base k ≡ true
ordinal_base OfSet h = cc
ordinal_base (OfPointer n) h = cc
ordinal_base (OfProcedure n) h = cc
ordinal_base (OfWhole t) h = refl
ordinal_base OfTruth h = refl
ordinal_base OfCharacter h = refl
ordinal_base (OfEnumeration n) h = h
ordinal_base (OfRange part low high) h = h

-- and are no references
pub ordinal_plain : (k : Kind) → is_ordinal k ≡ true → is_plain k ≡ true
ordinal_plain (OfPointer n) h = cc
ordinal_plain (OfProcedure n) h = cc
ordinal_plain (OfRange part low high) h = cc
ordinal_plain _ h = refl

-- two kinds of pointers that lead to the same
same_is : (to from : Pointee) → same_pointee to from ≡ true → to ≡ from
same_is (Objects m) (Objects n) e = ap Objects (eqb-true m n e)
same_is Workspaces Workspaces e = refl
same_is to from e = cc

pub pointers_same : (k j : Kind) → same_pointer k j ≡ true → (to : Pointee) × (k ≡ OfPointer to) × (j ≡ OfPointer to)
pointers_same (OfPointer to) (OfPointer from) e = (from, ap OfPointer (same_is to from e), refl)
pointers_same k j e = cc

-- two kinds of procedures of one type
pub procedures_same : (k j : Kind) → same_procedures k j ≡ true → (n : ℕ) × (k ≡ OfProcedure n) × (j ≡ OfProcedure n)
procedures_same (OfProcedure m) (OfProcedure n) e = (n, ap OfProcedure (eqb-true m n e), refl)
procedures_same k j e = cc

-- its numbers are numbers of the type as which its words are compared
pub has_type : (j : Kind) (z : ℤ) → is_base j ≡ true → has j z ≡ true → in_type (compared_as j) z ≡ true
has_type (OfWhole t) z base h = h
has_type OfTruth z base h = let b = bounds (pos 0) z (pos 1) h in in_range (pos 0) z (pos 65535) b.0 (omega (arith, ints, b.1))
has_type OfCharacter z base h = let b = bounds (pos 0) z (pos 255) h in in_range (pos 0) z (pos 65535) b.0 (omega (arith, ints, b.1))
has_type (OfEnumeration n) z base h = grind (arith, ints, nat_tests)
has_type OfSet z base h = h
has_type (OfPointer n) z base h = let b = bounds (pos 0) z (pos 0) h in in_range (pos 0) z (pos 65535) b.0 (omega (arith, ints, b.1))
has_type (OfProcedure n) z base h = let b = bounds (pos 0) z (pos 0) h in in_range (pos 0) z (pos 65535) b.0 (omega (arith, ints, b.1))
has_type (OfRange part low high) z base h = cc

-- ---- a value of one kind where another is wanted
-- a value that may be stored is one of the kind where its number is
pub taken_where : (k j : Kind) (v : Scalar) → takes_value k j ≡ true → within j v ≡ true → within k v ≡ has k (ordinal_of v)
taken_where (OfRange base low high) j v takes fits = grind (arith, ints, taken_where base j v takes fits, has_range base low high (ordinal_of v))
taken_where (OfWhole s) (OfWhole t) (Number z) takes fits = refl
taken_where OfTruth OfTruth (Truth true) takes fits = refl
taken_where OfTruth OfTruth (Truth false) takes fits = refl
taken_where OfCharacter OfCharacter (Character c) takes fits = fits ∙ sym (fits_has OfCharacter (Character c) fits)
taken_where (OfEnumeration m) (OfEnumeration n) (Number z) takes fits = refl
taken_where OfSet OfSet (SetOf s) takes fits = fits ∙ sym (fits_has OfSet (SetOf s) fits)
taken_where k j v takes fits = cc

-- where a value may be stored its own kind is a base
pub takes_base : (k j : Kind) → takes_value k j ≡ true → is_base j ≡ true
takes_base (OfRange base low high) j h = takes_base base j h
takes_base (OfWhole s) (OfWhole t) h = refl
takes_base OfTruth OfTruth h = refl
takes_base OfCharacter OfCharacter h = refl
takes_base (OfEnumeration m) (OfEnumeration n) h = (and_parts (m == n) (nat_le n 65535) h).1
takes_base OfSet OfSet h = refl
takes_base k j h = cc

-- so is the base of the kind where it is wanted
pub takes_part : (k j : Kind) → takes_value k j ≡ true → is_base (base_of k) ≡ true
takes_part (OfRange base low high) j h = takes_part base j h
takes_part (OfWhole s) (OfWhole t) h = refl
takes_part OfTruth OfTruth h = refl
takes_part OfCharacter OfCharacter h = refl
takes_part OfSet OfSet h = refl
takes_part (OfEnumeration m) (OfEnumeration n) h =
    let p = and_parts (m == n) (nat_le n 65535) h in
    ap (λ (x : ℕ). nat_le x 65535) (eqb-true m n p.0) ∙ p.1
takes_part k j h = cc

-- a number of a kind is one of the kind that it was taken from
pub has_base : (k : Kind) (z : ℤ) → has k z ≡ true → has (base_of k) z ≡ true
has_base (OfRange base low high) z h = has_base base z (and_parts (between low z high) (has base z) (sym (has_range base low high z) ∙ h)).1
has_base (OfWhole t) z h = h
has_base _ z h = h

-- its least number isn't less
pub least_base : (k : Kind) → least (base_of k) ≤ℤ least k
least_base (OfRange base low high) = omega (arith, ints, least_base base, larger_right low (least base))
least_base (OfWhole t) = omega (arith, ints)
least_base _ = omega (arith, ints)
