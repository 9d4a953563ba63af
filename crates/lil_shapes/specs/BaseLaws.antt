-- Bases and kinds of types: they have words, and a kind goes with its base type.
use Rattle.std.proofs.Common.{◌≡◌, ℕ, ℤ, pos, negsuc, zero, suc, Bool, true, false, length, Option, None, Some, IfSome, if◌then◌else◌, not, ◌&&◌, refl, ap, subst, arith}
use Rattle.std.specs.Prelude.{◌==◌, ◌≤ℤ◌, nat_le}
use Rattle.std.proofs.lemmas.{Int.ints, Option.none-some, Bool.Decides.nat_tests}
use Rattle.lil_base.specs.Laws.{bounds}
use Rattle.lil_types.specs.{Types.{Table, integer, cardinal, boolean, char, bit_set, proc, address, entry}, declared.table.{TypeForm.{TypeForm, TheVariants.{Enumeration, Subrange, Array, Record, SetOf, Pointer, Procedure, Opaque}}, TypeEntry.TypeEntry}}
use Rattle.lil_types.specs.Types as types
use Rattle.lil_resolved.specs.{declared.resolved.{RBase.RBase, RKind.RKind}, Kinds.{Pointee, Objects, Workspaces, Kind, OfTruth, OfCharacter, OfSet, OfPointer, OfProcedure, is_base, within, is_reference, is_literal, scalar_of, ordinal_of}, MemberLaws.word_of_set, Views.base_view}
use Rattle.lil_resolved.specs.declared.resolved.RBase.TheVariants as b
use Rattle.lil_shapes.specs.{Bases.{standard, base_form, base_by, base_at, kind_form, kind_by, kind_over, kind_at}, Operators.has_number}

pub if_so : {A : Type 0} (P : A → Type 0) (b : Bool) (o : Option A) → (b ≡ true → IfSome o P) → IfSome (if b then o else None) P
if_so P true o h = h refl
if_so P false o h = tt

pub if_true : {A : Type 0} (P : A → Type 0) (b : Bool) (x : A) → (b ≡ true → P x) → IfSome (if b then Some x else None) P
if_true P b x h = if_so P b (Some x) h

pub if_some : {A : Type 0} (b : Bool) (o : Option A) (x : A) → (if b then o else None) ≡ Some x → (b ≡ true) × (o ≡ Some x)
if_some true o x h = (refl, h)
if_some false o x h = absurd (none-some x h)

pub same_sort : (a c : ℕ) → (a == c) ≡ true → a ≡ c
same_sort a c h = grind (arith, nat_tests)

-- ---- kinds and their bases
abbrev HasWords : RBase → Type 0
HasWords k = is_base (base_view k) ≡ true

or_else : (P : RBase → Type 0) (b : Bool) (k : RBase) (o : Option RBase) → P k → IfSome o P → IfSome (if b then Some k else o) P
or_else P true k o h j = h
or_else P false k o h j = j

standard_words : (s : ℕ) → IfSome (standard s) HasWords
standard_words s =
    or_else HasWords (s == integer) b.Integer _ refl
    (or_else HasWords (s == cardinal) b.Cardinal _ refl
    (or_else HasWords (s == boolean) b.Truth _ refl
    (or_else HasWords (s == char) b.Character _ refl
    (or_else HasWords (s == bit_set) b.Set _ refl (or_else HasWords (s == address) b.Address _ refl (or_else HasWords (s == proc) (b.Procedure s) None refl tt))))))

form_words : (s : ℕ) (f : TypeForm) → IfSome (base_form s f) HasWords
form_words s (Enumeration xs) = if_true HasWords (nat_le (length xs) 65535) (b.Enumeration (length xs)) (λ h. h)
form_words s (Subrange n r) = tt
form_words s (Array i e) = tt
form_words s (Record xs) = tt
form_words s (SetOf n) = refl
form_words s (Pointer n) = refl
form_words s (Procedure ps r) = refl
form_words s (Opaque o) = tt

entry_words : (s : ℕ) (e : Option TypeEntry) → IfSome (base_by s e) HasWords
entry_words s None = standard_words s
entry_words s (Some e) = form_words s e.form

pub base_words : (t : Table) (s : ℕ) (k : RBase) → base_at t s ≡ Some k → is_base (base_view k) ≡ true
base_words t s k h = subst (λ o. IfSome o HasWords) h (entry_words s (entry t s))

-- a kind has the base of the type below its own
form_base : (k : RBase) (f : TypeForm) → IfSome (kind_form k f) (λ j. k ≡ j.base)
form_base k (Enumeration xs) = refl
form_base k (Subrange n s) = refl
form_base k (Array i e) = tt
form_base k (Record xs) = tt
form_base k (SetOf n) = refl
form_base k (Pointer n) = refl
form_base k (Procedure ps r) = refl
form_base k (Opaque o) = tt

entry_base : (k : RBase) (e : Option TypeEntry) → IfSome (kind_by k e) (λ j. k ≡ j.base)
entry_base k None = refl
entry_base k (Some e) = form_base k e.form

over_base : (o : Option RBase) (e : Option TypeEntry) → IfSome (kind_over o e) (λ j. o ≡ Some j.base)
over_base None e = tt
over_base (Some k) e = by (kind_by k e) (entry_base k e)
  where
    by : (o : Option RKind) → IfSome o (λ j. k ≡ j.base) → IfSome o (λ j. Some k ≡ Some j.base)
    by None h = tt
    by (Some j) h = ap Some h

pub kind_base : (t : Table) (s : ℕ) (j : RKind) → kind_at t s ≡ Some j → base_at t (types.base t s) ≡ Some j.base
kind_base t s j h = subst (λ o. IfSome o (λ j. base_at t (types.base t s) ≡ Some j.base)) h (over_base (base_at t (types.base t s)) (entry t s))

-- ---- sets
-- ---- numbers
abbrev IsNumber : Kind → ℤ → Type 0
IsNumber kind z = (within kind (scalar_of kind z) ≡ true) × (ordinal_of (scalar_of kind z) ≡ z)

truth_number : (z : ℤ) → pos 0 ≤ℤ z → z ≤ℤ pos 1 → IsNumber OfTruth z
truth_number (pos zero) h j = (refl, refl)
truth_number (pos (suc zero)) h j = (refl, refl)
truth_number (pos (suc (suc i))) h j = absurd (omega (arith, ints))
truth_number (negsuc i) h j = absurd (omega (arith, ints))

character_number : (z : ℤ) → pos 0 ≤ℤ z → z ≤ℤ pos 255 → IsNumber OfCharacter z
character_number (pos i) h j = (grind (arith, nat_tests, ints), refl)
character_number (negsuc i) h j = absurd (omega (arith, ints))

set_number : (z : ℤ) → pos 0 ≤ℤ z → z ≤ℤ pos 65535 → IsNumber OfSet z
set_number (pos i) h j = (refl, ap pos (word_of_set i (omega (arith, ints, j))))
set_number (negsuc i) h j = absurd (omega (arith, ints))

nil_number : (to : Pointee) (z : ℤ) → pos 0 ≤ℤ z → z ≤ℤ pos 0 → IsNumber (OfPointer to) z
nil_number to (pos zero) h j = (refl, refl)
nil_number to (pos (suc i)) h j = absurd (omega (arith, ints))
nil_number to (negsuc i) h j = absurd (omega (arith, ints))

none_number : (n : ℕ) (z : ℤ) → pos 0 ≤ℤ z → z ≤ℤ pos 0 → IsNumber (OfProcedure n) z
none_number n (pos zero) h j = (refl, refl)
none_number n (pos (suc i)) h j = absurd (omega (arith, ints))
none_number n (negsuc i) h j = absurd (omega (arith, ints))

-- the numbers of a base are those of its values
pub number_sound : (k : RBase) (z : ℤ) → has_number k z ≡ true → IsNumber (base_view k) z
number_sound b.Cardinal z h = (h, refl)
number_sound b.Integer z h = (h, refl)
number_sound b.Truth z h = let e = bounds (pos 0) z (pos 1) h in truth_number z e.0 e.1
number_sound b.Character z h = let e = bounds (pos 0) z (pos 255) h in character_number z e.0 e.1
number_sound (b.Enumeration n) z h = (h, refl)
number_sound b.Set z h = let e = bounds (pos 0) z (pos 65535) h in set_number z e.0 e.1
number_sound (b.Pointer n) z h = let e = bounds (pos 0) z (pos 0) h in nil_number (Objects n) z e.0 e.1
number_sound b.Address z h = let e = bounds (pos 0) z (pos 0) h in nil_number Workspaces z e.0 e.1
number_sound (b.Procedure n) z h = let e = bounds (pos 0) z (pos 0) h in none_number n z e.0 e.1

no_reference : (k : RBase) (z : ℤ) → is_reference (scalar_of (base_view k) z) ≡ false
no_reference b.Cardinal z = refl
no_reference b.Integer z = refl
no_reference b.Truth z = refl
no_reference b.Character z = refl
no_reference (b.Enumeration n) z = refl
no_reference b.Set z = refl
no_reference (b.Pointer n) z = refl
no_reference b.Address z = refl
no_reference (b.Procedure n) z = refl

-- and those that a text can name
pub literal_sound : (k : RBase) (z : ℤ) → has_number k z ≡ true → is_literal (base_view k) (scalar_of (base_view k) z) ≡ true
literal_sound k z h = λ j. (number_sound k z h).0 j && not (no_reference k z j)
