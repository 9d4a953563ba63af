-- How many numbers a span has, the words of a record's fields, added up from the first one on, and tables that stay sound.
use Rattle.std.proofs.Common.{◌≡◌, ℕ, ◌+◌, nat_le, ℤ, pos, negsuc, int_lt, nat_abs, Bool, true, false, ◌&&◌, List, [], ◌∷◌, ◌++◌, length, Option, Some, None, refl, append_assoc, arith}
use Rattle.std.proofs.lemmas.{List.append-nil, Bool.Decides.nat_tests}
use Rattle.lil_types.specs.{declared.table.{Facts.Facts, TypeEntry.TypeEntry}, Types.{Table, nat_of, facts_of, record_facts, IsSound, IsSoundFrom}, Adding.{fitting, is_short, stopped, stopped_some, lasting}}

pub no_less : (z : ℤ) → int_lt z (pos 0) ≡ false → nat_abs z ≡ nat_of z
no_less (pos n) h = refl
no_less (negsuc n) h = cc

-- some words and, where they are known, more
abbrev pub plus : ℕ → Option ℕ → Option ℕ
plus n None = None
plus n (Some m) = Some (n + m)

pub record_lasts : (n : ℕ) (words : Option ℕ) → record_facts n (stopped_some words) ≡ lasting (record_facts n words)
record_lasts n None = refl
record_lasts n (Some w) = refl

-- as many words as a type may have are fewer than those at which sums stop
pub fits_stopped : (o : Option Facts) → fitting (lasting o) ≡ fitting o
fits_stopped None = refl
fits_stopped (Some f) = by (nat_le f.words 32000) refl
  where
    by : (b : Bool) → nat_le f.words 32000 ≡ b → fitting (lasting (Some f)) ≡ fitting (Some f)
    by b h = grind (arith, nat_tests)

-- words at which sums have stopped stay so
pub stops_once : (n m : ℕ) → stopped (m + stopped n) ≡ stopped (m + n)
stops_once n m = grind (arith, nat_tests)

-- one more sound type at the end
pub sound_more : (before : Table) (n : ℕ) (xs : List TypeEntry) (e : TypeEntry) → IsSoundFrom before n xs → facts_of (before ++ xs) (n + length xs) e.form ≡ Some e.facts → IsSoundFrom before n (xs ++ e ∷ [])
sound_more before n [] e s h =
    let at : n + 0 ≡ n = omega arith in
    (rw (append-nil before, at) at h, tt)
sound_more before n (x ∷ xs) e s h =
    let at : n + 1 + length xs ≡ n + length (x ∷ xs) = omega arith in
    let same : (before ++ x ∷ []) ++ xs ≡ before ++ x ∷ xs = append_assoc before (x ∷ []) xs in
    (s.0, sound_more (before ++ x ∷ []) (n + 1) xs e s.1 (rw (at, same) h))

pub sound_added : (t : Table) (e : TypeEntry) → IsSound t → facts_of t (length t + 16) e.form ≡ Some e.facts → IsSound (t ++ e ∷ [])
sound_added t e s h =
    let at : length t + 16 ≡ 16 + length t = omega arith in
    sound_more [] 16 t e s (rw at at h)

-- facts that fit are those of the form
pub fitting_some : (o : Option Facts) (f : Facts) → Some f ≡ fitting o → o ≡ Some f
fitting_some None f h = cc
fitting_some (Some g) f h = by (nat_le g.words 32000 && is_short g.span) refl
  where
    by : (b : Bool) → (nat_le g.words 32000 && is_short g.span) ≡ b → Some g ≡ Some f
    by true e = cc
    by false e = cc
