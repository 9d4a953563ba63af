-- The types of a module that isn't entered yet: each is a new one, and they get the next numbers in their order.
use Rattle.std.proofs.Common.{◌≡◌, ℕ, zero, suc, ◌+◌, ◌<◌, ◌≤◌, ◌⊎◌, inl, inr, Bool, true, false, List, [], ◌∷◌, ◌++◌, length, slice_get, Some, None, if◌then◌else◌, refl, sym, ap, ◌∙◌, arith, append_assoc, append-nil}
use Rattle.std.specs.Prelude.{◌==◌, nat_lt, position}
use Rattle.std.specs.List.{list_any, position_or_len}
use Rattle.std.proofs.lemmas.{Bool.Decides.nat_tests, List.length_push}
use Rattle.lil_types.specs.{Types.Table, Adding.{next, appended}, declared.table.{Origin.Origin, TypeEntry.TypeEntry}}
use Rattle.lil_shapes.specs.ListLaws.{AllFine}
use Rattle.lil_interfaces.specs.{Entering.{same_origin, and_origin, and_origins, number_by, number_of, numbers_in, origin_in, with_type, with_types}, Moving.{number_at, moved, moved_form}}

-- ---- the first element that passes a test
module _ {A : Type 0} (f : A → Bool) where
  pub none_any : (xs : List A) → AllFine (λ x. f x ≡ false) xs → list_any f xs ≡ false
  none_any [] h = refl
  none_any (x ∷ xs) h = grind (arith, none_any xs h.1)

  first_at : (xs rest : List A) (x : A) → AllFine (λ x. f x ≡ false) xs → f x ≡ true → position_or_len f (xs ++ x ∷ rest) ≡ length xs
  first_at [] rest x none is = grind arith
  first_at (y ∷ xs) rest x none is = grind (arith, first_at xs rest x none.1 is)

  longer : (xs rest : List A) (x : A) → length xs < length (xs ++ x ∷ rest)
  longer [] rest x = omega arith
  longer (y ∷ xs) rest x = let h : length xs < length (xs ++ x ∷ rest) = longer xs rest x in omega arith

  position_is : (xs rest : List A) (x : A) → AllFine (λ x. f x ≡ false) xs → f x ≡ true → position f (xs ++ x ∷ rest) ≡ Some (length xs)
  position_is xs rest x none is =
      let at = first_at xs rest x none is in
      let within : nat_lt (length xs) (length (xs ++ x ∷ rest)) ≡ true = grind (arith, nat_tests, longer xs rest x) in
      ap (λ n. if nat_lt n (length (xs ++ x ∷ rest)) then Some n else None) at ∙ ap (λ c. if c then Some (length xs) else None) within

-- ---- numbers one behind another
abbrev pub counts : {A : Type 0} → ℕ → List A → List ℕ
counts n [] = []
counts n (x ∷ xs) = n ∷ counts (n + 1) xs

counts_at : {A : Type 0} (n : ℕ) (xs : List A) (i : ℕ) → i < length xs → slice_get (counts n xs) i ≡ Some (n + i)
counts_at n [] i h = absurd (omega arith)
counts_at n (x ∷ xs) zero h = ap Some (omega arith)
counts_at n (x ∷ xs) (suc i) h = counts_at (n + 1) xs i (omega arith) ∙ ap Some (omega arith)

pub moved_counts : {A : Type 0} (n : ℕ) (xs : List A) (i : ℕ) → i < length xs → moved (counts n xs) (i + 16) ≡ n + i
moved_counts n xs i h = grind (arith, nat_tests, counts_at n xs i h)

-- ---- types of the module itself, with these numbers
abbrev pub AreOwn : ℕ → Table → Type 0
AreOwn k [] = Unit {0}
AreOwn k (e ∷ es) = (e.origin ≡ record { «module» = 0; number = k }) × AreOwn (k + 1) es

-- where its place is p
module _ (p : ℕ) where
  abbrev here : ℕ → Origin
  here k = record { «module» = p; number = k }

  -- an origin that isn't one of those from a number on
  abbrev pub IsBefore : ℕ → Origin → Type 0
  IsBefore k o = (o.«module» < p) ⊎ (o.number < k)

  abbrev pub news : ℕ → Table → List Origin
  news k [] = []
  news k (e ∷ es) = here k ∷ news (k + 1) es

  abbrev pub all_appended : List ℕ → ℕ → Table → Table → Table
  all_appended ns k t [] = t
  all_appended ns k t (e ∷ es) = all_appended ns (k + 1) (appended t (here k) (moved_form ns e.form)) es

  differs : (k : ℕ) (o : Origin) → IsBefore k o → same_origin (here k) o ≡ false
  differs k o h = grind (arith, nat_tests)

  itself : (k : ℕ) → same_origin (here k) (here k) ≡ true
  itself k = grind (arith, nat_tests)

  none_same : (k : ℕ) (os : List Origin) → AllFine (IsBefore k) os → AllFine (λ o. same_origin (here k) o ≡ false) os
  none_same k [] h = tt
  none_same k (o ∷ os) h = (differs k o h.0, none_same k os h.1)

  later_before : (k : ℕ) (os : List Origin) → AllFine (IsBefore k) os → AllFine (IsBefore (k + 1)) (os ++ here k ∷ [])
  later_before k [] h = (inr (omega arith), tt)
  later_before k (o ∷ os) h = (by h.0, later_before k os h.1)
    where
      by : IsBefore k o → IsBefore (k + 1) o
      by (inl less) = inl less
      by (inr less) = inr (omega arith)

  number_is : (k : ℕ) (os rest : List Origin) → AllFine (IsBefore k) os → length os < 4294967279 → number_of (os ++ here k ∷ rest) (here k) ≡ length os + 16
  number_is k os rest before room = ap number_by (position_is (same_origin (here k)) os rest (here k) (none_same k os before) (itself k)) ∙ omega arith

  origin_is : (k : ℕ) (e : TypeEntry) → e.origin ≡ record { «module» = 0; number = k } → origin_in (p ∷ []) e ≡ here k
  origin_is k e is = ap (λ (o : Origin). record { «module» = number_at (slice_get (p ∷ []) o.«module»); number = o.number }) is

  pub origins_are : (k : ℕ) (os : List Origin) (es : Table) → AreOwn k es → AllFine (IsBefore k) os → and_origins (p ∷ []) os es ≡ os ++ news k es
  origins_are k os [] own before = sym (append-nil os)
  origins_are k os (e ∷ es) own before =
      ap (λ o. and_origins (p ∷ []) (and_origin os o) es) (origin_is k e own.0)
      ∙ ap (λ c. and_origins (p ∷ []) (if c then os else os ++ here k ∷ []) es) (none_any (same_origin (here k)) os (none_same k os before))
      ∙ origins_are (k + 1) (os ++ here k ∷ []) es own.1 (later_before k os before)
      ∙ append_assoc os (here k ∷ []) (news (k + 1) es)

  pub news_many : (k : ℕ) (os : List Origin) (es : Table) → length (os ++ news k es) ≡ length os + length es
  news_many k [] [] = refl
  news_many k [] (e ∷ es) = let rest : length (news (k + 1) es) ≡ 0 + length es = news_many (k + 1) [] es in omega arith
  news_many k (o ∷ os) es = let rest : length (os ++ news k es) ≡ length os + length es = news_many k os es in omega arith

  pub news_below : (k c d : ℕ) (os : List Origin) (es : Table) → c ≤ d → p < d → AllFine (λ (o : Origin). o.«module» < c) os → AllFine (λ (o : Origin). o.«module» < d) (os ++ news k es)
  news_below k c d [] [] more less h = tt
  news_below k c d [] (e ∷ es) more less h = (less, news_below (k + 1) c d [] es more less tt)
  news_below k c d (o ∷ os) es more less h = (omega (arith, h.0), news_below k c d os es more less h.1)

  module _ (all : List Origin) where
    head_number : (k : ℕ) (os : List Origin) (e : TypeEntry) (es : Table) → all ≡ os ++ news k (e ∷ es) → e.origin ≡ record { «module» = 0; number = k } → AllFine (IsBefore k) os → length os < 4294967279 → number_of all (origin_in (p ∷ []) e) ≡ length os + 16
    head_number k os e es is own before room = (λ i. number_of (is i) (origin_is k e own i)) ∙ number_is k os (news (k + 1) es) before room

    rest_is : (k : ℕ) (os : List Origin) (e : TypeEntry) (es : Table) → all ≡ os ++ news k (e ∷ es) → all ≡ (os ++ here k ∷ []) ++ news (k + 1) es
    rest_is k os e es is = is ∙ sym (append_assoc os (here k ∷ []) (news (k + 1) es))

    pub numbers_are : (k n : ℕ) (os : List Origin) (es : Table) → n ≡ length os + 16 → all ≡ os ++ news k es → AreOwn k es → AllFine (IsBefore k) os → length os + length es < 4294967279 → numbers_in (p ∷ []) all es ≡ counts n es
    numbers_are k n os [] at is own before room = refl
    numbers_are k n os (e ∷ es) at is own before room =
        let more : length (os ++ here k ∷ []) ≡ length os + 1 = length_push os (here k) in
        let first = head_number k os e es is own.0 before (omega arith) ∙ sym at in
        let rest = numbers_are (k + 1) (n + 1) (os ++ here k ∷ []) es (omega arith) (rest_is k os e es is) own.1 (later_before k os before) (omega arith) in
        λ i. first i ∷ rest i

    module _ (ns : List ℕ) where
      pub types_are : (k : ℕ) (os : List Origin) (t es : Table) → length t ≡ length os → all ≡ os ++ news k es → AreOwn k es → AllFine (IsBefore k) os → length os + length es < 4294967279 → with_types (p ∷ []) all ns t es ≡ all_appended ns k t es
      unfolding with_type
      types_are k os t [] same is own before room = refl
      types_are k os t (e ∷ es) same is own before room =
          let more : length (os ++ here k ∷ []) ≡ length os + 1 = length_push os (here k) in
          let longer : length (appended t (here k) (moved_form ns e.form)) ≡ length t + 1 = length_push t _ in
          let number : number_of all (origin_in (p ∷ []) e) ≡ length os + 16 = head_number k os e es is own.0 before (omega arith) in
          let fits : (number_of all (origin_in (p ∷ []) e) == next t) ≡ true = grind (arith, nat_tests) in
          ap (λ c. with_types (p ∷ []) all ns (if c then appended t (origin_in (p ∷ []) e) (moved_form ns e.form) else t) es) fits
          ∙ ap (λ o. with_types (p ∷ []) all ns (appended t o (moved_form ns e.form)) es) (origin_is k e own.0)
          ∙ types_are (k + 1) (os ++ here k ∷ []) (appended t (here k) (moved_form ns e.form)) es (omega arith) (rest_is k os e es is) own.1 (later_before k os before) (omega arith)
