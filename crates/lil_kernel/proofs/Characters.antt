-- The characters of an array from one on, and what requests are given by their words.
use Rattle.std.proofs.Common.{◌≡◌, ◌≢◌, ℕ, suc, ◌+◌, ◌-◌, ◌%◌, ◌==◌, ◌<◌, ◌≤◌, true, false, List, [], ◌∷◌, ◌++◌, length, map, take, reverse, slice_get, Some, refl, sym, ap, ◌∙◌, arith, append_assoc}
use Rattle.std.proofs.lemmas.{Bool.{leb-true, ne_eqb}, List.append-nil, Option.get_or_from_slice_get}
use Rattle.lil_base.specs.{Requests.takes_array, declared.request.Request.{Request, TheVariants.{WriteString}}}
use Rattle.lil_asm.specs.Requests.{request_words}
use Rattle.lil_mcode.specs.Table.{array_lies}
use Rattle.lil_meaning.specs.World.{Single, byte_of, before_end, characters_at, given_by, piece_of, first_word, second_word}

-- what so many words of a store show from one on
abbrev pub shown_from : List ℕ → ℕ → ℕ → List ℕ
shown_from store at n = map byte_of (before_end (characters_at store at n))

first_shown : (store : List ℕ) (at n w : ℕ) → slice_get store at ≡ Some w → shown_from store at (suc n) ≡ map byte_of (before_end (w % 256 ∷ characters_at store (suc at) n))
first_shown store at n w here = ap (λ (x : ℕ). map byte_of (before_end (x % 256 ∷ characters_at store (suc at) n))) (get_or_from_slice_get store at w 0 here)

-- nothing from the end on
pub ends : (store : List ℕ) (at n w : ℕ) → slice_get store at ≡ Some w → w % 256 ≡ 0 → shown_from store at (suc n) ≡ []
ends store at n w here end = first_shown store at n w here ∙ rw end refl

-- one character, and those behind it
pub goes_on : (store : List ℕ) (at n w : ℕ) → slice_get store at ≡ Some w → w % 256 ≢ 0 → shown_from store at (suc n) ≡ byte_of (w % 256) ∷ shown_from store (suc at) n
goes_on store at n w here more =
    let no : (w % 256 == 0) ≡ false = ne_eqb (w % 256) 0 more in
    first_shown store at n w here ∙ rw no refl

-- one more character comes to the text, and the others are left
pub next_shown : (store text whole : List ℕ) (at end w : ℕ) → slice_get store at ≡ Some w → w % 256 ≢ 0 → at < end
    → text ++ shown_from store at (end - at) ≡ whole → (text ++ byte_of (w % 256) ∷ []) ++ shown_from store (at + 1) (end - (at + 1)) ≡ whole
next_shown store text whole at end w here more left before =
    let n : ℕ = end - (at + 1) in
    let one : end - at ≡ suc n = omega arith in
    let next : at + 1 ≡ suc at = omega arith in
    append_assoc text (byte_of (w % 256) ∷ []) (shown_from store (at + 1) n)
    ∙ ap (λ (k : ℕ). text ++ byte_of (w % 256) ∷ shown_from store k n) next
    ∙ ap (λ (t : List ℕ). text ++ t) (sym (goes_on store at n w here more))
    ∙ ap (λ (k : ℕ). text ++ shown_from store at k) (sym one)
    ∙ before

-- the text is whole at an end, and where no word is left
pub ended : (store text whole : List ℕ) (at end w : ℕ) → slice_get store at ≡ Some w → w % 256 ≡ 0 → at < end
    → text ++ shown_from store at (end - at) ≡ whole → text ≡ whole
ended store text whole at end w here none left before =
    let one : end - at ≡ suc (end - (at + 1)) = omega arith in
    sym (append-nil text)
    ∙ ap (λ (t : List ℕ). text ++ t) (sym (ends store at (end - (at + 1)) w here none))
    ∙ ap (λ (k : ℕ). text ++ shown_from store at k) (sym one)
    ∙ before

pub none_left : (store text whole : List ℕ) (at end : ℕ) → end ≤ at → text ++ shown_from store at (end - at) ≡ whole → text ≡ whole
none_left store text whole at end past before =
    let none : end - at ≡ 0 = omega arith in
    sym (append-nil text) ∙ ap (λ (k : ℕ). text ++ shown_from store at k) (sym none) ∙ before

-- the first two of the words that a request finds on a stack, so many in all: for an array its address and the number of its last element
pub record IsGiven (r : Request) (stack : List ℕ) (count x y : ℕ) : Type 0 where
  pub all : count ≡ request_words r
  pub first : x ≡ first_word (map Single (reverse (take count stack)))
  pub second : y ≡ second_word (map Single (reverse (take count stack)))

pub string_lies : (r : Request) (count address high : ℕ) (stack : List ℕ) → takes_array r ≡ true → request_words r ≤ length stack → array_lies r stack ≡ true
    → IsGiven r stack count address high → address + high ≤ 65535
string_lies WriteString count address high (y ∷ x ∷ stack) array there lies given =
    let within : x + y ≤ 65535 = leb-true (x + y) 65535 lies in
    omega (arith, rw (given.all) at given.first, rw (given.all) at given.second)
string_lies WriteString count address high _ array there lies given = absurd (omega arith)
string_lies _ count address high stack array there lies given = cc

pub string_shown : (r : Request) (count address high : ℕ) (stack store store' : List ℕ) → takes_array r ≡ true → request_words r ≤ length stack
    → IsGiven r stack count address high → store' ≡ store
    → map byte_of (before_end (characters_at store' address (suc high))) ≡ piece_of r (given_by r store (reverse (take (request_words r) stack)))
string_shown WriteString count address high (y ∷ x ∷ stack) store store' array there given same =
    let first : address ≡ x = rw (given.all) at given.first in
    let second : high ≡ y = rw (given.all) at given.second in
    ap (λ (held : List ℕ). map byte_of (before_end (characters_at held address (suc high)))) same ∙ rw (first, second) refl
string_shown WriteString count address high _ store store' array there given same = absurd (omega arith)
string_shown _ count address high stack store store' array there given same = cc

-- each other request is given its words
words_given : (r : Request) (store words : List ℕ) → takes_array r ≡ false
    → piece_of r (Single (first_word (map Single words)) ∷ Single (second_word (map Single words)) ∷ []) ≡ piece_of r (given_by r store words)
words_given WriteString store words alone = cc
words_given _ store words alone = refl

pub words_shown : (r : Request) (count x y : ℕ) (stack store : List ℕ) → takes_array r ≡ false → IsGiven r stack count x y
    → piece_of r (Single x ∷ Single y ∷ []) ≡ piece_of r (given_by r store (reverse (take (request_words r) stack)))
words_shown r count x y stack store alone given =
    rw (given.first, given.second, given.all) (words_given r store (reverse (take (request_words r) stack)) alone)
