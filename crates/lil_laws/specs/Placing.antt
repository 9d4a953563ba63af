-- Where the variables and the strings of loaded modules lie, and that their fresh cells are there.
use Rattle.std.proofs.Common.{◌≡◌, ℕ, zero, suc, ◌+◌, ◌-◌, ◌<◌, ◌≤◌, cond, Option, Some, None, List, [], ◌∷◌, length, map, get_or, refl, sym, ap, ◌∙◌, subst, arith}
use Rattle.std.specs.Prelude.{slice_get, nat_lt, option_map, option_and_then}
use Rattle.std.proofs.lemmas.{Bool.{le-ltb, lt-ltb}, Option.slice_get-map}
use Rattle.lil_resolved.specs.{Kinds.{zero_of, Shape, words, is_there, all_words, part_at, offset, offsets_from, shape_at}, Resolved.Resolved}
use Rattle.lil_meaning.specs.Items.{Root, Global, Local, Object, loaded_at, variables_of, first_shape, zero_in, fresh_cells}
use Rattle.lil_frames.specs.Words.{zeros, cleared}
use Rattle.lil_match.specs.{Parts.{yes, no, part_fits, word_long}, Homes.{zero_is, Owner, Of, Own, Fixed, Free, Listed, Home, Mem}, Splices.{spliced_length, spliced_before, spliced_there, zeros_length, zeros_word}}
use Rattle.lil_laws.specs.Loading.{Compiled, text_of, data_of, data_end, entry_for, table_from, numbers_from, one_placed, data_placed}

-- the first word of a module's data
abbrev pub place_from : ℕ → List Compiled → ℕ → ℕ
place_from base [] n = base
place_from base (o ∷ os) zero = base
place_from base (o ∷ os) (suc n) = place_from (base + data_of o) os n

-- the first word of a variable, behind a place
abbrev pub variable_from : ℕ → List Shape → ℕ → ℕ
variable_from base [] x = base
variable_from base (t ∷ ts) zero = base
variable_from base (t ∷ ts) (suc x) = variable_from (base + words t) ts x

abbrev variables_in : Option Compiled → List Shape
variables_in o = variables_of (option_map text_of o)

abbrev pub place_of : List Compiled → Root → ℕ
place_of os (Global (suc n) x) = variable_from (place_from 1 os n) (variables_in (slice_get os n)) x
place_of os _ = 0

-- the variable that has a word
abbrev variable_at : ℕ → List Shape → (m x a : ℕ) → Option Root
variable_at base [] m x a = None
variable_at base (t ∷ ts) m x a = cond (nat_lt a (base + words t)) (Some (Global m x)) (variable_at (base + words t) ts m (suc x) a)

abbrev root_at : ℕ → List Compiled → (m a : ℕ) → Option Root
root_at base [] m a = None
root_at base (o ∷ os) m a = cond (nat_lt a (base + data_of o)) (variable_at base o.text.variables m 0 a) (root_at (base + data_of o) os (suc m) a)

-- a word of the data that is no variable's is a string's
abbrev owner_by : Option Root → Owner
owner_by None = Fixed
owner_by (Some r) = Of r

-- ---- what is loaded
pub number_at : (n : ℕ) (os : List Compiled) (i : ℕ) → slice_get (numbers_from n os) i ≡ option_map (λ o. n + i) (slice_get os i)
number_at n [] i = refl
number_at n (o ∷ os) zero = ap Some (let e : n ≡ n + 0 = omega arith in e)
number_at n (o ∷ os) (suc i) = number_at (suc n) os i ∙ by (slice_get os i)
  where
    by : (p : Option Compiled) → option_map (λ o. suc n + i) p ≡ option_map (λ o. n + suc i) p
    by None = refl
    by (Some o) = ap Some (let e : suc n + i ≡ n + suc i = omega arith in e)

pub text_at : (os : List Compiled) (i : ℕ) → loaded_at (map text_of os) (numbers_from 0 os) (suc i) ≡ option_map text_of (slice_get os i)
text_at os i = ap (option_and_then (slice_get (map text_of os))) (number_at 0 os i) ∙ by (slice_get os i) refl
  where
    by : (p : Option Compiled) → slice_get os i ≡ p → option_and_then (slice_get (map text_of os)) (option_map (λ o. 0 + i) p) ≡ option_map text_of p
    by None e = refl
    by (Some o) e = ap (slice_get (map text_of os)) (let z : 0 + i ≡ i = omega arith in z) ∙ slice_get-map text_of os i ∙ ap (option_map text_of) e

pub table_there : (base : ℕ) (os : List Compiled) (n : ℕ) (o : Compiled) → slice_get os n ≡ Some o → slice_get (table_from base os) n ≡ Some (entry_for o (place_from base os n))
table_there base [] n o e = cc
table_there base (x ∷ os) zero o e = ap (λ (y : Compiled). Some (entry_for y base)) (let same : x ≡ o = cc in same)
table_there base (x ∷ os) (suc n) o e = table_there (base + data_of x) os n o e

-- a variable lies where its offset says
pub variable_offset : (ts : List Shape) (base first x o : ℕ) → slice_get (offsets_from first ts) x ≡ Some o → variable_from (base + first) ts x ≡ base + o
variable_offset [] base first x o e = cc
variable_offset (t ∷ ts) base first zero o e = let same : first ≡ o = cc in omega arith
variable_offset (t ∷ ts) base first (suc x) o e =
    ap (λ (b : ℕ). variable_from b ts x) (let sum : base + first + words t ≡ base + (first + words t) = omega arith in sum) ∙ variable_offset ts base (first + words t) x o e

-- ---- each word of a variable is its own
pub record IsIn (low high a : ℕ) : Type 0 where
  pub from : low ≤ a
  pub below : a < high

variable_owned : (base : ℕ) (ts : List Shape) (m y x i : ℕ) → i < words (shape_at ts x)
    → (variable_at base ts m y (variable_from base ts x + i) ≡ Some (Global m (y + x))) × IsIn base (base + all_words ts) (variable_from base ts x + i)
variable_owned base [] m y x i less = absurd (omega (arith, less))
variable_owned base (t ∷ ts) m y zero i less = (
  yes _ _ _ (lt-ltb (base + i) (base + words t) (omega (arith, less))) ∙ ap (λ (n : ℕ). Some (Global m n)) (let e : y ≡ y + 0 = omega arith in e),
  record { from = omega arith; below = omega (arith, less) },
)
variable_owned base (t ∷ ts) m y (suc x) i less =
    let rest = variable_owned (base + words t) ts m (suc y) x i less in (
      no _ _ _ (le-ltb (variable_from (base + words t) ts x + i) (base + words t) (omega (arith, rest.1.from))) ∙ rest.0 ∙ ap (λ (n : ℕ). Some (Global m n)) (let e : suc y + x ≡ y + suc x = omega arith in e),
      record { from = omega (arith, rest.1.from); below = omega (arith, rest.1.below) },
    )

-- a variable lies below the end of its module's data, and these below the end of all
variable_low : (ts : List Shape) (base x : ℕ) → variable_from base ts x + words (shape_at ts x) ≤ base + all_words ts
variable_low [] base x = omega arith
variable_low (t ∷ ts) base zero = omega arith
variable_low (t ∷ ts) base (suc x) = omega (arith, variable_low ts (base + words t) x)

end_above : (base : ℕ) (os : List Compiled) → base ≤ data_end base os
end_above base [] = omega arith
end_above base (o ∷ os) = omega (arith, end_above (base + data_of o) os)

module_low : (os : List Compiled) (base n : ℕ) → place_from base os n + all_words (variables_in (slice_get os n)) ≤ data_end base os
module_low [] base n = omega arith
module_low (o ∷ os) base zero = omega (arith, end_above (base + data_of o) os)
module_low (o ∷ os) base (suc n) = module_low os (base + data_of o) n

root_owned : (base : ℕ) (os : List Compiled) (m n x i : ℕ) (o : Compiled) → slice_get os n ≡ Some o → i < words (shape_at o.text.variables x)
    → (root_at base os m (variable_from (place_from base os n) o.text.variables x + i) ≡ Some (Global (m + n) x)) × IsIn base (data_end base os) (variable_from (place_from base os n) o.text.variables x + i)
root_owned base [] m n x i o e less = cc
root_owned base (p ∷ os) m zero x i o e less =
    let same : p ≡ o = cc in
    let there = variable_owned base p.text.variables m 0 x i (subst (λ (q : Compiled). i < words (shape_at q.text.variables x)) (sym same) less) in
    let above = end_above (base + data_of p) os in
    subst (λ (q : Compiled). (root_at base (p ∷ os) m (variable_from base q.text.variables x + i) ≡ Some (Global (m + 0) x)) × IsIn base (data_end base (p ∷ os)) (variable_from base q.text.variables x + i)) same (
      yes _ _ _ (lt-ltb (variable_from base p.text.variables x + i) (base + data_of p) (omega (arith, there.1.below))) ∙ there.0
          ∙ ap (λ (y : ℕ). Some (Global m y)) (let e : 0 + x ≡ x = omega arith in e) ∙ ap (λ (n : ℕ). Some (Global n x)) (let e : m ≡ m + 0 = omega arith in e),
      record { from = there.1.from; below = omega (arith, there.1.below, above) },
    )
root_owned base (p ∷ os) m (suc n) x i o e less =
    let rest = root_owned (base + data_of p) os (suc m) n x i o e less in (
      no _ _ _ (le-ltb (variable_from (place_from (base + data_of p) os n) o.text.variables x + i) (base + data_of p) (omega (arith, rest.1.from))) ∙ rest.0 ∙ ap (λ (n : ℕ). Some (Global n x)) (let e : suc m + n ≡ m + suc n = omega arith in e),
      record { from = omega (arith, rest.1.from); below = rest.1.below },
    )

-- ---- the words of strings are no variable's
no_variable : (base : ℕ) (ts : List Shape) (m y a : ℕ) → base + all_words ts ≤ a → variable_at base ts m y a ≡ None
no_variable base [] m y a above = refl
no_variable base (t ∷ ts) m y a above = no _ _ _ (le-ltb a (base + words t) (omega (arith, above))) ∙ no_variable (base + words t) ts m (suc y) a (omega (arith, above))

string_rootless : (base : ℕ) (os : List Compiled) (m n i : ℕ) (o : Compiled) → slice_get os n ≡ Some o → i < length o.strings
    → (root_at base os m (place_from base os n + (all_words o.text.variables + i)) ≡ None) × IsIn base (data_end base os) (place_from base os n + (all_words o.text.variables + i))
string_rootless base [] m n i o e less = cc
string_rootless base (p ∷ os) m zero i o e less =
    let same : p ≡ o = cc in
    let here : i < length p.strings = subst (λ (q : Compiled). i < length q.strings) (sym same) less in
    let above = end_above (base + data_of p) os in
    subst (λ (q : Compiled). (root_at base (p ∷ os) m (base + (all_words q.text.variables + i)) ≡ None) × IsIn base (data_end base (p ∷ os)) (base + (all_words q.text.variables + i))) same (
      yes _ _ _ (lt-ltb (base + (all_words p.text.variables + i)) (base + data_of p) (omega (arith, here)))
          ∙ no_variable base p.text.variables m 0 (base + (all_words p.text.variables + i)) (omega arith),
      record { from = omega arith; below = omega (arith, here, above) },
    )
string_rootless base (p ∷ os) m (suc n) i o e less =
    let rest = string_rootless (base + data_of p) os (suc m) n i o e less in (
      no _ _ _ (le-ltb (place_from (base + data_of p) os n + (all_words o.text.variables + i)) (base + data_of p) (omega (arith, rest.1.from))) ∙ rest.0,
      record { from = omega (arith, rest.1.from); below = rest.1.below },
    )

-- ---- what a store has of data: zeros for the variables of each module, and the words of its strings
pub record HasData (base : ℕ) (os : List Compiled) (store : List ℕ) : Type 0 where
  pub zero_at : (n : ℕ) (o : Compiled) → slice_get os n ≡ Some o → (i : ℕ) → i < all_words o.text.variables → get_or store (place_from base os n + i) 0 ≡ 0
  pub strings_at : (n : ℕ) (o : Compiled) → slice_get os n ≡ Some o → (i : ℕ) → i < length o.strings
      → get_or store (place_from base os n + (all_words o.text.variables + i)) 0 ≡ get_or o.strings i 0

module _ (store : List ℕ) (base : ℕ) (o : Compiled) (room : base + data_of o ≤ length store) where
  abbrev clean : List ℕ
  clean = cleared store base (base + data_of o)

  abbrev zero_words : List ℕ
  zero_words = zeros (base + data_of o - base)

  zeros_fit : base + length (zeros (base + data_of o - base)) ≤ length store
  zeros_fit = omega (arith, room, zeros_length (base + data_of o - base))

  clean_length : length (cleared store base (base + data_of o)) ≡ length store
  clean_length = spliced_length store base (zeros (base + data_of o - base)) zeros_fit

  strings_fit : base + all_words o.text.variables + length o.strings ≤ length (cleared store base (base + data_of o))
  strings_fit = omega (arith, room, clean_length)

  one_length : length (one_placed store base o) ≡ length store
  one_length = spliced_length clean (base + all_words o.text.variables) o.strings strings_fit ∙ clean_length

  one_before : (a : ℕ) → a < base → get_or (one_placed store base o) a 0 ≡ get_or store a 0
  one_before a less = spliced_before clean (base + all_words o.text.variables) o.strings a strings_fit (omega (arith, less)) ∙ spliced_before store base zero_words a zeros_fit less

  one_zero : (i : ℕ) → i < all_words o.text.variables → get_or (one_placed store base o) (base + i) 0 ≡ 0
  one_zero i less =
      spliced_before clean (base + all_words o.text.variables) o.strings (base + i) strings_fit (omega (arith, less))
      ∙ spliced_there store base zero_words i zeros_fit (omega (arith, zeros_length (base + data_of o - base), less))
      ∙ zeros_word (base + data_of o - base) i (omega (arith, less))

  one_strings : (i : ℕ) → i < length o.strings → get_or (one_placed store base o) (base + (all_words o.text.variables + i)) 0 ≡ get_or o.strings i 0
  one_strings i less =
      ap (λ (a : ℕ). get_or (one_placed store base o) a 0) (let e : base + (all_words o.text.variables + i) ≡ base + all_words o.text.variables + i = omega arith in e)
      ∙ spliced_there clean (base + all_words o.text.variables) o.strings i strings_fit less

pub data_length : (store : List ℕ) (base : ℕ) (os : List Compiled) → data_end base os ≤ length store → length (data_placed store base os) ≡ length store
data_length store base [] room = refl
data_length store base (o ∷ os) room =
    let here : base + data_of o ≤ length store = omega (arith, room, end_above (base + data_of o) os) in
    data_length (one_placed store base o) (base + data_of o) os (omega (arith, room, one_length store base o here)) ∙ one_length store base o here

data_before : (store : List ℕ) (base : ℕ) (os : List Compiled) (a : ℕ) → data_end base os ≤ length store → a < base → get_or (data_placed store base os) a 0 ≡ get_or store a 0
data_before store base [] a room less = refl
data_before store base (o ∷ os) a room less =
    let here : base + data_of o ≤ length store = omega (arith, room, end_above (base + data_of o) os) in
    data_before (one_placed store base o) (base + data_of o) os a (omega (arith, room, one_length store base o here)) (omega (arith, less)) ∙ one_before store base o here a less

-- the data of one more before others
module _ (store : List ℕ) (base : ℕ) (p : Compiled) (os : List Compiled) (here : base + data_of p ≤ length store) (more : data_end (base + data_of p) os ≤ length (one_placed store base p))
    (rest : HasData (base + data_of p) os (data_placed (one_placed store base p) (base + data_of p) os)) where
  more_zero : (n : ℕ) (o : Compiled) → slice_get (p ∷ os) n ≡ Some o → (i : ℕ) → i < all_words o.text.variables → get_or (data_placed store base (p ∷ os)) (place_from base (p ∷ os) n + i) 0 ≡ 0
  more_zero zero o e i less =
      let same : p ≡ o = cc in
      let small : i < all_words p.text.variables = subst (λ (q : Compiled). i < all_words q.text.variables) (sym same) less in
      data_before (one_placed store base p) (base + data_of p) os (base + i) more (omega (arith, small)) ∙ one_zero store base p here i small
  more_zero (suc n) o e i less = rest.zero_at n o e i less

  more_strings : (n : ℕ) (o : Compiled) → slice_get (p ∷ os) n ≡ Some o → (i : ℕ) → i < length o.strings
      → get_or (data_placed store base (p ∷ os)) (place_from base (p ∷ os) n + (all_words o.text.variables + i)) 0 ≡ get_or o.strings i 0
  more_strings zero o e i less =
      let same : p ≡ o = cc in
      let small : i < length p.strings = subst (λ (q : Compiled). i < length q.strings) (sym same) less in
      subst (λ (q : Compiled). get_or (data_placed store base (p ∷ os)) (base + (all_words q.text.variables + i)) 0 ≡ get_or q.strings i 0) same
      (data_before (one_placed store base p) (base + data_of p) os (base + (all_words p.text.variables + i)) more (omega (arith, small)) ∙ one_strings store base p here i small)
  more_strings (suc n) o e i less = rest.strings_at n o e i less

  one_more : HasData base (p ∷ os) (data_placed store base (p ∷ os))
  one_more = record { zero_at = more_zero; strings_at = more_strings }

pub has_data : (store : List ℕ) (base : ℕ) (os : List Compiled) → data_end base os ≤ length store → HasData base os (data_placed store base os)
has_data store base [] room = record { zero_at = λ n o e. cc; strings_at = λ n o e. cc }
has_data store base (p ∷ os) room =
    let here : base + data_of p ≤ length store = omega (arith, room, end_above (base + data_of p) os) in
    let more : data_end (base + data_of p) os ≤ length (one_placed store base p) = omega (arith, room, one_length store base p here) in
    one_more store base p os here more (has_data (one_placed store base p) (base + data_of p) os more)

-- ---- the home where the first body begins: data, then its frame of so many words, then room
module _ (listed : Listed) (os : List Compiled) (size : ℕ) (store : List ℕ) where
  abbrev pub end : ℕ
  end = data_end 1 os

  abbrev owner_at : ℕ → Owner
  owner_at a = cond (nat_lt a 1) (Free end) (cond (nat_lt a end) (owner_by (root_at 1 os 1 a)) (cond (nat_lt a (end + size)) Own (Free end)))

  abbrev pub home : Home
  home = record { base = place_of os; shape = first_shape (map text_of os) (numbers_from 0 os); owner = owner_at; shadow = λ a. get_or store a 0; listed = listed; workspaces = [] }

  pub above : 1 ≤ data_end 1 os
  above = end_above 1 os

  pub owner_own : (a : ℕ) → data_end 1 os ≤ a → a < data_end 1 os + size → home.owner a ≡ Own
  owner_own a from below =
      no (nat_lt a 1) _ _ (le-ltb a 1 (omega (arith, from, above)))
      ∙ no (nat_lt a end) _ _ (le-ltb a end from)
      ∙ yes (nat_lt a (end + size)) _ _ (lt-ltb a (end + size) below)

  pub owner_free : (a : ℕ) → data_end 1 os + size ≤ a → home.owner a ≡ Free (data_end 1 os)
  owner_free a from =
      no (nat_lt a 1) _ _ (le-ltb a 1 (omega (arith, from, above)))
      ∙ no (nat_lt a end) _ _ (le-ltb a end (omega (arith, from)))
      ∙ no (nat_lt a (end + size)) _ _ (le-ltb a (end + size) from)

  -- a word of a root that lives is a word of a module's variable
  record HasWord (r : Root) (i : ℕ) : Type 0 where
    pub owned : root_at 1 os 1 (place_of os r + i) ≡ Some r
    pub inside : IsIn 1 (data_end 1 os) (place_of os r + i)
    -- of the module with this index, so many words behind its first
    pub index : ℕ
    pub its : Compiled
    pub there : slice_get os index ≡ Some its
    pub place : ℕ
    pub at : place_of os r + i ≡ place_from 1 os index + place
    pub less : place < all_words its.text.variables

  has_word : (r : Root) (i : ℕ) → i < words (home.shape r) → HasWord r i
  has_word (Global zero x) i less = absurd (omega (arith, less))
  has_word (Global (suc n) x) i less =
      by (slice_get os n) refl (subst (λ (o : Option Resolved). i < words (shape_at (variables_of o) x)) (text_at os n) less)
    where
      by : (o : Option Compiled) → slice_get os n ≡ o → i < words (shape_at (variables_in (slice_get os n)) x) → HasWord (Global (suc n) x) i
      by None e less = absurd (let l = subst (λ (o : Option Compiled). i < words (shape_at (variables_in o) x)) e less in omega (arith, l))
      by (Some o) e less =
          let small : i < words (shape_at o.text.variables x) = subst (λ (o : Option Compiled). i < words (shape_at (variables_in o) x)) e less in
          let w = root_owned 1 os 1 n x i o e small in
          let own = (variable_owned (place_from 1 os n) o.text.variables 1 0 x i small).1 in
          let at : variable_from (place_from 1 os n) o.text.variables x + i ≡ place_of os (Global (suc n) x) + i =
          ap (λ (p : Option Compiled). variable_from (place_from 1 os n) (variables_in p) x + i) (sym e) in
          record {
            owned = ap (root_at 1 os 1) (sym at) ∙ w.0 ∙ ap (λ (m : ℕ). Some (Global m x)) (let e : 1 + n ≡ suc n = omega arith in e);
            inside = subst (IsIn 1 (data_end 1 os)) at w.1;
            index = n;
            its = o;
            there = e;
            place = variable_from (place_from 1 os n) o.text.variables x + i - place_from 1 os n;
            at = sym at ∙ (let back : variable_from (place_from 1 os n) o.text.variables x + i ≡ place_from 1 os n + (variable_from (place_from 1 os n) o.text.variables x + i - place_from 1 os n) = omega (arith, own.from) in back);
            less = omega (arith, own.below, own.from);
          }
  has_word (Local a x) i less = absurd (omega (arith, less))
  has_word (Object o) i less = absurd (omega (arith, less))

  -- a root lies below the end of the data
  root_low : (r : Root) → place_of os r + words (home.shape r) ≤ data_end 1 os
  root_low (Global zero x) = omega (arith, above)
  root_low (Global (suc n) x) =
      subst (λ (o : Option Resolved). variable_from (place_from 1 os n) (variables_in (slice_get os n)) x + words (shape_at (variables_of o) x) ≤ data_end 1 os) (sym (text_at os n))
      (omega (arith, variable_low (variables_in (slice_get os n)) (place_from 1 os n) x, module_low os 1 n))
  root_low (Local a x) = omega (arith, above)
  root_low (Object o) = omega (arith, above)

  -- a word of a string never changes
  pub string_fixed : (n i : ℕ) (o : Compiled) → slice_get os n ≡ Some o → i < length o.strings → home.owner (place_from 1 os n + (all_words o.text.variables + i)) ≡ Fixed
  string_fixed n i o e less =
      let w = string_rootless 1 os 1 n i o e less in
      let a : ℕ = place_from 1 os n + (all_words o.text.variables + i) in
      no (nat_lt a 1) _ _ (le-ltb a 1 w.1.from) ∙ yes (nat_lt a end) _ _ (lt-ltb a end w.1.below) ∙ ap owner_by w.0

  -- and lies below the end of the data
  pub strings_low : (n : ℕ) (o : Compiled) → slice_get os n ≡ Some o → place_from 1 os n + data_of o ≤ data_end 1 os
  strings_low n o e = by os 1 n e
    where
      by : (os : List Compiled) (base n : ℕ) → slice_get os n ≡ Some o → place_from base os n + data_of o ≤ data_end base os
      by [] base n e = cc
      by (p ∷ os) base zero e = let same : p ≡ o = cc in omega (arith, end_above (base + data_of p) os, ap data_of same)
      by (p ∷ os) base (suc n) e = by os (base + data_of p) n e

  -- the cells of what was loaded are there where the data are
  pub mem : data_end 1 os ≤ 65535 → length store ≡ 65536 → HasData 1 os store → Mem home (fresh_cells (map text_of os) (numbers_from 0 os)) store
  mem room long blank = record {
    owned = λ r i l.
        let w = has_word r i l in
        no (nat_lt (place_of os r + i) 1) _ _ (le-ltb (place_of os r + i) 1 w.inside.from)
        ∙ yes (nat_lt (place_of os r + i) end) _ _ (lt-ltb (place_of os r + i) end w.inside.below)
        ∙ ap owner_by w.owned;
    inside = λ r. omega (arith, root_low r, room);
    holds = λ r q k e.
        let fits : offset (home.shape r) q < words (home.shape r) = omega (arith, part_fits (home.shape r) q (ap is_there e), word_long (part_at (home.shape r) q) k e) in
        let w = has_word r (offset (home.shape r) q) fits in
        let cell : fresh_cells (map text_of os) (numbers_from 0 os) r q ≡ zero_of k = ap zero_in e in
        zero_is home k (fresh_cells (map text_of os) (numbers_from 0 os) r q) (get_or store (place_of os r + offset (home.shape r) q) 0) cell
        (ap (λ (a : ℕ). get_or store a 0) w.at ∙ blank.zero_at w.index w.its w.there w.place w.less);
    kept = λ a e. refl;
    fixed = λ a e. refl;
    long = long;
  }
