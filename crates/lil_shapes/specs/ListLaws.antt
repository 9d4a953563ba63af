-- Lists of parts: whether all are there, and what they are together.
use Rattle.std.proofs.Common.{◌≡◌, List, Some, None, ◌∙◌, sym, ap, ℕ, zero, suc, ◌+◌, ◌<◌, [], ◌∷◌, ◌++◌, length, map, take, drop, get_or, slice_get, Option, subst, refl}
use Rattle.lil_shapes.specs.Shaping.{all_some}
use Rattle.std.specs.Option.{option_map}
use Rattle.std.proofs.{lemmas.{List.{take_more, map-append}, Option.{none-some, same_Some}}, Math.Seq.split_at}

-- ---- all variables that lie one behind another, in at most 32,000 words

swapped : {A : Type 0} (o a : A) (found : Option (List A))
    → option_map (λ rest. o ∷ rest) (option_map (λ rest. rest ++ a ∷ []) found) ≡ option_map (λ rest. rest ++ a ∷ []) (option_map (λ rest. o ∷ rest) found)
swapped o a None = refl
swapped o a (Some found) = refl

some_push : {A : Type 0} (os : List (Option A)) (a : A) → all_some (os ++ Some a ∷ []) ≡ option_map (λ rest. rest ++ a ∷ []) (all_some os)
some_push (Some o ∷ os) a = ap (option_map (λ rest. o ∷ rest)) (some_push os a) ∙ swapped o a (all_some os)
some_push _ a = refl

-- what follows parts that are there
joined_again : {A : Type 0} (a : A) (found : List A) (o : Option (List A))
    → option_map (λ rest. a ∷ rest) (option_map (λ rest. found ++ rest) o) ≡ option_map (λ rest. (a ∷ found) ++ rest) o
joined_again a found None = refl
joined_again a found (Some rest) = refl

same_again : {A : Type 0} (o : Option (List A)) → o ≡ option_map (λ rest. [] ++ rest) o
same_again None = refl
same_again (Some rest) = refl

pub some_append : {A : Type 0} (os rest : List (Option A)) (found : List A) → all_some os ≡ Some found → all_some (os ++ rest) ≡ option_map (λ more. found ++ more) (all_some rest)
some_append [] rest found h = same_again (all_some rest) ∙ ap (λ (f : List _). option_map (λ more. f ++ more) (all_some rest)) (same_Some [] found h)
some_append (None ∷ os) rest found h = absurd (none-some found h)
some_append (Some a ∷ os) rest found h = by (all_some os) refl h (λ more. some_append os rest more)
  where
    by : (o : Option (List _)) → all_some os ≡ o → option_map (λ more. a ∷ more) o ≡ Some found → ((more : List _) → all_some os ≡ Some more → all_some (os ++ rest) ≡ option_map (λ last. more ++ last) (all_some rest))
        → option_map (λ more. a ∷ more) (all_some (os ++ rest)) ≡ option_map (λ more. found ++ more) (all_some rest)
    by None here h others = absurd (none-some found h)
    by (Some more) here h others =
        ap (option_map (λ last. a ∷ last)) (others more here)
        ∙ joined_again a more (all_some rest)
        ∙ ap (λ (f : List _). option_map (λ last. f ++ last) (all_some rest)) (same_Some (a ∷ more) found h)

none_among : {A : Type 0} (os rest : List (Option A)) → all_some (os ++ None ∷ rest) ≡ None
none_among (Some a ∷ os) rest = ap (option_map (λ found. a ∷ found)) (none_among os rest)
none_among _ rest = refl

pub map_of_map : {A B C : Type 0} (f : B → C) (g : A → B) (xs : List A) → map f (map g xs) ≡ map (λ x. f (g x)) xs
map_of_map f g [] = refl
map_of_map f g (x ∷ xs) = ap (λ rest. f (g x) ∷ rest) (map_of_map f g xs)

-- a loop over parts of which each is there so far
module _ {X B : Type 0} (F : X → Option B) where
  pub some_more : (xs : List X) (i : ℕ) (x : X) (b : B) (found : List B) → i < length xs → x ≡ get_or xs i x → F x ≡ Some b → all_some (map F (take i xs)) ≡ Some found
      → all_some (map F (take (i + 1) xs)) ≡ Some (found ++ b ∷ [])
  some_more xs i x b found h is there so_far =
      ap (λ ys. all_some (map F ys)) (take_more xs i x h ∙ ap (λ y. take i xs ++ y ∷ []) (sym is))
      ∙ ap all_some (map-append F (take i xs) (x ∷ []))
      ∙ ap (λ o. all_some (map F (take i xs) ++ o ∷ [])) there
      ∙ some_push (map F (take i xs)) b
      ∙ ap (option_map (λ rest. rest ++ b ∷ [])) so_far

  pub none_at : (xs : List X) (i : ℕ) (x : X) → i < length xs → x ≡ get_or xs i x → F x ≡ None → all_some (map F xs) ≡ None
  none_at xs i x h is gone =
      ap (λ ys. all_some (map F ys)) (split_at xs i x h ∙ ap (λ y. take i xs ++ y ∷ drop (suc i) xs) (sym is))
      ∙ ap all_some (map-append F (take i xs) (x ∷ drop (suc i) xs))
      ∙ ap (λ o. all_some (map F (take i xs) ++ o ∷ map F (drop (suc i) xs))) gone
      ∙ none_among (map F (take i xs)) (map F (drop (suc i) xs))

  -- each part of which all are there is there, at its place
  pub some_at : (xs : List X) (ys : List B) (i : ℕ) (x : X) → all_some (map F xs) ≡ Some ys → slice_get xs i ≡ Some x → (y : B) × (F x ≡ Some y) × (slice_get ys i ≡ Some y)
  some_at [] ys i x h is = absurd (none-some x is)
  some_at (z ∷ xs) ys i x h is = by (F z) refl (all_some (map F xs)) refl h (λ rest i. some_at xs rest i x)
    where
      Others : Type 0
      Others = (rest : List B) (i : ℕ) → all_some (map F xs) ≡ Some rest → slice_get xs i ≡ Some x → (y : B) × (F x ≡ Some y) × (slice_get rest i ≡ Some y)

      at : (b : B) (rest : List B) (i : ℕ) → F z ≡ Some b → all_some (map F xs) ≡ Some rest → slice_get (z ∷ xs) i ≡ Some x → Others → (y : B) × (F x ≡ Some y) × (slice_get (b ∷ rest) i ≡ Some y)
      at b rest zero here there is others = (b, ap F (sym (same_Some z x is)) ∙ here, refl)
      at b rest (suc i) here there is others = others rest i there is

      by : (o : Option B) → F z ≡ o → (rest : Option (List B)) → all_some (map F xs) ≡ rest → all_some (o ∷ map F xs) ≡ Some ys → Others → (y : B) × (F x ≡ Some y) × (slice_get ys i ≡ Some y)
      by None here rest there e others = absurd (none-some ys e)
      by (Some b) here None there e others = absurd (none-some ys (ap (option_map (λ rest. b ∷ rest)) (sym there) ∙ e))
      by (Some b) here (Some rest) there e others =
          subst (λ ys. (y : B) × (F x ≡ Some y) × (slice_get ys i ≡ Some y)) (same_Some (b ∷ rest) ys (ap (option_map (λ rest. b ∷ rest)) (sym there) ∙ e)) (at b rest i here there is others)

-- parts that are fine where they are there
module _ {B : Type 0} (IsFine : B → Type 0) where
  abbrev pub AllFine : List B → Type 0
  AllFine [] = Unit {0}
  AllFine (b ∷ bs) = IsFine b × AllFine bs
