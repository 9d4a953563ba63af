-- A list that is made item by item.
use Rattle.std.proofs.Common.{◌≡◌, ℕ, ◌+◌, ◌<◌, List, [], ◌∷◌, ◌++◌, length, take, get_or, map, sym, ap, ◌∙◌}
use Rattle.std.proofs.lemmas.List.{take_more, map-append}

pub mapped_more : {A B : Type 0} (f : A → B) (xs : List A) (i : ℕ) (x : A) (all : List B) → i < length xs → x ≡ get_or xs i x → all ≡ map f (take i xs)
    → all ++ f x ∷ [] ≡ map f (take (i + 1) xs)
mapped_more f xs i x all less is so_far =
    ap (λ ys. ys ++ f x ∷ []) so_far ∙ sym (map-append f (take i xs) (x ∷ [])) ∙ ap (map f) (sym (take_more xs i x less ∙ ap (λ z. take i xs ++ z ∷ []) (sym is)))
