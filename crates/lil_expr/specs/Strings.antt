-- The words of the strings of items, one by one.
use Rattle.std.proofs.Common.{◌≡◌, ℕ, ◌+◌, ◌<◌, List, [], ◌∷◌, ◌++◌, length, take, get_or, sym, ap, ◌∙◌, append-nil}
use Rattle.std.specs.List.{flat_map}
use Rattle.std.proofs.lemmas.Grind.{flat_map-append}
use Rattle.lil_labels.specs.{Drafts.{Draft, Meaning, Each, Adds, Emits}, Emitting.{take_next, emits_then, adds_as, each_next}}

-- those of the items so far, and of the next one
pub parts_next : {X : Type 0} (f : X → List ℕ) (xs : List X) (i : ℕ) (x : X) → i < length xs → x ≡ get_or xs i x → flat_map f (take i xs) ++ f x ≡ flat_map f (take (i + 1) xs)
parts_next f xs i x inside is =
    let so_far = flat_map f (take i xs) in
    sym (ap (flat_map f) (take_next xs i x inside is) ∙ flat_map-append f (take i xs) (x ∷ []) ∙ ap (λ (ws : List ℕ). so_far ++ ws) (append-nil (f x)))

pub next_part : {X : Type 0} (P : X → Meaning) (f : X → List ℕ) (xs : List X) (i : ℕ) (y : X) (a b c : Draft) → i < length xs → y ≡ get_or xs i y → Adds (flat_map f (take i xs)) a b (Each P (take i xs)) → Adds (f y) b c (P y)
    → Adds (flat_map f (take (i + 1) xs)) a c (Each P (take (i + 1) xs))
next_part P f xs i y a b c inside is so_far next = adds_as a c _ (parts_next f xs i y inside is) (each_next P xs i y a b c inside is so_far next)

-- a piece, and one without strings behind it
pub emits_end : {us : List ℕ} (a b c : Draft) (T U : Meaning) → Adds us a b T → Emits b c U → Adds us a c (λ x p q. T x p (length b.bytes) × U x (length b.bytes) q)
emits_end {us = us} a b c T U t u = adds_as a c _ (append-nil us) (emits_then a b c T U t u)
