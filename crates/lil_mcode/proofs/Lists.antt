-- Reversed lists, and one word of a list.
use Rattle.std.proofs.Common.{◌≡◌, ℕ, ◌-◌, ◌≤◌, List, [], ◌∷◌, insert, Some, slice_get, ◌++◌, length, take, drop, reverse, sym, ap, ◌∙◌, arith}
use Rattle.std.proofs.{lemmas.{List.{reverse-append, length-reverse, take-append-drop, length-drop, drop_more}, Option.{slice_get_within, get_or_from_slice_get}}, Math.Seq.drop-append_seam}

pub drop_reverse : (k : ℕ) (xs : List ℕ) → k ≤ length xs → drop k (reverse xs) ≡ reverse (take (length xs - k) xs)
drop_reverse k xs h =
    let n : ℕ = length xs - k in
    let parts : reverse xs ≡ reverse (drop n xs) ++ reverse (take n xs) = ap reverse (sym (take-append-drop n xs)) ∙ reverse-append (take n xs) (drop n xs) in
    let long : length (reverse (drop n xs)) ≡ k = simp (length-reverse, length-drop) (omega arith) in
    ap (drop k) parts ∙ ap (λ j. drop j (reverse (drop n xs) ++ reverse (take n xs))) (sym long) ∙ drop-append_seam (reverse (drop n xs)) (reverse (take n xs))

pub replaced : (n : ℕ) (xs : List ℕ) (w : ℕ) → n ≤ length xs → reverse (take (length xs - n) xs ++ w ∷ []) ≡ w ∷ drop n (reverse xs)
replaced n xs w h = reverse-append (take (length xs - n) xs) (w ∷ []) ∙ ap (λ t. w ∷ t) (sym (drop_reverse n xs h))

-- a word that comes below all others
pub one_back : (items store : List ℕ) (from count w : ℕ) → count ≡ 1 → slice_get store from ≡ Some w → reverse (insert items 0 w) ≡ reverse items ++ reverse (take count (drop from store))
one_back items store from count w one is =
    let taken : take 1 (drop from store) ≡ w ∷ [] = ap (take 1) (drop_more store from 0 (slice_get_within store from w is)) ∙ ap (λ x. x ∷ []) (get_or_from_slice_get store from w 0 is) in
    reverse-append (w ∷ []) items ∙ ap (λ t. reverse items ++ reverse t) (sym (ap (λ n. take n (drop from store)) one ∙ taken))
