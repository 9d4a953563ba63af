-- Laws of words that come to a place of a list.
use Rattle.std.proofs.Common.{◌≡◌, ℕ, ◌+◌, ◌-◌, ◌≤◌, List, ◌++◌, length, take, drop, sym, ap, ◌∙◌, arith, length-take, length-drop, append_assoc}
use Rattle.std.proofs.lemmas.List.{drop-drop, length-replicate, length-append, length-take-le, drop-append-le, take-append-le, drop-take, take-take, take_at, drop_at}
use borrow.Rule.Slice.PartMut.{put_mid}
use Rattle.lil_frames.specs.Words.{spliced, zeros}

pub length-zeros : (n : ℕ) → length (zeros n) ≡ n
unfolding zeros
length-zeros n = length-replicate n 0

pub put_mid-spliced : (from n : ℕ) (store words : List ℕ) → length words ≡ n → put_mid from n store words ≡ spliced store from words
unfolding spliced
put_mid-spliced from n store words h =
    ap (λ t. take from store ++ (words ++ t)) (drop-drop n from store ∙ ap (λ k. drop (from + k) store) (sym h))

-- the words before a place stay
pub before_spliced : (store words : List ℕ) (at start size : ℕ) → start + size ≤ at → at ≤ length store → take size (drop start (spliced store at words)) ≡ take size (drop start store)
unfolding spliced
before_spliced store words at start size h room =
    let front = take at store in
    let rest = words ++ drop (at + length words) store in
    let long : length front ≡ at = length-take-le at store room in
    let a : drop start (front ++ rest) ≡ drop start front ++ rest = drop-append-le start front rest (omega arith) in
    let b : length (drop start front) ≡ at - start = simp length-drop (omega arith) in
    let d : take size (drop start front ++ rest) ≡ take size (drop start front) = take-append-le size (drop start front) rest (omega arith) in
    let k : ℕ = at - start in
    let e : take at store ≡ take (start + k) store = ap (λ (n : ℕ). take n store) (omega arith) in
    let t : drop start front ≡ take k (drop start store) = ap (drop start) e ∙ drop-take start k store in
    ap (take size) a ∙ (d ∙ (ap (take size) t ∙ take-take size k (drop start store) (omega arith)))

-- the words that came stand at their place
pub at_spliced : (store words : List ℕ) (at n : ℕ) → at ≤ length store → length words ≡ n → take n (drop at (spliced store at words)) ≡ words
unfolding spliced
at_spliced store words at n room h =
    let front = take at store in
    let rest = drop (at + length words) store in
    ap (take n) (drop_at front (words ++ rest) at (length-take-le at store room)) ∙ take_at words rest n h

pub length_spliced : (store words : List ℕ) (at : ℕ) → at + length words ≤ length store → length (spliced store at words) ≡ length store
unfolding spliced
length_spliced store words at h = simp (length-append, length-take, length-drop) (omega arith)

-- words that come, and more that come behind them
pub spliced_on : (store words more : List ℕ) (to : ℕ) → to ≤ length store → spliced (spliced store to words) (to + length words) more ≡ spliced store to (words ++ more)
unfolding spliced
spliced_on store words more to room =
    let n : ℕ = to + length words in
    let front = take to store ++ words in
    let rest = drop n store in
    let whole = sym (append_assoc (take to store) words rest) in
    let long : length front ≡ n = omega (arith, length-append (take to store) words, length-take-le to store room) in
    let first = ap (take n) whole ∙ take_at front rest n long in
    let last : drop (n + length more) (take to store ++ (words ++ rest)) ≡ drop (to + length (words ++ more)) store =
    ap (drop (n + length more)) whole ∙ sym (drop-drop (length more) n (front ++ rest)) ∙ ap (drop (length more)) (drop_at front rest n long)
    ∙ drop-drop (length more) n store ∙ ap (λ (k : ℕ). drop k store) (omega (arith, length-append words more)) in
    ap (λ (t : List ℕ). t ++ (more ++ drop (n + length more) (take to store ++ (words ++ rest)))) first
    ∙ ap (λ (t : List ℕ). front ++ (more ++ t)) last
    ∙ append_assoc (take to store) words (more ++ drop (to + length (words ++ more)) store)
    ∙ ap (λ (t : List ℕ). take to store ++ t) (sym (append_assoc words more (drop (to + length (words ++ more)) store)))
