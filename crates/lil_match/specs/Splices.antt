-- Words that come to a place of the store.
use Rattle.std.proofs.Common.{◌≡◌, ℕ, ◌+◌, ◌-◌, ◌<◌, ◌≤◌, ◌⊎◌, inl, inr, List, [], ◌∷◌, ◌++◌, length, get_or, take, drop, refl, sym, ap, ◌∙◌, arith, length-append, length-drop, append-nil}
use Rattle.std.proofs.lemmas.List.{get_or-take, get_or_append_left, get_or-append_right, get_or-drop, get_or-replicate, length-replicate, length-take-le, ext_get_or}
use Rattle.std.proofs.lemmas.Bool.{cases_lt}
use Rattle.lil_frames.specs.Words.{spliced, zeros, moved}

pub spliced_length : (store : List ℕ) (a : ℕ) (ws : List ℕ) → a + length ws ≤ length store → length (spliced store a ws) ≡ length store
unfolding spliced
spliced_length store a ws room =
    let front : length (take a store) ≡ a = length-take-le a store (omega (arith, room)) in
    omega (arith, length-append (take a store) (ws ++ drop (a + length ws) store), length-append ws (drop (a + length ws) store), front, length-drop (a + length ws) store)

pub spliced_before : (store : List ℕ) (a : ℕ) (ws : List ℕ) (b : ℕ) → a + length ws ≤ length store → b < a → get_or (spliced store a ws) b 0 ≡ get_or store b 0
unfolding spliced
spliced_before store a ws b room less =
    let front : length (take a store) ≡ a = length-take-le a store (omega (arith, room)) in
    get_or_append_left (take a store) (ws ++ drop (a + length ws) store) 0 b (omega (arith, front, less)) ∙ get_or-take a store b 0 less

pub spliced_there : (store : List ℕ) (a : ℕ) (ws : List ℕ) (i : ℕ) → a + length ws ≤ length store → i < length ws → get_or (spliced store a ws) (a + i) 0 ≡ get_or ws i 0
unfolding spliced
spliced_there store a ws i room less =
    let front : length (take a store) ≡ a = length-take-le a store (omega (arith, room)) in
    get_or-append_right (take a store) (ws ++ drop (a + length ws) store) a (a + i) 0 front (omega arith)
    ∙ ap (λ (z : ℕ). get_or (ws ++ drop (a + length ws) store) z 0) (let e : a + i - a ≡ i = omega arith in e)
    ∙ get_or_append_left ws (drop (a + length ws) store) 0 i less

pub spliced_after : (store : List ℕ) (a : ℕ) (ws : List ℕ) (b : ℕ) → a + length ws ≤ length store → a + length ws ≤ b → get_or (spliced store a ws) b 0 ≡ get_or store b 0
unfolding spliced
spliced_after store a ws b room behind =
    let front : length (take a store) ≡ a = length-take-le a store (omega (arith, room)) in
    get_or-append_right (take a store) (ws ++ drop (a + length ws) store) a b 0 front (omega (arith, behind))
    ∙ get_or-append_right ws (drop (a + length ws) store) (length ws) (b - a) 0 refl (omega (arith, behind))
    ∙ get_or-drop (a + length ws) store (b - a - length ws) 0
    ∙ ap (λ (z : ℕ). get_or store z 0) (let e : a + length ws + (b - a - length ws) ≡ b = omega (arith, behind) in e)

pub zeros_length : (n : ℕ) → length (zeros n) ≡ n
unfolding zeros
zeros_length n = length-replicate n 0

pub zeros_word : (n i : ℕ) → i < n → get_or (zeros n) i 0 ≡ 0
unfolding zeros
zeros_word n i less = get_or-replicate n i 0 0 less

-- a block with no zeros behind it
pub block_alone : (store : List ℕ) (a w : ℕ) → moved store a w 0 ≡ take w (drop a store)
unfolding zeros
block_alone store a w = append-nil (take w (drop a store))

-- two words, one behind the other
pub spliced_twice : (store : List ℕ) (a u v : ℕ) → a + 2 ≤ length store → spliced (spliced store a (u ∷ [])) (a + 1) (v ∷ []) ≡ spliced store a (u ∷ v ∷ [])
spliced_twice store a u v room = ext_get_or 0 (spliced (spliced store a (u ∷ [])) (a + 1) (v ∷ [])) (spliced store a (u ∷ v ∷ [])) (second_long ∙ first_long ∙ sym (spliced_length store a (u ∷ v ∷ []) room)) (λ i less. by i (cases_lt i a) (cases_lt i (a + 1)) (cases_lt i (a + 2)))
  where
    first_long : length (spliced store a (u ∷ [])) ≡ length store
    first_long = spliced_length store a (u ∷ []) (omega (arith, room))

    second_room : (a + 1) + 1 ≤ length (spliced store a (u ∷ []))
    second_room = omega (arith, room, first_long)

    second_long : length (spliced (spliced store a (u ∷ [])) (a + 1) (v ∷ [])) ≡ length (spliced store a (u ∷ []))
    second_long = spliced_length (spliced store a (u ∷ [])) (a + 1) (v ∷ []) second_room

    by : (i : ℕ) → (i < a) ⊎ (a ≤ i) → (i < a + 1) ⊎ (a + 1 ≤ i) → (i < a + 2) ⊎ (a + 2 ≤ i) → get_or (spliced (spliced store a (u ∷ [])) (a + 1) (v ∷ [])) i 0 ≡ get_or (spliced store a (u ∷ v ∷ [])) i 0
    by i (inl low) q r =
        spliced_before (spliced store a (u ∷ [])) (a + 1) (v ∷ []) i second_room (omega (arith, low)) ∙ spliced_before store a (u ∷ []) i (omega (arith, room)) low ∙ sym (spliced_before store a (u ∷ v ∷ []) i room low)
    by i (inr from) (inl low) r =
        let e : i ≡ a + 0 = omega (arith, from, low) in
        spliced_before (spliced store a (u ∷ [])) (a + 1) (v ∷ []) i second_room low
        ∙ ap (λ (j : ℕ). get_or (spliced store a (u ∷ [])) j 0) e ∙ spliced_there store a (u ∷ []) 0 (omega (arith, room)) (omega arith)
        ∙ sym (ap (λ (j : ℕ). get_or (spliced store a (u ∷ v ∷ [])) j 0) e ∙ spliced_there store a (u ∷ v ∷ []) 0 room (omega arith))
    by i (inr from) (inr next) (inl low) =
        let e : i ≡ (a + 1) + 0 = omega (arith, next, low) in
        let f : i ≡ a + 1 = omega (arith, next, low) in
        ap (λ (j : ℕ). get_or (spliced (spliced store a (u ∷ [])) (a + 1) (v ∷ [])) j 0) e ∙ spliced_there (spliced store a (u ∷ [])) (a + 1) (v ∷ []) 0 second_room (omega arith)
        ∙ sym (ap (λ (j : ℕ). get_or (spliced store a (u ∷ v ∷ [])) j 0) f ∙ spliced_there store a (u ∷ v ∷ []) 1 room (omega arith))
    by i (inr from) (inr next) (inr high) =
        spliced_after (spliced store a (u ∷ [])) (a + 1) (v ∷ []) i second_room (omega (arith, high))
        ∙ spliced_after store a (u ∷ []) i (omega (arith, room)) (omega (arith, high))
        ∙ sym (spliced_after store a (u ∷ v ∷ []) i room high)
