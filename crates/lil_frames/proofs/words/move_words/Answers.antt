use Rattle.std.proofs.Common.{◌≡◌, ℕ, ◌+◌, ◌-◌, List, ◌++◌, length, take, drop, sym, ap, ◌∙◌, arith, length-drop, append_assoc}
use Rattle.std.proofs.lemmas.List.{length-take-le}
use Rattle.lil_frames.specs.{Words.{spliced, zeros, cleared}, WordLaws.spliced_on}
use Rattle.lil_frames.proofs.words.move_words.Goals as goal

pub returns : goal.returns
unfolding spliced
returns c =
    let store = c.args.store.now in
    let to = c.args.to in
    let w = c.args.words in
    let words = take w (drop c.args.from store) in
    let less : c.args.from + w - c.args.from ≡ w = omega arith in
    let long : length words ≡ w = length-take-le w (drop c.args.from store) (omega (arith, length-drop c.args.from store, c.requires.there)) in
    let copied : c.copy_within.new.self ≡ spliced store to words =
    c.copy_within.ensures.after ∙ append_assoc (take to store) _ _ ∙ ap (λ (n : ℕ). take to store ++ (take n (drop c.args.from store) ++ drop (to + n) store)) less
    ∙ ap (λ (n : ℕ). take to store ++ (words ++ drop (to + n) store)) (sym long) in
    let more : to + (w + c.args.zeros) - (to + w) ≡ c.args.zeros = omega arith in
    c.clear.ensures
    ∙ ap (λ (l : List ℕ). cleared l (to + w) (to + (w + c.args.zeros))) copied
    ∙ ap (λ (n : ℕ). spliced (spliced store to words) (to + w) (zeros n)) more
    ∙ ap (λ (n : ℕ). spliced (spliced store to words) (to + n) (zeros c.args.zeros)) (sym long)
    ∙ spliced_on store words (zeros c.args.zeros) to (omega (arith, c.requires.room))
