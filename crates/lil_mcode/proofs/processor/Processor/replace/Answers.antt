use Rattle.std.proofs.Common.{◌≡◌, ℕ, ◌-◌, List, [], ◌∷◌, ◌++◌, length, drop, take, reverse, ap, refl, ◌∙◌, arith}
use Rattle.std.proofs.lemmas.List.{length-reverse}
use Rattle.lil_mcode.specs.Table.{State}
use Rattle.lil_mcode.proofs.Lists.{replaced}
use Rattle.lil_mcode.proofs.processor.Processor.replace.Goals as goal

pub returns : goal.returns
returns c =
    let xs = c.self.inside.stack.items in
    let w = c.args.word in
    let k = c.args.dropped in
    let long = ap (λ (s : State). length s.stack) c.self.view_is in
    let few = simp length-reverse at long in
    let kept : c.truncate.new.self.items ≡ take (length xs - k) xs = c.truncate.ensures.items ∙ ap (λ (n : ℕ). take n xs) (omega arith) in
    let now : c.push.new.self.items ≡ take (length xs - k) xs ++ w ∷ [] = c.push.ensures.items ∙ ap (λ (t : List ℕ). t ++ w ∷ []) kept in
    let stack : reverse c.push.new.self.items ≡ w ∷ drop k (reverse xs) = ap reverse now ∙ replaced k xs w (omega arith) in
    rw (← c.self.view_is, stack) refl
