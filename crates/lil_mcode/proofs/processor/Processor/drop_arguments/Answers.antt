use Rattle.std.proofs.Common.{◌≡◌, ℕ, ◌-◌, length, drop, take, reverse, ap, sym, refl, ◌∙◌, arith}
use Rattle.std.proofs.lemmas.List.{length-reverse}
use Rattle.lil_mcode.specs.Table.{State}
use Rattle.lil_mcode.proofs.Lists.{drop_reverse}
use Rattle.lil_mcode.proofs.processor.Processor.drop_arguments.Goals as goal

pub returns : goal.returns
returns c =
    let xs = c.self.inside.stack.items in
    let n = c.args.n in
    let long = ap (λ (s : State). length s.stack) c.self.view_is in
    let few = simp length-reverse at long in
    let kept : c.truncate.new.self.items ≡ take (length xs - n) xs = c.truncate.ensures.items ∙ ap (λ (k : ℕ). take k xs) (omega arith) in
    let stack : reverse c.truncate.new.self.items ≡ drop n (reverse xs) = ap reverse kept ∙ sym (drop_reverse n xs (omega arith)) in
    rw (← c.self.view_is, stack) refl
