use Rattle.std.proofs.Common.{ℕ, ◌++◌, List, ap, ◌∙◌, arith}
use Rattle.lil_labels.proofs.Growing.{string_says}
use Rattle.lil_labels.proofs.buffer.CodeBuffer.string.Goals as goal

pub returns : goal.returns
returns c =
    string_says _ _ _ _ _ _ _ _ c.self.view_is c.args.text.now c.in_ok-words.words.items _ c.in_ok-words.ensures
    (c.in_ok-extend_from_slice.ensures.items ∙ ap (λ (ws : List ℕ). c.self.inside.strings.items ++ ws) c.as_slice.ensures.value)
    (omega (arith, c.len.ensures, c.self.inside.strings.ok))
