use Rattle.std.proofs.Common.{ℕ, ◌%◌, List, ap, subst}
use Rattle.lil_resolved.specs.Sizes.{words_of}
use Rattle.lil_labels.specs.{Drafts.{Adds, Saying}, Emitting.with_ok}
use Rattle.lil_expr.proofs.Spelling.{spelled_argued}
use Rattle.lil_expr.proofs.spelled.emit_spelled.Goals as goal

pub returns : goal.returns
returns c =
    let offset = c.in_ok-offset.offset in
    let characters = ap (λ (n : ℕ). n % 65536) c.len.ensures in
    let said = subst (λ (cs : List ℕ). Adds (words_of cs) c.args.code.now c.string.new.self (Saying cs offset)) c.as_slice.ensures c.in_ok-offset.ensures in
    with_ok c.emit_zeros.result
    (spelled_argued c.args.text.now c.args.count offset (c.len.result % 65536) c.saturating_sub.result _ _ _ _ characters c.saturating_sub.ensures said c.in_ok-put_all.ensures)
    c.emit_zeros.ensures
