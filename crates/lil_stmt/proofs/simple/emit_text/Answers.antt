use Rattle.std.proofs.Common.{List, ℕ, ◌%◌, ap, subst, arith}
use Rattle.lil_resolved.specs.{declared.shapes.RElements.RElements, Views.place_of, Sizes.words_of}
use Rattle.lil_labels.specs.{Drafts.{Adds, Saying}, Emitting.with_ok}
use Rattle.lil_stmt.proofs.Texts.{text_emitted}
use Rattle.lil_stmt.proofs.simple.emit_text.Goals as goal

pub returns : goal.returns
returns c =
    let offset = c.in_ok-offset.offset in
    let says = subst (λ (cs : List ℕ). Adds (words_of cs) c.emit_address_of.new.code c.string.new.self (Saying cs offset)) c.as_slice.ensures c.in_ok-offset.ensures in
    let known = ap (λ (e : RElements). e.count) c.elements-count.ensures in
    with_ok c.put_all.result
    (λ h n exit. text_emitted (place_of c.args.place.now) c.args.text.now c.in_ok-shape.shape offset (c.len.result % 65536) c.min-zeros.result n exit _ _ _ _ (ap (λ (n : ℕ). n % 65536) c.len.ensures)
    (omega (arith, c.min-zeros.ensures, c.saturating_sub.ensures, c.from.ensures, known)) c.in_ok-shape.ensures says h)
    c.put_all.ensures
