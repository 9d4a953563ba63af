use Rattle.std.proofs.Common.{rules, w16, sym, ap, ◌∙◌}
use mir.Val.{SFits}
use Rattle.std.proofs.lemmas.Int.{to_z-of_z}
use Rattle.lil_resolved.specs.{Kinds.{base_of, compared_as, covers, outside_turns}, Resolved.kind_of, Views.{kind_view, expression_of}}
use Rattle.lil_labels.specs.Emitting.{with_ok}
use Rattle.lil_stmt.proofs.Starting.{trap_emitted}
use Rattle.lil_stmt.proofs.starts.emit_align.Goals as goal

pub returns-then-outside_turns : goal.returns-then-outside_turns
returns-then-outside_turns c =
    let k = kind_view c.args.kind in
    let small : SFits w16 c.args.step = search rules in
    let way = ap (outside_turns (compared_as (base_of k))) (sym (to_z-of_z w16 c.args.step small)) ∙ sym c.outside_turns.ensures ∙ c.if-outside_turns.true in
    with_ok c.put_all.result
    (trap_emitted (covers (base_of k) (kind_of (expression_of c.args.from.now))) (outside_turns (compared_as (base_of k)) c.args.step) c.args.end _ _ (sym c.limit_covers.ensures ∙ c.if-limit_covers.false) way)
    c.put_all.ensures
