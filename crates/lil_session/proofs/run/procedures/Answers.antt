use Rattle.std.proofs.Common.{◌++◌, ◌∷◌, [], List, ℕ, Some, get_or, refl, ap, ◌∙◌, arith}
use Rattle.lil_session.proofs.Tables.{table_more, table_all}
use Rattle.lil_session.proofs.run.procedures.Goals as goal

pub loop-number-preserved : goal.loop-number-preserved
loop-number-preserved c =
    λ shapes.
    let i = c.loop-number.number in
    let e = get_or c.args.entries.now i 0 in
    table_more shapes c.args.of.now c.args.entries.now i c.index-of-number.result e c.loop-number-test.true c.requires c.index-of-number.is refl (c.loop-number.invariant shapes)
    (c.in_ok-push-2.ensures.items ∙ ap (λ (name : List ℕ). c.loop-number.table.items ++ (e, Some name) ∷ []) c.in_ok-copy.ensures)

pub returns : goal.returns
returns c = λ shapes. table_all shapes c.args.of.now c.args.entries.now c.loop-number.number c.requires (omega arith) (c.loop-number.invariant shapes)
