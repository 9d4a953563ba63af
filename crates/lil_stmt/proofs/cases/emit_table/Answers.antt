use Rattle.std.proofs.Common.{◌+◌, List, take, get_or, subst, arith}
use Rattle.std.proofs.lemmas.List.{take_more, length-take-le}
use Rattle.lil_resolved.specs.declared.resolved.RLabel.{RLabel}
use Rattle.lil_labels.specs.Drafts.{Each, Emits}
use Rattle.lil_stmt.specs.Generating.{LabelEntry, ArmLabels}
use Rattle.lil_stmt.proofs.Stating.{next_arm_emitted}
use Rattle.lil_stmt.proofs.cases.emit_table.Goals as goal

pub loop-i-preserved : goal.loop-i-preserved
loop-i-preserved c =
    let ls = c.args.labels.now in
    let i = c.loop-i.i in
    let mine = subst (λ (rs : List RLabel). Emits c.loop-i.code c.emit_labels.new.code (Each (LabelEntry (get_or ls i 0)) rs)) c.as_slice.ensures c.in_ok-emit_labels.ensures in
    next_arm_emitted ArmLabels c.args.arms.now (take i ls) (take (i + 1) ls) i c.index-arms-i.result (get_or ls i 0) _ _ _ c.loop-i-test.true c.index-arms-i.is
    (length-take-le i ls (omega (arith, c.requires, c.loop-i-test.true))) (take_more ls i 0 (omega (arith, c.requires, c.loop-i-test.true))) c.loop-i.invariant mine
