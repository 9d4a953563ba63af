use Rattle.std.proofs.Common.{subst, OnOk}
use Rattle.lil_asm.specs.declared.instr.Instr.{Instr}
use Rattle.lil_table.specs.Rows.{second_code}
use Rattle.lil_labels.specs.{Drafts.{Doing, DoingAll, Emits}, Emitting.with_ok}
use Rattle.lil_expr.proofs.Opens.{handed_on_argued}
use Rattle.lil_expr.proofs.calls.emit_handed_on.Goals as goal

pub returns : goal.returns
returns c =
    let first = subst (λ (i : Instr). Emits c.args.code.now c.put.new.self (Doing (λ word. i))) c.frame_load.ensures.is c.in_ok-put.ensures in
    let second = subst (λ (i : Instr). OnOk c.emit_second.result (Emits c.put.new.self c.emit_second.new.code (DoingAll (second_code c.args.calls i)))) c.frame_load-2.ensures.is c.emit_second.ensures in
    with_ok c.emit_second.result (handed_on_argued c.args.calls c.args.levels c.args.number c.saturating_add.result c.variable-opened.result _ _ _ c.variable-opened.ensures c.saturating_add.ensures first) second
