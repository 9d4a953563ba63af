use Rattle.std.proofs.Common.{◌+◌, take, sym, subst}
use Rattle.lil_labels.specs.Drafts.{Draft, Emits}
use Rattle.lil_unit.specs.Framing.{Copying}
use Rattle.lil_unit.proofs.Modules.{parameter_copied, other_passed}
use Rattle.lil_unit.proofs.code.emit_copies.Goals as goal
use Rattle.lil_unit.proofs.code.emit_copies.Goals.{then-i-parameters+in_ok-emit_copy, else-i-parameters}

pub loop-i-preserved : goal.loop-i-preserved
loop-i-preserved c =
    let vs = c.args.locals.now in
    let n = c.args.parameters in
    let i = c.loop-i.i in
    let v = c.index-locals-i.result in
    let old = c.args.code.now in
    elim c.if-i-parameters.branch [
      | then-i-parameters+in_ok-emit_copy w ↦ subst (λ (d : Draft). Emits old d (Copying (take n (take (i + 1) vs)))) (sym w.code-is)
          (parameter_copied vs n i v old c.loop-i.code w.emit_copy.new.code c.loop-i-test.true c.index-locals-i.is w.if-i-parameters.true c.loop-i.invariant w.in_ok-emit_copy.ensures)
      | else-i-parameters w ↦ subst (λ (d : Draft). Emits old d (Copying (take n (take (i + 1) vs)))) (sym w.code-is)
          (other_passed vs n i old c.loop-i.code w.if-i-parameters.false c.loop-i.invariant)
    ]
