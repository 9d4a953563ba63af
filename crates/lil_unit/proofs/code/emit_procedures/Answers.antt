use Rattle.std.proofs.Common.{ℕ, List, [], ◌∷◌, ◌++◌, ◌%◌, sym, ap, ◌∙◌, subst}
use Rattle.lil_resolved.specs.{declared.shapes.RShape.RShape, Kinds.{Shape}}
use Rattle.lil_labels.specs.Tables.{Tables}
use Rattle.lil_unit.specs.Framing.{AreFramed}
use Rattle.lil_unit.proofs.Modules.{procedure_more}
use Rattle.lil_unit.proofs.code.emit_procedures.Goals as goal

pub loop-i-preserved : goal.loop-i-preserved
loop-i-preserved c =
    let h = c.index-procedures-i.result.heading in
    let same = ap (λ (t : Tables). t.shapes) c.loop-i.invariant.same in
    let framed = rw (c.enter.ensures, c.as_slice.ensures, c.as_slice-in-loop-i.ensures) at c.in_ok-emit_framed.ensures in
    let here = λ (locals : List Shape) (parameters : List Shape) (taken : AreFramed c.args.code.now.tables.shapes h.words h.locals h.parameters locals parameters).
    framed locals parameters (subst (λ (ts : List RShape). AreFramed ts h.words h.locals h.parameters locals parameters) (sym same) taken) in
    procedure_more c.args.procedures.now c.loop-i.i c.index-procedures-i.result c.loop-i.entries c.push.new.self c.args.code.now c.loop-i.code c.emit_framed.new.code c.requires c.loop-i-test.true c.index-procedures-i.is
    (c.in_ok-push.ensures.ok ∙ ap (λ (n : ℕ). c.loop-i.entries ++ n % 65536 ∷ []) c.len.ensures.bytes)
    c.loop-i.invariant here
