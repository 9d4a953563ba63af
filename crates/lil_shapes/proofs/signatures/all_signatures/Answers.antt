use Rattle.std.proofs.Common.{◌≡◌, sym, ap, ◌∙◌, ◌∷◌, ◌++◌, [], rules, arith}
use Rattle.lil_shapes.specs.Signatures as spec
use Rattle.lil_shapes.proofs.SignatureLaws.{none_below, one_more, all_below}
use Rattle.lil_shapes.proofs.signatures.all_signatures.Goals as goal

pub loop-number-init : goal.loop-number-init
loop-number-init c = c.new-all.ensures ∙ sym (none_below c.args.t.now)

pub loop-number-preserved : goal.loop-number-preserved
loop-number-preserved c =
    let more : c.push.new.self ≡ c.loop-number.all ++ spec.signature c.args.t.now c.loop-number.number ∷ [] = search rules in
    more ∙ ap (λ all. all ++ spec.signature c.args.t.now c.loop-number.number ∷ []) c.loop-number.invariant ∙ sym (one_more c.args.t.now c.loop-number.number)

pub returns : goal.returns
returns c = all_below c.args.t.now c.args.types.now c.loop-number.number c.loop-number.all c.requires (omega arith) (omega arith) c.loop-number.invariant
