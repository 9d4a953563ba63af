use Rattle.std.proofs.lemmas.Result.{IfOk-weaker}
use Rattle.lil_check_decl.proofs.Forms.{is_heading}
use Rattle.lil_check_decl.proofs.headings.heading.Goals as goal

pub returns : goal.returns
returns c = IfOk-weaker c.named.result _ _ (λ o said. is_heading _ c.args.of.now c.in_ok-block.block c.as_slice.result.now c.in_ok-block.ensures.number c.in_ok-block.ensures.more c.home_at-home.ensures c.as_slice.ensures c.in_ok-parameters.ensures c.in_ok-sort.ensures said) c.named.ensures
