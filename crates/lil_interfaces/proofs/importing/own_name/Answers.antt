use Rattle.std.proofs.lemmas.Result.{IfOk-weaker}
use Rattle.lil_interfaces.proofs.ImportForms.{is_own}
use Rattle.lil_interfaces.proofs.importing.own_name.Goals as goal

pub returns : goal.returns
returns c = IfOk-weaker c.take.result _ _ (λ u h. is_own c.args.so_far.now c.args.interfaces.now c.args.at.now c.in_ok-block.ensures h) c.take.ensures
