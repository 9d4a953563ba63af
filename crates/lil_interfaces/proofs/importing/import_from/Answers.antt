use Rattle.std.proofs.lemmas.Result.{IfOk-weaker}
use Rattle.lil_interfaces.proofs.ImportForms.{are_names}
use Rattle.lil_interfaces.proofs.importing.import_from.Goals as goal

pub returns : goal.returns
returns c = IfOk-weaker c.import_names.result _ _ (λ u h. are_names c.args.so_far.now c.args.interfaces.now c.args.owner.now c.args.names.now c.in_ok-block.ensures h) c.import_names.ensures
