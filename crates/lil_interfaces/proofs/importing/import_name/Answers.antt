use Rattle.std.proofs.lemmas.Result.{IfOk-weaker}
use Rattle.lil_interfaces.proofs.ImportForms.{is_name}
use Rattle.lil_interfaces.proofs.importing.import_name.Goals as goal

pub returns : goal.returns
returns c = IfOk-weaker c.take_whole.result _ _ (λ u h. is_name c.args.so_far.now c.args.block c.args.at.now c.find_in-of.ensures c.found-thing.ensures h) c.take_whole.ensures
