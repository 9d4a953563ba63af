use Rattle.std.proofs.lemmas.Result.{IfOk-weaker}
use Rattle.lil_interfaces.proofs.ImportForms.{is_plain, is_from}
use Rattle.lil_interfaces.proofs.importing.import.Goals as goal

pub returns-in-None : goal.returns-in-None
returns-in-None c = IfOk-weaker c.import_modules.result _ _ (λ u h. is_plain c.args.so_far.now c.args.interfaces.now c.args.of.now _ c.in-None.is c.as_slice.ensures h) c.import_modules.ensures

pub returns-in-Some : goal.returns-in-Some
returns-in-Some c = IfOk-weaker c.import_of.result _ _ (λ u h. is_from c.args.so_far.now c.args.interfaces.now c.args.of.now _ _ c.in-Some.is c.as_slice-in-Some.ensures h) c.import_of.ensures
