use Rattle.std.proofs.Common.{refl}
use Rattle.lil_check_value.proofs.Forms.{is_variable}
use Rattle.lil_check_value.proofs.values.variable.Goals as goal

pub returns : goal.returns
returns c = is_variable c.args.env.now c.args.of.now refl c.in_ok-found.ensures c.variable_node.ensures
