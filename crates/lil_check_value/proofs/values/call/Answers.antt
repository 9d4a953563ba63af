use Rattle.std.proofs.Common.{refl}
use Rattle.lil_check_value.proofs.Forms.{is_stated}
use Rattle.lil_check_value.proofs.values.call.Goals as goal

pub returns : goal.returns
returns c = is_stated c.args.env.now c.args.of.now c.args.arguments.now refl c.as_slice.ensures c.in_ok-found.ensures c.callee_node-callee.ensures c.asks-asked.ensures c.in_ok-callee.ensures.ok c.all_arguments-all.ensures c.in_ok-value.ensures
