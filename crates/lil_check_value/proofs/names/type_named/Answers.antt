use Rattle.lil_check_value.proofs.Looking.{is_qualified}
use Rattle.lil_check_value.proofs.names.type_named.Goals as goal

pub returns-in-Some : goal.returns-in-Some
returns-in-Some c = is_qualified c.args.env.now c.args.of.now c.in-Some.owner c.in-Some.is c.look-in-Some.ensures c.module_node-block.ensures c.member_type.ensures
