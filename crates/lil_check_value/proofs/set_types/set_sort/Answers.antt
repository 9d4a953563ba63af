use Rattle.std.proofs.Common.{Some, sym, ap, ◌∙◌}
use Rattle.lil_check_value.proofs.Looking.{is_set_named}
use Rattle.lil_check_value.proofs.set_types.set_sort.Goals as goal

pub returns-in-Some : goal.returns-in-Some
returns-in-Some c = is_set_named c.args.env.now c.args.of.now c.get-name.result.now (c.in-Some.is ∙ ap Some (sym c.get-name.ensures)) c.type_named-sort.ensures c.sort_node.ensures
