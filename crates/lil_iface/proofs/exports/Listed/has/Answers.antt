use Rattle.std.proofs.Common.{◌∙◌}
use Rattle.lil_scope.specs.Names.{is_among}
use Rattle.lil_iface.proofs.Among.{among_map}
use Rattle.lil_iface.proofs.exports.Listed.has.Goals as goal

pub returns : goal.returns
returns c = c.contains.ensures ∙ among_map c.as_slice.result.now c.self.inside.names.keys ∙ (λ j. is_among (c.self.view_is j) (c.as_slice.ensures.value j))
