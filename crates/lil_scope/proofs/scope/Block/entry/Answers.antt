use Rattle.std.proofs.Common.{◌∙◌}
use Rattle.lil_scope.specs.Names.{entry_in}
use Rattle.lil_scope.proofs.Entries.{look_map}
use Rattle.lil_scope.proofs.scope.Block.entry.Goals as goal

pub returns : goal.returns
returns c = c.copied.ensures ∙ c.get.ensures.value ∙ look_map c.as_slice.result.now c.self.inside.names.entries ∙ (λ j. entry_in (c.self.view_is j) (c.as_slice.ensures.value j))
