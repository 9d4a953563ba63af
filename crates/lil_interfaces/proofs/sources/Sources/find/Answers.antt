use Rattle.std.proofs.Common.{◌∙◌}
use Rattle.lil_interfaces.specs.Sources.{source_of}
use Rattle.lil_interfaces.proofs.SourceNames.{look_map}
use Rattle.lil_interfaces.proofs.sources.Sources.find.Goals as goal

pub returns : goal.returns
returns c = c.copied.ensures ∙ c.get.ensures.value ∙ look_map c.as_slice.result.now c.self.inside.names.entries ∙ (λ j. source_of (c.self.view_is j) (c.as_slice.ensures.value j))
