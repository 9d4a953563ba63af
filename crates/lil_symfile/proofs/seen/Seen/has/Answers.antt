use Rattle.std.proofs.Common.{◌∙◌}
use Rattle.lil_format.specs.Names.{is_among}
use Rattle.lil_symfile.proofs.NameLaws.{among_map}
use Rattle.lil_symfile.proofs.seen.Seen.has.Goals as goal

pub returns : goal.returns
returns c = c.contains.ensures ∙ among_map c.args.name.now c.self.inside.names.keys ∙ (λ j. is_among (c.self.view_is j) c.args.name.now)
