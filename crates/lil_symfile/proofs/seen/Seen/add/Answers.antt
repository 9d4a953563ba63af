use Rattle.std.proofs.Common.{rules, ◌≡◌, ◌∷◌, [], ◌++◌, false, ap, ◌∙◌}
use Rattle.lil_symfile.specs.Seen.{names_in}
use Rattle.lil_format.specs.Names.{is_among}
use Rattle.lil_symfile.proofs.NameLaws.{add_map}
use Rattle.lil_symfile.proofs.seen.Seen.add.Goals as goal

pub returns : goal.returns
returns c =
    let key : c.in_ok-key.key.items ≡ c.args.name.now = search rules in
    let new : is_among (names_in c.self.inside.names.keys) c.in_ok-key.key.items ≡ false = (λ j. is_among (c.self.view_is j) (key j)) ∙ c.requires in
    ap names_in c.in_ok-insert.ensures.keys ∙ add_map c.in_ok-key.key c.self.inside.names.keys new ∙ (λ j. c.self.view_is j ++ key j ∷ [])
