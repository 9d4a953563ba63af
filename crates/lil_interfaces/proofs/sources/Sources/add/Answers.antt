use Rattle.std.proofs.Common.{rules, ◌≡◌, None, sym, ◌∙◌, ap, ◌++◌, ◌∷◌, [], map}
use Rattle.lil_interfaces.specs.Sources.{source_of}
use Rattle.lil_interfaces.proofs.SourceNames.{see, insert_map, source_before, source_new}
use Rattle.lil_interfaces.proofs.sources.Sources.add.Goals as goal

pub returns-in-Some : goal.returns-in-Some
returns-in-Some c = source_before c.args.self.now c.args.name.now c.args.source _ (sym c.find.ensures ∙ c.in-Some.is)

pub returns-in_ok-insert-in-None : goal.returns-in_ok-insert-in-None
returns-in_ok-insert-in-None c =
    let none : source_of c.args.self.now c.args.name.now ≡ None = sym c.find.ensures ∙ c.in-None.is in
    let key : c.in_ok-key-in-None.key.items ≡ c.args.name.now = search rules in
    ap (map see) c.in_ok-insert-in-None.ensures.entries
    ∙ insert_map c.in_ok-key-in-None.key c.args.source c.self.inside.names.entries ((λ j. source_of (c.self.view_is j) (key j)) ∙ none)
    ∙ (λ j. c.self.view_is j ++ (key j, c.args.source) ∷ [])
    ∙ source_new c.args.self.now c.args.name.now c.args.source none
