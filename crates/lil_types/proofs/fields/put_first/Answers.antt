use Rattle.std.proofs.Common.{rules, ◌≡◌, None, ◌∙◌}
use Rattle.lil_types.specs.FieldIndex.{found_in, or_named}
use Rattle.lil_types.proofs.FieldNames.{put_new}
use Rattle.lil_types.proofs.fields.put_first.Goals as goal

pub returns-clause-first : goal.returns-clause-first
returns-clause-first c n =
    let key : c.in_ok-key.key.items ≡ c.args.name.now = search rules in
    let none : found_in c.args.index.now.entries c.args.name.now ≡ None = search rules in
    (λ j. found_in (c.in_ok-insert.ensures.entries j) n)
    ∙ put_new c.args.index.now.entries c.in_ok-key.key c.args.at ((λ j. found_in c.args.index.now.entries (key j)) ∙ none) n
    ∙ (λ j. or_named (found_in c.args.index.now.entries n) (key j) c.args.at n)
