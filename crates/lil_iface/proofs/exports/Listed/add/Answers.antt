use Rattle.std.proofs.Common.{rules, ◌≡◌, ap, ◌∙◌, map}
use Rattle.lil_scope.specs.Names.{and_name}
use Rattle.lil_iface.proofs.Among.{bytes, add_map}
use Rattle.lil_iface.proofs.exports.Listed.add.Goals as goal

pub returns : goal.returns
returns c =
    let key : c.in_ok-key.key.items ≡ c.args.name.now = search rules in
    ap (map bytes) c.in_ok-insert.ensures.keys ∙ add_map c.in_ok-key.key c.self.inside.names.keys ∙ (λ j. and_name (c.self.view_is j) (key j))
