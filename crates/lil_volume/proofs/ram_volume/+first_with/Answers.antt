use Rattle.std.proofs.Common.{rules, ◌≡◌, ◌∙◌, arith}
use Rattle.lil_volume.proofs.Entries.{at_first, behind_first}
use Rattle.lil_volume.proofs.ram_volume.+first_with.Goals as goal

pub returns-then-same_bytes : goal.returns-then-same_bytes
returns-then-same_bytes t c =
    let same : c.first-item.result.0 ≡ c.args.name.now = search rules in
    at_first c.args.entries.now c.first-item.result c.args.name.now (omega arith) c.first-item.is same

pub returns-else-same_bytes : goal.returns-else-same_bytes
returns-else-same_bytes t c =
    c.first_with.ensures ∙ behind_first c.args.entries.now c.first-item.result c.args.name.now (omega arith) c.first-item.is (λ same. search rules)
