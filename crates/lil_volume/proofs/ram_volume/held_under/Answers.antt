use Rattle.std.proofs.Common.{sym, ◌∙◌}
use Rattle.std.specs.FinMap.{get-from_entries}
use Rattle.std.proofs.lemmas.Cmp.{nat_list_cmp_total}
use Rattle.lil_volume.proofs.ram_volume.held_under.Goals as goal

pub returns : goal.returns
returns c = c.first_with.ensures ∙ sym (get-from_entries nat_list_cmp_total c.args.entries.now c.args.name.now)
