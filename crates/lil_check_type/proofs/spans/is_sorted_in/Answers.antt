use Rattle.std.proofs.Common.{arith, ◌∙◌}
use Rattle.lil_check_type.proofs.SortedSpans.{reached, none_reached}
use Rattle.lil_check_type.proofs.spans.is_sorted_in.Goals as goal

pub returns-then-first-sorted : goal.returns-then-first-sorted
returns-then-first-sorted c = c.meets.ensures ∙ reached c.args.sorted.now c.args.s c.below-first.result _ c.requires c.below-first.ensures.count (omega arith)

pub returns-else-first-sorted : goal.returns-else-first-sorted
returns-else-first-sorted c = none_reached c.args.sorted.now c.args.s c.below-first.result c.requires c.below-first.ensures.count (omega arith)
