use Rattle.std.proofs.Common.{rules, of_calls, int_lt}
use Rattle.std.proofs.lemmas.Fn.{always_returns_same}
use Rattle.lil_check_type.proofs.SortedSpans.{parted, counted}
use Rattle.lil_check_type.proofs.spans.below.Goals as goal

pub returns-clause-count : goal.returns-clause-count
returns-clause-count c =
    let point = c.partition_point.ensures.partitioned (λ u. int_lt u.high c.args.s.low) (always_returns_same _ _ _ (λ a r f k. search (rules, of_calls)))
    (λ i j d l m up. parted c.args.sorted.now c.args.s.low c.requires i j d l m up) in
    counted c.args.sorted.now c.args.s.low _ c.partition_point.ensures.bound point
