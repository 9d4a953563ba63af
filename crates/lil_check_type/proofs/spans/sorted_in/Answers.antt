use Rattle.std.proofs.Common.{◌≡◌, ◌∙◌, sym, ap, subst, insert}
use Rattle.lil_check_type.specs.SortedSpans.{has_value_of, AreSorted, below}
use Rattle.lil_check_type.proofs.SortedSpans.{same_values, stays_sorted}
use Rattle.lil_check_type.proofs.spans.sorted_in.Goals as goal

pub returns-clause-sorted : goal.returns-clause-sorted
returns-clause-sorted c =
    let placed : c.insert.new.self.items ≡ insert c.args.sorted.items (below c.args.sorted.items c.args.s.low) c.args.s = c.in_ok-insert.ensures.items ∙ ap (λ n. insert c.args.sorted.items n c.args.s) (c.below-at.ensures.count ∙ ap (λ us. below us c.args.s.low) c.as_slice.ensures.value) in
    subst AreSorted (sym placed) (stays_sorted c.args.sorted.items c.args.s c.requires.sorted c.requires.full c.requires.new)

pub returns-clause-values : goal.returns-clause-values
returns-clause-values c x = ap (λ us. has_value_of us x) c.in_ok-insert.ensures.items ∙ same_values c.args.sorted.items c.below-at.result c.args.s x
