use Rattle.std.proofs.Common.{◌≡◌, ◌++◌, ◌∷◌, [], ◌&&◌, not, true, int_lt, sym, subst, ◌∙◌}
use Rattle.lil_check_type.specs.SortedSpans.{has_value_of, IsIndex}
use Rattle.lil_check_type.proofs.SortedSpans.{all_true, grows}
use Rattle.lil_check_type.proofs.spans.Spans.and.Goals as goal

pub invariant_of-result : goal.invariant_of-result
invariant_of-result c =
    let apart = (all_true c.self.inside.apart (int_lt c.args.s.high c.args.s.low) (has_value_of c.as_slice.result.now c.args.s) (sym c.fits.ensures ∙ c.if-fits.true)).0 in
    subst (IsIndex true c.in_ok-sorted.sorted.items) (sym c.in_ok-push.ensures.ok)
    (grows c.self.inside.apart c.self.inside.sorted.items c.self.inside.items c.in_ok-sorted.sorted.items c.args.s c.self.invariant apart c.in_ok-sorted.ensures.sorted c.in_ok-sorted.ensures.values)
