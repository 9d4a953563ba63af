use Rattle.std.proofs.Common.{◌≡◌, drop}
use Rattle.lil_check_type.specs.SortedSpans.{has_value_of}
use Rattle.lil_check_type.proofs.spans.is_in.Given as goal

abbrev pub invariant-loop-u : goal.invariant-loop-u
invariant-loop-u l = has_value_of l.fn.items l.s ≡ has_value_of (drop l.u-index l.fn.items) l.s
