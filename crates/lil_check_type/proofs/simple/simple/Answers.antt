use Rattle.lil_check_type.proofs.Forms.{is_range}
use Rattle.lil_check_type.proofs.simple.simple.Goals as goal

pub returns-in_ok-sort-in-Subrange : goal.returns-in_ok-sort-in-Subrange
returns-in_ok-sort-in-Subrange c = is_range _ c.in-Subrange.is c.range_base-named.ensures c.in_ok-a-in-Subrange.ensures c.in_ok-b-in-Subrange.ensures c.bound_of-a.ensures c.bound_of.ensures c.range-form.ensures c.in_ok-sort-in-Subrange.ensures
