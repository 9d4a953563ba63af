use Rattle.std.proofs.Common.{rules}
use Rattle.lil_check_type.proofs.Forms.{is_array_of, is_record_of, is_pointer_to, is_cases, is_some}
use Rattle.lil_check_type.proofs.sorts.+sorts.Goals as goal

pub list-returns-in_ok-each_list-in-Some : goal.list-returns-in_ok-each_list-in-Some
list-returns-in_ok-each_list-in-Some t c = is_cases _ c.args.fields.now c.as_slice-in-Variants.result.now {p = c.in-Variants.field-0} c.in-Variants.others (search rules) c.in_ok-tag-in-Variants.ensures c.in_ok-labels-in-Variants.ensures c.end_labels.ensures
    (is_some _ c.as_slice-in-Some.result.now (search rules) c.in_ok-each_list-in-Some.ensures)

pub sort-returns-in_ok-sort-in-ArrayOf : goal.sort-returns-in_ok-sort-in-ArrayOf
sort-returns-in_ok-sort-in-ArrayOf t c = is_array_of _ c.as_slice.result.now c.get.result.now {p = c.in-ArrayOf.place} (search rules) c.in_ok-indexes-in-ArrayOf.ensures c.in_ok-element-in-ArrayOf.ensures c.in_ok-sort-in-ArrayOf.ensures

pub sort-returns-in_ok-sort-in-RecordOf : goal.sort-returns-in_ok-sort-in-RecordOf
sort-returns-in_ok-sort-in-RecordOf t c = is_record_of _ c.as_slice-in-RecordOf.result.now {p = c.in-RecordOf.place} (search rules) c.in_ok-sort-in-RecordOf.ensures

pub sort-returns-in_ok-sort-in-PointerTo : goal.sort-returns-in_ok-sort-in-PointerTo
sort-returns-in_ok-sort-in-PointerTo t c = is_pointer_to _ c.get-in-PointerTo.result.now {p = c.in-PointerTo.place} (search rules) c.in_ok-sort-in-PointerTo.ensures
