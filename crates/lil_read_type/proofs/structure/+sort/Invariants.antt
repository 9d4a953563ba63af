use Rattle.std.proofs.Common.{◌≡◌, ◌+◌, ◌-◌, ◌*◌}
use Rattle.lil_text.specs.declared.token.Mark.TheVariants as m
use Rattle.lil_grammar.specs.Steps.{loop}
use Rattle.lil_language.specs.Grammar as spec
use Rattle.lil_read_type.proofs.structure.+sort.Given as goal

abbrev pub decreases-sort : goal.decreases-sort
decreases-sort l = 16 * l.depth + 0

abbrev pub decreases-record_case : goal.decreases-record_case
decreases-record_case l = 16 * l.depth + 0

abbrev pub decreases-field_row : goal.decreases-field_row
decreases-field_row l = 16 * l.depth + 1

abbrev pub decreases-a_fieldlist : goal.decreases-a_fieldlist
decreases-a_fieldlist l = 16 * l.depth + 2

abbrev pub decreases-field_statement : goal.decreases-field_statement
decreases-field_statement l = 16 * l.depth + 3

abbrev pub decreases-fields : goal.decreases-fields
decreases-fields l = 16 * l.depth + 4

abbrev pub decreases-array : goal.decreases-array
decreases-array l = 16 * l.depth + 1

abbrev pub decreases-pointer : goal.decreases-pointer
decreases-pointer l = 16 * l.depth + 1

abbrev pub decreases-record_type : goal.decreases-record_type
decreases-record_type l = 16 * l.depth + 5

abbrev pub decreases-structured : goal.decreases-structured
decreases-structured l = 16 * l.depth + 6

abbrev pub decreases-a_sort : goal.decreases-a_sort
decreases-a_sort l = 16 * l.depth + 7

abbrev pub decreases-a_variant : goal.decreases-a_variant
decreases-a_variant l = 16 * l.depth + 5

abbrev pub decreases-some_variant : goal.decreases-some_variant
decreases-some_variant l = 16 * l.depth + 6

abbrev pub decreases-variants : goal.decreases-variants
decreases-variants l = 16 * l.depth + 7

abbrev pub decreases-other_fields : goal.decreases-other_fields
decreases-other_fields l = 16 * l.depth + 5

abbrev pub decreases-field_variants : goal.decreases-field_variants
decreases-field_variants l = 16 * l.depth + 8

abbrev pub invariant-fields-loop-turn : goal.invariant-fields-loop-turn
invariant-fields-loop-turn l = spec.reading l.depth spec.fields l.fn.reader ≡ loop (spec.turns (spec.behind (spec.mark m.Semicolon) spec.field_statement)) (spec.turned l.depth (spec.behind (spec.mark m.Semicolon) spec.field_statement) spec.with_listed) (l._turn-end - l._turn) l.found l.reader

abbrev pub invariant-variants-loop-turn : goal.invariant-variants-loop-turn
invariant-variants-loop-turn l = spec.reading l.depth spec.variants l.fn.reader ≡ loop (spec.turns (spec.behind (spec.mark m.Bar) spec.some_variant)) (spec.turned l.depth (spec.behind (spec.mark m.Bar) spec.some_variant) spec.with_listed) (l._turn-end - l._turn) l.found l.reader
