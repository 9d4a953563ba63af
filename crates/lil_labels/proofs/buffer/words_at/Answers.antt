use Rattle.std.proofs.Common.{◌≢◌, Option, Some, sym, ◌∙◌, subst, arith}
use Rattle.std.specs.Prelude.{slice_get}
use Rattle.lil_resolved.specs.declared.shapes.RField.{RField}
use Rattle.lil_labels.specs.{Entries.small_at, Tables.last_by}
use Rattle.lil_labels.proofs.Sizes.{lesser_shape, last_words, all_plain}
use Rattle.lil_labels.proofs.buffer.words_at.Goals as goal

pub loop-field-preserved : goal.loop-field-preserved
loop-field-preserved c = λ measured.
    let shapes = c.args.shapes.now in
    let inner = c.loop-field.inner in
    let words = last_words shapes inner measured c.in-Some.field (sym c.last_at.ensures ∙ c.in-Some.is) in
    omega (arith, words, c.loop-field.invariant measured, small_at shapes c.args.number measured, c.saturating_add-before.ensures)

pub loop-field-smaller : goal.loop-field-smaller
loop-field-smaller c = lesser_shape c.loop-field.inner (last_by (slice_get c.args.shapes.now c.loop-field.inner)) c.in-Some.field (sym c.last_at.ensures ∙ c.in-Some.is)

pub returns : goal.returns
returns c = λ measured.
    let shapes = c.args.shapes.now in
    let inner = c.loop-field.inner in
    let none = subst (λ (o : Option RField). (f : RField) → o ≢ Some f) c.last_at.ensures c.in_default.not-Some in
    omega (arith, all_plain shapes inner measured none, c.loop-field.invariant measured, small_at shapes c.args.number measured, c.plain_words_at.ensures, c.saturating_add.ensures)
