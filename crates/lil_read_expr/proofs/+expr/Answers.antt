use Rattle.std.proofs.Common.{sym, ◌∙◌}
use Rattle.lil_language.specs.{Grammar.{elements, field_set, field_path, behind_field}, Laws.{first_applied_twice, other_applied_twice}}
use Rattle.lil_read_expr.proofs.+expr.Goals as goal

pub named::behind_field-returns-then-sees : goal.named::behind_field-returns-then-sees
unfolding elements field_set behind_field
named::behind_field-returns-then-sees t c = first_applied_twice c.args.first (c.args.place, c.args.field) field_set field_path c.args.depth c.args.reader.now _ _ (sym c.if-sees.true ∙ c.sees.ensures) c.field_set.ensures

pub named::behind_field-returns-else-sees : goal.named::behind_field-returns-else-sees
unfolding elements field_set behind_field
named::behind_field-returns-else-sees t c = other_applied_twice c.args.first (c.args.place, c.args.field) field_set field_path c.args.depth c.args.reader.now _ _ (sym c.if-sees.false ∙ c.sees.ensures) c.field_path.ensures
