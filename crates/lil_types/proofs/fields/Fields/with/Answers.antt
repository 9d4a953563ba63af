use Rattle.std.proofs.Common.{rules, arith, ◌≡◌, sym, ◌∙◌}
use Rattle.lil_types.specs.{Fields.field_from, FieldIndex.or_named}
use Rattle.lil_types.proofs.FieldNames.{field_more}
use Rattle.lil_types.proofs.fields.Fields.with.Goals as goal

pub invariant_of-result : goal.invariant_of-result
invariant_of-result c n =
    let name : c.as_slice.result.now ≡ c.in_ok-name.name = search rules in
    let number = c.len-number.result in
    c.in_ok-before.ensures.first n
    ∙ (λ j. or_named (c.self.invariant n j) (name j) (record { number = number; sort = c.args.sort }) n)
    ∙ sym (field_more 0 number c.self.inside.items (record { name = c.in_ok-name.name; sort = c.args.sort }) n (omega arith))
    ∙ (λ j. field_from 0 (sym c.in_ok-push.ensures.ok j) n)
