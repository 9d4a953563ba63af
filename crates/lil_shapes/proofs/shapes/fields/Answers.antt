use Rattle.std.proofs.Common.{◌≡◌, Some, None, slice_get, refl, sym, ap, subst, rules, arith}
use Rattle.std.specs.Option.{option_map}
use Rattle.std.proofs.lemmas.List.{take_all}
use Rattle.lil_resolved.specs.Kinds.{words, fields_of}
use Rattle.lil_resolved.specs.declared.shapes.RShape.TheVariants as r
use Rattle.lil_shapes.specs.{Measured.shapes_in, Shaping.{within, field_shape}, ListLaws.none_at}
use Rattle.lil_shapes.proofs.ShapeLaws.{AreFound, part_none, field_over, field_found, fields_made}
use Rattle.lil_shapes.proofs.shapes.fields.Goals as goal

pub returns-in_default-clause-means : goal.returns-in_default-clause-means
returns-in_default-clause-means c =
    let ts = shapes_in c.args.before.now in
    let x = c.field-item.result in
    let gone : None ≡ option_map words (slice_get ts x.sort) = search rules in
    sym (ap (λ o. option_map fields_of (within o)) (none_at (field_shape ts) c.args.of.now c.loop-field.field-index x c.loop-field-test.true (search rules) (part_none ts x.sort gone)))

pub returns-in_default-behind-clause-means : goal.returns-in_default-behind-clause-means
returns-in_default-behind-clause-means c =
    sym (ap (option_map fields_of)
    (field_over (shapes_in c.args.before.now) c.args.of.now c.loop-field.field-index c.field-item.result c.loop-field.found c.loop-field.offset c.in-Some.words c.loop-field-test.true (search rules) c.loop-field.invariant (search rules) (search rules)))

pub loop-field-preserved : goal.loop-field-preserved
loop-field-preserved c =
    field_found (shapes_in c.args.before.now) c.args.of.now c.loop-field.field-index c.field-item.result c.loop-field.found c.loop-field.offset c.in-Some.words c.loop-field-test.true (search rules) c.loop-field.invariant (search rules)
    c.push.new.self (record { offset = c.loop-field.offset; shape = c.field-item.result.sort }) c.in-Some-behind.next (search rules) refl (search rules) (search rules)

pub returns-clause-made : goal.returns-clause-made
returns-clause-made c =
    let xs = c.args.of.now in
    let found = c.loop-field.found in
    let all : AreFound (shapes_in c.args.before.now) xs found c.loop-field.offset =
    subst (λ xs. AreFound (shapes_in c.args.before.now) xs found c.loop-field.offset) (take_all c.loop-field.field-index xs (omega arith)) c.loop-field.invariant in
    fields_made c.args.before.now xs found c.loop-field.offset all (record { shape = r.Fields found; size = Some c.loop-field.offset }) refl refl
