use Rattle.std.proofs.Common.{◌≡◌, None, slice_get, refl, rules}
use Rattle.std.specs.Option.{option_map}
use Rattle.lil_resolved.specs.Kinds.{words}
use Rattle.lil_shapes.specs.{Measured.shapes_in, Shaping.{there, lying}, ListLaws.none_at}
use Rattle.lil_shapes.proofs.LayLaws.{lying_none, variable_laid}
use Rattle.lil_shapes.proofs.laying.lay_from.Goals as goal

pub returns-in_default : goal.returns-in_default
returns-in_default c =
    let s = c.args.types.now in
    let v = c.one-item.result in
    let gone : None ≡ option_map words (there (slice_get (shapes_in s) v.sort)) = search rules in
    none_at (lying (shapes_in s)) c.args.of.now c.loop-one.one-index v c.loop-one-test.true (search rules) (lying_none s v gone)

pub loop-one-preserved : goal.loop-one-preserved
loop-one-preserved c =
    variable_laid c.args.first c.args.types.now c.args.of.now c.loop-one.one-index c.one-item.result c.loop-one.variables c.loop-one.words c.in-Some.size c.passing_of-passing.result c.loop-one-test.true (search rules) c.loop-one.invariant (search rules) (search rules)
    c.push.new.self (record { name = c.in_ok-name.name; offset = c.saturating_add.result; shape = c.one-item.result.sort; passing = c.passing_of-passing.result }) c.saturating_add-words.result (search rules) (search rules) (search rules) refl refl (search rules)
