use Rattle.std.proofs.Common.{rules, arith}
use Rattle.lil_shapes.specs.Measured.{shapes_in, shape_made}
use Rattle.lil_shapes.proofs.ShapeLaws.{none_shaped, shapes_next, no_shapes}
use Rattle.lil_shapes.proofs.shapes.all_shapes.Goals as goal

pub loop-number-init : goal.loop-number-init
loop-number-init c = none_shaped c.args.t.now (record { shapes = c.new.result; sizes = c.new-2.result }) c.new.ensures c.new-2.ensures

pub returns-in-None-clause-means : goal.returns-in-None-clause-means
returns-in-None-clause-means c = no_shapes c.args.t.now c.loop-number.number (shapes_in c.loop-number.so_far) (omega arith) c.loop-number.invariant.0 (search rules)

pub loop-number-preserved : goal.loop-number-preserved
loop-number-preserved c =
    let s = c.loop-number.so_far in (
      shapes_next c.args.t.now c.loop-number.number (shapes_in s) (shapes_in c.in_ok-so_far-in-Some.so_far) (shape_made s c.in-Some.made) c.loop-number.invariant.0 (search rules) (search rules),
      search rules,
    )
