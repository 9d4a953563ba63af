use Rattle.lil_expr.specs.Generating.{argument_part}
use Rattle.lil_stmt.specs.Generating.{ArgumentPart}
use Rattle.lil_expr.specs.Strings.{next_part}
use Rattle.lil_stmt.proofs.simple.emit_arguments.Goals as goal

pub loop-argument-preserved : goal.loop-argument-preserved
loop-argument-preserved c =
    next_part ArgumentPart argument_part c.args.given.now c.loop-argument.argument-index c.argument-item.result _ _ _ c.loop-argument-test.true c.argument-item.is c.loop-argument.invariant c.in_ok-emit_argument.ensures
