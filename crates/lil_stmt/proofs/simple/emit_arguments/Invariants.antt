use Rattle.std.proofs.Common.{take}
use Rattle.std.specs.List.{flat_map}
use Rattle.lil_labels.specs.Drafts.{Each, Adds}
use Rattle.lil_expr.specs.Generating.{argument_part}
use Rattle.lil_stmt.specs.Generating.{ArgumentPart}
use Rattle.lil_stmt.proofs.simple.emit_arguments.Given as goal

abbrev pub invariant-loop-argument : goal.invariant-loop-argument
invariant-loop-argument l = Adds (flat_map argument_part (take l.argument-index l.given)) l.fn.code l.code (Each ArgumentPart (take l.argument-index l.given))
