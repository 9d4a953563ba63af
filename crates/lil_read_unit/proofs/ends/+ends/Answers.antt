use Rattle.std.proofs.Common.{◌≤◌, length, sym, ◌∙◌, arith}
use Rattle.lil_read_unit.proofs.Layers.{ends_done}
use Rattle.lil_read_unit.proofs.ends.+ends.Goals as goal

pub with_decls-returns : goal.with_decls-returns
with_decls-returns t c =
    let done : length c.args.decls.now ≤ c.loop-decl.decl-index = omega arith in
    sym (c.loop-decl.invariant ∙ ends_done c.args.decls.now c.loop-decl.decl-index c.loop-decl.least done)
