use Rattle.std.proofs.Common.{refl}
use Rattle.lil_check_stmt.proofs.Nesting.{is_bodies}
use Rattle.lil_check_stmt.proofs.stmt.bodies.Goals as goal

pub returns-clause-said : goal.returns-clause-said
returns-clause-said c = is_bodies c.args.env.now c.args.decls.now c.as_slice-2.result.now c.args.body.now c.as_slice.result.now c.as_slice.ensures c.in_ok-body.ensures.said c.new.ensures c.as_slice-2.ensures c.in_ok-body.ensures.same c.in_ok-procedures.ensures.said refl
