use Rattle.std.proofs.Common.{◌∙◌, ap}
use Rattle.std.proofs.lemmas.Result.{IfOk-weaker}
use Rattle.lil_scope.specs.{declared.env.Env.Env, Names.{around, back}}
use Rattle.lil_check_stmt.proofs.Nesting.{left_again, is_body}
use Rattle.lil_check_stmt.proofs.stmt.body.Goals as goal

pub returns-clause-said : goal.returns-clause-said
returns-clause-said c = IfOk-weaker c.and_body.result _ _ (λ bs more. is_body c.args.env.now c.args.before c.args.of.now c.len.ensures c.in_ok-around.ensures.inside c.in_ok-own.ensures.said more) c.and_body.ensures

pub returns-clause-same : goal.returns-clause-same
returns-clause-same c = IfOk-weaker c.and_body.result _ _ (λ bs more. c.leave.ensures ∙ (λ j. back (c.in_ok-around.ensures.around j) ((c.in_ok-own.ensures.same ∙ c.in_ok-around.ensures.inside) j)) ∙ left_again c.args.env.now c.len.result) c.and_body.ensures
