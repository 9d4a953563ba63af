-- What the bodies of procedures and of a module mean, and the tests of their statements' nodes.
use Rattle.std.specs.Prelude.{false, List, [], ◌∷◌, ◌++◌, length, Option, Some, None}
use Rattle.lil_language.specs.declared.{unit.Decl.Decl, tree.Stmt.Stmt}
use Rattle.lil_resolved.specs.declared.resolved.RStmt.{RStmt}
use Rattle.lil_report.specs.Told.{Row, after, pure, walk}
use Rattle.lil_scope.specs.{declared.env.Env.Env, Names.entered}
use Rattle.lil_check_stmt.specs.{declared.stmt.Stated.Stated, Statements.statements_mean, Texts.texts}

-- ---- the bodies of procedures, where they have code. The block of a procedure sees all that the blocks around it declare, also behind it
abbrev pub Bodies : Type 0
Bodies = List (Option (List RStmt))

abbrev pub text_means : Env → Option (List Stmt) → Option (List RStmt) × List Row
text_means e None = pure None
text_means e (Some ss) = statements_mean e false ss

abbrev pub and_body : Bodies → Option (List RStmt) → Bodies
and_body out ss = out ++ ss ∷ []

-- the body of the procedure of the next number
abbrev pub body_step : Env → Bodies → Option (List Stmt) → Bodies × List Row
body_step e out text = after (text_means (entered (length out) e) text) (λ ss. pure (and_body out ss))

abbrev pub stated : Option (List RStmt) → Bodies → Stated
stated body bodies = record { procedures = bodies; body = body }

-- those of a module, and its own
unfoldable pub bodies_mean : Env → List Decl → List Stmt → Stated × List Row
bodies_mean e ds ss = after (statements_mean e false ss) (λ own. after (walk (body_step e) [] (texts ds)) (λ bodies. pure (stated own bodies)))
