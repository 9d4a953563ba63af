-- The words of the strings of statements, guards, arms and arguments, one by one.
use Rattle.std.proofs.Common.{◌≡◌, ℕ, List, [], ◌∷◌, ◌++◌, Option, refl, sym, ap, ◌∙◌, append-nil, append_assoc}
use Rattle.std.specs.List.{flat_map}
use Rattle.lil_resolved.specs.{declared.resolved.{RArgument.RArgument, RStmt.RStmt, RGuard.RGuard, RArm.RArm}, Resolved.{Statements, Empty, Then}, Views.{joined, arguments_of, statement_of, statements_of, guards_of, else_of, arms_of, guard_is, arm_is}, Sizes.{arguments_strings, statement_strings, body_strings, arms_strings}}
use Rattle.lil_expr.specs.Generating.{argument_part}
use Rattle.lil_stmt.specs.Generating.{statement_part, guard_part, arm_part}

-- ---- all of a list
joined_strings : (a b : Statements) → body_strings (joined a b) ≡ body_strings a ++ body_strings b
joined_strings Empty b = refl
joined_strings (Then s a) b = ap (λ (ws : List ℕ). statement_strings s ++ ws) (joined_strings a b) ∙ sym (append_assoc (statement_strings s) (body_strings a) (body_strings b))

pub body_parts : (ss : List RStmt) → flat_map statement_part ss ≡ body_strings (statements_of ss)
body_parts [] = refl
body_parts (s ∷ ss) = ap (λ (ws : List ℕ). statement_part s ++ ws) (body_parts ss) ∙ sym (joined_strings (statement_of s) (statements_of ss))

pub arguments_parts : (given : List RArgument) → flat_map argument_part given ≡ arguments_strings (arguments_of given)
arguments_parts [] = refl
arguments_parts (g ∷ given) = ap (λ (ws : List ℕ). argument_part g ++ ws) (arguments_parts given)

pub if_strings : (gs : List RGuard) (other : List RStmt) → flat_map guard_part gs ++ body_strings (statements_of other) ≡ body_strings (guards_of gs other)
if_strings [] other = refl
if_strings (g ∷ gs) other =
    append_assoc (guard_part g) (flat_map guard_part gs) (body_strings (statements_of other)) ∙ ap (λ (ws : List ℕ). guard_part g ++ ws) (if_strings gs other) ∙ sym (append-nil _) ∙ sym (ap body_strings (guard_is g (guards_of gs other)))

pub case_strings : (arms : List RArm) (other : Option (List RStmt)) → flat_map arm_part arms ++ arms_strings (else_of other) ≡ arms_strings (arms_of arms other)
case_strings [] other = refl
case_strings (a ∷ arms) other =
    append_assoc (arm_part a) (flat_map arm_part arms) (arms_strings (else_of other)) ∙ ap (λ (ws : List ℕ). arm_part a ++ ws) (case_strings arms other) ∙ sym (ap arms_strings (arm_is a (arms_of arms other)))
