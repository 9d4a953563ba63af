-- The words of the FORs and WITHs in statements, guards and arms, one by one.
use Rattle.std.proofs.Common.{◌≡◌, ℕ, ◌+◌, ◌<◌, List, [], ◌∷◌, length, drop, get_or, Option, None, sym, ap, ◌∙◌, arith}
use Rattle.std.proofs.lemmas.List.{drop_more}
use Rattle.lil_resolved.specs.{declared.resolved.{RExpr.RExpr, RStmt.RStmt, RGuard.RGuard, RArm.RArm}, Resolved.{Statements, Empty, Then}, Views.{joined, statement_of, statements_of, guards_of, else_of, arms_of, if_is, case_is, guard_is, arm_is}, Sizes.{body_words, arms_words}}
use Rattle.lil_resolved.specs.declared.resolved.RStmt.TheVariants as s

-- what is left of a list from an item on
pub left_from : {X : Type 0} (xs : List X) (i : ℕ) (x : X) → i < length xs → x ≡ get_or xs i x → drop i xs ≡ x ∷ drop (i + 1) xs
left_from xs i x inside is = drop_more xs i x inside ∙ ap (λ y. y ∷ drop (i + 1) xs) (sym is)

pub joined_words : (a b : Statements) → body_words (joined a b) ≡ body_words a + body_words b
joined_words Empty b = omega arith
joined_words (Then s a) b = omega (arith, joined_words a b)

pub body_words_next : (ss : List RStmt) (i : ℕ) (s : RStmt) → i < length ss → s ≡ get_or ss i s → body_words (statements_of (drop i ss)) ≡ body_words (statement_of s) + body_words (statements_of (drop (i + 1) ss))
body_words_next ss i s inside is = ap (λ (ss : List RStmt). body_words (statements_of ss)) (left_from ss i s inside is) ∙ joined_words (statement_of s) (statements_of (drop (i + 1) ss))

pub guards_words_next : (gs : List RGuard) (i : ℕ) (g : RGuard) → i < length gs → g ≡ get_or gs i g → body_words (guards_of (drop i gs) []) ≡ body_words (statements_of g.body) + body_words (guards_of (drop (i + 1) gs) [])
guards_words_next gs i g inside is = omega (arith, ap body_words (ap (λ (gs : List RGuard). guards_of gs []) (left_from gs i g inside is) ∙ guard_is g (guards_of (drop (i + 1) gs) [])))

pub arms_words_next : (arms : List RArm) (i : ℕ) (a : RArm) → i < length arms → a ≡ get_or arms i a → arms_words (arms_of (drop i arms) None) ≡ body_words (statements_of a.body) + arms_words (arms_of (drop (i + 1) arms) None)
arms_words_next arms i a inside is = ap arms_words (ap (λ (arms : List RArm). arms_of arms None) (left_from arms i a inside is) ∙ arm_is a (arms_of (drop (i + 1) arms) None))

-- ---- what stands behind ELSE stands apart
guards_words_apart : (gs : List RGuard) (other : List RStmt) → body_words (guards_of gs other) ≡ body_words (guards_of gs []) + body_words (statements_of other)
guards_words_apart [] other = omega arith
guards_words_apart (g ∷ gs) other =
    omega (arith, ap body_words (guard_is g (guards_of gs other)), ap body_words (guard_is g (guards_of gs [])), guards_words_apart gs other)

arms_words_apart : (arms : List RArm) (other : Option (List RStmt)) → arms_words (arms_of arms other) ≡ arms_words (arms_of arms None) + arms_words (else_of other)
arms_words_apart [] other = omega arith
arms_words_apart (a ∷ arms) other = omega (arith, ap arms_words (arm_is a (arms_of arms other)), ap arms_words (arm_is a (arms_of arms None)), arms_words_apart arms other)

pub if_words : (gs : List RGuard) (other : List RStmt) → body_words (statement_of (s.If gs other)) ≡ body_words (guards_of gs []) + body_words (statements_of other)
if_words gs other = ap body_words (if_is gs other) ∙ guards_words_apart gs other

pub case_words : (e : RExpr) (arms : List RArm) (other : Option (List RStmt)) → body_words (statement_of (s.Case e arms other)) ≡ arms_words (arms_of arms None) + arms_words (else_of other)
case_words e arms other = omega (arith, ap body_words (case_is e arms other), arms_words_apart arms other)
