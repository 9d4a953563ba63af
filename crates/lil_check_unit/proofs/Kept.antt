-- Nothing of a unit's statements is left out of its module.
use Rattle.std.proofs.Common.{◌≡◌, ◌≤◌, ℕ, suc, false, List, [], ◌∷◌, ◌++◌, length, map, Option, Some, None, IfSome, refl, sym, ap, subst, ◌∙◌, append_assoc, append-nil, arith}
use Rattle.std.proofs.lemmas.{List.length_push, Option.none-some}
use Rattle.lil_language.specs.declared.{tree.Stmt.Stmt, unit.{Decl.Decl, Unit.Unit as Tree}}
use Rattle.lil_resolved.specs.declared.resolved.{RProcedure.RProcedure, RStmt.RStmt}
use Rattle.lil_report.specs.Told.{after, walk}
use Rattle.lil_scope.specs.{declared.env.Env.Env, Names.entered}
use Rattle.lil_check_stmt.specs.{Statements.statements_mean, Texts.{Texts, texts}, Stmts.{Bodies, text_means, and_body, body_step, bodies_mean}, declared.stmt.Stated.Stated, Whole.{extent, text_extent, statements_kept}}
use Rattle.lil_interfaces.specs.declared.surface.Interface.{Interface}
use Rattle.lil_check_unit.specs.{Modules.in_no_with, Whole.{AreKept, body_of}, Units.{declared, stated}}

-- the statements of a block
pub body_is : (e : Env) (ds : List Decl) (ss : List Stmt) → (bodies_mean e ds ss).0.body ≡ (statements_mean e false ss).0
unfolding bodies_mean statements_mean after
body_is e ds ss = refl

pub module_kept : (u : Tree) (is : List Interface) {b : Stated} {ss : List RStmt} → b ≡ (stated is u).0 → b.body ≡ Some ss → text_extent u.body ≤ extent ss
module_kept u is {b = b} {ss = ss} same made =
    let e = in_no_with (declared is u).0 in
    subst (λ o. IfSome o (λ ss. text_extent u.body ≤ extent ss)) (sym (ap (λ (s : Stated). s.body) same ∙ body_is e u.decls u.body) ∙ made) (statements_kept e false u.body)

-- ---- those of procedures: the bodies of texts, from a number on
abbrev each_of : Env → ℕ → Texts → Bodies
each_of e n [] = []
each_of e n (t ∷ ts) = (text_means (entered n e) t).0 ∷ each_of e (suc n) ts

walk_is : (e : Env) (ts : Texts) (out : Bodies) → (walk (body_step e) out ts).0 ≡ out ++ each_of e (length out) ts
unfolding after
walk_is e [] out = sym (append-nil out)
walk_is e (t ∷ ts) out =
    let b : Option (List RStmt) = (text_means (entered (length out) e) t).0 in
    let next : length (and_body out b) ≡ suc (length out) = omega (arith, length_push out b) in
    walk_is e ts (and_body out b) ∙ ap (λ (n : ℕ). and_body out b ++ each_of e n ts) next ∙ append_assoc out (b ∷ []) (each_of e (suc (length out)) ts)

each_kept : (e : Env) (n : ℕ) (ts : Texts) (ps : List RProcedure) → each_of e n ts ≡ map body_of ps → AreKept ts ps
each_kept e n [] [] is = tt
each_kept e n [] (p ∷ ps) is = absurd (cc)
each_kept e n (None ∷ ts) [] is = absurd (cc)
each_kept e n (None ∷ ts) (p ∷ ps) is = let head : None ≡ Some p.body = cc in absurd (none-some p.body head)
each_kept e n (Some ss ∷ ts) [] is = absurd (cc)
each_kept e n (Some ss ∷ ts) (p ∷ ps) is =
    let head : (statements_mean (entered n e) false ss).0 ≡ Some p.body = cc in
    let tail : each_of e (suc n) ts ≡ map body_of ps = cc in
    (subst (λ o. IfSome o (λ out. text_extent ss ≤ extent out)) head (statements_kept (entered n e) false ss), each_kept e (suc n) ts ps tail)

bodies_are : (e : Env) (ds : List Decl) (ss : List Stmt) → (bodies_mean e ds ss).0.procedures ≡ each_of e 0 (texts ds)
unfolding bodies_mean after
bodies_are e ds ss = walk_is e (texts ds) []

pub procedures_kept : (u : Tree) (is : List Interface) {b : Stated} (ps : List RProcedure) → b ≡ (stated is u).0 → map body_of ps ≡ b.procedures → AreKept (texts u.decls) ps
procedures_kept u is ps same made =
    let e = in_no_with (declared is u).0 in
    each_kept e 0 (texts u.decls) ps (sym (made ∙ ap (λ (s : Stated). s.procedures) same ∙ bodies_are e u.decls u.body))
