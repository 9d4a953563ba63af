-- What bodies mean, from what declarations and their statements mean.
use Rattle.std.proofs.Common.{◌≡◌, ℕ, false, List, [], ◌∷◌, ◌++◌, ◌+◌, ◌<◌, ◌≤◌, length, take, get_or, Option, Some, None, refl, subst, sym, ap, ◌∙◌, append_assoc, append-nil}
use Rattle.std.proofs.lemmas.List.{take_more, take_all}
use Rattle.std.specs.Prelude.{slice_get}
use Rattle.lil_language.specs.declared.{tree.Stmt.Stmt, unit.{Block.Block, Heading.Heading, Decl.Decl}}
use Rattle.lil_language.specs.declared.unit.Decl.TheVariants as d
use Rattle.lil_resolved.specs.declared.resolved.RStmt.{RStmt}
use Rattle.lil_declared.specs.declared.declared.RProc.{RProc}
use Rattle.lil_report.specs.{declared.report.Fault.Fault, Told.{after, pure, walk, Said}, Laws.{said_as, said_to, said_value, said_after, said_map, said_joined, said_one}}
use Rattle.lil_scope.specs.{declared.{entering.Around.Around, env.Env.Env}, Names.{inside, entered, around, back}}
use Rattle.lil_check_stmt.specs.{declared.stmt.Stated.Stated, Statements.statements_mean, Texts.{Texts, texts_in, texts, no_block, with_block}, Stmts.{Bodies, text_means, and_body, body_step, stated, bodies_mean}}

-- ---- one declaration more
texts_one : (xs : List Decl) (x : Decl) → texts (xs ++ x ∷ []) ≡ texts xs ++ texts_in x
texts_one [] x = append-nil (texts_in x)
texts_one (y ∷ ys) x = ap (λ (ts : Texts). texts_in y ++ ts) (texts_one ys x) ∙ sym (append_assoc (texts_in y) (texts ys) (texts_in x))

pub texts_next : (xs : List Decl) (i : ℕ) (x : Decl) → i < length xs → x ≡ get_or xs i x → texts (take (i + 1) xs) ≡ texts (take i xs) ++ texts_in x
texts_next xs i x inside is = ap texts (take_more xs i x inside ∙ ap (λ (z : Decl). take i xs ++ z ∷ []) (sym is)) ∙ texts_one (take i xs) x

-- ---- what is said of them
-- a block left again stands as before
pub left_again : (e : Env) (n : ℕ) → back (around e) (entered n e) ≡ e
left_again e n = by (slice_get e.procedures n)
  where
    by : (o : Option RProc) → back (around e) (inside n o e) ≡ e
    by None = refl
    by (Some q) = refl

module _ (e : Env) (out : Bodies) {r : Option Fault} where
  pub is_empty : (of : Decl) → texts_in of ≡ [] → Said (walk (body_step e) out (texts_in of)) r out r
  is_empty of none = said_as (ap (walk (body_step e) out) none) (said_value refl)

  pub is_missing : (of : Decl) (h : Heading) (o : Option Block) {bs : Bodies} → of ≡ d.ProcIs h o → o ≡ None → bs ≡ and_body out None → Said (walk (body_step e) out (texts_in of)) r bs r
  unfolding after
  is_missing of h o is none more = said_as (ap (λ (x : Decl). walk (body_step e) out (texts_in x)) (is ∙ ap (d.ProcIs h) none) ∙ ap (walk (body_step e) out) (no_block h)) (said_one (body_step e) None out (said_value more))

  pub is_block : (of : Decl) (h : Heading) (o : Option Block) (b : Block) {f : Env} {more bs : Bodies} {s t : Option Fault} → of ≡ d.ProcIs h o → o ≡ Some b → Said (body_step e out (Some b.body)) r more s → f ≡ e
      → Said (walk (body_step f) more (texts b.decls)) s bs t → Said (walk (body_step e) out (texts_in of)) r bs t
  is_block of h o b {more = more} {bs = bs} {s = s} {t = t} is some own same rest =
      said_as (ap (λ (x : Decl). walk (body_step e) out (texts_in x)) (is ∙ ap (d.ProcIs h) some) ∙ ap (walk (body_step e) out) (with_block h b))
      (said_after _ _ own (subst (λ (f : Env). Said (walk (body_step f) more (texts b.decls)) s bs t) same rest))

  pub is_next : (xs : List Decl) (i : ℕ) (x : Decl) {f : Env} {more bs : Bodies} {s t : Option Fault} → i < length xs → x ≡ get_or xs i x → Said (walk (body_step e) out (texts (take i xs))) r more s → f ≡ e
      → Said (walk (body_step f) more (texts_in x)) s bs t → Said (walk (body_step e) out (texts (take (i + 1) xs))) r bs t
  is_next xs i x {more = more} {bs = bs} {s = s} {t = t} inside is so_far same next =
      said_as (ap (walk (body_step e) out) (texts_next xs i x inside is))
      (said_joined (body_step e) (texts_in x) out (texts (take i xs)) so_far (subst (λ (f : Env). Said (walk (body_step f) more (texts_in x)) s bs t) same next))

  pub is_all : (xs : List Decl) (i : ℕ) {bs : Bodies} {s : Option Fault} → length xs ≤ i → Said (walk (body_step e) out (texts (take i xs))) r bs s → Said (walk (body_step e) out (texts xs)) r bs s
  is_all xs i {bs = bs} {s = s} long h = subst (λ (z : List Decl). Said (walk (body_step e) out (texts z)) r bs s) (take_all i xs long) h

-- the body of the next procedure
pub is_body : (e : Env) (out : Bodies) (ss : List Stmt) {n : ℕ} {g : Env} {own : Option (List RStmt)} {bs : Bodies} {r s : Option Fault} → n ≡ length out → g ≡ entered n e → Said (statements_mean g false ss) r own s → bs ≡ and_body out own
    → Said (body_step e out (Some ss)) r bs s
is_body e out ss {own = own} {r = r} {s = s} next enters h more =
    said_to (said_map (and_body out) (subst (λ (g : Env). Said (statements_mean g false ss) r own s) (enters ∙ ap (λ (n : ℕ). entered n e) next) h)) more

pub is_bodies : (e : Env) (ds given : List Decl) (ss those : List Stmt) {f : Env} {own : Option (List RStmt)} {none bs : Bodies} {w : Stated} {r s t : Option Fault} → those ≡ ss → Said (statements_mean e false those) r own t → none ≡ [] → given ≡ ds → f ≡ e
    → Said (walk (body_step f) none (texts given)) t bs s → w ≡ stated own bs → Said (bodies_mean e ds ss) r w s
unfolding bodies_mean
is_bodies e ds given ss those {own = own} {bs = bs} {r = r} {s = s} {t = t} these h empty these_too same k value =
    said_after _ _ (subst (λ z. Said (statements_mean e false z) r own t) these h)
    (said_to (said_map (stated own) (subst (λ z. Said z t bs s) (λ j. walk (body_step (same j)) (empty j) (texts (these_too j))) k)) value)
