-- The procedures of a module, and what their bodies are.
use Rattle.std.proofs.Common.{◌≡◌, ℕ, zero, suc, ◌+◌, ◌<◌, ◌≤◌, Bool, true, false, List, [], ◌∷◌, ◌++◌, length, map, take, drop, slice_get, sum_by, Option, Some, None, if◌then◌else◌, refl, sym, ap, subst, ◌∙◌, arith, length-append}
use Rattle.std.specs.Option.{option_map}
use Rattle.std.proofs.lemmas.{List.{length-map, length_push, Sums.sum_by-cons}, Option.{none-some, same_Some, slice_get_within}}
use Rattle.lil_types.specs.{Types.Table, declared.table.Parameter.Parameter}
use Rattle.lil_declared.specs.declared.declared.{Mode.TheVariants.Plain, RProc.RProc, RVar.RVar}
use Rattle.lil_report.specs.Told.{pure, walk}
use Rattle.lil_resolved.specs.{Kinds.{Shape, Outline, Scope, procedure_by, parameters_of, result_of, Declared}, Resolved.{Procedure, outline_of}, Sizes.{body_strings, procedures_strings}, Views.statements_of, declared.resolved.RStmt.RStmt}
use Rattle.lil_kinds.specs.Forms.{arity, parameters, result}
use Rattle.lil_shapes.specs.{ListLaws.AllFine, Shaping.{all_some, held_in, lying}}
use Rattle.lil_shapes.specs.Shaping as shaping
use Rattle.lil_forms.specs.{Scopes.{IsOutlined, AreOutlined, Calls, first_some, parameter_shape}, Values.returned, Variables.HoldsAddress}
use Rattle.lil_scope.specs.{declared.env.Env.Env, Names.{entered, locals_by, locals_in}}
use Rattle.lil_layout.specs.Data.{text_words}
use Rattle.lil_language.specs.declared.tree.Stmt.{Stmt}
use Rattle.lil_check_stmt.specs.{Statements.statements_mean, Texts.Texts, Stmts.{Bodies, and_body, body_step}}
use Rattle.lil_right_type.specs.{Right.{Right, IsThere, IsAny, after_right}, Found.AreHeaded, Homes.IsSeen}
use Rattle.lil_right_sort.specs.Growth.{fine_at, past_end, AllHeaded}
use Rattle.lil_right_decl.specs.Headings.{IsText}
use Rattle.lil_check_unit.specs.Modules.{are_bytes, procedure_with, made_of, and_procedure, locals_laid, result_by, procedures_from}

-- ---- calls, by numbers from 1
abbrev pub up : ℕ → ℕ
up n = n + 1

-- what names need of procedures from a number on, by the shapes of their variables
abbrev pub shapes_or_none : Option (List Shape) → List Shape
shapes_or_none None = []
shapes_or_none (Some ss) = ss

module _ (t : Table) (locals : ℕ → Option (List Shape)) where
  abbrev pub outline : ℕ → RProc → Outline
  outline p q = record { around = map up q.around; locals = shapes_or_none (locals p); parameters = arity t q.sort; result = result_by t q }

  abbrev pub outlines : ℕ → List RProc → List Outline
  outlines p [] = []
  outlines p (q ∷ qs) = outline p q ∷ outlines (suc p) qs

  outline_from : (p : ℕ) (qs : List RProc) (n : ℕ) (q : RProc) → slice_get qs n ≡ Some q → slice_get (outlines p qs) n ≡ Some (outline (p + n) q)
  outline_from p [] n q is = absurd (none-some q is)
  outline_from p (x ∷ qs) zero q is = let same : p ≡ p + 0 = omega arith in λ i. Some (outline (same i) (same_Some x q is i))
  outline_from p (x ∷ qs) (suc n) q is = let same : suc p + n ≡ p + suc n = omega arith in outline_from (suc p) qs n q is ∙ ap (λ (k : ℕ). Some (outline k q)) same

  pub outline_at : (qs : List RProc) (n : ℕ) (q : RProc) → slice_get qs n ≡ Some q → slice_get (outlines 0 qs) n ≡ Some (outline n q)
  outline_at qs n q is = let same : 0 + n ≡ n = omega arith in outline_from 0 qs n q is ∙ ap (λ (k : ℕ). Some (outline k q)) same

-- a variable that holds an address is one of the parameters
headed_first : (ps : List Parameter) (vs : List RVar) → AreHeaded ps vs → (x : ℕ) (v : RVar) → slice_get vs x ≡ Some v → HoldsAddress v.mode → x < length ps
headed_first [] vs h x v is holds = absurd (subst HoldsAddress (fine_at (λ (v : RVar). v.mode ≡ Plain) vs x v h is) holds)
headed_first (p ∷ ps) [] h x v is place = absurd h
headed_first (p ∷ ps) (w ∷ vs) h zero v is place = omega arith
headed_first (p ∷ ps) (w ∷ vs) h (suc x) v is place = let less : x < length ps = headed_first ps vs h.2 x v is place in omega (arith, less)

-- those of procedures whose variables hold something
pub are_outlined : (t : Table) (types : List Shape) (ls : List (List RVar)) (qs : List RProc) → length ls ≡ length qs → ((p : ℕ) → (ss : List Shape) × (locals_laid types ls p ≡ Some ss)) → AllHeaded t qs ls → AreOutlined types ls (outlines t (locals_laid types ls) 0 qs)
unfolding arity
are_outlined t types ls qs each there headed p vs is = by (slice_get qs p) refl
  where
    some : (o : Option (List Shape)) (ss : List Shape) → o ≡ Some ss → o ≡ Some (shapes_or_none o)
    some None ss is = absurd (none-some ss is)
    some (Some x) ss is = refl

    by : (o : Option RProc) → slice_get qs p ≡ o → (o : Outline) × (slice_get (outlines t (locals_laid types ls) 0 qs) p ≡ Some o) × IsOutlined types vs o
    by None none = absurd (omega (arith, slice_get_within ls p vs is, past_end qs p none, each))
    by (Some q) at = (
      outline t (locals_laid types ls) p q,
      outline_at t (locals_laid types ls) qs p q at,
      record {
        locals = ap (λ (o : Option (List RVar)). all_some (map (lying types) (locals_by o))) (sym is) ∙ some (locals_laid types ls p) (there p).0 (there p).1;
        handed = headed_first (parameters t q.sort) vs (subst (λ (o : Option (List RVar)). AreHeaded (parameters t q.sort) (locals_by o)) is (headed p q at));
      },
    )

map_drop : (n : ℕ) (xs : List ℕ) → map up (drop n xs) ≡ drop n (map up xs)
map_drop zero xs = refl
map_drop (suc n) [] = refl
map_drop (suc n) (x ∷ xs) = map_drop n xs

-- the variables for parameters hold what these say
headed_shapes : (types : List Shape) (ps : List Parameter) (vs : List RVar) (xs : List Shape) → AreHeaded ps vs → all_some (map (lying types) vs) ≡ Some xs → all_some (map (parameter_shape types) ps) ≡ Some (take (length ps) xs)
headed_shapes types [] vs xs h lies = refl
headed_shapes types (p ∷ ps) [] xs h lies = absurd h
headed_shapes types (p ∷ ps) (v ∷ vs) xs h lies =
    let first = first_some (lying types v) (map (lying types) vs) xs lies in
    let is : parameter_shape types p ≡ Some first.value = (λ i. held_in types (sym h.1 i) (sym h.0 i)) ∙ first.is in
    let rest = headed_shapes types ps vs first.rest h.2 first.others in
    (λ i. all_some (is i ∷ map (parameter_shape types) ps)) ∙ ap (option_map (λ rest. first.value ∷ rest)) rest ∙ ap (λ (ys : List Shape). Some (take (suc (length ps)) ys)) (sym first.all)

pub calls_are : (t : Table) (types : List Shape) (ls : List (List RVar)) (qs : List RProc) → shaping.shapes t ≡ Some types → ((p : ℕ) → (ss : List Shape) × (locals_laid types ls p ≡ Some ss)) → AllHeaded t qs ls
    → (chain : List ℕ) (ts : Scope) → ts.procedures ≡ outlines t (locals_laid types ls) 0 qs → ts.chain ≡ map up chain → Calls t (IsSeen qs chain) ts
unfolding arity
calls_are t types ls qs all there headed chain ts procedures chain_is sort n levels s = record {
  may = record { its = its; known = known; declared = subst (λ (c : List ℕ). Declared c levels (map up s.its.around)) (sym chain_is) (declared levels s.declared) };
  takes = λ shapes is.
      let same : shapes ≡ types = same_Some shapes types (sym is ∙ all) in
      (λ i. all_some (map (parameter_shape (same i)) (parameters t (sym s.sort_is i))))
      ∙ headed_shapes types (parameters t s.its.sort) (locals_in ls n) (there n).0 (headed n s.its s.there) (there n).1
      ∙ ap Some (sym (ap parameters_of known ∙ ap (λ (o : Option (List Shape)). take (length (parameters t s.its.sort)) (shapes_or_none o)) (there n).1));
  returns = ap result_of known ∙ ap (λ s. returned t (result t s)) s.sort_is;
}
  where
    its : Outline
    its = outline t (locals_laid types ls) n s.its

    known : procedure_by ts.procedures (n + 1) ≡ Some its
    known =
        let next : n + 1 ≡ suc n = omega arith in
        ap (procedure_by ts.procedures) next ∙ ap (λ (xs : List Outline). slice_get xs n) procedures ∙ outline_at t (locals_laid types ls) qs n s.its s.there

    declared : (levels : ℕ) → Declared chain levels s.its.around → Declared (map up chain) levels (map up s.its.around)
    declared zero h = ap (map up) h
    declared (suc l) h = (omega (arith, h.0, length-map chain up), ap (map up) h.1 ∙ map_drop l chain)

-- ---- procedures with their bodies, from a number on
module _ (t : Table) (locals : ℕ → Option (List Shape)) where
  record IsFirst (p : ℕ) (q : RProc) (qs : List RProc) (b : Option (List RStmt)) (bs : Bodies) (ps : List Procedure) : Type 0 where
    lies : List Shape
    lies_there : locals p ≡ Some lies
    body : List RStmt
    there : b ≡ Some body
    rest : List Procedure
    others : procedures_from t locals (suc p) qs bs ≡ Some rest
    all : ps ≡ procedure_with t q lies body ∷ rest

  first_is : (p : ℕ) (q : RProc) (qs : List RProc) (b : Option (List RStmt)) (bs : Bodies) (ps : List Procedure) → procedures_from t locals p (q ∷ qs) (b ∷ bs) ≡ Some ps → IsFirst p q qs b bs ps
  first_is p q qs b bs ps is = with_shapes (locals p) refl b is
    where
      by : (ss : List Shape) (body : List RStmt) → locals p ≡ Some ss → (c : Bool) (o : Option (List Procedure)) → procedures_from t locals (suc p) qs bs ≡ o → and_procedure (if c then Some (procedure_with t q ss body) else None) o ≡ Some ps → IsFirst p q qs (Some body) bs ps
      by ss body lies false o same is = absurd (none-some ps is)
      by ss body lies true None same is = absurd (none-some ps is)
      by ss body lies true (Some rest) same is = record { lies = ss; lies_there = lies; body = body; there = refl; rest = rest; others = same; all = sym (same_Some (procedure_with t q ss body ∷ rest) ps is) }

      with_shapes : (o : Option (List Shape)) → locals p ≡ o → (b : Option (List RStmt)) → and_procedure (made_of t q o b) (procedures_from t locals (suc p) qs bs) ≡ Some ps → IsFirst p q qs b bs ps
      with_shapes (Some ss) lies (Some body) is = by ss body lies (are_bytes q.around) (procedures_from t locals (suc p) qs bs) refl is
      with_shapes None lies b is = absurd (none-some ps is)
      with_shapes (Some ss) lies None is = absurd (none-some ps is)

  pub procedures_there : ((p : ℕ) → (ss : List Shape) × (locals p ≡ Some ss)) → (p : ℕ) (qs : List RProc) (bs : Bodies) → length bs ≡ length qs → AllFine (λ (b : Option (List RStmt)). IsThere IsAny b) bs → AllFine (λ (q : RProc). are_bytes q.around ≡ true) qs
      → (ps : List Procedure) × (procedures_from t locals p qs bs ≡ Some ps)
  procedures_there lie p [] [] same bodies low = ([], refl)
  procedures_there lie p [] (b ∷ bs) same bodies low = absurd (omega (arith, same))
  procedures_there lie p (q ∷ qs) [] same bodies low = absurd (omega (arith, same))
  procedures_there lie p (q ∷ qs) (None ∷ bs) same bodies low = absurd bodies.0
  procedures_there lie p (q ∷ qs) (Some ss ∷ bs) same bodies low =
      let rest = procedures_there lie (suc p) qs bs (omega (arith, same)) bodies.1 low.1 in
      let l = lie p in
      (procedure_with t q l.0 ss ∷ rest.0, (λ i. and_procedure (made_of t q (l.1 i) (Some ss)) (rest.1 i)) ∙ ap (λ c. and_procedure (if c then Some (procedure_with t q l.0 ss) else None) (Some rest.0)) low.0)

  -- what is true of the first and of the others, by lists that are of one length
  module _ (P : ℕ → List RProc → Bodies → List Procedure → Type 0) (none : (p : ℕ) → P p [] [] [])
      (more : (p : ℕ) (q : RProc) (qs : List RProc) (lies : List Shape) (ss : List RStmt) (bs : Bodies) (ps : List Procedure) → locals p ≡ Some lies → P (suc p) qs bs ps → P p (q ∷ qs) (Some ss ∷ bs) (procedure_with t q lies ss ∷ ps)) where
    by_procedures : (p : ℕ) (qs : List RProc) (bs : Bodies) (ps : List Procedure) → procedures_from t locals p qs bs ≡ Some ps → P p qs bs ps
    by_procedures p [] [] ps is = subst (P p [] []) (same_Some [] ps is) (none p)
    by_procedures p [] (b ∷ bs) ps is = absurd (none-some ps is)
    by_procedures p (q ∷ qs) [] ps is = absurd (none-some ps is)
    by_procedures p (q ∷ qs) (b ∷ bs) ps is =
        let f = first_is p q qs b bs ps is in
        subst (P p (q ∷ qs) (b ∷ bs)) (sym f.all)
        (subst (λ (o : Option (List RStmt)). P p (q ∷ qs) (o ∷ bs) (procedure_with t q f.lies f.body ∷ f.rest)) (sym f.there) (more p q qs f.lies f.body bs f.rest f.lies_there (by_procedures (suc p) qs bs f.rest f.others)))

  pub made_many : (p : ℕ) (qs : List RProc) (bs : Bodies) (ps : List Procedure) → procedures_from t locals p qs bs ≡ Some ps → length ps ≡ length qs
  made_many = by_procedures (λ p qs bs ps. length ps ≡ length qs) (λ p. refl) (λ p q qs lies ss bs ps there h. ap suc h)

  pub made_outlines : (p : ℕ) (qs : List RProc) (bs : Bodies) (ps : List Procedure) → procedures_from t locals p qs bs ≡ Some ps → map outline_of ps ≡ outlines t locals p qs
  made_outlines = by_procedures (λ p qs bs ps. map outline_of ps ≡ outlines t locals p qs) (λ p. refl) (λ p q qs lies ss bs ps there h i. record { around = map up q.around; locals = shapes_or_none (sym there i); parameters = arity t q.sort; result = result_by t q } ∷ h i)

  pub made_strings : (p : ℕ) (qs : List RProc) (bs : Bodies) (ps : List Procedure) → procedures_from t locals p qs bs ≡ Some ps → length (procedures_strings ps) ≡ sum_by text_words bs
  made_strings = by_procedures (λ p qs bs ps. length (procedures_strings ps) ≡ sum_by text_words bs) (λ p. refl) (λ p q qs lies ss bs ps there h.
      let sum : length (body_strings (statements_of ss) ++ procedures_strings ps) ≡ length (body_strings (statements_of ss)) + sum_by text_words bs = omega (arith, length-append (body_strings (statements_of ss)) (procedures_strings ps), h) in
      sum ∙ sym (sum_by-cons text_words (Some ss) bs))

-- a procedure by its number
pub record IsMade (t : Table) (qs : List RProc) (bs : Bodies) (n : ℕ) (its : Procedure) : Type 0 where
  pub of : RProc
  pub lies : List Shape
  pub body : List RStmt
  pub there : slice_get qs n ≡ Some of
  pub body_there : slice_get bs n ≡ Some (Some body)
  pub is : its ≡ procedure_with t of lies body

pub made_at : (t : Table) (locals : ℕ → Option (List Shape)) (p : ℕ) (qs : List RProc) (bs : Bodies) (ps : List Procedure) → procedures_from t locals p qs bs ≡ Some ps → (n : ℕ) (its : Procedure) → slice_get ps n ≡ Some its → IsMade t qs bs n its
made_at t locals = by_procedures t locals (λ p qs bs ps. (n : ℕ) (its : Procedure) → slice_get ps n ≡ Some its → IsMade t qs bs n its) (λ p n its is. absurd (none-some its is)) more
  where
    more : (p : ℕ) (q : RProc) (qs : List RProc) (lies : List Shape) (ss : List RStmt) (bs : Bodies) (ps : List Procedure) → locals p ≡ Some lies → ((n : ℕ) (its : Procedure) → slice_get ps n ≡ Some its → IsMade t qs bs n its)
        → (n : ℕ) (its : Procedure) → slice_get (procedure_with t q lies ss ∷ ps) n ≡ Some its → IsMade t (q ∷ qs) (Some ss ∷ bs) n its
    more p q qs lies ss bs ps known h zero its is = record { of = q; lies = lies; body = ss; there = refl; body_there = refl; is = sym (same_Some (procedure_with t q lies ss) its is) }
    more p q qs lies ss bs ps known h (suc n) its is = let m = h n its is in record { of = m.of; lies = m.lies; body = m.body; there = m.there; body_there = m.body_there; is = m.is }

-- ---- bodies one behind another, each by its number
module _ (P : ℕ → Option (List RStmt) → Type 0) where
  abbrev pub AllFrom : ℕ → Bodies → Type 0
  AllFrom n [] = Unit {0}
  AllFrom n (b ∷ bs) = P n b × AllFrom (suc n) bs

  one_more : (n : ℕ) (bs : Bodies) (b : Option (List RStmt)) → AllFrom n bs → P (n + length bs) b → AllFrom n (bs ++ b ∷ [])
  one_more n [] b h j = (let same : n + 0 ≡ n = omega arith in subst (λ (k : ℕ). P k b) same j, tt)
  one_more n (a ∷ bs) b h j = (h.0, one_more (suc n) bs b h.1 (let same : n + suc (length bs) ≡ suc n + length bs = omega arith in subst (λ (k : ℕ). P k b) same j))

  pub at_number : (n : ℕ) (bs : Bodies) (i : ℕ) (b : Option (List RStmt)) → AllFrom n bs → slice_get bs i ≡ Some b → P (n + i) b
  at_number n [] i b h is = absurd (none-some b is)
  at_number n (a ∷ bs) zero b h is = let same : n ≡ n + 0 = omega arith in subst (λ (k : ℕ). P k b) same (subst (P n) (same_Some a b is) h.0)
  at_number n (a ∷ bs) (suc i) b h is = let same : suc n + i ≡ n + suc i = omega arith in subst (λ (k : ℕ). P k b) same (at_number (suc n) bs i b h.1 is)

  -- what the bodies of texts are, of which there are as many as procedures
  module _ (e : Env) (right : (n : ℕ) (ss : List Stmt) → n < length e.procedures → Right (P n) (statements_mean (entered n e) false ss)) where
    abbrev Made : ℕ → Bodies → Type 0
    Made count out = AllFrom 0 out × (length out ≡ count)

    pub bodies_right : (ts : Texts) (count : ℕ) (out : Bodies) → AllFine IsText ts → count + length ts ≤ length e.procedures → Made count out → Right (Made (count + length ts)) (walk (body_step e) out ts)
    bodies_right [] count out whole few h = λ clear. let same : count ≡ count + 0 = omega arith in subst (λ (n : ℕ). Made n out) same h
    bodies_right (None ∷ ts) count out whole few h = absurd whole.0
    bodies_right (Some ss ∷ ts) count out whole few h =
        after_right (Made (count + 1)) (Made (count + length (Some ss ∷ ts))) (body_step e out (Some ss)) (λ out. walk (body_step e) out ts)
        (after_right (P (length out)) (Made (count + 1)) (statements_mean (entered (length out) e) false ss) (λ own. pure (and_body out own)) (right (length out) ss (omega (arith, h.1, few))) (λ own j clear. (one_more 0 out own h.0 (let same : length out ≡ 0 + length out = omega arith in subst (λ (k : ℕ). P k own) same j), length_push out own ∙ ap up h.1)))
        (λ more j. let same : count + 1 + length ts ≡ count + suc (length ts) = omega arith in subst (λ (n : ℕ). Right (Made n) (walk (body_step e) more ts)) same (bodies_right ts (count + 1) more whole.1 (omega (arith, few)) j))
