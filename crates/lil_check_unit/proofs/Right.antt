-- A unit in which no test finds a fault has a module, and it is sound.
use Rattle.std.proofs.Common.{◌≡◌, ◌≤◌, ℕ, zero, suc, ◌+◌, ◌<◌, Bool, true, false, List, [], ◌∷◌, length, map, slice_get, sum_by, Option, Some, None, if◌then◌else◌, inl, inr, refl, sym, ap, subst, ◌∙◌, arith, true≢false}
use Rattle.std.specs.Prelude.{◌||◌, ◌&&◌, ◌-◌, nat_lt, nat_le}
use Rattle.std.specs.List.{list_any}
use Rattle.std.proofs.lemmas.{Bool.Decides.nat_tests, Option.{none-some, same_Some}}
use Rattle.lil_types.specs.{Types.Table, declared.table.{TypeEntry.TypeEntry, TypeForm.{TypeForm, TheVariants.Enumeration}}}
use Rattle.lil_report.specs.{declared.report.Fault.Fault, Least.{is_late, now_of, late_of, worse, Reports}, LeastLaws.reports_tell, Told.{Row, Stands, tell, after, walk}}
use Rattle.lil_language.specs.declared.{unit.{Unit.Unit as Tree, Decl.Decl}, tree.Stmt.Stmt}
use Rattle.lil_language.specs.declared.unit.UnitKind.TheVariants as kind
use Rattle.lil_resolved.specs.{Kinds.{Shape, Outline, Scope, all_words, outermost, procedure_by}, Resolved.{Procedure, Resolved, outline_of}, Sound.{IsSound, IsSoundBody}, Views.statements_of, declared.resolved.RStmt.RStmt}
use Rattle.lil_declared.specs.declared.declared.{RProc.RProc, RVar.RVar}
use Rattle.lil_shapes.specs.{ListLaws.AllFine, Pointers.targets, Shaping.variables_by, Signatures.signatures}
use Rattle.lil_shapes.specs.Shaping as shaping
use Rattle.lil_forms.specs.{Scopes.{Fits, outside}, StatementSound.{AllSound, body_sound}, Variables.seen_in}
use Rattle.lil_scope.specs.{declared.env.Env.Env, Names.{around_of, chain_by, chain, inside, entered, locals_in}}
use Rattle.lil_layout.specs.Data.{variable_words, data_words}
use Rattle.lil_check_stmt.specs.{Statements.{result_of, result_by, statements_mean}, Texts.texts, Stmts.{Bodies, body_step, bodies_mean}, declared.stmt.Stated.Stated}
use Rattle.lil_interfaces.specs.{declared.surface.Interface.Interface, Interfaces.residents}
use Rattle.lil_right_type.specs.{Right.{Right, Clear, clear_left, clear_right, IsThere, IsAny}, Homes.{IsSeen, stands_inside}}
use Rattle.lil_right_stmt.specs.Nodes.{Returns}
use Rattle.lil_resolved.specs.Kinds as Kinds
use Rattle.lil_right_stmt.specs.Statements.{statements_right}
use Rattle.lil_right_data.specs.{Room.{locals_there, variables_there, room}, Shapes.shapes_there}
use Rattle.lil_right_sort.specs.Growth.{fine_at, Few, past_end, AllLie, HasHeading, Declared}
use Rattle.lil_right_decl.specs.{Told.{IsModule, declared_told, declared_settled}, Variables.fine_in}
use Rattle.lil_check_unit.specs.{Modules.{in_no_with, module_words, are_bytes, locals_laid, procedures_from, module_with, with_variables, with_procedures, laid_out, assembled}, Units.{first_of, declared, stated, is_long, long_rows, names_fault, worst, late_fault, data_rows, data_fault, unit_fault, imports_fault, program_fault, naming_rows, missing_rows, module_of}}
use Rattle.lil_check_unit.specs.UnitLaws.{none_before, none_behind, no_declared, no_stated}
use Rattle.lil_check_unit.specs.Units as units
use Rattle.lil_check_unit.proofs.Procedures.{up, outline, outline_at, outlines, are_outlined, calls_are, procedures_there, made_many, made_outlines, made_strings, made_at, AllFrom, at_number as body_at, bodies_right}

-- ---- no test finds a fault where none is told
clear_of : (rs : List Row) → tell None rs ≡ None → Clear rs
clear_of rs h = none rs (subst (Reports (Stands rs)) h (reports_tell rs))
  where
    fine : (c : Bool) → (c ≡ true → ⊥) → c ≡ false
    fine true h = absurd (h refl)
    fine false h = refl

    none : (rs : List Row) → ((f : Fault) → Stands rs f → ⊥) → Clear rs
    none [] h = tt
    none (r ∷ rs) h = (fine r.wrong (λ wrong. h _ (inl (wrong, refl))), none rs (λ f stands. h f (inr stands)))

-- of a fault that is neither now nor late there is none
neither : (o : Option Fault) → now_of o ≡ None → late_of o ≡ None → o ≡ None
neither None h j = refl
neither (Some f) h j = by (is_late f) h j
  where
    by : (c : Bool) → (if c then None else Some f) ≡ None → (if c then Some f else None) ≡ None → Some f ≡ None
    by true h j = j
    by false h j = h

worse_left : (a b : Option Fault) → worse a b ≡ None → a ≡ None
unfolding worse
worse_left None b h = refl
worse_left (Some f) None h = h
worse_left (Some f) (Some g) h = absurd (none-some _ (sym h))

worse_right : (a b : Option Fault) → worse a b ≡ None → b ≡ None
unfolding worse
worse_right None b h = h
worse_right (Some f) None h = refl
worse_right (Some f) (Some g) h = absurd (none-some _ (sym h))

-- ---- enumerations that aren't too long
not_any : {A : Type 0} (test : A → Bool) (xs : List A) → list_any test xs ≡ false → (i : ℕ) (x : A) → slice_get xs i ≡ Some x → test x ≡ false
not_any test [] h i x is = absurd (none-some x is)
not_any test (y ∷ xs) h zero x is = ap test (sym (same_Some y x is)) ∙ first (test y) (list_any test xs) h
  where
    first : (c d : Bool) → (c || d) ≡ false → c ≡ false
    first true d h = h
    first false d h = refl
not_any test (y ∷ xs) h (suc i) x is = not_any test xs (rest (test y) (list_any test xs) h) i x is
  where
    rest : (c d : Bool) → (c || d) ≡ false → d ≡ false
    rest true d h = absurd (true≢false h)
    rest false d h = h

are_few : (t : Table) → list_any (λ (x : TypeEntry). is_long x.form) t ≡ false → Few t
are_few t h n e xs at form = by (nat_lt n 16) at
  where
    short : (form : TypeForm) → form ≡ Enumeration xs → is_long form ≡ false → length xs ≤ 65535
    short form is h = grind (arith, nat_tests, sym (ap is_long is) ∙ h)

    by : (c : Bool) → (if c then None else slice_get t (n - 16)) ≡ Some e → length xs ≤ 65535
    by true at = absurd (none-some e at)
    by false at = short e.form form (not_any (λ (x : TypeEntry). is_long x.form) t h (n - 16) e at)

-- ---- the module
abbrev pub Meant : Option Resolved → Type 0
Meant o = (m : Resolved) × (o ≡ Some m) × IsSound m

-- ---- the body, or a procedure, that runs among declarations
module _ (e : Env) (d : Declared e) (settled : e.waits ≡ []) (shapes ts : List Shape) (all : shaping.shapes e.types ≡ Some shapes) (variables : variables_by (Some shapes) e.variables ≡ Some ts) where
  abbrev locals : ℕ → Option (List Shape)
  locals = locals_laid shapes e.locals

  abbrev scope : List ℕ → Scope
  scope chain = outermost (targets e.types shapes) (signatures e.types shapes) ts (outlines e.types locals 0 e.procedures) (map up chain)

  -- a procedure by its number
  abbrev BodyRight : ℕ → Option (List RStmt) → Type 0
  BodyRight n o = IsThere (AllSound (scope (chain_by e.procedures (Some n))) false) o

  -- something lies in the variables of each procedure
  they_lie : (p : ℕ) → (ss : List Shape) × (locals p ≡ Some ss)
  they_lie p = locals_there e.types d.told.types d.told.words shapes all (locals_in e.locals p) (fine_in (AllLie e.types) e.locals p d.variables.1 tt)

  fits : (chain : List ℕ) → Fits e.types (seen_in e.variables e.locals chain) [] (IsSeen e.procedures chain) (scope chain)
  fits chain = outside e.types e.variables e.locals shapes ts (outlines e.types locals 0 e.procedures) chain all variables (are_outlined e.types shapes e.locals e.procedures d.told.homed.each they_lie d.headed)
      (IsSeen e.procedures chain) (calls_are e.types shapes e.locals e.procedures all they_lie d.headed chain (scope chain) refl refl)

  -- what a procedure returns
  returns_at : (n : ℕ) (q : RProc) → slice_get e.procedures n ≡ Some q → Returns e.types (scope (chain_by e.procedures (Some n))) (result_of e.types (slice_get e.procedures n))
  returns_at n q there =
      let next : n + 1 ≡ suc n = omega arith in
      let known : procedure_by (outlines e.types locals 0 e.procedures) (n + 1) ≡ Some (outline e.types locals n q) = ap (procedure_by (outlines e.types locals 0 e.procedures)) next ∙ outline_at e.types locals e.procedures n q there in
      subst (Returns e.types (scope (chain_by e.procedures (Some n)))) (sym (ap (result_of e.types) there)) (ap Kinds.result_of known, (fine_at (HasHeading e.types) e.procedures n q d.headings there).1.1)

  at_number : (n : ℕ) (q : RProc) → slice_get e.procedures n ≡ Some q → (ss : List Stmt) → Right (BodyRight n) (statements_mean (inside n (Some q) e) false ss)
  at_number n q there ss =
      statements_right (inside n (Some q) e) (scope (chain_by e.procedures (Some n))) (fits (chain_by e.procedures (Some n)))
      (record { types = d.told.types; words = d.told.words; names = d.told.names; homed = d.told.homed; stands = stands_inside e.scopes.blocks e.procedures e.variables e.locals d.told.homed n q there }) settled
      (returns_at n q there) false ss

  procedure_right : (n : ℕ) (ss : List Stmt) → n < length e.procedures → Right (BodyRight n) (statements_mean (entered n e) false ss)
  procedure_right n ss less = by (slice_get e.procedures n) refl
    where
      by : (o : Option RProc) → slice_get e.procedures n ≡ o → Right (BodyRight n) (statements_mean (inside n o e) false ss)
      by None is = absurd (omega (arith, past_end e.procedures n is, less))
      by (Some q) is = at_number n q is ss

  body_right : (ss : List Stmt) → e.procedure ≡ None → Right (IsThere (AllSound (scope []) false)) (statements_mean (in_no_with e) false ss)
  body_right ss none =
      subst (λ (o : Option ℕ). Right (IsThere (AllSound (scope (chain_by e.procedures o)) false)) (statements_mean (in_no_with e) false ss)) none
      (statements_right (in_no_with e) (scope (chain e)) (fits (chain e))
      (record { types = d.told.types; words = d.told.words; names = d.told.names; homed = d.told.homed; stands = d.told.stands }) settled
      (subst (λ (o : Option ℕ). Returns e.types (scope (chain_by e.procedures o)) (result_by (in_no_with e) o)) (sym none) (refl, tt)) false ss)

  bytes_in : (ns : List ℕ) → AllFine (λ n. n < 250) ns → are_bytes ns ≡ true
  bytes_in [] h = refl
  bytes_in (n ∷ ns) h = let low : nat_lt n 255 ≡ true = grind (arith, nat_tests, h.0) in λ i. low i && bytes_in ns h.1 i

  all_bytes : (qs : List RProc) → ((n : ℕ) (q : RProc) → slice_get qs n ≡ Some q → are_bytes q.around ≡ true) → AllFine (λ (q : RProc). are_bytes q.around ≡ true) qs
  all_bytes [] h = tt
  all_bytes (q ∷ qs) h = (h 0 q refl, all_bytes qs (λ n q is. h (suc n) q is))

  some_bodies : (n : ℕ) (bs : Bodies) → AllFrom BodyRight n bs → AllFine (λ (b : Option (List RStmt)). IsThere IsAny b) bs
  some_bodies n [] h = tt
  some_bodies n (None ∷ bs) h = absurd h.0
  some_bodies n (Some b ∷ bs) h = (tt, some_bodies (suc n) bs h.1)

  -- the module that they make
  made : (n : List ℕ) (ss : List RStmt) (bs : Bodies) → all_words ts ≤ sum_by (variable_words e.types) e.variables → data_words e.types e.variables bs (Some ss) ≤ 32000
      → AllSound (scope []) false ss → AllFrom BodyRight 0 bs → length bs ≡ length e.procedures → Meant (assembled e n (record { procedures = bs; body = Some ss }))
  made n ss bs low few sound bodies many =
      let ps = procedures_there e.types locals they_lie 0 e.procedures bs many (some_bodies 0 bs bodies) (all_bytes e.procedures (λ n q is. bytes_in q.around (d.told.homed.blocks n q is).path.low.1)) in
      let m : Resolved = module_with e.types e.variables e.procedures e.locals n shapes ts ps.0 (statements_of ss) in
      let r = room e.types e.variables n shapes ts ps.0 bs ss low (made_strings e.types locals 0 e.procedures bs ps.0 ps.1) few in
      let fits : nat_le (module_words m) 32000 ≡ true = grind (arith, nat_tests, r) in
      let same : map outline_of ps.0 ≡ outlines e.types locals 0 e.procedures = made_outlines e.types locals 0 e.procedures bs ps.0 ps.1 in (
        m,
        ap (λ (o : Option (List Shape)). laid_out e.types e.variables e.procedures e.locals n o bs ss) all
            ∙ ap (λ (o : Option (List Procedure)). with_procedures e.types e.variables e.procedures e.locals n shapes o ss) ps.1
            ∙ ap (λ (o : Option (List Shape)). with_variables e.types e.variables e.procedures e.locals n shapes o ps.0 ss) variables
            ∙ ap (λ (c : Bool). if c then Some m else None) fits,
        record {
          few = omega (arith, made_many e.types locals 0 e.procedures bs ps.0 ps.1, d.told.homed.few);
          body = subst (λ (xs : List Outline). IsSoundBody (outermost (targets e.types shapes) (signatures e.types shapes) ts xs []) false (statements_of ss)) (sym same) (body_sound (scope []) false ss sound);
          procedures = procedures ps.0 ps.1 same;
        },
      )
    where
      at_number_of : (n : ℕ) (body : List RStmt) → slice_get bs n ≡ Some (Some body) → BodyRight n (Some body)
      at_number_of n body is = let same : 0 + n ≡ n = omega arith in subst (λ (k : ℕ). BodyRight k (Some body)) same (body_at BodyRight 0 bs n (Some body) bodies is)

      procedures : (ps : List Procedure) → procedures_from e.types locals 0 e.procedures bs ≡ Some ps → map outline_of ps ≡ outlines e.types locals 0 e.procedures → (p : ℕ) (its : Procedure) → procedure_by ps p ≡ Some its
          → IsSoundBody (outermost (targets e.types shapes) (signatures e.types shapes) ts (map outline_of ps) (p ∷ its.around)) false its.body
      procedures ps made same zero its is = absurd (none-some its is)
      procedures ps made same (suc n) its is =
          let m = made_at e.types locals 0 e.procedures bs ps made n its is in
          let next : up n ≡ suc n = omega arith in
          subst (λ (p : Procedure). IsSoundBody (outermost (targets e.types shapes) (signatures e.types shapes) ts (map outline_of ps) (suc n ∷ p.around)) false p.body) (sym m.is)
          (subst (λ (xs : List Outline). IsSoundBody (outermost (targets e.types shapes) (signatures e.types shapes) ts xs (suc n ∷ map up m.of.around)) false (statements_of m.body)) (sym same)
          (subst (λ (c : List ℕ). IsSoundBody (outermost (targets e.types shapes) (signatures e.types shapes) ts (outlines e.types locals 0 e.procedures) c) false (statements_of m.body)) (λ i. next i ∷ map up (around_of (m.there i)))
          (body_sound (scope (chain_by e.procedures (Some n))) false m.body (at_number_of n m.body m.body_there))))

at_most : (n : ℕ) → nat_lt 32000 n ≡ false → n ≤ 32000
at_most n h = grind (arith, nat_tests, h)

variables_few : (t : Table) (vs : List RVar) (bs : Bodies) (body : Option (List RStmt)) → data_words t vs bs body ≤ 32000 → sum_by (variable_words t) vs ≤ 32000
unfolding data_words
variables_few t vs bs body h = omega (arith, h)

-- the body, and the bodies of procedures
both_clear : (e : Env) (ds : List Decl) (ss : List Stmt) → Clear (bodies_mean e ds ss).1 → Clear (statements_mean e false ss).1 × Clear (walk (body_step e) [] (texts ds)).1
unfolding bodies_mean after
both_clear e ds ss clear = (clear_left (statements_mean e false ss).1 _ clear, clear_left (walk (body_step e) [] (texts ds)).1 [] (clear_right (statements_mean e false ss).1 _ clear))

stated_is : (e : Env) (ds : List Decl) (ss : List Stmt) → (bodies_mean e ds ss).0 ≡ record { procedures = (walk (body_step e) [] (texts ds)).0; body = (statements_mean e false ss).0 }
unfolding bodies_mean after
stated_is e ds ss = refl

module _ (u : Tree) where
  abbrev now : Env
  now = (declared residents u).0

  abbrev own : Option (List RStmt)
  own = (statements_mean (in_no_with now) false u.body).0

  abbrev bodies : Bodies × List Row
  bodies = walk (body_step (in_no_with now)) [] (texts u.decls)

  right_there : {e : Env} {b : Stated} {o : Option Fault} → e ≡ in_no_with now → b ≡ (stated residents u).0 → worst u residents ≡ None → o ≡ late_fault u residents → data_fault u e b o ≡ None → Meant (assembled e u.head.name.name b)
  unfolding worst late_fault declared
  right_there {e} {b} {o} there body right late none =
      subst (λ (e : Env). Meant (assembled e u.head.name.name b)) (sym there)
      (subst (λ (b : Stated). Meant (assembled (in_no_with now) u.head.name.name b)) (sym body)
      (subst (λ (b : Stated). Meant (assembled (in_no_with now) u.head.name.name b)) (sym both) (by own body_there few)))
    where
      no_late : late_fault u residents ≡ None
      no_late = sym late ∙ none_behind (tell None (data_rows u e b)) o none

      declared_clear : Clear (declared residents u).1
      declared_clear = clear_of _ (neither _ (no_declared u residents right) (worse_left _ _ no_late))

      stated_clear : Clear (stated residents u).1
      stated_clear = clear_of _ (neither _ (no_stated u residents right) (worse_right _ _ no_late))

      long_clear : Clear (long_rows u now)
      long_clear = clear_of _ (none_behind (now_of (tell None (declared residents u).1)) _ (none_before _ _ right))

      is_module : IsModule (texts u.decls) now
      is_module = declared_told u.head.imports u.decls u.head.exports declared_clear

      is_declared : Declared now
      is_declared = is_module.told (are_few now.types long_clear.0)

      d : Declared (in_no_with now)
      d = record {
        told = record { types = is_declared.told.types; words = is_declared.told.words; names = is_declared.told.names; homed = is_declared.told.homed; stands = is_declared.told.stands };
        residents = is_declared.residents;
        variables = is_declared.variables;
        headings = is_declared.headings;
        headed = is_declared.headed;
      }

      both : (stated residents u).0 ≡ record { procedures = bodies.0; body = own }
      both = stated_is (in_no_with now) u.decls u.body

      few : data_words now.types now.variables bodies.0 own ≤ 32000
      few = at_most _ (subst (λ (b : Stated). nat_lt 32000 (data_words now.types now.variables b.procedures b.body) ≡ false) (body ∙ both)
          (subst (λ (e : Env). nat_lt 32000 (data_words e.types e.variables b.procedures b.body) ≡ false) there (clear_of (data_rows u e b) (none_before (tell None (data_rows u e b)) o none)).0))

      all : (shapes : List Shape) × (shaping.shapes now.types ≡ Some shapes)
      all = let s = shapes_there now.types is_declared.told.types is_declared.told.words in (s.0, s.1)

      lies : (ts : List Shape) × (variables_by (Some all.0) now.variables ≡ Some ts) × (all_words ts ≤ sum_by (variable_words now.types) now.variables)
      lies =
          let v = variables_there now.types is_declared.told.types is_declared.told.words now.variables is_declared.variables.0 (variables_few now.types now.variables _ _ few) in
          (v.0, ap (λ o. variables_by o now.variables) (sym all.1) ∙ v.1, v.2)

      settled : now.waits ≡ []
      settled = declared_settled u.head.imports u.decls u.head.exports

      clear : Clear (statements_mean (in_no_with now) false u.body).1 × Clear bodies.1
      clear = both_clear (in_no_with now) u.decls u.body stated_clear

      body_there : IsThere (AllSound (scope (in_no_with now) d settled all.0 lies.0 all.1 lies.1 []) false) own
      body_there = body_right (in_no_with now) d settled all.0 lies.0 all.1 lies.1 u.body is_module.procedure clear.0

      all_bodies : AllFrom (BodyRight (in_no_with now) d settled all.0 lies.0 all.1 lies.1) 0 bodies.0 × (length bodies.0 ≡ 0 + length (texts u.decls))
      all_bodies = bodies_right (BodyRight (in_no_with now) d settled all.0 lies.0 all.1 lies.1) (in_no_with now) (procedure_right (in_no_with now) d settled all.0 lies.0 all.1 lies.1) (texts u.decls) 0 [] is_module.whole (omega (arith, is_module.count)) (tt, refl) clear.1

      by : (o : Option (List RStmt)) → IsThere (AllSound (scope (in_no_with now) d settled all.0 lies.0 all.1 lies.1 []) false) o → data_words now.types now.variables bodies.0 o ≤ 32000 → Meant (assembled (in_no_with now) u.head.name.name (record { procedures = bodies.0; body = o }))
      by None h few = absurd h
      by (Some ss) h few = made (in_no_with now) d settled all.0 lies.0 all.1 lies.1 u.head.name.name ss bodies.0 lies.2 few h all_bodies.0 (omega (arith, all_bodies.1, is_module.count))

  module _ {is : List Interface} (same : is ≡ residents) where
    pub made_there : {e : Env} {b : Stated} {o : Option Fault} → e ≡ in_no_with (declared is u).0 → b ≡ (stated is u).0 → worst u is ≡ None → o ≡ late_fault u is → data_fault u e b o ≡ None
        → Meant (assembled e u.head.name.name b)
    made_there there body right late none =
        right_there (there ∙ ap (λ is. in_no_with (declared is u).0) same) (body ∙ ap (λ is. (stated is u).0) same) (ap (worst u) (sym same) ∙ right) (late ∙ ap (late_fault u) same) none

    pub unit_there : unit_fault u is ≡ None → units.IsThere (module_of u is)
    unfolding unit_fault module_of
    unit_there h = let m = made_there refl refl (none_before (worst u is) _ h) refl (none_behind (worst u is) _ h) in (m.0, m.1)

pub program_there : (file : List ℕ) (u : Tree) → program_fault file u ≡ None → units.IsThere (module_of u residents)
unfolding program_fault imports_fault
program_there file u h = unit_there u refl (none_behind (tell None (missing_rows residents u.head.imports)) _ (none_behind (tell None (naming_rows kind.Program file u)) _ h))
