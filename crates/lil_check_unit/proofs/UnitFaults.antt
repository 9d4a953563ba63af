-- What is answered of a unit and of a program, by the classes of their faults.
use Rattle.std.proofs.Common.{◌≡◌, ℕ, ◌+◌, ◌<◌, ◌≤◌, List, [], ◌∷◌, ◌++◌, Option, Some, None, length, get_or, drop, subst, sym, ap, ◌∙◌, refl}
use Rattle.std.proofs.lemmas.List.{at_drop_more, at_drop_all}
use Rattle.lil_text.specs.declared.tree.Ident.{Ident}
use Rattle.lil_language.specs.declared.unit.{Import.Import, Unit.Unit as Tree}
use Rattle.lil_language.specs.declared.unit.UnitKind.TheVariants as kind
use Rattle.lil_report.specs.{declared.report.Fault.Fault, Least.{now_of, late_of, when, worse, Reports}, LeastLaws.reports_tell, Told.{Said, Stands, tell}, Laws.{said_after, tell_append}}
use Rattle.lil_resolved.specs.Resolved.{Resolved}
use Rattle.lil_scope.specs.declared.env.Env.{Env}
use Rattle.lil_check_decl.specs.Decls.{decls_mean}
use Rattle.lil_check_stmt.specs.{Stmts.bodies_mean, declared.stmt.Stated.Stated}
use Rattle.lil_interfaces.specs.{declared.{surface.Interface.Interface, modules.Imported.Imported}, Interfaces.residents, Imports.{nothing_imported, imports_mean, exports_mean}}
use Rattle.lil_check_unit.specs.{Modules.{in_no_with, assembled}, Units.{first_of, declared, stated, module_of, worst, late_fault, data_fault, names_fault, unit_fault, imports_fault, program_fault, naming_rows, missing_row, missing_names, missing_by, missing_rows, data_rows, HasInterfaces}}

module _ (u : Tree) (is : List Interface) where
  pub is_declared : {s s' : Imported} {xs : List Import} {e f : Env} {r a b c : Option Fault} → s ≡ nothing_imported → xs ≡ u.head.imports → Said (imports_mean is s xs) r s' a → Said (decls_mean s'.env u.decls) a e b
      → Said (exports_mean s'.taken e u.head.exports) b f c → Said (declared is u) r f c
  unfolding declared
  is_declared {s = s} {s' = s'} {r = r} {a = a} new these h k l = said_after _ _
      (subst (λ s. Said (imports_mean is s u.head.imports) r s' a) new (subst (λ xs. Said (imports_mean is s xs) r s' a) these h)) (said_after _ _ k l)

  module _ {r s : Option Fault} {e : Env} (new : r ≡ None) (h : Said (declared is u) r e s) where
    first_is : s ≡ tell None (declared is u).1
    first_is = h.told ∙ ap (λ r. tell r (declared is u).1) new

    names_is : {o : Option Fault} → o ≡ names_fault u e s → names_fault u (declared is u).0 (tell None (declared is u).1) ≡ o
    names_is k = sym (k ∙ (λ j. names_fault u (h.value j) (first_is j)))

    pub wrong_declarations : {f : Fault} → Some f ≡ names_fault u e s → worst u is ≡ Some f
    unfolding worst
    wrong_declarations wrong = ap (λ o. first_of o (now_of (tell None (stated is u).1))) (names_is wrong)

    pub then_statements : None ≡ names_fault u e s → worst u is ≡ now_of (tell None (bodies_mean (in_no_with e) u.decls u.body).1)
    unfolding worst
    then_statements fine = ap (λ o. first_of o (now_of (tell None (stated is u).1))) (names_is fine) ∙ ap (λ e. now_of (tell None (bodies_mean (in_no_with e) u.decls u.body).1)) (sym h.value)

    pub late_is : worse (late_of s) (late_of (tell None (bodies_mean (in_no_with e) u.decls u.body).1)) ≡ late_fault u is
    unfolding late_fault
    late_is = λ j. worse (late_of (first_is j)) (late_of (tell None (bodies_mean (in_no_with (h.value j)) u.decls u.body).1))

    pub stated_is : (bodies_mean (in_no_with e) u.decls u.body).0 ≡ (stated is u).0
    stated_is = ap (λ e. (bodies_mean (in_no_with e) u.decls u.body).0) h.value

-- ---- imports that have no interface
tell_nil : (o : Option Fault) → tell o [] ≡ o
unfolding tell
tell_nil o = refl

module _ (is : List Interface) (o : Option Fault) where
  pub next_name : {p : Option Fault} (xs : List Ident) (i : ℕ) (x : Ident) → i < length xs → x ≡ get_or xs i x → p ≡ tell o (missing_row is x ∷ [])
      → tell p (missing_names is (drop (i + 1) xs)) ≡ tell o (missing_names is (drop i xs))
  next_name xs i x lt at e = ap (λ o. tell o (missing_names is (drop (i + 1) xs))) e ∙ sym (tell_append o (missing_row is x ∷ []) (missing_names is (drop (i + 1) xs)))
      ∙ ap (λ y. tell o (missing_row is y ∷ missing_names is (drop (i + 1) xs))) at ∙ sym (at_drop_more (λ xs. tell o (missing_names is xs)) xs i x lt)

  pub all_names : (xs : List Ident) (i : ℕ) → length xs ≤ i → o ≡ tell o (missing_names is (drop i xs))
  all_names xs i le = sym (at_drop_all (λ xs. tell o (missing_names is xs)) xs i le ∙ tell_nil o)

  pub next_import : {p : Option Fault} (xs : List Import) (i : ℕ) (x : Import) → i < length xs → x ≡ get_or xs i x → p ≡ tell o (missing_by is x.from x.names)
      → tell p (missing_rows is (drop (i + 1) xs)) ≡ tell o (missing_rows is (drop i xs))
  next_import xs i x lt at e = ap (λ o. tell o (missing_rows is (drop (i + 1) xs))) e ∙ sym (tell_append o (missing_by is x.from x.names) (missing_rows is (drop (i + 1) xs)))
      ∙ ap (λ (y : Import). tell o (missing_by is y.from y.names ++ missing_rows is (drop (i + 1) xs))) at ∙ sym (at_drop_more (λ xs. tell o (missing_rows is xs)) xs i x lt)

  pub all_imports : (xs : List Import) (i : ℕ) → length xs ≤ i → o ≡ tell o (missing_rows is (drop i xs))
  all_imports xs i le = sym (at_drop_all (λ xs. tell o (missing_rows is xs)) xs i le ∙ tell_nil o)

-- ---- data
module _ (u : Tree) (e : Env) (b : Stated) (o : Option Fault) where
  pub wrong_data : {f : Fault} → tell None (data_rows u e b) ≡ Some f → data_fault u e b o ≡ Some f
  wrong_data h = ap (λ d. first_of d o) h

  pub then_late : tell None (data_rows u e b) ≡ None → data_fault u e b o ≡ o
  then_late h = ap (λ d. first_of d o) h

-- ---- a unit
module _ (u : Tree) (is : List Interface) where
  pub wrong_unit : {f : Fault} → worst u is ≡ Some f → unit_fault u is ≡ Some f
  unfolding unit_fault
  wrong_unit h = ap (λ o. first_of o (data_fault u (declared is u).0 (stated is u).0 (late_fault u is))) h

  module _ {e : Env} {b : Stated} (there : e ≡ in_no_with (declared is u).0) (body : b ≡ (stated is u).0) where
    pub module_is : assembled e u.head.name.name b ≡ module_of u is
    unfolding module_of
    module_is = λ j. assembled (there j) u.head.name.name (body j)

    pub then_last : {o : Option Fault} → worst u is ≡ None → o ≡ late_fault u is → unit_fault u is ≡ data_fault u e b o
    unfolding unit_fault
    then_last h late = ap (λ o. first_of o (data_fault u (declared is u).0 (stated is u).0 (late_fault u is))) h ∙ (λ j. data_fault u (sym there j) (sym body j) (sym late j))

-- ---- a program
module _ (u : Tree) {is : List Interface} (same : is ≡ residents) where
  pub wrong_import : {f : Fault} → tell None (missing_rows is u.head.imports) ≡ Some f → imports_fault u ≡ Some f
  unfolding imports_fault
  wrong_import h = ap (λ o. first_of o (unit_fault u residents)) (ap (λ is. tell None (missing_rows is u.head.imports)) (sym same) ∙ h)

  pub then_unit : tell None (missing_rows is u.head.imports) ≡ None → imports_fault u ≡ unit_fault u is
  unfolding imports_fault
  then_unit h = ap (λ o. first_of o (unit_fault u residents)) (ap (λ is. tell None (missing_rows is u.head.imports)) (sym same) ∙ h) ∙ ap (unit_fault u) (sym same)

module _ (file : List ℕ) (u : Tree) where
  pub wrong_name : {f : Fault} → tell None (naming_rows kind.Program file u) ≡ Some f → program_fault file u ≡ Some f
  unfolding program_fault
  wrong_name h = ap (λ o. first_of o (imports_fault u)) h

  pub then_imports : tell None (naming_rows kind.Program file u) ≡ None → program_fault file u ≡ imports_fault u
  unfolding program_fault
  then_imports h = ap (λ o. first_of o (imports_fault u)) h

pub has_interfaces : (is : List Interface) (u : Tree) → tell None (missing_rows is u.head.imports) ≡ None → HasInterfaces is u
has_interfaces is u h = subst (Reports (Stands (missing_rows is u.head.imports))) h (reports_tell (missing_rows is u.head.imports))
