-- Procedure types: where no test finds a fault in their headings, something lies in their parameters, and values of their results have kinds.
use Rattle.std.proofs.Common.{◌≡◌, ℕ, true, false, ◌||◌, List, [], Option, Some, None, if◌then◌else◌, inl, refl, sym, ap, subst, ◌∙◌, true≢false}
use Rattle.std.specs.Prelude.{is_some}
use Rattle.lil_base.specs.declared.fault.Place.{Place}
use Rattle.lil_text.specs.declared.tree.Qualident.{Qualident}
use Rattle.lil_language.specs.declared.unit.Formal.{Formal}
use Rattle.lil_types.specs.{Types.{Table, entry}, declared.table.{TypeEntry.TypeEntry, TypeForm.TypeForm}}
use Rattle.lil_types.specs.declared.table.TypeForm.TheVariants as form
use Rattle.lil_report.specs.Told.{walk}
use Rattle.lil_resolved.specs.declared.resolved.RKind.{RKind}
use Rattle.lil_kinds.specs.Forms.{form_in, is_form, of_form, shape, is_record_form, is_record, array_of, array_parts}
use Rattle.lil_shapes.specs.{Bases.{kind_at, is_composite, composite_by, composite_at}, ListLaws.AllFine, Pointers.lies_at}
use Rattle.lil_forms.specs.Scopes.{fine_more}
use Rattle.lil_scope.specs.declared.env.Env.{Env}
use Rattle.lil_check_value.specs.Looks.{type_named}
use Rattle.lil_check_type.specs.{declared.{named.NamedType.{NamedType, TheVariants.{Absent, Given, Faulty}}, routines.Parameters.Parameters}, Made.form_node}
use Rattle.lil_check_type.specs.Records.{no_parameters, with_parameter, formal_step, is_structure, result_node, result_means, procedure_form, procedure_means}
use Rattle.lil_right_type.specs.{Right.{Right, IsThere, after_right}, Types.{IsTold, PassedTold, ResultTold, meant_is}}
use Rattle.lil_right_value.specs.Names.{Lies}
use Rattle.lil_right_sort.specs.{Growth.{Few, PartsTold}, Simple.{Begun, SortTold, walk_keeps, form_right, named_right}}

-- ---- results: an array or a record is none
structure_form : (o : Option TypeEntry) → composite_by o ≡ true → (is_form is_record_form (form_in o) || is_some (of_form array_of (form_in o))) ≡ true
structure_form None h = absurd (true≢false (sym h))
structure_form (Some x) h = by x.form h
  where
    by : (f : TypeForm) → is_composite f ≡ true → (is_record_form f || is_some (array_of f)) ≡ true
    by (form.Array i e) h = refl
    by (form.Record xs) h = refl
    by _ h = absurd (true≢false (sym h))

structure_is : (t : Table) → IsTold t → (n : ℕ) → composite_at t n ≡ true → is_structure t n ≡ true
unfolding is_record array_parts shape
structure_is t told n h =
    ap (λ m. is_form is_record_form (form_in (entry t m)) || is_some (of_form array_of (form_in (entry t m)))) (meant_is t told n)
    ∙ structure_form (entry t n) h

-- what is named by a type that is no structure has a kind
result_told : (t : Table) → IsTold t → (r : ℕ) → lies_at t r ≡ true → is_structure t r ≡ false → ResultTold t (Some r)
result_told t told r lies plain = by (kind_at t r) refl
  where
    by : (o : Option RKind) → kind_at t r ≡ o → ResultTold t (Some r)
    by (Some k) is = (k, is)
    by None is = absurd (true≢false (sym (structure_is t told r (ap (λ o. is_some o || composite_at t r) (sym is) ∙ lies)) ∙ plain))

module _ (e : Env) where
  -- what the result is
  abbrev pub IsResult : NamedType → Type 0
  IsResult Absent = Unit {0}
  IsResult (Given r) = Few e.types → ResultTold e.types (Some r)
  IsResult Faulty = Few e.types → ⊥

  module _ (begun : Begun e) where
    pub result_right : (at : Place) (o : Option ℕ) → (Few e.types → Lies e.types o) → Right IsResult (result_node e.types at o)
    unfolding result_node
    result_right at None lies clear = lies
    result_right at (Some r) lies clear =
        subst (λ c. IsResult (if c then Faulty else Given r)) (sym clear.0) (λ few. result_told e.types (begun few).told.types r (lies few) clear.0)

    its_result : (q : Option Qualident) → Right IsResult (result_means e q)
    its_result None = λ clear. tt
    its_result (Some q) =
        after_right (λ o. Few e.types → Lies e.types o) IsResult (type_named e q) (result_node e.types q.name.place) (named_right e begun q) (result_right q.name.place)

    -- ---- parameters
    abbrev AreTold : Parameters → Type 0
    AreTold ps = (ps.right ≡ true) × AllFine (PassedTold e.types) ps.list

    abbrev FormalsTold : Parameters → Type 0
    FormalsTold ps = Few e.types → AreTold ps

    formal_right : (ps : Parameters) (f : Formal) → FormalsTold ps → Right FormalsTold (formal_step e ps f)
    formal_right ps f h =
        after_right (λ o. Few e.types → Lies e.types o) FormalsTold (type_named e f.sort) (λ o. (with_parameter ps f.by_place f.open_array o, [])) (named_right e begun f.sort)
        (λ o lies clear few. by o (lies few) (h few))
      where
        by : (o : Option ℕ) → Lies e.types o → AreTold ps → AreTold (with_parameter ps f.by_place f.open_array o)
        by None lies h = absurd lies
        by (Some n) lies h = (h.0, fine_more (PassedTold e.types) ps.list _ h.1 (inl lies))

    -- ---- the type
    made_with : (ps : Parameters) (r : Option ℕ) → AreTold ps → ResultTold e.types r → IsThere (PartsTold e.types) (if ps.right then Some (form.Procedure ps.list r) else None)
    made_with ps r told returns = subst (λ c. IsThere (PartsTold e.types) (if c then Some (form.Procedure ps.list r) else None)) (sym told.0) (told.1, returns)

    formed : (ps : Parameters) (n : NamedType) → FormalsTold ps → IsResult n → Few e.types → IsThere (PartsTold e.types) (procedure_form ps n)
    formed ps Absent h j few = made_with ps None (h few) tt
    formed ps (Given r) h j few = made_with ps (Some r) (h few) (j few)
    formed ps Faulty h j few = j few

    pub procedure_right : (p : Place) (fs : List Formal) (q : Option Qualident) → Right (SortTold e) (procedure_means e p fs q)
    procedure_right p fs q =
        after_right FormalsTold (SortTold e) (walk (formal_step e) no_parameters fs) _
        (walk_keeps FormalsTold (formal_step e) formal_right no_parameters fs (λ few. (refl, tt)))
        (λ ps h. after_right IsResult (SortTold e) (result_means e q) (λ n. form_node e p (procedure_form ps n)) (its_result q)
        (λ n j. form_right e begun p (procedure_form ps n) (formed ps n h j)))
