-- What each form of type means, from what its parts mean.
use Rattle.std.proofs.Common.{◌≡◌, ℕ, List, [], map, reverse, Option, Some, None, sym, ap, subst, ◌∙◌}
use Rattle.lil_base.specs.declared.fault.Place.{Place}
use Rattle.lil_text.specs.declared.tree.{Ident.Ident, Qualident.Qualident}
use Rattle.lil_language.specs.declared.tree.Expr.{Expr}
use Rattle.lil_language.specs.declared.unit.{Simple.Simple, Formal.Formal, Sort.Sort, FieldList.{FieldList, TheFolds.fold_out-Variant}, Variant.{Variant, out-Variant}}
use Rattle.lil_language.specs.declared.unit.Simple.TheVariants as simple
use Rattle.lil_language.specs.declared.unit.Sort.TheVariants as v
use Rattle.lil_language.specs.declared.unit.FieldList.TheVariants as l
use Rattle.lil_language.specs.declared.unit.FieldList.TheOpen as o
use Rattle.lil_types.specs.declared.table.TypeForm.{TypeForm}
use Rattle.lil_report.specs.{declared.report.Fault.Fault, Told.{after, walk, Said}, Laws.{said_as, said_after, walk_map}}
use Rattle.lil_scope.specs.declared.env.Env.{Env}
use Rattle.lil_kinds.specs.declared.found.Found.{Found}
use Rattle.lil_check_value.specs.Values.{asked_means}
use Rattle.lil_check_type.specs.{declared.{bounds.Bound.Bound, named.NamedType.NamedType, records.Fields.Fields}, Walks.walk_steps, Made.{Made, form_node}, Bounds.{bound_of, range_node}, Simple.{base_means, simple_means, set_means}, Labels.{no_labels, label_step}, Records.{tag_means, no_fields, with_labels, record_node, procedure_means}}
use Rattle.lil_check_type.specs.Sorts.{index_step, array_step, array_means, pointer_means, bare_name, Sense, Part, Cased, FieldSense, VariantSense, fields_by, named_fields, variants_by, case_fields, field_layer, variant_layer, sort_layer, sense, fields_sense, variant_sense, fields_rolled, sort_rolled, sort_means, list_step, lists_mean, others_mean, variants_mean, record_means}

-- ---- lists of fields and of variants
fields_are : (fs : List FieldList) (q : Part) → fields_by (map fields_sense fs) q ≡ lists_mean q fs
fields_are fs q = walk_map (λ q f. f q) fields_sense q fs

pub variant_is : (v : Variant) (n : Option ℕ) (c : Cased) → variant_sense v n c ≡ after (walk (label_step c.0.0 n) c.1 (out-Variant v).labels) (λ ls. after (lists_mean c.0 (out-Variant v).fields) (λ q. ((q, ls), [])))
unfolding sense fields_sense variant_sense
variant_is v n c = ap (λ m. m n c) (fold_out-Variant FieldSense Sense VariantSense field_layer sort_layer variant_layer v)
    ∙ (λ j. after (walk (label_step c.0.0 n) c.1 (out-Variant v).labels) (λ ls. after (fields_are (out-Variant v).fields c.0 j) (λ q. ((q, ls), []))))

variants_are : (vs : List Variant) (n : Option ℕ) (q : Part) → variants_by (map variant_sense vs) n q ≡ variants_mean vs n q
variants_are vs n q = walk_map (λ c v. v n c) variant_sense (q, no_labels) vs

pub named_is : (is : List Ident) (x : Sort) (q : Part) → fields_sense (l.Fields is x) q ≡ named_fields is (sense x).means q
named_is is x q = ap (λ m. m q) (ap fields_sense (sym (l.rolls-Fields is x)) ∙ fields_rolled (o.Fields is x))

pub cases_are : (p : Place) (i : Option Ident) (n : Qualident) (vs : List Variant) (fs : Option (List FieldList)) (q : Part) → fields_sense (l.Variants p i n vs fs) q ≡ case_fields i n (variants_mean vs) (others_mean fs) q
cases_are p i n vs None q = ap (λ m. m q) (ap fields_sense (sym (l.rolls-Variants p i n vs None)) ∙ fields_rolled (o.Variants p i n vs None))
    ∙ (λ j. case_fields i n (λ w q. variants_are vs w q j) (λ q. (q, [])) q)
cases_are p i n vs (Some fs) q = ap (λ m. m q) (ap fields_sense (sym (l.rolls-Variants p i n vs (Some fs))) ∙ fields_rolled (o.Variants p i n vs (Some fs)))
    ∙ (λ j. case_fields i n (λ w q. variants_are vs w q j) (λ q. fields_are fs q j) q)

-- ---- types
pub scalar_is : (x : Simple) → sense (v.Scalar x) ≡ record { name = bare_name x; means = λ e. simple_means e x }
scalar_is x = ap sense (sym (v.rolls-Scalar x)) ∙ sort_rolled (o.Scalar x)

pub array_is : (p : Place) (xs : List Simple) (y : Sort) → sense (v.ArrayOf p xs y) ≡ record { name = None; means = λ e. array_means e p xs (sense y).means }
array_is p xs y = ap sense (sym (v.rolls-ArrayOf p xs y)) ∙ sort_rolled (o.ArrayOf p xs y)

pub record_is : (p : Place) (fs : List FieldList) → sense (v.RecordOf p fs) ≡ record { name = None; means = λ e. record_means e p fs }
record_is p fs = ap sense (sym (v.rolls-RecordOf p fs)) ∙ sort_rolled (o.RecordOf p fs)
    ∙ (λ j. record { name = None; means = λ e. after (fields_are fs (e, no_fields) j) (λ q. record_node q.0 p q.1) })

pub set_is : (p : Place) (x : Simple) → sense (v.SetOver p x) ≡ record { name = None; means = λ e. set_means e p x }
set_is p x = ap sense (sym (v.rolls-SetOver p x)) ∙ sort_rolled (o.SetOver p x)

pub pointer_is : (p : Place) (y : Sort) → sense (v.PointerTo p y) ≡ record { name = None; means = λ e. pointer_means p (sense y).name (sense y).means e }
pointer_is p y = ap sense (sym (v.rolls-PointerTo p y)) ∙ sort_rolled (o.PointerTo p y)

pub procedure_is : (p : Place) (fs : List Formal) (q : Option Qualident) → sense (v.ProcedureOf p fs q) ≡ record { name = None; means = λ e. procedure_means e p fs q }
procedure_is p fs q = ap sense (sym (v.rolls-ProcedureOf p fs q)) ∙ sort_rolled (o.ProcedureOf p fs q)

pub ruleset sort_steps = (walk_steps, variant_is, named_is, cases_are, scalar_is, array_is, record_is, set_is, pointer_is, procedure_is)

-- ---- what is said of a form, from what is said of its parts
module _ (e : Env) {r : Option Fault} where
  pub is_range : {of : Simple} {x y : Expr} {p : Place} {q : Option Qualident} {n : NamedType} {a b : Option Found} {c d : Option Bound} {f : Option TypeForm} {m : Made} {s t u v w : Option Fault}
      → of ≡ simple.Subrange p q x y → Said (base_means e q) r n t → Said (asked_means e x) t a u → Said (asked_means e y) u b v → c ≡ bound_of a → d ≡ bound_of b
      → Said (range_node e.types p n c d) v f w → Said (form_node e p f) w m s → Said (simple_means e of) r m s
  unfolding simple_means
  is_range {p = p} {n = n} {a = a} {d = d} {f = f} {m = m} {s = s} {v = v} {w = w} is h k l low high i j = subst (λ x. Said (simple_means e x) r m s) (sym is)
      (said_after _ _ h (said_after _ _ k (said_after _ _ l (said_after _ _ (subst (λ d. Said (range_node e.types p n (bound_of a) d) v f w) high (subst (λ c. Said (range_node e.types p n c d) v f w) low i)) j))))

  pub is_array_of : {of : Sort} (xs : List Simple) (y : Sort) {p : Place} {f : Env} {os : List (Option ℕ)} {m w : Made} {s t u : Option Fault} → of ≡ v.ArrayOf p xs y
      → Said {A = Env × List (Option ℕ)} (walk index_step (e, []) xs) r (f, os) t → Said (sort_means f y) t m u → Said {A = Made} (walk (array_step p) m (reverse os)) u w s → Said (sort_means e of) r w s
  is_array_of xs y {p = p} is h k l = said_as (ap (sort_means e) is ∙ ap (λ s. s.means e) (array_is p xs y)) (said_after _ _ h (said_after _ _ k l))

  pub is_record_of : {of : Sort} (fs : List FieldList) {p : Place} {m : Made} {s : Option Fault} → of ≡ v.RecordOf p fs → Said (record_means e p fs) r m s → Said (sort_means e of) r m s
  is_record_of fs {p = p} is h = said_as (ap (sort_means e) is ∙ ap (λ s. s.means e) (record_is p fs)) h

  pub is_pointer_to : {of : Sort} (y : Sort) {p : Place} {m : Made} {s : Option Fault} → of ≡ v.PointerTo p y → Said (pointer_means p (sense y).name (sense y).means e) r m s → Said (sort_means e of) r m s
  is_pointer_to y {p = p} is h = said_as (ap (sort_means e) is ∙ ap (λ s. s.means e) (pointer_is p y)) h

  pub is_cases : (gs : Fields) (vs : List Variant) {p : Place} {i : Option Ident} {n : Qualident} (fs : Option (List FieldList)) {of : FieldList} {hs ks : Fields} {o : Option ℕ} {c : Cased} {q : Part} {s t u : Option Fault}
      → of ≡ l.Variants p i n vs fs → Said {A = Fields × Option ℕ} (tag_means e gs i n) r (hs, o) t → Said (variants_mean vs o (e, hs)) t c u → ks ≡ with_labels c.0.1 c.1 → Said (others_mean fs (c.0.0, ks)) u q s → Said (list_step (e, gs) of) r q s
  is_cases gs vs {p = p} {i = i} {n = n} fs {c = c} {q = q} {s = s} {u = u} eq h k labels m = said_as (ap (list_step (e, gs)) eq ∙ cases_are p i n vs fs (e, gs))
      (said_after _ _ h (said_after _ _ k (subst (λ ks. Said (others_mean fs (c.0.0, ks)) u q s) labels m)))

module _ (q : Part) {r : Option Fault} where
  pub is_some : (fs : List FieldList) {of : Option (List FieldList)} {p : Part} {s : Option Fault} → of ≡ Some fs → Said (lists_mean q fs) r p s → Said (others_mean of q) r p s
  is_some fs is h = said_as (ap (λ of. others_mean of q) is) h
