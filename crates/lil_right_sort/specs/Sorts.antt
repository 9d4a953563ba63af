-- The types that a right text declares: something lies in each of them, and what is declared before stays told, by induction.
use Rattle.std.proofs.Common.{◌≡◌, ℕ, Bool, true, false, not, ◌&&◌, List, [], ◌∷◌, map, reverse, Option, Some, None, IfSome, if◌then◌else◌, refl, sym, ap, subst}
use Rattle.std.specs.Prelude.{◌==◌, is_some}
use mathlib.Core.List.{reverse_aux}
use Rattle.lil_base.specs.declared.fault.Place.{Place}
use Rattle.lil_text.specs.declared.tree.{Ident.Ident, Qualident.Qualident}
use Rattle.lil_language.specs.declared.tree.Range.{Range}
use Rattle.lil_language.specs.declared.unit.{Simple.Simple, Sort.Sort, FieldList.{FieldList, TheOpen.{FieldList-F, Sort-F, Variant-F}, TheFolds.{map-FieldList, map-Sort, map-Variant, ind-Sort}, TheViews.{roll-FieldList, roll-Sort}}, Variant.{Variant, roll-Variant}}
use Rattle.lil_language.specs.declared.unit.FieldList.TheOpen as o
use Rattle.lil_types.specs.{Types.{Table, process}, declared.table.Field.Field}
use Rattle.lil_types.specs.declared.table.TypeForm.TheVariants as form
use Rattle.lil_report.specs.Told.{Row, after, walk}
use Rattle.lil_scope.specs.{declared.{env.Env.Env, thing.Thing.Thing}, Names.find}
use Rattle.lil_scope.specs.declared.thing.Thing.TheVariants as thing
use Rattle.lil_shapes.specs.{ListLaws.AllFine, Pointers.lies_at}
use Rattle.lil_forms.specs.Scopes.{fine_more}
use Rattle.lil_check_value.specs.Looks.{type_named}
use Rattle.lil_check_type.specs.{declared.{records.Fields.Fields, labels.Labels.Labels}, Made.{Made, type_node, form_node, ordinal_node}, Simple.index_means, Labels.{no_labels, label_means, label_step}, Records.{no_fields, field_step, tag_field, tag_means, record_form, if_right, record_node}}
use Rattle.lil_check_type.specs.Sorts.{index_step, array_form, array_step, array_means, with_wait, pointer_form, target_so_far, waiting_means, pointer_means, Sense, Part, Cased, FieldSense, VariantSense, fields_by, else_by, named_fields, variants_by, labelled, case_fields, field_layer, variant_layer, sense, fields_sense, variant_sense, fields_rolled, sort_rolled, variant_rolled, sort_layer, sort_means}
use Rattle.lil_right_type.specs.{Right.{Right, IsThere, after_right, walk_right}, Types.{HasSpan, IsTold}, Found.ThingTold}
use Rattle.lil_right_sort.specs.{Growth.{all_then, Few, few_before, lies_stays, has_span_stays, span_lies, Kept, PartsTold, Declared, declared_waits}, Ranges.{HasBase, Numbered, span_base}, Labels.label_right, Routines.procedure_right, Simple.{Begun, Follows, later_same, follows, SortTold, IndexTold, sort_later, walk_keeps, type_right, form_right, named_right, ordinal_right, simple_right, index_right, set_right}}
use Rattle.lil_right_value.specs.Names.{Lies, find_told}

reversed : {A : Type 0} (P : A → Type 0) (xs ys : List A) → AllFine P xs → AllFine P ys → AllFine P (reverse_aux xs ys)
reversed P [] ys h j = j
reversed P (x ∷ xs) ys h j = reversed P xs (x ∷ ys) h.1 (h.0, j)

-- ---- arrays
-- indexes of types that have an order
abbrev Indexes : Type 0
Indexes = Env × List (Option ℕ)

abbrev IndexesTold : Env → Indexes → Type 0
IndexesTold e s = Follows e s.0 (AllFine (λ o. IsThere (HasSpan s.0.types) o) s.1)

spans_stay : (t u : Table) → IsTold t → Kept 0 t u → (os : List (Option ℕ)) → AllFine (λ o. IsThere (HasSpan t) o) os → AllFine (λ o. IsThere (HasSpan u) o) os
spans_stay t u told kept = all_then _ _ one
  where
    one : (o : Option ℕ) → IsThere (HasSpan t) o → IsThere (HasSpan u) o
    one None h = h
    one (Some n) h = has_span_stays t u told kept n h

-- the arrays over these indexes, before they are made
abbrev ArraysTold : Env → List (Option ℕ) → Made → Type 0
ArraysTold e os m = Follows e m.0 (Lies m.0.types m.1 × AllFine (λ o. IsThere (HasSpan m.0.types) o) os)

array_made : (t : Table) (i o : Option ℕ) → IsThere (HasSpan t) i → Lies t o → IsThere (PartsTold t) (array_form i o)
array_made t None o h j = absurd h
array_made t (Some i) None h j = absurd j
array_made t (Some i) (Some n) h j = (h, j)

arrays_right : (e : Env) (p : Place) (os : List (Option ℕ)) (m : Made) → ArraysTold e os m → Right (SortTold e) (walk (array_step p) m os)
arrays_right e p [] m h = λ clear. (h.0, λ few. ((h.1 few).0, (h.1 few).1.0))
arrays_right e p (i ∷ os) m h = after_right (ArraysTold e os) (SortTold e) (array_step p m i) (λ m. walk (array_step p) m os) step (arrays_right e p os)
  where
    step : Right (ArraysTold e os) (array_step p m i)
    step clear = follows e m.0 _ _ _ _ h
        (form_right m.0 (λ few. (h.1 few).0) p (array_form i m.1) (λ few. let before = (h.1 few).1 in array_made m.0.types i m.1 before.1.0 before.0) clear)
        (λ told kept before now. (now, spans_stay m.0.types _ told kept os before.1.1))

-- ---- pointers
target_lies : (e : Env) (o : Option Thing) → IfSome o (ThingTold e.types e.texts) → lies_at e.types (target_so_far o) ≡ true
target_lies e None h = refl
target_lies e (Some (thing.Type n)) h = by (n == process) (λ is. h (ap not is))
  where
    by : (c : Bool) → (c ≡ false → lies_at e.types n ≡ true) → lies_at e.types (if c then 0 else n) ≡ true
    by true there = refl
    by false there = there refl
target_lies e (Some _) h = refl

wait_right : (e f : Env) (o : Option ℕ) (i : Ident) → SortTold e (f, o) → SortTold e (with_wait f o i, o)
wait_right e f None i h = h
wait_right e f (Some n) i h = (h.0, λ few. (declared_waits f (h.1 few).0 _ f.coming, (h.1 few).1))

waiting_right : (e : Env) → Begun e → (p : Place) (i : Ident) → Right (SortTold e) (waiting_means e p i)
waiting_right e begun p i =
    after_right (SortTold e) (SortTold e) (type_node e p (form.Pointer (target_so_far (find e.scopes i.name)))) _
    (type_right e begun p (form.Pointer (target_so_far (find e.scopes i.name))) (λ few. target_lies e (find e.scopes i.name) (find_told e (begun few).told i.name)))
    (λ m h clear. wait_right e m.0 m.1 i h)

-- ---- records
abbrev FieldsTold : Table → Fields → Type 0
FieldsTold t fs = (fs.typed ≡ true) × (fs.right ≡ true) × AllFine (λ (x : Field). lies_at t x.sort ≡ true) fs.list

abbrev PartTold : Env → Part → Type 0
PartTold e q = Follows e q.0 (FieldsTold q.0.types q.1)

fields_stay : (t u : Table) → IsTold t → Kept 0 t u → (fs : Fields) → FieldsTold t fs → FieldsTold u fs
fields_stay t u told kept fs h = (h.0, h.1, all_then _ _ (λ (x : Field). lies_stays t u told kept x.sort) fs.list h.2)

field_right : (t : Table) (o : Option ℕ) → Lies t o → (fs : Fields) (i : Ident) → FieldsTold t fs → Right (FieldsTold t) (field_step o fs i)
unfolding field_step
field_right t None h fs i j clear = absurd h
field_right t (Some n) h fs i j clear = ((λ k. j.0 k && true), (λ k. j.1 k && not (clear.0 k)), fine_more (λ (x : Field). lies_at t x.sort ≡ true) fs.list _ j.2 h)

-- fields of one type
named_fields_right : (e : Env) (is : List Ident) (sort : Env → Made × List Row) → ((f : Env) → Begun f → Right (SortTold f) (sort f)) → (q : Part) → PartTold e q → Right (PartTold e) (named_fields is sort q)
named_fields_right e is sort made q h =
    after_right (SortTold q.0) (PartTold e) (sort q.0) _ (made q.0 (λ few. (h.1 few).0))
    (λ m j.
    let before : Follows e m.0 (Lies m.0.types m.1 × FieldsTold m.0.types q.1) = follows e q.0 m.0 _ _ _ h j (λ told kept fields there. (there, fields_stay q.0.types m.0.types told kept q.1 fields)) in
    after_right (λ fs. Few m.0.types → FieldsTold m.0.types fs) (PartTold e) (walk (field_step m.1) q.1 is) _
    (walk_keeps (λ fs. Few m.0.types → FieldsTold m.0.types fs) (field_step m.1) (λ fs i k clear few. field_right m.0.types m.1 (j.1 few).1 fs i (k few) clear) q.1 is (λ few. (before.1 few).1.1))
    (λ fs k clear. (before.0, λ few. ((j.1 few).0, k few))))

-- the tag of variants has an order
abbrev TagTold : Table → Fields × Option ℕ → Type 0
TagTold t w = FieldsTold t w.0 × IsThere (HasSpan t) w.1

tag_right : (e : Env) → Begun e → (fs : Fields) (i : Option Ident) (q : Qualident) → (Few e.types → FieldsTold e.types fs) → Right (λ w. Few e.types → TagTold e.types w) (tag_means e fs i q)
tag_right e begun fs i q h =
    after_right (λ o. Few e.types → Lies e.types o) (λ w. Few e.types → TagTold e.types w) (type_named e q) _ (named_right e begun q)
    (λ o j. after_right (λ o. Few e.types → IsThere (HasSpan e.types) o) (λ w. Few e.types → TagTold e.types w) (ordinal_node e.types q.name.place o) _ (λ clear few. ordinal_right e.types q.name.place o clear (j few))
    (λ n k. after_right (λ gs. Few e.types → FieldsTold e.types gs) (λ w. Few e.types → TagTold e.types w) (tag_field fs i n) _ (λ clear few. tagged i n (span_is (begun few) n (k few)) (h few) clear) (λ gs l clear few. (l few, k few))))
  where
    span_is : Declared e → (o : Option ℕ) → IsThere (HasSpan e.types) o → Lies e.types o
    span_is d None h = h
    span_is d (Some n) h = span_lies e.types d.told.types n h

    tagged : (i : Option Ident) (o : Option ℕ) → Lies e.types o → FieldsTold e.types fs → Right (FieldsTold e.types) (tag_field fs i o)
    tagged (Some i) o h j clear = field_right e.types o h fs i j clear
    tagged None None h j clear = absurd h
    tagged None (Some n) h j clear = ((λ k. j.0 k && true), j.1, j.2)

-- ---- labels beside that tag
all_there : {A : Type 0} (P : A → Type 0) (c : Bool) (o : Option A) → c ≡ true → IsThere P o → (c && is_some o) ≡ true
all_there P c None is h = absurd h
all_there P c (Some a) is h = λ k. is k && true

label_there : (e : Env) → Declared e → (n : Option ℕ) → IsThere (HasSpan e.types) n → (ls : Labels) (r : Range) → ls.right ≡ true → Right (λ s. (ls.right && is_some s) ≡ true) (label_means e n ls.seen r)
label_there e d None tag ls r is clear = absurd tag
label_there e d (Some n) tag ls r is clear =
    let of : HasBase e.types n = span_base e.types d.told.types n tag in
    all_there (Numbered of.0) ls.right (label_means e (Some n) ls.seen r).0 is (label_right e d.told n of ls.seen r clear)

labels_right : (e : Env) (n : Option ℕ) → (Few e.types → Declared e × IsThere (HasSpan e.types) n) → (ls : Labels) (rs : List Range) → (Few e.types → ls.right ≡ true) → Right (λ ls. Few e.types → ls.right ≡ true) (walk (label_step e n) ls rs)
labels_right e n begun ls rs h = walk_keeps (λ (ls : Labels). Few e.types → ls.right ≡ true) (label_step e n) step ls rs h
  where
    step : (ls : Labels) (r : Range) → (Few e.types → ls.right ≡ true) → Right (λ ls. Few e.types → ls.right ≡ true) (label_step e n ls r)
    step ls r h = after_right (λ s. Few e.types → (ls.right && is_some s) ≡ true) (λ ls. Few e.types → ls.right ≡ true) (label_means e n ls.seen r) _
        (λ clear few. let d = begun few in label_there e d.0 n d.1 ls r (h few) clear) (λ s j clear. j)

-- fields of variants and their labels, beside the tag
abbrev CasedTold : Env → Option ℕ → Cased → Type 0
CasedTold e n c = Follows e c.0.0 (FieldsTold c.0.0.types c.0.1 × (c.1.right ≡ true) × IsThere (HasSpan c.0.0.types) n)

span_stays : (t u : Table) → IsTold t → Kept 0 t u → (n : Option ℕ) → IsThere (HasSpan t) n → IsThere (HasSpan u) n
span_stays t u told kept None h = h
span_stays t u told kept (Some n) h = has_span_stays t u told kept n h

-- ---- what each form means
abbrev SenseRight : Sense → Type 0
SenseRight s = (e : Env) → Begun e → Right (SortTold e) (s.means e)

abbrev FieldRight : FieldSense → Type 0
FieldRight f = (e : Env) (q : Part) → PartTold e q → Right (PartTold e) (f q)

abbrev VariantRight : VariantSense → Type 0
VariantRight v = (e : Env) (n : Option ℕ) (c : Cased) → CasedTold e n c → Right (CasedTold e n) (v n c)

fields_right : (fs : List FieldSense) → AllFine FieldRight fs → FieldRight (fields_by fs)
fields_right fs all e q h = walk_right (PartTold e) FieldRight (λ q f. f q) (λ q f h right. right e q h) q fs h all

variants_right : (vs : List VariantSense) → AllFine VariantRight vs → (e : Env) (n : Option ℕ) (q : Part) → CasedTold e n (q, no_labels) → Right (CasedTold e n) (variants_by vs n q)
variants_right vs all e n q h = walk_right (CasedTold e n) VariantRight (λ c v. v n c) (λ c v h right. right e n c h) (q, no_labels) vs h all

-- ---- trees, each with its proof
abbrev Fielded : Type 0
Fielded = (x : FieldList) × FieldRight (fields_sense x)

abbrev Sorted : Type 0
Sorted = (x : Sort) × SenseRight (sense x)

abbrev Varied : Type 0
Varied = (x : Variant) × VariantRight (variant_sense x)

each_fielded : (xs : List Fielded) → AllFine FieldRight (map fields_sense (map (λ x. x.0) xs))
each_fielded [] = tt
each_fielded (x ∷ xs) = (x.1, each_fielded xs)

each_varied : (xs : List Varied) → AllFine VariantRight (map variant_sense (map (λ x. x.0) xs))
each_varied [] = tt
each_varied (x ∷ xs) = (x.1, each_varied xs)

-- ---- fields
abbrev bare_fields : FieldList-F Fielded Sorted Varied → FieldList-F FieldList Sort Variant
bare_fields = map-FieldList Fielded Sorted Varied FieldList Sort Variant (λ x. x.0) (λ x. x.0) (λ x. x.0)

abbrev fields_meant : FieldList-F FieldList Sort Variant → FieldList-F FieldSense Sense VariantSense
fields_meant = map-FieldList FieldList Sort Variant FieldSense Sense VariantSense fields_sense sense variant_sense

case_right : (e : Env) (i : Option Ident) (n : Qualident) (vs : List VariantSense) (others : Part → Part × List Row) → AllFine VariantRight vs → FieldRight others → (q : Part) → PartTold e q → Right (PartTold e) (case_fields i n (variants_by vs) others q)
case_right e i n vs others all other q h =
    after_right (λ w. Few q.0.types → TagTold q.0.types w) (PartTold e) (tag_means q.0 q.1 i n) _ (tag_right q.0 (λ few. (h.1 few).0) q.1 i n (λ few. (h.1 few).1))
    (λ w j. after_right (CasedTold e w.1) (PartTold e) (variants_by vs w.1 (q.0, w.0)) (λ c. others (labelled c)) (variants_right vs all e w.1 (q.0, w.0) (h.0, λ few. ((h.1 few).0, ((j few).0, refl, (j few).1)))) (λ c k. other e (labelled c) (part w.1 c k)))
  where
    part : (n : Option ℕ) (c : Cased) → CasedTold e n c → PartTold e (labelled c)
    part n c k = (k.0, λ few. let all = (k.1 few).1 in ((k.1 few).0, (all.0.0, (λ i. all.0.1 i && all.1 i), all.0.2)))

field_layer_right : (y : FieldList-F Fielded Sorted Varied) → FieldRight (field_layer (fields_meant (bare_fields y)))
field_layer_right (o.Fields is s) e q h = named_fields_right e is (sense s.0).means s.1 q h
field_layer_right (o.Variants p i n vs None) e q h = case_right e i n (map variant_sense (map (λ x. x.0) vs)) (else_by None) (each_varied vs) (λ e q h clear. h) q h
field_layer_right (o.Variants p i n vs (Some fs)) e q h = case_right e i n (map variant_sense (map (λ x. x.0) vs)) (fields_by (map fields_sense (map (λ x. x.0) fs))) (each_varied vs) (fields_right (map fields_sense (map (λ x. x.0) fs)) (each_fielded fs)) q h

-- ---- variants
abbrev bare_variant : Variant-F Fielded Sorted Varied → Variant-F FieldList Sort Variant
bare_variant = map-Variant Fielded Sorted Varied FieldList Sort Variant (λ x. x.0) (λ x. x.0) (λ x. x.0)

abbrev variant_meant : Variant-F FieldList Sort Variant → Variant-F FieldSense Sense VariantSense
variant_meant = map-Variant FieldList Sort Variant FieldSense Sense VariantSense fields_sense sense variant_sense

variant_layer_right : (y : Variant-F Fielded Sorted Varied) → VariantRight (variant_layer (variant_meant (bare_variant y)))
variant_layer_right y e n c h =
    after_right (λ ls. Few c.0.0.types → ls.right ≡ true) (CasedTold e n) (walk (label_step c.0.0 n) c.1 y.labels) _
    (labels_right c.0.0 n (λ few. ((h.1 few).0, (h.1 few).1.2)) c.1 y.labels (λ few. (h.1 few).1.1))
    (λ ls right. after_right (PartTold c.0.0) (CasedTold e n) (fields_by (map fields_sense (map (λ x. x.0) y.fields)) c.0) _
    (fields_right (map fields_sense (map (λ x. x.0) y.fields)) (each_fielded y.fields) c.0.0 c.0 (later_same c.0.0, λ few. ((h.1 few).0, (h.1 few).1.0)))
    (λ q j clear. follows e c.0.0 q.0 (Before ls) _ _ (h.0, λ few. ((h.1 few).0, (right few, (h.1 few).1.2))) j (λ told kept before now. (now, before.0, span_stays c.0.0.types q.0.types told kept n before.1))))
  where
    Before : Labels → Type 0
    Before ls = (ls.right ≡ true) × IsThere (HasSpan c.0.0.types) n

-- ---- types
abbrev bare : Sort-F Fielded Sorted Varied → Sort-F FieldList Sort Variant
bare = map-Sort Fielded Sorted Varied FieldList Sort Variant (λ x. x.0) (λ x. x.0) (λ x. x.0)

abbrev meant : Sort-F FieldList Sort Variant → Sort-F FieldSense Sense VariantSense
meant = map-Sort FieldList Sort Variant FieldSense Sense VariantSense fields_sense sense variant_sense

indexes_right : (e : Env) → Begun e → (xs : List Simple) → Right (IndexesTold e) (walk index_step (e, []) xs)
indexes_right e begun xs = walk_keeps (IndexesTold e) index_step step (e, []) xs (later_same e, λ few. (begun few, tt))
  where
    step : (s : Indexes) (x : Simple) → IndexesTold e s → Right (IndexesTold e) (index_step s x)
    step s x h = after_right (IndexTold s.0) (IndexesTold e) (index_means s.0 x) _ (index_right s.0 (λ few. (h.1 few).0) x)
        (λ m j clear. follows e s.0 m.0 _ _ _ h j (λ told kept before now. fine_more (λ o. IsThere (HasSpan m.0.types) o) s.1 m.1 (spans_stay s.0.types m.0.types told kept s.1 before) now))

array_right : (e : Env) → Begun e → (p : Place) (xs : List Simple) (element : Env → Made × List Row) → ((f : Env) → Begun f → Right (SortTold f) (element f)) → Right (SortTold e) (array_means e p xs element)
array_right e begun p xs element right =
    after_right (IndexesTold e) (SortTold e) (walk index_step (e, []) xs) _ (indexes_right e begun xs)
    (λ s h. after_right (SortTold s.0) (SortTold e) (element s.0) _ (right s.0 (λ few. (h.1 few).0))
    (λ m j. arrays_right e p (reverse s.1) m (follows e s.0 m.0 _ _ _ h j (λ told kept before now. (now, reversed (λ o. IsThere (HasSpan m.0.types) o) s.1 [] (spans_stay s.0.types m.0.types told kept s.1 before) tt)))))

record_right : (e : Env) → Begun e → (p : Place) (fs : List FieldSense) → AllFine FieldRight fs → Right (SortTold e) (after (fields_by fs (e, no_fields)) (λ q. record_node q.0 p q.1))
record_right e begun p fs all =
    after_right (PartTold e) (SortTold e) (fields_by fs (e, no_fields)) _ (fields_right fs all e (e, no_fields) (later_same e, λ few. (begun few, (refl, refl, tt))))
    (λ q h. after_right (SortTold q.0) (SortTold e) (form_node q.0 p (record_form q.1)) _ (form_right q.0 (λ few. (h.1 few).0) p (record_form q.1) (λ few. formed q.0.types q.1 (h.1 few).1))
    (λ m j clear. sort_later e q.0 (m.0, if_right q.1.right m.1) h.0 (j.0, λ few. ((j.1 few).0, subst (λ c. Lies m.0.types (if_right c m.1)) (sym (h.1 (few_before q.0.types m.0.types j.0.0 few)).1.1) (j.1 few).1))))
  where
    formed : (t : Table) (fs : Fields) → FieldsTold t fs → IsThere (PartsTold t) (record_form fs)
    formed t fs h = subst (λ c. IsThere (PartsTold t) (if c then Some (form.Record fs.list) else None)) (sym h.0) h.2

pointer_right : (e : Env) → Begun e → (p : Place) (i : Option Ident) (target : Env → Made × List Row) → ((f : Env) → Begun f → Right (SortTold f) (target f)) → Right (SortTold e) (pointer_means p i target e)
pointer_right e begun p (Some i) target right = waiting_right e begun p i
pointer_right e begun p None target right =
    after_right (SortTold e) (SortTold e) (target e) _ (right e begun)
    (λ m h clear. sort_later e m.0 _ h.0 (form_right m.0 (λ few. (h.1 few).0) p (pointer_form m.1) (λ few. formed m.0.types m.1 (h.1 few).1) clear))
  where
    formed : (t : Table) (o : Option ℕ) → Lies t o → IsThere (PartsTold t) (pointer_form o)
    formed t None h = absurd h
    formed t (Some n) h = h

layer_right : (y : Sort-F Fielded Sorted Varied) → SenseRight (sort_layer (meant (bare y)))
layer_right (o.Scalar x) e begun = simple_right e begun x
layer_right (o.ArrayOf p xs y) e begun = array_right e begun p xs (sense y.0).means y.1
layer_right (o.RecordOf p fs) e begun = record_right e begun p (map fields_sense (map (λ x. x.0) fs)) (each_fielded fs)
layer_right (o.SetOver p x) e begun = set_right e begun p x
layer_right (o.PointerTo p y) e begun = pointer_right e begun p (sense y.0).name (sense y.0).means y.1
layer_right (o.ProcedureOf p fs q) e begun = procedure_right e begun p fs q

-- ---- by induction
sense_right : (x : Sort) → SenseRight (sense x)
sense_right = ind-Sort (λ x. FieldRight (fields_sense x)) (λ x. SenseRight (sense x)) (λ x. VariantRight (variant_sense x))
    (λ x y is. subst (λ z. FieldRight (fields_sense (roll-FieldList z))) is (subst FieldRight (sym (fields_rolled (bare_fields y))) (field_layer_right y)))
    (λ x y is. subst (λ z. SenseRight (sense (roll-Sort z))) is (subst SenseRight (sym (sort_rolled (bare y))) (layer_right y)))
    (λ x y is. subst (λ z. VariantRight (variant_sense (roll-Variant z))) is (subst VariantRight (sym (variant_rolled (bare_variant y))) (variant_layer_right y)))

pub sort_right : (e : Env) → Begun e → (x : Sort) → Right (SortTold e) (sort_means e x)
sort_right e begun x = sense_right x e begun
