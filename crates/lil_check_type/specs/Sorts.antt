-- What types mean: their numbers, what is declared behind them, and the tests of their nodes.
use Rattle.std.specs.Prelude.{◌≡◌, ℕ, ◌==◌, List, [], ◌∷◌, ◌++◌, reverse, Option, Some, None, if◌then◌else◌}
use Rattle.lil_base.specs.declared.fault.Place.{Place}
use Rattle.lil_text.specs.declared.tree.{Ident.Ident, Qualident.Qualident}
use Rattle.lil_language.specs.declared.unit.{Simple.Simple, Sort.Sort, FieldList.{FieldList, TheOpen.{FieldList-F, Sort-F, Variant-F}, TheFolds.{fold-FieldList, fold-Sort, fold-Variant, map-FieldList, map-Sort, map-Variant, fold-roll-FieldList, fold-roll-Sort, fold-roll-Variant}, TheViews.{roll-FieldList, roll-Sort}}, Variant.{Variant, roll-Variant}}
use Rattle.lil_language.specs.declared.unit.Simple.TheVariants as simple
use Rattle.lil_language.specs.declared.unit.FieldList.TheOpen as o
use Rattle.lil_types.specs.{declared.table.TypeForm.TypeForm, Types.{process}}
use Rattle.lil_types.specs.declared.table.TypeForm.TheVariants as form
use Rattle.lil_report.specs.Told.{Row, after, walk}
use Rattle.lil_scope.specs.{declared.{env.Env.Env, thing.Thing.Thing}, Names.{find, is_later}}
use Rattle.lil_scope.specs.declared.thing.Thing.TheVariants as t
use Rattle.lil_check_type.specs.{declared.{records.Fields.Fields, labels.Labels.Labels}, Made.{Made, type_node, form_node}, Simple.{simple_means, index_means, set_means}, Labels.{no_labels, label_step}, Records.{no_fields, field_step, tag_means, with_labels, record_node, procedure_means}}

-- ---- arrays: those over the last indexes are the elements of those before
abbrev pub index_step : Env × List (Option ℕ) → Simple → (Env × List (Option ℕ)) × List Row
index_step s x = after (index_means s.0 x) (λ m. ((m.0, s.1 ++ m.1 ∷ []), []))

abbrev pub array_form : Option ℕ → Option ℕ → Option TypeForm
array_form (Some i) (Some n) = Some (form.Array i n)
array_form _ _ = None

abbrev pub array_step : Place → Made → Option ℕ → Made × List Row
array_step p m i = form_node m.0 p (array_form i m.1)

abbrev pub array_means : Env → Place → List Simple → (Env → Made × List Row) → Made × List Row
array_means e p xs element = after (walk index_step (e, []) xs) (λ s. after (element s.0) (λ m. walk (array_step p) m (reverse s.1)))

-- ---- pointers: a bare name is looked up at the end of the block. Nothing lies there before if the block declares it later
abbrev pub with_wait : Env → Option ℕ → Ident → Env
with_wait e (Some n) i = record e { waits = e.waits ++ record { pointer = n; place = i.place; name = i.name; later = is_later e i.name } ∷ [] }
with_wait e None i = e

abbrev pub pointer_form : Option ℕ → Option TypeForm
pointer_form (Some n) = Some (form.Pointer n)
pointer_form None = None

-- until then it points to what the name stands for so far, where something lies there
abbrev pub target_so_far : Option Thing → ℕ
target_so_far (Some (t.Type n)) = if n == process then 0 else n
target_so_far _ = 0

abbrev pub waiting_means : Env → Place → Ident → Made × List Row
waiting_means e p i = after (type_node e p (form.Pointer (target_so_far (find e.scopes i.name)))) (λ m. ((with_wait m.0 m.1 i, m.1), []))

abbrev pub pointer_means : Place → Option Ident → (Env → Made × List Row) → Env → Made × List Row
pointer_means p (Some i) m e = waiting_means e p i
pointer_means p None m e = after (m e) (λ m. form_node m.0 p (pointer_form m.1))

abbrev pub bare_by : Option Ident → Ident → Option Ident
bare_by None i = Some i
bare_by (Some owner) i = None

-- the name that a type is, if it is one alone
abbrev pub bare_name : Simple → Option Ident
bare_name (simple.Named q) = bare_by q.owner q.name
bare_name _ = None

-- ---- what a type means, what fields add to those before them, and what a variant adds to those before it and to the labels
pub record Sense : Type 0 where
  pub name : Option Ident
  pub means : Env → Made × List Row

abbrev pub Part : Type 0
Part = Env × Fields

abbrev pub Cased : Type 0
Cased = Part × Labels

abbrev pub FieldSense : Type 0
FieldSense = Part → Part × List Row

abbrev pub VariantSense : Type 0
VariantSense = Option ℕ → Cased → Cased × List Row

abbrev pub fields_by : List FieldSense → Part → Part × List Row
fields_by fs q = walk (λ q f. f q) q fs

abbrev pub else_by : Option (List FieldSense) → Part → Part × List Row
else_by None q = (q, [])
else_by (Some fs) q = fields_by fs q

abbrev pub named_fields : List Ident → (Env → Made × List Row) → Part → Part × List Row
named_fields is sort q = after (sort q.0) (λ m. after (walk (field_step m.1) q.1 is) (λ fs. ((m.0, fs), [])))

abbrev pub variants_by : List VariantSense → Option ℕ → Part → Cased × List Row
variants_by vs n q = walk (λ c v. v n c) (q, no_labels) vs

-- the fields before ELSE, by the labels too
abbrev pub labelled : Cased → Part
labelled c = (c.0.0, with_labels c.0.1 c.1)

abbrev pub case_fields : Option Ident → Qualident → (Option ℕ → Part → Cased × List Row) → (Part → Part × List Row) → Part → Part × List Row
case_fields i q variants others p = after (tag_means p.0 p.1 i q) (λ w. after (variants w.1 (p.0, w.0)) (λ c. others (labelled c)))

abbrev pub field_layer : FieldList-F FieldSense Sense VariantSense → FieldSense
field_layer (o.Fields is s) q = named_fields is s.means q
field_layer (o.Variants p i n vs fs) q = case_fields i n (variants_by vs) (else_by fs) q

abbrev pub variant_layer : Variant-F FieldSense Sense VariantSense → VariantSense
variant_layer v n c = after (walk (label_step c.0.0 n) c.1 v.labels) (λ ls. after (fields_by v.fields c.0) (λ q. ((q, ls), [])))

abbrev pub sort_layer : Sort-F FieldSense Sense VariantSense → Sense
sort_layer (o.Scalar x) = record { name = bare_name x; means = λ e. simple_means e x }
sort_layer (o.ArrayOf p xs y) = record { name = None; means = λ e. array_means e p xs y.means }
sort_layer (o.RecordOf p fs) = record { name = None; means = λ e. after (fields_by fs (e, no_fields)) (λ q. record_node q.0 p q.1) }
sort_layer (o.SetOver p x) = record { name = None; means = λ e. set_means e p x }
sort_layer (o.PointerTo p y) = record { name = None; means = λ e. pointer_means p y.name y.means e }
sort_layer (o.ProcedureOf p fs q) = record { name = None; means = λ e. procedure_means e p fs q }

unfoldable pub sense : Sort → Sense
sense = fold-Sort FieldSense Sense VariantSense field_layer sort_layer variant_layer

unfoldable pub fields_sense : FieldList → FieldSense
fields_sense = fold-FieldList FieldSense Sense VariantSense field_layer sort_layer variant_layer

unfoldable pub variant_sense : Variant → VariantSense
variant_sense = fold-Variant FieldSense Sense VariantSense field_layer sort_layer variant_layer

-- each as its layer says
pub fields_rolled : (x : FieldList-F FieldList Sort Variant) → fields_sense (roll-FieldList x) ≡ field_layer (map-FieldList FieldList Sort Variant FieldSense Sense VariantSense fields_sense sense variant_sense x)
unfolding sense fields_sense variant_sense
fields_rolled = fold-roll-FieldList FieldSense Sense VariantSense field_layer sort_layer variant_layer

pub sort_rolled : (x : Sort-F FieldList Sort Variant) → sense (roll-Sort x) ≡ sort_layer (map-Sort FieldList Sort Variant FieldSense Sense VariantSense fields_sense sense variant_sense x)
unfolding sense fields_sense variant_sense
sort_rolled = fold-roll-Sort FieldSense Sense VariantSense field_layer sort_layer variant_layer

pub variant_rolled : (x : Variant-F FieldList Sort Variant) → variant_sense (roll-Variant x) ≡ variant_layer (map-Variant FieldList Sort Variant FieldSense Sense VariantSense fields_sense sense variant_sense x)
unfolding sense fields_sense variant_sense
variant_rolled = fold-roll-Variant FieldSense Sense VariantSense field_layer sort_layer variant_layer

abbrev pub sort_means : Env → Sort → Made × List Row
sort_means e x = (sense x).means e

-- ---- the same over trees
abbrev pub list_step : Part → FieldList → Part × List Row
list_step q f = fields_sense f q

abbrev pub lists_mean : Part → List FieldList → Part × List Row
lists_mean q fs = walk list_step q fs

abbrev pub others_mean : Option (List FieldList) → Part → Part × List Row
others_mean None q = (q, [])
others_mean (Some fs) q = lists_mean q fs

abbrev pub variant_step : Option ℕ → Cased → Variant → Cased × List Row
variant_step n c v = variant_sense v n c

abbrev pub variants_mean : List Variant → Option ℕ → Part → Cased × List Row
variants_mean vs n q = walk (variant_step n) (q, no_labels) vs

abbrev pub record_means : Env → Place → List FieldList → Made × List Row
record_means e p fs = after (lists_mean (e, no_fields) fs) (λ q. record_node q.0 p q.1)
