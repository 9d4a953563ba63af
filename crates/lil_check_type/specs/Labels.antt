-- Labels of a CASE, in statements and in records: which values each stands for, and their tests.
use Rattle.std.specs.Prelude.{ℕ, Bool, true, false, ◌&&◌, List, [], ◌∷◌, ◌++◌, Option, Some, None, is_some}
use Rattle.lil_base.specs.declared.fault.{Place.Place, FaultKind.TheVariants.{LabelTwice, EmptyRange}}
use Rattle.lil_language.specs.declared.tree.{Expr.Expr, Range.Range}
use Rattle.lil_types.specs.{declared.table.Span.Span, Types.Table}
use Rattle.lil_report.specs.Told.{Row, row, after}
use Rattle.lil_scope.specs.declared.env.Env.{Env}
use Rattle.lil_check_value.specs.Values.{asked_means}
use Rattle.lil_check_type.specs.{declared.{bounds.Bound.Bound, labels.Labels.Labels}, Nodes.node, Bounds.{bound_of, is_empty, span_between, constant_rows}, SortedSpans.has_value_of}

-- ---- the values of the labels before
abbrev pub stands_before : List Span → Option Span → Bool
stands_before us None = false
stands_before us (Some s) = has_value_of us s

abbrev pub with_span : List Span → Option Span → List Span
with_span us None = us
with_span us (Some s) = us ++ s ∷ []

-- ---- the tests, where the labels have to go together with this type
-- 42 LabelTwice, at the label's first token: one of its values stands before in the same CASE
abbrev pub twice_row : List Span → Option Span → Place → Row
twice_row us s p = row (stands_before us s) p LabelTwice

abbrev pub one_rows : Table → Option ℕ → List Span → Bound → List Row
one_rows t of us a = constant_rows t of a ++ twice_row us (span_between t a.kind a.kind) a.first ∷ []

-- 53 EmptyRange, at the first token of labels from one to another: the first is greater
abbrev pub range_rows : Table → Option ℕ → List Span → Bound → Bound → List Row
range_rows t of us a b = constant_rows t of a ++ constant_rows t of b ++ twice_row us (span_between t a.kind b.kind) a.first ∷ row (is_empty t a.kind b.kind) a.first EmptyRange ∷ []

-- ---- the values of a label that has no fault
unfoldable pub one_node : Table → Option ℕ → List Span → Option Bound → Option Span × List Row
one_node t (Some n) us (Some a) = node (one_rows t (Some n) us a) (span_between t a.kind a.kind)
one_node t _ us _ = (None, [])

unfoldable pub range_node : Table → Option ℕ → List Span → Option Bound → Option Bound → Option Span × List Row
range_node t (Some n) us (Some a) (Some b) = node (range_rows t (Some n) us a b) (span_between t a.kind b.kind)
range_node t _ us _ _ = (None, [])

abbrev pub label_rest : Env → Option ℕ → List Span → Option Bound → Option Expr → Option Span × List Row
label_rest e of us a None = one_node e.types of us a
label_rest e of us a (Some y) = after (asked_means e y) (λ b. range_node e.types of us a (bound_of b))

abbrev pub label_means : Env → Option ℕ → List Span → Range → Option Span × List Row
label_means e of us r = after (asked_means e r.low) (λ a. label_rest e of us (bound_of a) r.high)

-- ---- the labels of a record's CASE: the values of all so far, and whether none has a fault
abbrev pub no_labels : Labels
no_labels = record { seen = []; right = true }

abbrev pub with_label : Labels → Option Span → Labels
with_label ls s = record { seen = with_span ls.seen s; right = ls.right && is_some s }

abbrev pub label_step : Env → Option ℕ → Labels → Range → Labels × List Row
label_step e of ls r = after (label_means e of ls.seen r) (λ s. (with_label ls s, []))
