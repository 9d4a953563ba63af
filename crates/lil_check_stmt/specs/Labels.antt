-- The labels of a CASE: those of all arms so far, and those of each arm.
use Rattle.std.specs.Prelude.{ℕ, List, [], Option, Some, None}
use Rattle.lil_base.specs.Lists.{joined}
use Rattle.lil_types.specs.{declared.table.Span.Span, Types.Table}
use Rattle.lil_language.specs.declared.tree.Range.{Range}
use Rattle.lil_resolved.specs.declared.resolved.RLabel.{RLabel}
use Rattle.lil_report.specs.Told.{Row, after, pure, walk}
use Rattle.lil_scope.specs.declared.{env.Env.Env, thing.Kind.Kind}
use Rattle.lil_check_type.specs.{Bounds.type_below, Labels.{with_span, label_means}}
use Rattle.lil_check_stmt.specs.declared.labels.Labels.{Labels}

-- the labels have to go together with the type below the selector
abbrev pub tag_of : Table → Option Kind → Option ℕ
tag_of t (Some selector) = type_below t selector
tag_of t None = None

abbrev pub as_label : Option Span → Option RLabel
as_label (Some s) = Some (record { low = s.low; high = s.high })
as_label None = None

-- the labels of all arms so far, and those of the arm at hand, where none has a fault
abbrev pub with_label : Labels → Option Span → Labels
with_label ls s = record { seen = with_span ls.seen s; own = joined ls.own (as_label s) }

abbrev pub label_step : Env → Option Kind → Labels → Range → Labels × List Row
label_step e selector ls r = after (label_means e (tag_of e.types selector) ls.seen r) (λ s. pure (with_label ls s))

-- the labels of an arm, behind those of the arms before it
abbrev pub labels_mean : Env → Option Kind → List Span → List Range → Labels × List Row
labels_mean e selector seen rs = walk (label_step e selector) (record { seen = seen; own = Some [] }) rs
