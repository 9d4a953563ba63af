-- Labels in which no test finds a fault: their values are there, and are numbers of a base.
use Rattle.std.proofs.Common.{ℕ, List, Option, Some, None}
use Rattle.lil_language.specs.declared.tree.{Expr.Expr, Range.Range}
use Rattle.lil_types.specs.declared.table.Span.{Span}
use Rattle.lil_report.specs.Told.{Row, after}
use Rattle.lil_scope.specs.declared.env.Env.{Env}
use Rattle.lil_kinds.specs.declared.found.Found.{Found}
use Rattle.lil_forms.specs.{Properties.nothing, Variables.seen}
use Rattle.lil_check_value.specs.Values.{asked_means}
use Rattle.lil_check_type.specs.{Bounds.bound_of, Labels.{label_rest, label_means}}
use Rattle.lil_right_type.specs.{Right.{Right, IsThere, after_right}, Found.{reach, EnvTold, IsKnown}}
use Rattle.lil_right_value.specs.Values.{asked_right}
use Rattle.lil_right_sort.specs.Ranges.{HasBase, Numbered, one_right, several_right}

module _ (e : Env) (told : EnvTold e) (n : ℕ) (of : HasBase e.types n) (us : List Span) where
  pub label_right : (r : Range) → Right (IsThere (Numbered of.0)) (label_means e (Some n) us r)
  label_right r = behind r.low (λ o. label_rest e (Some n) us (bound_of o) r.high) (λ a h. rest a h r.high)
    where
      behind : (x : Expr) (k : Option Found → Option Span × List Row) → ((a : Found) → IsKnown e a → Right (IsThere (Numbered of.0)) (k (Some a))) → Right (IsThere (Numbered of.0)) (after (asked_means e x) k)
      behind x k then = after_right (IsThere (IsKnown e)) (IsThere (Numbered of.0)) (asked_means e x) k (asked_right e (nothing e.types (seen e) e.withs (reach e)) told x) by
        where
          by : (o : Option Found) → IsThere (IsKnown e) o → Right (IsThere (Numbered of.0)) (k o)
          by None h = absurd h
          by (Some a) h = then a h

      rest : (a : Found) → IsKnown e a → (o : Option Expr) → Right (IsThere (Numbered of.0)) (label_rest e (Some n) us (bound_of (Some a)) o)
      rest a h None = one_right e.types told.types us n of _ h.kind
      rest a h (Some y) = behind y _ (λ c j. several_right e.types told.types us n of _ _ h.kind j.kind)
