-- What stands between FOR and DO, where no test finds a fault: the variable, its first and its last value, and the step.
use Rattle.std.proofs.Common.{◌≡◌, Bool, true, false, not, ◌||◌, List, Option, Some, None, refl, sym, ap, subst, ◌∙◌, arith, true≢false}
use Rattle.std.specs.Prelude.{ℤ, pos, negsuc, ◌&&◌, int_lt, is_some}
use Rattle.std.proofs.lemmas.{Int.ints, Bool.{or_parts, Decides.nat_tests}}
use Rattle.lil_base.specs.{Laws.bounds, Words.{Integer, in_type, is_zero}, declared.fault.Place.Place}
use Rattle.lil_types.specs.{declared.table.Span.Span}
use Rattle.lil_declared.specs.declared.declared.Mode.{Mode, TheVariants.Plain}
use Rattle.lil_resolved.specs.declared.resolved.RPassing.TheVariants.{ByValue}
use Rattle.lil_resolved.specs.{Bases.own_base, Kinds.{Scope, base_of, is_ordinal}, Sound.{IsSoundVariable, IsSoundValue, IsSoundWhole, IsStep}, Views.{base_view, kind_view, named_view, expression_of, for_is}, declared.resolved.{RExpr.RExpr, RStmt.RStmt, RVariable.RVariable}}
use Rattle.lil_shapes.specs.{BaseLaws.kind_base, Bases.kind_at, Shaping.passing_of, ShapeSound.word_shaped}
use Rattle.lil_scope.specs.declared.{env.Env.Env, thing.{Kind.Kind, Variable.Variable}}
use Rattle.lil_scope.specs.declared.thing.Kind.TheVariants as k
use Rattle.lil_scope.specs.declared.thing.Thing.TheVariants as t
use Rattle.lil_kinds.specs.{Forms.span_of, Kinds.{suits, compatible, assignable, misses, is_constant}, declared.found.Found.Found}
use Rattle.lil_kinds.specs.Kinds as Kinds
use Rattle.lil_forms.specs.{Scopes.{Fits, has_shape, both_left, both_right}, Soundness.{soundness, variable_lies}, StatementSound.{StatementSound, AllSound, body_sound, made_sound}, Values.typed, Variables.seen}
use Rattle.lil_check_value.specs.declared.names.Looked.{Looked}
use Rattle.lil_check_value.specs.declared.names.Looked.TheVariants as l
use Rattle.lil_right_type.specs.{Found.{reach, IsFound, EnvTold}, Right.{Right, IsThere, is_so}, Sound.{value_sound, whole_sound}, Typed.{Yields, Suits, kept_if, mapped, suits_yields, stores_suits, assignable_stores}, Types.ordinal_is}
use Rattle.lil_check_stmt.specs.Counting.{variable_by, counted_variable, counting_named, bounds_of, is_step, counted_with, is_nothing, is_other, is_plain, is_unfit, counting_with, counter_of, counter_node, start_node, limit_node, step_of, is_other_constant, is_no_step, step_node, count_of, counted}
use Rattle.lil_right_value.specs.Names.{SeenTold, LookTold}
use Rattle.lil_right_sort.specs.Ranges.{node_right}
use Rattle.lil_right_stmt.specs.Nodes.{Taken}

-- ---- the step
steps : (z : ℤ) → ((not (int_lt z (pos 0)) && not (int_lt (pos 0) z)) || (int_lt z (negsuc 32767) || int_lt (pos 32767) z)) ≡ false → is_step z ≡ true
steps (pos n) h = grind (arith, nat_tests, ints)
steps (negsuc n) h = grind (arith, nat_tests, ints)

step_sound : (z : ℤ) → is_step z ≡ true → IsStep z
step_sound z h =
    let some = both_left (not (is_zero z)) (in_type Integer z) h in
    let b = bounds (negsuc 32767) z (pos 32767) (both_right (not (is_zero z)) (in_type Integer z) h) in
    record { some = λ e. true≢false (sym some ∙ ap (λ z. not (is_zero z)) e); lower = b.0; upper = b.1 }

abbrev pub Steps : ℤ → Type 0
Steps z = is_step z ≡ true

pub step_right : (a : Found) → Right (IsThere Steps) (step_node (Some a))
unfolding step_node is_constant
step_right a clear = by a.kind clear.0 clear.1.0 clear.1.1.0
  where
    by : (kind : Kind) → not (is_constant kind) ≡ false → is_other_constant kind ≡ false → is_no_step kind ≡ false → IsThere Steps (step_of kind)
    by (k.Whole z) constant other step = steps z step
    by _ constant other step = cc

-- ---- the whole head
module _ (e : Env) {ts : Scope} (fits : Fits e.types (seen e) e.withs (reach e) ts) (told : EnvTold e) where
  -- a variable whose values have numbers
  pub record IsCounter (c : Taken count_of) : Type 0 where
    pub variable : RVariable
    pub is : c.variable ≡ Some variable
    pub at : kind_at e.types c.sort ≡ Some variable.kind
    pub ordinal : is_ordinal (base_view variable.kind.base) ≡ true
    pub sound : IsSoundVariable ts (named_view variable.named) (kind_view variable.kind)

  abbrev BoundsSound : Taken counted_with → Type 0
  BoundsSound x = IsSoundVariable ts (named_view x.variable.named) (kind_view x.variable.kind) × IsSoundValue ts (expression_of x.from) (kind_view x.variable.kind) × IsSoundWhole ts (expression_of x.to) (base_of (kind_view x.variable.kind))

  abbrev pub IsCount : Taken counted → Type 0
  IsCount c = IsThere BoundsSound c.bounds × Steps c.by

  pub counted_right : (looping : Bool) (c : Taken counted) (ss : List RStmt) → IsCount c → AllSound ts looping ss → IsThere (StatementSound ts looping) (counted (Some c) (Some ss))
  counted_right looping c ss h all = by c.bounds h.0
    where
      by : (o : Option (Taken counted_with)) → IsThere BoundsSound o → IsThere (StatementSound ts looping) (counted_with o c.by (Some ss))
      by None h = h
      by (Some x) j = kept_if (StatementSound ts looping) (is_step c.by) _ h.1 (made_sound ts looping _ _ (for_is x.variable x.from x.to c.by ss) (j.0, j.1, j.2, step_sound c.by h.1, body_sound ts looping ss all))

  counts_with : (v : Variable) → SeenTold e (t.Variable v) → v.mode ≡ Plain → (o : Option Span) → span_of e.types v.sort ≡ o → is_some o ≡ true → IsCounter (record { variable = counting_with e v; sort = v.sort })
  unfolding counted_variable
  counts_with v h plain None is some = cc
  counts_with v h plain (Some u) is some =
      let x = h.1 in
      let o = ordinal_is e.types told.types v.sort u is in
      let at : kind_at e.types x.its.sort ≡ Some o.kind = ap (kind_at e.types) x.sort_is ∙ o.at in
      let lies = variable_lies fits x.named x.its ByValue x.there (ap passing_of (x.mode_is ∙ plain)) in
      record {
        variable = record { named = x.named; kind = o.kind };
        is = ap (counting_named e) x.is ∙ ap (counted_variable e.types x.named) x.there ∙ ap (variable_by x.named) at;
        at = o.at;
        ordinal = o.ordinal;
        sound = record { known = lies.3 ∙ ap Some (word_shaped e.types fits.shapes x.its.sort lies.0 (has_shape fits x.its.sort lies.0 lies.1) o.kind at); base = ap is_ordinal (own_base o.kind) ∙ o.ordinal };
      }

  pub counter_right : (p : Place) (x : Looked) → LookTold e told x → Right (IsThere IsCounter) (counter_node e p x)
  unfolding counter_node Kinds.is_ordinal
  counter_right p x h = node_right IsCounter (counter_node e p x).1 (counter_of e x) (λ clear. by x h clear.0 clear.1.0 clear.1.1.0)
    where
      plain : (m : Mode) → not (is_plain m) ≡ false → m ≡ Plain
      plain Plain h = refl
      plain _ h = cc

      by : (x : Looked) → LookTold e told x → is_nothing x ≡ false → is_other x ≡ false → is_unfit e.types x ≡ false → IsThere IsCounter (counter_of e x)
      by (l.Thing (t.Variable v)) h nothing other unfit = let parts = or_parts (not (is_plain v.mode)) _ unfit in counts_with v h (plain v.mode parts.0) (span_of e.types v.sort) refl (is_so (Kinds.is_ordinal e.types (k.Of v.sort)) parts.1)
      by (l.Thing t.Broken) h nothing other unfit = absurd h.0
      by _ h nothing other unfit = cc

  module _ (c : Taken count_of) (h : IsCounter c) where
    abbrev pub Starts : RExpr → Type 0
    Starts x = IsSoundValue ts (expression_of x) (kind_view h.variable.kind)

    abbrev pub Ends : RExpr → Type 0
    Ends x = IsSoundWhole ts (expression_of x) (base_of (kind_view h.variable.kind))

    pub count_right : (x y : RExpr) (z : ℤ) → Starts x → Ends y → Steps z → IsThere IsCount (count_of (Some c) (Some x) (Some y) (Some z))
    count_right x y z first last step = (subst (λ o. IsThere BoundsSound (bounds_of o (Some x) (Some y))) (sym h.is) (h.sound, first, last), step)

    module _ (a : Found) (j : IsFound (soundness fits) a) where
      pub start_right : (p : Place) → Right (IsThere Starts) (start_node e.types p (Some c) (Some a))
      unfolding start_node
      start_right p clear = mapped (Suits (soundness fits) h.variable.kind a.depth) Starts (typed e.types c.sort a) (value_sound fits a.depth j.few h.variable.kind)
          (stores_suits (soundness fits) h.variable.kind a.depth _ h.ordinal (assignable_stores (soundness fits) told.types c.sort h.variable.kind a h.at j (is_so (assignable e.types c.sort a.kind) clear.0) clear.1.0))

      pub limit_right : Right (IsThere Ends) (limit_node e.types (Some c) (Some a))
      unfolding limit_node compatible
      limit_right clear = mapped (Yields (soundness fits) h.variable.kind.base a.depth) Ends (typed e.types c.sort a) (λ x y. subst (IsSoundWhole ts (expression_of x)) (sym (own_base h.variable.kind)) (whole_sound fits a.depth j.few h.variable.kind.base x y))
          (suits_yields (soundness fits) told.types c.sort h.variable.kind.base a (kind_base e.types c.sort h.variable.kind h.at) j (is_so (suits e.types c.sort a.kind) clear.0))
