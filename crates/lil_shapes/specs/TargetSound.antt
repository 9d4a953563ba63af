-- What pointers point to lies there, by the shapes of all types.
use Rattle.std.proofs.Common.{◌≡◌, ℕ, ◌+◌, ◌<◌, ◌≤◌, Bool, true, false, List, length, get_or, slice_get, Option, None, Some, IfSome, if◌then◌else◌, inl, inr, refl, sym, ap, ◌∙◌, arith, true≢false}
use Rattle.std.specs.Prelude.{◌-◌, ◌||◌, nat_lt, is_some}
use Rattle.std.specs.Option.{option_map}
use Rattle.std.proofs.lemmas.{Bool.{cases_lt, Decides.nat_tests}, Option.{none-some, slice_get_within, slice_get-get_or, slice_get-map}}
use Rattle.lil_types.specs.{Types.{Table, entry, meant_by, facts_in, known}, declared.table.TypeEntry.TypeEntry}
use Rattle.lil_types.specs.Types as types
use Rattle.lil_resolved.specs.{Kinds.{Objects, Kind, OfPointer, Shape, Absent, Word, is_there, shape_by, shape_at}, Views.kind_view, declared.resolved.RKind.RKind}
use Rattle.lil_shapes.specs.{declared.pointers.Target.Target, Bases.{standard, base_by, base_at, kind_over, kind_at, composite_by, composite_at}, BaseLaws.if_true, Pointers.{pointed_by, pointed, number_or, targets_below, targets, lies_at, target_with, target_of, target_by, target_at}, Shaping.shapes}
use Rattle.lil_shapes.specs.ShapeSound.{HasShape, AllShaped, at_below, all_shaped, composite_shaped, word_shaped}

-- ---- numbers of a table
pub entered : (t : Table) (n : ℕ) (e : TypeEntry) → entry t n ≡ Some e → n < 16 + length t
entered t n e h = by (nat_lt n 16) refl h
  where
    by : (low : Bool) → nat_lt n 16 ≡ low → (if low then None else slice_get t (n - 16)) ≡ Some e → n < 16 + length t
    by true low h = absurd (none-some e h)
    by false low h = let at : n - 16 < length t = slice_get_within t (n - 16) e h in grind (arith, nat_tests)

no_facts : (n : ℕ) → 16 ≤ n → types.standard n ≡ None
no_facts n h = grind (arith, nat_tests)

no_base : (n : ℕ) → 16 ≤ n → standard n ≡ None
no_base n h = grind (arith, nat_tests)

-- a number of no type has no kind
module _ (t : Table) (n : ℕ) (high : 16 ≤ n) (none : entry t n ≡ None) where
  own : types.base t n ≡ n
  own = ap (λ m. types.base_by m (known t m)) (ap (meant_by n) none) ∙ ap (types.base_by n) (λ j. facts_in (no_facts n high j) (none j))

  no_kind : kind_at t n ≡ None
  no_kind = ap (λ b. kind_over b (entry t n)) (ap (base_at t) own ∙ ap (base_by n) none ∙ no_base n high)

  nothing_lies : lies_at t n ≡ false
  nothing_lies = λ j. is_some (no_kind j) || composite_by (none j)

lies_within : (t : Table) (n : ℕ) → lies_at t n ≡ true → n < 16 + length t
lies_within t n lies = by (entry t n) refl
  where
    by : (o : Option TypeEntry) → entry t n ≡ o → n < 16 + length t
    by (Some e) is = entered t n e is
    by None is = elim (cases_lt n 16) [
      | inl e ↦ omega arith
      | inr e ↦ absurd (true≢false (sym lies ∙ nothing_lies t n e is))
    ]

pointed_within : (t : Table) (n m : ℕ) → pointed t n ≡ Some m → n < 16 + length t
pointed_within t n m h = by (entry t n) refl h
  where
    by : (o : Option TypeEntry) → entry t n ≡ o → pointed_by o ≡ Some m → n < 16 + length t
    by None is h = absurd (none-some m h)
    by (Some e) is h = entered t n e is

-- ---- the list of all
target_below : (t : Table) (k n : ℕ) → n < k → slice_get (targets_below t k) n ≡ Some (number_or n (pointed t n))
unfolding targets_below
target_below t k n h = at_below (λ i. number_or i (pointed t i)) (targets_below t) refl (λ i. refl) k n h

-- ---- shapes
pub all_known : (t : Table) (ts : List Shape) → shapes t ≡ Some ts → AllShaped t (16 + length t) ts
all_known t ts h = all_shaped t (16 + length t) ts h

-- a pointer to objects of a type
pub record PointsTo (t : Table) (ts : List Shape) (s : Shape) (x : Target) : Type 0 where
  pub word : s ≡ Word (OfPointer (Objects x.pointer))
  pub sort : slice_get ts x.sort ≡ Some (shape_at (targets t ts) x.pointer)
  pub there : is_there (shape_at (targets t ts) x.pointer) ≡ true

module _ (t : Table) (ts : List Shape) (all : AllShaped t (16 + length t) ts) where
  lies_there : (n : ℕ) (s : Shape) → HasShape t ts n s → lies_at t n ≡ true → is_there s ≡ true
  lies_there n s h lies = by (kind_at t n) refl lies
    where
      by : (o : Option RKind) → kind_at t n ≡ o → (is_some o || composite_at t n) ≡ true → is_there s ≡ true
      by None is e = composite_shaped t ts n s h e
      by (Some k) is e = ap is_there (word_shaped t ts n s h k is)

  -- where something lies in a variable of a type, the type has a shape for it
  pub lies_shaped : (n : ℕ) → lies_at t n ≡ true → (x : Shape) × (slice_get ts n ≡ Some x) × (is_there x ≡ true)
  lies_shaped n lies =
      let known : slice_get ts n ≡ Some (get_or ts n Absent) = slice_get-get_or ts n Absent (omega (arith, all.0, lies_within t n lies)) in
      (get_or ts n Absent, known, lies_there n (get_or ts n Absent) (all.1 n (get_or ts n Absent) known) lies)

  target_is : (n m : ℕ) → pointed t n ≡ Some m → shape_at (targets t ts) n ≡ shape_at ts m
  target_is n m is =
      ap shape_by
      (slice_get-map (shape_at ts) (targets_below t (length ts)) n
      ∙ ap (option_map (shape_at ts)) (target_below t (length ts) n (omega (arith, all.0, pointed_within t n m is)))
      ∙ ap (λ o. Some (shape_at ts (number_or n o))) is)

  points_to : (n m : ℕ) (s : Shape) → pointed t n ≡ Some m → s ≡ Word (OfPointer (Objects n)) → lies_at t m ≡ true → PointsTo t ts s (record { pointer = n; sort = m })
  points_to n m s is word lies =
      let x = lies_shaped m lies in
      let same : shape_at (targets t ts) n ≡ x.0 = target_is n m is ∙ ap shape_by x.1 in
      record { word = word; sort = x.1 ∙ ap Some (sym same); there = ap is_there same ∙ x.2 }

  pub target_known : (k : Kind) (s : Shape) → s ≡ Word k → IfSome (target_of t k) (PointsTo t ts s)
  target_known (OfPointer (Objects n)) s word = by (pointed t n) refl
    where
      by : (o : Option ℕ) → pointed t n ≡ o → IfSome (target_with t n o) (PointsTo t ts s)
      by None is = tt
      by (Some m) is = if_true (PointsTo t ts s) (lies_at t m) (record { pointer = n; sort = m }) (points_to n m s is word)
  target_known _ s word = tt

  pub target_shaped : (n : ℕ) (s : Shape) → HasShape t ts n s → IfSome (target_at t n) (PointsTo t ts s)
  target_shaped n s h = by (kind_at t n) refl
    where
      by : (o : Option RKind) → kind_at t n ≡ o → IfSome (target_by t o) (PointsTo t ts s)
      by None is = tt
      by (Some k) is = target_known (kind_view k) s (word_shaped t ts n s h k is)
