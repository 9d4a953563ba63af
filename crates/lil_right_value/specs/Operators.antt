-- Operators over told operands: their values are told.
use Rattle.std.proofs.Common.{◌≡◌, ℕ, ◌+◌, ◌≤◌, Bool, true, false, ◌&&◌, ◌||◌, List, [], ◌∷◌, ◌++◌, Option, Some, None, if◌then◌else◌, refl, sym, ap, subst, ◌∙◌, arith, true≢false, inl, inr}
use Rattle.std.specs.Prelude.{◌==◌, max, nat_lt, is_some, is_none}
use Rattle.std.proofs.lemmas.{Option.{none-some, same_Some}, Bool.Decides.nat_tests}
use Rattle.lil_base.specs.declared.{fault.Place.Place, operator.{OneOp.OneOp, TwoOp.TwoOp}}
use Rattle.lil_base.specs.declared.operator.OneOp.TheVariants as sign
use Rattle.lil_base.specs.declared.operator.TwoOp.TheVariants as op
use Rattle.lil_types.specs.{Types.{Table, entry, base, integer, cardinal, boolean, char, address, is_whole, same}, Folding.fits, declared.table.{Const.Const, Span.Span, TypeEntry.TypeEntry, TypeForm.{TypeForm, TheVariants.{Enumeration, Subrange, Array, Record, SetOf, Pointer, Procedure, Opaque}}}}
use Rattle.lil_types.specs.Types as types
use Rattle.lil_declared.specs.declared.declared.RVar.{RVar}
use Rattle.lil_scope.specs.declared.thing.Kind.{Kind}
use Rattle.lil_scope.specs.declared.thing.Kind.TheVariants as k
use Rattle.lil_kinds.specs.{Forms.{span_of, set_base, has_nil}, Kinds.{sort_of, is_whole_constant, is_ordinal, suits, compatible_by, compatible}}
use Rattle.lil_kinds.specs.{Operators.{constant, gives_where, one_sort, one_value, one_by, one, either_sort, common, are_wholes, are_truths, are_ordinals, are_references, are_sets_by, are_sets, are_comparable, is_of, is_element_by, is_element, number_or_set, two_values, two_by, is_text, two, operand_type}, declared.found.Applied.Applied}
use Rattle.lil_kinds.specs.declared.found.{Applied.TheVariants.{Refused, Outside, Gives}, Found.Found}
use Rattle.lil_resolved.specs.Kinds as kinds
use Rattle.lil_resolved.specs.{Resolved.{Expression, kind_of}, Sizes.depth, Views.{base_view, expression_of, two_of, one_is, chain_is}, declared.resolved.{RBase.RBase, RExpr.RExpr, RNamed.RNamed}}
use Rattle.lil_resolved.specs.Sound as sound
use Rattle.lil_resolved.specs.declared.resolved.RBase.TheVariants as b
use Rattle.lil_resolved.specs.declared.resolved.RExpr.TheVariants as e
use Rattle.lil_shapes.specs.{BaseLaws.{same_sort, base_words}, Bases.{base_at, composite_at}, Operators.{takes_two, result_base, right_base, right_is, is_a_truth}, Pointers.lies_at}
use Rattle.lil_forms.specs.{Scopes.{both_left, both_right}, Parts.chained_more, Properties.{Property, Reach}, Values.{typed_by, typed, value_form, one_of, operation, operated}, declared.operators.Built.Built}
use Rattle.lil_forms.specs.Values as forms
use Rattle.lil_operators.specs.{declared.operations.{Chained.Chained, SoFar.{SoFar, TheVariants.{First, Behind}}}, Operations.{greater, limited, raised, one_found, one_applied, one_node, begun, or_cardinal, left_type, before, behind, two_chained, two_given, two_value, two_applied, two_node, whole_form, chain_found}}
use Rattle.lil_operators.specs.Operations as Operations
use Rattle.lil_right_type.specs.{Folds.{GivenTold, AppliedTold, constant_told, no_text, folded_two_told, folded_one_told, applied_told}, Found.{KindTold, IsValue, GoesWith, IsFound}, Parts.{IsSet, base_itself, has_kind, has_nil_is, set_is}, Right.{Right, IsThere}, Typed.{Yields, either, below_two, kind_yields, suits_yields}}
use Rattle.lil_right_type.specs.Types.{IsTold, FormTold, IsOrdinal, entry_base, own_base, ordinal_is, meant_is}

-- what is compared by its number is compared
is_compared : (g : RBase) → kinds.is_base (base_view g) ≡ true → kinds.is_ordinal (base_view g) ≡ true → kinds.is_compared (base_view g) ≡ true
is_compared (b.Procedure n) base ordinal = ordinal
is_compared _ base ordinal = base

pub equal : (n : ℕ) → (n == n) ≡ true
equal n = grind (arith, nat_tests)

some_of : {A : Type 0} (o : Option A) → is_some o ≡ true → (x : A) × (o ≡ Some x)
some_of None h = absurd (true≢false (sym h))
some_of (Some x) h = (x, refl)

and_none : (c d : Bool) → d ≡ false → (c && d) ≡ false
and_none true d h = h
and_none false d h = refl

-- ---- depths
pub record IsRaised (a by' c d : ℕ) : Type 0 where
  pub left : a ≤ d
  pub right : by' + c ≤ d
  pub few : d ≤ 12

-- a depth that isn't too great is that of both parts
pub raised_is : (a by' c : ℕ) → is_none (raised a by' c) ≡ false → (d : ℕ) × (raised a by' c ≡ Some d) × IsRaised a by' c d
raised_is a by' c h = by (nat_lt a (by' + c)) (nat_lt 12 (greater a (by' + c))) refl refl h
  where
    by : (x y : Bool) → nat_lt a (by' + c) ≡ x → nat_lt 12 (greater a (by' + c)) ≡ y → is_none (if y then None else Some (greater a (by' + c))) ≡ false → (d : ℕ) × ((if y then None else Some (greater a (by' + c))) ≡ Some d) × IsRaised a by' c d
    by x true is over h = absurd (true≢false h)
    by true false is over h = let same : greater a (by' + c) ≡ by' + c = ap (λ x. if x then by' + c else a) is in (greater a (by' + c), refl, record { left = grind (arith, nat_tests, same, is); right = grind (arith, nat_tests, same); few = grind (arith, nat_tests, over) })
    by false false is over h = let same : greater a (by' + c) ≡ a = ap (λ x. if x then by' + c else a) is in (greater a (by' + c), refl, record { left = grind (arith, nat_tests, same); right = grind (arith, nat_tests, same, is); few = grind (arith, nat_tests, over) })

two_depth : (o : TwoOp) (a c : Expression) → depth (two_of o a c) ≡ max (depth a) (1 + depth c)
two_depth op.And a c = refl
two_depth _ a c = refl

two_kind : (o : TwoOp) (g : RBase) (a c : Expression) → takes_two o (base_view g) ≡ true → kind_of a ≡ base_view g → kind_of (two_of o a c) ≡ base_view (result_base o g)
two_kind op.And g a c h is = sym (is_a_truth (base_view g) h)
two_kind op.Or g a c h is = sym (is_a_truth (base_view g) h)
two_kind op.Equal g a c h is = refl
two_kind op.Unequal g a c h is = refl
two_kind op.Less g a c h is = refl
two_kind op.AtMost g a c h is = refl
two_kind op.Greater g a c h is = refl
two_kind op.AtLeast g a c h is = refl
two_kind op.In g a c h is = refl
two_kind op.Plus g a c h is = is
two_kind op.Minus g a c h is = is
two_kind op.Times g a c h is = is
two_kind op.Slash g a c h is = is
two_kind op.Div g a c h is = is
two_kind op.Mod g a c h is = is

module _ (t : Table) (told : IsTold t) where
  -- ---- types below types
  pub lies_so : (s : ℕ) (g : RBase) → base_at t (base t s) ≡ Some g → lies_at t s ≡ true
  lies_so s g is = ap (λ o. is_some o || composite_at t s) (has_kind t told s g is).1

  pub base_base : (s : ℕ) → base t (base t s) ≡ base t s
  base_base s = by (entry t s) refl
    where
      own : (e : TypeEntry) → entry t s ≡ Some e → e.facts.base ≡ s → base t (base t s) ≡ base t s
      own e is same = ap (base t) (entry_base t told s e is ∙ same)

      in_form : (e : TypeEntry) (form : TypeForm) → entry t s ≡ Some e → FormTold t s e.facts form → base t (base t s) ≡ base t s
      in_form e (Enumeration xs) is f = own e is (ap (λ (f : _). f.base) f.0)
      in_form e (Subrange m u) is f = ap (base t) (entry_base t told s e is) ∙ (base_itself t told e.facts.base f.1.base f.1.is).0 ∙ sym (entry_base t told s e is)
      in_form e (Array i m) is f = own e is f.0
      in_form e (Record xs) is f = own e is f.0
      in_form e (SetOf m) is f = own e is f.0
      in_form e (Pointer m) is f = own e is f.0
      in_form e (Procedure ps r) is f = own e is f.0
      in_form e (Opaque o) is f = absurd f

      by : (o : Option TypeEntry) → entry t s ≡ o → base t (base t s) ≡ base t s
      by None is = ap (base t) (own_base t told s is)
      by (Some e) is = in_form e e.form is (told s e is)

  pub suits_below : (s : ℕ) (a : Kind) → suits t s a ≡ true → suits t (base t s) a ≡ true
  unfolding suits
  suits_below s (k.Whole z) h = ap (λ n. fits n z) (base_base s) ∙ h
  suits_below s (k.Scalar r w) h = ap (λ n. n == base t r) (base_base s) ∙ h
  suits_below s (k.Chars c) h = ap (λ n. c.length == 1 && n == char) (base_base s) ∙ h
  suits_below s k.Nil h = elim (has_nil_is t told s h) [
    | inl e ↦ ap (has_nil t) e.1.own ∙ h
    | inr e ↦ ap (has_nil t) (ap (base t) e ∙ own_base t told address refl ∙ sym e) ∙ h
  ]
  suits_below s (k.Of r) h = ap (λ n. n == base t r) (base_base s) ∙ h
  suits_below s (k.Open r) h = h
  suits_below s (k.Routine r) h = h

  -- an operand is compatible with its own type
  pub own_suits : (a : Kind) (s : ℕ) → sort_of a ≡ Some s → suits t s a ≡ true
  unfolding suits
  own_suits (k.Whole z) s is = absurd (none-some s is)
  own_suits (k.Scalar r w) s is = ap (λ n. base t n == base t r) (sym (same_Some r s is)) ∙ equal (base t r)
  own_suits (k.Chars c) s is = absurd (none-some s is)
  own_suits k.Nil s is = absurd (none-some s is)
  own_suits (k.Of r) s is = ap (λ n. base t n == base t r) (sym (same_Some r s is)) ∙ equal (base t r)
  own_suits (k.Open r) s is = absurd (none-some s is)
  own_suits (k.Routine r) s is = absurd (none-some s is)

  ordinal_sort : (a : Kind) (s : ℕ) → sort_of a ≡ Some s → is_ordinal t a ≡ true → (u : Span) × IsOrdinal t s u
  unfolding is_ordinal
  ordinal_sort (k.Scalar r w) s is h = let u = some_of (span_of t r) h in subst (λ s. (u : Span) × IsOrdinal t s u) (same_Some r s is) (u.0, ordinal_is t told r u.0 u.1)
  ordinal_sort (k.Of r) s is h = let u = some_of (span_of t r) h in subst (λ s. (u : Span) × IsOrdinal t s u) (same_Some r s is) (u.0, ordinal_is t told r u.0 u.1)
  ordinal_sort (k.Whole z) s is h = absurd (none-some s is)
  ordinal_sort (k.Chars c) s is h = absurd (none-some s is)
  ordinal_sort k.Nil s is h = absurd (none-some s is)
  ordinal_sort (k.Open r) s is h = absurd (none-some s is)
  ordinal_sort (k.Routine r) s is h = absurd (none-some s is)

  pub whole_at : (n : ℕ) → nat_lt n 2 ≡ true → (g : RBase) × (base_at t n ≡ Some g) × (sound.is_whole (base_view g) ≡ true)
  whole_at n low = elim (below_two n low) [
    | inl e ↦ (b.Integer, ap (base_at t) e, refl)
    | inr e ↦ (b.Cardinal, ap (base_at t) e, refl)
  ]

  pub below_standard : (s : ℕ) (n : ℕ) → entry t n ≡ None → (base t s == n) ≡ true → base_at t (base t s) ≡ base_at t n
  below_standard s n none is = ap (base_at t) (same_sort (base t s) n is)

  truth_at : base_at t (base t boolean) ≡ Some b.Truth
  truth_at = ap (base_at t) (own_base t told boolean refl)

  -- ---- a sign, or NOT
  pub record OneTold (o : OneOp) (a : Kind) (s : ℕ) : Type 0 where
    pub base : RBase
    pub is : base_at t (types.base t s) ≡ Some base
    pub suits : suits t s a ≡ true
    pub takes : sound.takes_one o (base_view base) ≡ true

  where_told : (Q : ℕ → Type 0) (c : Bool) (s : ℕ) → (c ≡ true → Q s) → AppliedTold t Q (gives_where c s)
  where_told Q true s h = h refl
  where_told Q false s h = tt

  one_sort_told : (o : OneOp) (a : Kind) (s : ℕ) → sort_of a ≡ Some s → AppliedTold t (OneTold o a) (one_sort t o s)
  one_sort_told sign.Plus a s of = where_told _ (is_whole t s) (base t s) (λ low.
      let g = whole_at (base t s) low in
      record { base = g.0; is = ap (base_at t) (base_base s) ∙ g.1; suits = suits_below s a (own_suits a s of); takes = g.2 })
  one_sort_told sign.Minus a s of = where_told _ (base t s == integer) integer (λ is.
      record { base = b.Integer; is = ap (base_at t) (own_base t told integer refl); suits = subst (λ n. suits t n a ≡ true) (same_sort (base t s) integer is) (suits_below s a (own_suits a s of)); takes = refl })
  one_sort_told sign.Not a s of = where_told _ (base t s == boolean) boolean (λ is.
      record { base = b.Truth; is = truth_at; suits = subst (λ n. suits t n a ≡ true) (same_sort (base t s) boolean is) (suits_below s a (own_suits a s of)); takes = refl })

  one_told : (o : OneOp) (a : Kind) → KindTold t a → AppliedTold t (OneTold o a) (one t o a)
  unfolding one
  one_told o a h = by (constant t a) refl (sort_of a) refl
    where
      by : (x : Option Const) → constant t a ≡ x → (y : Option ℕ) → sort_of a ≡ y → AppliedTold t (OneTold o a) (one_by t o a x)
      by (Some c) is y of = applied_told t told (OneTold o a) _ (folded_one_told t told o c (constant_told t told a h c is))
      by None is None of = subst (λ y. AppliedTold t (OneTold o a) (one_value t o y)) (sym of) tt
      by None is (Some s) of = subst (λ y. AppliedTold t (OneTold o a) (one_value t o y)) (sym of) (one_sort_told o a s of)

  -- ---- two operands: each is of a base that the operator takes
  pub record TwoTold (o : TwoOp) (a c : Kind) (s : ℕ) : Type 0 where
    pub left : RBase
    pub left_is : base_at t (base t (left_type t o a c)) ≡ Some left
    pub left_suits : suits t (left_type t o a c) a ≡ true
    pub right_is : base_at t (base t (operand_type t o a c)) ≡ Some (right_base o left)
    pub right_suits : suits t (operand_type t o a c) c ≡ true
    pub takes : takes_two o (base_view left) ≡ true
    pub result : base_at t (base t s) ≡ Some (result_base o left)

  -- two operands of one type
  record Alike (a c : Kind) : Type 0 where
    base : RBase
    is : base_at t (types.base t (common a c)) ≡ Some base
    left : suits t (common a c) a ≡ true
    right : suits t (common a c) c ≡ true

  plain_two : (o : TwoOp) (a c : Kind) (s : ℕ) (h : Alike a c) → left_type t o a c ≡ base t (common a c) → operand_type t o a c ≡ base t (common a c) → right_base o h.base ≡ h.base → takes_two o (base_view h.base) ≡ true → base_at t (base t s) ≡ Some (result_base o h.base) → TwoTold o a c s
  plain_two o a c s h l r same takes result = record {
    left = h.base;
    left_is = ap (λ n. base_at t (base t n)) l ∙ ap (base_at t) (base_base (common a c)) ∙ h.is;
    left_suits = subst (λ n. suits t n a ≡ true) (sym l) (suits_below (common a c) a h.left);
    right_is = ap (λ n. base_at t (base t n)) r ∙ ap (base_at t) (base_base (common a c)) ∙ h.is ∙ ap Some (sym same);
    right_suits = subst (λ n. suits t n c ≡ true) (sym r) (suits_below (common a c) c h.right);
    takes = takes;
    result = result;
  }

  both_suit : (a c : Kind) → (is_whole_constant a && is_whole_constant c) ≡ false → compatible t a c ≡ true → (suits t (common a c) a ≡ true) × (suits t (common a c) c ≡ true)
  unfolding compatible
  both_suit a c no_wholes h = by (sort_of a) refl (sort_of c) refl h
    where
      Suit : Option ℕ → Option ℕ → Type 0
      Suit x y = (suits t (either_sort x y) a ≡ true) × (suits t (either_sort x y) c ≡ true)

      by : (x : Option ℕ) → sort_of a ≡ x → (y : Option ℕ) → sort_of c ≡ y → compatible_by t x y a c ≡ true → Suit x y
      by (Some s) is y of h = (own_suits a s is, h)
      by None is (Some r) of h = (h, own_suits c r of)
      by None is None of h = absurd (true≢false (sym h ∙ no_wholes))

  abbrev are_alike : (a c : Kind) (g : RBase) → (is_whole_constant a && is_whole_constant c) ≡ false → compatible t a c ≡ true → base_at t (base t (common a c)) ≡ Some g → Alike a c
  are_alike a c g no_wholes h is = let s = both_suit a c no_wholes h in record { base = g; is = is; left = s.0; right = s.1 }

  -- the operators whose operands are of one type
  abbrev Plain : TwoOp → Type 0
  Plain o = (a c : Kind) → (left_type t o a c ≡ base t (common a c)) × (operand_type t o a c ≡ base t (common a c)) × ((g : RBase) → right_base o g ≡ g)

  module _ (o : TwoOp) (plain : Plain o) (a c : Kind) (no_wholes : (is_whole_constant a && is_whole_constant c) ≡ false) where
    alike_told : (s : ℕ) (h : Alike a c) → takes_two o (base_view h.base) ≡ true → base_at t (base t s) ≡ Some (result_base o h.base) → TwoTold o a c s
    alike_told s h takes result = let p = plain a c in plain_two o a c s h p.0 p.1 (p.2 h.base) takes result

    wholes_told : ((g : RBase) → sound.is_whole (base_view g) ≡ true → (takes_two o (base_view g) ≡ true) × (result_base o g ≡ g)) → are_wholes t a c ≡ true → TwoTold o a c (base t (common a c))
    unfolding are_wholes
    wholes_told takes h =
        let g = whole_at (base t (common a c)) (both_right (compatible t a c) _ h) in
        let w = takes g.0 g.2 in
        alike_told (base t (common a c)) (are_alike a c g.0 no_wholes (both_left (compatible t a c) _ h) g.1) w.0 (ap (base_at t) (base_base (common a c)) ∙ g.1 ∙ ap Some (sym w.1))

    truths_told : takes_two o kinds.OfTruth ≡ true → result_base o b.Truth ≡ b.Truth → are_truths t a c ≡ true → TwoTold o a c boolean
    unfolding are_truths
    truths_told takes result h =
        alike_told boolean (are_alike a c b.Truth no_wholes (both_left (compatible t a c) _ h) (ap (base_at t) (same_sort (base t (common a c)) boolean (both_right (compatible t a c) _ h)))) takes (truth_at ∙ ap Some (sym result))

    ordinals_told : ((g : RBase) → kinds.is_base (base_view g) ≡ true → kinds.is_ordinal (base_view g) ≡ true → (takes_two o (base_view g) ≡ true) × (result_base o g ≡ b.Truth)) → are_ordinals t a c ≡ true → TwoTold o a c boolean
    unfolding are_ordinals compatible
    ordinals_told takes h =
        let suits = both_left (compatible t a c) _ h in
        let ordinals = both_right (compatible t a c) _ h in
        by suits (sort_of a) refl (sort_of c) refl (both_left (is_ordinal t a) _ ordinals) (both_right (is_ordinal t a) _ ordinals)
      where
        of : compatible t a c ≡ true → (s : ℕ) → common a c ≡ s → (u : Span) × IsOrdinal t s u → TwoTold o a c boolean
        of suits s same u =
            let is : base_at t (base t (common a c)) ≡ Some u.1.kind.base = ap (λ s. base_at t (base t s)) same ∙ u.1.base in
            let w = takes u.1.kind.base (base_words t (base t s) u.1.kind.base u.1.base) u.1.ordinal in
            alike_told boolean (are_alike a c u.1.kind.base no_wholes suits is) w.0 (truth_at ∙ ap Some (sym w.1))

        by : compatible t a c ≡ true → (x : Option ℕ) → sort_of a ≡ x → (y : Option ℕ) → sort_of c ≡ y → is_ordinal t a ≡ true → is_ordinal t c ≡ true → TwoTold o a c boolean
        by suits (Some s) is y to i j = of suits s (ap (λ x. either_sort x (sort_of c)) is) (ordinal_sort a s is i)
        by suits None is (Some r) to i j = of suits r (λ l. either_sort (is l) (to l)) (ordinal_sort c r to j)
        by suits None is None to i j = absurd (true≢false (sym (none_suit suits is to) ∙ no_wholes))
          where
            none_suit : compatible t a c ≡ true → sort_of a ≡ None → sort_of c ≡ None → (is_whole_constant a && is_whole_constant c) ≡ true
            none_suit suits is to = sym (λ l. compatible_by t (is l) (to l) a c) ∙ suits

    references_told : ((g : RBase) → kinds.is_compared (base_view g) ≡ true → (takes_two o (base_view g) ≡ true) × (result_base o g ≡ b.Truth)) → are_references t a c ≡ true → TwoTold o a c boolean
    unfolding are_references
    references_told takes h = elim (has_nil_is t told (common a c) (both_right (compatible t a c) _ h)) [
      | inl e ↦ of (b.Pointer (common a c)) refl (ap (base_at t) e.1.own ∙ e.1.base)
      | inr e ↦ of b.Address refl (ap (λ s. base_at t (base t s)) e ∙ ap (base_at t) (own_base t told address refl))
    ]
      where
        of : (g : RBase) → kinds.is_compared (base_view g) ≡ true → base_at t (base t (common a c)) ≡ Some g → TwoTold o a c boolean
        of g compared is =
            let w = takes g compared in
            alike_told boolean (are_alike a c g no_wholes (both_left (compatible t a c) _ h) is) w.0 (truth_at ∙ ap Some (sym w.1))

    are_of_sets : are_sets t a c ≡ true → (r m : ℕ) × (common a c ≡ r) × IsSet t r m × (suits t r a ≡ true) × (suits t r c ≡ true)
    unfolding are_sets
    are_of_sets h = by (sort_of a) refl (sort_of c) refl h
      where
        Sets : Type 0
        Sets = (r m : ℕ) × (common a c ≡ r) × IsSet t r m × (suits t r a ≡ true) × (suits t r c ≡ true)

        by : (x : Option ℕ) → sort_of a ≡ x → (y : Option ℕ) → sort_of c ≡ y → are_sets_by t x y ≡ true → Sets
        by None is y to h = absurd (true≢false (sym h))
        by (Some r) is None to h = absurd (true≢false (sym h))
        by (Some r) is (Some s) to h =
            let m = some_of (set_base t r) (both_left (is_some (set_base t r)) _ h) in
            let one : r ≡ s = sym (meant_is t told r) ∙ same_sort (types.meant t r) (types.meant t s) (both_right (is_some (set_base t r)) _ h) ∙ meant_is t told s in
            (r, m.0, ap (λ x. either_sort x (sort_of c)) is, set_is t told r m.0 m.1, own_suits a r is, subst (λ s. suits t s c ≡ true) (sym one) (own_suits c s to))

    sets_told : (s : ℕ) → takes_two o kinds.OfSet ≡ true → ((r m : ℕ) → common a c ≡ r → IsSet t r m → base_at t (base t s) ≡ Some (result_base o b.Set)) → are_sets t a c ≡ true → TwoTold o a c s
    sets_told s takes result h =
        let g = are_of_sets h in
        let is : base_at t (base t (common a c)) ≡ Some b.Set = ap (λ s. base_at t (base t s)) g.2 ∙ ap (base_at t) g.3.own ∙ g.3.set in
        alike_told s (record { base = b.Set; is = is; left = subst (λ s. suits t s a ≡ true) (sym g.2) g.4; right = subst (λ s. suits t s c ≡ true) (sym g.2) g.5 }) takes (result g.0 g.1 g.2 g.3)

    -- a set as result
    set_result : (g : RBase) → g ≡ b.Set → (r m : ℕ) → common a c ≡ r → IsSet t r m → base_at t (base t (common a c)) ≡ Some g
    set_result g same r m is h = ap (λ s. base_at t (base t s)) is ∙ ap (base_at t) h.own ∙ h.set ∙ ap Some (sym same)

    abbrev Told : Applied → Type 0
    Told = AppliedTold t (TwoTold o a c)

    number_or_set_told : ((g : RBase) → sound.is_whole (base_view g) ≡ true → (takes_two o (base_view g) ≡ true) × (result_base o g ≡ g)) → takes_two o kinds.OfSet ≡ true → result_base o b.Set ≡ b.Set → Told (number_or_set t a c)
    number_or_set_told takes set result = by (are_wholes t a c) refl
      where
        by : (d : Bool) → are_wholes t a c ≡ d → Told (if d then Gives (k.Of (base t (common a c))) else gives_where (are_sets t a c) (common a c))
        by true is = wholes_told takes is
        by false is = where_told _ (are_sets t a c) (common a c) (sets_told (common a c) set (set_result (result_base o b.Set) result))

    compared_told : ((g : RBase) → kinds.is_compared (base_view g) ≡ true → (takes_two o (base_view g) ≡ true) × (result_base o g ≡ b.Truth)) → takes_two o kinds.OfSet ≡ true → Told (gives_where (are_comparable t a c) boolean)
    unfolding are_comparable
    compared_told takes set = where_told _ (are_comparable t a c) boolean (λ h. elim (either (are_ordinals t a c) _ h) [
      | inl e ↦ ordinals_told (λ g base ordinal. takes g (is_compared g base ordinal)) e
      | inr e ↦ elim (either (are_references t a c) (are_sets t a c) e) [
        | inl e ↦ references_told takes e
        | inr e ↦ sets_told boolean set (λ r m is h. truth_at ∙ ap Some (sym (takes b.Set refl).1)) e
      ]
    ])

    ordered_told : ((g : RBase) → kinds.is_base (base_view g) ≡ true → kinds.is_ordinal (base_view g) ≡ true → (takes_two o (base_view g) ≡ true) × (result_base o g ≡ b.Truth)) → Told (gives_where (are_ordinals t a c) boolean)
    ordered_told takes = where_told _ (are_ordinals t a c) boolean (ordinals_told takes)

    within_told : ((g : RBase) → kinds.is_base (base_view g) ≡ true → kinds.is_ordinal (base_view g) ≡ true → (takes_two o (base_view g) ≡ true) × (result_base o g ≡ b.Truth)) → takes_two o kinds.OfSet ≡ true → result_base o b.Set ≡ b.Truth → Told (gives_where (are_ordinals t a c || are_sets t a c) boolean)
    within_told takes set result = where_told _ _ boolean (λ h. elim (either (are_ordinals t a c) _ h) [
      | inl e ↦ ordinals_told takes e
      | inr e ↦ sets_told boolean set (λ r m is h. truth_at ∙ ap Some (sym result)) e
    ])

  -- ---- IN
  element_told : (a c : Kind) → is_element t a c ≡ true → TwoTold op.In a c boolean
  unfolding is_element operand_type compatible suits
  element_told a c h = by (sort_of c) refl h
    where
      set_at : (s : ℕ) → sort_of c ≡ Some s → (o : Option ℕ) → set_base t s ≡ o → is_of t a o ≡ true → TwoTold op.In a c boolean
      set_at s to None found h = absurd (true≢false (sym h))
      set_at s to (Some m) found h =
          let g : IsSet t s m = set_is t told s m found in
          let left : left_type t op.In a c ≡ m = ap (λ y. or_cardinal (set_base t (either_sort y None))) to ∙ ap or_cardinal found in
          let right : operand_type t op.In a c ≡ s = ap (λ y. either_sort y None) to in
          record {
            left = g.members.kind.base;
            left_is = ap (λ n. base_at t (base t n)) left ∙ g.base;
            left_suits = subst (λ n. suits t n a ≡ true) (sym left) (goes m h);
            right_is = ap (λ n. base_at t (base t n)) right ∙ ap (base_at t) g.own ∙ g.set;
            right_suits = subst (λ n. suits t n c ≡ true) (sym right) (own_suits c s to);
            takes = g.ordinal;
            result = truth_at;
          }
        where
          goes : (m : ℕ) → compatible t a (k.Of m) ≡ true → suits t m a ≡ true
          goes m h = at (sort_of a) refl h
            where
              at : (x : Option ℕ) → sort_of a ≡ x → compatible_by t x (Some m) a (k.Of m) ≡ true → suits t m a ≡ true
              at None is h = h
              at (Some r) is h = of_sort a r is (sym (same_sort (base t r) (base t m) (based r h)))
                where
                  based : (r : ℕ) → suits t r (k.Of m) ≡ true → (base t r == base t m) ≡ true
                  based r h = h

                  of_sort : (a : Kind) (r : ℕ) → sort_of a ≡ Some r → base t m ≡ base t r → suits t m a ≡ true
                  of_sort (k.Scalar q w) r is same = ap (λ n. n == base t q) (same ∙ ap (base t) (sym (same_Some q r is))) ∙ equal (base t q)
                  of_sort (k.Of q) r is same = ap (λ n. n == base t q) (same ∙ ap (base t) (sym (same_Some q r is))) ∙ equal (base t q)
                  of_sort (k.Whole z) r is same = absurd (none-some r is)
                  of_sort (k.Chars d) r is same = absurd (none-some r is)
                  of_sort k.Nil r is same = absurd (none-some r is)
                  of_sort (k.Open q) r is same = absurd (none-some r is)
                  of_sort (k.Routine q) r is same = absurd (none-some r is)

      by : (y : Option ℕ) → sort_of c ≡ y → is_element_by t a y ≡ true → TwoTold op.In a c boolean
      by None to h = absurd (true≢false (sym h))
      by (Some s) to h = set_at s to (set_base t s) refl h

  -- ---- each operator
  ordinal_base : (g : RBase) → kinds.is_base (base_view g) ≡ true → kinds.is_ordinal (base_view g) ≡ true → (kinds.is_ordinal (base_view g) ≡ true) × (b.Truth ≡ b.Truth)
  ordinal_base g is h = (h, refl)

  or_left : (c d : Bool) → c ≡ true → (c || d) ≡ true
  or_left true d h = refl
  or_left false d h = cc

  numbers : (g : RBase) → sound.is_whole (base_view g) ≡ true → ((sound.is_whole (base_view g) || sound.is_set (base_view g)) ≡ true) × (g ≡ g)
  numbers g h = (or_left _ _ h, refl)

  ordered_or_set : (g : RBase) → kinds.is_base (base_view g) ≡ true → kinds.is_ordinal (base_view g) ≡ true → ((kinds.is_ordinal (base_view g) || sound.is_set (base_view g)) ≡ true) × (b.Truth ≡ b.Truth)
  ordered_or_set g is h = (or_left _ _ h, refl)

  two_values_told : (o : TwoOp) (a c : Kind) → (is_whole_constant a && is_whole_constant c) ≡ false → AppliedTold t (TwoTold o a c) (two_values t o a c)
  unfolding two_values operand_type
  two_values_told op.Plus a c n = number_or_set_told op.Plus (λ a c. (refl, refl, λ g. refl)) a c n numbers refl refl
  two_values_told op.Minus a c n = number_or_set_told op.Minus (λ a c. (refl, refl, λ g. refl)) a c n numbers refl refl
  two_values_told op.Times a c n = number_or_set_told op.Times (λ a c. (refl, refl, λ g. refl)) a c n numbers refl refl
  two_values_told op.Slash a c n = where_told _ (are_sets t a c) (common a c) (sets_told op.Slash (λ a c. (refl, refl, λ g. refl)) a c n (common a c) refl (set_result op.Slash (λ a c. (refl, refl, λ g. refl)) a c n b.Set refl))
  two_values_told op.Div a c n = where_told _ (are_wholes t a c) (base t (common a c)) (wholes_told op.Div (λ a c. (refl, refl, λ g. refl)) a c n (λ g h. (h, refl)))
  two_values_told op.Mod a c n = where_told _ (are_wholes t a c) (base t (common a c)) (wholes_told op.Mod (λ a c. (refl, refl, λ g. refl)) a c n (λ g h. (h, refl)))
  two_values_told op.And a c n = where_told _ (are_truths t a c) boolean (truths_told op.And (λ a c. (refl, refl, λ g. refl)) a c n refl refl)
  two_values_told op.Or a c n = where_told _ (are_truths t a c) boolean (truths_told op.Or (λ a c. (refl, refl, λ g. refl)) a c n refl refl)
  two_values_told op.Equal a c n = compared_told op.Equal (λ a c. (refl, refl, λ g. refl)) a c n (λ g h. (h, refl)) refl
  two_values_told op.Unequal a c n = compared_told op.Unequal (λ a c. (refl, refl, λ g. refl)) a c n (λ g h. (h, refl)) refl
  two_values_told op.Less a c n = ordered_told op.Less (λ a c. (refl, refl, λ g. refl)) a c n ordinal_base
  two_values_told op.Greater a c n = ordered_told op.Greater (λ a c. (refl, refl, λ g. refl)) a c n ordinal_base
  two_values_told op.AtMost a c n = within_told op.AtMost (λ a c. (refl, refl, λ g. refl)) a c n ordered_or_set refl refl
  two_values_told op.AtLeast a c n = within_told op.AtLeast (λ a c. (refl, refl, λ g. refl)) a c n ordered_or_set refl refl
  two_values_told op.In a c n = where_told _ (is_element t a c) boolean (element_told a c)

  not_whole : (a : Kind) → constant t a ≡ None → is_whole_constant a ≡ false
  unfolding constant
  not_whole (k.Whole z) h = absurd (none-some _ (sym h))
  not_whole (k.Scalar s w) h = refl
  not_whole (k.Chars c) h = refl
  not_whole k.Nil h = refl
  not_whole (k.Of s) h = refl
  not_whole (k.Open s) h = refl
  not_whole (k.Routine s) h = refl

  two_told : (o : TwoOp) (a c : Kind) → KindTold t a → KindTold t c → AppliedTold t (TwoTold o a c) (two t o a c)
  unfolding two
  two_told o a c h j = texts (is_text a && is_text c)
    where
      by : (x : Option Const) → constant t a ≡ x → (y : Option Const) → constant t c ≡ y → AppliedTold t (TwoTold o a c) (two_by t o a c x y)
      by None is y to = two_values_told o a c (ap (λ d. d && is_whole_constant c) (not_whole a is))
      by (Some x) is None to = two_values_told o a c (and_none (is_whole_constant a) _ (not_whole c to))
      by (Some x) is (Some y) to =
          applied_told t told (TwoTold o a c) _
          (folded_two_told t told o x y (λ text same. no_text t told a text (is ∙ ap Some same)) (λ text same. no_text t told c text (to ∙ ap Some same)) (constant_told t told a h x is) (constant_told t told c j y to))

      texts : (d : Bool) → AppliedTold t (TwoTold o a c) (if d then Refused else two_by t o a c (constant t a) (constant t c))
      texts true = tt
      texts false = by (constant t a) refl (constant t c) refl

module _ {t : Table} {vs : RNamed → Option RVar} {around : List ℕ} {R : Reach} (P : Property t vs around R) (told : IsTold t) where
  -- ---- a sign, or NOT
  one_yields : (o : OneOp) (g : RBase) (d : ℕ) (x : Option RExpr) → sound.takes_one o (base_view g) ≡ true → IsThere (Yields P g d) x → IsThere (Yields P g d) (one_of o x)
  one_yields o g d None h y = y
  one_yields o g d (Some x) h y = (ap kind_of (one_is o x) ∙ y.0, subst (λ a. depth a ≤ d + 1) (sym (one_is o x)) y.1, P.one o x (ap (sound.takes_one o) y.0 ∙ h) y.2)

  -- the form of a value of a type
  value_goes : (s : ℕ) (g : RBase) (d : ℕ) (x : RExpr) → base_at t (base t s) ≡ Some g → Yields P g d x → IsValue P s d x
  value_goes s g d x is h = let j = has_kind t told s g is in record { as_kind = j.0; at = j.1; kind = h.0 ∙ sym (ap base_view j.2); deep = h.1; good = h.2 }

  form_goes : (s : ℕ) (g : RBase) (d : ℕ) (x : Option RExpr) → base_at t (base t s) ≡ Some g → IsThere (Yields P g d) x → GoesWith P d (k.Of s) (value_form x)
  form_goes s g d None is h = h
  form_goes s g d (Some x) is h = value_goes s g d x is h

  one_found_told : (p : Place) (o : OneOp) (a : Found) (kind : Kind) → IsFound P a → GivenTold t (OneTold t told o a.kind) kind → IsFound P (one_found t p o a kind)
  one_found_told p o a (k.Of s) h g =
      record { kind = lies_so t told s g.base g.is; form = form_goes s g.base a.depth (one_of o (typed t s a)) g.is (one_yields o g.base a.depth (typed t s a) g.takes (suits_yields P told s g.base a g.is h g.suits)); place = tt; some = h.some; few = h.few }
  one_found_told p o a (k.Whole z) h g = record { kind = g; form = tt; place = tt; some = omega arith; few = omega arith }
  one_found_told p o a (k.Scalar s w) h g = record { kind = g; form = tt; place = tt; some = omega arith; few = omega arith }
  one_found_told p o a (k.Chars c) h g = absurd g
  one_found_told p o a k.Nil h g = absurd g
  one_found_told p o a (k.Open s) h g = absurd g
  one_found_told p o a (k.Routine s) h g = absurd g

  pub one_node_right : (p : Place) (o : OneOp) (at : Place) (a : Option Found) → IsThere (IsFound P) a → Right (IsThere (IsFound P)) (one_node t p o at a)
  unfolding one_applied
  one_node_right p o at None h clear = h
  one_node_right p o at (Some a) h clear = by (one t o a.kind) refl (one_told t told o a.kind h.kind) clear.0 clear.1.0
    where
      by : (x : Applied) → one t o a.kind ≡ x → AppliedTold t (OneTold t told o a.kind) x → Operations.is_refused x ≡ false → Operations.is_outside x ≡ false → IsThere (IsFound P) (Operations.one_value t p o a x)
      by Refused is g c d = absurd (true≢false c)
      by Outside is g c d = absurd (true≢false d)
      by (Gives kind) is g c d = one_found_told p o a kind h g

  -- ---- chains
  -- a chain so far is of a base, with the property, and takes at most a word more than so many
  abbrev pub IsBuilt : RBase → ℕ → Built → Type 0
  IsBuilt g d x = Yields P g d (e.Chain x.begin x.operations)

  abbrev pub SoFarTold : ℕ → Kind → SoFar → Type 0
  SoFarTold d kind (First f) = GoesWith P d kind f
  SoFarTold d kind (Behind o) = (s : ℕ) × (kind ≡ k.Of s) × ((g : RBase) × (base_at t (base t s) ≡ Some g) × IsThere (IsBuilt g d) o)

  pub record ChainTold (a : Chained) : Type 0 where
    pub kind : KindTold t a.kind
    pub so_far : SoFarTold a.depth a.kind a.so_far
    pub some : 1 ≤ a.depth
    pub few : a.depth ≤ 12

  pub begun_right : (a : Option Found) → IsThere (IsFound P) a → IsThere ChainTold (begun a)
  begun_right None h = h
  begun_right (Some a) h = record { kind = h.kind; so_far = h.form; some = h.some; few = h.few }

  begun_built : (g : RBase) (d : ℕ) (x : Option RExpr) → IsThere (Yields P g d) x → IsThere (IsBuilt g d) (forms.begun x)
  begun_built g d None h = h
  begun_built g d (Some x) h = (ap kind_of (chain_is x []) ∙ h.0, subst (λ a. depth a ≤ d + 1) (sym (chain_is x [])) h.1, P.begin x h.2)

  of_same : (r s : ℕ) → k.Of r ≡ k.Of s → r ≡ s
  of_same r s h = ap sort_in h
    where
      sort_in : Kind → ℕ
      sort_in (k.Of s) = s
      sort_in _ = r

  before_built : (s : ℕ) (g : RBase) (d : ℕ) (kind : Kind) (x : SoFar) → base_at t (base t s) ≡ Some g → suits t s kind ≡ true → KindTold t kind → SoFarTold d kind x → IsThere (IsBuilt g d) (before t s kind x)
  unfolding suits
  before_built s g d kind (First f) is so h goes = begun_built g d (typed_by t s kind f) (kind_yields P told s g d kind f is h goes so)
  before_built s g d kind (Behind o) is so h far =
      let same : base t s ≡ base t far.0 = based far.0 (subst (λ a. suits t s a ≡ true) far.1 so) in
      subst (λ g. IsThere (IsBuilt g d) o) (same_Some far.2.0 g (sym far.2.1 ∙ sym (ap (base_at t) same) ∙ is)) far.2.2
    where
      based : (r : ℕ) → suits t s (k.Of r) ≡ true → base t s ≡ base t r
      based r h = same_sort (base t s) (base t r) h

  operated_built : (o : TwoOp) (g : RBase) (a c d : ℕ) (x : Option Built) (y : Option RExpr) → takes_two o (base_view g) ≡ true → a ≤ d → 1 + c ≤ d → IsThere (IsBuilt g a) x → IsThere (Yields P (right_base o g) c) y → IsThere (IsBuilt (result_base o g) d) (operated o x y)
  operated_built o g a c d None y takes h j p q = p
  operated_built o g a c d (Some x) None takes h j p q = q
  operated_built o g a c d (Some x) (Some y) takes h j p q =
      let before : Expression = expression_of (e.Chain x.begin x.operations) in
      let more : expression_of (e.Chain x.begin (x.operations ++ operation o y ∷ [])) ≡ two_of o before (expression_of y) =
      chain_is x.begin (x.operations ++ operation o y ∷ []) ∙ chained_more (expression_of x.begin) x.operations o y ∙ ap (λ a. two_of o a (expression_of y)) (sym (chain_is x.begin x.operations)) in (
        ap kind_of more ∙ two_kind o g before (expression_of y) takes p.0,
        subst (λ n. n ≤ d + 1) (sym (ap depth more ∙ two_depth o before (expression_of y))) (at_most (depth before) (depth (expression_of y)) p.1 q.1),
        P.chain o x.begin x.operations g y p.0 takes (q.0 ∙ right_is o g) p.2 q.2,
      )
    where
      at_most : (m n : ℕ) → m ≤ a + 1 → n ≤ c + 1 → max m (1 + n) ≤ d + 1
      at_most m n u v = omega (arith, h, j)

  chained_told : (o : TwoOp) (a : Chained) (c : Found) (d : ℕ) (kind : Kind) → ChainTold a → IsFound P c → IsRaised a.depth 1 c.depth d → GivenTold t (TwoTold t told o a.kind c.kind) kind → ChainTold (two_chained (behind t o a c) kind d)
  chained_told o a c d (k.Of s) h j r g = record {
    kind = lies_so t told s (result_base o g.left) g.result;
    so_far = (
      s,
      refl,
      (
        result_base o g.left,
        g.result,
        operated_built o g.left a.depth c.depth d _ _ g.takes r.left r.right
            (before_built (left_type t o a.kind c.kind) g.left a.depth a.kind a.so_far g.left_is g.left_suits h.kind h.so_far)
            (suits_yields P told (operand_type t o a.kind c.kind) (right_base o g.left) c g.right_is j g.right_suits),
      ),
    );
    some = omega (arith, h.some, r.left);
    few = r.few;
  }
  chained_told o a c d (k.Whole z) h j r g = record { kind = g; so_far = tt; some = omega arith; few = omega arith }
  chained_told o a c d (k.Scalar s w) h j r g = record { kind = g; so_far = tt; some = omega arith; few = omega arith }
  chained_told o a c d (k.Chars e) h j r g = absurd g
  chained_told o a c d k.Nil h j r g = absurd g
  chained_told o a c d (k.Open s) h j r g = absurd g
  chained_told o a c d (k.Routine s) h j r g = absurd g

  pub two_node_right : (p : Place) (o : TwoOp) (at : Place) (a : Option Chained) (c : Option Found) → IsThere ChainTold a → IsThere (IsFound P) c → Right (IsThere ChainTold) (two_node t p o at a c)
  unfolding two_applied
  two_node_right p o at None c h j clear = h
  two_node_right p o at (Some a) None h j clear = j
  two_node_right p o at (Some a) (Some c) h j clear =
      let r = raised_is a.depth 1 c.depth clear.0 in
      by r.0 r.1 r.2 (two t o a.kind c.kind) refl (two_told t told o a.kind c.kind h.kind j.kind) clear.1.0 clear.1.1.0
    where
      by : (d : ℕ) → raised a.depth 1 c.depth ≡ Some d → IsRaised a.depth 1 c.depth d → (x : Applied) → two t o a.kind c.kind ≡ x → AppliedTold t (TwoTold t told o a.kind c.kind) x → Operations.is_refused x ≡ false → Operations.is_outside x ≡ false
          → IsThere ChainTold (two_value (behind t o a c) x (raised a.depth 1 c.depth))
      by d deep r Refused is g u v = absurd (true≢false u)
      by d deep r Outside is g u v = absurd (true≢false v)
      by d deep r (Gives kind) is g u v = subst (λ n. IsThere ChainTold (two_given (behind t o a c) kind n)) (sym deep) (chained_told o a c d kind h j r g)

  whole_goes : (d : ℕ) (kind : Kind) (x : SoFar) → SoFarTold d kind x → GoesWith P d kind (whole_form x)
  whole_goes d kind (First f) h = h
  whole_goes d kind (Behind o) h = subst (λ kind. GoesWith P d kind (whole_form (Behind o))) (sym h.1) (by o h.2.2)
    where
      by : (o : Option Built) → IsThere (IsBuilt h.2.0 d) o → GoesWith P d (k.Of h.0) (whole_form (Behind o))
      by None j = j
      by (Some x) j = value_goes h.0 h.2.0 d (e.Chain x.begin x.operations) h.2.1 j

  pub chain_right : (p : Place) (a : Option Chained) → IsThere ChainTold a → IsThere (IsFound P) (chain_found p a)
  chain_right p None h = h
  chain_right p (Some a) h = record { kind = h.kind; form = whole_goes a.depth a.kind a.so_far h.so_far; place = tt; some = h.some; few = h.few }
