-- Sets of told elements are told.
use Rattle.std.proofs.Common.{◌≡◌, ℕ, ◌+◌, ◌≤◌, ◌<◌, Bool, true, false, not, ◌&&◌, List, [], ◌∷◌, ◌++◌, map, Option, Some, None, IfSome, if◌then◌else◌, refl, sym, ap, subst, ◌∙◌, arith, true≢false}
use Rattle.std.specs.Prelude.{ℤ, pos, negsuc, ◌-◌, ◌^◌, ◌==◌, max, nat_lt, int_lt, is_none, bit_or}
use Rattle.std.proofs.{Math.Pow.{pow_mono, pow_pos}, lemmas.{Nat.or_lt, Int.ints, Option.{none-some, same_Some}}}
use Rattle.lil_base.specs.{Lists.joined, declared.fault.Place.Place}
use Rattle.lil_text.specs.declared.tree.Qualident.{Qualident}
use Rattle.lil_types.specs.Types.{Table, base, cardinal, bit_set}
use Rattle.lil_declared.specs.declared.declared.RVar.{RVar}
use Rattle.lil_report.specs.Told.{after, walk}
use Rattle.lil_scope.specs.declared.env.Env.{Env}
use Rattle.lil_scope.specs.declared.thing.Kind.TheVariants as k
use Rattle.lil_kinds.specs.{Forms.{set_base, shape, of_form, set_of as set_type_of}, Kinds.{number, suits, compatible}, declared.found.Found.Found}
use Rattle.lil_kinds.specs.declared.found.Form.TheVariants as form
use Rattle.lil_resolved.specs.{Chains.set_kind, Kinds.{is_element, takes_value}, Resolved.Expression, Sizes.depth, Views.{kind_view, expression_of, member_of, with_members, empty_set, set_is, single_is, span_is}, declared.resolved.{RExpr.RExpr, RMember.RMember, RNamed.RNamed}}
use Rattle.lil_resolved.specs.Kinds as kinds
use Rattle.lil_resolved.specs.declared.resolved.RBase.TheVariants as b
use Rattle.lil_resolved.specs.declared.resolved.RExpr.TheVariants as e
use Rattle.lil_resolved.specs.declared.resolved.RMember.TheVariants as m
use Rattle.lil_shapes.specs.{Bases.{base_at, members_at}, declared.members.Members.Members, ListLaws.AllFine}
use Rattle.lil_forms.specs.{Properties.{Property, Reach, value_kind}, Values.{typed, single, span, single_by, span_by, set_by, set_form}}
use Rattle.lil_operators.specs.declared.sets.{Operand.Operand, Tally.Tally}
use Rattle.lil_operators.specs.Operations.{Bounds, Elements, operand_of, with_element, no_elements, kinds_of, joined_one, joined_range, fits_base, operand_fits, operand_rows, span_word, is_member_number, member_number, members, with_members as with_word, deepened, no_tally, tally_by, bounds_node, set_found, set_given, set_end, elements_tally, set_node}
use Rattle.lil_check_value.specs.Looks.{sort_node, set_sort}
use Rattle.lil_right_type.specs.{Folds.word_set, Found.{KindTold, GoesWith, IsFound, EnvTold}, Parts.{IsSet, set_is as set_type}, Right.{Clear, Right, IsThere, clear_left, clear_right, is_so, after_right}, Typed.{Suits, kept_if, suits_yields, yields_suits}, Types.{IsTold, meant_is}}
use Rattle.lil_right_value.specs.{Names.{Lies, named_lies}, Operators.{IsRaised, raised_is, lies_so, base_base, suits_below}}

-- ---- members: each deepens a set by so many words
abbrev pub reach : Operand → Option Operand → ℕ
reach a None = 1 + a.depth
reach a (Some c) = max (1 + a.depth) (2 + c.depth)

abbrev pub Deepens : Bounds → RMember → Type 0
Deepens x y = (k : kinds.Kind) (s : Expression) (d : ℕ) → depth s ≤ d + 1 → reach x.low x.high ≤ d → depth (member_of y k s) ≤ d + 1

abbrev pub Matches : List Bounds → List RMember → Type 0
Matches [] [] = Unit {0}
Matches [] (y ∷ ys) = ⊥
Matches (x ∷ xs) [] = ⊥
Matches (x ∷ xs) (y ∷ ys) = Deepens x y × Matches xs ys

matches_more : (xs : List Bounds) (ys : List RMember) (x : Bounds) (y : RMember) → Matches xs ys → Deepens x y → Matches (xs ++ x ∷ []) (ys ++ y ∷ [])
matches_more [] [] x y h j = (j, tt)
matches_more [] (z ∷ ys) x y h j = absurd h
matches_more (w ∷ xs) [] x y h j = absurd h
matches_more (w ∷ xs) (z ∷ ys) x y h j = (h.0, matches_more xs ys x y h.1 j)

all_deep : (k : kinds.Kind) (xs : List Bounds) (ys : List RMember) (s : Expression) (d : ℕ) → Matches xs ys → AllFine (λ (x : Bounds). reach x.low x.high ≤ d) xs → depth s ≤ d + 1 → depth (with_members k s (map member_of ys)) ≤ d + 1
all_deep k [] [] s d h j deep = deep
all_deep k [] (y ∷ ys) s d h j deep = absurd h
all_deep k (x ∷ xs) [] s d h j deep = absurd h
all_deep k (x ∷ xs) (y ∷ ys) s d h j deep = all_deep k xs ys (member_of y k s) d h.1 j.1 (h.0 k s d deep j.0)

single_deepens : (a : Operand) (x : RExpr) → 1 ≤ a.depth → depth (expression_of x) ≤ a.depth + 1 → Deepens (record { low = a; high = None }) (m.Single x)
single_deepens a x some deep = λ k s d h j. subst (λ f. depth (f k s) ≤ d + 1) (sym (single_is x)) (at (depth s) (depth (expression_of x)) d deep h j)
  where
    at : (r n d : ℕ) → n ≤ a.depth + 1 → r ≤ d + 1 → 1 + a.depth ≤ d → max r (max 3 (1 + n)) ≤ d + 1
    at r n d u v w = omega (arith, some)

span_deepens : (a c : Operand) (x y : RExpr) → depth (expression_of x) ≤ a.depth + 1 → depth (expression_of y) ≤ c.depth + 1 → Deepens (record { low = a; high = Some c }) (m.Span x y)
span_deepens a c x y deep far = λ k s d h j. subst (λ f. depth (f k s) ≤ d + 1) (sym (span_is x y)) (at (depth s) (depth (expression_of x)) (depth (expression_of y)) d deep far h j)
  where
    at : (r n o d : ℕ) → n ≤ a.depth + 1 → o ≤ c.depth + 1 → r ≤ d + 1 → max (1 + a.depth) (2 + c.depth) ≤ d → max r (max (1 + n) (2 + o)) ≤ d + 1
    at r n o d t u v w = omega arith

-- ---- elements
module _ (t : Table) where
  record IsOperand (a : Operand) : Type 0 where
    kind : KindTold t a.kind
    some : 1 ≤ a.depth

  abbrev OperandsTold : Bounds → Type 0
  OperandsTold x = IsOperand x.low × IfSome x.high IsOperand

  abbrev AreFit : ℕ → Bounds → Type 0
  AreFit s x = (operand_fits t s x.low.kind ≡ true) × IfSome x.high (λ c. operand_fits t s c.kind ≡ true)

  -- a type of sets
  abbrev pub IsSort : Option ℕ → Type 0
  IsSort o = IsThere (λ s. (n : ℕ) × (set_base t s ≡ Some n)) o

  last_fine : {A : Type 0} (P : A → Type 0) (xs : List A) (x : A) → AllFine P (xs ++ x ∷ []) → AllFine P xs × P x
  last_fine P [] x h = (tt, h.0)
  last_fine P (y ∷ xs) x h = let l = last_fine P xs x h.1 in ((h.0, l.0), l.1)

  fits_left : (c d : Bool) → (c && d) ≡ true → c ≡ true
  fits_left true d h = refl
  fits_left false d h = cc

  -- ---- what is known of all elements
  operand_fit : (s : ℕ) (a : Operand) → Clear (operand_rows t s a) → operand_fits t s a.kind ≡ true
  operand_fit s a clear = λ i. is_so (fits_base t (set_base t s) a.kind) clear.0 i && not (clear.1.0 i)

  fits_node : (s : ℕ) (y : Tally) (x : Bounds) → Clear (bounds_node t s y x).1 → AreFit s x × (y.fits ≡ true → (bounds_node t s y x).0.fits ≡ true)
  unfolding bounds_node
  fits_node s y x clear = by x.low x.high clear
    where
      by : (a : Operand) (c : Option Operand) → Clear (tally_by t s y a c).1 → AreFit s (record { low = a; high = c }) × (y.fits ≡ true → (tally_by t s y a c).0.fits ≡ true)
      by a None clear = let h = operand_fit s a clear in ((h, tt), λ so i. so i && h i)
      by a (Some c) clear =
          let h = operand_fit s a (clear_left (operand_rows t s a) (operand_rows t s c) clear) in
          let j = operand_fit s c (clear_right (operand_rows t s a) (operand_rows t s c) clear) in
          ((h, j), λ so i. so i && (h i && j i))

  all_fit : (s : ℕ) (y : Tally) (xs : List Bounds) → Clear (walk (bounds_node t s) y xs).1 → AllFine (AreFit s) xs × (y.fits ≡ true → (walk (bounds_node t s) y xs).0.fits ≡ true)
  unfolding after
  all_fit s y [] clear = (tt, λ so. so)
  all_fit s y (x ∷ xs) clear =
      let one = fits_node s y x (clear_left (bounds_node t s y x).1 _ clear) in
      let more = all_fit s (bounds_node t s y x).0 xs (clear_right (bounds_node t s y x).1 _ clear) in
      ((one.0, more.0), λ so. more.1 (one.1 so))

  -- the depth so far is that of all parts
  deepened_is : (o : Option ℕ) (by' c d : ℕ) → deepened o by' c ≡ Some d → (r : ℕ) × (o ≡ Some r) × IsRaised r by' c d
  deepened_is None by' c d is = absurd (none-some d is)
  deepened_is (Some r) by' c d is =
      let g = raised_is r by' c (ap is_none is) in (r, refl, subst (IsRaised r by' c) (same_Some g.0 d (sym g.1 ∙ is)) g.2)

  depth_node : (s : ℕ) (y : Tally) (x : Bounds) (d : ℕ) → (bounds_node t s y x).0.depth ≡ Some d → (r : ℕ) × (y.depth ≡ Some r) × (r ≤ d) × (reach x.low x.high ≤ d) × (d ≤ 12)
  unfolding bounds_node
  depth_node s y x d = by x.low x.high
    where
      by : (a : Operand) (c : Option Operand) → (tally_by t s y a c).0.depth ≡ Some d → (r : ℕ) × (y.depth ≡ Some r) × (r ≤ d) × (reach a c ≤ d) × (d ≤ 12)
      by a None is = let g = deepened_is y.depth 1 a.depth d is in (g.0, g.1, g.2.left, g.2.right, g.2.few)
      by a (Some c) is =
          let h = deepened_is (deepened y.depth 1 a.depth) 2 c.depth d is in
          let g = deepened_is y.depth 1 a.depth h.0 h.1 in
          (g.0, g.1, omega (arith, g.2.left, h.2.left), omega (arith, g.2.right, h.2.left, h.2.right), h.2.few)

  all_depths : (s : ℕ) (y : Tally) (xs : List Bounds) (d : ℕ) → (walk (bounds_node t s) y xs).0.depth ≡ Some d → (r : ℕ) × (y.depth ≡ Some r) × (r ≤ d) × AllFine (λ (x : Bounds). reach x.low x.high ≤ d) xs × (r ≤ 12 → d ≤ 12)
  unfolding after
  all_depths s y [] d is = (d, is, omega arith, tt, λ few. few)
  all_depths s y (x ∷ xs) d is =
      let more = all_depths s (bounds_node t s y x).0 xs d is in
      let one = depth_node s y x more.0 more.1 in
      (one.0, one.1, omega (arith, one.2, more.2), (omega (arith, one.3, more.2), more.3), λ few. more.4 one.4)

  -- ---- the word of a constant set
  abbrev IsWord : Option ℕ → Type 0
  IsWord o = IfSome o (λ w. w ≤ 65535)

  members_word : (low high : ℤ) → members low high ≤ 65535
  members_word low high = by (is_member_number low && is_member_number high) refl
    where
      high_few : (n : ℤ) → not (int_lt (pos 15) n) ≡ true → member_number n ≤ 15
      high_few (pos n) h = grind (arith, ints)
      high_few (negsuc n) h = omega arith

      right : (c d : Bool) → (c && d) ≡ true → d ≡ true
      right true d h = h
      right false d h = cc

      span_few : (m n : ℕ) → n ≤ 15 → span_word m n ≤ 65535
      span_few m n h = at (nat_lt n m)
        where
          at : (c : Bool) → (if c then 0 else 2 ^ (n + 1) - 2 ^ m) ≤ 65535
          at true = omega arith
          at false = let top : 2 ^ (n + 1) ≤ 2 ^ 16 = pow_mono {i = n + 1} {j = 16} (omega (arith, h)) in let low : 0 < 2 ^ m = pow_pos m in omega arith

      by : (c : Bool) → (is_member_number low && is_member_number high) ≡ c → (if c then span_word (member_number low) (member_number high) else 0) ≤ 65535
      by true is = span_few (member_number low) (member_number high) (high_few high (right (not (int_lt high (pos 0))) _ (right (is_member_number low) _ is)))
      by false is = omega arith

  below_or : (x y : ℕ) → x ≤ 65535 → y ≤ 65535 → bit_or x y ≤ 65535
  below_or x y h j = let lt : bit_or x y < 2 ^ 16 = or_lt 16 x y (omega arith) (omega arith) in omega arith

  with_word_few : (w : Option ℕ) (low high : Option ℤ) → IsWord w → IsWord (with_word w low high)
  with_word_few None low high h = tt
  with_word_few (Some w) None high h = tt
  with_word_few (Some w) (Some low) None h = tt
  with_word_few (Some w) (Some low) (Some high) h = below_or w (members low high) h (members_word low high)

  word_node : (s : ℕ) (y : Tally) (x : Bounds) → IsWord y.word → IsWord (bounds_node t s y x).0.word
  unfolding bounds_node
  word_node s y x h = by x.low x.high
    where
      by : (a : Operand) (c : Option Operand) → IsWord (tally_by t s y a c).0.word
      by a None = with_word_few y.word (number t a.kind) (number t a.kind) h
      by a (Some c) = with_word_few y.word (number t a.kind) (number t c.kind) h

  all_words : (s : ℕ) (y : Tally) (xs : List Bounds) → IsWord y.word → IsWord (walk (bounds_node t s) y xs).0.word
  unfolding after
  all_words s y [] h = h
  all_words s y (x ∷ xs) h = all_words s (bounds_node t s y x).0 xs (word_node s y x h)

module _ {t : Table} {vs : RNamed → Option RVar} {around : List ℕ} {R : Reach} (P : Property t vs around R) where
  -- members that match their bounds, of which a set has the property
  abbrev pub AreMembers : ℕ → List Bounds → List RMember → Type 0
  AreMembers s xs ys = Matches xs ys × ((x : Members) → members_at t s ≡ Some x → P.value (e.Set x.kind ys))

  -- where all elements fit, the forms of all are there
  pub record ElementsTold (s : ℕ) (es : Elements) : Type 0 where
    pub forms : AllFine (AreFit t s) es.bounds → IsThere (AreMembers s es.bounds) es.forms

  abbrev pub AreElements : Option ℕ → Option Elements → Type 0
  AreElements None es = ⊥
  AreElements (Some s) es = IsThere (ElementsTold s) es

  pub no_elements_told : (s : Option ℕ) → IsSort t s → AreElements s (Some no_elements)
  no_elements_told None h = h
  no_elements_told (Some s) h = record { forms = λ fit. (tt, λ x is. P.empty x.kind) }

  -- a member that deepens a set as its bounds say, and joins one with the property
  abbrev Joins : ℕ → Bounds → RMember → Type 0
  Joins s x y = Deepens x y × ((ys : List RMember) (m : Members) → members_at t s ≡ Some m → P.value (e.Set m.kind ys) → P.value (e.Set m.kind (ys ++ y ∷ [])))

  joined_there : (s : ℕ) (xs : List Bounds) (x : Bounds) (ys : Option (List RMember)) (y : Option RMember) → IsThere (AreMembers s xs) ys → IsThere (Joins s x) y → IsThere (AreMembers s (xs ++ x ∷ [])) (joined ys y)
  joined_there s xs x None y h j = h
  joined_there s xs x (Some ys) None h j = j
  joined_there s xs x (Some ys) (Some y) h j = (matches_more xs ys x y h.0 j.0, λ m is. j.1 ys m is (h.1 m is))

  more_told : (s : ℕ) (es : Elements) (a : Operand) (c : Option Operand) (y : Option RMember) → ElementsTold s es → (AreFit t s (record { low = a; high = c }) → IsThere (Joins s (record { low = a; high = c })) y) → ElementsTold s (with_element es y a c)
  more_told s es a c y h j = record { forms = λ fit. let l = last_fine t (AreFit t s) es.bounds (record { low = a; high = c }) fit in joined_there s es.bounds _ es.forms y (h.forms l.0) (j l.1) }

  module _ (told : IsTold t) where
    -- an element that fits is there
    entered_there : (s n : ℕ) (a : Found) → IsSet t s n → IsFound P a → set_base t s ≡ Some n → operand_fits t s a.kind ≡ true → (x : Members) → members_at t s ≡ Some x → IsThere (Suits P x.kind a.depth) (typed t x.sort a)
    unfolding compatible
    entered_there s n a g h is fit x at =
        let suits_n : suits t n a.kind ≡ true = ap (λ o. fits_base t o a.kind) (sym is) ∙ fits_left t (fits_base t (set_base t s) a.kind) _ fit in
        let suits_x : suits t g.members.sort a.kind ≡ true = subst (λ r. suits t r a.kind ≡ true) (sym g.sort) (suits_below t told n a.kind suits_n) in
        let below : base_at t (base t g.members.sort) ≡ Some g.members.kind.base = ap (λ r. base_at t (base t r)) g.sort ∙ ap (base_at t) (base_base t told n) ∙ g.base in
        subst (λ x. IsThere (Suits P x.kind a.depth) (typed t x.sort a)) (same_Some g.members x (sym g.at ∙ at))
        (yields_suits P g.members.kind a.depth _ g.ordinal (suits_yields P told g.members.sort g.members.kind.base a below h suits_x))

    -- what may be in a set of the type, by one way in which it is known
    one_of_them : {s n : ℕ} (g : IsSet t s n) (x : Members) → members_at t s ≡ Some x → is_element (kind_view x.kind) ≡ true
    one_of_them g x is = subst (λ (x : Members). is_element (kind_view x.kind) ≡ true) (same_Some g.members x (sym g.at ∙ is)) g.element

    taken : (x m : Members) (y : RExpr) → Some x ≡ Some m → takes_value (kind_view x.kind) (value_kind y) ≡ true → takes_value (kind_view m.kind) (value_kind y) ≡ true
    taken x m y is h = subst (λ (m : Members). takes_value (kind_view m.kind) (value_kind y) ≡ true) (same_Some x m is) h

    single_there : (s n : ℕ) (a : Found) → set_base t s ≡ Some n → IsFound P a → AreFit t s (record { low = operand_of a; high = None }) → IsThere (Joins s (record { low = operand_of a; high = None })) (single_by t (kinds_of t (Some s)) a)
    single_there s n a is h fit = subst (λ o. IsThere (Joins s (record { low = operand_of a; high = None })) (single_by t o a)) (sym g.at) (by g.members g.at (typed t g.members.sort a) (entered_there s n a g h is fit.0 g.members g.at))
      where
        g : IsSet t s n
        g = set_type t told s n is

        by : (x : Members) → members_at t s ≡ Some x → (y : Option RExpr) → IsThere (Suits P x.kind a.depth) y → IsThere (Joins s (record { low = operand_of a; high = None })) (single y)
        by x at None j = j
        by x at (Some y) j = (
          single_deepens (operand_of a) y h.some j.1,
          λ ys m is good. P.single m.kind ys y (one_of_them g m is) (taken x m y (sym at ∙ is) j.0) good j.2,
        )

    span_there : (s n : ℕ) (a c : Found) → set_base t s ≡ Some n → IsFound P a → IsFound P c → AreFit t s (record { low = operand_of a; high = Some (operand_of c) }) → IsThere (Joins s (record { low = operand_of a; high = Some (operand_of c) })) (span_by t (kinds_of t (Some s)) a c)
    span_there s n a c is h j fit =
        subst (λ o. IsThere (Joins s (record { low = operand_of a; high = Some (operand_of c) })) (span_by t o a c)) (sym g.at)
        (by g.members g.at (typed t g.members.sort a) (typed t g.members.sort c) (entered_there s n a g h is fit.0 g.members g.at) (entered_there s n c g j is fit.1 g.members g.at))
      where
        g : IsSet t s n
        g = set_type t told s n is

        by : (x : Members) → members_at t s ≡ Some x → (y z : Option RExpr) → IsThere (Suits P x.kind a.depth) y → IsThere (Suits P x.kind c.depth) z → IsThere (Joins s (record { low = operand_of a; high = Some (operand_of c) })) (span y z)
        by x at None z u v = u
        by x at (Some y) None u v = v
        by x at (Some y) (Some z) u v = (
          span_deepens (operand_of a) (operand_of c) y z u.1 v.1,
          λ ys m is good. P.span m.kind ys y z (one_of_them g m is) (taken x m y (sym at ∙ is) u.0) (taken x m z (sym at ∙ is) v.0) good u.2 v.2,
        )

    pub joined_one_told : (s : Option ℕ) (es : Option Elements) (a : Option Found) → IsSort t s → AreElements s es → IsThere (IsFound P) a → AreElements s (joined_one t s es a)
    joined_one_told None es a h j i = h
    joined_one_told (Some s) None a h j i = j
    joined_one_told (Some s) (Some es) None h j i = i
    joined_one_told (Some s) (Some es) (Some a) h j i = more_told s es (operand_of a) None _ j (single_there s h.0 a h.1 i)

    pub joined_range_told : (s : Option ℕ) (es : Option Elements) (a c : Option Found) → IsSort t s → AreElements s es → IsThere (IsFound P) a → IsThere (IsFound P) c → AreElements s (joined_range t s es a c)
    joined_range_told None es a c h j i l = h
    joined_range_told (Some s) None a c h j i l = j
    joined_range_told (Some s) (Some es) None c h j i l = i
    joined_range_told (Some s) (Some es) (Some a) None h j i l = l
    joined_range_told (Some s) (Some es) (Some a) (Some c) h j i l = more_told s es (operand_of a) (Some (operand_of c)) _ j (span_there s h.0 a c h.1 i l)

    -- ---- the whole set
    value_told : (s n d : ℕ) (xs : List Bounds) (o : Option (List RMember)) → IsSet t s n → IsThere (AreMembers s xs) o → AllFine (λ (x : Bounds). reach x.low x.high ≤ d) xs → 1 ≤ d → GoesWith P d (k.Of s) (set_form t s o)
    value_told s n d xs None g h deep some = absurd h
    value_told s n d xs (Some ys) g h deep some =
        let value : GoesWith P d (k.Of s) (form.Value (e.Set g.members.kind ys)) = record {
          as_kind = _;
          at = g.kind;
          kind = set_kind g.members.kind ys;
          deep = subst (λ a. depth a ≤ d + 1) (sym (set_is g.members.kind ys)) (all_deep (kind_view g.members.kind) xs ys empty_set d h.0 deep (omega (arith, some)));
          good = h.1 g.members g.at;
        } in
        subst (λ m. GoesWith P d (k.Of s) (set_by m (Some ys))) (sym g.at) value

    set_told : (p : Place) (s n d : ℕ) (xs : List Bounds) (o : Option (List RMember)) (w : Option ℕ) → IsSet t s n → IsThere (AreMembers s xs) o → AllFine (λ (x : Bounds). reach x.low x.high ≤ d) xs → 1 ≤ d → d ≤ 12 → IsWord t w → IsFound P (set_found t p s o w d)
    set_told p s n d xs o (Some w) g h deep some few word = record { kind = word_set t told s w (ap (base_at t) g.own ∙ g.set) word; form = tt; place = tt; some = omega arith; few = omega arith }
    set_told p s n d xs o None g h deep some few word = record { kind = lies_so t told s b.Set (ap (base_at t) g.own ∙ g.set); form = value_told s n d xs o g h deep some; place = tt; some = some; few = few }

    pub set_node_right : (p : Place) (s : Option ℕ) (es : Option Elements) → IsSort t s → AreElements s es → Right (IsThere (IsFound P)) (set_node t p s es)
    unfolding after set_end
    set_node_right p None es h j clear = h
    set_node_right p (Some s) None h j clear = j
    set_node_right p (Some s) (Some es) h j clear =
        by (elements_tally t s es.bounds).0 (fit.1 refl) (elements_tally t s es.bounds).0.depth refl (all_depths t s no_tally es.bounds) (all_words t s no_tally es.bounds (omega arith)) (clear_right (elements_tally t s es.bounds).1 _ clear).0
      where
        fit : AllFine (AreFit t s) es.bounds × (no_tally.fits ≡ true → (elements_tally t s es.bounds).0.fits ≡ true)
        fit = all_fit t s no_tally es.bounds (clear_left (elements_tally t s es.bounds).1 _ clear)

        by : (z : Tally) → z.fits ≡ true → (o : Option ℕ) → z.depth ≡ o
            → ((d : ℕ) → z.depth ≡ Some d → (r : ℕ) × (no_tally.depth ≡ Some r) × (r ≤ d) × AllFine (λ (x : Bounds). reach x.low x.high ≤ d) es.bounds × (r ≤ 12 → d ≤ 12)) → IsWord t z.word → is_none z.depth ≡ false
            → IsThere (IsFound P) (set_given t p s es.forms z z.depth)
        by z fits None is depths word deep = absurd (true≢false (ap is_none (sym is) ∙ deep))
        by z fits (Some d) is depths word deep =
            let g = depths d is in
            let one : 1 ≡ g.0 = same_Some 1 g.0 g.1 in
            subst (λ o. IsThere (IsFound P) (set_given t p s es.forms z o)) (sym is)
            (kept_if (IsFound P) z.fits (set_found t p s es.forms z.word d) fits (set_told p s h.0 d es.bounds es.forms z.word (set_type t told s h.0 h.1) (j.forms fit.0) g.3 (omega (arith, one, g.2)) (g.4 (omega (arith, one))) word))

-- ---- the type of a set
module _ (e : Env) (told : EnvTold e) where
  bit_set_is : set_base e.types bit_set ≡ Some cardinal
  unfolding set_base
  bit_set_is = ap (λ n. if n == bit_set then Some cardinal else of_form set_type_of (shape e.types bit_set)) (meant_is e.types told.types bit_set)

  sort_node_right : (p : Place) (o : Option ℕ) → Lies e.types o → Right (IsSort e.types) (sort_node e.types p o)
  unfolding sort_node
  sort_node_right p None h clear = h
  sort_node_right p (Some s) h clear = by (set_base e.types s) refl clear.0
    where
      by : (o : Option ℕ) → set_base e.types s ≡ o → is_none (set_base e.types s) ≡ false → IsSort e.types (if is_none (set_base e.types s) then None else Some s)
      by None is c = absurd (true≢false (ap is_none (sym is) ∙ c))
      by (Some n) is c = subst (λ c. IsSort e.types (if c then None else Some s)) (sym c) (n, is)

  pub set_sort_right : (q : Option Qualident) → Right (IsSort e.types) (set_sort e q)
  set_sort_right None clear = (cardinal, bit_set_is)
  set_sort_right (Some q) clear = after_right (Lies e.types) (IsSort e.types) _ (sort_node e.types q.name.place) (named_lies e told q) (sort_node_right q.name.place) clear
