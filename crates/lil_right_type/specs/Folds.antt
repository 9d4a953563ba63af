-- What operators make of told constants is told.
use Rattle.std.proofs.Common.{◌≡◌, ℕ, ◌≤◌, ◌<◌, Bool, true, false, ◌||◌, List, Option, Some, None, if◌then◌else◌, refl, sym, ap, subst, ◌∙◌, arith}
use Rattle.std.specs.Prelude.{ℤ, pos, negsuc, neg_ℤ, ◌^◌, ◌==◌, int_lt, Ok, Err, bit_and, bit_or, bit_xor, ◌+ℤ◌, ◌-ℤ◌, ◌*ℤ◌}
use Rattle.std.proofs.lemmas.{Int.ints, Nat.{and_le_l, or_lt, xor_lt}, Option.{none-some, same_Some}}
use Rattle.lil_base.specs.{Laws.{bounds, in_range}, Words.{between, is_zero, whole_quotient, whole_rest}, declared.operator.{OneOp.OneOp, TwoOp.TwoOp}}
use Rattle.lil_base.specs.declared.operator.OneOp.TheVariants as one
use Rattle.lil_base.specs.declared.operator.TwoOp.TheVariants as two
use Rattle.lil_types.specs.{Types.{Table, base, boolean, char, bit_set, entry, same, is_whole}, Folding.{Folded, truth, whole, wholes, ordinals, sets, base_of, base_in, set_base, is_member, in_set, scalars_by, scalars, is_whole_member, fits, whole_in, whole_and_scalar, folded_two, folded_one}, declared.table.{Const.Const, TypeEntry.TypeEntry}}
use Rattle.lil_types.specs.declared.table.TypeForm.{TypeForm, TheVariants.SetOf}
use Rattle.lil_types.specs.Types as types
use Rattle.lil_types.specs.declared.table.Const.TheVariants as const
use Rattle.lil_scope.specs.declared.thing.Kind.{Kind}
use Rattle.lil_scope.specs.declared.thing.Kind.TheVariants as k
use Rattle.lil_kinds.specs.{Kinds.word_number, Operators.{constant, applied}, declared.found.Applied.{Applied, TheVariants.{Refused, Outside, Gives}}}
use Rattle.lil_resolved.specs.declared.resolved.RBase.TheVariants as b
use Rattle.lil_shapes.specs.{BaseLaws.same_sort, Bases.{base_at, base_by, base_form}, Operators.has_number}
use Rattle.lil_right_type.specs.{Found.{HasWord, KindTold}, Parts.base_itself, Typed.{whole_scalar, is_character_number}, Types.{IsTold, own_base}}

-- ---- constants
abbrev pub ConstTold : Table → Const → Type 0
ConstTold t (const.Whole z) = between (negsuc 32767) z (pos 65535) ≡ true
ConstTold t (const.Scalar s w) = HasWord t s w
ConstTold t (const.Chars text) = Unit {0}

abbrev pub FoldedTold : Table → Folded → Type 0
FoldedTold t (Ok c) = ConstTold t c
FoldedTold t (Err f) = Unit {0}

-- what an operator gives: a constant that is told, or a value of a type of which this is true
abbrev pub GivenTold : Table → (ℕ → Type 0) → Kind → Type 0
GivenTold t Q (k.Whole z) = KindTold t (k.Whole z)
GivenTold t Q (k.Scalar s w) = KindTold t (k.Scalar s w)
GivenTold t Q (k.Chars c) = ⊥
GivenTold t Q k.Nil = ⊥
GivenTold t Q (k.Of s) = Q s
GivenTold t Q (k.Open s) = ⊥
GivenTold t Q (k.Routine s) = ⊥

abbrev pub AppliedTold : Table → (ℕ → Type 0) → Applied → Type 0
AppliedTold t Q Refused = Unit {0}
AppliedTold t Q Outside = Unit {0}
AppliedTold t Q (Gives kind) = GivenTold t Q kind

outside_word : (v : ℤ) → (int_lt v (negsuc 32767) || int_lt (pos 65535) v) ≡ false → between (negsuc 32767) v (pos 65535) ≡ true
outside_word v h = grind (arith, ints)

half_word : (n : ℕ) → n ≤ 65535 → has_number b.Set (pos n) ≡ true
half_word n h = in_range (pos 0) (pos n) (pos 65535) (omega (arith, ints)) (omega (arith, ints))

module _ (t : Table) (told : IsTold t) where
  pub truth_told : (c : Bool) → FoldedTold t (truth c)
  truth_told true = (b.Truth, ap (base_at t) (own_base t told boolean refl), refl, refl)
  truth_told false = (b.Truth, ap (base_at t) (own_base t told boolean refl), refl, refl)

  whole_told : (v : ℤ) → FoldedTold t (whole v)
  whole_told v = by (int_lt v (negsuc 32767) || int_lt (pos 65535) v) refl
    where
      by : (c : Bool) → (int_lt v (negsuc 32767) || int_lt (pos 65535) v) ≡ c → FoldedTold t (if c then Err 52 else Ok (const.Whole v))
      by true is = tt
      by false is = outside_word v is

  if_told : (c : Bool) (f : ℕ) (x : Folded) → FoldedTold t x → FoldedTold t (if c then Err f else x)
  if_told true f x h = tt
  if_told false f x h = h

  else_told : (c : Bool) (f : ℕ) (x : Folded) → (c ≡ true → FoldedTold t x) → FoldedTold t (if c then x else Err f)
  else_told true f x h = h refl
  else_told false f x h = tt

  wholes_told : (op : TwoOp) (m n : ℤ) → FoldedTold t (wholes op m n)
  wholes_told two.Plus m n = whole_told (m +ℤ n)
  wholes_told two.Minus m n = whole_told (m -ℤ n)
  wholes_told two.Times m n = whole_told (m *ℤ n)
  wholes_told two.Div m n = if_told (is_zero n) 52 (whole (whole_quotient m n)) (whole_told (whole_quotient m n))
  wholes_told two.Mod m n = if_told (is_zero n) 52 (whole (whole_rest m n)) (whole_told (whole_rest m n))
  wholes_told two.Equal m n = truth_told _
  wholes_told two.Unequal m n = truth_told _
  wholes_told two.Less m n = truth_told _
  wholes_told two.AtMost m n = truth_told _
  wholes_told two.Greater m n = truth_told _
  wholes_told two.AtLeast m n = truth_told _
  wholes_told two.In m n = tt
  wholes_told two.Or m n = tt
  wholes_told two.Slash m n = tt
  wholes_told two.And m n = tt

  ordinals_told : (c : ℕ) (op : TwoOp) (x y : ℕ) → FoldedTold t (ordinals c op x y)
  ordinals_told c two.Equal x y = truth_told _
  ordinals_told c two.Unequal x y = truth_told _
  ordinals_told c two.Less x y = truth_told _
  ordinals_told c two.AtMost x y = truth_told _
  ordinals_told c two.Greater x y = truth_told _
  ordinals_told c two.AtLeast x y = truth_told _
  ordinals_told c two.And x y = else_told (c == boolean) 30 _ (λ h. truth_told _)
  ordinals_told c two.Or x y = else_told (c == boolean) 30 _ (λ h. truth_told _)
  ordinals_told c two.In x y = tt
  ordinals_told c two.Plus x y = tt
  ordinals_told c two.Minus x y = tt
  ordinals_told c two.Times x y = tt
  ordinals_told c two.Slash x y = tt
  ordinals_told c two.Div x y = tt
  ordinals_told c two.Mod x y = tt

  -- ---- sets
  -- a set type has sets for values
  set_below : (a c : ℕ) → set_base t a ≡ Some c → base_at t (base t a) ≡ Some b.Set
  set_below a c h = ap (base_at t) (base_itself t told a b.Set set).0 ∙ set
    where
      in_form : (form : TypeForm) → base_of t form ≡ Some c → base_form a form ≡ Some b.Set
      in_form (SetOf m) h = refl
      in_form _ h = absurd (none-some c h)

      in_entry : (o : Option TypeEntry) → base_in t o ≡ Some c → base_by a o ≡ Some b.Set
      in_entry None h = absurd (none-some c h)
      in_entry (Some e) h = in_form e.form h

      by : (d : Bool) → (a == bit_set) ≡ d → (if d then Some types.cardinal else base_in t (entry t a)) ≡ Some c → base_at t a ≡ Some b.Set
      by true is h = ap (base_at t) (same_sort a bit_set is)
      by false is h = in_entry (entry t a) h

      set : base_at t a ≡ Some b.Set
      set = by (a == bit_set) refl h

  pub set_word : (a w : ℕ) → base_at t (base t a) ≡ Some b.Set → HasWord t a w → w ≤ 65535
  set_word a w is h = at (subst (λ k. has_number k (pos w) ≡ true) (same_Some h.0 b.Set (sym h.1 ∙ is)) h.3)
    where
      at : has_number b.Set (pos w) ≡ true → w ≤ 65535
      at j = omega (arith, ints, (bounds (pos 0) (pos w) (pos 65535) j).1)

  pub word_set : (a w : ℕ) → base_at t (base t a) ≡ Some b.Set → w ≤ 65535 → HasWord t a w
  word_set a w is h = (b.Set, is, refl, half_word w h)

  pub below_or : (x y : ℕ) → x ≤ 65535 → y ≤ 65535 → bit_or x y ≤ 65535
  below_or x y h j = let lt : bit_or x y < 2 ^ 16 = or_lt 16 x y (omega arith) (omega arith) in omega arith

  below_xor : (x y : ℕ) → x ≤ 65535 → y ≤ 65535 → bit_xor x y ≤ 65535
  below_xor x y h j = let lt : bit_xor x y < 2 ^ 16 = xor_lt 16 x y (omega arith) (omega arith) in omega arith

  below_and : (x y : ℕ) → x ≤ 65535 → bit_and x y ≤ 65535
  below_and x y h = omega (arith, and_le_l x y)

  sets_told : (a : ℕ) (op : TwoOp) (x y : ℕ) → base_at t (base t a) ≡ Some b.Set → x ≤ 65535 → y ≤ 65535 → FoldedTold t (sets a op x y)
  sets_told a two.Plus x y is h j = word_set a _ is (below_or x y h j)
  sets_told a two.Minus x y is h j = word_set a _ is (below_and x _ h)
  sets_told a two.Times x y is h j = word_set a _ is (below_and x _ h)
  sets_told a two.Slash x y is h j = word_set a _ is (below_xor x y h j)
  sets_told a two.Equal x y is h j = truth_told _
  sets_told a two.Unequal x y is h j = truth_told _
  sets_told a two.AtMost x y is h j = truth_told _
  sets_told a two.AtLeast x y is h j = truth_told _
  sets_told a two.Less x y is h j = tt
  sets_told a two.Greater x y is h j = tt
  sets_told a two.In x y is h j = tt
  sets_told a two.Or x y is h j = tt
  sets_told a two.Div x y is h j = tt
  sets_told a two.Mod x y is h j = tt
  sets_told a two.And x y is h j = tt

  -- ---- scalars
  scalars_by_told : (c d : Option ℕ) (op : TwoOp) (a x e y : ℕ) → set_base t a ≡ c → HasWord t a x → HasWord t e y → FoldedTold t (scalars_by c d t op a x e y)
  scalars_by_told (Some c) d op a x e y is h j =
      else_told (same t a e) 30 (sets a op x y) (λ one.
      let set : base_at t (base t a) ≡ Some b.Set = set_below a c is in
      let alike : base t a ≡ base t e = ap (λ m. types.base_by m (types.known t m)) (same_sort (types.meant t a) (types.meant t e) one) in
      sets_told a op x y set (set_word a x set h) (set_word e y (sym (ap (base_at t) alike) ∙ set) j))
  scalars_by_told None (Some d) op a x e y is h j = tt
  scalars_by_told None None op a x e y is h j = else_told (types.compatible t a e) 30 (ordinals (base t a) op x y) (λ one. ordinals_told (base t a) op x y)

  in_set_told : (o : Option ℕ) (c : ℕ) (is : Bool) → FoldedTold t (in_set o c is)
  in_set_told None c is = tt
  in_set_told (Some d) c is = else_told (c == d) 30 (truth is) (λ h. truth_told is)

  scalars_told : (op : TwoOp) (a x e y : ℕ) → HasWord t a x → HasWord t e y → FoldedTold t (scalars t op a x e y)
  scalars_told two.In a x e y h j = in_set_told (set_base t e) (base t a) (is_member y x)
  scalars_told op a x e y h j = scalars_by_told (set_base t a) (set_base t e) op a x e y refl h j

  whole_in_told : (o : Option ℕ) (m : ℤ) (y : ℕ) → FoldedTold t (whole_in o m y)
  whole_in_told None m y = tt
  whole_in_told (Some c) m y = else_told (fits c m) 30 (truth (is_whole_member y m)) (λ h. truth_told _)

  whole_scalar_told : (op : TwoOp) (m : ℤ) (e y : ℕ) → FoldedTold t (whole_and_scalar t op m e y)
  whole_scalar_told two.In m e y = whole_in_told (set_base t e) m y
  whole_scalar_told _ m e y = tt

  -- ---- operands as constants
  pub constant_told : (a : Kind) → KindTold t a → (c : Const) → constant t a ≡ Some c → ConstTold t c
  unfolding constant
  constant_told (k.Whole z) h c is = subst (ConstTold t) (same_Some (const.Whole z) c is) h
  constant_told (k.Scalar s w) h c is = by (is_whole t s) refl is
    where
      by : (d : Bool) → is_whole t s ≡ d → Some (if d then const.Whole (word_number t s w) else const.Scalar s w) ≡ Some c → ConstTold t c
      by true low is = absurd (whole_scalar t told s w low h)
      by false low is = subst (ConstTold t) (same_Some (const.Scalar s w) c is) h
  constant_told (k.Chars d) h c is = by (d.length == 1) is
    where
      by : (e : Bool) → (if e then Some (const.Scalar char d.first) else None) ≡ Some c → ConstTold t c
      by true is = subst (ConstTold t) (same_Some (const.Scalar char d.first) c is) (b.Character, ap (base_at t) (own_base t told char refl), refl, is_character_number d.first h)
      by false is = absurd (none-some c is)
  constant_told k.Nil h c is = absurd (none-some c is)
  constant_told (k.Of s) h c is = absurd (none-some c is)
  constant_told (k.Open s) h c is = absurd (none-some c is)
  constant_told (k.Routine s) h c is = absurd (none-some c is)

  -- it is no text
  pub no_text : (a : Kind) (text : List ℕ) → constant t a ≡ Some (const.Chars text) → ⊥
  unfolding constant
  no_text (k.Whole z) text is = cc
  no_text (k.Scalar s w) text is = by (is_whole t s) is
    where
      by : (d : Bool) → Some (if d then const.Whole (word_number t s w) else const.Scalar s w) ≡ Some (const.Chars text) → ⊥
      by true is = cc
      by false is = cc
  no_text (k.Chars d) text is = by (d.length == 1) is
    where
      by : (e : Bool) → (if e then Some (const.Scalar char d.first) else None) ≡ Some (const.Chars text) → ⊥
      by true is = cc
      by false is = cc
  no_text k.Nil text is = cc
  no_text (k.Of s) text is = cc
  no_text (k.Open s) text is = cc
  no_text (k.Routine s) text is = cc

  -- ---- what is folded
  pub folded_two_told : (op : TwoOp) (x y : Const) → ((text : List ℕ) → x ≡ const.Chars text → ⊥) → ((text : List ℕ) → y ≡ const.Chars text → ⊥) → ConstTold t x → ConstTold t y → FoldedTold t (folded_two t op x y)
  folded_two_told op (const.Whole m) (const.Whole n) f g h j = wholes_told op m n
  folded_two_told op (const.Whole m) (const.Scalar e y) f g h j = whole_scalar_told op m e y
  folded_two_told op (const.Scalar a x) (const.Whole n) f g h j = tt
  folded_two_told op (const.Scalar a x) (const.Scalar e y) f g h j = scalars_told op a x e y h j
  folded_two_told op (const.Chars text) y f g h j = absurd (f text refl)
  folded_two_told op (const.Whole m) (const.Chars text) f g h j = tt
  folded_two_told op (const.Scalar a x) (const.Chars text) f g h j = absurd (g text refl)

  pub folded_one_told : (op : OneOp) (x : Const) → ConstTold t x → FoldedTold t (folded_one t op x)
  folded_one_told one.Plus (const.Whole v) h = h
  folded_one_told one.Minus (const.Whole v) h = whole_told (neg_ℤ v)
  folded_one_told one.Not (const.Scalar a x) h = else_told (base t a == boolean) 30 (truth (x == 0)) (λ j. truth_told _)
  folded_one_told one.Not (const.Whole v) h = tt
  folded_one_told one.Plus (const.Scalar a x) h = tt
  folded_one_told one.Minus (const.Scalar a x) h = tt
  folded_one_told op (const.Chars text) h = by op
    where
      by : (op : OneOp) → FoldedTold t (folded_one t op (const.Chars text))
      by one.Plus = tt
      by one.Minus = tt
      by one.Not = tt

  pub applied_told : (Q : ℕ → Type 0) (f : Folded) → FoldedTold t f → AppliedTold t Q (applied f)
  applied_told Q (Ok (const.Whole z)) h = h
  applied_told Q (Ok (const.Scalar s w)) h = h
  applied_told Q (Ok (const.Chars text)) h = tt
  applied_told Q (Err f) h = by (f == 52)
    where
      by : (c : Bool) → AppliedTold t Q (if c then Outside else Refused)
      by true = tt
      by false = tt
