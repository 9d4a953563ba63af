-- Standard functions of told arguments: what they give is told.
use Rattle.std.proofs.Common.{◌≡◌, ℕ, ◌+◌, ◌≤◌, Bool, true, false, not, ◌||◌, List, [], ◌∷◌, length, Option, Some, None, if◌then◌else◌, refl, sym, ap, subst, ◌∙◌, arith, true≢false, inl, inr}
use Rattle.std.specs.Prelude.{ℤ, pos, negsuc, ◌≤ℤ◌, ◌-ℤ◌, ◌==◌, ◌&&◌, nat_abs, nat_lt, max, is_some}
use Rattle.std.specs.Option.{option_map}
use Rattle.std.proofs.lemmas.{Int.ints, Option.{none-some, same_Some}, Bool.{cond-true, cond_both, Decides.nat_tests}}
use Rattle.lil_base.specs.{Laws.{bounds, in_range}, Words.{Integer, between, number_of}, declared.fault.Place.Place}
use Rattle.lil_types.specs.{Types.{Table, entry, integer, cardinal, boolean, char, base, is_whole}, declared.table.{Span.Span, TypeEntry.TypeEntry, TypeForm.{TypeForm, TheVariants.Enumeration}}}
use Rattle.lil_declared.specs.declared.{declared.RVar.RVar, standard.Standard.Standard}
use Rattle.lil_declared.specs.declared.standard.Standard.TheVariants as standard
use Rattle.lil_resolved.specs.{Bases.own_base, Kinds.{least, greatest}, Resolved.{Function, Odd, kind_of, function_kind}, Sizes.depth, Sound.takes_function, Views.{base_view, function_of, expression_of, apply_is, high_is}, declared.resolved.{RBase.RBase, RExpr.RExpr, RFunction.RFunction, RKind.RKind, RNamed.RNamed}}
use Rattle.lil_resolved.specs.Kinds as kinds
use Rattle.lil_resolved.specs.Sizes as sizes
use Rattle.lil_resolved.specs.declared.resolved.RBase.TheVariants as b
use Rattle.lil_resolved.specs.declared.resolved.RFunction.TheVariants as fn
use Rattle.lil_shapes.specs.{BaseLaws.{if_some, same_sort}, Bases.{plain, base_form, base_by, base_at, kind_at, composite_at}, ListLaws.AllFine, Operators.{has_number, counted}}
use Rattle.lil_scope.specs.declared.thing.Kind.{Kind}
use Rattle.lil_scope.specs.declared.thing.Kind.TheVariants as k
use Rattle.lil_report.specs.Told.{Row}
use Rattle.lil_kinds.specs.{Forms.{span_of, has_nil, target, is_opaque, shape}, Kinds.{is_constant, is_ordinal, number, suits, compatible, outside}}
use Rattle.lil_kinds.specs.{Operators.{word_constant, constant_of, value_by, is_integer, is_number, absolute, capital, oddness, is_odd, converted_number, converted, is_open, where_taken, gives_where, function, extreme_by, extreme}, declared.found.{Applied.{Applied, TheVariants.{Refused, Outside, Gives}}, Form.Form, Found.Found}}
use Rattle.lil_kinds.specs.declared.found.Form.TheVariants as form
use Rattle.lil_forms.specs.{Properties.{Property, Reach}, Scopes.{both_left, both_right}, Values.{value_form, applied, high_of, function_value, typed, typed_by}}
use Rattle.lil_call.specs.{declared.call.Argument.Argument, Procedures.{function_form, kept_form, function_depth, applied_node, no_value, no_type, of_type, of_value, of_one, ordinal_node, converted_if, of_two, of_all, function_if, function_mean, standard_node, agrees, is_function, is_extreme, takes_count}}
use Rattle.lil_call.specs.declared.call.Argument.TheVariants as argument
use Rattle.lil_right_type.specs.{Found.{is_scalar, HasWord, KindTold, IsBare, GoesWith, bare, IsFound}, Right.{Right, IsThere, is_so, after_right}, Typed.{Yields, either, is_character_number, kind_yields}, Types.{IsTold, IsOrdinal, ordinal_is}}
use Rattle.lil_right_call.specs.Told.{ArgumentTold}

-- ---- bases of numbers
-- whole numbers are those of INTEGER and CARDINAL
pub whole_at : (t : Table) (n : ℕ) (k : RBase) → base_at t n ≡ Some k → kinds.is_whole (base_view k) ≡ true → n ≡ counted k
whole_at t n k is = by (entry t n) k is
  where
    in_form : (x : TypeForm) (k : RBase) → base_form n x ≡ Some k → kinds.is_whole (base_view k) ≡ true → n ≡ counted k
    in_form (Enumeration xs) b.Integer h of = grind (arith, nat_tests, h)
    in_form (Enumeration xs) b.Cardinal h of = grind (arith, nat_tests, h)
    in_form _ b.Integer h of = cc
    in_form _ _ h of = cc

    by : (o : Option TypeEntry) (k : RBase) → base_by n o ≡ Some k → kinds.is_whole (base_view k) ≡ true → n ≡ counted k
    by None b.Integer h of = grind (arith, nat_tests, h)
    by None b.Cardinal h of = grind (arith, nat_tests, h)
    by None _ h of = cc
    by (Some e) k h of = in_form e.form k h of

scalar_at : (t : Table) (n : ℕ) (k : RBase) → base_at t n ≡ Some k → kinds.is_ordinal (base_view k) ≡ true → nat_lt n 2 ≡ false → is_scalar k ≡ true
scalar_at t n b.Cardinal is h high = absurd (true≢false (sym (ap (λ n. nat_lt n 2) (whole_at t n b.Cardinal is refl)) ∙ high))
scalar_at t n b.Integer is h high = absurd (true≢false (sym (ap (λ n. nat_lt n 2) (whole_at t n b.Integer is refl)) ∙ high))
scalar_at t n _ is h high = cc

-- the numbers of a base are those of constants, and at most 65536
pub number_bounds : (k : RBase) → kinds.is_ordinal (base_view k) ≡ true → (negsuc 32767 ≤ℤ least (base_view k)) × (greatest (base_view k) ≤ℤ pos 65535) × ((greatest (base_view k) -ℤ least (base_view k)) ≤ℤ pos 65535)
number_bounds (b.Enumeration n) h = let few : n ≤ 65535 = grind (arith, nat_tests, h) in (omega (arith, ints), omega (arith, ints), omega (arith, ints))
number_bounds _ h = (grind (arith, ints, h), grind (arith, ints, h), grind (arith, ints, h))

-- ---- constants
module _ (t : Table) where
  -- a constant that goes with no form, where there is a value
  abbrev IsTest : Applied → Type 0
  IsTest (Gives a) = KindTold t a × IsBare a
  IsTest _ = Unit {0}

  tested : (c : Bool) (a : Kind) → (c ≡ true → KindTold t a × IsBare a) → IsTest (if c then Gives a else Outside)
  tested true a h = h refl
  tested false a h = tt

  word_is : (s : ℕ) (g : RBase) (z : ℤ) → base_at t (base t s) ≡ Some g → is_scalar g ≡ true → has_number g z ≡ true → IsTest (word_constant s z)
  word_is s g (pos n) is of h = tested (between (pos 0) (pos n) (pos 65535)) (k.Scalar s n) (λ few. ((g, is, of, h), tt))
  word_is s g (negsuc n) is of h = tt

  absolute_is : (z : ℤ) → IsTest (absolute z)
  absolute_is z = tested (between (pos 0) (pos (nat_abs z)) (pos 65535)) (k.Whole (pos (nat_abs z))) (λ h.
      let e = bounds (pos 0) (pos (nat_abs z)) (pos 65535) h in (in_range (negsuc 32767) (pos (nat_abs z)) (pos 65535) (omega (arith, ints)) e.1, tt))

  oddness_is : (z : ℤ) → IsTest (oddness z)
  oddness_is z = (cond_both (is_odd z) _ _ (HasWord t boolean) (λ is. (b.Truth, refl, refl, refl)) (λ is. (b.Truth, refl, refl, refl)), tt)

  capital_is : (z : ℤ) → has_number b.Character z ≡ true → IsTest (word_constant char (capital z))
  capital_is z h = word_is char b.Character (capital z) refl refl (cond_both (between (pos 97) z (pos 122)) _ _ (λ z. has_number b.Character z ≡ true)
      (λ is. let e = bounds (pos 97) z (pos 122) is in in_range (pos 0) (z -ℤ pos 32) (pos 255) (omega (arith, ints, e.0)) (omega (arith, ints, e.1))) (λ is. h))

-- ---- a standard procedure or function, and the number of its arguments
abbrev pub IsCalled : Bool → Standard → List Argument → Bool → Type 0
IsCalled wanted of xs c = (c ≡ true) × (takes_count of (length xs) ≡ true) × (agrees wanted (is_function of) ≡ true)

pub standard_right : (p : Place) (wanted : Bool) (of : Standard) (xs : List Argument) → Right (IsCalled wanted of xs) (standard_node p wanted of (length xs))
unfolding standard_node
standard_right p wanted of xs clear = let count = is_so _ clear.0 in let is = is_so _ clear.1.0 in ((λ i. is i && count i), count, is)

-- ---- operands that aren't constants
pub some_there : {A : Type 0} (o : Option A) → is_some o ≡ true → (a : A) × (o ≡ Some a)
some_there None h = cc
some_there (Some a) h = (a, refl)

pub same_again : (n : ℕ) → (n == n) ≡ true
same_again n = grind (arith, nat_tests)

-- what is compatible with a type is a value of it
compatible_suits : (t : Table) (q : ℕ) (a : Kind) → compatible t a (k.Of q) ≡ true → suits t q a ≡ true
unfolding compatible suits
compatible_suits t q (k.Scalar s w) h = grind (arith, nat_tests, h)
compatible_suits t q _ h = grind (arith, nat_tests, h)

two_words : (g : Function) → sizes.function_depth g ≤ 2
two_words Odd = omega arith
two_words _ = omega arith

no_nil : (t : Table) → (has_nil t integer ≡ false) × (has_nil t cardinal ≡ false) × (has_nil t char ≡ false)
unfolding has_nil target is_opaque shape
no_nil t = (refl, refl, refl)

module _ (t : Table) (told : IsTold t) where
  -- the constant of a type by its number
  constant_told : (s : ℕ) (u : Span) (z : ℤ) → span_of t s ≡ Some u → u.low ≤ℤ z → z ≤ℤ u.high → IsTest t (constant_of t s z)
  unfolding constant_of
  constant_told s u z is low high =
      let o : IsOrdinal t s u = ordinal_is t told s u is in
      let e = number_bounds o.kind.base o.ordinal in
      cond_both (is_whole t s) _ _ (IsTest t) (λ whole. (in_range (negsuc 32767) z (pos 65535) (omega (arith, ints, e.0, o.from, low)) (omega (arith, ints, e.1, o.to, high)), tt))
      (λ other. word_is t s o.kind.base z o.base (scalar_at t (base t s) o.kind.base o.base o.ordinal other) (in_range _ z _ (omega (arith, ints, o.from, low)) (omega (arith, ints, o.to, high))))

  converted_told : (s : ℕ) (u : Span) (z : ℤ) → span_of t s ≡ Some u → IsTest t (converted_number t s z)
  converted_told s u z is = subst (λ o. IsTest t (if outside o (Some z) then Outside else constant_of t s z)) (sym is)
      (cond_both (not (between u.low z u.high)) _ _ (IsTest t) (λ out. tt) (λ inside. let e = bounds u.low z u.high (is_so _ inside) in constant_told s u z is e.0 e.1))

  extreme_told : (of : Standard) (s : ℕ) → IsTest t (extreme t of s)
  unfolding extreme
  extreme_told of s = by of (span_of t s) refl
    where
      by : (of : Standard) (o : Option Span) → span_of t s ≡ o → IsTest t (extreme_by t of s o)
      by standard.Min (Some u) is = constant_told s u u.low is (omega (arith, ints)) (ordinal_is t told s u is).ordered
      by standard.Max (Some u) is = constant_told s u u.high is (ordinal_is t told s u is).ordered (omega (arith, ints))
      by standard.Min None is = tt
      by standard.Max None is = tt
      by _ o is = tt

  -- ---- the numbers of characters
  character_number : (a : Kind) (z : ℤ) → KindTold t a → suits t char a ≡ true → number t a ≡ Some z → has_number b.Character z ≡ true
  unfolding suits number
  character_number (k.Whole n) z fine h is = cc
  character_number (k.Scalar s w) z fine h is =
      let same : base t s ≡ char = sym (same_sort char (base t s) h) in
      let one : fine.0 ≡ b.Character = same_Some fine.0 b.Character (sym fine.1 ∙ ap (base_at t) same) in
      let word : pos w ≡ z = same_Some (pos w) z (sym (ap (λ n. Some (if n == integer then number_of Integer w else pos w)) same) ∙ (if_some (is_some (span_of t s)) _ z is).1) in
      subst (λ z. has_number b.Character z ≡ true) word (subst (λ g. has_number g (pos w) ≡ true) one fine.3)
  character_number (k.Chars c) z fine h is = subst (λ z. has_number b.Character z ≡ true) (same_Some (pos c.first) z (if_some (c.length == 1) _ z is).1) (is_character_number c.first fine)
  character_number _ z fine h is = absurd (none-some z is)

module _ {t : Table} {vs : RNamed → Option RVar} {around : List ℕ} {R : Reach} (P : Property t vs around R) (told : IsTold t) where
  -- what a function of an operand of a depth gives, and its form
  abbrev IsGiven : ℕ → Form → Applied → Type 0
  IsGiven d x (Gives a) = KindTold t a × GoesWith P (function_depth a d) a (kept_form x a)
  IsGiven d x _ = Unit {0}

  -- ---- what goes with the operand of a function
  module _ (d : ℕ) (f : Form) where
    abbrev Operand : RBase → Kind → Type 0
    Operand g a = IsThere (Yields P g d) (typed_by t cardinal a f)

    suited : (q : ℕ) (g : RBase) (a : Kind) → base_at t (base t q) ≡ Some g → has_nil t q ≡ false → KindTold t a → GoesWith P d a f → suits t q a ≡ true → number t a ≡ None → Operand g a
    unfolding suits number
    suited q g (k.Whole z) is nil fine goes h none = absurd (none-some z (sym none))
    suited q g k.Nil is nil fine goes h none = absurd (true≢false (sym h ∙ nil))
    suited q g (k.Routine r) is nil fine goes h none = cc
    suited q g a is nil fine goes h none = kind_yields P told q g d a f is fine goes h

    counting : (a : Kind) → KindTold t a → GoesWith P d a f → is_integer t a ≡ true → number t a ≡ None → Operand b.Integer a
    unfolding number
    counting (k.Whole z) fine goes h none = absurd (none-some z (sym none))
    counting a fine goes h none = suited integer b.Integer a refl (no_nil t).0 fine goes (compatible_suits t integer a h) none

    -- a number that is no constant
    numbered : (a : Kind) → KindTold t a → GoesWith P d a f → is_number t a ≡ true → number t a ≡ None → (g : RBase) × (kinds.is_whole (base_view g) ≡ true) × Operand g a
    numbered a fine goes h none = elim (either (is_integer t a) (compatible t a (k.Of cardinal)) h) [
      | inl e ↦ (b.Integer, refl, counting a fine goes e none)
      | inr e ↦ (b.Cardinal, refl, suited cardinal b.Cardinal a refl (no_nil t).1 fine goes (compatible_suits t cardinal a e) none)
    ]

    ordered : (a : Kind) → KindTold t a → GoesWith P d a f → is_ordinal t a ≡ true → number t a ≡ None → (g : RBase) × (kinds.is_ordinal (base_view g) ≡ true) × Operand g a
    unfolding is_ordinal number suits
    ordered (k.Whole z) fine goes h none = absurd (none-some z (sym none))
    ordered (k.Scalar s w) fine goes h none = absurd (none-some _ (sym none ∙ cond-true (is_some (span_of t s)) _ _ h))
    ordered (k.Chars c) fine goes h none = absurd (none-some _ (sym none ∙ cond-true (c.length == 1) _ _ h))
    ordered k.Nil fine goes h none = cc
    ordered (k.Of s) fine goes h none =
        let u = some_there (span_of t s) h in
        let o : IsOrdinal t s u.0 = ordinal_is t told s u.0 u.1 in
        (o.kind.base, o.ordinal, kind_yields P told s o.kind.base d (k.Of s) f o.base fine goes (same_again (base t s)))
    ordered (k.Open s) fine goes h none = cc
    ordered (k.Routine s) fine goes h none = cc

    -- ---- what a function gives
    constant_given : (x : Form) (a : Applied) → IsTest t a → IsGiven d x a
    constant_given x (Gives a) h = (h.0, bare P (function_depth a d) a (kept_form x a) h.1)
    constant_given x _ h = tt

    taken_given : (x : Form) (c : Bool) (a : Applied) → (c ≡ true → IsGiven d x a) → IsGiven d x (where_taken c a)
    taken_given x true a h = h refl
    taken_given x false a h = tt

    number_given : (x : Form) (s : ℕ) (g : ℤ → Applied) (o : Option ℤ) → ((z : ℤ) → o ≡ Some z → IsTest t (g z)) → (o ≡ None → IsGiven d x (Gives (k.Of s))) → IsGiven d x (value_by s g o)
    number_given x s g None h j = j refl
    number_given x s g (Some z) h j = constant_given x (g z) (h z refl)

    -- a function of a value of a base
    value_given : (s : ℕ) (j : RKind) (g : RFunction) (i : RBase) (o : Option RExpr) → 1 ≤ d → kind_at t s ≡ Some j → takes_function (function_of g (base_view i)) (base_view i) ≡ true → function_kind (function_of g (base_view i)) ≡ base_view j.base
        → IsThere (Yields P i d) o → IsGiven d (value_form (applied (Some g) o)) (Gives (k.Of s))
    unfolding is_constant
    value_given s j g i None some at takes gives h = absurd h
    value_given s j g i (Some y) some at takes gives h = (
      (λ n. is_some (at n) || composite_at t s),
      record {
        as_kind = j;
        at = at;
        kind = ap kind_of (apply_is g y) ∙ ap (λ v. function_kind (function_of g v)) h.0 ∙ gives;
        deep = subst (λ a. depth a ≤ max 1 d + 1) (sym (apply_is g y)) (omega (arith, some, h.1, two_words (function_of g (kind_of (expression_of y)))));
        good = P.apply g y (ap (λ v. takes_function (function_of g v) v) h.0 ∙ takes) h.2;
      },
    )

    -- HIGH of an open array
    high_given : (a : Kind) → GoesWith P d a f → IsGiven d (value_form (high_of f)) (gives_where (is_open a) cardinal)
    unfolding is_constant
    high_given (k.Open s) goes = by f goes
      where
        by : (f : Form) → GoesWith P d (k.Open s) f → IsGiven d (value_form (high_of f)) (Gives (k.Of cardinal))
        by (form.Open o) goes = (
          refl,
          record {
            as_kind = plain b.Cardinal;
            at = refl;
            kind = ap kind_of (high_is o.levels o.number);
            deep = subst (λ a. depth a ≤ max 1 d + 1) (sym (high_is o.levels o.number)) (omega arith);
            good = P.high o goes.good;
          },
        )
        by _ goes = absurd goes
    high_given _ goes = tt

  function_told : (of : Standard) (s : ℕ) (x : Found) → 1 ≤ x.depth → KindTold t x.kind → GoesWith P x.depth x.kind x.form → IsGiven x.depth (value_form (function_value t of s x)) (function t of s x.kind)
  unfolding function converted span_of typed
  function_told standard.Abs s x some fine goes = taken_given x.depth x.form _ (is_integer t x.kind) _ (λ h.
      number_given x.depth x.form _ integer absolute (number t x.kind) (λ z is. absolute_is t z) (λ none. value_given x.depth x.form integer (plain b.Integer) fn.Abs b.Integer _ some refl refl refl (counting x.depth x.form x.kind fine goes h none)))
  function_told standard.Cap s x some fine goes = taken_given x.depth x.form _ (compatible t x.kind (k.Of char)) _ (λ h.
      let suits = compatible_suits t char x.kind h in
      number_given x.depth x.form _ char (λ z. word_constant char (capital z)) (number t x.kind) (λ z is. capital_is t z (character_number t told x.kind z fine suits is))
      (λ none. value_given x.depth x.form char (plain b.Character) fn.Cap b.Character _ some refl refl refl (suited x.depth x.form char b.Character x.kind refl (no_nil t).2 fine goes suits none)))
  function_told standard.Chr s x some fine goes = taken_given x.depth x.form _ (is_number t x.kind) _ (λ h.
      number_given x.depth x.form _ char (converted_number t char) (number t x.kind) (λ z is. converted_told t told char _ z refl)
      (λ none. let n = numbered x.depth x.form x.kind fine goes h none in value_given x.depth x.form char (plain b.Character) fn.Chr n.0 _ some refl n.1 refl n.2))
  function_told standard.High s x some fine goes = high_given x.depth x.form x.kind goes
  function_told standard.Odd s x some fine goes = taken_given x.depth x.form _ (is_number t x.kind) _ (λ h.
      number_given x.depth x.form _ boolean oddness (number t x.kind) (λ z is. oddness_is t z) (λ none. let n = numbered x.depth x.form x.kind fine goes h none in value_given x.depth x.form boolean (plain b.Truth) fn.Odd n.0 _ some refl n.1 refl n.2))
  function_told standard.Ord s x some fine goes = taken_given x.depth x.form _ (is_ordinal t x.kind) _ (λ h.
      number_given x.depth x.form _ cardinal (converted_number t cardinal) (number t x.kind) (λ z is. converted_told t told cardinal _ z refl)
      (λ none. let n = ordered x.depth x.form x.kind fine goes h none in value_given x.depth x.form cardinal (plain b.Cardinal) fn.Ord n.0 _ some refl n.1 refl n.2))
  function_told standard.Val s x some fine goes = taken_given x.depth x.form _ (is_some (span_of t s) && is_ordinal t x.kind) _ (λ h.
      let u = some_there (span_of t s) (both_left (is_some (span_of t s)) (is_ordinal t x.kind) h) in
      let o : IsOrdinal t s u.0 = ordinal_is t told s u.0 u.1 in
      number_given x.depth x.form _ s (converted_number t s) (number t x.kind) (λ z is. converted_told t told s u.0 z u.1) (λ none.
      let n = ordered x.depth x.form x.kind fine goes (both_right (is_some (span_of t s)) (is_ordinal t x.kind) h) none in
      subst (λ m. IsGiven x.depth (value_form (applied (option_map fn.Val m) (typed_by t cardinal x.kind x.form))) (Gives (k.Of s))) (sym o.at)
      (value_given x.depth x.form s o.kind (fn.Val o.kind) n.0 _ some o.at (λ i. n.1 i && (ap kinds.is_ordinal (own_base o.kind) ∙ o.ordinal) i) (own_base o.kind) n.2)))
  function_told _ s x some fine goes = tt

  -- ---- calls
  module _ (p : Place) (of : Standard) where
    abbrev IsRight : Option Found × List Row → Type 0
    IsRight m = Right (IsThere (IsFound P)) m

    applied_right : (at : Place) (d : ℕ) (f : Form) (a : Applied) → d ≤ 12 → IsGiven d f a → IsRight (applied_node p at d f a)
    unfolding applied_node
    applied_right at d f Refused few h clear = absurd (true≢false clear.0)
    applied_right at d f Outside few h clear = absurd (true≢false clear.1.0)
    applied_right at d f (Gives a) few h clear = record { kind = h.0; form = h.1; place = tt; some = grind (arith); few = grind (arith, few) }

    type_right : (at : Place) (s : ℕ) → IsRight (of_type t p of at s)
    unfolding no_value
    type_right at s = cond_both (is_extreme of) _ _ IsRight
        (λ is. applied_right at 1 form.Nothing (extreme t of s) (omega arith) (constant_given 1 form.Nothing form.Nothing (extreme t of s) (extreme_told t told of s))) (λ is clear. absurd (true≢false clear.0))

    given_right : (s : ℕ) (x : Found) → IsFound P x → IsRight (applied_node p x.first x.depth (function_form t of s x) (function t of s x.kind))
    given_right s x h = applied_right x.first x.depth (function_form t of s x) (function t of s x.kind) h.few (function_told of s x h.some h.kind h.form)

    value_right : (x : Found) → IsFound P x → IsRight (of_value t p of x)
    unfolding no_type
    value_right x h = cond_both (is_extreme of) _ _ IsRight (λ is clear. absurd (true≢false clear.0)) (λ is. given_right integer x h)

    one_right : (a : Argument) → ArgumentTold P a → IsRight (of_one t p of a)
    one_right (argument.Value (Some x)) h = value_right x h
    one_right (argument.Type at (Some s)) h = type_right at s
    one_right _ h = absurd h

    converted_right : (s : ℕ) (x : Found) (c : Bool) → IsFound P x → c ≡ true → IsRight (converted_if t p of s x c)
    converted_right s x c h is = subst (λ c. IsRight (converted_if t p of s x c)) (sym is) (after_right (IsThere (IsFound P)) (IsThere (IsFound P)) _ _ (given_right s x h) (λ o j clear. j))

    two_right : (a c : Argument) → ArgumentTold P a → ArgumentTold P c → IsRight (of_two t p of a c)
    unfolding no_type no_value ordinal_node
    two_right (argument.Value None) c h j = absurd h
    two_right (argument.Value (Some x)) c h j = λ clear. absurd (true≢false clear.0)
    two_right (argument.Type at None) c h j = absurd h
    two_right (argument.Type at (Some s)) (argument.Value None) h j = absurd j
    two_right (argument.Type at (Some s)) (argument.Value (Some x)) h j = after_right (λ c. c ≡ true) (IsThere (IsFound P)) (ordinal_node t at s) (converted_if t p of s x) (λ clear. is_so _ clear.0) (λ c. converted_right s x c j)
    two_right (argument.Type at (Some s)) (argument.Type q n) h j = λ clear. absurd (true≢false clear.0)

    all_right : (xs : List Argument) → takes_count of (length xs) ≡ true → is_function of ≡ true → AllFine (ArgumentTold P) xs → IsRight (of_all t p of xs)
    all_right [] count is h = absurd (some of count is)
      where
        some : (of : Standard) → takes_count of 0 ≡ true → is_function of ≡ true → ⊥
        some standard.Halt h j = cc
        some _ h j = cc
    all_right (x ∷ []) count is h = one_right x h.0
    all_right (x ∷ y ∷ ys) count is h = two_right x y h.0 h.1.0

    pub function_right : (xs : List Argument) → AllFine (ArgumentTold P) xs → IsRight (function_mean t p of xs)
    function_right xs h =
        after_right (IsCalled true of xs) (IsThere (IsFound P)) (standard_node p true of (length xs)) (function_if t p of xs) (standard_right p true of xs) (λ c j.
        subst (λ c. IsRight (function_if t p of xs c)) (sym j.0) (all_right xs j.1 j.2 h))
