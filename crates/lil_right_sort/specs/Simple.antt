-- Types that may be an index or a set's base: where no test finds a fault something lies in them, and what is declared stays told.
use Rattle.std.proofs.Common.{◌≡◌, ℕ, suc, ◌+◌, ◌<◌, ◌≤◌, true, false, not, ◌&&◌, List, [], ◌∷◌, length, Option, Some, None, if◌then◌else◌, refl, sym, ap, subst, ◌∙◌, arith, true≢false}
use Rattle.std.specs.Prelude.{ℤ, pos, ◌≤ℤ◌, int_lt, nat_le, is_none, is_some}
use Rattle.std.proofs.lemmas.{Int.ints, List.length-map, Bool.Decides.nat_tests}
use Rattle.lil_base.specs.declared.fault.Place.{Place}
use Rattle.lil_text.specs.declared.tree.{Ident.Ident, Qualident.Qualident}
use Rattle.lil_language.specs.declared.{tree.Expr.Expr, unit.Simple.Simple}
use Rattle.lil_language.specs.declared.unit.Simple.TheVariants as simple
use Rattle.lil_types.specs.{Types.{Table, entry, base}, Adding.{own, added, added_number}, declared.table.{Facts.Facts, Origin.Origin, Span.Span, TypeForm.TypeForm}}
use Rattle.lil_types.specs.declared.table.TypeForm.TheVariants as form
use Rattle.lil_report.specs.Told.{Row, after, walk}
use Rattle.lil_resolved.specs.declared.resolved.RBase.TheVariants as b
use Rattle.lil_scope.specs.{declared.env.Env.Env, Names.{bind, bind_at}}
use Rattle.lil_scope.specs.Names as names
use Rattle.lil_shapes.specs.{Bases.{base_by, base_at}, Operators.has_number}
use Rattle.lil_check_value.specs.{Looks.type_named, Values.asked_means}
use Rattle.lil_check_type.specs.{Made.{Made, type_node, form_node, ordinal_node}, Bounds.{bound_of, range_node}, Simple.{names_of, constant_thing, next_word, constant_step, names_node, enumeration_means, given, base_means, simple_means, simple_place, simple_first, index_means, is_short, base_node, set_means}}
use Rattle.lil_check_type.specs.Made as made
use Rattle.lil_forms.specs.{Properties.nothing, Variables.seen}
use Rattle.lil_right_type.specs.{Right.{Clear, Right, IsThere, clear_left, clear_right, after_right, is_so}, Types.{HasSpan, IsTold, entry_base}, Found.{reach, HasWord, IsKnown}}
use Rattle.lil_right_value.specs.{Values.asked_right, Names.{Lies, named_lies}}
use Rattle.lil_right_sort.specs.{Growth.{Few, Grown, grown_same, grown_more, few_before, Kept, grown_kept, PartsTold, added_grown, added_entry, added_lies, added_told, declared_added, bound_declared, Declared}, Ranges.{NamedTold, range_right}}

-- what is declared at first is told, if all that is declared at last has few constants
abbrev pub Begun : Env → Type 0
Begun e = Few e.types → Declared e

-- the types of before are there, and the procedures are those of before
abbrev pub Later : Env → Env → Type 0
Later e f = Grown e.types f.types × ((f.procedures ≡ e.procedures) × (f.procedure ≡ e.procedure))

pub later_same : (e : Env) → Later e e
later_same e = (grown_same e.types, (refl, refl))

pub later_more : (e f g : Env) → Later e f → Later f g → Later e g
later_more e f g h j = (grown_more e.types f.types g.types h.0 j.0, (j.1.0 ∙ h.1.0, j.1.1 ∙ h.1.1))

-- what is declared behind this, and true there
abbrev pub Follows : Env → Env → Type 0 → Type 0
Follows e f P = Later e f × (Few f.types → Declared f × P)

module _ (e f g : Env) (P Q R : Type 0) where
  pub follows : Follows e f P → Follows f g Q → (IsTold f.types → Kept 0 f.types g.types → P → Q → R) → Follows e g R
  follows h j both = (
    later_more e f g h.0 j.0,
    λ few.
        let before = h.1 (few_before f.types g.types j.0.0 few) in
        let now = j.1 few in
        (now.0, both before.0.told.types (grown_kept f.types g.types j.0.0) before.1 now.1),
  )

-- what a type declares, and the type itself
abbrev pub SortTold : Env → Made → Type 0
SortTold e m = Follows e m.0 (Lies m.0.types m.1)

-- a type with an order
abbrev pub IndexTold : Env → Made → Type 0
IndexTold e m = Follows e m.0 (IsThere (HasSpan m.0.types) m.1)

pub sort_later : (e f : Env) (m : Made) → Later e f → SortTold f m → SortTold e m
sort_later e f m later h = (later_more e f m.0 later h.0, h.1)

-- what each step keeps where it finds no fault
module _ {S X : Type 0} (P : S → Type 0) (f : S → X → S × List Row) (keeps : (s : S) (x : X) → P s → Right P (f s x)) where
  pub walk_keeps : (s : S) (xs : List X) → P s → Right P (walk f s xs)
  walk_keeps s [] h clear = h
  walk_keeps s (x ∷ xs) h clear = after_right P P (f s x) (λ s. walk f s xs) (keeps s x h) (λ t j. walk_keeps t xs j) clear

there_is : {A : Type 0} (o : Option A) → is_none o ≡ false → (a : A) × (o ≡ Some a)
there_is None h = absurd (true≢false h)
there_is (Some a) h = (a, refl)

module _ (e : Env) (begun : Begun e) where
  -- ---- a next type
  pub type_right : (p : Place) (form : TypeForm) → (Few e.types → PartsTold e.types form) → Right (SortTold e) (type_node e p form)
  unfolding type_node
  type_right p form made clear = (
    (grown, (refl, refl)),
    λ few.
        let h : Declared e = begun (few_before e.types u grown few) in
        let parts = made (few_before e.types u grown few) in
        let n = there_is (added_number e.types form) clear.0 in
        (declared_added e h (own e.types) form parts few, subst (Lies u) (sym n.1) (added_lies e.types (own e.types) form h.told.types h.told.words parts few n.0 n.1)),
  )
    where
      u : Table
      u = added e.types (own e.types) form

      grown : Grown e.types u
      grown = added_grown e.types (own e.types) form

  pub form_right : (p : Place) (o : Option TypeForm) → (Few e.types → IsThere (PartsTold e.types) o) → Right (SortTold e) (form_node e p o)
  form_right p None made clear = (later_same e, λ few. absurd (made few))
  form_right p (Some form) made clear = type_right p form made clear

  pub named_right : (q : Qualident) → Right (λ o. Few e.types → Lies e.types o) (type_named e q)
  named_right q clear few = named_lies e (begun few).told q clear

-- ---- ordinal types
pub ordinal_right : (t : Table) (p : Place) (o : Option ℕ) → Right (λ r. Lies t o → IsThere (HasSpan t) r) (ordinal_node t p o)
unfolding ordinal_node
ordinal_right t p None clear h = absurd h
ordinal_right t p (Some n) clear h =
    let s = there_is (made.span_of t n) clear.0 in
    subst (λ o. IsThere (HasSpan t) (if is_some o then Some n else None)) (sym s.1) (s.0, s.1)

-- ---- sets
short_is : (o : Option Span) → is_short o ≡ true → (s : Span) × (o ≡ Some s) × (pos 0 ≤ℤ s.low) × (s.high ≤ℤ pos 15)
short_is None h = absurd (true≢false (sym h))
short_is (Some s) h = let ends = within s.low s.high h in (s, refl, ends.0, ends.1)
  where
    within : (x y : ℤ) → (not (int_lt x (pos 0)) && not (int_lt (pos 15) y)) ≡ true → (pos 0 ≤ℤ x) × (y ≤ℤ pos 15)
    within x y h = grind (arith, ints)

pub base_right : (t : Table) (p : Place) (o : Option ℕ) → Right (λ f. Lies t o → IsThere (PartsTold t) f) (base_node t p o)
unfolding base_node
base_right t p None clear h = absurd h
base_right t p (Some n) clear h =
    let short = is_so (is_short (made.span_of t n)) clear.0 in
    let s = short_is (made.span_of t n) short in
    subst (λ c. IsThere (PartsTold t) (if c then Some (form.SetOf n) else None)) (sym short) (s.0, s.1, s.2, s.3)

-- ---- enumerations: their constants are words
pub entry_words : (t : Table) → IsTold t → (n : ℕ) (o : Origin) (f : Facts) (xs : List (List ℕ)) → entry t n ≡ Some (record { origin = o; form = form.Enumeration xs; facts = f }) → (w : ℕ) → w < length xs → HasWord t n w
entry_words t told n o f xs is w h = (b.Enumeration (length xs), at, refl, within w (length xs) h)
  where
    fits : nat_le (length xs) 65535 ≡ true
    fits = let few = (told n _ is).2 in grind (arith, nat_tests)

    at : base_at t (base t n) ≡ Some (b.Enumeration (length xs))
    at =
        ap (base_at t) (entry_base t told n _ is ∙ ap (λ (f : Facts). f.base) (told n _ is).0)
        ∙ ap (base_by n) is ∙ ap (λ c. if c then Some (b.Enumeration (length xs)) else None) fits

    within : (w n : ℕ) → w < n → has_number (b.Enumeration n) (pos w) ≡ true
    within w n h = grind (arith, nat_tests, ints)

-- so many constants of a type
abbrev HasWords : Table → ℕ → Option ℕ → Type 0
HasWords t count o = IsThere (λ n. (w : ℕ) → w < count → HasWord t n w) o

-- the constants from one number on
constants_right : (count : ℕ) (n : Option ℕ) (s : Env × ℕ) (is : List Ident) → (Few s.0.types → Declared s.0 × HasWords s.0.types count n × (count ≤ 65535) × (s.1 + length is ≤ count))
    → Right (λ r. (r.0.types ≡ s.0.types) × ((r.0.procedures ≡ s.0.procedures) × (r.0.procedure ≡ s.0.procedure)) × (Few s.0.types → Declared r.0)) (walk (constant_step n) s is)
unfolding after bind_at
constants_right count n s [] h clear = (refl, (refl, refl), λ few. (h few).0)
constants_right count n s (i ∷ is) h clear = constants_right count n (constant_step n s i).0 is next (clear_right (constant_step n s i).1 (walk (constant_step n) (constant_step n s i).0 is).1 clear)
  where
    step : (n : Option ℕ) → Declared s.0 → HasWords s.0.types count n → s.1 < count → Declared (bind s.0 i (constant_thing n s.1)).0
    step None d words below = absurd words
    step (Some n) d words below = bound_declared s.0 d s.0.scopes.inner i.name (names.entry (constant_thing (Some n) s.1) i.place) ((words s.1 below, tt), (tt, tt))

    later : (w n count : ℕ) → count ≤ 65535 → w + suc n ≤ count → next_word w + n ≤ count
    later w n count few h = grind (arith, nat_tests)

    next : Few s.0.types → Declared (bind s.0 i (constant_thing n s.1)).0 × HasWords s.0.types count n × (count ≤ 65535) × (next_word s.1 + length is ≤ count)
    next few =
        let j = h few in
        let room : s.1 + suc (length is) ≤ count = j.3 in
        (step n j.0 j.1 (omega arith), j.1, j.2, later s.1 (length is) count j.2 room)

words_right : (e : Env) (begun : Begun e) (p : Place) (xs : List (List ℕ)) → 1 ≤ length xs → Right (λ m. Few m.0.types → HasWords m.0.types (length xs) m.1 × (length xs ≤ 65535)) (type_node e p (form.Enumeration xs))
unfolding type_node
words_right e begun p xs some clear few = (subst (HasWords u (length xs)) (sym n.1) (entry_words u told n.0 (own e.types) x.0 xs x.1), few n.0 _ xs x.1 refl)
  where
    u : Table
    u = added e.types (own e.types) (form.Enumeration xs)

    before : Declared e
    before = begun (few_before e.types u (added_grown e.types (own e.types) (form.Enumeration xs)) few)

    told : IsTold u
    told = (added_told e.types (own e.types) (form.Enumeration xs) before.told.types before.told.words some few).0

    n : (n : ℕ) × (added_number e.types (form.Enumeration xs) ≡ Some n)
    n = there_is (added_number e.types (form.Enumeration xs)) clear.0

    x : (f : Facts) × (entry u n.0 ≡ Some (record { origin = own e.types; form = form.Enumeration xs; facts = f }))
    x = added_entry e.types (own e.types) (form.Enumeration xs) n.0 n.1

enumeration_right : (e : Env) → Begun e → (p : Place) (is : List Ident) → Right (SortTold e) (enumeration_means e p is)
unfolding after names_node
enumeration_right e begun p is clear = (
  (subst (λ t. Grown e.types t) (sym constants.0) typed.0.0, (constants.1.0 ∙ typed.0.1.0, constants.1.1 ∙ typed.0.1.1)),
  λ few. let here : Few m.0.types = subst Few constants.0 few in (constants.2 here, subst (λ t. Lies t m.1) (sym constants.0) (typed.1 here).1),
)
  where
    xs : List (List ℕ)
    xs = names_of is

    some : 1 ≤ length xs
    some = let same = length-map is (λ (i : Ident). i.name) in let one = clear.0 in grind (arith, nat_tests)

    m : Made
    m = (type_node e p (form.Enumeration xs)).0

    clear_type : Clear (type_node e p (form.Enumeration xs)).1
    clear_type = clear_left (type_node e p (form.Enumeration xs)).1 _ clear.1

    typed : SortTold e m
    typed = type_right e begun p (form.Enumeration xs) (λ few. some) clear_type

    last : Env
    last = (walk (constant_step m.1) (m.0, 0) is).0.0

    constants : (last.types ≡ m.0.types) × ((last.procedures ≡ m.0.procedures) × (last.procedure ≡ m.0.procedure)) × (Few m.0.types → Declared last)
    constants = constants_right (length xs) m.1 (m.0, 0) is
        (λ few. let words = words_right e begun p xs some clear_type few in ((typed.1 few).0, words.0, words.1, let same = length-map is (λ (i : Ident). i.name) in omega arith))
        (clear_left (walk (constant_step m.1) (m.0, 0) is).1 [] (clear_right (type_node e p (form.Enumeration xs)).1 _ clear.1))

-- ---- subranges
named_base_right : (e : Env) → Begun e → (q : Option Qualident) → Right (λ n. Few e.types → NamedTold e.types n) (base_means e q)
named_base_right e begun None = λ clear few. tt
named_base_right e begun (Some q) =
    after_right (λ o. Few e.types → Lies e.types o) (λ n. Few e.types → NamedTold e.types n) (type_named e q) _ (named_right e begun q)
    (λ o h. after_right (λ o. Few e.types → IsThere (HasSpan e.types) o) (λ n. Few e.types → NamedTold e.types n) (ordinal_node e.types q.name.place o) _ (λ clear few. ordinal_right e.types q.name.place o clear (h few)) (λ o j clear few. given_told o (j few)))
  where
    given_told : (o : Option ℕ) → IsThere (HasSpan e.types) o → NamedTold e.types (given o)
    given_told None h = absurd h
    given_told (Some n) h = h

expression_there : (e : Env) → Begun e → (x : Expr) → Right (λ a. Few e.types → IsThere (IsKnown e) a) (asked_means e x)
expression_there e begun x clear few = asked_right e (nothing e.types (seen e) e.withs (reach e)) (begun few).told x clear

-- ---- all forms
pub simple_right : (e : Env) → Begun e → (x : Simple) → Right (SortTold e) (simple_means e x)
unfolding simple_means
simple_right e begun (simple.Named q) = after_right (λ o. Few e.types → Lies e.types o) (SortTold e) (type_named e q) _ (named_right e begun q) (λ o h clear. (later_same e, λ few. (begun few, h few)))
simple_right e begun (simple.Enumeration p is) = enumeration_right e begun p is
simple_right e begun (simple.Subrange p q x y) =
    after_right (λ n. Few e.types → NamedTold e.types n) (SortTold e) (base_means e q) _ (named_base_right e begun q)
    (λ n h. after_right (λ a. Few e.types → IsThere (IsKnown e) a) (SortTold e) (asked_means e x) _ (expression_there e begun x)
    (λ a first. after_right (λ c. Few e.types → IsThere (IsKnown e) c) (SortTold e) (asked_means e y) _ (expression_there e begun y)
    (λ c last. after_right (λ o. Few e.types → IsThere (PartsTold e.types) o) (SortTold e) (range_node e.types p n (bound_of a) (bound_of c)) (form_node e p)
    (λ clear few. range_right e.types (begun few).told.types (nothing e.types (seen e) e.withs (reach e)) p n a c (h few) (first few) (last few) clear) (form_right e begun p))))

pub index_right : (e : Env) → Begun e → (x : Simple) → Right (IndexTold e) (index_means e x)
index_right e begun x =
    after_right (SortTold e) (IndexTold e) (simple_means e x) _ (simple_right e begun x)
    (λ m h. after_right (λ o. Few m.0.types → IsThere (HasSpan m.0.types) o) (IndexTold e) (ordinal_node m.0.types (simple_place x) m.1) _
    (λ clear few. ordinal_right m.0.types (simple_place x) m.1 clear (h.1 few).1) (λ o j clear. (h.0, λ few. ((h.1 few).0, j few))))

pub set_right : (e : Env) → Begun e → (p : Place) (x : Simple) → Right (SortTold e) (set_means e p x)
set_right e begun p x =
    after_right (SortTold e) (SortTold e) (simple_means e x) _ (simple_right e begun x)
    (λ m h. after_right (λ o. Few m.0.types → IsThere (PartsTold m.0.types) o) (SortTold e) (base_node m.0.types (simple_first x) m.1) (form_node m.0 p)
    (λ clear few. base_right m.0.types (simple_first x) m.1 clear (h.1 few).1) (λ o made clear. sort_later e m.0 _ h.0 (form_right m.0 (λ few. (h.1 few).0) p o made clear)))
