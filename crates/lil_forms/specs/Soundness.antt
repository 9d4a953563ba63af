-- Soundness, in what lies in the variables that are seen and in the records of the WITHs around.
use Rattle.std.proofs.Common.{◌≡◌, ℕ, suc, ◌≤◌, ℤ, Bool, true, ◌+◌, false, List, [], ◌∷◌, ◌++◌, map, length, slice_get, Option, None, Some, IfSome, inl, inr, refl, sym, ap, ◌∙◌, subst}
use Rattle.std.specs.Prelude.{◌-◌}
use Rattle.std.specs.Option.{option_map}
use Rattle.std.proofs.lemmas.Option.{none-some, same_Some}
use Rattle.lil_base.specs.Words.{Cardinal}
use Rattle.lil_base.specs.declared.operator.{OneOp.OneOp, TwoOp.{TwoOp, TheVariants.{Or, And}}}
use Rattle.lil_types.specs.{Types.{Table, char, base, entry, other_of, meant_by}, declared.table.{Parameter.Parameter, TypeForm.{TheVariants.Procedure}}}
use Rattle.lil_declared.specs.Modes.{mode_of}
use Rattle.lil_declared.specs.declared.declared.{Mode.Mode, RVar.RVar}
use Rattle.lil_declared.specs.declared.declared.Mode.TheVariants as mode
use Rattle.lil_kinds.specs.{Forms.{form_in, of_form, parameters_in, parameters, result_of, result}, declared.found.{Form.Form, Located.Located, OpenArray.OpenArray}}
use Rattle.lil_kinds.specs.declared.found.Form.TheVariants as form
use Rattle.lil_resolved.specs.{Bases.own_base, Chains.set_kind, Kinds.{Kind, OfWhole, OfCharacter, OfSet, is_base, Shape, Address, Opened, along, Scope, Word, Row, element_of as elements, count_of, is_there, led_to, parameters_at, parameters_of, result_of as result_by, procedure_by, shape_by, shape_at}, Sizes.{place_depth, depth}, Resolved.{variable_at, shape_of, Argument, ByValue, OfPlace, OfAll, OfArray, OfText, OfOpened, Spelled, Expression, Two, kind_of, right_kind}}
use Rattle.lil_resolved.specs.Views.{by_value_is, of_place_is, of_all_is, of_array_is, of_text_is, of_opened_is, spelled_is, is_copied, variable_is, handed_is, along_is, held_is, high_is, invoke_is, routine_is, invoke_value_is, argument_of, arguments_of, field_is, index_is, follow_is, one_is, apply_is, chain_is, set_is, single_is, span_is, constant_is, taken_is, kind_view, held_by, named_view, base_view, expression_of, place_of, two_of, chained, with_members, empty_set, function_of, member_of, operation_of}
use Rattle.lil_resolved.specs.declared.resolved.{RArgument.RArgument, RBase.RBase, RExpr.RExpr, RFunction.RFunction, RKind.RKind, RMember.RMember, RNamed.RNamed, ROpening.{ROpening, TheVariants.{Copied, Lent}}, ROperation.ROperation, RPassing.RPassing}
use Rattle.lil_resolved.specs.declared.resolved.RNamed.TheVariants as named
use Rattle.lil_resolved.specs.declared.resolved.RPassing.TheVariants as passing
use Rattle.lil_resolved.specs.Resolved as resolved
use Rattle.lil_resolved.specs.Sound as sound
use Rattle.lil_resolved.specs.Sound.{IsScalar, IsSoundTarget, IsSoundExpression, IsSoundOpened, IsSoundCallee, IsSoundArgument, AreSoundArguments, parameter_of, parameters_given}
use Rattle.lil_resolved.specs.declared.resolved.RBase.TheVariants as b
use Rattle.lil_resolved.specs.declared.resolved.RExpr.TheVariants as e
use Rattle.lil_resolved.specs.declared.resolved.RMember.TheVariants as m
use Rattle.lil_resolved.specs.declared.resolved.RRoot.TheVariants as root
use Rattle.lil_resolved.specs.declared.resolved.RSelector.TheVariants as part
use Rattle.lil_shapes.specs.{declared.{composites.ArrayParts.ArrayParts, pointers.Target.Target}, Bases.{plain, base_at, kind_at, numbers_of, elements_in, elements_at, field_at, array_at, composite_at}, ListLaws.AllFine, Pointers.target_at, Shaping.{all_some, there, passing_of}, BaseLaws.{base_words, kind_base, literal_sound}}
use Rattle.lil_shapes.specs.{Signatures.{ParameterLies, passed, kind_returned, signature_in, signature_by, signature, signature_with}, SignatureSound.{IsProcedures, procedures_are, procedures_within, signature_at, parameters_there}}
use Rattle.lil_shapes.specs.SignatureSound.{all_passed as given_shapes}
use Rattle.lil_kinds.specs.Forms.{shape as form_of}
use Rattle.lil_shapes.specs.{ShapeSound.{mapped, there_is, field_shaped, element_shaped, composite_shaped, word_shaped}, TargetSound.{PointsTo, all_known, target_shaped}, Operators.{takes_two, is_a_truth, has_number}}
use Rattle.lil_forms.specs.{Places.{at_root, part_of, located_in, variable_form}, Values.{operation, returned}, Parts.{placed_is, further_is, chained_more, members_more}, Scopes.{Fits, IsPlaced, placed_as, Runs, has_shape, first_some, parameter_shape}, Properties.{Reach, IsValueFor, IsPlaceFor, IsWholeFor, IsArrayFor, IsTextFor, IsOpenFor, IsSpelledFor, IsHanded, AreHanded, Property, value_kind}, Statements.opening, Variables.{HoldsAddress, passing_by}}

-- elements that are there are those of an array
row_is : (x : Shape) → is_there (elements x) ≡ true → x ≡ Row (count_of x) (elements x)
row_is (Row n y) h = refl
row_is _ h = absurd (cc)

-- what forms are
same_place : (q p : Located) → form.Located q ≡ form.Located p → q ≡ p
same_place q p e = same_Some q p (ap located_in e)

abbrev pub open_in : Form → Option OpenArray
open_in (form.Open a) = Some a
open_in _ = None

same_open : (a c : OpenArray) → form.Open a ≡ form.Open c → a ≡ c
same_open a c e = same_Some a c (ap open_in e)

open_passing : (by_place : Bool) → passing_of (mode_of by_place true) ≡ passing.Open (opening by_place)
open_passing false = refl
open_passing true = refl

-- ---- procedure types, as the check finds their parameters and results
procedure_signature : (t : Table) (n : ℕ) → IsProcedures t n → signature t n ≡ record { parameters = map passed (parameters t n); result = kind_returned t (result t n) }
unfolding parameters result form_of
procedure_signature t n (inl h) =
    let form : form_of t n ≡ None = ap (λ m. form_in (entry t m)) (ap (meant_by n) h.1) ∙ ap form_in h.1 in
    ap (signature_by t) h.1 ∙ sym (ap (λ o. record { parameters = map passed (parameters_in o); result = kind_returned t (of_form result_of o) }) form)
procedure_signature t n (inr (e, ps, r, at, is)) =
    let form : form_of t n ≡ Some (Procedure ps r) = ap (λ m. form_in (entry t m)) (ap (meant_by n) at ∙ ap (other_of n) is) ∙ ap form_in at ∙ ap Some is in
    ap (signature_by t) at ∙ ap (signature_in t) is ∙ sym (ap (λ o. record { parameters = map passed (parameters_in o); result = kind_returned t (of_form result_of o) }) form)

module _ {t : Table} {vs : RNamed → Option RVar} {around : List ℕ} {R : Reach} {ts : Scope} (fits : Fits t vs around R ts) where
  abbrev pub Lies : Located → Type 0
  Lies p = IsPlaced fits.shapes ts p

  -- an open array that is a parameter has elements of its type
  pub record Opens (a : OpenArray) : Type 0 where
    pub shape : Shape
    pub at : slice_get (parameters_at ts a.levels) a.number ≡ Some (Opened (is_copied a.opening) shape)
    pub element : slice_get fits.shapes a.sort ≡ Some shape
    pub there : is_there shape ≡ true

  abbrev pub opens_soundly : (a : OpenArray) → Opens a → IsSoundOpened ts a.levels a.number
  opens_soundly a h = (is_copied a.opening, h.shape, h.at, h.there)

  -- ---- variables, and the records of WITHs
  -- a variable holds what lies in it, where it leads to, or where the elements of an open array do
  pub variable_lies : (n : RNamed) (v : RVar) (p : RPassing) → vs n ≡ Some v → passing_of v.mode ≡ p → (x : Shape) × (slice_get fits.shapes v.sort ≡ Some x) × (is_there x ≡ true) × (variable_at ts (named_view n) ≡ Some (held_by p x))
  variable_lies n v p is passed =
      let one = fits.variables n v is in
      let held = mapped (held_by p) (there (slice_get fits.shapes v.sort)) one.0 (ap (λ (p : RPassing). option_map (held_by p) (there (slice_get fits.shapes v.sort))) (sym passed) ∙ one.1) in
      let here = there_is (slice_get fits.shapes v.sort) held.0 held.1 in
      (held.0, here.0, here.1, one.2 ∙ ap Some (sym held.2))

  in_variable : (n : RNamed) (v : RVar) → vs n ≡ Some v → passing_of v.mode ≡ passing.ByValue → Lies (at_root (root.Variable n) v.sort)
  in_variable n v is passed =
      let at = variable_lies n v passing.ByValue is passed in
      placed_as fits.shapes ts _ v.sort (resolved.Variable (named_view n)) (placed_is (root.Variable n) [] ∙ variable_is n) (at.1 ∙ ap (λ o. Some (shape_by o)) (sym at.3)) tt

  -- a variable that holds an address is a parameter
  parameter_lies : (l x : ℕ) (v : RVar) (p : RPassing) → vs (named.Level l x) ≡ Some v → passing_of v.mode ≡ p → HoldsAddress v.mode → (y : Shape) × (slice_get fits.shapes v.sort ≡ Some y) × (is_there y ≡ true) × (slice_get (parameters_at ts l) x ≡ Some (held_by p y))
  parameter_lies l x v p is passed holds = let at = variable_lies (named.Level l x) v p is passed in (at.0, at.1, at.2, fits.handed l x v is holds ∙ at.3)

  handed_in : (l x : ℕ) (v : RVar) → vs (named.Level l x) ≡ Some v → v.mode ≡ mode.Place → Lies (at_root (root.Handed l x) v.sort)
  handed_in l x v is place =
      let at = parameter_lies l x v passing.ByPlace is (ap passing_of place) (subst HoldsAddress (sym place) tt) in
      placed_as fits.shapes ts _ v.sort (resolved.Handed l x) (placed_is (root.Handed l x) [] ∙ handed_is l x) (at.1 ∙ ap (λ o. Some (led_to (shape_by o))) (sym at.3)) (at.0, at.3, at.2)

  opened_in : (l x : ℕ) (v : RVar) (o : ROpening) → vs (named.Level l x) ≡ Some v → passing_of v.mode ≡ passing.Open o → HoldsAddress v.mode → Opens (record { opening = o; levels = l; number = x; sort = v.sort })
  opened_in l x v o is passed holds = let at = parameter_lies l x v (passing.Open o) is passed holds in record { shape = at.0; at = at.3; element = at.1; there = at.2 }

  pub variable_sound : (n : RNamed) (v : RVar) (p : Located) → vs n ≡ Some v → variable_form n v.mode v.sort ≡ form.Located p → Lies p
  variable_sound n v p is leads = by v.mode n refl is leads
    where
      led : (q : Located) → form.Located q ≡ form.Located p → Lies q → Lies p
      led q e h = subst Lies (same_place q p e) h

      by : (m : Mode) (n : RNamed) → v.mode ≡ m → vs n ≡ Some v → variable_form n m v.sort ≡ form.Located p → Lies p
      by mode.Plain n same is e = led (at_root (root.Variable n) v.sort) e (in_variable n v is (ap passing_of same))
      by mode.Value n same is e = led (at_root (root.Variable n) v.sort) e (in_variable n v is (ap passing_of same))
      by mode.Place (named.Module x) same is e = absurd (none-some p (ap located_in e))
      by mode.Place (named.Level l x) same is e = led (at_root (root.Handed l x) v.sort) e (handed_in l x v is same)
      by mode.OpenValue (named.Module x) same is e = absurd (none-some p (ap located_in e))
      by mode.OpenValue (named.Level l x) same is e = absurd (none-some p (ap located_in e))
      by mode.OpenPlace (named.Module x) same is e = absurd (none-some p (ap located_in e))
      by mode.OpenPlace (named.Level l x) same is e = absurd (none-some p (ap located_in e))

  pub opened_sound : (n : RNamed) (v : RVar) (a : OpenArray) → vs n ≡ Some v → variable_form n v.mode v.sort ≡ form.Open a → Opens a
  opened_sound n v a is leads = by v.mode n refl is leads
    where
      by : (m : Mode) (n : RNamed) → v.mode ≡ m → vs n ≡ Some v → variable_form n m v.sort ≡ form.Open a → Opens a
      by mode.Plain n same is e = absurd (none-some a (ap open_in e))
      by mode.Value n same is e = absurd (none-some a (ap open_in e))
      by mode.Place (named.Module x) same is e = absurd (none-some a (ap open_in e))
      by mode.Place (named.Level l x) same is e = absurd (none-some a (ap open_in e))
      by mode.OpenValue (named.Module x) same is e = absurd (none-some a (ap open_in e))
      by mode.OpenValue (named.Level l x) same is e = subst Opens (same_open _ a e) (opened_in l x v Copied is (ap passing_of same) (subst HoldsAddress (sym same) tt))
      by mode.OpenPlace (named.Module x) same is e = absurd (none-some a (ap open_in e))
      by mode.OpenPlace (named.Level l x) same is e = subst Opens (same_open _ a e) (opened_in l x v Lent is (ap passing_of same) (subst HoldsAddress (sym same) tt))

  pub held_sound : (w s : ℕ) → slice_get around w ≡ Some s → Lies (at_root (root.Held (length around - 1 - w)) s)
  held_sound w s is =
      let at = fits.held w s is in
      let k = length around - 1 - w in
      placed_as fits.shapes ts _ s (resolved.Held k) (placed_is (root.Held k) [] ∙ held_is k) (at.1 ∙ ap (λ o. Some (shape_by o)) (sym at.2)) (at.0, at.2, at.3)

  -- ---- parts
  pub field_sound : (p : Located) (i s : ℕ) → field_at t p.sort i ≡ Some s → Lies p → Lies (part_of p (part.Field i) s)
  field_sound p i s at h =
      let d = place_of p.place in
      placed_as fits.shapes ts _ s (resolved.Field d i) (further_is p.place (part.Field i) ∙ field_is i d) (field_shaped t fits.shapes p.sort (shape_of ts d) (has_shape fits p.sort (shape_of ts d) h.shape) i s at) h.good

  pub index_sound : (p : Located) (parts : ArrayParts) (j : RKind) (x : RExpr) → array_at t p.sort ≡ Some parts → kind_at t parts.index ≡ Some j → sound.takes_value (kind_view j) (value_kind x) ≡ true → Lies p → Runs ts x
      → Lies (part_of p (part.Index j x) parts.element)
  index_sound p parts j x at kind takes h runs =
      let d = place_of p.place in
      let is = element_shaped t fits.shapes p.sort (shape_of ts d) (has_shape fits p.sort (shape_of ts d) h.shape) parts j at kind in
      placed_as fits.shapes ts _ parts.element (resolved.Element d (kind_view j) (expression_of x)) (further_is p.place (part.Index j x) ∙ index_is j x d) is.0 (is.1, takes, h.good, runs)

  pub along_sound : (a : OpenArray) (x : RExpr) → sound.takes_value (OfWhole Cardinal) (value_kind x) ≡ true → Opens a → Runs ts x → Lies (at_root (root.Along a.levels a.number x) a.sort)
  along_sound a x takes h runs =
      placed_as fits.shapes ts _ a.sort (resolved.Along a.levels a.number (expression_of x)) (placed_is (root.Along a.levels a.number x) [] ∙ along_is a.levels a.number x) (h.element ∙ ap (λ (o : Option Shape). Some (along (shape_by o))) (sym h.at)) (opens_soundly a h, takes, runs)

  pub high_sound : (a : OpenArray) → Opens a → Runs ts (e.High a.levels a.number)
  high_sound a h = subst (IsSoundExpression ts) (sym (high_is a.levels a.number)) (opens_soundly a h)

  pub follow_sound : (p : Located) (x : Target) → target_at t p.sort ≡ Some x → Lies p → Lies (part_of p (part.Follow x.pointer) x.sort)
  follow_sound p x at h =
      let d = place_of p.place in
      let to : PointsTo t fits.shapes (shape_of ts d) x =
      subst (λ o. IfSome o (PointsTo t fits.shapes (shape_of ts d))) at (target_shaped t fits.shapes (all_known t fits.shapes fits.types) p.sort (shape_of ts d) (has_shape fits p.sort (shape_of ts d) h.shape)) in
      placed_as fits.shapes ts _ x.sort (resolved.Follow d x.pointer) (further_is p.place (part.Follow x.pointer) ∙ follow_is x.pointer d) (to.sort ∙ ap (λ ts. Some (shape_at ts x.pointer)) (sym fits.targets))
      (to.word, ap (λ ts. is_there (shape_at ts x.pointer)) fits.targets ∙ to.there, h.good)

  -- ---- what lies at a place
  pub scalar : (p : Located) (j : RKind) → kind_at t p.sort ≡ Some j → Lies p → IsScalar ts (place_of p.place) (kind_view j)
  scalar p j is h = record {
    shape = word_shaped t fits.shapes p.sort (shape_of ts (place_of p.place)) (has_shape fits p.sort (shape_of ts (place_of p.place)) h.shape) j is;
    base = ap is_base (own_base j) ∙ base_words t (base t p.sort) j.base (kind_base t p.sort j is);
  }

  -- a place of a kind to which values may be stored
  pub target : (p : Located) (j : RKind) → kind_at t p.sort ≡ Some j → place_depth (place_of p.place) ≤ 13 → Lies p → IsSoundTarget ts (place_of p.place) (kind_view j)
  target p j is shallow h = record { scalar = scalar p j is h; place = h.good; shallow = shallow }

  -- something lies at an array or a record
  pub composite_there : (p : Located) → Lies p → composite_at t p.sort ≡ true → is_there (shape_of ts (place_of p.place)) ≡ true
  composite_there p h at = let x = shape_of ts (place_of p.place) in composite_shaped t fits.shapes p.sort x (has_shape fits p.sort x h.shape) at

  -- an array of so many elements
  pub record IsRow (p : Located) (s n : ℕ) : Type 0 where
    pub shape : shape_of ts (place_of p.place) ≡ Row n (elements (shape_of ts (place_of p.place)))
    pub element : slice_get fits.shapes s ≡ Some (elements (shape_of ts (place_of p.place)))

  pub array_lies : (p : Located) (parts : ArrayParts) (n : ℕ) (y : Shape) → Lies p → array_at t p.sort ≡ Some parts → elements_at t p.sort ≡ Some n → slice_get fits.shapes parts.element ≡ Some y → is_there y ≡ true → IsRow p parts.element n
  array_lies p parts n y h at many is here =
      let x = shape_of ts (place_of p.place) in
      let kind = mapped numbers_of (kind_at t parts.index) n (ap (elements_in t) (sym at) ∙ many) in
      let row = element_shaped t fits.shapes p.sort x (has_shape fits p.sort x h.shape) parts kind.0 at kind.1 in
      let same : y ≡ elements x = same_Some y (elements x) (sym is ∙ row.0) in
      record { shape = row_is x (ap is_there (sym same) ∙ here) ∙ ap (λ (n : ℕ). Row n (elements x)) (row.1 ∙ kind.2); element = row.0 }

  character_shaped : (s : ℕ) (y : Shape) → s ≡ char → slice_get fits.shapes s ≡ Some y → y ≡ Word OfCharacter
  character_shaped s y is at = word_shaped t fits.shapes char y (has_shape fits char y (ap (slice_get fits.shapes) (sym is) ∙ at)) (plain b.Character) refl

  -- an array of characters
  characters_are : (s : ℕ) (x : Shape) (parts : ArrayParts) (n : ℕ) → slice_get fits.shapes s ≡ Some x → array_at t s ≡ Some parts → parts.element ≡ char → elements_at t s ≡ Some n → x ≡ Row n (Word OfCharacter)
  characters_are s x parts n is at of many =
      let kind = mapped numbers_of (kind_at t parts.index) n (ap (elements_in t) (sym at) ∙ many) in
      let row = element_shaped t fits.shapes s x (has_shape fits s x is) parts kind.0 at kind.1 in
      let word = character_shaped parts.element (elements x) of row.0 in
      row_is x (ap is_there word) ∙ ap (λ (n : ℕ). Row n (elements x)) (row.1 ∙ kind.2) ∙ ap (Row n) word

  pub characters_lie : (p : Located) (parts : ArrayParts) (n : ℕ) → Lies p → array_at t p.sort ≡ Some parts → parts.element ≡ char → elements_at t p.sort ≡ Some n → shape_of ts (place_of p.place) ≡ Row n (Word OfCharacter)
  characters_lie p parts n h at of many = characters_are p.sort (shape_of ts (place_of p.place)) parts n h.shape at of many

  -- ---- calls of functions, and what they are handed
  -- a sound argument for a parameter whose variable holds this
  pub record IsPassed (y : Shape) (a : RArgument) : Type 0 where
    pub shape : y ≡ parameter_of ts (argument_of a)
    pub sound : IsSoundArgument ts (argument_of a)

  passed_as : (y : Shape) (a : RArgument) (x : Argument) → argument_of a ≡ x → y ≡ parameter_of ts x → IsSoundArgument ts x → IsPassed y a
  passed_as y a x is shape good = record { shape = shape ∙ ap (parameter_of ts) (sym is); sound = subst (IsSoundArgument ts) (sym is) good }

  -- it has the shape of what lies at a place of the parameter's type
  shape_there : (p : Parameter) (c : RPassing) (y : Shape) → passing_of (passing_by p) ≡ c → parameter_shape fits.shapes p ≡ Some y → (x : Shape) × (slice_get fits.shapes p.sort ≡ Some x) × (is_there x ≡ true) × (y ≡ held_by c x)
  shape_there p c y passed lies =
      let held = mapped (held_by c) (there (slice_get fits.shapes p.sort)) y (ap (λ (r : RPassing). option_map (held_by r) (there (slice_get fits.shapes p.sort))) (sym passed) ∙ lies) in
      let here = there_is (slice_get fits.shapes p.sort) held.0 held.1 in
      (held.0, here.0, here.1, sym held.2)

  -- how a parameter is handed over
  passed_so : (p : Parameter) (by_place open_array : Bool) → p.by_place ≡ by_place → p.open_array ≡ open_array → passing_of (passing_by p) ≡ passing_of (mode_of by_place open_array)
  passed_so p by_place open_array h j = λ i. passing_of (mode_of (h i) (j i))

  same_shape : (p : Parameter) (at : Located) (x : Shape) → at.sort ≡ p.sort → Lies at → slice_get fits.shapes p.sort ≡ Some x → x ≡ shape_of ts (place_of at.place)
  same_shape p at x sort lies here = same_Some x (shape_of ts (place_of at.place)) (sym here ∙ ap (slice_get fits.shapes) (sym sort) ∙ lies.shape)

  value_passed : (p : Parameter) (a : RArgument) (y : Shape) → parameter_shape fits.shapes p ≡ Some y → IsValueFor t Lies Opens (Runs ts) p a → IsPassed y a
  value_passed p a y lies h =
      let x = shape_there p passing.ByValue y (passed_so p false false h.by_value h.closed) lies in
      let word = word_shaped t fits.shapes p.sort x.0 (has_shape fits p.sort x.0 x.1) h.kind h.at in
      passed_as y a (ByValue (kind_view h.kind) (expression_of h.value)) (ap argument_of h.is ∙ by_value_is h.kind h.value) (x.3 ∙ word) (h.stores, h.shallow, h.good)

  place_passed : (p : Parameter) (a : RArgument) (y : Shape) → parameter_shape fits.shapes p ≡ Some y → IsPlaceFor t Lies Opens (Runs ts) p a → IsPassed y a
  place_passed p a y lies h =
      let x = shape_there p passing.ByPlace y (passed_so p true false h.by_place h.closed) lies in
      let same = same_shape p h.at x.0 h.sort h.good x.1 in
      passed_as y a (OfPlace (place_of h.at.place)) (ap argument_of h.is ∙ of_place_is h.at.place) (x.3 ∙ ap Address same) (ap is_there (sym same) ∙ x.2, h.shallow, h.good.good)

  whole_passed : (p : Parameter) (a : RArgument) (y : Shape) → parameter_shape fits.shapes p ≡ Some y → IsWholeFor t Lies Opens (Runs ts) p a → IsPassed y a
  whole_passed p a y lies h =
      let x = shape_there p passing.ByValue y (passed_so p false false h.by_value h.closed) lies in
      let same = same_shape p h.at x.0 h.sort h.good x.1 in
      passed_as y a (OfAll (place_of h.at.place)) (ap argument_of h.is ∙ of_all_is h.at.place) (x.3 ∙ same) (ap is_there (sym same) ∙ x.2, h.shallow, h.good.good)

  array_passed : (p : Parameter) (a : RArgument) (y : Shape) → parameter_shape fits.shapes p ≡ Some y → IsArrayFor t Lies Opens (Runs ts) p a → IsPassed y a
  array_passed p a y lies h =
      let o = opening p.by_place in
      let d = place_of h.at.place in
      let x = shape_there p (passing.Open o) y (passed_so p p.by_place true refl h.opens ∙ open_passing p.by_place) lies in
      let row = array_lies h.at h.parts (suc h.high) x.0 h.good h.array h.count (ap (slice_get fits.shapes) h.element ∙ x.1) x.2 in
      let same : x.0 ≡ elements (shape_of ts d) = same_Some x.0 (elements (shape_of ts d)) (sym x.1 ∙ ap (slice_get fits.shapes) (sym h.element) ∙ row.element) in
      passed_as y a (OfArray (is_copied o) d h.high) (ap argument_of h.is ∙ of_array_is o h.at.place h.high) (x.3 ∙ ap (Opened (is_copied o)) same) (row.shape, ap is_there (sym same) ∙ x.2, h.few, h.shallow, h.good.good)

  text_passed : (p : Parameter) (a : RArgument) (y : Shape) → parameter_shape fits.shapes p ≡ Some y → IsTextFor t Lies Opens (Runs ts) p a → IsPassed y a
  text_passed p a y lies h =
      let x = shape_there p (passing.Open Copied) y (passed_so p false true h.by_value h.opens) lies in
      passed_as y a (OfText h.text) (ap argument_of h.is ∙ of_text_is h.text) (x.3 ∙ ap (Opened true) (character_shaped p.sort x.0 h.sort x.1)) h.told

  open_passed : (p : Parameter) (a : RArgument) (y : Shape) → parameter_shape fits.shapes p ≡ Some y → IsOpenFor t Lies Opens (Runs ts) p a → IsPassed y a
  open_passed p a y lies h =
      let o = opening p.by_place in
      let q = h.at in
      let x = shape_there p (passing.Open o) y (passed_so p p.by_place true refl h.opens ∙ open_passing p.by_place) lies in
      let same : x.0 ≡ h.good.shape = same_Some x.0 h.good.shape (sym x.1 ∙ ap (slice_get fits.shapes) (sym h.sort) ∙ h.good.element) in
      let leads : h.good.shape ≡ along (shape_at (parameters_at ts q.levels) q.number) = ap (λ (o : Option Shape). along (shape_by o)) (sym h.good.at) in
      passed_as y a (OfOpened (is_copied o) q.levels q.number) (ap argument_of h.is ∙ of_opened_is o q.levels q.number) (x.3 ∙ ap (Opened (is_copied o)) (same ∙ leads)) (opens_soundly q h.good)

  spelled_passed : (p : Parameter) (a : RArgument) (y : Shape) → parameter_shape fits.shapes p ≡ Some y → IsSpelledFor t Lies Opens (Runs ts) p a → IsPassed y a
  spelled_passed p a y lies h =
      let x = shape_there p passing.ByValue y (passed_so p false false h.by_value h.closed) lies in
      passed_as y a (Spelled h.text h.count) (ap argument_of h.is ∙ spelled_is h.text h.count) (x.3 ∙ characters_are p.sort x.0 h.parts h.count x.1 h.array h.element h.many) (h.told, h.holds, h.few)

  one_passed : (p : Parameter) (a : RArgument) (y : Shape) → parameter_shape fits.shapes p ≡ Some y → IsHanded t Lies Opens (Runs ts) p a → IsPassed y a
  one_passed p a y lies (inl h) = value_passed p a y lies h
  one_passed p a y lies (inr (inl h)) = place_passed p a y lies h
  one_passed p a y lies (inr (inr (inl h))) = whole_passed p a y lies h
  one_passed p a y lies (inr (inr (inr (inl h)))) = array_passed p a y lies h
  one_passed p a y lies (inr (inr (inr (inr (inl h))))) = text_passed p a y lies h
  one_passed p a y lies (inr (inr (inr (inr (inr (inl h)))))) = open_passed p a y lies h
  one_passed p a y lies (inr (inr (inr (inr (inr (inr h)))))) = spelled_passed p a y lies h

  pub record ArePassed (ys : List Shape) (xs : List RArgument) : Type 0 where
    pub takes : ys ≡ parameters_given ts (arguments_of xs)
    pub sound : AreSoundArguments ts (arguments_of xs)

  pub all_passed : (ps : List Parameter) (xs : List RArgument) (ys : List Shape) → all_some (map (parameter_shape fits.shapes) ps) ≡ Some ys → AreHanded t Lies Opens (Runs ts) ps xs → ArePassed ys xs
  all_passed [] [] ys lies h = record { takes = sym (same_Some [] ys lies); sound = tt }
  all_passed [] (a ∷ xs) ys lies h = absurd h
  all_passed (p ∷ ps) [] ys lies h = absurd h
  all_passed (p ∷ ps) (a ∷ xs) ys lies h =
      let first = first_some (parameter_shape fits.shapes p) (map (parameter_shape fits.shapes) ps) ys lies in
      let one = one_passed p a first.value first.is h.0 in
      let rest = all_passed ps xs first.rest first.others h.1 in
      record { takes = first.all ∙ (λ i. one.shape i ∷ rest.takes i); sound = (one.sound, rest.sound) }

  pub invoke_sound : (s n levels r : ℕ) (j : RKind) (xs : List RArgument) → R s n levels → result t s ≡ Some r → kind_at t r ≡ Some j → AreHanded t Lies Opens (Runs ts) (parameters t s) xs → Runs ts (e.Invoke (n + 1) levels j xs)
  invoke_sound s n levels r j xs reached returns at all =
      let c = fits.calls s n levels reached in
      let g = all_passed (parameters t s) xs (parameters_of (procedure_by ts.procedures (n + 1))) (c.takes fits.shapes fits.types) all in
      subst (IsSoundExpression ts) (sym (invoke_is (n + 1) levels j xs)) (c.may, c.returns ∙ ap (returned t) returns ∙ ap (option_map kind_view) at, g.takes, g.sound)

  -- ---- procedures as values
  -- a procedure type whose parameters hold this, and are there
  signature_known : (n : ℕ) (ys : List Shape) → base_at t n ≡ Some (b.Procedure n) → all_some (map (parameter_shape fits.shapes) (parameters t n)) ≡ Some ys → slice_get ts.signatures n ≡ Some (record { parameters = ys; result = returned t (result t n) })
  signature_known n ys at lie =
      let is = (procedures_are t n n at).1 in
      ap (λ ss. slice_get ss n) fits.signatures
      ∙ signature_at t fits.shapes (all_known t fits.shapes fits.types) n (procedures_within t n is)
      ∙ ap (λ s. Some (signature_with fits.shapes s)) (procedure_signature t n is)
      ∙ ap (λ (ys : List Shape). Some (record { parameters = ys; result = returned t (result t n) })) (given_shapes fits.shapes (parameters t n) ys lie)

  pub routine_sound : (s n r : ℕ) → R s n 0 → base_at t r ≡ Some (b.Procedure r) → parameters t s ≡ parameters t r → result t s ≡ result t r → Runs ts (e.Routine (n + 1) r)
  routine_sound s n r reached at takes returns =
      let c = fits.calls s n 0 reached in
      let its : procedure_by ts.procedures (n + 1) ≡ Some c.may.its = c.may.known in
      let lie : all_some (map (parameter_shape fits.shapes) (parameters t r)) ≡ Some (parameters_of (Some c.may.its)) =
      ap (λ ps. all_some (map (parameter_shape fits.shapes) ps)) (sym takes) ∙ c.takes fits.shapes fits.types ∙ ap (λ o. Some (parameters_of o)) its in
      let gives : returned t (result t r) ≡ c.may.its.result = ap (returned t) (sym returns) ∙ sym c.returns ∙ ap result_by its in
      subst (IsSoundExpression ts) (sym (routine_is (n + 1) r)) (record {
        its = c.may.its;
        known = its;
        declared = c.may.declared;
        same = signature_known r (parameters_of (Some c.may.its)) at lie ∙ ap (λ (k : Option Kind). Some (record { parameters = parameters_of (Some c.may.its); result = k })) gives;
      })

  -- a call of one, which is the value of x
  pub callee_sound : (s : ℕ) (x : RExpr) (xs : List RArgument) → base_at t s ≡ Some (b.Procedure s) → AllFine (ParameterLies t) (parameters t s) → value_kind x ≡ base_view (b.Procedure s) → depth (expression_of x) ≤ 13 → AreHanded t Lies Opens (Runs ts) (parameters t s) xs
      → IsSoundCallee ts (expression_of x) (parameters_given ts (arguments_of xs)) (returned t (result t s)) × AreSoundArguments ts (arguments_of xs)
  callee_sound s x xs at lie kind shallow all =
      let ys = parameters_there t fits.shapes (all_known t fits.shapes fits.types) (parameters t s) lie in
      let g = all_passed (parameters t s) xs ys.0 ys.1 all in (
        record {
          number = s;
          kind = kind;
          known = signature_known s ys.0 at ys.1 ∙ ap (λ (ys : List Shape). Some (record { parameters = ys; result = returned t (result t s) })) g.takes;
          shallow = shallow;
        },
        g.sound,
      )

  pub invoke_value_sound : (s r : ℕ) (j : RKind) (x : RExpr) (xs : List RArgument) → base_at t s ≡ Some (b.Procedure s) → AllFine (ParameterLies t) (parameters t s) → result t s ≡ Some r → kind_at t r ≡ Some j → value_kind x ≡ base_view (b.Procedure s)
      → depth (expression_of x) ≤ 13 → Runs ts x → AreHanded t Lies Opens (Runs ts) (parameters t s) xs → Runs ts (e.InvokeValue x j xs)
  invoke_value_sound s r j x xs at lie returns of kind shallow runs all =
      let c = callee_sound s x xs at lie kind shallow all in
      let gives : returned t (result t s) ≡ Some (kind_view j) = ap (returned t) returns ∙ ap (option_map kind_view) of in
      subst (IsSoundExpression ts) (sym (invoke_value_is x j xs)) (subst (IsSoundCallee ts (expression_of x) (parameters_given ts (arguments_of xs))) gives c.0, runs, c.1)

-- ---- expressions
module _ (ts : Scope) where
  pub constant_sound : (k : RBase) (z : ℤ) → has_number k z ≡ true → Runs ts (e.Constant k z)
  constant_sound k z h = subst (IsSoundExpression ts) (sym (constant_is k z)) (literal_sound k z h)

  plain_two : (op : TwoOp) (k : Kind) (a c : Expression) → sound.takes_two op k ≡ true → kind_of a ≡ k → kind_of c ≡ right_kind op k → IsSoundExpression ts a → IsSoundExpression ts c → IsSoundExpression ts (Two op (kind_of a) a c)
  plain_two op k a c takes is of h j = (subst (λ k. sound.takes_two op k ≡ true) (sym is) takes, refl, of ∙ ap (right_kind op) (sym is), h, j)

  two_sound : (op : TwoOp) (k : Kind) (a c : Expression) → takes_two op k ≡ true → kind_of a ≡ k → kind_of c ≡ right_kind op k → IsSoundExpression ts a → IsSoundExpression ts c → IsSoundExpression ts (two_of op a c)
  two_sound Or k a c takes is of h j = let e = is_a_truth k takes in (is ∙ e, of ∙ e, h, j)
  two_sound And k a c takes is of h j = let e = is_a_truth k takes in (is ∙ e, of ∙ e, h, j)
  two_sound op k a c takes is of h j = plain_two op k a c takes is of h j

  pub one_sound : (op : OneOp) (x : RExpr) → sound.takes_one op (value_kind x) ≡ true → Runs ts x → Runs ts (e.One op x)
  one_sound op x takes h = subst (IsSoundExpression ts) (sym (one_is op x)) (takes, refl, h)

  pub apply_sound : (g : RFunction) (x : RExpr) → sound.takes_function (function_of g (value_kind x)) (value_kind x) ≡ true → Runs ts x → Runs ts (e.Apply g x)
  apply_sound g x takes h = subst (IsSoundExpression ts) (sym (apply_is g x)) (takes, h)

  pub begin_sound : (x : RExpr) → Runs ts x → Runs ts (e.Chain x [])
  begin_sound x h = subst (IsSoundExpression ts) (sym (chain_is x [])) h

  pub chain_sound : (op : TwoOp) (a : RExpr) (os : List ROperation) (k : RBase) (x : RExpr) → value_kind (e.Chain a os) ≡ base_view k → takes_two op (base_view k) ≡ true → value_kind x ≡ right_kind op (base_view k)
      → Runs ts (e.Chain a os) → Runs ts x → Runs ts (e.Chain a (os ++ operation op x ∷ []))
  chain_sound op a os k x is takes of h j =
      subst (IsSoundExpression ts) (sym (chain_is a (os ++ operation op x ∷ []) ∙ chained_more (expression_of a) os op x))
      (two_sound op (base_view k) (chained (expression_of a) (map operation_of os)) (expression_of x) takes (ap kind_of (sym (chain_is a os)) ∙ is) of (subst (IsSoundExpression ts) (chain_is a os) h) j)

  -- one member more, of which a set is sound
  member_sound : (k : RKind) (ms : List RMember) (y : RMember) (f : Kind → Expression → Expression) → member_of y ≡ f → (kind_of (with_members (kind_view k) empty_set (map member_of ms)) ≡ OfSet → IsSoundExpression ts (with_members (kind_view k) empty_set (map member_of ms))
      → IsSoundExpression ts (f (kind_view k) (with_members (kind_view k) empty_set (map member_of ms)))) → Runs ts (e.Set k ms) → Runs ts (e.Set k (ms ++ y ∷ []))
  member_sound k ms y f is more h =
      subst (IsSoundExpression ts) (sym (set_is k (ms ++ y ∷ []) ∙ members_more (kind_view k) empty_set ms y ∙ ap (λ f. f (kind_view k) (with_members (kind_view k) empty_set (map member_of ms))) is))
      (more (ap kind_of (sym (set_is k ms)) ∙ set_kind k ms) (subst (IsSoundExpression ts) (set_is k ms) h))

  pub single_sound : (k : RKind) (ms : List RMember) (x : RExpr) → sound.is_element (kind_view k) ≡ true → sound.takes_value (kind_view k) (value_kind x) ≡ true → Runs ts (e.Set k ms) → Runs ts x → Runs ts (e.Set k (ms ++ m.Single x ∷ []))
  single_sound k ms x of takes h j = member_sound k ms (m.Single x) _ (single_is x) (λ is good. (is, good, of, takes, j)) h

  pub span_sound : (k : RKind) (ms : List RMember) (x y : RExpr) → sound.is_element (kind_view k) ≡ true → sound.takes_value (kind_view k) (value_kind x) ≡ true → sound.takes_value (kind_view k) (value_kind y) ≡ true
      → Runs ts (e.Set k ms) → Runs ts x → Runs ts y → Runs ts (e.Set k (ms ++ m.Span x y ∷ []))
  span_sound k ms x y of takes last h i j = member_sound k ms (m.Span x y) _ (span_is x y) (λ is good. (is, good, of, takes, last, i, j)) h

abbrev pub soundness : {t : Table} {vs : RNamed → Option RVar} {around : List ℕ} {R : Reach} {ts : Scope} → Fits t vs around R ts → Property t vs around R
soundness {ts} fits = record {
  place = Lies fits;
  array = Opens fits;
  value = Runs ts;
  variable = variable_sound fits;
  held = held_sound fits;
  field = field_sound fits;
  index = index_sound fits;
  along = along_sound fits;
  follow = follow_sound fits;
  opened = opened_sound fits;
  high = high_sound fits;
  constant = constant_sound ts;
  taken = λ p j is h. subst (IsSoundExpression ts) (sym (taken_is p.place j)) (scalar fits p j is h, h.good);
  one = one_sound ts;
  apply = apply_sound ts;
  invoke = invoke_sound fits;
  routine = routine_sound fits;
  invoke_value = invoke_value_sound fits;
  begin = begin_sound ts;
  chain = chain_sound ts;
  empty = λ k. subst (IsSoundExpression ts) (sym (set_is k [])) refl;
  single = single_sound ts;
  span = span_sound ts;
}
