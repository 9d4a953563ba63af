-- What lies in the variables that are seen and in the records of the WITHs around, and what is sound there.
use Rattle.std.proofs.Common.{◌≡◌, ℕ, zero, suc, ◌+◌, ◌<◌, Bool, true, false, ◌&&◌, List, [], ◌∷◌, ◌++◌, length, map, take, slice_get, Option, None, Some, inl, inr, refl, sym, ap, subst, ◌∙◌, arith}
use Rattle.std.specs.{Prelude.{◌-◌, option_and_then}, Option.option_map}
use Rattle.std.proofs.lemmas.{Option.{none-some, slice_get_within, slice_get-map}, List.length_push}
use Rattle.lil_types.specs.{Types.Table}
use Rattle.lil_declared.specs.declared.declared.RVar.{RVar}
use Rattle.lil_kinds.specs.{Forms.{parameters, result}, declared.found.Located.Located}
use Rattle.lil_resolved.specs.{Resolved.{Named, OfModule, OfLevel, Designator, variable_at, shape_of}, Kinds.{Shape, Outline, Scope, MayCall, procedure_by, parameters_of, result_of, locals_of, parameters_at, locals_at, is_there, outermost, with_held}, Sound.{IsSoundPlace, IsSoundExpression}, Views.{named_view, expression_of, place_of}, declared.resolved.{RExpr.RExpr, RNamed.RNamed, RPlace.RPlace}}
use Rattle.lil_resolved.specs.declared.resolved.RNamed.TheVariants as named
use Rattle.lil_scope.specs.Names.{locals_by}
use Rattle.lil_shapes.specs.{Pointers.targets, Shaping.{all_some, lying, variables_by}, ListLaws.{AllFine, some_at}, ShapeSound.{at_end, within_is, HasShape}, Signatures.signatures, TargetSound.all_known}
pub use Rattle.lil_shapes.specs.{ShapeSound.{HasFirst, first_some}, Signatures.{parameter_shape}}
use Rattle.lil_shapes.specs.Shaping as shaping
use Rattle.lil_forms.specs.{Properties.Reach, Values.returned, Variables.{HoldsAddress, locals_out, seen_in}}

-- ---- tests of two conditions, and of an order
pub both_left : (a b : Bool) → (a && b) ≡ true → a ≡ true
both_left true b h = refl
both_left false b h = h

pub both_right : (a b : Bool) → (a && b) ≡ true → b ≡ true
both_right true b h = h
both_right false b h = cc

-- a list whose parts are all fine, with one more
pub fine_more : {A : Type 0} (IsFine : A → Type 0) (xs : List A) (x : A) → AllFine IsFine xs → IsFine x → AllFine IsFine (xs ++ x ∷ [])
fine_more IsFine [] x h j = (j, tt)
fine_more IsFine (y ∷ xs) x h j = (h.0, fine_more IsFine xs x h.1 j)

-- ---- calls
-- a procedure of this procedure type may be called, by its number from 1. Its first variables hold what those for its parameters do, and it
-- returns what its type says
pub record IsReached (t : Table) (ts : Scope) (s n levels : ℕ) : Type 0 where
  pub may : MayCall ts (n + 1) levels
  pub takes : (shapes : List Shape) → shaping.shapes t ≡ Some shapes → all_some (map (parameter_shape shapes) (parameters t s)) ≡ Some (parameters_of (procedure_by ts.procedures (n + 1)))
  pub returns : result_of (procedure_by ts.procedures (n + 1)) ≡ returned t (result t s)

-- what names reach
abbrev pub Calls : Table → Reach → Scope → Type 0
Calls t R ts = (s n levels : ℕ) → R s n levels → IsReached t ts s n levels

-- ---- what designators may reach
-- this lies in the records of the WITHs around, from the innermost out, by the shapes of types
abbrev pub AreHeld : List Shape → List ℕ → List Shape → Type 0
AreHeld shapes around held = (w n : ℕ) → slice_get around w ≡ Some n → (x : Shape) × (slice_get shapes n ≡ Some x) × (slice_get held (length around - 1 - w) ≡ Some x) × (is_there x ≡ true)

-- what the variables that are seen hold, what lies in the records of the WITHs around, what behind its pointers, and what its procedure types
-- say, is this, by the shapes of its types; those that hold addresses are parameters; and the procedures that names reach may be called
pub record Fits (t : Table) (vs : RNamed → Option RVar) (around : List ℕ) (R : Reach) (ts : Scope) : Type 0 where
  pub shapes : List Shape
  pub types : shaping.shapes t ≡ Some shapes
  pub targets : ts.targets ≡ targets t shapes
  pub signatures : ts.signatures ≡ signatures t shapes
  pub variables : (n : RNamed) (v : RVar) → vs n ≡ Some v → (x : Shape) × (lying shapes v ≡ Some x) × (variable_at ts (named_view n) ≡ Some x)
  pub handed : (l x : ℕ) (v : RVar) → vs (named.Level l x) ≡ Some v → HoldsAddress v.mode → slice_get (parameters_at ts l) x ≡ slice_get (locals_at ts l) x
  pub held : AreHeld shapes around ts.held
  pub calls : Calls t R ts

-- what the variables of a procedure hold, and which of them are parameters
pub record IsOutlined (shapes : List Shape) (vs : List RVar) (o : Outline) : Type 0 where
  pub locals : all_some (map (lying shapes) vs) ≡ Some o.locals
  pub handed : (x : ℕ) (v : RVar) → slice_get vs x ≡ Some v → HoldsAddress v.mode → x < o.parameters

-- the same of all procedures, by their numbers
abbrev pub AreOutlined : List Shape → List (List RVar) → List Outline → Type 0
AreOutlined shapes ls outlines = (p : ℕ) (vs : List RVar) → slice_get ls p ≡ Some vs → (o : Outline) × (slice_get outlines p ≡ Some o) × IsOutlined shapes vs o

taken_same : (n x : ℕ) (xs : List Shape) → x < n → slice_get (take n xs) x ≡ slice_get xs x
taken_same zero x xs less = absurd (omega (arith, less))
taken_same (suc n) x [] less = refl
taken_same (suc n) zero (y ∷ xs) less = refl
taken_same (suc n) (suc x) (y ∷ xs) less = taken_same n x xs (omega (arith, less))

-- outside of all WITHs it is what lies in the variables of the module and of the procedures at hand, whatever other procedures there are
module _ (t : Table) (vs : List RVar) (ls : List (List RVar)) (shapes lies : List Shape) (outlines : List Outline) (chain : List ℕ) (types : shaping.shapes t ≡ Some shapes) (variables : variables_by (Some shapes) vs ≡ Some lies)
    (outlined : AreOutlined shapes ls outlines) where
  abbrev around_none : Scope
  around_none = outermost (targets t shapes) (signatures t shapes) lies outlines (map (λ n. n + 1) chain)

  abbrev IsShown : RNamed → RVar → Type 0
  IsShown n v = (x : Shape) × (lying shapes v ≡ Some x) × (variable_at around_none (named_view n) ≡ Some x)

  -- what is told of a procedure at hand
  outline_at : (l p : ℕ) → slice_get chain l ≡ Some p → (o : Outline) → slice_get outlines p ≡ Some o → option_and_then (procedure_by outlines) (slice_get (map (λ n. n + 1) chain) l) ≡ Some o
  outline_at l p at o is =
      let number : p + 1 ≡ suc p = omega arith in
      let up : slice_get (map (λ n. n + 1) chain) l ≡ Some (suc p) = slice_get-map (λ n. n + 1) chain l ∙ ap (option_map (λ n. n + 1)) at ∙ ap Some number in
      ap (option_and_then (procedure_by outlines)) up ∙ is

  local_shown : (l x p : ℕ) (v : RVar) (o : Option (List RVar)) → slice_get chain l ≡ Some p → slice_get ls p ≡ o → slice_get (locals_by o) x ≡ Some v → IsShown (named.Level l x) v
  local_shown l x p v None at there is = absurd (none-some v is)
  local_shown l x p v (Some ws) at there is =
      let o = outlined p ws there in
      let one = some_at (lying shapes) ws o.0.locals x v o.2.locals is in
      (one.0, one.1, ap (λ o. slice_get (locals_of o) x) (outline_at l p at o.0 o.1) ∙ one.2)

  local_handed : (l x p : ℕ) (v : RVar) (o : Option (List RVar)) → slice_get chain l ≡ Some p → slice_get ls p ≡ o → slice_get (locals_by o) x ≡ Some v → HoldsAddress v.mode → slice_get (parameters_at around_none l) x ≡ slice_get (locals_at around_none l) x
  local_handed l x p v None at there is mode = absurd (none-some v is)
  local_handed l x p v (Some ws) at there is mode =
      let o = outlined p ws there in
      let here = outline_at l p at o.0 o.1 in
      ap (λ o. slice_get (parameters_of o) x) here ∙ taken_same o.0.parameters x o.0.locals (o.2.handed x v is mode) ∙ sym (ap (λ o. slice_get (locals_of o) x) here)

  level_handed : (l x : ℕ) (v : RVar) (o : Option ℕ) → slice_get chain l ≡ o → slice_get (locals_out ls o) x ≡ Some v → HoldsAddress v.mode → slice_get (parameters_at around_none l) x ≡ slice_get (locals_at around_none l) x
  level_handed l x v None at is mode = absurd (none-some v is)
  level_handed l x v (Some p) at is mode = local_handed l x p v (slice_get ls p) at refl is mode

  level_shown : (l x : ℕ) (v : RVar) (o : Option ℕ) → slice_get chain l ≡ o → slice_get (locals_out ls o) x ≡ Some v → IsShown (named.Level l x) v
  level_shown l x v None at is = absurd (none-some v is)
  level_shown l x v (Some p) at is = local_shown l x p v (slice_get ls p) at refl is

  shown : (n : RNamed) (v : RVar) → seen_in vs ls chain n ≡ Some v → IsShown n v
  shown (named.Module x) v is = some_at (lying shapes) vs lies x v (within_is (all_some (map (lying shapes) vs)) lies variables) is
  shown (named.Level l x) v is = level_shown l x v (slice_get chain l) refl is

  pub outside : (R : Reach) → Calls t R around_none → Fits t (seen_in vs ls chain) [] R around_none
  outside R calls = record {
    shapes = shapes;
    types = types;
    targets = refl;
    signatures = refl;
    variables = shown;
    handed = λ l x v is mode. level_handed l x v (slice_get chain l) refl is mode;
    held = λ w n is. absurd (none-some n is);
    calls = calls;
  }

-- a place lies in what is reached, and has the shape of its type
pub record IsPlaced (shapes : List Shape) (ts : Scope) (p : Located) : Type 0 where
  pub shape : slice_get shapes p.sort ≡ Some (shape_of ts (place_of p.place))
  pub good : IsSoundPlace ts (place_of p.place)

-- by the designator that a place is
pub placed_as : (shapes : List Shape) (ts : Scope) (p : RPlace) (s : ℕ) (d : Designator) → place_of p ≡ d → slice_get shapes s ≡ Some (shape_of ts d) → IsSoundPlace ts d → IsPlaced shapes ts (record { place = p; sort = s })
placed_as shapes ts p s d is at good = record { shape = at ∙ ap (λ d. Some (shape_of ts d)) (sym is); good = subst (IsSoundPlace ts) (sym is) good }

-- an expression that runs
abbrev pub Runs : Scope → RExpr → Type 0
Runs ts x = IsSoundExpression ts (expression_of x)

pub has_shape : {t : Table} {vs : RNamed → Option RVar} {around : List ℕ} {R : Reach} {ts : Scope} (fits : Fits t vs around R ts) (n : ℕ) (x : Shape) → slice_get fits.shapes n ≡ Some x → HasShape t fits.shapes n x
has_shape {t} fits n x is = (all_known t fits.shapes fits.types).1 n x is

-- ---- inside of a WITH
behind : (k w : ℕ) → w < k → k + 1 - 1 - w ≡ suc (k - 1 - w)
behind k w h = omega arith

innermost : (k w : ℕ) → w ≡ k → k + 1 - 1 - w ≡ 0
innermost k w h = omega arith

more_held : (shapes : List Shape) (around : List ℕ) (held : List Shape) (n : ℕ) (x : Shape) → AreHeld shapes around held → slice_get shapes n ≡ Some x → is_there x ≡ true → AreHeld shapes (around ++ n ∷ []) (x ∷ held)
more_held shapes around held n x h at there w j is = elim (at_end around n j w is) [
  | inl e ↦
      let one = h w j e in
      (one.0, one.1, ap (λ k. slice_get (x ∷ held) (k - 1 - w)) (length_push around n) ∙ ap (slice_get (x ∷ held)) (behind (length around) w (slice_get_within around w j e)) ∙ one.2, one.3)
  | inr e ↦ (x, ap (slice_get shapes) (sym e.1) ∙ at, ap (λ k. slice_get (x ∷ held) (k - 1 - w)) (length_push around n) ∙ ap (slice_get (x ∷ held)) (innermost (length around) w e.0), there)
]

same_variables : (ts : Scope) (x : Shape) (n : Named) → variable_at (with_held ts x) n ≡ variable_at ts n
same_variables ts x (OfModule i) = refl
same_variables ts x (OfLevel l i) = refl

-- what lies somewhere is the innermost record
pub deeper : {t : Table} {vs : RNamed → Option RVar} {around : List ℕ} {R : Reach} {ts : Scope} (fits : Fits t vs around R ts) (p : Located) → IsPlaced fits.shapes ts p → is_there (shape_of ts (place_of p.place)) ≡ true
    → Fits t vs (around ++ p.sort ∷ []) R (with_held ts (shape_of ts (place_of p.place)))
deeper {around} {ts} fits p h there = record {
  shapes = fits.shapes;
  types = fits.types;
  targets = fits.targets;
  signatures = fits.signatures;
  variables = λ n v is. let one = fits.variables n v is in (one.0, one.1, same_variables ts (shape_of ts (place_of p.place)) (named_view n) ∙ one.2);
  handed = fits.handed;
  held = more_held fits.shapes around ts.held p.sort (shape_of ts (place_of p.place)) fits.held h.shape there;
  calls = λ s n levels reached. let c = fits.calls s n levels reached in record { may = record { its = c.may.its; known = c.may.known; declared = c.may.declared }; takes = c.takes; returns = c.returns };
}
