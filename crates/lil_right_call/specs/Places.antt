-- Told values that are variables, and what lies at their places.
use Rattle.std.proofs.Common.{◌≡◌, ◌⊎◌, inl, inr, ℕ, ◌≤◌, Bool, true, false, List, Option, Some, refl, sym, ap, ◌∙◌, arith, true≢false}
use Rattle.lil_types.specs.Types.{Table}
use Rattle.lil_declared.specs.declared.declared.RVar.{RVar}
use Rattle.lil_scope.specs.declared.thing.Kind.{Kind}
use Rattle.lil_scope.specs.declared.thing.Kind.TheVariants as k
use Rattle.lil_kinds.specs.declared.found.{Form.Form, Found.Found, Located.Located, OpenArray.OpenArray, Standing.Standing}
use Rattle.lil_kinds.specs.declared.found.Form.TheVariants as form
use Rattle.lil_kinds.specs.declared.found.Standing.TheVariants as standing
use Rattle.lil_resolved.specs.{Kinds.Scope, Sizes.place_depth, Sound.IsSoundTarget, Views.{kind_view, place_of}, declared.resolved.{RKind.RKind, RNamed.RNamed}}
use Rattle.lil_shapes.specs.Bases.{kind_at}
use Rattle.lil_forms.specs.{declared.places.Cell.Cell, Places.{located_in, cell_as, cell}, Properties.{Property, Reach}, Scopes.Fits, Soundness.{soundness, target}}
use Rattle.lil_call.specs.Passing.{is_variable}
use Rattle.lil_right_type.specs.Found.{OpensAt, GoesWith, HasPlace, IsFound}

module _ {t : Table} {vs : RNamed → Option RVar} {around : List ℕ} {R : Reach} (P : Property t vs around R) (x : Found) where
  -- a place of a type
  pub record IsVariable : Type 0 where
    pub sort : ℕ
    pub at : Located
    pub kind : x.kind ≡ k.Of sort
    pub form : x.form ≡ form.Located at
    pub same : at.sort ≡ sort
    pub deep : place_depth (place_of at.place) ≤ 13
    pub good : P.place at

  -- an open array of elements of a type
  pub record IsOpened : Type 0 where
    pub sort : ℕ
    pub array : OpenArray
    pub kind : x.kind ≡ k.Open sort
    pub form : x.form ≡ form.Open array
    pub opens : OpensAt P sort array

  -- a variable is one of these
  pub variable_is : IsFound P x → is_variable x.standing ≡ true → IsVariable ⊎ IsOpened
  variable_is h is = by x.standing x.kind x.form is refl refl h.place h.form
    where
      by : (s : Standing) (a : Kind) (f : Form) → is_variable s ≡ true → x.kind ≡ a → x.form ≡ f → HasPlace s a f → GoesWith P x.depth a f → IsVariable ⊎ IsOpened
      by standing.Variable (k.Of s) (form.Located q) is kind form place goes = inl (record { sort = s; at = q; kind = kind; form = form; same = goes.sort; deep = omega (arith, h.few, goes.deep); good = goes.good })
      by standing.Variable (k.Open s) (form.Open a) is kind form place goes = inr (record { sort = s; array = a; kind = kind; form = form; opens = goes })
      by standing.Variable (k.Open s) _ is kind form place goes = absurd goes
      by standing.Variable _ _ is kind form place goes = absurd place
      by _ a f is kind form place goes = cc

  -- it is a place where a test of its kind refuses open arrays
  pub place_is : (test : Kind → Bool) → ((s : ℕ) → test (k.Open s) ≡ false) → IsFound P x → is_variable x.standing ≡ true → test x.kind ≡ true → IsVariable
  place_is test refuses h is so = elim (variable_is h is) [ inl v ↦ v | inr o ↦ absurd (true≢false (sym so ∙ ap test o.kind ∙ refuses o.sort)) ]

  -- whose type has a kind
  abbrev pub cell_of : IsVariable → RKind → Cell
  cell_of v j = record { place = v.at.place; kind = j; sort = v.sort }

  pub cell_is : (v : IsVariable) (j : RKind) → kind_at t v.sort ≡ Some j → cell t (located_in x.form) ≡ Some (cell_of v j)
  unfolding cell
  cell_is v j is = ap (λ f. cell t (located_in f)) v.form ∙ ap (cell_as v.at) (ap (kind_at t) v.same ∙ is) ∙ ap (λ s. Some (record { place = v.at.place; kind = j; sort = s })) v.same

-- values may be stored there
pub target_sound : {t : Table} {vs : RNamed → Option RVar} {around : List ℕ} {R : Reach} {ts : Scope} (fits : Fits t vs around R ts) (x : Found) (v : IsVariable (soundness fits) x) (j : RKind) → kind_at t v.sort ≡ Some j → IsSoundTarget ts (place_of v.at.place) (kind_view j)
target_sound fits x v j is = target fits v.at j (ap (kind_at _) v.same ∙ is) v.deep v.good
