-- Assignments in which no test finds a fault: what is assignable to the type of a place goes there.
use Rattle.std.proofs.Common.{◌≡◌, ℕ, ◌≤◌, Bool, true, false, not, ◌||◌, List, slice_get, Option, Some, None, if◌then◌else◌, refl, sym, ap, subst, ◌∙◌, arith, true≢false, inl, inr}
use Rattle.std.specs.Prelude.{◌==◌, is_some}
use Rattle.std.proofs.lemmas.{Option.same_Some, Bool.Decides.nat_tests}
use Rattle.lil_base.specs.declared.fault.Place.{Place}
use Rattle.lil_types.specs.Types.{Table}
use Rattle.lil_declared.specs.declared.declared.RVar.{RVar}
use Rattle.lil_resolved.specs.{Kinds.Scope, Resolved.shape_of, Views.{assign_is, copy_is, text_is, place_of}, declared.resolved.{RExpr.RExpr, RKind.RKind, RNamed.RNamed, RStmt.RStmt}}
use Rattle.lil_shapes.specs.{Bases.{kind_at, composite_at}, Pointers.lies_at}
use Rattle.lil_scope.specs.declared.thing.Kind.{Kind}
use Rattle.lil_scope.specs.declared.thing.Kind.TheVariants as k
use Rattle.lil_kinds.specs.{Kinds.{compatible, assignable, misses}, declared.found.{Form.Form, Found.Found, Located.Located}}
use Rattle.lil_kinds.specs.declared.found.Form.TheVariants as form
use Rattle.lil_forms.specs.Properties.{Reach}
use Rattle.lil_forms.specs.{Places.{located_in, cell_as, cell}, Scopes.Fits, Soundness.{soundness, composite_there, characters_lie}, Statements.{stored, composed, assigned}, StatementSound.{StatementSound, made_sound}, Values.typed}
use Rattle.lil_right_type.specs.{Found.{KindTold, LiesAt, GoesWith, IsPlaced, IsFound}, Parts.no_kind, Right.{Right, IsThere, is_so}, Sound.{stored_sound, target_sound}, Typed.{Stores, assignable_stores}, Types.IsTold}
use Rattle.lil_right_call.specs.Wholes.{characters_are, IsWhole, IsSpelled, whole_or_spelled}
use Rattle.lil_check_stmt.specs.Nodes.{takes, outside, assign_node}

-- ---- places
pub equal : (m n : ℕ) → m ≡ n → (m == n) ≡ true
equal m n h = grind (arith, nat_tests)

module _ {t : Table} {vs : RNamed → Option RVar} {around : List ℕ} {R : Reach} {ts : Scope} (fits : Fits t vs around R ts) (told : IsTold t) (looping : Bool) where
  abbrev Made : Option RStmt → Type 0
  Made o = IsThere (StatementSound ts looping) o

  module _ (p : Located) (at : ℕ) (n : ℕ) (few : n ≤ 12) (lies : LiesAt (soundness fits) at n p) where
    -- ---- arrays and records as wholes
    module _ (composite : composite_at t p.sort ≡ true) where
      whole_composed : (d : ℕ) (f : Form) → d ≤ 12 → IsWhole (soundness fits) told p.sort (no_kind t told p.sort composite) d f → Made (composed p f)
      whole_composed d f low v = subst (λ f. Made (composed p f)) (sym v.is) (made_sound ts looping _ _ (copy_is p.place v.at.place) (record {
        same = same_Some (shape_of ts (place_of v.at.place)) (shape_of ts (place_of p.place)) (sym v.lies.good.shape ∙ ap (slice_get fits.shapes) v.lies.sort ∙ lies.good.shape);
        there = composite_there fits p lies.good composite;
        place = lies.good.good;
        source = v.lies.good.good;
        shallow = omega (arith, few, lies.deep);
        source_shallow = omega (arith, low, v.lies.deep);
      }))

      spelled_composed : (kind : Kind) (f : Form) → IsSpelled (soundness fits) told p.sort (no_kind t told p.sort composite) kind f → Made (composed p f)
      spelled_composed kind f v = subst (λ f. Made (composed p f)) (sym v.is)
          (let a = characters_are t told p.sort v.characters.length v.fits in
          made_sound ts looping _ _ (text_is p.place v.text) (record {
            count = a.count;
            shape = characters_lie fits p a.parts a.count lies.good a.array a.element a.many;
            fits = subst (λ n. n ≤ a.count) (sym v.holds_it.0) a.fits;
            text = v.holds_it.1;
            place = lies.good.good;
            shallow = omega (arith, few, lies.deep);
          }))

    -- ---- assignments to a place
    placed_right : (v : Found) → IsFound (soundness fits) v → lies_at t p.sort ≡ true → assignable t p.sort v.kind ≡ true → misses t p.sort v.kind ≡ false → Made (assigned t (Some p) v)
    unfolding assigned assignable compatible cell
    placed_right v h filled so out = by (composite_at t p.sort) refl
      where
        stored_there : (j : RKind) (o : Option RExpr) → kind_at t p.sort ≡ Some j → IsThere (Stores (soundness fits) j v.depth) o → Made (stored (Some (record { place = p.place; kind = j; sort = p.sort })) o)
        stored_there j None is y = y
        stored_there j (Some x) is y = made_sound ts looping _ _ (assign_is p.place j x) (target_sound fits n few at p j is lies, stored_sound fits v.depth h.few j x y)

        scalar : (j : Option RKind) → kind_at t p.sort ≡ j → composite_at t p.sort ≡ false → Made (stored (cell_as p j) (typed t p.sort v))
        scalar None none is = absurd (true≢false (sym filled ∙ (λ i. is_some (none i) || is i)))
        scalar (Some j) is plain = stored_there j (typed t p.sort v) is (assignable_stores (soundness fits) told p.sort j v is h so out)

        by : (c : Bool) → composite_at t p.sort ≡ c → Made (if c then composed p v.form else stored (cell t (Some p)) (typed t p.sort v))
        by false is = scalar (kind_at t p.sort) refl is
        by true is = elim (whole_or_spelled (soundness fits) told p.sort (no_kind t told p.sort is) v.depth v.kind v.form h.kind h.form so) [
          | inl e ↦ whole_composed is v.depth v.form h.few e
          | inr e ↦ spelled_composed is v.kind v.form e
        ]

  pub assign_right : (at : Place) (a v : Found) → IsFound (soundness fits) a → IsPlaced a.kind a.form → IsFound (soundness fits) v → Right Made (assign_node t at (Some a) (Some v))
  unfolding assign_node
  assign_right at a v h located j clear = by a.kind a.form h.kind h.form located clear.0 clear.1.0
    where
      by : (kind : Kind) (f : Form) → KindTold t kind → GoesWith (soundness fits) a.depth kind f → IsPlaced kind f → not (takes t kind v.kind) ≡ false → outside t kind v.kind ≡ false → Made (assigned t (located_in f) v)
      by (k.Of s) (form.Located p) fine goes located so out =
          placed_right p s a.depth h.few goes v j (ap (lies_at t) goes.sort ∙ fine) (ap (λ s. assignable t s v.kind) goes.sort ∙ is_so (assignable t s v.kind) so) (ap (λ s. misses t s v.kind) goes.sort ∙ out)
      by (k.Of s) _ fine goes located so out = absurd located
      by _ f fine goes located so out = cc
