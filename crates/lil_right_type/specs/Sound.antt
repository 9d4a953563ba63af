-- Told operands in a scope: what goes with a type is sound where a value or a place of it is wanted.
use Rattle.std.proofs.Common.{◌≡◌, ℕ, ◌≤◌, List, Option, Some, refl, arith}
use Rattle.lil_types.specs.Types.{Table}
use Rattle.lil_declared.specs.declared.declared.RVar.{RVar}
use Rattle.lil_kinds.specs.declared.found.Located.{Located}
use Rattle.lil_resolved.specs.{Kinds.Scope, Sound.{IsSoundTarget, IsSoundWhole, IsSoundValue, IsSoundStored}, Views.{base_view, kind_view, expression_of, place_of}, declared.resolved.{RBase.RBase, RExpr.RExpr, RKind.RKind, RNamed.RNamed}}
use Rattle.lil_shapes.specs.Bases.{kind_at}
use Rattle.lil_forms.specs.Properties.{Reach}
use Rattle.lil_forms.specs.{Scopes.Fits, Soundness.{soundness, target}}
use Rattle.lil_right_type.specs.{Found.LiesAt, Typed.{Yields, Suits, Stores}}

module _ {t : Table} {vs : RNamed → Option RVar} {around : List ℕ} {R : Reach} {ts : Scope} (fits : Fits t vs around R ts) (d : ℕ) (few : d ≤ 12) where
  pub whole_sound : (g : RBase) (x : RExpr) → Yields (soundness fits) g d x → IsSoundWhole ts (expression_of x) (base_view g)
  whole_sound g x h = record { kind = h.0; shallow = omega (arith, few, h.1); sound = h.2 }

  pub value_sound : (j : RKind) (x : RExpr) → Suits (soundness fits) j d x → IsSoundValue ts (expression_of x) (kind_view j)
  value_sound j x h = record { takes = h.0; whole = record { kind = refl; shallow = omega (arith, few, h.1); sound = h.2 } }

  pub stored_sound : (j : RKind) (x : RExpr) → Stores (soundness fits) j d x → IsSoundStored ts (expression_of x) (kind_view j)
  stored_sound j x h = record { stores = h.0; whole = record { kind = refl; shallow = omega (arith, few, h.1); sound = h.2 } }

  pub target_sound : (s : ℕ) (p : Located) (j : RKind) → kind_at t p.sort ≡ Some j → LiesAt (soundness fits) s d p → IsSoundTarget ts (place_of p.place) (kind_view j)
  target_sound s p j is h = target fits p j is (omega (arith, few, h.deep)) h.good
