-- What a kind was taken from is its base.
use Rattle.std.proofs.Common.{◌≡◌, Option, Some, None, refl}
use Rattle.lil_resolved.specs.{declared.resolved.{RBase.RBase, RRange.RRange, RKind.RKind}, Kinds.base_of, Views.{base_view, ranged_view, kind_view}}
use Rattle.lil_resolved.specs.declared.resolved.RBase.TheVariants as b

-- a base is no part of another kind
pub own_base : (k : RKind) → base_of (kind_view k) ≡ base_view k.base
own_base k = by k.base k.range
  where
    own : (b : RBase) → base_of (base_view b) ≡ base_view b
    own b.Cardinal = refl
    own b.Integer = refl
    own b.Truth = refl
    own b.Character = refl
    own (b.Enumeration n) = refl
    own b.Set = refl
    own (b.Pointer n) = refl
    own b.Address = refl
    own (b.Procedure n) = refl

    by : (b : RBase) (r : Option RRange) → base_of (ranged_view (base_view b) r) ≡ base_view b
    by b None = own b
    by b (Some r) = own b
