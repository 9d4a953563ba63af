-- A type may reach itself through `Boxed`: the value in a box is its only part of that type.
use mathlib.Core.Path.{refl}
use mathlib.Core.Former.{Former, this, const, pair, via}
use base.Stored.{gnil}
use base.Fml.{ftrue}
use denote.RattleType.{RattleType}
use denote.Memory.{part_of}
use denote.RawPtr.{Ptr}
use denote.Sharing.{nothing}
use denote.HoleLaws.{Alike}
use denote.HolePlaces.{Recodes, struct_places, laid, one_value}
use denote.Hole.Fix.{over}
use denote.Param.Weighed.{Weighed}
use denote.Model.Placed.{view_places}
use Rattle.std.specs.{declared.{boxed.Box.Box, alloc.Global.Global}, contracts.impls.GlobalAllocator.TheImpl.ghosts}
use Rattle.std.specs.contracts.boxed.Box as box
use Rattle.std.specs.contracts.alloc.Global as global
use Rattle.lil_base.specs.declared.boxed.Boxed.{TheInside.Inside, TheView.{view, invariant}}
use Rattle.lil_base.specs.contracts.boxed.Boxed as outside
use Rattle.lil_base.specs.contracts.boxed.Boxed.TheInside as inside

abbrev pub the_former : Former {0} → Former {0}
the_former part = part

abbrev pub the_weighed : {part : Former {0}} → Weighed part → Weighed (the_former part)
the_weighed weight = weight

-- the same block with another value in it
abbrev refilled : {X Y : Type 0} → Box X Global → Y → Box Y Global
refilled b y = record { ptr = b.ptr; alloc = b.alloc; value = y }

-- the struct is a block and the value in it
abbrev as_struct : Former {0}
as_struct = via (pair (const (Ptr × Global)) this) Inside (λ X s. ((s.inner.ptr, s.inner.alloc), s.inner.value))
    (λ X p. record { inner = record { ptr = p.0.0; alloc = p.0.1; value = p.1 } }) (λ X s. refl) (λ X p. refl)

abbrev box_row : RattleType → RattleType
box_row R = box.the_row R global.the_row ghosts

module _ (R S : RattleType) (change : R.Denot → S.Denot) where
  boxes_alike : Alike R S change → Alike (box_row R) (box_row S) (λ b. refilled b (change b.value))
  unfolding part_of
  boxes_alike alike = record {
    mir_same = λ i. (box_row (one_value R (alike.mir_same i) (λ _. ftrue) (λ _ _. nothing) gnil)).mir;
    own_same = λ b i. (box_row (one_value R (alike.mir_same i) (alike.own_same b.value i) (alike.shr_same b.value i) gnil)).own_val (refilled b tt);
    shr_same = λ b i. (box_row (one_value R (alike.mir_same i) (alike.own_same b.value i) (alike.shr_same b.value i) gnil)).shr_at (refilled b tt);
  }

  pub the_places : Alike R S change → Alike (outside.the_row R) (outside.the_row S) ((the_former this).map R.Denot S.Denot change)
  the_places alike =
      let structs = struct_places (inside.the_type R) (inside.the_type S) ((λ b. refilled b (change b.value)), tt) _ (λ s. refl) refl (laid _ _ _ (boxes_alike alike), tt) in
      view_places as_struct this view (λ X Y f s. refl) (λ X s. refl) R.Denot S.Denot change
      (outside.the_row R).coded (outside.the_row S).coded (invariant R.Denot) (invariant S.Denot)
      (λ s p q. refl) (λ s p q. refl) (λ s e. tt) (λ s e. tt) (over (inside.the_row R)) (over (inside.the_row S)) structs

  pub the_codes_placed : Recodes R S change → Recodes (outside.the_row R) (outside.the_row S) ((the_former this).map R.Denot S.Denot change)
  the_codes_placed recodes value = recodes value
