-- A type may reach itself through `Items`: the items of a list are its only parts of that type, in their order.
use mathlib.Core.Path.{◌≡◌, refl, sym}
use mathlib.Core.List.{List, []}
use mathlib.Core.Former.{Former, this, list, via, children}
use base.Stored.{code_map}
use denote.RattleType.{RattleType}
use denote.HoleLaws.{Alike}
use denote.HolePlaces.{Recodes, struct_places, laid}
use denote.Hole.Carrier.{listed, list-listed}
use denote.Hole.Fix.{over}
use denote.Param.Weighed.{Weighed, w_list}
use denote.Model.Placed.{view_places}
use Rattle.std.specs.formers.vec.Vec as vec
use Rattle.std.specs.{declared.alloc.Global.Global, contracts.impls.GlobalAllocator.TheImpl.ghosts}
use Rattle.std.specs.contracts.alloc.Global as global
use Rattle.lil_base.specs.declared.items.Items.{TheInside.Inside, TheView.{view, invariant}}
use Rattle.lil_base.specs.contracts.items.Items as outside
use Rattle.lil_base.specs.contracts.items.Items.TheInside as inside

abbrev pub the_former : Former {0} → Former {0}
the_former part = list part

abbrev pub the_weighed : {part : Former {0}} → Weighed part → Weighed (the_former part)
the_weighed weight = w_list weight

pub the_empty : List ⊥
the_empty = []

-- the parts of a list are its items
abbrev pub the_items : (X : Type 0) → List X → List X
the_items X items = items

pub the_items_listed : (X : Type 0) (items : List X) → listed _ (children (the_former this) X items) ≡ the_items X items
the_items_listed X items = list-listed X items

-- the struct is the Vec that it holds
abbrev as_struct : Former {0}
as_struct = via (vec.the_former this Global) Inside (λ X s. s.inner) (λ X v. record { inner = v }) (λ X s. refl) (λ X v. refl)

module _ (R S : RattleType) (change : R.Denot → S.Denot) where
  pub the_places : Alike R S change → Alike (outside.the_row R) (outside.the_row S) ((the_former this).map R.Denot S.Denot change)
  the_places alike =
      let vectors = vec.the_places global.the_row ghosts R S change alike in
      let structs = struct_places (inside.the_type R) (inside.the_type S) (vec.mapped change, tt) _ (λ s. refl) refl (laid _ _ _ vectors, tt) in
      view_places as_struct (list this) view (λ X Y f s. refl) (λ X s. refl) R.Denot S.Denot change
      (outside.the_row R).coded (outside.the_row S).coded (invariant R.Denot) (invariant S.Denot)
      (λ s p q. refl) (λ s p q. refl) (λ s e. tt) (λ s e. tt) (over (inside.the_row R)) (over (inside.the_row S)) structs

  pub the_codes_placed : Recodes R S change → Recodes (outside.the_row R) (outside.the_row S) ((the_former this).map R.Denot S.Denot change)
  the_codes_placed recodes items = sym (code_map R.coded.code S.coded.code change (λ x. sym (recodes x)) items)
