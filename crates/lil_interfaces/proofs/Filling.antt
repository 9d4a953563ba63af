-- A unit with the types, texts and names of an interface, from its parts.
use Rattle.std.proofs.Common.{◌≡◌, ℕ, List, ◌++◌, length, ap, ◌∙◌}
use Rattle.lil_base.specs.declared.name.Name.{Name}
use Rattle.lil_format.specs.declared.name.Wanted.{Wanted}
use Rattle.lil_types.specs.{declared.table.Origin.Origin, Types.Table}
use Rattle.lil_interfaces.specs.{declared.{modules.Imported.Imported, surface.Interface.Interface}, Standard.Block, Moving.with_names}
use Rattle.lil_interfaces.specs.{Entering.{and_rests, with_itself, places, and_origins, numbers_in, with_types}, Imports.{rests_with, places_in, origins_with, numbers_with, filled_by}}

module _ (b : ℕ) (s : Imported) (i : Interface) {ws : List Wanted} {ps : List ℕ} {os : List Origin} {ns : List ℕ} {types : Table} {blocks : List Block} {texts : List (List ℕ)} where
  pub filled_is : ws ≡ and_rests s.rests (with_itself i) → ps ≡ places ws (with_itself i) → os ≡ and_origins ps s.origins i.types → ns ≡ numbers_in ps os i.types
      → types ≡ with_types ps os ns s.env.types i.types → blocks ≡ with_names ns (length s.env.texts) b s.env.scopes.blocks i.names → texts ≡ s.env.texts ++ i.texts
      → record s { env = record s.env { scopes = record s.env.scopes { blocks = blocks }; types = types; texts = texts }; rests = ws; origins = os } ≡ filled_by b s i
  unfolding filled_by
  filled_is rests_are places_are origins_are numbers_are types_are blocks_are texts_are =
      let places_so : ps ≡ places_in b s i = places_are ∙ ap (λ ws. places ws (with_itself i)) rests_are in
      let origins_so : os ≡ origins_with b s i = origins_are ∙ ap (λ ps. and_origins ps s.origins i.types) places_so in
      let numbers_so : ns ≡ numbers_with b s i = numbers_are ∙ (λ j. numbers_in (places_so j) (origins_so j) i.types) in
      let types_so : types ≡ with_types (places_in b s i) (origins_with b s i) (numbers_with b s i) s.env.types i.types = types_are ∙ (λ j. with_types (places_so j) (origins_so j) (numbers_so j) s.env.types i.types) in
      let blocks_so : blocks ≡ with_names (numbers_with b s i) (length s.env.texts) b s.env.scopes.blocks i.names = blocks_are ∙ ap (λ ns. with_names ns (length s.env.texts) b s.env.scopes.blocks i.names) numbers_so in
      λ j. record s { env = record s.env { scopes = record s.env.scopes { blocks = blocks_so j }; types = types_so j; texts = texts_are j }; rests = rests_are j; origins = origins_so j }
