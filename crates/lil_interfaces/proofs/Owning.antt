-- What an implementation module begins with, from its parts.
use Rattle.std.proofs.Common.{◌≡◌, ℕ, List, [], ◌∷◌, ap, ◌∙◌}
use Rattle.lil_format.specs.declared.name.Wanted.{Wanted}
use Rattle.lil_types.specs.{declared.table.Origin.Origin, Types.Table}
use Rattle.lil_scope.specs.declared.env.Env.{Env}
use Rattle.lil_interfaces.specs.{declared.{modules.Imported.Imported, surface.Interface.Interface}, Entering.{places, and_origins, numbers_in, with_types}, Imports.nothing_imported}
use Rattle.lil_interfaces.specs.Own.{own_rests, own_places, own_origins, own_numbers, own_types, with_own_names, unnamed, implementing}

module _ (i : Interface) {s : Imported} {ws : List Wanted} {ps : List ℕ} {os : List Origin} {ns : List ℕ} {types : Table} {e f : Env} where
  pub implementing_is : s ≡ nothing_imported → ws ≡ own_rests i → ps ≡ 0 ∷ places ws i.rests → os ≡ and_origins ps [] i.types → ns ≡ numbers_in ps os i.types
      → types ≡ with_types ps os ns [] i.types → e ≡ unnamed types i → f ≡ with_own_names ns e i.names → record s { env = f; rests = ws; origins = os } ≡ implementing i
  unfolding implementing
  implementing_is nothing rests_are places_are origins_are numbers_are types_are env_is names_are =
      let places_so : ps ≡ own_places i = places_are ∙ ap (λ ws. 0 ∷ places ws i.rests) rests_are in
      let origins_so : os ≡ own_origins i = origins_are ∙ ap (λ ps. and_origins ps [] i.types) places_so in
      let numbers_so : ns ≡ own_numbers i = numbers_are ∙ (λ j. numbers_in (places_so j) (origins_so j) i.types) in
      let types_so : types ≡ own_types i = types_are ∙ (λ j. with_types (places_so j) (origins_so j) (numbers_so j) [] i.types) in
      let env_so : e ≡ unnamed (own_types i) i = env_is ∙ ap (λ (t : Table). unnamed t i) types_so in
      let names_so : f ≡ with_own_names (own_numbers i) (unnamed (own_types i) i) i.names = names_are ∙ (λ j. with_own_names (numbers_so j) (env_so j) i.names) in
      λ j. record (nothing j) { env = names_so j; rests = rests_are j; origins = origins_so j }
