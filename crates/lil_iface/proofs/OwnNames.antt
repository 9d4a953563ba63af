-- The names of a definition, where its exports are looked up.
use Rattle.std.proofs.Common.{◌≡◌, ℕ, List, [], ◌∷◌, ◌++◌, Option, map, drop, refl, ap, ◌∙◌}
use Rattle.std.specs.List.{flat_map}
use Rattle.std.proofs.lemmas.List.{drop-map}
use Rattle.lil_text.specs.declared.tree.Ident.{Ident}
use Rattle.lil_scope.specs.{declared.{env.Env.Env, thing.Bound.Bound}, Names.{block_at, bound_of}}
use Rattle.lil_symfile.specs.declared.tree.SymName.{SymName}
use Rattle.lil_iface.specs.{Iface.{class_of, is_shown, name_by, name_of, by_place, own_names}, Listed.{shown_by, name_in}}

module _ (e : Env) (os : List ℕ) (listed : Option (List (List ℕ))) (exports : Option (List Ident)) (same : (n : List ℕ) → shown_by listed n ≡ is_shown exports n) where
  pub names_are : (bs : List Bound) → flat_map (name_in e os listed) bs ≡ flat_map (name_of e os exports) bs
  names_are [] = refl
  names_are (b ∷ bs) = λ j. name_by (same b.name j) b.name (class_of e os b.entry.thing) ++ names_are bs j

pub own_is : (imported : ℕ) (e : Env) {bound own ordered : List Bound} → bound ≡ map bound_of (block_at e.scopes.blocks e.scopes.inner) → own ≡ drop imported bound → ordered ≡ by_place own → ordered ≡ own_names imported e
own_is imported e all behind order = order ∙ ap by_place (behind ∙ ap (drop imported) all ∙ drop-map bound_of imported (block_at e.scopes.blocks e.scopes.inner))
