-- What an import means, from what its parts mean.
use Rattle.std.proofs.Common.{◌≡◌, ℕ, List, Option, Some, None, subst, ap}
use Rattle.lil_text.specs.declared.tree.Ident.{Ident}
use Rattle.lil_language.specs.declared.unit.Import.{Import}
use Rattle.lil_report.specs.{declared.report.Fault.Fault, Told.{Said, walk}, Laws.{said_as, said_after}}
use Rattle.lil_scope.specs.{declared.thing.Thing.Thing, Names.member}
use Rattle.lil_scope.specs.declared.thing.Thing.TheVariants as t
use Rattle.lil_interfaces.specs.{declared.{surface.Interface.Interface, modules.Imported.Imported}, Imports.{entered, found_node, take_node, taken_node, name_step, own_node, names_of, names_from, module_step, import_step, import_by}}
use Rattle.lil_interfaces.specs.declared.sources.Source.TheVariants as from

module _ (s : Imported) {r : Option Fault} where
  pub is_name : (b : ℕ) (i : Ident) {o : Option Thing} {x : Thing} {w : Imported} {q u : Option Fault} → o ≡ member s.env.scopes b i.name
      → Said (found_node i o) r x q → Said (taken_node (from.Block b) i s x) q w u → Said (name_step b s i) r w u
  is_name b i {x = x} {q = q} is h k = said_after _ _ (subst (λ o. Said (found_node i o) r x q) is h) k

  module _ (is : List Interface) where
    pub is_own : (i : Ident) {m w : Imported} {b : ℕ} {u : Option Fault} → (m, b) ≡ entered is s i.name → Said (take_node from.Itself i m (t.Module b)) r w u → Said (own_node is i s) r w u
    is_own i {w = w} {u = u} e h = subst (λ (p : Imported × ℕ). Said (take_node from.Itself i p.0 (t.Module p.1)) r w u) e h

    pub are_names : (m : Ident) (names : List Ident) {o : Imported} {b : ℕ} {w : Imported} {u : Option Fault} → (o, b) ≡ entered is s m.name
        → Said (walk (name_step b) o names) r w u → Said (names_of is m names s) r w u
    are_names m names {w = w} {u = u} e h = subst (λ (p : Imported × ℕ). Said (walk (name_step p.1) p.0 names) r w u) e h

    pub is_from : (x : Import) (m : Ident) (names : List Ident) {w : Imported} {u : Option Fault} → x.from ≡ Some m → names ≡ x.names
        → Said (names_from is m names s) r w u → Said (import_step is s x) r w u
    is_from x m names {w = w} {u = u} some these h = said_as (ap (λ o. import_by is s o x.names) some) (subst (λ names. Said (import_by is s (Some m) names) r w u) these h)

    pub is_plain : (x : Import) (names : List Ident) {w : Imported} {u : Option Fault} → x.from ≡ None → names ≡ x.names → Said (walk (module_step is) s names) r w u → Said (import_step is s x) r w u
    is_plain x names {w = w} {u = u} none these h = said_as (ap (λ o. import_by is s o x.names) none) (subst (λ names. Said (import_by is s None names) r w u) these h)
