-- Qualified names of types, and sets of named types.
use Rattle.std.proofs.Common.{◌≡◌, ℕ, Option, Some, subst, ap}
use Rattle.lil_text.specs.declared.tree.{Ident.Ident, Qualident.Qualident}
use Rattle.lil_report.specs.{declared.report.Fault.Fault, Told.Said, Laws.{said_as, said_after}}
use Rattle.lil_scope.specs.declared.env.Env.{Env}
use Rattle.lil_check_value.specs.{declared.names.Looked.Looked, Looks.{look, module_node, member_type, type_by, type_named, sort_node, set_sort}}

module _ {r s t : Option Fault} where
  pub is_qualified : (e : Env) (q : Qualident) (m : Ident) {l : Looked} {b a : Option ℕ} → q.owner ≡ Some m → l ≡ look e m.name → Said (module_node m.place l) r b s → Said (member_type e m.place q.name b) s a t
      → Said (type_named e q) r a t
  unfolding type_named
  is_qualified e q m {b = b} is found h g = said_as (ap (λ o. type_by e o q.name) is) (said_after _ _ (subst (λ l. Said (module_node m.place l) r b s) found h) g)

  pub is_set_named : (e : Env) (of : Option Qualident) (q : Qualident) {b a : Option ℕ} → of ≡ Some q → Said (type_named e q) r b s → Said (sort_node e.types q.name.place b) s a t → Said (set_sort e of) r a t
  is_set_named e of q is h g = said_as (ap (set_sort e) is) (said_after _ _ h g)
