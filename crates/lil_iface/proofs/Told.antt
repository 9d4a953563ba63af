-- What is answered of a definition, from what it declares.
use Rattle.std.proofs.Common.{◌≡◌, ℕ, ◌<◌, ◌≤◌, min, nat_lt, true, false, List, Option, Some, None, refl, sym, ap, subst, inl, inr, ◌∙◌, arith}
use Rattle.std.specs.List.{sum_by}
use Rattle.std.proofs.lemmas.Bool.Decides.{nat_tests}
use Rattle.lil_base.specs.declared.fault.SourceFault.{SourceFault}
use Rattle.lil_language.specs.declared.unit.Unit.{Unit as Tree}
use Rattle.lil_scope.specs.declared.env.Env.{Env}
use Rattle.lil_format.specs.{declared.name.Wanted.Wanted, Format.Fits}
use Rattle.lil_symfile.specs.{declared.tree.SymbolFile.SymbolFile, Symbol.symbol_file}
use Rattle.lil_layout.specs.Data.{variable_words}
use Rattle.lil_interfaces.specs.declared.surface.Interface.{Interface}
use Rattle.lil_check_unit.specs.Units.{declared, brought, imported_names, names_worst}
use Rattle.lil_iface.specs.Iface.{symbols_by, symbols_of, too_long, HasInterfaceFault, IsInterface}

many : (n : ℕ) → 32000 < min n 4294967295 → nat_lt 32000 n ≡ true
many n h = grind (arith, nat_tests)

few : (n : ℕ) → min n 4294967295 ≤ 32000 → nat_lt 32000 n ≡ false
few n h = grind (arith, nat_tests)

module _ (u : Tree) (is : List Interface) {e : Env} {rests : List Wanted} {imported : ℕ}
    (of : (e ≡ (declared is u).0) × (rests ≡ (brought is u).rests) × (imported ≡ imported_names is u) × (names_worst u is ≡ None)) where
  words : sum_by (variable_words e.types) e.variables ≡ sum_by (variable_words (declared is u).0.types) (declared is u).0.variables
  words = ap (λ (e : Env). sum_by (variable_words e.types) e.variables) of.0

  module _ (key : ℕ) {s : SymbolFile} (made : s ≡ symbols_by u key rests e imported) where
    symbols_are : s ≡ symbols_of u is key
    unfolding symbols_of
    symbols_are = made ∙ (λ j. symbols_by u key (of.1 j) (of.0 j) (of.2 j))

    pub of_counts : (Fits symbol_file s → ⊥) → HasInterfaceFault u is key (too_long u)
    of_counts none = inr (inl (of.3, λ h. none (subst (Fits symbol_file) (sym symbols_are) h), refl))

    pub of_words : Fits symbol_file s → 32000 < min (sum_by (variable_words e.types) e.variables) 4294967295 → HasInterfaceFault u is key (too_long u)
    of_words fits more = inr (inr (of.3, subst (Fits symbol_file) symbols_are fits, ap (nat_lt 32000) (sym words) ∙ many _ more, refl))

    pub interface_is : Fits symbol_file s → min (sum_by (variable_words e.types) e.variables) 4294967295 ≤ 32000 → IsInterface u is key s
    interface_is fits less = record { right = of.3; is = symbols_are; spelled = fits; words = ap (nat_lt 32000) (sym words) ∙ few _ less }
