-- Of a definition, at most one fault is told under a key, and none beside an interface, of which there is at most one.
use Rattle.std.proofs.Common.{◌≡◌, ℕ, List, Option, Some, None, true, false, refl, sym, ap, subst, inl, inr, ◌∙◌, true≢false}
use Rattle.std.proofs.lemmas.Option.{none-some, same_Some}
use Rattle.lil_base.specs.declared.fault.SourceFault.{SourceFault}
use Rattle.lil_language.specs.declared.unit.Unit.{Unit as Tree}
use Rattle.lil_report.specs.declared.report.Fault.{Fault}
use Rattle.lil_interfaces.specs.declared.surface.Interface.{Interface}
use Rattle.lil_format.specs.Format.{Fits}
use Rattle.lil_symfile.specs.{declared.tree.SymbolFile.SymbolFile, Symbol.symbol_file}
use Rattle.lil_check_unit.specs.Units.{names_worst, told}
use Rattle.lil_iface.specs.Iface.{symbols_of, variables_words, OfNames, OfCounts, OfWords, HasInterfaceFault, IsInterface}

apart : {A : Type 0} {o : Option A} {x : A} → o ≡ Some x → o ≡ None → ⊥
apart {x = x} some none = none-some x (sym none ∙ some)

module _ (u : Tree) (is : List Interface) (key : ℕ) where
  told_once : (f g : SourceFault) → OfNames u is f → OfNames u is g → f ≡ g
  told_once f g h k = h.2 ∙ ap told (same_Some h.0 k.0 (sym h.1 ∙ k.1)) ∙ sym k.2

  pub one_fault : (f g : SourceFault) → HasInterfaceFault u is key f → HasInterfaceFault u is key g → f ≡ g
  one_fault f g (inl h) (inl k) = told_once f g h k
  one_fault f g (inl h) (inr (inl k)) = absurd (apart h.1 k.0)
  one_fault f g (inl h) (inr (inr k)) = absurd (apart h.1 k.0)
  one_fault f g (inr (inl h)) (inl k) = absurd (apart k.1 h.0)
  one_fault f g (inr (inl h)) (inr (inl k)) = h.2 ∙ sym k.2
  one_fault f g (inr (inl h)) (inr (inr k)) = absurd (h.1 k.1)
  one_fault f g (inr (inr h)) (inl k) = absurd (apart k.1 h.0)
  one_fault f g (inr (inr h)) (inr (inl k)) = absurd (k.1 h.1)
  one_fault f g (inr (inr h)) (inr (inr k)) = h.3 ∙ sym k.3

  pub no_both : (f : SourceFault) (s : SymbolFile) → HasInterfaceFault u is key f → IsInterface u is key s → ⊥
  no_both f s (inl h) i = apart h.1 i.right
  no_both f s (inr (inl h)) i = h.1 (subst (Fits symbol_file) i.is i.spelled)
  no_both f s (inr (inr h)) i = true≢false (sym h.2 ∙ i.words)

  pub one_interface : (s r : SymbolFile) → IsInterface u is key s → IsInterface u is key r → s ≡ r
  one_interface s r i k = i.is ∙ sym k.is
