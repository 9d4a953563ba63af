-- Over one book and the same symbol files a unit is compiled to one thing, or has one fault, and not both.
use Rattle.std.proofs.Common.{◌≡◌, inl, inr, ℕ, ◌<◌, ◌≤◌, List, length, Option, None, Some, sym, ◌∙◌, ap, subst, arith}
use Rattle.lil_base.specs.declared.fault.SourceFault.{SourceFault}
use Rattle.lil_language.specs.declared.unit.Unit.{Unit as Tree}
use Rattle.lil_report.specs.declared.report.Fault.{Fault as Checked}
use Rattle.lil_check_unit.specs.Units.{told}
use Rattle.lil_book.specs.declared.book.Book.{Book}
use Rattle.lil_text.specs.declared.tree.Ident.{Ident}
use Rattle.lil_interfaces.specs.declared.surface.Interface.{Interface}
use Rattle.lil_imports.specs.{declared.gathering.Gathered.Gathered, Gathering.{modules_of, nothing_gathered}, Laws.{one_gathered, one_import_fault, no_import_fault}}
use Rattle.lil_iface.specs.Laws.{one_fault, no_both, one_interface}
use Rattle.lil_compile.specs.{Compiled.{Compiled, compiled, naming, next_key, IsImported, IsWrong, OfBook, HasUnitFault}, Layers.{IsOver, IsOverImports, IsOverFound}, LeftLaws.one_book}

-- a test that finds a fault, and one that finds none
both : (o : Option Checked) (g : Checked) → o ≡ Some g → o ≡ None → ⊥
both o g h k = absurd cc

same_some : (g h : Checked) → Some g ≡ Some h → g ≡ h
same_some g h e = cc

-- the same test tells the same fault
same_told : (o : Option Checked) (g h : Checked) (f k : SourceFault) → o ≡ Some g → o ≡ Some h → f ≡ told g → k ≡ told h → f ≡ k
same_told o g h f k p q e d = e ∙ ap told (same_some g h (sym p ∙ q)) ∙ sym d

-- where these are the interfaces of what it imports
module _ (u : Tree) (is : List Interface) (b : Book) where
  one_wrong : (f g : SourceFault) → IsWrong u is b f → IsWrong u is b g → f ≡ g
  one_wrong f g (inl h) (inl k) = one_fault u is (next_key b) f g h k
  one_wrong f g (inl h) (inr k) = absurd (no_both u is (next_key b) f k.0 h k.1)
  one_wrong f g (inr h) (inl k) = absurd (no_both u is (next_key b) g h.0 k h.1)
  one_wrong f g (inr h) (inr k) = h.3 ∙ sym k.3

  no_wrong : (x text : List ℕ) (c : Compiled) (f : SourceFault) → IsOver x text u is b c → IsWrong u is b f → ⊥
  no_wrong x text c f o (inl h) = no_both u is (next_key b) f o.symbols h o.interface
  no_wrong x text c f o (inr h) = let full : 65535 ≤ length b.entries = h.2 in let room : length b.entries < 65535 = o.room in absurd (omega arith)

  one_over : (x text : List ℕ) (c d : Compiled) → IsOver x text u is b c → IsOver x text u is b d → c ≡ d
  one_over x text c d h k = h.is ∙ ap (compiled x text b) (one_interface u is (next_key b) h.symbols k.symbols h.interface k.interface) ∙ sym k.is

-- P finds one thing, or nothing, as the symbol file of a module
module _ (P : List ℕ → Option (List ℕ) → Type 0) (once : (n : List ℕ) (o p : Option (List ℕ)) → P n o → P n p → o ≡ p) (x : List ℕ) (u : Tree) where
  abbrev imports : List Ident
  imports = modules_of u.head.imports

  same_gathered : (g h : Gathered) → IsImported P u g → IsImported P u h → g ≡ h
  same_gathered g h = one_gathered u P once nothing_gathered imports g h

  one_of_book : (b : Book) (f g : SourceFault) → OfBook P x u b f → OfBook P x u b g → f ≡ g
  one_of_book b f g (named, inl h) (k, inl j) = one_import_fault u P once nothing_gathered imports f g h j
  one_of_book b f g (named, inl h) (k, inr j) = absurd (no_import_fault u P once nothing_gathered imports j.0 f j.1 h)
  one_of_book b f g (named, inr h) (k, inl j) = absurd (no_import_fault u P once nothing_gathered imports h.0 g h.1 j)
  one_of_book b f g (named, inr h) (k, inr j) = one_wrong u h.0.interfaces b f g h.2 (subst (λ (r : Gathered). IsWrong u r.interfaces b g) (same_gathered j.0 h.0 j.1 h.1) j.2)

  module _ (found : Option (List ℕ)) where
    pub one_unit_fault : (f g : SourceFault) → HasUnitFault P x u found f → HasUnitFault P x u found g → f ≡ g
    one_unit_fault f g (inl h) (inl k) = same_told (naming x u) h.0 k.0 f g h.1 k.1 h.2 k.2
    one_unit_fault f g (inl h) (inr (inl k)) = absurd (both (naming x u) h.0 h.1 k.0)
    one_unit_fault f g (inl h) (inr (inr k)) = absurd (both (naming x u) h.0 h.1 k.2.0)
    one_unit_fault f g (inr (inl h)) (inl k) = absurd (both (naming x u) k.0 k.1 h.0)
    one_unit_fault f g (inr (inl h)) (inr (inl k)) = h.2 ∙ sym k.2
    one_unit_fault f g (inr (inl h)) (inr (inr k)) = absurd (h.1 k.0 k.1)
    one_unit_fault f g (inr (inr h)) (inl k) = absurd (both (naming x u) k.0 k.1 h.2.0)
    one_unit_fault f g (inr (inr h)) (inr (inl k)) = absurd (k.1 h.0 h.1)
    one_unit_fault f g (inr (inr h)) (inr (inr k)) = one_of_book h.0 f g h.2 (subst (λ (b : Book). OfBook P x u b g) (one_book found k.0 h.0 k.1 h.1) k.2)

    module _ (text : List ℕ) where
      book_apart : (b : Book) (c : Compiled) (f : SourceFault) → IsOverImports P x text u b c → OfBook P x u b f → ⊥
      book_apart b c f o (named, inl h) = no_import_fault u P once nothing_gathered imports o.0 f o.1 h
      book_apart b c f o (named, inr h) = no_wrong u o.0.interfaces b x text c f o.2 (subst (λ (r : Gathered). IsWrong u r.interfaces b f) (same_gathered h.0 o.0 h.1 o.1) h.2)

      pub unit_apart : (c : Compiled) (f : SourceFault) → IsOverFound P x text u found c → HasUnitFault P x u found f → ⊥
      unit_apart c f h (inl k) = both (naming x u) k.0 k.1 h.2.2.named
      unit_apart c f h (inr (inl k)) = k.1 h.0 h.1
      unit_apart c f h (inr (inr k)) = book_apart h.0 c f h.2 (subst (λ (b : Book). OfBook P x u b f) (one_book found k.0 h.0 k.1 h.1) k.2)

      over_imports : (b : Book) (c d : Compiled) → IsOverImports P x text u b c → IsOverImports P x text u b d → c ≡ d
      over_imports b c d h k = one_over u h.0.interfaces b x text c d h.2 (subst (λ (r : Gathered). IsOver x text u r.interfaces b d) (same_gathered k.0 h.0 k.1 h.1) k.2)

      pub one_unit : (c d : Compiled) → IsOverFound P x text u found c → IsOverFound P x text u found d → c ≡ d
      one_unit c d h k = over_imports h.0 c d h.2 (subst (λ (b : Book). IsOverImports P x text u b d) (one_book found k.0 h.0 k.1 h.1) k.2)
