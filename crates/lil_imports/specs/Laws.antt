-- Of imports, what is gathered, or the fault, is one, and not both are there. Where no import has a fault each module has an interface.
use Rattle.std.proofs.Common.{◌≡◌, ◌⊎◌, inl, inr, ℕ, Bool, true, false, List, [], ◌∷◌, ◌++◌, Option, None, Some, Result, Ok, Err, refl, sym, ◌∙◌, ap, subst}
use Rattle.std.specs.Prelude.{is_some, is_none, if◌then◌else◌}
use Rattle.lil_base.specs.{declared.fault.{FaultKind.TheVariants.{NoSymbol, SymDamaged}, SourceFault.SourceFault}, Faults.{fault, fault_about, fault_number}}
use Rattle.lil_text.specs.declared.tree.Ident.{Ident}
use Rattle.lil_language.specs.declared.unit.{Import.Import, Unit.Unit as Tree}
use Rattle.lil_report.specs.{declared.report.Fault.{Fault as Checked}, Told.{Row, Stands}}
use Rattle.lil_format.specs.{Format.reads, Reading.whole}
use Rattle.lil_scope.specs.Names.{same}
use Rattle.lil_interfaces.specs.{declared.surface.Interface.Interface, Interfaces.named}
use Rattle.lil_symfile.specs.{declared.tree.SymbolFile.SymbolFile, Symbol.symbol_file}
use Rattle.lil_iface.specs.Known.{interface_in}
use Rattle.lil_check_unit.specs.Units.{HasInterfaces, missing_by, missing_names, missing_rows}
use Rattle.lil_imports.specs.{declared.{gathering.Gathered.Gathered, stored.Stored.Stored}, Meeting.first_some}
use Rattle.lil_imports.specs.Stored.{stored, of_read}
use Rattle.lil_imports.specs.Gathering.{modules_by, modules_of, nothing_gathered, is_known, and_stored, too_many, own, damaged, import_fault, Gathers, HasImportFault}
use Rattle.lil_imports.specs.declared.stored.Stored.TheVariants as s

same_some : {A : Type 0} (a b : A) → Some a ≡ Some b → a ≡ b
same_some a b e = cc

never : (b : Bool) → b ≡ true → b ≡ false → ⊥
never b h k = absurd cc

-- a test that finds a fault, and one that finds none
both : (o : Option SourceFault) (f : SourceFault) → o ≡ Some f → o ≡ None → ⊥
both o f h k = absurd cc

none_behind : (o p : Option SourceFault) → first_some o p ≡ None → p ≡ None
none_behind None p e = e
none_behind (Some f) p e = absurd cc

some_behind : (o : Option SourceFault) (f : SourceFault) → first_some o (Some f) ≡ None → ⊥
some_behind o f e = both (Some f) f refl (none_behind o (Some f) e)

-- ---- a test, or what holds where it finds none
module _ (o : Option SourceFault) (E F : Type 0) where
  fault_same : (e f : SourceFault) → (E → F → e ≡ f) → (o ≡ Some e) ⊎ ((o ≡ None) × E) → (o ≡ Some f) ⊎ ((o ≡ None) × F) → e ≡ f
  fault_same e f rest (inl h) (inl k) = same_some e f (sym h ∙ k)
  fault_same e f rest (inl h) (inr k) = absurd (both o e h k.0)
  fault_same e f rest (inr h) (inl k) = absurd (both o f k h.0)
  fault_same e f rest (inr h) (inr k) = rest h.1 k.1

  fault_none : (f : SourceFault) → o ≡ None → (F → ⊥) → (o ≡ Some f) ⊎ ((o ≡ None) × F) → ⊥
  fault_none f none rest (inl h) = both o f h none
  fault_none f none rest (inr h) = rest h.1

  fault_too : (f : SourceFault) → (E → F) → (o ≡ Some f) ⊎ ((o ≡ None) × E) → (o ≡ Some f) ⊎ ((o ≡ None) × F)
  fault_too f rest (inl h) = inl h
  fault_too f rest (inr h) = inr (h.0, rest h.1)

-- ---- interfaces that are there
module _ (x : Interface) (o p : Option Interface) where
  here_by : (b : Bool) → is_some o ≡ true → is_some (if b then Some x else o) ≡ true
  here_by true h = refl
  here_by false h = h

  still_by : (b : Bool) → (is_some o ≡ true → is_some p ≡ true) → is_some (if b then Some x else o) ≡ true → is_some (if b then Some x else p) ≡ true
  still_by true rest h = refl
  still_by false rest h = rest h

known_here : (is : List Interface) (i : Interface) (n : List ℕ) → same n i.name ≡ true → is_some (named (is ++ i ∷ []) n) ≡ true
known_here [] i n is_here = ap (λ (b : Bool). is_some (if b then Some i else None)) is_here
known_here (x ∷ xs) i n is_here = here_by x (named (xs ++ i ∷ []) n) None (same n x.name) (known_here xs i n is_here)

known_still : (is : List Interface) (i : Interface) (n : List ℕ) → is_some (named is n) ≡ true → is_some (named (is ++ i ∷ []) n) ≡ true
known_still [] i n known = absurd cc
known_still (x ∷ xs) i n known = still_by x (named xs n) (named (xs ++ i ∷ []) n) (same n x.name) (known_still xs i n) known

known_behind : (g : Gathered) (st : Stored) (n : List ℕ) → is_known g n ≡ true → is_known (and_stored g st) n ≡ true
known_behind g s.Missing n known = known
known_behind g s.Damaged n known = known
known_behind g (s.There i) n known = known_still g.interfaces i n known

-- what has no fault is there
module _ (u : Tree) (g : Gathered) (i : Ident) where
  not_missing : import_fault u g i s.Missing ≡ None → ⊥
  not_missing none = some_behind (too_many g i) (fault (fault_number NoSymbol) i.place) none

  not_damaged : import_fault u g i s.Damaged ≡ None → ⊥
  not_damaged none = some_behind (own u i s.Damaged) (fault_about (fault_number SymDamaged) i.place i.name) (none_behind (too_many g i) (first_some (own u i s.Damaged) (damaged i s.Damaged)) none)

  pub is_there : (st : Stored) → import_fault u g i st ≡ None → (x : Interface) × (st ≡ s.There x)
  is_there s.Missing none = absurd (not_missing none)
  is_there s.Damaged none = absurd (not_damaged none)
  is_there (s.There x) none = (x, refl)

  module_there : (x : Interface) (b : Bool) → same i.name x.name ≡ b → import_fault u g i (if b then s.There x else s.Damaged) ≡ None → is_known (and_stored g (if b then s.There x else s.Damaged)) i.name ≡ true
  module_there x true is none = known_here g.interfaces x i.name is
  module_there x false is none = absurd (not_damaged none)

  read_there : (r : Result SymbolFile ℕ) → import_fault u g i (of_read i.name r) ≡ None → is_known (and_stored g (of_read i.name r)) i.name ≡ true
  read_there (Ok f) none = module_there (interface_in f) (same i.name (interface_in f).name) refl none
  read_there (Err left) none = absurd (not_damaged none)

  stored_there : (o : Option (List ℕ)) → import_fault u g i (stored i.name o) ≡ None → is_known (and_stored g (stored i.name o)) i.name ≡ true
  stored_there None none = absurd (not_missing none)
  stored_there (Some bytes) none = read_there (whole bytes (reads symbol_file bytes)) none

-- ---- modules each of which has an interface
abbrev AreKnown : Gathered → List Ident → Type 0
AreKnown g [] = Unit {0}
AreKnown g (i ∷ is) = (is_known g i.name ≡ true) × AreKnown g is

known_parts : (g : Gathered) (is js : List Ident) → AreKnown g (is ++ js) → AreKnown g is × AreKnown g js
known_parts g [] js h = (tt, h)
known_parts g (i ∷ is) js h = let rest = known_parts g is js h.1 in ((h.0, rest.0), rest.1)

stands_parts : (rs ts : List Row) (f : Checked) → Stands (rs ++ ts) f → Stands rs f ⊎ Stands ts f
stands_parts [] ts f h = inr h
stands_parts (r ∷ rs) ts f (inl h) = inl (inl h)
stands_parts (r ∷ rs) ts f (inr h) = elim (stands_parts rs ts f h) [ inl k ↦ inl (inr k) | inr k ↦ inr k ]

none_or_some : (o : Option Interface) → is_some o ≡ true → is_none o ≡ true → ⊥
none_or_some None h k = absurd cc
none_or_some (Some i) h k = absurd cc

module _ (g : Gathered) (f : Checked) where
  no_missing_names : (is : List Ident) → AreKnown g is → Stands (missing_names g.interfaces is) f → ⊥
  no_missing_names [] are h = h
  no_missing_names (i ∷ is) are (inl h) = none_or_some (named g.interfaces i.name) are.0 h.0
  no_missing_names (i ∷ is) are (inr h) = no_missing_names is are.1 h

  no_missing_by : (o : Option Ident) (names : List Ident) → AreKnown g (modules_by o names) → Stands (missing_by g.interfaces o names) f → ⊥
  no_missing_by None names are h = no_missing_names names are h
  no_missing_by (Some m) names are h = no_missing_names (m ∷ []) are h

  no_missing : (xs : List Import) → AreKnown g (modules_of xs) → Stands (missing_rows g.interfaces xs) f → ⊥
  no_missing [] are h = h
  no_missing (x ∷ xs) are h =
      let parts = known_parts g (modules_by x.from x.names) (modules_of xs) are in
      elim (stands_parts (missing_by g.interfaces x.from x.names) (missing_rows g.interfaces xs) f h) [ inl k ↦ no_missing_by x.from x.names parts.0 k | inr k ↦ no_missing xs parts.1 k ]

module _ (u : Tree) (P : List ℕ → Option (List ℕ) → Type 0) where
  known_on : (n : List ℕ) (g : Gathered) (is : List Ident) (r : Gathered) → Gathers u P g is r → is_known g n ≡ true → is_known r n ≡ true
  known_on n g [] r h known = ap (λ (x : Gathered). is_known x n) h ∙ known
  known_on n g (i ∷ is) r (inl h) known = known_on n g is r h.1 known
  known_on n g (i ∷ is) r (inr h) known = known_on n (and_stored g (stored i.name h.1.0)) is r h.1.3 (known_behind g (stored i.name h.1.0) n known)

  all_known : (g : Gathered) (is : List Ident) (r : Gathered) → Gathers u P g is r → AreKnown r is
  all_known g [] r h = tt
  all_known g (i ∷ is) r (inl h) = (known_on i.name g is r h.1 h.0, all_known g is r h.1)
  all_known g (i ∷ is) r (inr h) =
      let more = and_stored g (stored i.name h.1.0) in
      (known_on i.name more is r h.1.3 (stored_there u g i h.1.0 h.1.2), all_known more is r h.1.3)

  module _ (one : (n : List ℕ) (o p : Option (List ℕ)) → P n o → P n p → o ≡ p) where
    pub one_gathered : (g : Gathered) (is : List Ident) (r s : Gathered) → Gathers u P g is r → Gathers u P g is s → r ≡ s
    one_gathered g [] r s h k = h ∙ sym k
    one_gathered g (i ∷ is) r s (inl h) (inl k) = one_gathered g is r s h.1 k.1
    one_gathered g (i ∷ is) r s (inl h) (inr k) = absurd (never (is_known g i.name) h.0 k.0)
    one_gathered g (i ∷ is) r s (inr h) (inl k) = absurd (never (is_known g i.name) k.0 h.0)
    one_gathered g (i ∷ is) r s (inr h) (inr k) =
        let same : k.1.0 ≡ h.1.0 = one i.name k.1.0 h.1.0 k.1.1 h.1.1 in
        one_gathered (and_stored g (stored i.name h.1.0)) is r s h.1.3 (subst (λ (o : Option (List ℕ)). Gathers u P (and_stored g (stored i.name o)) is s) same k.1.3)

    abbrev FaultAt : Gathered → Ident → List Ident → SourceFault → Option (List ℕ) → Type 0
    FaultAt g i is f o = (import_fault u g i (stored i.name o) ≡ Some f) ⊎ ((import_fault u g i (stored i.name o) ≡ None) × HasImportFault u P (and_stored g (stored i.name o)) is f)

    pub one_import_fault : (g : Gathered) (is : List Ident) (e f : SourceFault) → HasImportFault u P g is e → HasImportFault u P g is f → e ≡ f
    one_import_fault g [] e f h k = absurd h
    one_import_fault g (i ∷ is) e f (inl h) (inl k) = one_import_fault g is e f h.1 k.1
    one_import_fault g (i ∷ is) e f (inl h) (inr k) = absurd (never (is_known g i.name) h.0 k.0)
    one_import_fault g (i ∷ is) e f (inr h) (inl k) = absurd (never (is_known g i.name) k.0 h.0)
    one_import_fault g (i ∷ is) e f (inr h) (inr k) =
        let more = and_stored g (stored i.name h.1.0) in
        fault_same (import_fault u g i (stored i.name h.1.0)) (HasImportFault u P more is e) (HasImportFault u P more is f) e f (one_import_fault more is e f) h.1.2
        (subst (FaultAt g i is f) (one i.name k.1.0 h.1.0 k.1.1 h.1.1) k.1.2)

    pub no_import_fault : (g : Gathered) (is : List Ident) (r : Gathered) (f : SourceFault) → Gathers u P g is r → HasImportFault u P g is f → ⊥
    no_import_fault g [] r f h k = k
    no_import_fault g (i ∷ is) r f (inl h) (inl k) = no_import_fault g is r f h.1 k.1
    no_import_fault g (i ∷ is) r f (inl h) (inr k) = never (is_known g i.name) h.0 k.0
    no_import_fault g (i ∷ is) r f (inr h) (inl k) = never (is_known g i.name) k.0 h.0
    no_import_fault g (i ∷ is) r f (inr h) (inr k) =
        let more = and_stored g (stored i.name h.1.0) in
        fault_none (import_fault u g i (stored i.name h.1.0)) ⊥ (HasImportFault u P more is f) f h.1.2 (no_import_fault more is r f h.1.3)
        (subst (FaultAt g i is f) (one i.name k.1.0 h.1.0 k.1.1 h.1.1) k.1.2)

  pub has_interfaces : (r : Gathered) → Gathers u P nothing_gathered (modules_of u.head.imports) r → HasInterfaces r.interfaces u
  has_interfaces r h f stands = no_missing r f u.head.imports (all_known nothing_gathered (modules_of u.head.imports) r h) stands

-- what is found under another relation too
module _ (u : Tree) (P Q : List ℕ → Option (List ℕ) → Type 0) (more : (n : List ℕ) (o : Option (List ℕ)) → P n o → Q n o) where
  gathers_too : (g : Gathered) (is : List Ident) (r : Gathered) → Gathers u P g is r → Gathers u Q g is r
  gathers_too g [] r h = h
  gathers_too g (i ∷ is) r (inl h) = inl (h.0, gathers_too g is r h.1)
  gathers_too g (i ∷ is) r (inr h) = inr (h.0, (h.1.0, more i.name h.1.0 h.1.1, h.1.2, gathers_too (and_stored g (stored i.name h.1.0)) is r h.1.3))

  import_fault_too : (g : Gathered) (is : List Ident) (f : SourceFault) → HasImportFault u P g is f → HasImportFault u Q g is f
  import_fault_too g [] f h = absurd h
  import_fault_too g (i ∷ is) f (inl h) = inl (h.0, import_fault_too g is f h.1)
  import_fault_too g (i ∷ is) f (inr h) =
      let next = and_stored g (stored i.name h.1.0) in
      inr (h.0, (h.1.0, more i.name h.1.0 h.1.1, fault_too (import_fault u g i (stored i.name h.1.0)) (HasImportFault u P next is f) (HasImportFault u Q next is f) f (import_fault_too next is f) h.1.2))

pub gathers_weaker : (u : Tree) (P Q : List ℕ → Option (List ℕ) → Type 0) → ((n : List ℕ) (o : Option (List ℕ)) → P n o → Q n o) → (g : Gathered) (is : List Ident) (r : Gathered) → Gathers u P g is r → Gathers u Q g is r
gathers_weaker = gathers_too

pub import_fault_weaker : (u : Tree) (P Q : List ℕ → Option (List ℕ) → Type 0) → ((n : List ℕ) (o : Option (List ℕ)) → P n o → Q n o) → (g : Gathered) (is : List Ident) (f : SourceFault) → HasImportFault u P g is f → HasImportFault u Q g is f
import_fault_weaker = import_fault_too
