-- The fault that is told of a unit is the least one of the first class that has any.
use Rattle.std.proofs.Common.{◌≡◌, ℕ, List, [], ◌∷◌, ◌++◌, Option, Some, None, refl, ap, sym, subst, inl, inr}
use Rattle.lil_report.specs.{declared.report.Fault.Fault, Least.{now_of, Reports}, Told.{Stands, tell}, LeastLaws.{reports_tell, reports_now, reports_late, reports_worse}}
use Rattle.lil_interfaces.specs.{declared.surface.Interface.Interface, Interfaces.residents}
use Rattle.lil_check_unit.specs.Units.{first_of, Speaks, declared, stated, worst, data_fault, unit_fault, imports_fault, program_fault, late_fault, naming_rows, missing_rows, long_rows, names_worst, data_rows, Now, Late, LateInUnit, ClassesOfNames, ClassesOfUnit, ClassesOfProgram}
use Rattle.lil_language.specs.declared.unit.Unit.{Unit as Tree}
use Rattle.lil_language.specs.declared.unit.UnitKind.TheVariants as kind

pub speaks_first : (C : Fault → Type 0) (Cs : List (Fault → Type 0)) (a b : Option Fault) → Reports C a → Speaks Cs b → Speaks (C ∷ Cs) (first_of a b)
speaks_first C Cs None b h k = inr (h, k)
speaks_first C Cs (Some f) b h k = inl (f, refl, h)

speaks_last : (C : Fault → Type 0) (a : Option Fault) → Reports C a → Speaks (C ∷ []) a
speaks_last C None h = inr (h, refl)
speaks_last C (Some f) h = inl (f, refl, h)

-- classes behind others, where those have no fault
pub speaks_behind : (Cs Ds : List (Fault → Type 0)) (a b : Option Fault) → Speaks Cs a → (a ≡ None → Speaks Ds b) → Speaks (Cs ++ Ds) (first_of a b)
speaks_behind [] Ds a b h k = subst (Speaks Ds) (ap (λ o. first_of o b) (sym h)) (k h)
speaks_behind (C ∷ Cs) Ds a b (inl h) k = inl (h.0, ap (λ o. first_of o b) h.1, h.2)
speaks_behind (C ∷ Cs) Ds a b (inr h) k = inr (h.0, speaks_behind Cs Ds a b h.1 k)

-- ---- none is the first of two only where both are none
pub none_before : (a b : Option Fault) → first_of a b ≡ None → a ≡ None
none_before None b h = refl
none_before (Some f) b h = h

pub none_behind : (a b : Option Fault) → first_of a b ≡ None → b ≡ None
none_behind None b h = h
none_behind (Some f) b h = absurd (cc)

module _ (u : Tree) (is : List Interface) where
  -- names and declarations, and statements
  abbrev NamesAndBodies : List (Fault → Type 0)
  NamesAndBodies = ClassesOfNames u is ++ Now (stated is u).1 ∷ []

  pub names_speak : Speaks (ClassesOfNames u is) (names_worst u is)
  names_speak = speaks_first _ (Stands (long_rows u (declared is u).0) ∷ []) _ _ (reports_now _ _ (reports_tell (declared is u).1)) (speaks_last _ _ (reports_tell (long_rows u (declared is u).0)))

  worst_speaks : Speaks NamesAndBodies (worst u is)
  unfolding worst
  worst_speaks = speaks_behind (ClassesOfNames u is) (Now (stated is u).1 ∷ []) _ _ names_speak (λ h. speaks_last _ _ (reports_now _ _ (reports_tell (stated is u).1)))

  pub no_declared : worst u is ≡ None → now_of (tell None (declared is u).1) ≡ None
  unfolding worst
  no_declared h = none_before _ _ (none_before _ _ h)

  pub no_stated : worst u is ≡ None → now_of (tell None (stated is u).1) ≡ None
  unfolding worst
  no_stated h = none_behind (names_worst u is) _ h

  late_speaks : worst u is ≡ None → Reports (LateInUnit u is) (late_fault u is)
  unfolding late_fault
  late_speaks h = reports_worse (Late (declared is u).1) (Late (stated is u).1) _ _
      (reports_late (Stands (declared is u).1) _ (reports_tell (declared is u).1) (no_declared h))
      (reports_late (Stands (stated is u).1) _ (reports_tell (stated is u).1) (no_stated h))

  abbrev DataAndLate : List (Fault → Type 0)
  DataAndLate = Stands (data_rows u (declared is u).0 (stated is u).0) ∷ LateInUnit u is ∷ []

  data_speaks : worst u is ≡ None → Speaks DataAndLate (data_fault u (declared is u).0 (stated is u).0 (late_fault u is))
  data_speaks h = speaks_first _ (LateInUnit u is ∷ []) _ _ (reports_tell (data_rows u (declared is u).0 (stated is u).0)) (speaks_last _ _ (late_speaks h))

  pub unit_speaks : Speaks (ClassesOfUnit u is) (unit_fault u is)
  unfolding unit_fault
  unit_speaks = speaks_behind NamesAndBodies DataAndLate (worst u is) _ worst_speaks data_speaks

pub program_speaks : (file : List ℕ) (u : Tree) → Speaks (ClassesOfProgram file u) (program_fault file u)
unfolding program_fault imports_fault
program_speaks file u =
    speaks_first (Stands (naming_rows kind.Program file u)) (Stands (missing_rows residents u.head.imports) ∷ ClassesOfUnit u residents) _ (imports_fault u) (reports_tell (naming_rows kind.Program file u))
    (speaks_first (Stands (missing_rows residents u.head.imports)) (ClassesOfUnit u residents) _ (unit_fault u residents) (reports_tell (missing_rows residents u.head.imports)) (unit_speaks u residents))
