-- What is told of arguments and of what is called.
use Rattle.std.proofs.Common.{◌≡◌, ◌⊎◌, inl, inr, ℕ, ◌<◌, ◌≤◌, true, false, List, [], ◌∷◌, Option, Some, None, refl}
use Rattle.lil_types.specs.Types.{Table, base}
use Rattle.lil_declared.specs.declared.declared.RVar.{RVar}
use Rattle.lil_scope.specs.Built.{resident_built}
use Rattle.lil_resolved.specs.declared.resolved.{RBase.RBase, RNamed.RNamed}
use Rattle.lil_shapes.specs.{Bases.base_at, ListLaws.AllFine, Pointers.lies_at}
use Rattle.lil_forms.specs.Properties.{Property, Reach}
use Rattle.lil_call.specs.{Passing.all_have_values, declared.call.{Argument.Argument, Callee.Callee}}
use Rattle.lil_call.specs.declared.call.Argument.TheVariants as argument
use Rattle.lil_call.specs.declared.call.Callee.TheVariants as callee
use Rattle.lil_right_type.specs.{Found.{IsFound, HeadingTold, IsSigned, signature}, Right.IsThere, Typed.Yields}

module _ {t : Table} {vs : RNamed → Option RVar} {around : List ℕ} {R : Reach} (P : Property t vs around R) where
  -- an argument is a value that is told, or a type in whose variables something lies; or it is missing, and then W is so
  abbrev pub ArgumentOr : Type 0 → Argument → Type 0
  ArgumentOr W (argument.Value None) = W
  ArgumentOr W (argument.Value (Some x)) = IsFound P x
  ArgumentOr W (argument.Type p None) = W
  ArgumentOr W (argument.Type p (Some s)) = lies_at t s ≡ true

  abbrev pub ArgumentTold : Argument → Type 0
  ArgumentTold = ArgumentOr ⊥

  pub argument_or : (W : Type 0) (x : Argument) → ArgumentTold x → ArgumentOr W x
  argument_or W (argument.Value None) h = absurd h
  argument_or W (argument.Value (Some x)) h = h
  argument_or W (argument.Type p None) h = absurd h
  argument_or W (argument.Type p (Some s)) h = h

  -- all arguments are there, or one is missing
  pub arguments_or : (W : Type 0) (xs : List Argument) → AllFine (ArgumentOr W) xs → AllFine ArgumentTold xs ⊎ (W × (all_have_values xs ≡ false))
  arguments_or W [] h = inl tt
  arguments_or W (x ∷ xs) h = by x h.0 (arguments_or W xs h.1)
    where
      by : (x : Argument) → ArgumentOr W x → AllFine ArgumentTold xs ⊎ (W × (all_have_values xs ≡ false)) → AllFine ArgumentTold (x ∷ xs) ⊎ (W × (all_have_values (x ∷ xs) ≡ false))
      by (argument.Value None) w rest = inr (w, refl)
      by (argument.Value (Some x)) h (inl all) = inl (h, all)
      by (argument.Value (Some x)) h (inr none) = inr none
      by (argument.Type p None) w rest = inr (w, refl)
      by (argument.Type p (Some s)) h (inl all) = inl (h, all)
      by (argument.Type p (Some s)) h (inr none) = inr none

  -- Procedures of the text are called if names reach them, by their types, where both their numbers are bytes; values of a type that has a base;
  -- and of the resident ones, which are proper procedures, what is built.
  abbrev pub CalleeTold : Callee → Type 0
  CalleeTold (callee.Procedure s n levels) = HeadingTold t s × R s n levels × (n < 255) × (levels < 256)
  CalleeTold (callee.Variable s d o) = (d ≤ 12) × ((g : RBase) → base_at t (base t s) ≡ Some g → IsThere (Yields P g d) o)
  CalleeTold (callee.Resident r s) = IsSigned t s (signature r) × (resident_built r ≡ true)
  CalleeTold (callee.Standard of) = Unit {0}
  CalleeTold callee.Other = Unit {0}
