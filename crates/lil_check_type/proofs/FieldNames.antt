-- Whether a field has a name, by the field that is found.
use Rattle.std.proofs.Common.{◌≡◌, ℕ, ◌+◌, Bool, true, false, cond, ◌||◌, List, [], ◌∷◌, Some, is_some, refl, ◌∙◌}
use Rattle.std.specs.Cmp.Lexicographic.{nat_list_eq_equiv}
use Rattle.lil_types.specs.{declared.table.Field.Field, Fields.field_from}
use Rattle.lil_scope.specs.Names.{same}
use Rattle.lil_check_type.specs.Records.{has_field}

found_from : (k : ℕ) (fs : List Field) (n : List ℕ) → has_field fs n ≡ is_some (field_from k fs n)
found_from k [] n = refl
found_from k (f ∷ fs) n = (λ j. nat_list_eq_equiv.symm n f.name j || found_from (k + 1) fs n j) ∙ by (same f.name n)
  where
    by : (b : Bool) → (b || is_some (field_from (k + 1) fs n)) ≡ is_some (cond b (Some (record { number = k; sort = f.sort })) (field_from (k + 1) fs n))
    by true = refl
    by false = refl

pub has_found : (fs : List Field) (n : List ℕ) → has_field fs n ≡ is_some (field_from 0 fs n)
has_found fs n = found_from 0 fs n
