-- What is found by a name, where one field more stands at the end.
use Rattle.std.proofs.Common.{◌≡◌, ℕ, ◌+◌, Bool, true, false, cond, nat_eq, List, [], ◌∷◌, ◌++◌, length, Option, Some, None, refl, arith}
use Rattle.std.specs.{Cmp.Lexicographic.{pointwise, nat_list_eq_equiv}, declared.{vec.Vec.Vec, alloc.Global.Global}}
use Rattle.indexmap.specs.IndexMap.{insert_entry}
use Rattle.lil_types.specs.{declared.{table.Field.Field, fields.FieldAt.FieldAt}, Fields.{same_name, field_from}, FieldIndex.{Index, found_in, or_named}}

-- it is found among the fields where none before has the name
pub field_more : (k number : ℕ) (xs : List Field) (x : Field) (n : List ℕ) → number ≡ k + length xs
    → field_from k (xs ++ x ∷ []) n ≡ or_named (field_from k xs n) x.name (record { number = number; sort = x.sort }) n
field_more k number [] x n last = λ j. or_named None x.name (record { number = at j; sort = x.sort }) n
  where
    at : k ≡ number
    at = omega arith
field_more k number (y ∷ ys) x n last = by (same_name y.name n) (field_more (k + 1) number ys x n (omega arith))
  where
    first : Option FieldAt
    first = Some (record { number = k; sort = y.sort })

    more : Option FieldAt → Option FieldAt
    more o = or_named o x.name (record { number = number; sort = x.sort }) n

    by : (b : Bool) → field_from (k + 1) (ys ++ x ∷ []) n ≡ more (field_from (k + 1) ys n)
        → cond b first (field_from (k + 1) (ys ++ x ∷ []) n) ≡ more (cond b first (field_from (k + 1) ys n))
    by true rest = refl
    by false rest = rest

-- and it is found in an index that hadn't the name, once that has it
pub put_new : (es : Index) (key : Vec ℕ Global) (at : FieldAt) → found_in es key.items ≡ None
    → (n : List ℕ) → found_in (insert_entry (λ a b. pointwise nat_eq a.items b.items) es key at) n ≡ or_named (found_in es n) key.items at n
put_new [] key at none n = λ j. cond (nat_list_eq_equiv.symm n key.items j) (Some at) None
put_new (e ∷ es) key at none n = by (same_name key.items e.0.items) none (λ h. put_new es key at h n)
  where
    longer : Index
    longer = insert_entry (λ a b. pointwise nat_eq a.items b.items) es key at

    more : Option FieldAt → Option FieldAt
    more o = or_named o key.items at n

    found : (b : Bool) → found_in longer n ≡ more (found_in es n) → cond b (Some e.1) (found_in longer n) ≡ more (cond b (Some e.1) (found_in es n))
    found true rest = refl
    found false rest = rest

    by : (b : Bool) → cond b (Some e.1) (found_in es key.items) ≡ None → (found_in es key.items ≡ None → found_in longer n ≡ more (found_in es n))
        → found_in (cond b ((e.0, at) ∷ es) (e ∷ longer)) n ≡ more (found_in (e ∷ es) n)
    by true h rest = absurd (cc)
    by false h rest = found (same_name n e.0.items) (rest h)
