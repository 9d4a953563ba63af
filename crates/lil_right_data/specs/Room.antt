-- The variables and the strings of a module have room, where their words are few by its types.
use Rattle.std.proofs.Common.{◌≡◌, ℕ, ◌+◌, ◌≤◌, true, List, [], ◌∷◌, length, map, slice_get, sum_by, Option, Some, None, if◌then◌else◌, refl, sym, ap, subst, ◌∙◌, length-append, arith}
use Rattle.std.proofs.lemmas.Option.{same_Some}
use Rattle.lil_types.specs.Types.{Table}
use Rattle.std.specs.Option.{option_map}
use Rattle.lil_declared.specs.declared.declared.{Mode.Mode, RVar.RVar}
use Rattle.lil_resolved.specs.declared.resolved.RPassing.TheVariants.{ByValue}
use Rattle.lil_resolved.specs.{Kinds.{Shape, all_words}, Resolved.Procedure, Sizes.{body_strings, procedures_strings, module_strings}, Views.{held_by, statements_of}, declared.resolved.RStmt.RStmt}
use Rattle.lil_layout.specs.{Data.{variable_words, text_words, data_words}}
use Rattle.lil_shapes.specs.{ListLaws.AllFine, Measured.variable_name, Pointers.{targets, lies_at}, Signatures.signatures, Shaping.{all_some, there, passing_of, lying, variables_by, shapes}}
use Rattle.lil_right_type.specs.{Homes.{IsPlain}, Types.IsTold, Words.AreMeasured}
use Rattle.lil_right_data.specs.Shapes.{AreSized, Fits, fine_all, all_there, within_so, shapes_there, lies_shape}

-- something lies in a variable, where it leads to, or in each element of an open array
abbrev pub IsLying : Table → RVar → Type 0
IsLying t v = lies_at t v.sort ≡ true

-- one of the module, which is no parameter
abbrev pub LiesPlain : Table → RVar → Type 0
LiesPlain t v = (lies_at t v.sort ≡ true) × IsPlain v.mode

same_again : (o : Option Shape) → option_map (held_by ByValue) o ≡ o
same_again None = refl
same_again (Some s) = refl

module _ (t : Table) (told : IsTold t) (measured : AreMeasured t) where
  ss : (ss : List Shape) × (shapes t ≡ Some ss) × AreSized t ss
  ss = shapes_there t told measured

  there_so : (v : RVar) → IsLying t v → Fits (variable_words t v) (there (slice_get ss.0 v.sort))
  there_so v h = let x = lies_shape t told ss.0 ss.1 v.sort h in (x.0, ap there x.1 ∙ ap (λ c. if c then Some x.0 else None) x.2, ss.2 v.sort x.0 x.1)

  plain_one : (v : RVar) → LiesPlain t v → Fits (variable_words t v) (lying ss.0 v)
  plain_one v h = subst (Fits (variable_words t v)) (sym (ap (λ (m : Mode). option_map (held_by (passing_of m)) (there (slice_get ss.0 v.sort))) h.1 ∙ same_again (there (slice_get ss.0 v.sort)))) (there_so v h.0)

  -- what the variables of a procedure hold
  pub locals_there : (of : List Shape) → shapes t ≡ Some of → (vs : List RVar) → AllFine (IsLying t) vs → (ts : List Shape) × (all_some (map (lying of) vs) ≡ Some ts)
  locals_there of is [] lie = ([], refl)
  locals_there of is (v ∷ vs) lie =
      let x = there_so v lie.0 in
      let p = passing_of v.mode in
      let held : lying of v ≡ Some (held_by p x.0) =
      ap (λ (ss : List Shape). option_map (held_by p) (there (slice_get ss v.sort))) (same_Some of ss.0 (sym is ∙ ss.1)) ∙ ap (option_map (held_by p)) x.1 in
      let rest = locals_there of is vs lie.1 in
      (held_by p x.0 ∷ rest.0, (λ j. all_some (held j ∷ map (lying of) vs)) ∙ ap (option_map (λ ss. held_by p x.0 ∷ ss)) rest.1)

  they_lie : (vs : List RVar) → AllFine (LiesPlain t) vs → (ts : List Shape) × (all_some (map (lying ss.0) vs) ≡ Some ts) × (all_words ts ≤ sum_by (variable_words t) vs)
  they_lie vs lie = all_there (lying ss.0) (variable_words t) vs (fine_all (LiesPlain t) (λ v. Fits (variable_words t v) (lying ss.0 v)) plain_one vs lie)

  pub variables_there : (vs : List RVar) → AllFine (LiesPlain t) vs → sum_by (variable_words t) vs ≤ 32000 → (ts : List Shape) × (variables_by (shapes t) vs ≡ Some ts) × (all_words ts ≤ sum_by (variable_words t) vs)
  variables_there vs lie few =
      let ts = they_lie vs lie in
      (ts.0, ap (λ o. variables_by o vs) ss.1 ∙ within_so ts.0 (all_some (map (lying ss.0) vs)) ts.1 (omega (arith, ts.2)), ts.2)

-- the module of these variables, of procedures with these bodies, and of statements
pub room : (t : Table) (vs : List RVar) (n : List ℕ) (of ts : List Shape) (ps : List Procedure) (bodies : List (Option (List RStmt))) (ss : List RStmt) → all_words ts ≤ sum_by (variable_words t) vs → length (procedures_strings ps) ≡ sum_by text_words bodies → data_words t vs bodies (Some ss) ≤ 32000
    → all_words ts + length (module_strings (record { name = n; targets = targets t of; signatures = signatures t of; names = map variable_name vs; variables = ts; procedures = ps; body = statements_of ss })) ≤ 32000
unfolding data_words
room t vs n of ts ps bodies ss low strings few = omega (arith, few, low, strings, length-append (body_strings (statements_of ss)) (procedures_strings ps))
