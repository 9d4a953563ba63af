-- What procedure types say of their parameters and results, by the shapes of all types.
use Rattle.std.proofs.Common.{◌≡◌, ℕ, ◌+◌, ◌<◌, ◌⊎◌, inl, inr, Bool, true, false, List, [], ◌∷◌, length, map, slice_get, Option, None, Some, if◌then◌else◌, refl, sym, ap, ◌∙◌, arith}
use Rattle.std.specs.Prelude.{◌==◌}
use Rattle.std.specs.Option.{option_map}
use Rattle.std.proofs.lemmas.Option.{none-some, same_Some, slice_get-map}
use Rattle.lil_types.specs.{Types.{Table, integer, cardinal, boolean, char, bit_set, proc, address, entry}, declared.table.{Parameter.Parameter, TypeForm.{TypeForm, TheVariants.{Enumeration, Subrange, Array, Record, SetOf, Pointer, Procedure, Opaque}}, TypeEntry.TypeEntry}}
use Rattle.lil_resolved.specs.{Kinds.{Shape, shape_by}, Views.held_by, declared.resolved.RBase.RBase}
use Rattle.lil_resolved.specs.declared.resolved.RBase.TheVariants as b
use Rattle.lil_shapes.specs.{BaseLaws.{if_some, same_sort}, Bases.{standard, base_form, base_by, base_at}, ListLaws.AllFine, Shaping.{all_some, there, passing_of}, ShapeSound.{AllShaped, mapped, first_some, at_below, there_is}, TargetSound.{entered, lies_shaped}}
use Rattle.lil_shapes.specs.Signatures.{passing_by, parameter_shape, ParameterLies, passed, signature, signatures_below, passed_shape, signature_with, signatures}

-- ---- types whose values are procedures
-- PROC, or a procedure type of the table
abbrev pub IsProcedures : Table → ℕ → Type 0
IsProcedures t n = ((n ≡ proc) × (entry t n ≡ None)) ⊎ ((e : TypeEntry) × (ps : List Parameter) × (r : Option ℕ) × (entry t n ≡ Some e) × (e.form ≡ Procedure ps r))

behind : (c : Bool) (k : RBase) (o : Option RBase) (m : ℕ) → (k ≡ b.Procedure m → ⊥) → (if c then Some k else o) ≡ Some (b.Procedure m) → o ≡ Some (b.Procedure m)
behind true k o m other h = absurd (other (same_Some k (b.Procedure m) h))
behind false k o m other h = h

standard_procedure : (n m : ℕ) → standard n ≡ Some (b.Procedure m) → (m ≡ n) × (n ≡ proc)
standard_procedure n m h =
    let last = if_some (n == proc) (Some (b.Procedure n)) (b.Procedure m)
    (behind (n == address) b.Address _ m (λ e. cc)
    (behind (n == bit_set) b.Set _ m (λ e. cc)
    (behind (n == char) b.Character _ m (λ e. cc) (behind (n == boolean) b.Truth _ m (λ e. cc) (behind (n == cardinal) b.Cardinal _ m (λ e. cc) (behind (n == integer) b.Integer _ m (λ e. cc) h)))))) in
    let same : b.Procedure n ≡ b.Procedure m = same_Some (b.Procedure n) (b.Procedure m) last.1 in
    (cc, same_sort n proc last.0)

pub procedures_are : (t : Table) (n m : ℕ) → base_at t n ≡ Some (b.Procedure m) → (m ≡ n) × IsProcedures t n
procedures_are t n m h = by (entry t n) refl h
  where
    Are : Type 0
    Are = (m ≡ n) × IsProcedures t n

    in_form : (e : TypeEntry) (form : TypeForm) → entry t n ≡ Some e → e.form ≡ form → base_form n form ≡ Some (b.Procedure m) → Are
    in_form e (Enumeration xs) is same at = let k = if_some _ (Some (b.Enumeration (length xs))) (b.Procedure m) at in absurd (let clash : b.Enumeration (length xs) ≡ b.Procedure m = same_Some _ (b.Procedure m) k.1 in cc)
    in_form e (Subrange k s) is same at = absurd (none-some _ at)
    in_form e (Array i k) is same at = absurd (none-some _ at)
    in_form e (Record xs) is same at = absurd (none-some _ at)
    in_form e (SetOf k) is same at = absurd (let clash : b.Set ≡ b.Procedure m = same_Some b.Set (b.Procedure m) at in cc)
    in_form e (Pointer k) is same at = absurd (let clash : b.Pointer n ≡ b.Procedure m = same_Some (b.Pointer n) (b.Procedure m) at in cc)
    in_form e (Procedure ps r) is same at = let one : b.Procedure n ≡ b.Procedure m = same_Some (b.Procedure n) (b.Procedure m) at in (cc, inr (e, ps, r, is, same))
    in_form e (Opaque o) is same at = absurd (none-some _ at)

    by : (o : Option TypeEntry) → entry t n ≡ o → base_by n o ≡ Some (b.Procedure m) → Are
    by None is at = let s = standard_procedure n m at in (s.0, inl (s.1, is))
    by (Some e) is at = in_form e e.form is refl at

pub procedures_within : (t : Table) (n : ℕ) → IsProcedures t n → n < 16 + length t
procedures_within t n (inl h) = omega (arith, h.0)
procedures_within t n (inr h) = entered t n h.0 h.3

-- ---- the list of all
signature_below : (t : Table) (k n : ℕ) → n < k → slice_get (signatures_below t k) n ≡ Some (signature t n)
unfolding signatures_below
signature_below t k n h = at_below (signature t) (signatures_below t) refl (λ i. refl) k n h

-- ---- parameters have the shapes of what is held for them
passed_held : (ts : List Shape) (p : Parameter) (x : Shape) → parameter_shape ts p ≡ Some x → passed_shape ts (passed p) ≡ x
passed_held ts p x h =
    let held = mapped (held_by (passing_of (passing_by p))) (there (slice_get ts p.sort)) x h in
    let here = there_is (slice_get ts p.sort) held.0 held.1 in
    ap (λ (o : Option Shape). held_by (passing_of (passing_by p)) (shape_by o)) here.0 ∙ held.2

pub all_passed : (ts : List Shape) (ps : List Parameter) (xs : List Shape) → all_some (map (parameter_shape ts) ps) ≡ Some xs → map (passed_shape ts) (map passed ps) ≡ xs
all_passed ts [] xs h = same_Some [] xs h
all_passed ts (p ∷ ps) xs h =
    let first = first_some (parameter_shape ts p) (map (parameter_shape ts) ps) xs h in
    (λ i. passed_held ts p first.value first.is i ∷ all_passed ts ps first.rest first.others i) ∙ sym first.all

module _ (t : Table) (ts : List Shape) (all : AllShaped t (16 + length t) ts) where
  pub signature_at : (n : ℕ) → n < 16 + length t → slice_get (signatures t ts) n ≡ Some (signature_with ts (signature t n))
  signature_at n low = slice_get-map (signature_with ts) (signatures_below t (length ts)) n ∙ ap (option_map (signature_with ts)) (signature_below t (length ts) n (omega (arith, all.0, low)))

  -- each is there, where something lies in all of them
  parameter_there : (p : Parameter) → ParameterLies t p → (x : Shape) × (parameter_shape ts p ≡ Some x)
  parameter_there p lies =
      let x = lies_shaped t ts all p.sort lies in
      let held = λ (s : Shape). held_by (passing_of (passing_by p)) s in
      (held x.0, ap (λ o. option_map held (there o)) x.1 ∙ ap (λ (c : Bool). option_map held (if c then Some x.0 else None)) x.2)

  pub parameters_there : (ps : List Parameter) → AllFine (ParameterLies t) ps → (xs : List Shape) × (all_some (map (parameter_shape ts) ps) ≡ Some xs)
  parameters_there [] lie = ([], refl)
  parameters_there (p ∷ ps) lie =
      let x = parameter_there p lie.0 in
      let rest = parameters_there ps lie.1 in
      (x.0 ∷ rest.0, ap (λ o. all_some (o ∷ map (parameter_shape ts) ps)) x.1 ∙ ap (option_map (λ ys. x.0 ∷ ys)) rest.1)
