-- One constant more that comes with its type.
use Rattle.std.proofs.Common.{◌≡◌, ℕ, ◌+◌, ◌<◌, List, [], ◌∷◌, ◌++◌, length, take, get_or, Option, refl, sym, ap, subst, ◌∙◌, arith}
use Rattle.std.proofs.lemmas.List.{take_more, length-take-le}
use Rattle.lil_base.specs.declared.fault.Place.{Place}
use Rattle.lil_report.specs.{declared.report.Fault.Fault, Told.{Said, tell, after}, Laws.{said_after, said_value, tell_append}}
use Rattle.lil_interfaces.specs.{declared.{modules.Imported.Imported, sources.Source.Source}, Imports.{take_node, ident, constant, constants_step, with_constants}}
use Rattle.lil_scope.specs.declared.thing.Thing.{Thing}
use Rattle.lil_scope.specs.declared.thing.Thing.TheVariants as t

module _ (q : Source) (p : Place) (n : ℕ) where
  -- names behind others go on where those end
  joined : (j k : ℕ) (xs ys : List (List ℕ)) (s : Imported) {r t u : Option Fault} {a b : Imported} → k ≡ j + length xs
      → Said (constants_step q p n j s xs) r a t → Said (constants_step q p n k a ys) t b u → Said (constants_step q p n j s (xs ++ ys)) r b u
  unfolding after tell
  joined j k [] ys s {r = r} {t = t} {u = u} {a = a} {b = b} at h g =
      let same : k ≡ j = omega (arith, at) in
      subst (λ j. Said (constants_step q p n j s ys) r b u) same (subst (λ t. Said (constants_step q p n k s ys) t b u) h.told (subst (λ a. Said (constants_step q p n k a ys) t b u) h.value g))
  joined j k (c ∷ cs) ys s {r = r} {t = t} {u = u} {a = a} {b = b} at h g =
      let m = take_node q (ident p c) s (constant n j) in
      said_after m (λ s. constants_step q p n (j + 1) s (cs ++ ys)) (record { value = refl; told = refl })
      (joined (j + 1) k cs ys m.0 {r = tell r m.1} (omega (arith, at)) (record { value = h.value; told = h.told ∙ tell_append r m.1 (constants_step q p n (j + 1) m.0 cs).1 }) g)

  one : (j : ℕ) (c : List ℕ) (s : Imported) {r t : Option Fault} {b : Imported} → Said (take_node q (ident p c) s (constant n j)) r b t → Said (constants_step q p n j s (c ∷ [])) r b t
  one j c s h = said_after (take_node q (ident p c) s (constant n j)) (λ s. (s, [])) h (said_value refl)

  pub constant_more : (s : Imported) (xs : List (List ℕ)) (i : ℕ) (c : List ℕ) {r t u : Option Fault} {a b : Imported} → i < length xs → c ≡ get_or xs i c
      → Said (constants_step q p n 0 s (take i xs)) r a t → Said (take_node q (ident p c) a (constant n i)) t b u → Said (constants_step q p n 0 s (take (i + 1) xs)) r b u
  constant_more s xs i c {r = r} {u = u} {b = b} less is h g =
      let many : i ≡ length (take i xs) = sym (length-take-le i xs (omega (arith, less))) in
      subst (λ z. Said (constants_step q p n 0 s z) r b u) (sym (take_more xs i c less ∙ ap (λ z. take i xs ++ z ∷ []) (sym is)))
      (joined 0 i (take i xs) (c ∷ []) s (omega (arith, many)) h (one i c _ g))

  -- what is no type brings no constants
  pub no_constants : (x : Thing) (s : Imported) → ((m : ℕ) → x ≡ t.Type m → ⊥) → with_constants q p x s ≡ (s, [])
  unfolding with_constants
  no_constants (t.Type m) s none = absurd (none m refl)
  no_constants (t.Constant kind) s none = refl
  no_constants (t.Named m chars) s none = refl
  no_constants t.Nil s none = refl
  no_constants (t.Variable v) s none = refl
  no_constants (t.Procedure r) s none = refl
  no_constants (t.ExternalVariable v) s none = refl
  no_constants (t.ExternalProcedure r) s none = refl
  no_constants (t.Resident r m) s none = refl
  no_constants (t.Standard x) s none = refl
  no_constants (t.Module b) s none = refl
  no_constants t.Hidden s none = refl
  no_constants t.Broken s none = refl
