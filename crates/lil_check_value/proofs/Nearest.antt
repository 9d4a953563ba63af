-- A WITH that has another of the same type inside of it adds nothing to what a name means.
use Rattle.std.proofs.Common.{◌≡◌, ℕ, ◌+◌, Bool, true, false, ◌||◌, List, [], ◌∷◌, Option, Some, None, refl, sym, ap, nat_eq, ◌∙◌}
use Rattle.std.specs.List.{list_any}
use Rattle.std.proofs.lemmas.Bool.Decides.{Decides-eqb}
use Rattle.lil_types.specs.{Types.Table, declared.fields.FieldAt.FieldAt}
use Rattle.lil_kinds.specs.Forms.{field}
use Rattle.lil_check_value.specs.{declared.names.Looked.Looked, Looks.{nearer, in_withs}}

later_one : (a b : Bool) → a ≡ false → (a || b) ≡ true → b ≡ true
later_one true b e h = absurd (cc)
later_one false b e h = h

-- a field of a type among them hides what is outside
hides : (t : Table) (n : List ℕ) (w k : ℕ) (f : FieldAt) (o p : Looked) (ws : List ℕ) → field t w n ≡ Some f → list_any (λ v. nat_eq v w) ws ≡ true → in_withs t n o k ws ≡ in_withs t n p k ws
hides t n w k f o p [] is h = absurd (cc)
hides t n w k f o p (v ∷ vs) is h =
    by (nat_eq v w) refl (λ e. hides t n w (k + 1) f (nearer (field t v n) k o) (nearer (field t v n) k p) vs is (later_one (nat_eq v w) (list_any (λ v. nat_eq v w) vs) e h))
  where
    by : (b : Bool) → nat_eq v w ≡ b → (nat_eq v w ≡ false → in_withs t n o k (v ∷ vs) ≡ in_withs t n p k (v ∷ vs)) → in_withs t n o k (v ∷ vs) ≡ in_withs t n p k (v ∷ vs)
    by true e rest =
        let has : field t v n ≡ Some f = ap (λ z. field t z n) ((Decides-eqb v w).0 e) ∙ is in
        ap (λ x. in_withs t n (nearer x k o) (k + 1) vs) has ∙ sym (ap (λ x. in_withs t n (nearer x k p) (k + 1) vs) has)
    by false e rest = rest e

pub adds_nothing : (t : Table) (n : List ℕ) (w j k : ℕ) (o : Looked) (ws : List ℕ) → list_any (λ v. nat_eq v w) ws ≡ true → in_withs t n o k ws ≡ in_withs t n (nearer (field t w n) j o) k ws
adds_nothing t n w j k o ws h = by (field t w n) refl
  where
    by : (x : Option FieldAt) → field t w n ≡ x → in_withs t n o k ws ≡ in_withs t n (nearer x j o) k ws
    by None is = refl
    by (Some f) is = hides t n w k f o (nearer (Some f) j o) ws is h
