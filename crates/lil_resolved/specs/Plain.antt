-- No shape of a module's table is an address: what a variable of a shape with cells holds lies in it.
use Rattle.std.proofs.Common.{◌≡◌, ℕ, zero, suc, true, List, [], ◌∷◌, ◌++◌, map, take, Option, Some, None, refl, ap}
use Rattle.std.specs.Prelude.{slice_get, option_and_then, Bool}
use Rattle.std.proofs.lemmas.Option.{none-some}
use Rattle.lil_resolved.specs.{declared.{shapes.RShape.RShape, resolved.{RDeclared.RDeclared, RPassing.RPassing}}, Kinds.{Shape, Address, Opened, Outline, Scope, is_there, shape_at, fields_of, led_to, along, procedure_by, locals_of, locals_at, parameters_of, parameters_at}, Views.{shape_with, shapes_behind, shapes_of, number_of, held_by, shape_declared}}
use Rattle.lil_resolved.specs.declared.shapes.RShape.TheVariants as r
use Rattle.lil_resolved.specs.declared.resolved.RPassing.TheVariants as p

abbrev pub IsPlain : Shape → Type 0
IsPlain t = (u : Shape) → (t ≡ Address u → ⊥) × ((copied : Bool) → t ≡ Opened copied u → ⊥)

pub fields_plain : (ts : List Shape) → IsPlain (fields_of ts)
fields_plain [] u = (λ e. absurd (cc), λ c e. absurd (cc))
fields_plain (t ∷ ts) u = (λ e. absurd (cc), λ c e. absurd (cc))

made_plain : (before : List Shape) (t : RShape) → IsPlain (shape_with before t)
made_plain before r.Absent u = (λ e. absurd (cc), λ c e. absurd (cc))
made_plain before (r.Word k) u = (λ e. absurd (cc), λ c e. absurd (cc))
made_plain before (r.Fields fs) u = fields_plain (map (shape_at before) (map number_of fs)) u
made_plain before (r.Elements e) u = (λ e. absurd (cc), λ c e. absurd (cc))

plain_more : (xs : List Shape) (t : Shape) → ((n : ℕ) → IsPlain (shape_at xs n)) → IsPlain t → (n : ℕ) → IsPlain (shape_at (xs ++ t ∷ []) n)
plain_more [] t h g zero = g
plain_more [] t h g (suc n) = h n
plain_more (x ∷ xs) t h g zero = h 0
plain_more (x ∷ xs) t h g (suc n) = plain_more xs t (λ m. h (suc m)) g n

plain_behind : (before : List Shape) (ts : List RShape) → ((n : ℕ) → IsPlain (shape_at before n)) → (n : ℕ) → IsPlain (shape_at (shapes_behind before ts) n)
plain_behind before [] h = h
plain_behind before (t ∷ ts) h = plain_behind (before ++ shape_with before t ∷ []) ts (plain_more before (shape_with before t) h (made_plain before t))

pub plain_at : (ts : List RShape) (n : ℕ) → IsPlain (shape_at (shapes_of ts) n)
plain_at ts = plain_behind [] ts (λ n u. (λ e. absurd (cc), λ c e. absurd (cc)))

-- what a variable of a shape with cells holds lies in it
pub by_value : (ts : List RShape) (v : RDeclared) → is_there (shape_declared ts v) ≡ true → shape_at (shapes_of ts) v.shape ≡ shape_declared ts v
by_value ts v h = by v.passing (shape_at (shapes_of ts) v.shape) h
  where
    by : (p : RPassing) (t : Shape) → is_there (held_by p t) ≡ true → t ≡ held_by p t
    by p.ByValue t h = refl
    by p.ByPlace t h = absurd (cc)
    by (p.Open o) t h = absurd (cc)

-- what one with an address holds leads to what its number says
pub by_place : (ts : List RShape) (v : RDeclared) (t : Shape) → shape_declared ts v ≡ Address t → shape_at (shapes_of ts) v.shape ≡ t
by_place ts v t e = by v.passing (shape_at (shapes_of ts) v.shape) (plain_at ts v.shape) e
  where
    by : (p : RPassing) (u : Shape) → IsPlain u → held_by p u ≡ Address t → u ≡ t
    by p.ByValue u plain e = absurd ((plain t).0 e)
    by p.ByPlace u plain e = ap led_to e
    by (p.Open o) u plain e = absurd (cc)

-- and the elements of an open array are what its number says
pub by_opening : (ts : List RShape) (v : RDeclared) (copied : Bool) (t : Shape) → shape_declared ts v ≡ Opened copied t → shape_at (shapes_of ts) v.shape ≡ t
by_opening ts v copied t e = by v.passing (shape_at (shapes_of ts) v.shape) (plain_at ts v.shape) e
  where
    by : (p : RPassing) (u : Shape) → IsPlain u → held_by p u ≡ Opened copied t → u ≡ t
    by p.ByValue u plain e = absurd ((plain t).1 copied e)
    by p.ByPlace u plain e = absurd (cc)
    by (p.Open o) u plain e = ap along e

-- a parameter is one of the variables, by the same number
taken : (n : ℕ) (ts : List Shape) (x : ℕ) (t : Shape) → slice_get (take n ts) x ≡ Some t → slice_get ts x ≡ Some t
taken zero ts zero t e = absurd (none-some t e)
taken zero ts (suc x) t e = absurd (none-some t e)
taken (suc n) [] x t e = e
taken (suc n) (u ∷ ts) zero t e = e
taken (suc n) (u ∷ ts) (suc x) t e = taken n ts x t e

pub parameter_variable : (ts : Scope) (n x : ℕ) (t : Shape) → slice_get (parameters_at ts n) x ≡ Some t → slice_get (locals_at ts n) x ≡ Some t
parameter_variable ts n x t = by (option_and_then (procedure_by ts.procedures) (slice_get ts.chain n))
  where
    by : (o : Option Outline) → slice_get (parameters_of o) x ≡ Some t → slice_get (locals_of o) x ≡ Some t
    by None e = e
    by (Some p) e = taken p.parameters p.locals x t e
