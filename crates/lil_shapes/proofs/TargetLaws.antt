-- The list of what pointers point to, one type after another.
use Rattle.std.proofs.Common.{◌≡◌, ℕ, ◌+◌, ◌≤◌, List, [], ◌∷◌, ◌++◌, length, ap, ◌∙◌, refl, add-one, arith}
use Rattle.std.proofs.lemmas.List.{length-map}
use Rattle.lil_types.specs.Types.{Table}
use Rattle.lil_shapes.specs.{declared.shapes.Shaped.Shaped, Measured.{size_of, shapes_in, IsShaped}, Pointers.{pointed, number_or, targets_below}}

pub none_below : (t : Table) → targets_below t 0 ≡ []
unfolding targets_below
none_below t = refl

pub one_more : (t : Table) (n : ℕ) → targets_below t (n + 1) ≡ targets_below t n ++ number_or n (pointed t n) ∷ []
unfolding targets_below
one_more t n = ap (targets_below t) (add-one n)

pub all_below : (t : Table) (s : Shaped) (n : ℕ) (all : List ℕ) → IsShaped s → n ≤ length s.sizes → length s.sizes ≤ n → all ≡ targets_below t n → all ≡ targets_below t (length (shapes_in s))
all_below t s n all h few many is = let e : n ≡ length (shapes_in s) = omega (arith, few, many, ap length h.sizes, length-map (shapes_in s) size_of) in is ∙ ap (targets_below t) e
