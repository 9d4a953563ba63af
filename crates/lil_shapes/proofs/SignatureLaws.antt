-- The list of what procedures of procedure types have, one type after another.
use Rattle.std.proofs.Common.{◌≡◌, ℕ, ◌+◌, ◌≤◌, List, [], ◌∷◌, ◌++◌, length, ap, ◌∙◌, refl, add-one, arith}
use Rattle.std.proofs.lemmas.List.{length-map}
use Rattle.lil_types.specs.Types.{Table}
use Rattle.lil_resolved.specs.declared.resolved.RSignature.{RSignature}
use Rattle.lil_shapes.specs.{declared.shapes.Shaped.Shaped, Measured.{size_of, shapes_in, IsShaped}, Signatures.{signature, signatures_below}}

pub none_below : (t : Table) → signatures_below t 0 ≡ []
unfolding signatures_below
none_below t = refl

pub one_more : (t : Table) (n : ℕ) → signatures_below t (n + 1) ≡ signatures_below t n ++ signature t n ∷ []
unfolding signatures_below
one_more t n = ap (signatures_below t) (add-one n)

pub all_below : (t : Table) (s : Shaped) (n : ℕ) (all : List RSignature) → IsShaped s → n ≤ length s.sizes → length s.sizes ≤ n → all ≡ signatures_below t n → all ≡ signatures_below t (length (shapes_in s))
all_below t s n all h few many is = let e : n ≡ length (shapes_in s) = omega (arith, few, many, ap length h.sizes, length-map (shapes_in s) size_of) in is ∙ ap (signatures_below t) e
