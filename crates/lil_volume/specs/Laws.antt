-- What a sink holds after several pieces.
use Rattle.std.proofs.Common.{◌≡◌, ℕ, List, [], ◌++◌, Option, None, Some, refl, ap, append_assoc}
use Rattle.std.proofs.lemmas.List.{append-nil}
use Rattle.lil_volume.specs.Told.{followed_by}

-- two pieces are one
pub followed_twice : (old : Option (List ℕ)) (a b : List ℕ) → followed_by (followed_by old a) b ≡ followed_by old (a ++ b)
followed_twice None a b = refl
followed_twice (Some bytes) a b = ap (λ (held : List ℕ). Some held) (append_assoc bytes a b)

-- an empty piece adds nothing
pub followed_nothing : (old : Option (List ℕ)) → followed_by old [] ≡ old
followed_nothing None = refl
followed_nothing (Some bytes) = ap (λ (held : List ℕ). Some held) (append-nil bytes)
