-- A piece that was put whole or was cut short.
use Rattle.std.proofs.Common.{◌≡◌, ◌⊎◌, inl, inr, ℕ, zero, suc, List, [], length, take, refl, Option, Result, Ok, Err, OnOk, OnErr, sym, ◌∙◌, ap, arith}
use Rattle.std.proofs.lemmas.List.{take_all}
use Rattle.lil_volume.specs.{Causes.Rose, Told.{followed_by, FollowedByPrefix}}

pub put_or_cut : {T E : Type 0} (old new : Option (List ℕ)) (piece : List ℕ) (r : Result T E) → OnOk r (new ≡ followed_by old piece) → OnErr r (FollowedByPrefix old piece new) → FollowedByPrefix old piece new
put_or_cut old new piece (Ok x) whole cut = (length piece, whole ∙ ap (followed_by old) (sym (take_all (length piece) piece (omega arith))))
put_or_cut old new piece (Err e) whole cut = cut

pub put_or_rose : {T E : Type 0} (old new : Option (List ℕ)) (piece : List ℕ) (before now : ℕ) (r : Result T E) → OnOk r (new ≡ followed_by old piece) → OnErr r (Rose before now) → (new ≡ followed_by old piece) ⊎ Rose before now
put_or_rose old new piece before now (Ok x) whole rose = inl whole
put_or_rose old new piece before now (Err e) whole rose = inr rose

take_nothing : (n : ℕ) → take {A = ℕ} n [] ≡ []
take_nothing zero = refl
take_nothing (suc n) = refl

-- nothing of a piece is a prefix of it
pub nothing_first : (old new : Option (List ℕ)) (piece : List ℕ) → FollowedByPrefix old [] new → FollowedByPrefix old piece new
nothing_first old new piece (n, is) = (0, is ∙ ap (followed_by old) (take_nothing n))
