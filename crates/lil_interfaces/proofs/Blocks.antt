-- The block of the standard names, as it is made name by name.
use Rattle.std.proofs.Common.{◌≡◌, [], ◌∷◌, refl}
use Rattle.lil_scope.specs.Names.{is_new}
use Rattle.lil_interfaces.specs.Standard.{put, puts, standard_things, standard_names}

pub all_put : puts ([] ∷ []) standard_things ≡ standard_names ∷ []
unfolding put is_new
all_put = refl
