-- Lists of parts each of which may be missing.
use Rattle.std.specs.Prelude.{List, [], ◌∷◌, ◌++◌, Option, Some, None}

-- one more behind all others, where all are there
abbrev pub joined : {A : Type 0} → Option (List A) → Option A → Option (List A)
joined (Some xs) (Some x) = Some (xs ++ x ∷ [])
joined _ _ = None
