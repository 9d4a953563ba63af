-- The kinds of types, where one more stands at the end.
use Rattle.std.proofs.Common.{◌≡◌, List, [], ◌∷◌, ◌++◌, refl}
use Rattle.lil_symfile.specs.declared.{kinds.Kind.{Kind}, tree.SymType.{SymType}}
use Rattle.lil_symfile.specs.Kinds.{kind_of, kinds_from, kinds}

from_more : (ks : List Kind) (ts : List SymType) (t : SymType) → kinds_from ks (ts ++ t ∷ []) ≡ kinds_from ks ts ++ kind_of (kinds_from ks ts) t.form ∷ []
from_more ks [] t = refl
from_more ks (s ∷ ts) t = from_more (ks ++ kind_of ks s.form ∷ []) ts t

pub kinds_more : (ts : List SymType) (t : SymType) → kinds (ts ++ t ∷ []) ≡ kinds ts ++ kind_of (kinds ts) t.form ∷ []
kinds_more ts t = from_more [] ts t
