-- What a file that has a spelling says of its parts.
use Rattle.std.proofs.Common.{ℕ, ◌<◌, List, [], ◌∷◌, ◌++◌, length}
use Rattle.std.proofs.lemmas.Bool.{and_parts}
use Rattle.std.specs.List.{AllByRecursion}
use Rattle.lil_base.specs.Names.{is_name}
use Rattle.lil_format.specs.declared.name.Wanted.{Wanted}
use Rattle.lil_format.specs.Format.{each_fits, Fits}
use Rattle.lil_format.specs.Names.{name_but, wanted, wanted_fits}
use Rattle.lil_symfile.specs.declared.tree.SymbolFile.{SymbolFile}
use Rattle.lil_symfile.specs.Symbol.{rest, rest_names, rests, symbol_file}

-- what holds of each part by those before it, where that says enough of the part alone
pub each_all : {A : Type 0} (F : List A → A → Type 0) (P : A → Type 0) → ((done : List A) (a : A) → F done a → P a)
    → (done xs : List A) → each_fits F done xs → AllByRecursion P xs
each_all F P e done [] h = tt
each_all F P e done (x ∷ xs) h = (e done x h.0, each_all F P e (done ++ x ∷ []) xs h.1)

rest_fits : (ns : List (List ℕ)) (w : Wanted) → Fits (rest ns) w → Fits wanted w
unfolding rest name_but Fits
rest_fits ns w h = wanted_fits w (and_parts (is_name w.name) _ h.1.0.2).0 h.1.1.1

-- its rests are wanteds, few enough for an entry of the book
pub rests_fit : (f : SymbolFile) → Fits symbol_file f → (length f.rests < 256) × AllByRecursion (Fits wanted) f.rests
unfolding symbol_file rests Fits
rests_fit f h = let parts = h.1.1.1.0 in (parts.1, each_all (λ done. Fits (rest (rest_names done))) (Fits wanted) (λ done. rest_fits (rest_names done)) [] f.rests parts.2)
