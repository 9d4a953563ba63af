-- A name more in a set of names, as an indexmap has it and as a list's parts have them.
use Rattle.std.proofs.Common.{◌≡◌, ℕ, false, ◌||◌, List, [], ◌∷◌, ◌++◌, map, refl, ap, sym, ◌∙◌, nat_eq}
use Rattle.std.proofs.lemmas.List.{map-append}
use Rattle.indexmap.specs.IndexSet.{insert_key}
use Rattle.std.specs.{Cmp.Lexicographic.pointwise, List.{list_any}, declared.{vec.Vec.Vec, alloc.Global.Global}}
use Rattle.lil_symfile.specs.Seen.{bytes_in, names_in}
use Rattle.lil_format.specs.Names.{is_among}

pub among_map : (n : List ℕ) (ks : List (Vec ℕ Global)) → list_any (λ k. pointwise nat_eq n k.items) ks ≡ is_among (names_in ks) n
among_map n [] = refl
among_map n (k ∷ ks) = λ j. pointwise nat_eq n k.items || among_map n ks j

-- a new one goes last
pub add_map : (k : Vec ℕ Global) (ks : List (Vec ℕ Global)) → is_among (names_in ks) k.items ≡ false
    → names_in (insert_key (λ a b. pointwise nat_eq a.items b.items) ks k) ≡ names_in ks ++ k.items ∷ []
add_map k ks h = rw (among_map k.items ks ∙ h) (map-append bytes_in ks (k ∷ []))

-- the names of parts, where one more stands at the end
pub names_more : {A : Type 0} (name_of : A → List ℕ) (all : List A) (next : A) (before after : List (List ℕ))
    → after ≡ before ++ name_of next ∷ [] → before ≡ map name_of all → after ≡ map name_of (all ++ next ∷ [])
names_more name_of all next before after more so_far = more ∙ ap (λ ns. ns ++ name_of next ∷ []) so_far ∙ sym (map-append name_of all (next ∷ []))
