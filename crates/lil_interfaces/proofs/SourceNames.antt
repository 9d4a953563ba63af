-- Imported names, as an indexmap has them.
use Rattle.std.proofs.Common.{◌≡◌, ℕ, Bool, true, false, cond, List, [], ◌∷◌, ◌++◌, map, Option, Some, None, refl, ap, nat_eq}
use Rattle.std.specs.{Cmp.Lexicographic.pointwise, Map.lookup, declared.{vec.Vec.Vec, alloc.Global.Global}}
use Rattle.indexmap.specs.IndexMap.{insert_entry}
use Rattle.lil_scope.specs.Names.{same}
use Rattle.lil_interfaces.specs.{declared.sources.Source.Source, Sources.{source_of, and_source}}

pub look_map : (n : List ℕ) (es : List (Vec ℕ Global × Source)) → lookup (λ k. pointwise nat_eq n k.items) es ≡ source_of (map (λ p. (p.0.items, p.1)) es) n
look_map n [] = refl
look_map n (e ∷ es) = λ j. cond (same n e.0.items) (Some e.1) (look_map n es j)

abbrev pub see : Vec ℕ Global × Source → List ℕ × Source
see p = (p.0.items, p.1)

-- a new name goes last
pub insert_map : (k : Vec ℕ Global) (q : Source) (es : List (Vec ℕ Global × Source)) → source_of (map see es) k.items ≡ None
    → map see (insert_entry (λ a b. pointwise nat_eq a.items b.items) es k q) ≡ map see es ++ (k.items, q) ∷ []
insert_map k q [] h = refl
insert_map k q (e ∷ es) h = by (same k.items e.0.items) h (λ g. insert_map k q es g)
  where
    by : (b : Bool) → cond b (Some e.1) (source_of (map see es) k.items) ≡ None
        → (source_of (map see es) k.items ≡ None → map see (insert_entry (λ a b. pointwise nat_eq a.items b.items) es k q) ≡ map see es ++ (k.items, q) ∷ [])
        → map see (cond b ((e.0, q) ∷ es) (e ∷ insert_entry (λ a b. pointwise nat_eq a.items b.items) es k q)) ≡ see e ∷ (map see es ++ (k.items, q) ∷ [])
    by true h rest = absurd (cc)
    by false h rest = ap (λ z. see e ∷ z) (rest h)

-- names that stand there stay, and a new one is there
pub source_before : (xs : List (List ℕ × Source)) (n : List ℕ) (q r : Source) → source_of xs n ≡ Some r → xs ≡ and_source xs n q
source_before xs n q r h = rw h refl

pub source_new : (xs : List (List ℕ × Source)) (n : List ℕ) (q : Source) → source_of xs n ≡ None → xs ++ (n, q) ∷ [] ≡ and_source xs n q
source_new xs n q h = rw h refl
