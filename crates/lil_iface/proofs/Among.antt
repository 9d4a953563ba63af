-- The names of a list, as an index has them.
use Rattle.std.proofs.Common.{◌≡◌, ℕ, ◌+◌, ◌<◌, Bool, true, false, ◌||◌, if◌then◌else◌, List, [], ◌∷◌, ◌++◌, length, take, get_or, map, refl, sym, ap, ◌∙◌, nat_eq}
use Rattle.std.proofs.lemmas.{List.{map-append}, List.Folds.{list_any-append, list_any_more}, Slice.Eq.bytes_eq-Decides}
use Rattle.indexmap.specs.IndexSet.{insert_key}
use Rattle.std.specs.{Cmp.Lexicographic.pointwise, List.list_any, declared.{vec.Vec.Vec, alloc.Global.Global}}
use Rattle.lil_text.specs.declared.tree.Ident.{Ident}
use Rattle.lil_scope.specs.Names.{same, is_among, and_name}

abbrev pub bytes : Vec ℕ Global → List ℕ
bytes n = n.items

pub among_map : (n : List ℕ) (ks : List (Vec ℕ Global)) → list_any (λ k. pointwise nat_eq n k.items) ks ≡ is_among (map bytes ks) n
among_map n [] = refl
among_map n (k ∷ ks) = λ j. same n k.items || among_map n ks j

pub add_map : (k : Vec ℕ Global) (ks : List (Vec ℕ Global)) → map bytes (insert_key (λ a b. pointwise nat_eq a.items b.items) ks k) ≡ and_name (map bytes ks) k.items
add_map k ks = by (list_any (λ b. pointwise nat_eq k.items b.items) ks) (among_map k.items ks)
  where
    names : List (List ℕ)
    names = map bytes ks

    by : (c : Bool) → c ≡ is_among names k.items → map bytes (if c then ks else ks ++ k ∷ []) ≡ and_name names k.items
    by true is = ap (λ c. if c then names else names ++ k.items ∷ []) is
    by false is = map-append bytes ks (k ∷ []) ∙ ap (λ c. if c then names else names ++ k.items ∷ []) is

same_is : (a b : List ℕ) → same a b ≡ true → a ≡ b
same_is a b = (bytes_eq-Decides a b).0

or_false : (b : Bool) → (b || false) ≡ b
or_false true = refl
or_false false = refl

-- a name more that is looked up
pub among_more : (ns : List (List ℕ)) (m n : List ℕ) → is_among (and_name ns m) n ≡ (is_among ns n || same n m)
among_more ns m n = by (is_among ns m) (same n m) refl refl
  where
    by : (b c : Bool) → is_among ns m ≡ b → same n m ≡ c → is_among (if b then ns else ns ++ m ∷ []) n ≡ (is_among ns n || c)
    by true true there is = let found : is_among ns n ≡ true = ap (is_among ns) (same_is n m is) ∙ there in found ∙ sym (ap (λ b. b || true) found)
    by true false there is = sym (or_false (is_among ns n))
    by false c there is = list_any-append (same n) ns (m ∷ []) ∙ ap (λ b. is_among ns n || b) (or_false (same n m) ∙ is)

pub listed_more : (all more : List (List ℕ)) (of : List Ident) (i : ℕ) (x : Ident) → i < length of → x ≡ get_or of i x → more ≡ and_name all x.name
    → ((n : List ℕ) → is_among all n ≡ list_any (λ i. same n i.name) (take i of)) → (n : List ℕ) → is_among more n ≡ list_any (λ i. same n i.name) (take (i + 1) of)
listed_more all more of i x lt at is before n =
    ap (λ ns. is_among ns n) is ∙ among_more all x.name n
    ∙ (λ j. before n j || same n (at j).name)
    ∙ sym (list_any_more (λ i. same n i.name) of i x lt)
